-- Which text spells which policy: what each line says, by cases (docs/POLICY.md).
--
-- line = ( "group " | "user " ) name [ " in " name ] the subject that is the last from here on
--        | ( "login " | "enable " ) secret                  a setting of the last subject, a user
--        | ( "login-hash " | "enable-hash " ) hash          the same, in version 3
--        | "priv " level                                    a setting of the last subject
--        | "service " service [ " " attribute ]             what it may use, in version 3
--        | "refuse " service                                what it may not use, in version 3
--        | ( "permit " | "deny " ) pattern                  its next rule
--        | "" | "#" text                                    nothing
--
-- The spaces that a line begins with say nothing. In a text of version 2 or 3 a line "policy 2" or
-- "policy 3" comes before these, and its patterns are those of version 2.
use Rattle.std.specs.Prelude.{◌≡◌, ◌<◌, ℕ, List, [], ◌∷◌, ◌++◌, length, codes, false, IsTrue}
use Rattle.std.specs.Prelude.{Option, Some, None, Ok, if◌then◌else◌}
use Rattle.std.specs.List.{list_all}
use Rattle.basics.specs.Symbol.{is_text}
use Rattle.basics.specs.Lines.{without_leading_spaces, lines_of}
use Rattle.pol_names.specs.Name.{is_name}
use Rattle.pol_names.specs.Decision.{verdict_word}
use Rattle.pol_names.specs.Service.{is_right_line, line_text, any_clash}
use Rattle.pol_names.specs.declared.service.ServiceLine.{ServiceLine}
use Rattle.pol_names.specs.Secret.{is_secret}
use Rattle.sha_crypt.specs.HashText.{HashParts, is_hash, hash_text}
use Rattle.pol_names.specs.declared.secret.Secret.TheVariants.{Clear, Hashed}
use Rattle.pol_names.specs.declared.secret.Credential.TheVariants.{Login, Enable}
use Rattle.pol_names.specs.declared.subject_id.Kind.{Kind}
use Rattle.pol_names.specs.declared.subject_id.Kind.TheVariants.{User}
use Rattle.pol_names.specs.declared.decision.Verdict.{Verdict}
use Rattle.pol_text.specs.declared.version.TextVersion.{TextVersion as Version}
use Rattle.pol_text.specs.declared.subject.Subject.{Subject}
use Rattle.pol_text.specs.Policy.{find_subject, has_parent, ends_within, all_of, max_subjects}
use Rattle.pol_text.specs.Policy.{max_rules, max_services, max_chain}
use Rattle.pol_text.specs.Change.{with_secret, with_priv, with_line_last}
use Rattle.pol_text.specs.Text.{new_subject, heading_line, level_of, is_blank, pattern_in, Body}
use Rattle.pol_text.specs.Text.{body_of}
use Rattle.pol_text.specs.Versions.{has_hashes, has_services}

-- the line makes of the last subject this one: each setting once, no lines about services that
-- clash, and not too many of these or of rules
pub data Sets (version : Version) (old : Subject) (line : List ℕ) (new : Subject) : Type 0 where
  login : (text : List ℕ) → IsTrue (is_secret text) → line ≡ codes "login " ++ text
      → old.kind ≡ User → old.login ≡ None → new ≡ with_secret Login (Some (Clear text)) old
      → Sets version old line new
  enable : (text : List ℕ) → IsTrue (is_secret text) → line ≡ codes "enable " ++ text
      → old.kind ≡ User → old.enable ≡ None → new ≡ with_secret Enable (Some (Clear text)) old
      → Sets version old line new
  login_hash : (hash : HashParts) → IsTrue (has_hashes version) → IsTrue (is_hash hash)
      → line ≡ codes "login-hash " ++ hash_text hash → old.kind ≡ User → old.login ≡ None
      → new ≡ with_secret Login (Some (Hashed hash)) old → Sets version old line new
  enable_hash : (hash : HashParts) → IsTrue (has_hashes version) → IsTrue (is_hash hash)
      → line ≡ codes "enable-hash " ++ hash_text hash → old.kind ≡ User → old.enable ≡ None
      → new ≡ with_secret Enable (Some (Hashed hash)) old → Sets version old line new
  level : (digits : List ℕ) (n : ℕ) → level_of digits ≡ Some n → line ≡ codes "priv " ++ digits
      → old.priv_lvl ≡ None → new ≡ with_priv (Some n) old → Sets version old line new
  about : (said : ServiceLine) → IsTrue (has_services version) → IsTrue (is_right_line said)
      → line ≡ line_text said → any_clash old.services said ≡ false
      → length old.services < max_services → new ≡ with_line_last said old
      → Sets version old line new
  rule : (verdict : Verdict) (text pattern : List ℕ) → pattern_in version text ≡ Ok pattern
      → line ≡ verdict_word verdict ++ text → length old.rules < max_rules
      → new ≡ record old {
        rules = old.rules
            ++ record { verdict = verdict; pattern = pattern } ∷ [];
      }
      → Sets version old line new

-- the line makes of the subjects before it those after it: it begins one that isn't there,
-- where there is room, or it sets something of the last
pub data Adds (version : Version) (before : List Subject) (line : List ℕ) (after : List Subject)
    : Type 0 where
  begins : (kind : Kind) (name : List ℕ) (parent : Option (List ℕ)) → IsTrue (is_name name)
      → IsTrue (all_of is_name parent)
      → line ≡ heading_line (new_subject kind name parent)
      → find_subject (record { kind = kind; name = name }) before ≡ None
      → length before < max_subjects
      → after ≡ before ++ new_subject kind name parent ∷ [] → Adds version before line after
  sets : (front : List Subject) (old new : Subject) → Sets version old line new
      → before ≡ front ++ old ∷ [] → after ≡ front ++ new ∷ [] → Adds version before line after

-- the lines one after another
abbrev pub Extends : Version → List Subject → List (List ℕ) → List Subject → Type 0
Extends version before [] after = before ≡ after
Extends version before (line ∷ lines) after =
    (next : List Subject) × Adds version before line next × Extends version next lines after

-- the lines that say something
abbrev pub meaningful : List (List ℕ) → List (List ℕ)
meaningful [] = []
meaningful (line ∷ lines) =
    if is_blank (without_leading_spaces line) then meaningful lines
    else without_leading_spaces line ∷ meaningful lines

-- the lines are texts, those that say something make the policy, each parent is one of
-- its groups, and no chain is too long
pub record SpellsIn (body : Body) (policy : List Subject) : Type 0 where
  pub texts : IsTrue (list_all is_text body.lines)
  pub lines : Extends body.version [] (meaningful body.lines) policy
  pub parents : IsTrue (list_all (has_parent policy) policy)
  pub short : IsTrue (list_all (ends_within max_chain policy) policy)

-- a text spells a policy in the version that its first line says
abbrev pub Spells : List ℕ → List Subject → Type 0
Spells text policy = SpellsIn (body_of (lines_of text)) policy
