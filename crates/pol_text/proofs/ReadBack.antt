-- What is spelled so is read.
use Rattle.std.proofs.Common.{◌≡◌, ℕ, ◌+◌, ◌-◌, ◌*◌, ◌<◌, Bool, true, false, cond, eqb, ◌&&◌, List, [], ◌∷◌, ◌++◌, length, codes, nat_le, nat_lt, Option, None, Some, Result, Ok, is_some, refl, sym, ap, subst, ◌∙◌, arith, append_assoc}
use Rattle.std.specs.Option.{option_and_then}
use Rattle.std.specs.List.{list_all}
use Rattle.std.proofs.lemmas.Bool.Decides.{nat_tests}
use Rattle.std.proofs.lemmas.List.{length-map}
use Rattle.basics.specs.Symbol.{is_text}
use Rattle.basics.specs.Lines.{split_at_first, lines_of, without_leading_spaces}
use Rattle.basics.specs.Number.{digits_after}
use Rattle.pol_names.specs.Name.{is_name}
use Rattle.pol_names.specs.Secret.{is_secret}
use Rattle.sha_crypt.specs.HashText.{HashParts, is_hash, hash_text}
use Rattle.sha_crypt.proofs.TextFacts.{again}
use Rattle.pol_names.specs.declared.secret.Secret.TheVariants.{Clear, Hashed}
use Rattle.pol_names.specs.SubjectId.{kind_word}
use Rattle.pol_names.specs.Decision.{verdict_word}
use Rattle.pol_names.specs.Service.{is_service, is_right_line, may_say, says_word, attribute_in, attributed_text, line_text}
use Rattle.pol_names.specs.declared.service.ServiceId.{ServiceId}
use Rattle.pol_names.specs.declared.service.Says.{Says}
use Rattle.pol_names.specs.declared.service.Says.TheVariants.{Allows, Refuses}
use Rattle.pol_names.specs.declared.service.ServiceLine.{ServiceLine}
use Rattle.pol_names.specs.declared.subject_id.Kind.{Kind}
use Rattle.pol_names.specs.declared.subject_id.Kind.TheVariants.{Group, User}
use Rattle.pol_names.specs.declared.decision.Verdict.{Verdict}
use Rattle.pol_names.specs.declared.decision.Verdict.TheVariants.{Permit, Deny}
use Rattle.pol_text.specs.declared.version.TextVersion.{TextVersion as Version}
use Rattle.pol_text.specs.declared.subject.Subject.{Subject}
use Rattle.pol_text.specs.declared.fault.PolicyRefusal.{PolicyRefusal}
use Rattle.pol_text.specs.Policy.{find_subject, all_of, max_subjects}
use Rattle.pol_text.specs.Text.{◌>>=◌, Draft, subjects_of, is_field, heading, new_subject, with_subject, after_first, split_last, with_present, with_login, with_enable, with_login_hash, with_enable_hash, level_of, with_priv, with_service, allowed_by, refused_by, with_rule, with_words, is_blank, with_trimmed, with_line, with_lines, policy_of, body_of}
use Rattle.pol_text.specs.Versions.{has_hashes, has_services}
use Rattle.pol_text.specs.Spelling.{Sets, login, enable, login_hash, enable_hash, level, about, rule, Adds, begins, sets, Extends, meaningful, Spells}
use Rattle.pol_text.proofs.SettingFacts.{and_left, and_right, service_taken, rule_read}
use Rattle.pol_text.proofs.DraftFacts.{split_last-push, present_is}
use Rattle.pol_text.proofs.RightFacts.{split_back, subjects-push}
use Rattle.pol_text.proofs.SaidFacts.{allowed_again, refused_again}
use Rattle.pol_text.proofs.RoundFacts.{after_name, heading_is, subject_new, chains_read}

-- ---- the line that begins a subject

group_begins : (version : Version) (number : ℕ) (rest : List ℕ) (draft : Draft)
    → with_trimmed version number (codes "group " ++ rest) draft ≡ (heading rest (split_at_first 32 rest) >>= λ ids. with_subject number Group ids.0 ids.1 draft)
unfolding with_trimmed with_words
group_begins version number rest draft = refl

user_begins : (version : Version) (number : ℕ) (rest : List ℕ) (draft : Draft)
    → with_trimmed version number (codes "user " ++ rest) draft ≡ (heading rest (split_at_first 32 rest) >>= λ ids. with_subject number User ids.0 ids.1 draft)
unfolding with_trimmed with_words
user_begins version number rest draft = refl

begun : (version : Version) (number : ℕ) (kind : Kind) (name : List ℕ) (parent : Option (List ℕ)) (draft : Draft) → is_name name ≡ true → all_of is_name parent ≡ true
    → is_some (find_subject (record { kind = kind; name = name }) (subjects_of draft)) ≡ false → length draft < max_subjects
    → with_trimmed version number (kind_word kind ++ (name ++ after_name parent)) draft ≡ Ok (draft ++ (number, new_subject kind name parent) ∷ [])
begun version number Group name parent draft h k none room =
    group_begins version number (name ++ after_name parent) draft ∙ rw (heading_is name parent h k) (subject_new number Group name parent draft none room)
begun version number User name parent draft h k none room =
    user_begins version number (name ++ after_name parent) draft ∙ rw (heading_is name parent h k) (subject_new number User name parent draft none room)

-- ---- settings

login_line : (version : Version) (number : ℕ) (text : List ℕ) (draft : Draft) → with_trimmed version number (codes "login " ++ text) draft ≡ with_present (with_login text) draft
unfolding with_trimmed with_words
login_line version number text draft = refl

enable_line : (version : Version) (number : ℕ) (text : List ℕ) (draft : Draft) → with_trimmed version number (codes "enable " ++ text) draft ≡ with_present (with_enable text) draft
unfolding with_trimmed with_words
enable_line version number text draft = refl

login_hash_line : (version : Version) (number : ℕ) (text : List ℕ) (draft : Draft) → has_hashes version ≡ true → with_trimmed version number (codes "login-hash " ++ text) draft ≡ with_present (with_login_hash text) draft
unfolding with_trimmed with_words
login_hash_line version number text draft third = rw third refl

enable_hash_line : (version : Version) (number : ℕ) (text : List ℕ) (draft : Draft) → has_hashes version ≡ true → with_trimmed version number (codes "enable-hash " ++ text) draft ≡ with_present (with_enable_hash text) draft
unfolding with_trimmed with_words
enable_hash_line version number text draft third = rw third refl

service_line : (version : Version) (number : ℕ) (text : List ℕ) (draft : Draft) → has_services version ≡ true → with_trimmed version number (codes "service " ++ text) draft ≡ (allowed_by text >>= λ line. with_present (with_service line) draft)
unfolding with_trimmed with_words
service_line version number text draft third = rw third refl

refuse_line : (version : Version) (number : ℕ) (text : List ℕ) (draft : Draft) → has_services version ≡ true → with_trimmed version number (codes "refuse " ++ text) draft ≡ (refused_by text >>= λ line. with_present (with_service line) draft)
unfolding with_trimmed with_words
refuse_line version number text draft third = rw third refl

said_parts : (version : Version) (number : ℕ) (service : ServiceId) (says : Says) (draft : Draft) → has_services version ≡ true → is_service service ≡ true
    → with_trimmed version number (says_word says ++ attributed_text service (attribute_in says)) draft ≡ with_present (with_service (record { service = service; says = says })) draft
said_parts version number service (Allows attribute) draft third right =
    service_line version number (attributed_text service attribute) draft third ∙ ap (λ (r : Result ServiceLine PolicyRefusal). r >>= λ line. with_present (with_service line) draft) (allowed_again service attribute right)
said_parts version number service Refuses draft third right =
    refuse_line version number (attributed_text service None) draft third ∙ ap (λ (r : Result ServiceLine PolicyRefusal). r >>= λ line. with_present (with_service line) draft) (refused_again service right)

said_line : (version : Version) (number : ℕ) (said : ServiceLine) (draft : Draft) → has_services version ≡ true → is_right_line said ≡ true → with_trimmed version number (line_text said) draft ≡ with_present (with_service said) draft
said_line version number said draft third right =
    said_parts version number said.service said.says draft third (and_left (is_service said.service) (may_say said.service said.says) right)

level_line : (version : Version) (number : ℕ) (text : List ℕ) (draft : Draft) → is_field text ≡ true → with_trimmed version number (codes "priv " ++ text) draft ≡ with_present (with_priv text) draft
unfolding with_trimmed with_words
level_line version number text draft h = rw h refl

rule_line : (version : Version) (number : ℕ) (verdict : Verdict) (text : List ℕ) (draft : Draft) → with_trimmed version number (verdict_word verdict ++ text) draft ≡ with_present (with_rule version verdict text) draft
unfolding with_trimmed with_words
rule_line version number Permit text draft = refl
rule_line version number Deny text draft = refl

-- a number has no space
digits_field : (value n : ℕ) (text : List ℕ) → digits_after value text ≡ Some n → split_at_first 32 text ≡ None
digits_field value n [] h = refl
digits_field value n (byte ∷ text) h = by (nat_le 48 byte && nat_le byte 57) refl (digits_field (value * 10 + (byte - 48)) n text) h
  where
    by : (b : Bool) → (nat_le 48 byte && nat_le byte 57) ≡ b → (digits_after (value * 10 + (byte - 48)) text ≡ Some n → split_at_first 32 text ≡ None)
        → cond b (digits_after (value * 10 + (byte - 48)) text) None ≡ Some n → split_at_first 32 (byte ∷ text) ≡ None
    by true e later k =
        let other : eqb byte 32 ≡ false = grind (arith, nat_tests) in
        rw (other, later k) refl
    by false e later k = absurd cc

level_field : (text : List ℕ) (n : ℕ) → level_of text ≡ Some n → is_field text ≡ true
level_field text n h = by (nat_lt 0 (length text) && nat_le (length text) 4) (digits_after 0 text) refl h
  where
    by : (b : Bool) (o : Option ℕ) → digits_after 0 text ≡ o → option_and_then (λ level. cond (nat_le level 15) (Some level) None) (cond b o None) ≡ Some n → is_field text ≡ true
    by false o e k = absurd cc
    by true None e k = absurd cc
    by true (Some m) e k = rw (digits_field 0 m text e) refl

module _ (version : Version) (number at : ℕ) (front : Draft) (old new : Subject) where
  before : Draft
  before = front ++ (at, old) ∷ []

  -- a change of the last subject that goes well
  abbrev Goes : List ℕ → Type 0
  Goes line = with_trimmed version number line (front ++ (at, old) ∷ []) ≡ Ok (front ++ (at, new) ∷ [])

  changed : (change : Subject → Result Subject PolicyRefusal) → change old ≡ Ok new → with_present change (front ++ (at, old) ∷ []) ≡ Ok (front ++ (at, new) ∷ [])
  changed change h = present_is change front at old ∙ rw h refl

  logged : (text : List ℕ) → is_secret text ≡ true → old.kind ≡ User → old.login ≡ None → with_login text old ≡ Ok (record old { login = Some (Clear text) })
  logged text right user none = rw (user, none, right) refl

  enabled : (text : List ℕ) → is_secret text ≡ true → old.kind ≡ User → old.enable ≡ None → with_enable text old ≡ Ok (record old { enable = Some (Clear text) })
  enabled text right user none = rw (user, none, right) refl

  logged_hash : (hash : HashParts) → is_hash hash ≡ true → old.kind ≡ User → old.login ≡ None → with_login_hash (hash_text hash) old ≡ Ok (record old { login = Some (Hashed hash) })
  logged_hash hash right user none = rw (user, none, again hash right) refl

  enabled_hash : (hash : HashParts) → is_hash hash ≡ true → old.kind ≡ User → old.enable ≡ None → with_enable_hash (hash_text hash) old ≡ Ok (record old { enable = Some (Hashed hash) })
  enabled_hash hash right user none = rw (user, none, again hash right) refl

  levelled : (text : List ℕ) (n : ℕ) → level_of text ≡ Some n → old.priv_lvl ≡ None → with_priv text old ≡ Ok (record old { priv_lvl = Some n })
  levelled text n right none = rw (none, right) refl

  set_read : (line : List ℕ) → Sets version old line new → Goes line
  set_read line (login text right spelled user none is) =
      subst Goes (sym spelled) (login_line version number text (front ++ (at, old) ∷ []) ∙ changed (with_login text) (logged text right user none ∙ sym (ap (λ (s : Subject). Ok s) is)))
  set_read line (enable text right spelled user none is) =
      subst Goes (sym spelled) (enable_line version number text (front ++ (at, old) ∷ []) ∙ changed (with_enable text) (enabled text right user none ∙ sym (ap (λ (s : Subject). Ok s) is)))
  set_read line (login_hash hash third right spelled user none is) =
      subst Goes (sym spelled) (login_hash_line version number (hash_text hash) (front ++ (at, old) ∷ []) third ∙ changed (with_login_hash (hash_text hash)) (logged_hash hash right user none ∙ sym (ap (λ (s : Subject). Ok s) is)))
  set_read line (enable_hash hash third right spelled user none is) =
      subst Goes (sym spelled) (enable_hash_line version number (hash_text hash) (front ++ (at, old) ∷ []) third ∙ changed (with_enable_hash (hash_text hash)) (enabled_hash hash right user none ∙ sym (ap (λ (s : Subject). Ok s) is)))
  set_read line (level text n right spelled none is) =
      subst Goes (sym spelled) (level_line version number text (front ++ (at, old) ∷ []) (level_field text n right) ∙ changed (with_priv text) (levelled text n right none ∙ sym (ap (λ (s : Subject). Ok s) is)))
  set_read line (about said third right spelled apart room is) =
      let test : nat_le 64 (length old.services) ≡ false = grind (arith, nat_tests) in
      subst Goes (sym spelled) (said_line version number said (front ++ (at, old) ∷ []) third right ∙ changed (with_service said) (service_taken said old apart right test ∙ sym (ap (λ (s : Subject). Ok s) is)))
  set_read line (rule verdict text pattern right spelled room is) =
      let test : nat_le 256 (length old.rules) ≡ false = grind (arith, nat_tests) in
      let made : with_rule version verdict text old ≡ Ok (record old { rules = old.rules ++ record { verdict = verdict; pattern = pattern } ∷ [] }) =
      rule_read version verdict text pattern old right ∙ rw test refl in
      subst Goes (sym spelled) (rule_line version number verdict text (front ++ (at, old) ∷ []) ∙ changed (with_rule version verdict text) (made ∙ sym (ap (λ (s : Subject). Ok s) is)))

-- ---- the last subject of a draft

record LastIs (draft : Draft) (front : List Subject) (old : Subject) : Type 0 where
  rest : Draft
  at : ℕ
  is : draft ≡ rest ++ (at, old) ∷ []
  fronts : subjects_of rest ≡ front

some_last : {A : Type 0} (x : A) (xs : List A) → (parts : List A × A) × (split_last (x ∷ xs) ≡ Some parts)
some_last {A = A} x xs = by (split_last xs)
  where
    by : (o : Option (List A × A)) → (parts : List A × A) × (after_first x o ≡ Some parts)
    by None = (([], x), refl)
    by (Some p) = ((x ∷ p.0, p.1), refl)

pushed_same : {A : Type 0} (xs ys : List A) (x y : A) → xs ++ x ∷ [] ≡ ys ++ y ∷ [] → (xs ≡ ys) × (x ≡ y)
pushed_same {A = A} xs ys x y e = parts (xs, x) (ys, y) (sym (split_last-push xs x) ∙ ap split_last e ∙ split_last-push ys y)
  where
    parts : (p q : List A × A) → Some p ≡ Some q → (p.0 ≡ q.0) × (p.1 ≡ q.1)
    parts p q h = let same : p ≡ q = cc in (ap (λ (r : List A × A). r.0) same, ap (λ (r : List A × A). r.1) same)

none_last : (front : List Subject) (old : Subject) → [] ≡ front ++ old ∷ [] → ⊥
none_last [] old e = cc
none_last (subject ∷ front) old e = cc

last_of : (draft : Draft) (front : List Subject) (old : Subject) → subjects_of draft ≡ front ++ old ∷ [] → LastIs draft front old
last_of [] front old e = absurd (none_last front old e)
last_of (entry ∷ rest) front old e =
    let s = some_last entry rest in
    let is = split_back (entry ∷ rest) s.0 s.1 in
    let same = pushed_same (subjects_of s.0.0) front s.0.1.1 old (sym (ap subjects_of is ∙ subjects-push s.0.0 s.0.1.0 s.0.1.1) ∙ e) in
    record { rest = s.0.0; at = s.0.1.0; is = is ∙ ap (λ (t : Subject). s.0.0 ++ (s.0.1.0, t) ∷ []) same.1; fronts = same.0 }

-- ---- lines

record Reads (version : Version) (number : ℕ) (draft : Draft) (line : List ℕ) (after : List Subject) : Type 0 where
  next : Draft
  goes : with_trimmed version number line draft ≡ Ok next
  is : subjects_of next ≡ after

adds_read : (version : Version) (number : ℕ) (draft : Draft) (line : List ℕ) (after : List Subject) → Adds version (subjects_of draft) line after → Reads version number draft line after
adds_read version number draft line after (begins kind name parent right belongs spelled none room is) =
    let sizes : length (subjects_of draft) ≡ length draft = length-map draft (λ (entry : ℕ × Subject). entry.1) in
    let whole : line ≡ kind_word kind ++ (name ++ after_name parent) = spelled ∙ append_assoc (kind_word kind) name (after_name parent) in
    record {
      next = draft ++ (number, new_subject kind name parent) ∷ [];
      goes = ap (λ (l : List ℕ). with_trimmed version number l draft) whole ∙ begun version number kind name parent draft right belongs (ap is_some none) (omega arith);
      is = subjects-push draft number (new_subject kind name parent) ∙ sym is;
    }
adds_read version number draft line after (sets front old new set was is) =
    let l = last_of draft front old was in
    record {
      next = l.rest ++ (l.at, new) ∷ [];
      goes = ap (with_trimmed version number line) l.is ∙ set_read version number l.at l.rest old new line set;
      is = subjects-push l.rest l.at new ∙ ap (λ (f : List Subject). f ++ new ∷ []) l.fronts ∙ sym is;
    }

record AllRead (version : Version) (number : ℕ) (draft : Draft) (lines : List (List ℕ)) (after : List Subject) : Type 0 where
  next : Draft
  goes : with_lines version number lines draft ≡ Ok next
  is : subjects_of next ≡ after

one_line : (version : Version) (number : ℕ) (line : List ℕ) (lines : List (List ℕ)) (draft mid last : Draft) → is_text line ≡ true → with_trimmed version number (without_leading_spaces line) draft ≡ Ok mid
    → with_lines version (number + 1) lines mid ≡ Ok last → with_lines version number (line ∷ lines) draft ≡ Ok last
unfolding with_lines with_line
one_line version number line lines draft mid last text h later = rw (text, h) later

blank_read : (version : Version) (number : ℕ) (line : List ℕ) (draft : Draft) → is_blank line ≡ true → with_trimmed version number line draft ≡ Ok draft
unfolding with_trimmed
blank_read version number line draft h = rw h refl

lines_read : (version : Version) (number : ℕ) (lines : List (List ℕ)) (draft : Draft) (after : List Subject) → list_all is_text lines ≡ true → Extends version (subjects_of draft) (meaningful lines) after → AllRead version number draft lines after
unfolding with_lines
lines_read version number [] draft after texts h = record { next = draft; goes = refl; is = h }
lines_read version number (line ∷ lines) draft after texts h =
    by (is_blank (without_leading_spaces line)) refl (λ mid e. lines_read version (number + 1) lines mid after (and_right (is_text line) _ texts) e) h
  where
    more : (mid : Draft) → with_trimmed version number (without_leading_spaces line) draft ≡ Ok mid → AllRead version (number + 1) mid lines after → AllRead version number draft (line ∷ lines) after
    more mid k r = record { next = r.next; goes = one_line version number line lines draft mid r.next (and_left (is_text line) _ texts) k r.goes; is = r.is }

    by : (b : Bool) → is_blank (without_leading_spaces line) ≡ b → ((mid : Draft) → Extends version (subjects_of mid) (meaningful lines) after → AllRead version (number + 1) mid lines after)
        → Extends version (subjects_of draft) (cond b (meaningful lines) (without_leading_spaces line ∷ meaningful lines)) after → AllRead version number draft (line ∷ lines) after
    by true e later k = more draft (blank_read version number (without_leading_spaces line) draft e) (later draft k)
    by false e later (mid, adds, k) =
        let r = adds_read version number draft (without_leading_spaces line) mid adds in
        more r.next r.goes (later r.next (subst (λ (s : List Subject). Extends version s (meaningful lines) after) (sym r.is) k))

pub read_back : (text : List ℕ) (policy : List Subject) → Spells text policy → policy_of text ≡ Ok policy
unfolding policy_of
read_back text policy h =
    let body = body_of (lines_of text) in
    let r = lines_read body.version body.number body.lines [] policy h.texts h.lines in
    rw r.goes (chains_read r.next policy r.is h.parents h.short)
