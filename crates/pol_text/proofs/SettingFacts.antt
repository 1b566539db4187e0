-- A change of a subject keeps its kind and name, and that it is right.
use Rattle.std.proofs.Common.{◌≡◌, ℕ, Bool, true, false, not, cond, ◌&&◌, List, [], ◌∷◌, ◌++◌, length, nat_le, Option, None, Some, Result, Ok, Err, OnErr, refl, sym, ap, ◌∙◌, arith, if◌then◌else◌, length-append}
use Rattle.std.specs.List.{list_all}
use Rattle.std.specs.Result.{is_ok}
use Rattle.std.specs.Option.{option_and_then}
use Rattle.std.proofs.lemmas.Bool.Decides.{nat_tests}
use Rattle.std.proofs.lemmas.List.Folds.{list_all-append}
use Rattle.basics.specs.Number.{number_of}
use Rattle.pol_pattern.specs.Upgrading.{upgraded}
use Rattle.pol_pattern.specs.Reading.{reading_by, reading, pattern_of, pattern_of_old}
use Rattle.pol_text.specs.declared.version.TextVersion.{TextVersion as Version}
use Rattle.pol_text.specs.declared.version.TextVersion.TheVariants.{One, Two, Three}
use Rattle.pol_pattern.specs.Flat.{Terms}
use Rattle.pol_pattern.specs.declared.fault.PatternFault.{PatternFault}
use Rattle.pol_names.specs.declared.secret.Credential.TheVariants.{Login, Enable}
use Rattle.pol_names.specs.declared.subject_id.Kind.{Kind}
use Rattle.pol_names.specs.declared.subject_id.Kind.TheVariants.{Group, User}
use Rattle.pol_names.specs.declared.decision.Verdict.{Verdict}
use Rattle.pol_text.specs.declared.subject.Subject.{Subject}
use Rattle.pol_text.specs.declared.fault.PolicyRefusal.TheVariants.{BadLine, BadPattern, BadValue, Limit, Repeated}
use Rattle.pol_text.specs.declared.fault.LineFault.{LineFault}
use Rattle.pol_text.specs.Draft.{LineMakes}
use Rattle.pol_text.specs.declared.setting.Setting.{Setting}
use Rattle.pol_text.specs.declared.setting.Setting.TheVariants as settings
use Rattle.pol_names.specs.Name.{is_name}
use Rattle.std.specs.Option.{option_map}
use Rattle.pol_pattern.specs.declared.version.Version.TheVariants as grammar
use Rattle.pol_names.specs.declared.secret.Secret.{Secret}
use Rattle.pol_names.specs.declared.secret.Secret.TheVariants.{Clear, Hashed}
use Rattle.pol_names.specs.Secret.{is_secret, secret_of}
use Rattle.sha_crypt.specs.HashText.{HashParts, hash_of}
use Rattle.sha_crypt.proofs.TextFacts.{found}
use Rattle.pol_names.specs.Kept.{is_right_secret}
use Rattle.pol_names.specs.Service.{any_clash, is_right_line}
use Rattle.pol_names.specs.declared.service.ServiceLine.{ServiceLine}
use Rattle.pol_names.specs.SubjectId.{same_kind}
use Rattle.pol_text.specs.Policy.{id_of, all_of, is_right_rule, has_right_secrets, are_right_lines, is_right_subject, max_rules, max_services}
use Rattle.pol_text.specs.Change.{with_line_last}
use Rattle.pol_text.specs.Setting.{changed_by}
use Rattle.pol_text.specs.Text.{set_once, with_login, with_enable, with_login_hash, with_enable_hash, with_priv, with_service, with_rule, level_of, pattern_in}
use Rattle.pol_text.proofs.ServiceLines.{lines_push}

-- ---- tests

pub and_left : (a b : Bool) → (a && b) ≡ true → a ≡ true
and_left true b h = refl
and_left false b h = h

pub and_right : (a b : Bool) → (a && b) ≡ true → b ≡ true
and_right true b h = h
and_right false b h = absurd cc

pub and_both : (a b : Bool) → a ≡ true → b ≡ true → (a && b) ≡ true
and_both a b h k = rw (h, k) refl

-- what makes a subject right, part by part
pub record Right (subject : Subject) : Type 0 where
  pub name : is_name subject.name ≡ true
  pub parent : all_of is_name subject.parent ≡ true
  pub login : all_of is_right_secret subject.login ≡ true
  pub enable : all_of is_right_secret subject.enable ≡ true
  pub secrets : has_right_secrets subject ≡ true
  pub level : all_of (λ level. nat_le level 15) subject.priv_lvl ≡ true
  pub services : are_right_lines subject.services ≡ true
  pub few : nat_le (length subject.rules) max_rules ≡ true
  pub rules : list_all is_right_rule subject.rules ≡ true

pub right_parts : (subject : Subject) → is_right_subject subject ≡ true → Right subject
right_parts subject h =
    let h8 = and_left _ _ h in
    let h7 = and_left _ _ h8 in
    let h6 = and_left _ _ h7 in
    let h5 = and_left _ _ h6 in
    let h4 = and_left _ _ h5 in
    let h3 = and_left _ _ h4 in
    let h2 = and_left _ _ h3 in
    record {
      name = and_left _ _ h2;
      parent = and_right _ _ h2;
      login = and_right _ _ h3;
      enable = and_right _ _ h4;
      secrets = and_right _ _ h5;
      level = and_right _ _ h6;
      services = and_right _ _ h7;
      few = and_right _ _ h8;
      rules = and_right _ _ h;
    }

pub right_whole : (subject : Subject) → Right subject → is_right_subject subject ≡ true
right_whole subject r =
    and_both _ _ (and_both _ _ (and_both _ _ (and_both _ _ (and_both _ _ (and_both _ _ (and_both _ _ (and_both _ _ r.name r.parent) r.login) r.enable) r.secrets) r.level) r.services) r.few) r.rules

-- ---- settings

-- a setting that was made has a value
set_made : {A : Type 0} (old value : Option A) (change : A → Subject) (next : Subject) → set_once old value change ≡ Ok next → (x : A) × (value ≡ Some x) × (next ≡ change x)
set_made (Some x) value change next h = absurd cc
set_made None None change next h = absurd cc
set_made None (Some x) change next h = (x, refl, cc)

secret_right : (text secret : List ℕ) → secret_of text ≡ Some secret → is_secret secret ≡ true
secret_right text secret h = by (is_secret text) refl h
  where
    by : (b : Bool) → is_secret text ≡ b → cond b (Some text) None ≡ Some secret → is_secret secret ≡ true
    by true e k = let same : text ≡ secret = cc in rw (← same) e
    by false e k = absurd cc

clear_right : (text : List ℕ) (secret : Secret) (read : Option (List ℕ)) → secret_of text ≡ read → option_map Clear read ≡ Some secret → is_right_secret secret ≡ true
clear_right text secret None e h = absurd cc
clear_right text secret (Some kept) e h = let same : Clear kept ≡ secret = cc in rw (← same) (secret_right text kept e)

hashed_right : (text : List ℕ) (secret : Secret) (read : Option HashParts) → hash_of text ≡ read → option_map Hashed read ≡ Some secret → is_right_secret secret ≡ true
hashed_right text secret None e h = absurd cc
hashed_right text secret (Some hash) e h = let same : Hashed hash ≡ secret = cc in rw (← same) (found text (Some hash) (sym e)).0

level_right : (text : List ℕ) (level : ℕ) → level_of text ≡ Some level → nat_le level 15 ≡ true
level_right text level h = by (number_of 4 text) h
  where
    within : (n : ℕ) (b : Bool) → nat_le n 15 ≡ b → cond b (Some n) None ≡ Some level → nat_le level 15 ≡ true
    within n true e k = let same : n ≡ level = cc in rw (← same) e
    within n false e k = absurd cc

    by : (o : Option ℕ) → option_and_then (λ level. if nat_le level 15 then Some level else None) o ≡ Some level → nat_le level 15 ≡ true
    by None k = absurd cc
    by (Some n) k = within n (nat_le n 15) refl k

-- what is read as a pattern is one
new_right : (text pattern : List ℕ) → pattern_of text ≡ Ok pattern → is_ok (pattern_of pattern) ≡ true
unfolding pattern_of
new_right text pattern h = by (reading text) refl h
  where
    by : (r : Result Terms PatternFault) → reading text ≡ r → pattern_of text ≡ Ok pattern → is_ok (pattern_of pattern) ≡ true
    by (Ok flat) e k =
        let all = rw e at k in
        let same : text ≡ pattern = cc in
        rw (← same, e) refl
    by (Err fault) e k = let none = rw e at k in absurd cc

-- of an old one too, as its new source is read
old_right : (text pattern : List ℕ) → pattern_of_old text ≡ Ok pattern → is_ok (pattern_of pattern) ≡ true
unfolding pattern_of_old
old_right text pattern h = by (reading_by grammar.One text) refl h
  where
    by : (r : Result Terms PatternFault) → reading_by grammar.One text ≡ r → pattern_of_old text ≡ Ok pattern → is_ok (pattern_of pattern) ≡ true
    by (Ok flat) e k = new_right (upgraded text) pattern (rw e at k)
    by (Err fault) e k = let none = rw e at k in absurd cc

pub pattern_right : (version : Version) (text pattern : List ℕ) → pattern_in version text ≡ Ok pattern → is_ok (pattern_of pattern) ≡ true
pattern_right One text pattern h = old_right text pattern h
pattern_right Two text pattern h = new_right text pattern h
pattern_right Three text pattern h = new_right text pattern h

-- ---- what a change keeps

pub record Kept (old next : Subject) : Type 0 where
  pub same : id_of next ≡ id_of old
  pub right : Right old → Right next

-- a user may have secrets
user_secrets : (subject : Subject) → subject.kind ≡ User → has_right_secrets subject ≡ true
user_secrets subject e = rw e refl

pub login_kept : (text : List ℕ) (subject next : Subject) → with_login text subject ≡ Ok next → Kept subject next
login_kept text subject next h = by subject.kind refl h
  where
    by : (k : Kind) → subject.kind ≡ k
        → cond (same_kind k Group) (Err BadLine) (set_once subject.login (option_map Clear (secret_of text)) (λ secret. record subject { login = Some secret })) ≡ Ok next
        → Kept subject next
    by Group e k = absurd cc
    by User e k =
        let m = set_made subject.login (option_map Clear (secret_of text)) (λ secret. record subject { login = Some secret }) next k in
        record {
          same = ap id_of m.2;
          right = λ (r : Right subject). let made : Right (record subject { login = Some m.0 }) = record {
            name = r.name;
            parent = r.parent;
            login = clear_right text m.0 (secret_of text) refl m.1;
            enable = r.enable;
            secrets = user_secrets (record subject { login = Some m.0 }) e;
            level = r.level;
            services = r.services;
            few = r.few;
            rules = r.rules;
          } in rw m.2 made;
        }

pub enable_kept : (text : List ℕ) (subject next : Subject) → with_enable text subject ≡ Ok next → Kept subject next
enable_kept text subject next h = by subject.kind refl h
  where
    by : (k : Kind) → subject.kind ≡ k
        → cond (same_kind k Group) (Err BadLine) (set_once subject.enable (option_map Clear (secret_of text)) (λ secret. record subject { enable = Some secret })) ≡ Ok next
        → Kept subject next
    by Group e k = absurd cc
    by User e k =
        let m = set_made subject.enable (option_map Clear (secret_of text)) (λ secret. record subject { enable = Some secret }) next k in
        record {
          same = ap id_of m.2;
          right = λ (r : Right subject). let made : Right (record subject { enable = Some m.0 }) = record {
            name = r.name;
            parent = r.parent;
            login = r.login;
            enable = clear_right text m.0 (secret_of text) refl m.1;
            secrets = user_secrets (record subject { enable = Some m.0 }) e;
            level = r.level;
            services = r.services;
            few = r.few;
            rules = r.rules;
          } in rw m.2 made;
        }

pub login_hash_kept : (text : List ℕ) (subject next : Subject) → with_login_hash text subject ≡ Ok next → Kept subject next
login_hash_kept text subject next h = by subject.kind refl h
  where
    by : (k : Kind) → subject.kind ≡ k
        → cond (same_kind k Group) (Err BadLine) (set_once subject.login (option_map Hashed (hash_of text)) (λ secret. record subject { login = Some secret })) ≡ Ok next
        → Kept subject next
    by Group e k = absurd cc
    by User e k =
        let m = set_made subject.login (option_map Hashed (hash_of text)) (λ secret. record subject { login = Some secret }) next k in
        record {
          same = ap id_of m.2;
          right = λ (r : Right subject). let made : Right (record subject { login = Some m.0 }) = record {
            name = r.name;
            parent = r.parent;
            login = hashed_right text m.0 (hash_of text) refl m.1;
            enable = r.enable;
            secrets = user_secrets (record subject { login = Some m.0 }) e;
            level = r.level;
            services = r.services;
            few = r.few;
            rules = r.rules;
          } in rw m.2 made;
        }

pub enable_hash_kept : (text : List ℕ) (subject next : Subject) → with_enable_hash text subject ≡ Ok next → Kept subject next
enable_hash_kept text subject next h = by subject.kind refl h
  where
    by : (k : Kind) → subject.kind ≡ k
        → cond (same_kind k Group) (Err BadLine) (set_once subject.enable (option_map Hashed (hash_of text)) (λ secret. record subject { enable = Some secret })) ≡ Ok next
        → Kept subject next
    by Group e k = absurd cc
    by User e k =
        let m = set_made subject.enable (option_map Hashed (hash_of text)) (λ secret. record subject { enable = Some secret }) next k in
        record {
          same = ap id_of m.2;
          right = λ (r : Right subject). let made : Right (record subject { enable = Some m.0 }) = record {
            name = r.name;
            parent = r.parent;
            login = r.login;
            enable = hashed_right text m.0 (hash_of text) refl m.1;
            secrets = user_secrets (record subject { enable = Some m.0 }) e;
            level = r.level;
            services = r.services;
            few = r.few;
            rules = r.rules;
          } in rw m.2 made;
        }

pub priv_kept : (text : List ℕ) (subject next : Subject) → with_priv text subject ≡ Ok next → Kept subject next
priv_kept text subject next h =
    let m = set_made subject.priv_lvl (level_of text) (λ level. record subject { priv_lvl = Some level }) next h in
    record {
      same = ap id_of m.2;
      right = λ (r : Right subject). let made : Right (record subject { priv_lvl = Some m.0 }) = record {
        name = r.name;
        parent = r.parent;
        login = r.login;
        enable = r.enable;
        secrets = r.secrets;
        level = level_right text m.0 m.1;
        services = r.services;
        few = r.few;
        rules = r.rules;
      } in rw m.2 made;
    }

-- what a line about a service that is taken has shown
pub record Said (line : ServiceLine) (subject next : Subject) : Type 0 where
  pub apart : any_clash subject.services line ≡ false
  pub right : is_right_line line ≡ true
  pub room : nat_le max_services (length subject.services) ≡ false
  pub is : next ≡ with_line_last line subject

pub service_said : (line : ServiceLine) (subject next : Subject) → with_service line subject ≡ Ok next → Said line subject next
unfolding with_service
service_said line subject next h = by (any_clash subject.services line) (is_right_line line) (nat_le max_services (length subject.services)) refl refl refl h
  where
    by : (a b c : Bool) → any_clash subject.services line ≡ a → is_right_line line ≡ b → nat_le max_services (length subject.services) ≡ c
        → cond a (Err Repeated) (cond (not b) (Err BadValue) (cond c (Err Limit) (Ok (with_line_last line subject)))) ≡ Ok next → Said line subject next
    by true b c apart right room k = absurd cc
    by false false c apart right room k = absurd cc
    by false true true apart right room k = absurd cc
    by false true false apart right room k = record { apart = apart; right = right; room = room; is = cc }

pub service_taken : (line : ServiceLine) (subject : Subject) → any_clash subject.services line ≡ false → is_right_line line ≡ true → nat_le max_services (length subject.services) ≡ false
    → with_service line subject ≡ Ok (with_line_last line subject)
unfolding with_service
service_taken line subject apart right room = rw (apart, right, room) refl

pub service_kept : (line : ServiceLine) (subject next : Subject) → with_service line subject ≡ Ok next → Kept subject next
service_kept line subject next h =
    let s = service_said line subject next h in
    let test = s.room in
    record {
      same = ap id_of s.is;
      right = λ (r : Right subject). let made : Right (with_line_last line subject) = record {
        name = r.name;
        parent = r.parent;
        login = r.login;
        enable = r.enable;
        secrets = r.secrets;
        level = r.level;
        services = lines_push subject.services line r.services s.right s.apart (grind (arith, nat_tests));
        few = r.few;
        rules = r.rules;
      } in rw s.is made;
    }

pub rule_read : (version : Version) (verdict : Verdict) (text pattern : List ℕ) (subject : Subject) → pattern_in version text ≡ Ok pattern
    → with_rule version verdict text subject ≡ cond (nat_le max_rules (length subject.rules)) (Err Limit) (Ok (record subject { rules = subject.rules ++ record { verdict = verdict; pattern = pattern } ∷ [] }))
unfolding with_rule
rule_read version verdict text pattern subject e = rw e refl

pub rule_refused : (version : Version) (verdict : Verdict) (text : List ℕ) (fault : PatternFault) (subject : Subject) → pattern_in version text ≡ Err fault → with_rule version verdict text subject ≡ Err (BadPattern fault)
unfolding with_rule
rule_refused version verdict text fault subject e = rw e refl

pub rule_kept : (version : Version) (verdict : Verdict) (text : List ℕ) (subject next : Subject) → with_rule version verdict text subject ≡ Ok next → Kept subject next
rule_kept version verdict text subject next h = by (pattern_in version text) refl
  where
    more : (pattern : List ℕ) → pattern_in version text ≡ Ok pattern → Right subject → nat_le max_rules (length subject.rules) ≡ false → Right (record subject { rules = subject.rules ++ record { verdict = verdict; pattern = pattern } ∷ [] })
    more pattern e r room =
        let one : is_right_rule (record { verdict = verdict; pattern = pattern }) ≡ true = pattern_right version text pattern e in
        record {
          name = r.name;
          parent = r.parent;
          login = r.login;
          enable = r.enable;
          secrets = r.secrets;
          level = r.level;
          services = r.services;
          few = rw (length-append subject.rules (record { verdict = verdict; pattern = pattern } ∷ [])) (grind (arith, nat_tests));
          rules = list_all-append is_right_rule subject.rules (record { verdict = verdict; pattern = pattern } ∷ []) ∙ rw (r.rules, one) refl;
        }

    fits : (pattern : List ℕ) → pattern_in version text ≡ Ok pattern → (b : Bool) → nat_le max_rules (length subject.rules) ≡ b
        → cond b (Err Limit) (Ok (record subject { rules = subject.rules ++ record { verdict = verdict; pattern = pattern } ∷ [] })) ≡ Ok next → Kept subject next
    fits pattern e true room k = absurd cc
    fits pattern e false room k =
        let is : next ≡ record subject { rules = subject.rules ++ record { verdict = verdict; pattern = pattern } ∷ [] } = cc in
        record { same = ap id_of is; right = λ (r : Right subject). rw is (more pattern e r room) }

    by : (p : Result (List ℕ) PatternFault) → pattern_in version text ≡ p → Kept subject next
    by (Ok pattern) e = fits pattern e (nat_le max_rules (length subject.rules)) refl (sym (rule_read version verdict text pattern subject e) ∙ h)
    by (Err fault) e = let none = sym (rule_refused version verdict text fault subject e) ∙ h in absurd cc

pub change_kept : (setting : Setting) (subject next : Subject) → changed_by setting subject ≡ Ok next → Kept subject next
change_kept (settings.Secret Login text) subject next h = login_kept text.now subject next h
change_kept (settings.Secret Enable text) subject next h = enable_kept text.now subject next h
change_kept (settings.Hash Login text) subject next h = login_hash_kept text.now subject next h
change_kept (settings.Hash Enable text) subject next h = enable_hash_kept text.now subject next h
change_kept (settings.Priv text) subject next h = priv_kept text.now subject next h
change_kept (settings.Rule version verdict text) subject next h = rule_kept version verdict text.now subject next h

-- a subject keeps its kind and name, whether the setting is made or refused
pub made_kept : (r : Result Unit LineFault) (setting : Setting) (subject next : Subject) → LineMakes r next (changed_by setting subject) → OnErr r (next ≡ subject) → id_of next ≡ id_of subject
made_kept (Ok made) setting subject next h same = (change_kept setting subject next h).same
made_kept (Err fault) setting subject next h same = ap id_of same

-- and so it does where a line about a service is added or refused
pub said_kept : (r : Result Unit LineFault) (line : ServiceLine) (subject next : Subject) → LineMakes r next (with_service line subject) → OnErr r (next ≡ subject) → id_of next ≡ id_of subject
said_kept (Ok made) line subject next h same = (service_kept line subject next h).same
said_kept (Err fault) line subject next h same = ap id_of same
