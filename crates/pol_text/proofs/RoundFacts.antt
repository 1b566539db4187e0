-- What was printed is read as the same policy.
use Rattle.std.proofs.Common.{◌≡◌, if◌then◌else◌, ℕ, suc, ◌+◌, Bool, true, false, not, eqb, ◌||◌, List, [], ◌∷◌, ◌++◌, length, map, find, codes, nat_le, nat_lt, Option, None, Some, Result, Ok, is_some, refl, sym, ap, ◌∙◌, arith, ◌<◌, ◌≤◌, length-append, append-nil, append_assoc}
use Rattle.std.specs.List.{list_all, list_any}
use Rattle.std.specs.Option.{option_map_or}
use Rattle.std.specs.Result.{is_ok}
use Rattle.std.specs.Fmt.{decimal}
use Rattle.std.proofs.lemmas.Bool.Decides.{nat_tests}
use Rattle.std.proofs.lemmas.List.{map-append, length-map}
use Rattle.std.proofs.lemmas.List.Folds.{list_all-append, list_any-append}
use Rattle.basics.specs.Symbol.{is_text, is_symbol}
use Rattle.basics.specs.Lines.{split_at_first, lines_of, onto_first}
use Rattle.pol_pattern.specs.Reading.{pattern_of}
use Rattle.pol_text.specs.declared.version.TextVersion.{TextVersion as Version}
use Rattle.pol_text.specs.declared.version.TextVersion.TheVariants.{Two, Three}
use Rattle.pol_names.specs.declared.subject_id.Kind.{Kind}
use Rattle.pol_names.specs.declared.subject_id.Kind.TheVariants.{Group, User}
use Rattle.pol_names.specs.declared.decision.Verdict.{Verdict}
use Rattle.pol_names.specs.declared.decision.Verdict.TheVariants.{Permit, Deny}
use Rattle.pol_text.specs.declared.subject.Rule.{Rule}
use Rattle.pol_names.specs.declared.subject_id.SubjectId.{SubjectId}
use Rattle.pol_text.specs.declared.subject.Subject.{Subject}
use Rattle.pol_text.specs.declared.fault.PolicyRefusal.{PolicyRefusal}
use Rattle.pol_text.specs.declared.fault.PolicyRefusal.TheVariants.{BadLine, NoSuchParent, Cycle, TooDeep}
use Rattle.pol_names.specs.Name.{is_name, is_name_byte}
use Rattle.pol_names.specs.Secret.{is_secret}
use Rattle.sha_crypt.specs.HashText.{hash_text}
use Rattle.sha_crypt.proofs.TextFacts.{again}
use Rattle.sha_crypt.proofs.SymbolFacts.{hash_is_text}
use Rattle.pol_names.specs.Kept.{is_right_secret, secret_line}
use Rattle.pol_names.specs.declared.secret.Credential.TheVariants.{Login, Enable}
use Rattle.pol_names.specs.declared.secret.Secret.{Secret}
use Rattle.pol_names.specs.declared.secret.Secret.TheVariants.{Clear, Hashed}
use Rattle.pol_names.specs.SubjectId.{same_kind, same_id}
use Rattle.pol_text.specs.Policy.{id_of, find_subject, all_distinct, all_of, is_right_rule, is_right_subject, has_parent, ends_within, WellFormed, none_clash, max_rules, max_services, max_subjects}
use Rattle.pol_names.specs.SubjectId.{kind_word}
use Rattle.pol_names.specs.Decision.{verdict_word}
use Rattle.pol_names.specs.Service.{is_service, is_right_line, any_clash, may_say, says_word, attribute_in, attributed_text, line_text}
use Rattle.pol_names.specs.declared.service.ServiceId.{ServiceId}
use Rattle.pol_names.specs.declared.service.Says.{Says}
use Rattle.pol_names.specs.declared.service.Says.TheVariants.{Allows, Refuses}
use Rattle.pol_names.specs.declared.service.ServiceLine.{ServiceLine}
use Rattle.pol_names.proofs.ServiceFacts.{line_symbols}
use Rattle.pol_text.specs.Text.{◌>>=◌, Draft, subjects_of, named, is_field, with_parent, heading, new_subject, with_subject, with_present, with_login, with_enable, with_login_hash, with_enable_hash, pattern_in, is_hashed, needs_third, version_line, third_line, with_priv, with_service, allowed_by, refused_by, with_rule, with_words, with_trimmed, with_line, at_line, with_lines, checked, with_right_chains, policy_of, heading_line, line_for, rule_line, subject_lines, policy_lines, text_of_lines, text_of}
use Rattle.pol_text.proofs.SettingFacts.{and_left, and_right, and_both, right_parts, service_taken, rule_read}
use Rattle.pol_text.proofs.ServiceLines.{lines_parts, none_before}
use Rattle.pol_text.proofs.SaidFacts.{allowed_again, refused_again}
use Rattle.pol_text.proofs.DraftFacts.{present_is}
use Rattle.pol_text.proofs.RightFacts.{bind_ok, first_ok, placed_ok, any_is, id_same, or_false, subjects-push}
use Rattle.pol_text.proofs.PatternFacts.{pattern_same, pattern_text}
use Rattle.pol_text.proofs.LevelFacts.{level_read}
use Rattle.pol_text.proofs.DepthFacts.{all_end}

-- ---- the lines of printed lines

lines_of-line : (line rest : List ℕ) → is_text line ≡ true → lines_of (line ++ 10 ∷ rest) ≡ line ∷ lines_of rest
lines_of-line [] rest h = refl
lines_of-line (byte ∷ line) rest h =
    let symbol = and_left (is_symbol byte) _ h in
    let other : eqb byte 10 ≡ false = grind (arith, nat_tests) in
    rw other (ap (onto_first byte) (lines_of-line line rest (and_right (is_symbol byte) _ h)))

lines_of-text : (lines : List (List ℕ)) → list_all is_text lines ≡ true → lines_of (text_of_lines lines) ≡ lines
lines_of-text [] h = refl
lines_of-text (line ∷ lines) h =
    lines_of-line line (text_of_lines lines) (and_left (is_text line) _ h) ∙ ap (λ (rest : List (List ℕ)). line ∷ rest) (lines_of-text lines (and_right (is_text line) _ h))

-- lines that are read are texts
pub read_text : (version : Version) (number : ℕ) (lines : List (List ℕ)) (draft next : Draft) → with_lines version number lines draft ≡ Ok next → list_all is_text lines ≡ true
unfolding with_lines with_line
read_text version number [] draft next h = refl
read_text version number (line ∷ lines) draft next h =
    let p = bind_ok (at_line number (with_line version number line draft)) _ next h in
    let q = first_ok (is_text line) _ BadLine p.0 (placed_ok number (with_line version number line draft) p.0 p.1) in
    and_both _ _ q.0 (read_text version (number + 1) lines p.0 next p.2)

-- the version of a text that is printed, by whether it needs the third
abbrev version_of : Bool → Version
version_of true = Three
version_of false = Two

-- ---- lines one after another

one_line : (b : Bool) (number : ℕ) (line : List ℕ) (draft next : Draft) → with_line (version_of b) number line draft ≡ Ok next → with_lines (version_of b) number (line ∷ []) draft ≡ Ok next
unfolding with_lines
one_line b number line draft next h = rw h refl

both : (b : Bool) (number : ℕ) (a c : List (List ℕ)) (draft next last : Draft) → with_lines (version_of b) number a draft ≡ Ok next → with_lines (version_of b) (number + length a) c next ≡ Ok last → with_lines (version_of b) number (a ++ c) draft ≡ Ok last
unfolding with_lines
both b number [] c draft next last h k =
    let same : draft ≡ next = cc in
    let none : number + 0 ≡ number = omega arith in
    rw same (rw none at k)
both b number (line ∷ a) c draft next last h k =
    let p = bind_ok (at_line number (with_line (version_of b) number line draft)) _ next h in
    let more : number + suc (length a) ≡ number + 1 + length a = omega arith in
    rw p.1 (both b (number + 1) a c p.0 next last p.2 (rw more at k))

-- ---- names

name_symbol : (byte : ℕ) → is_name_byte byte ≡ true → is_symbol byte ≡ true
unfolding is_name_byte
name_symbol byte h = grind (arith, nat_tests)

name_other : (byte : ℕ) → is_name_byte byte ≡ true → eqb byte 32 ≡ false
unfolding is_name_byte
name_other byte h = grind (arith, nat_tests)

name_text : (name : List ℕ) → list_all is_name_byte name ≡ true → is_text name ≡ true
name_text [] h = refl
name_text (byte ∷ name) h = and_both _ _ (name_symbol byte (and_left (is_name_byte byte) _ h)) (name_text name (and_right (is_name_byte byte) _ h))

name_field : (name : List ℕ) → list_all is_name_byte name ≡ true → split_at_first 32 name ≡ None
name_field [] h = refl
name_field (byte ∷ name) h = rw (name_other byte (and_left (is_name_byte byte) _ h), name_field name (and_right (is_name_byte byte) _ h)) refl

name_split : (name rest : List ℕ) → list_all is_name_byte name ≡ true → split_at_first 32 (name ++ 32 ∷ rest) ≡ Some (name, rest)
name_split [] rest h = refl
name_split (byte ∷ name) rest h = rw (name_other byte (and_left (is_name_byte byte) _ h), name_split name rest (and_right (is_name_byte byte) _ h)) refl

bytes_of : (name : List ℕ) → is_name name ≡ true → list_all is_name_byte name ≡ true
bytes_of name h = and_right _ _ h

named_is : (name : List ℕ) → is_name name ≡ true → named name ≡ Ok name
named_is name h = rw h refl

-- ---- the line that begins a subject

group_line : (b : Bool) (number : ℕ) (rest : List ℕ) (draft : Draft) → is_text rest ≡ true
    → with_line (version_of b) number (codes "group " ++ rest) draft ≡ (heading rest (split_at_first 32 rest) >>= λ ids. with_subject number Group ids.0 ids.1 draft)
unfolding with_line with_trimmed with_words
group_line b number rest draft h = rw h refl

user_line : (b : Bool) (number : ℕ) (rest : List ℕ) (draft : Draft) → is_text rest ≡ true
    → with_line (version_of b) number (codes "user " ++ rest) draft ≡ (heading rest (split_at_first 32 rest) >>= λ ids. with_subject number User ids.0 ids.1 draft)
unfolding with_line with_trimmed with_words
user_line b number rest draft h = rw h refl

abbrev pub after_name : Option (List ℕ) → List ℕ
after_name parent = option_map_or (λ parent. codes " in " ++ parent) parent []

pub heading_is : (name : List ℕ) (parent : Option (List ℕ)) → is_name name ≡ true → all_of is_name parent ≡ true
    → heading (name ++ after_name parent) (split_at_first 32 (name ++ after_name parent)) ≡ Ok (name, parent)
unfolding heading with_parent
heading_is name None h k = rw (append-nil name, name_field name (bytes_of name h), h) refl
heading_is name (Some parent) h k =
    rw (name_split name (105 ∷ 110 ∷ 32 ∷ parent) (bytes_of name h), name_field parent (bytes_of parent k), h, k) refl

heading_text : (name : List ℕ) (parent : Option (List ℕ)) → is_name name ≡ true → all_of is_name parent ≡ true → is_text (name ++ after_name parent) ≡ true
heading_text name None h k = rw (append-nil name) (name_text name (bytes_of name h))
heading_text name (Some parent) h k =
    rw (list_all-append is_symbol name (codes " in " ++ parent), name_text name (bytes_of name h), name_text parent (bytes_of parent k)) refl

pub subject_new : (number : ℕ) (kind : Kind) (name : List ℕ) (parent : Option (List ℕ)) (draft : Draft) → is_some (find_subject (record { kind = kind; name = name }) (subjects_of draft)) ≡ false → length draft < max_subjects
    → with_subject number kind name parent draft ≡ Ok (draft ++ (number, new_subject kind name parent) ∷ [])
unfolding with_subject
subject_new number kind name parent draft none room =
    let test : nat_le max_subjects (length draft) ≡ false = grind (arith, nat_tests) in
    rw (none, test) refl

begun : (b : Bool) (number : ℕ) (kind : Kind) (name : List ℕ) (parent : Option (List ℕ)) (draft : Draft) → is_name name ≡ true → all_of is_name parent ≡ true
    → is_some (find_subject (record { kind = kind; name = name }) (subjects_of draft)) ≡ false → length draft < max_subjects
    → with_line (version_of b) number (kind_word kind ++ name ++ after_name parent) draft ≡ Ok (draft ++ (number, new_subject kind name parent) ∷ [])
begun b number Group name parent draft h k none room =
    group_line b number (name ++ after_name parent) draft (heading_text name parent h k) ∙ rw (heading_is name parent h k) (subject_new number Group name parent draft none room)
begun b number User name parent draft h k none room =
    user_line b number (name ++ after_name parent) draft (heading_text name parent h k) ∙ rw (heading_is name parent h k) (subject_new number User name parent draft none room)

-- ---- settings

login_line : (b : Bool) (number : ℕ) (text : List ℕ) (draft : Draft) → is_text text ≡ true → with_line (version_of b) number (codes "login " ++ text) draft ≡ with_present (with_login text) draft
unfolding with_line with_trimmed with_words
login_line b number text draft h = rw h refl

enable_line : (b : Bool) (number : ℕ) (text : List ℕ) (draft : Draft) → is_text text ≡ true → with_line (version_of b) number (codes "enable " ++ text) draft ≡ with_present (with_enable text) draft
unfolding with_line with_trimmed with_words
enable_line b number text draft h = rw h refl

priv_line : (b : Bool) (number : ℕ) (text : List ℕ) (draft : Draft) → is_text text ≡ true → is_field text ≡ true → with_line (version_of b) number (codes "priv " ++ text) draft ≡ with_present (with_priv text) draft
unfolding with_line with_trimmed with_words
priv_line b number text draft h k = rw (h, k) refl

verdict_line : (b : Bool) (number : ℕ) (verdict : Verdict) (text : List ℕ) (draft : Draft) → is_text text ≡ true → with_line (version_of b) number (verdict_word verdict ++ text) draft ≡ with_present (with_rule (version_of b) verdict text) draft
unfolding with_line with_trimmed with_words
verdict_line b number Permit text draft h = rw h refl
verdict_line b number Deny text draft h = rw h refl

-- in a text that is printed patterns are of version 2
pattern_modern : (b : Bool) (text : List ℕ) → pattern_in (version_of b) text ≡ pattern_of text
pattern_modern true text = refl
pattern_modern false text = refl

login_hash_line : (b : Bool) (number : ℕ) (text : List ℕ) (draft : Draft) → b ≡ true → is_text text ≡ true → with_line (version_of b) number (codes "login-hash " ++ text) draft ≡ with_present (with_login_hash text) draft
unfolding with_line with_trimmed with_words
login_hash_line true number text draft third h = rw h refl
login_hash_line false number text draft third h = absurd cc

enable_hash_line : (b : Bool) (number : ℕ) (text : List ℕ) (draft : Draft) → b ≡ true → is_text text ≡ true → with_line (version_of b) number (codes "enable-hash " ++ text) draft ≡ with_present (with_enable_hash text) draft
unfolding with_line with_trimmed with_words
enable_hash_line true number text draft third h = rw h refl
enable_hash_line false number text draft third h = absurd cc

service_line : (b : Bool) (number : ℕ) (text : List ℕ) (draft : Draft) → b ≡ true → is_text text ≡ true → with_line (version_of b) number (codes "service " ++ text) draft ≡ (allowed_by text >>= λ line. with_present (with_service line) draft)
unfolding with_line with_trimmed with_words
service_line true number text draft third h = rw h refl
service_line false number text draft third h = absurd cc

refuse_line : (b : Bool) (number : ℕ) (text : List ℕ) (draft : Draft) → b ≡ true → is_text text ≡ true → with_line (version_of b) number (codes "refuse " ++ text) draft ≡ (refused_by text >>= λ line. with_present (with_service line) draft)
unfolding with_line with_trimmed with_words
refuse_line true number text draft third h = rw h refl
refuse_line false number text draft third h = absurd cc

said_parts : (b : Bool) (number : ℕ) (service : ServiceId) (says : Says) (draft : Draft) → b ≡ true → is_service service ≡ true → may_say service says ≡ true
    → with_line (version_of b) number (says_word says ++ attributed_text service (attribute_in says)) draft ≡ with_present (with_service (record { service = service; says = says })) draft
said_parts b number service (Allows attribute) draft third right may =
    service_line b number (attributed_text service attribute) draft third (line_symbols service (Allows attribute) right may) ∙ ap (λ (r : Result ServiceLine PolicyRefusal). r >>= λ line. with_present (with_service line) draft) (allowed_again service attribute right)
said_parts b number service Refuses draft third right may =
    refuse_line b number (attributed_text service None) draft third (line_symbols service Refuses right may) ∙ ap (λ (r : Result ServiceLine PolicyRefusal). r >>= λ line. with_present (with_service line) draft) (refused_again service right)

said_line : (b : Bool) (number : ℕ) (line : ServiceLine) (draft : Draft) → b ≡ true → is_right_line line ≡ true → with_line (version_of b) number (line_text line) draft ≡ with_present (with_service line) draft
said_line b number line draft third right =
    said_parts b number line.service line.says draft third (and_left (is_service line.service) (may_say line.service line.says) right) (and_right (is_service line.service) (may_say line.service line.says) right)

abbrev made : Kind → List ℕ → Option (List ℕ) → Option Secret → Option Secret → Option ℕ → List ServiceLine → List Rule → Subject
made kind name parent login enable level services rules =
    record { kind = kind; name = name; parent = parent; login = login; enable = enable; priv_lvl = level; services = services; rules = rules }

secret_text : (secret : List ℕ) → is_secret secret ≡ true → is_text secret ≡ true
secret_text secret h = and_right _ _ h

module _ (b : Bool) (number at : ℕ) (front : Draft) (name : List ℕ) (parent : Option (List ℕ)) where
  abbrev with_last : Subject → Draft
  with_last subject = front ++ (at, subject) ∷ []

  logged : (kind : Kind) (login enable : Option Secret) → (is_hashed login ≡ true → b ≡ true) → all_of is_right_secret login ≡ true → (same_kind kind User || not (is_some login || is_some enable)) ≡ true
      → with_lines (version_of b) number (line_for (secret_line Login) login) (with_last (made kind name parent None None None [] [])) ≡ Ok (with_last (made kind name parent login None None [] []))
  unfolding with_lines
  logged kind None enable fits right user = refl
  logged Group (Some secret) enable fits right user = absurd cc
  logged User (Some (Clear secret)) enable fits right user =
      one_line b number (codes "login " ++ secret) (with_last (made User name parent None None None [] [])) (with_last (made User name parent (Some (Clear secret)) None None [] []))
      (login_line b number secret (with_last (made User name parent None None None [] [])) (secret_text secret right)
      ∙ present_is (with_login secret) front at (made User name parent None None None [] []) ∙ rw right refl)
  logged User (Some (Hashed hash)) enable fits right user =
      one_line b number (codes "login-hash " ++ hash_text hash) (with_last (made User name parent None None None [] [])) (with_last (made User name parent (Some (Hashed hash)) None None [] []))
      (login_hash_line b number (hash_text hash) (with_last (made User name parent None None None [] [])) (fits refl) (hash_is_text hash right)
      ∙ present_is (with_login_hash (hash_text hash)) front at (made User name parent None None None [] []) ∙ rw (again hash right) refl)

  enabled : (kind : Kind) (login enable : Option Secret) → (is_hashed enable ≡ true → b ≡ true) → all_of is_right_secret enable ≡ true → (same_kind kind User || not (is_some login || is_some enable)) ≡ true
      → with_lines (version_of b) number (line_for (secret_line Enable) enable) (with_last (made kind name parent login None None [] [])) ≡ Ok (with_last (made kind name parent login enable None [] []))
  unfolding with_lines
  enabled kind login None fits right user = refl
  enabled Group None (Some secret) fits right user = absurd cc
  enabled Group (Some login) (Some secret) fits right user = absurd cc
  enabled User login (Some (Clear secret)) fits right user =
      one_line b number (codes "enable " ++ secret) (with_last (made User name parent login None None [] [])) (with_last (made User name parent login (Some (Clear secret)) None [] []))
      (enable_line b number secret (with_last (made User name parent login None None [] [])) (secret_text secret right)
      ∙ present_is (with_enable secret) front at (made User name parent login None None [] []) ∙ rw right refl)
  enabled User login (Some (Hashed hash)) fits right user =
      one_line b number (codes "enable-hash " ++ hash_text hash) (with_last (made User name parent login None None [] [])) (with_last (made User name parent login (Some (Hashed hash)) None [] []))
      (enable_hash_line b number (hash_text hash) (with_last (made User name parent login None None [] [])) (fits refl) (hash_is_text hash right)
      ∙ present_is (with_enable_hash (hash_text hash)) front at (made User name parent login None None [] []) ∙ rw (again hash right) refl)

  levelled : (kind : Kind) (login enable : Option Secret) (level : Option ℕ) → all_of (λ level. nat_le level 15) level ≡ true
      → with_lines (version_of b) number (line_for (λ level. codes "priv " ++ decimal level) level) (with_last (made kind name parent login enable None [] [])) ≡ Ok (with_last (made kind name parent login enable level [] []))
  unfolding with_lines
  levelled kind login enable None right = refl
  levelled kind login enable (Some level) right =
      let r = level_read level right in
      one_line b number (codes "priv " ++ decimal level) (with_last (made kind name parent login enable None [] [])) (with_last (made kind name parent login enable (Some level) [] []))
      (priv_line b number (decimal level) (with_last (made kind name parent login enable None [] [])) r.text r.field
      ∙ present_is (with_priv (decimal level)) front at (made kind name parent login enable None [] []) ∙ rw r.read refl)

  said : (kind : Kind) (login enable : Option Secret) (level : Option ℕ) (line : ServiceLine) (done : List ServiceLine) → b ≡ true → is_right_line line ≡ true → any_clash done line ≡ false → length done < max_services
      → with_line (version_of b) number (line_text line) (with_last (made kind name parent login enable level done [])) ≡ Ok (with_last (made kind name parent login enable level (done ++ line ∷ []) []))
  said kind login enable level line done third right apart room =
      let test : nat_le max_services (length done) ≡ false = grind (arith, nat_tests) in
      said_line b number line (with_last (made kind name parent login enable level done [])) third right
      ∙ present_is (with_service line) front at (made kind name parent login enable level done [])
      ∙ rw (service_taken line (made kind name parent login enable level done []) apart right test) refl

  ruled : (kind : Kind) (login enable : Option Secret) (level : Option ℕ) (services : List ServiceLine) (verdict : Verdict) (pattern : List ℕ) (done : List Rule) → is_ok (pattern_of pattern) ≡ true → length done < max_rules
      → with_line (version_of b) number (verdict_word verdict ++ pattern) (with_last (made kind name parent login enable level services done))
      ≡ Ok (with_last (made kind name parent login enable level services (done ++ record { verdict = verdict; pattern = pattern } ∷ [])))
  ruled kind login enable level services verdict pattern done right room =
      let test : nat_le max_rules (length done) ≡ false = grind (arith, nat_tests) in
      verdict_line b number verdict pattern (with_last (made kind name parent login enable level services done)) (pattern_text pattern right)
      ∙ present_is (with_rule (version_of b) verdict pattern) front at (made kind name parent login enable level services done)
      ∙ rw (rule_read (version_of b) verdict pattern pattern (made kind name parent login enable level services done) (pattern_modern b pattern ∙ pattern_same pattern right), test) refl

all_said : (b : Bool) (number at : ℕ) (front : Draft) (name : List ℕ) (parent : Option (List ℕ)) (kind : Kind) (login enable : Option Secret) (level : Option ℕ) (done lines : List ServiceLine)
    → (nat_lt 0 (length lines) ≡ true → b ≡ true) → list_all is_right_line lines ≡ true → none_clash (done ++ lines) ≡ true → length done + length lines ≤ max_services
    → with_lines (version_of b) number (map line_text lines) (front ++ (at, made kind name parent login enable level done []) ∷ []) ≡ Ok (front ++ (at, made kind name parent login enable level (done ++ lines) []) ∷ [])
unfolding with_lines
all_said b number at front name parent kind login enable level done [] fits right apart room =
    let whole : done ++ [] ≡ done = lines-nil done in rw whole refl
  where
    lines-nil : (lines : List ServiceLine) → lines ++ [] ≡ lines
    lines-nil [] = refl
    lines-nil (line ∷ lines) = ap (λ (rest : List ServiceLine). line ∷ rest) (lines-nil lines)
all_said b number at front name parent kind login enable level done (line ∷ lines) fits right apart room =
    let some : nat_lt 0 (suc (length lines)) ≡ true = grind (arith, nat_tests) in
    let third : b ≡ true = fits some in
    let lengths = length-append done (line ∷ []) in
    let few : length done < max_services = omega arith in
    let step = said b number at front name parent kind login enable level line done third (and_left (is_right_line line) _ right) (none_before done lines line apart) few in
    let moved : (done ++ line ∷ []) ++ lines ≡ done ++ line ∷ lines = append_assoc done (line ∷ []) lines in
    rw step (all_said b (number + 1) at front name parent kind login enable level (done ++ line ∷ []) lines (λ more. third) (and_right (is_right_line line) _ right) (ap none_clash moved ∙ apart) (omega arith)
    ∙ ap (λ (lines : List ServiceLine). Ok (front ++ (at, made kind name parent login enable level lines []) ∷ [])) moved)

all_ruled : (b : Bool) (number at : ℕ) (front : Draft) (name : List ℕ) (parent : Option (List ℕ)) (kind : Kind) (login enable : Option Secret) (level : Option ℕ) (services : List ServiceLine) (done rules : List Rule)
    → list_all is_right_rule rules ≡ true → length done + length rules ≤ max_rules
    → with_lines (version_of b) number (map rule_line rules) (front ++ (at, made kind name parent login enable level services done) ∷ []) ≡ Ok (front ++ (at, made kind name parent login enable level services (done ++ rules)) ∷ [])
unfolding with_lines
all_ruled b number at front name parent kind login enable level services done [] right room =
    let whole : done ++ [] ≡ done = rules-nil done in rw whole refl
  where
    rules-nil : (rules : List Rule) → rules ++ [] ≡ rules
    rules-nil [] = refl
    rules-nil (rule ∷ rules) = ap (λ (rest : List Rule). rule ∷ rest) (rules-nil rules)
all_ruled b number at front name parent kind login enable level services done (rule ∷ rules) right room =
    let lengths = length-append done (rule ∷ []) in
    let few : length done < max_rules = omega arith in
    let step = ruled b number at front name parent kind login enable level services rule.verdict rule.pattern done (and_left (is_right_rule rule) _ right) few in
    let moved : (done ++ rule ∷ []) ++ rules ≡ done ++ rule ∷ rules = append_assoc done (rule ∷ []) rules in
    rw step (all_ruled b (number + 1) at front name parent kind login enable level services (done ++ rule ∷ []) rules (and_right (is_right_rule rule) _ right) (omega arith)
    ∙ ap (λ (rules : List Rule). Ok (front ++ (at, made kind name parent login enable level services rules) ∷ [])) moved)

-- ---- a subject

or_left : (a c : Bool) → a ≡ true → (a || c) ≡ true
or_left a c h = rw h refl

or_right : (a c : Bool) → c ≡ true → (a || c) ≡ true
or_right true c h = refl
or_right false c h = h

subject_read : (b : Bool) (number : ℕ) (draft : Draft) (subject : Subject) → (needs_third subject ≡ true → b ≡ true) → is_right_subject subject ≡ true → is_some (find_subject (id_of subject) (subjects_of draft)) ≡ false → length draft < max_subjects
    → with_lines (version_of b) number (subject_lines subject) draft ≡ Ok (draft ++ (number, subject) ∷ [])
subject_read b number draft subject fits right none room =
    let r = right_parts subject right in
    let kind = subject.kind in
    let name = subject.name in
    let parent = subject.parent in
    let heading = heading_line subject in
    let login = line_for (secret_line Login) subject.login in
    let enable = line_for (secret_line Enable) subject.enable in
    let level = line_for (λ (level : ℕ). codes "priv " ++ decimal level) subject.priv_lvl in
    let services = map line_text subject.services in
    let rules = map rule_line subject.rules in
    let d0 = draft ++ (number, made kind name parent None None None [] []) ∷ [] in
    let d1 = draft ++ (number, made kind name parent subject.login None None [] []) ∷ [] in
    let d2 = draft ++ (number, made kind name parent subject.login subject.enable None [] []) ∷ [] in
    let d3 = draft ++ (number, made kind name parent subject.login subject.enable subject.priv_lvl [] []) ∷ [] in
    let d4 = draft ++ (number, made kind name parent subject.login subject.enable subject.priv_lvl subject.services []) ∷ [] in
    let said = lines_parts subject.services r.services in
    let few : 0 + length subject.rules ≤ max_rules = let test = r.few in grind (arith, nat_tests) in
    let h0 = one_line b number heading draft d0 (begun b number kind name parent draft r.name r.parent none room) in
    let h1 = both b number (heading ∷ []) login draft d0 d1 h0 (logged b (number + 1) number draft name parent kind subject.login subject.enable (λ e. fits (or_left _ _ (or_left _ _ e))) r.login r.secrets) in
    let h2 = both b number (heading ∷ login) enable draft d1 d2 h1 (enabled b (number + length (heading ∷ login)) number draft name parent kind subject.login subject.enable (λ e. fits (or_left _ _ (or_right _ _ e))) r.enable r.secrets) in
    let h3 = both b number (heading ∷ (login ++ enable)) level draft d2 d3 h2 (levelled b (number + length (heading ∷ (login ++ enable))) number draft name parent kind subject.login subject.enable subject.priv_lvl r.level) in
    let h4 = both b number (heading ∷ (login ++ enable ++ level)) services draft d3 d4 h3
    (all_said b (number + length (heading ∷ (login ++ enable ++ level))) number draft name parent kind subject.login subject.enable subject.priv_lvl [] subject.services (λ e. fits (or_right _ _ e)) said.each said.apart (let some = said.few in omega arith)) in
    both b number (heading ∷ (login ++ enable ++ level ++ services)) rules draft d4 (draft ++ (number, subject) ∷ []) h4
    (all_ruled b (number + length (heading ∷ (login ++ enable ++ level ++ services))) number draft name parent kind subject.login subject.enable subject.priv_lvl subject.services [] subject.rules r.rules few)

-- ---- a policy

-- the subjects with the lines that they are printed at
numbered : ℕ → List Subject → Draft
numbered number [] = []
numbered number (subject ∷ rest) = (number, subject) ∷ numbered (number + length (subject_lines subject)) rest

subjects-numbered : (number : ℕ) (policy : List Subject) → subjects_of (numbered number policy) ≡ policy
unfolding numbered
subjects-numbered number [] = refl
subjects-numbered number (subject ∷ rest) = ap (λ (subjects : List Subject). subject ∷ subjects) (subjects-numbered (number + length (subject_lines subject)) rest)

-- no id before a place is the one that stands there
apart : (before after : List SubjectId) (id : SubjectId) → all_distinct (before ++ id ∷ after) ≡ true → list_any (same_id id) before ≡ false
apart [] after id h = refl
apart (x ∷ before) after id h =
    let other : list_any (same_id x) (before ++ id ∷ after) ≡ false = not_is _ (and_left _ _ h) in
    let parts = or_false _ _ (sym (list_any-append (same_id x) before (id ∷ after)) ∙ other) in
    let new : same_id id x ≡ false = id_same id x ∙ (or_false _ _ parts.1).0 in
    rw new (apart before after id (and_right _ _ h))
  where
    not_is : (b : Bool) → not b ≡ true → b ≡ false
    not_is true k = sym k
    not_is false k = refl

policy_read : (b : Bool) (number : ℕ) (draft : Draft) (policy : List Subject) → (list_any needs_third policy ≡ true → b ≡ true) → list_all is_right_subject policy ≡ true → all_distinct (map id_of (subjects_of draft ++ policy)) ≡ true
    → length draft + length policy ≤ max_subjects → with_lines (version_of b) number (policy_lines policy) draft ≡ Ok (draft ++ numbered number policy)
unfolding with_lines numbered
policy_read b number draft [] fits right distinct few = let whole : draft ++ [] ≡ draft = draft-nil draft in rw whole refl
  where
    draft-nil : (draft : Draft) → draft ++ [] ≡ draft
    draft-nil [] = refl
    draft-nil (entry ∷ rest) = ap (λ (more : Draft). entry ∷ more) (draft-nil rest)
policy_read b number draft (subject ∷ rest) fits right distinct few =
    let next = draft ++ (number, subject) ∷ [] in
    let after = number + length (subject_lines subject) in
    let split = map-append id_of (subjects_of draft) (subject ∷ rest) in
    let none = sym (any_is (id_of subject) (subjects_of draft)) ∙ apart (map id_of (subjects_of draft)) (map id_of rest) (id_of subject) (sym (ap all_distinct split) ∙ distinct) in
    let room : length draft < max_subjects = omega arith in
    let one = subject_read b number draft subject (λ e. fits (or_left _ _ e)) (and_left (is_right_subject subject) _ right) none room in
    let same : subjects_of next ++ rest ≡ subjects_of draft ++ subject ∷ rest = ap (λ (s : List Subject). s ++ rest) (subjects-push draft number subject) ∙ append_assoc (subjects_of draft) (subject ∷ []) rest in
    let still : all_distinct (map id_of (subjects_of next ++ rest)) ≡ true = ap (λ (s : List Subject). all_distinct (map id_of s)) same ∙ distinct in
    let sizes = length-append draft ((number, subject) ∷ []) in
    both b number (subject_lines subject) (policy_lines rest) draft next (draft ++ (number, subject) ∷ numbered after rest) one
    (policy_read b after next rest (λ e. fits (or_right _ _ e)) (and_right (is_right_subject subject) _ right) still (omega arith)
    ∙ ap (λ (d : Draft). Ok d) (append_assoc draft ((number, subject) ∷ []) (numbered after rest)))

-- ---- chains

none_fails : (test : Subject → Bool) (draft : Draft) → list_all test (subjects_of draft) ≡ true → find (λ (entry : ℕ × Subject). not (test entry.1)) draft ≡ None
none_fails test [] h = refl
none_fails test (entry ∷ rest) h = rw (and_left (test entry.1) _ h) (none_fails test rest (and_right (test entry.1) _ h))

passes : (test : Subject → Bool) (refusal : PolicyRefusal) (draft : Draft) → list_all test (subjects_of draft) ≡ true → checked test refusal draft ≡ Ok draft
unfolding checked
passes test refusal draft h = rw (none_fails test draft h) refl

pub chains_read : (draft : Draft) (policy : List Subject) → subjects_of draft ≡ policy → list_all (has_parent policy) policy ≡ true → list_all (ends_within 8 policy) policy ≡ true
    → with_right_chains draft ≡ Ok policy
unfolding with_right_chains
chains_read draft policy is has within =
    let sizes : length draft ≡ length (subjects_of draft) = sym (length-map draft (λ (entry : ℕ × Subject). entry.1)) in
    let parents : list_all (has_parent (subjects_of draft)) (subjects_of draft) ≡ true = ap (λ (s : List Subject). list_all (has_parent s) s) is ∙ has in
    let short : list_all (ends_within 8 (subjects_of draft)) (subjects_of draft) ≡ true = ap (λ (s : List Subject). list_all (ends_within 8 s) s) is ∙ within in
    let ends : list_all (ends_within (length draft) (subjects_of draft)) (subjects_of draft) ≡ true =
    ap (λ n. list_all (ends_within n (subjects_of draft)) (subjects_of draft)) sizes ∙ all_end (subjects_of draft) 8 short in
    rw (
      passes (has_parent (subjects_of draft)) NoSuchParent draft parents,
      passes (ends_within (length draft) (subjects_of draft)) Cycle draft ends,
      passes (ends_within 8 (subjects_of draft)) TooDeep draft short,
    ) (ap (λ (s : List Subject). Ok s) is)

-- what a well-formed policy's text says is the policy
pub read_again : (policy : List Subject) → WellFormed policy → policy_of (text_of policy) ≡ Ok policy
unfolding policy_of text_of
read_again policy well = by (list_any needs_third policy) refl
  where
    by : (b : Bool) → list_any needs_third policy ≡ b → policy_of (text_of_lines ((if b then third_line else version_line) ∷ policy_lines policy)) ≡ Ok policy
    by true e =
        let few = well.few in
        let read = policy_read true 2 [] policy (λ h. refl) well.right well.distinct (omega arith) in
        let lines = lines_of-text (policy_lines policy) (read_text Three 2 (policy_lines policy) [] (numbered 2 policy) read) in
        rw (lines, read) (chains_read (numbered 2 policy) policy (subjects-numbered 2 policy) well.parents well.short)
    by false e =
        let few = well.few in
        let read = policy_read false 2 [] policy (λ h. sym e ∙ h) well.right well.distinct (omega arith) in
        let lines = lines_of-text (policy_lines policy) (read_text Two 2 (policy_lines policy) [] (numbered 2 policy) read) in
        rw (lines, read) (chains_read (numbered 2 policy) policy (subjects-numbered 2 policy) well.parents well.short)
