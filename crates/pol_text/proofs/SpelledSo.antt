-- What is read is spelled so.
use Rattle.std.proofs.Common.{◌≡◌, ℕ, ◌+◌, ◌<◌, Bool, true, false, cond, eqb, ◌&&◌, List, [], ◌∷◌, ◌++◌, length, codes, nat_le, Option, None, Some, Result, Ok, Err, ok_or, is_some, refl, sym, ap, subst, ◌∙◌, arith, append-nil, append_assoc}
use Rattle.std.specs.Option.{option_map}
use Rattle.std.specs.Str.{bytes_eq}
use Rattle.std.proofs.lemmas.Bool.{eqb-true}
use Rattle.std.proofs.lemmas.Bool.Decides.{nat_tests}
use Rattle.std.proofs.lemmas.List.{length-map}
use Rattle.std.proofs.lemmas.Slice.Eq.{bytes_eq-Decides}
use Rattle.basics.specs.Symbol.{is_text}
use Rattle.basics.specs.Lines.{split_at_first, lines_of, without_leading_spaces}
use Rattle.pol_text.specs.declared.version.TextVersion.{TextVersion as Version}
use Rattle.pol_pattern.specs.declared.fault.PatternFault.{PatternFault}
use Rattle.pol_names.specs.Name.{is_name, name_of}
use Rattle.std.specs.Option.{option_map}
use Rattle.pol_names.specs.Secret.{is_secret, secret_of}
use Rattle.sha_crypt.specs.HashText.{HashParts, is_hash, hash_text, hash_of}
use Rattle.sha_crypt.proofs.TextFacts.{found}
use Rattle.pol_names.specs.declared.secret.Secret.{Secret}
use Rattle.pol_names.specs.declared.secret.Secret.TheVariants.{Clear, Hashed}
use Rattle.pol_names.specs.SubjectId.{same_kind, kind_word}
use Rattle.pol_names.specs.Decision.{verdict_word}
use Rattle.pol_names.specs.Service.{line_text}
use Rattle.pol_names.specs.declared.service.ServiceLine.{ServiceLine}
use Rattle.pol_names.specs.declared.subject_id.Kind.{Kind}
use Rattle.pol_names.specs.declared.subject_id.Kind.TheVariants.{Group, User}
use Rattle.pol_names.specs.declared.decision.Verdict.{Verdict}
use Rattle.pol_names.specs.declared.decision.Verdict.TheVariants.{Permit, Deny}
use Rattle.pol_text.specs.declared.subject.Subject.{Subject}
use Rattle.pol_text.specs.declared.fault.PolicyRefusal.{PolicyRefusal}
use Rattle.pol_text.specs.declared.fault.PolicyRefusal.TheVariants.{BadLine, BadName, Repeated, Limit, NoSubject}
use Rattle.pol_text.specs.Policy.{find_subject, max_rules, max_services, max_subjects}
use Rattle.pol_text.specs.Text.{◌>>=◌, Draft, subjects_of, named, is_field, with_parent, heading, new_subject, with_subject, split_last, with_present, set_once, with_login, with_enable, with_login_hash, with_enable_hash, level_of, with_priv, with_service, allowed_by, refused_by, with_rule, with_words, is_blank, with_trimmed, with_line, at_line, with_lines, with_right_chains, policy_of, pattern_in, body_of, with_body}
use Rattle.pol_text.specs.Versions.{has_hashes, has_services}
use Rattle.pol_text.specs.Spelling.{Sets, login, enable, login_hash, enable_hash, level, about, rule, Adds, begins, sets, Extends, meaningful, Spells}
use Rattle.pol_text.proofs.SettingFacts.{and_left, and_right, service_said, rule_read, rule_refused}
use Rattle.pol_text.proofs.RightFacts.{bind_ok, some_of, first_ok, second_ok, placed_ok, heading_right, split_back, subjects-push, chains_same, read_well_formed}
use Rattle.pol_text.proofs.SaidFacts.{allowed_found, refused_found}
use Rattle.pol_text.proofs.RoundFacts.{after_name, read_text}

-- ---- words and fields

word_is : (word wanted : List ℕ) → bytes_eq word wanted ≡ true → word ≡ wanted
word_is word wanted e = (bytes_eq-Decides word wanted).0 e

-- one of two, each of which shows what is wanted where it goes well
either : {A E P : Type 0} (b : Bool) (x y : Result A E) (v : A) → (b ≡ true → x ≡ Ok v → P) → (y ≡ Ok v → P) → cond b x y ≡ Ok v → P
either true x y v f g h = f refl h
either false x y v f g h = g h

joined : (text : List ℕ) (parts : List ℕ × List ℕ) → split_at_first 32 text ≡ Some parts → text ≡ parts.0 ++ 32 ∷ parts.1
joined [] parts h = absurd cc
joined (byte ∷ text) parts h = by (eqb byte 32) refl (split_at_first 32 text) (joined text) h
  where
    by : (b : Bool) → eqb byte 32 ≡ b → (o : Option (List ℕ × List ℕ)) → ((p : List ℕ × List ℕ) → o ≡ Some p → text ≡ p.0 ++ 32 ∷ p.1)
        → cond b (Some ([], text)) (option_map (λ p. (byte ∷ p.0, p.1)) o) ≡ Some parts → byte ∷ text ≡ parts.0 ++ 32 ∷ parts.1
    by true e o below k =
        let is : parts ≡ ([], text) = cc in
        let same : byte ≡ 32 = eqb-true byte 32 e in
        rw (is, same) refl
    by false e None below k = absurd cc
    by false e (Some p) below k = let is : parts ≡ (byte ∷ p.0, p.1) = cc in rw is (ap (λ (rest : List ℕ). byte ∷ rest) (below p refl))

named_same : (text name : List ℕ) → named text ≡ Ok name → text ≡ name
named_same text name h = by (is_name text) (some_of (name_of text) BadName name h)
  where
    by : (b : Bool) → cond b (Some text) None ≡ Some name → text ≡ name
    by true k = cc
    by false k = absurd cc

-- ---- the line that begins a subject

abbrev after : List ℕ × Option (List ℕ) → List ℕ
after ids = ids.0 ++ after_name ids.1

parent_spelled : (name rest : List ℕ) (ids : List ℕ × Option (List ℕ)) → with_parent name rest ≡ Ok ids → name ++ 32 ∷ rest ≡ after ids
unfolding with_parent
parent_spelled name rest ids h =
    let p = bind_ok (ok_or (split_at_first 32 rest) BadLine) _ ids h in
    let q = first_ok (bytes_eq p.0.0 (codes "in") && is_field p.0.1) _ BadLine ids p.2 in
    let s = bind_ok (named name) _ ids q.1 in
    let t = bind_ok (named p.0.1) _ ids s.2 in
    let is : ids ≡ (s.0, Some t.0) = cc in
    let word : p.0.0 ≡ codes "in" = word_is p.0.0 (codes "in") (and_left _ _ q.0) in
    let whole : rest ≡ p.0.0 ++ 32 ∷ p.0.1 = joined rest p.0 (some_of (split_at_first 32 rest) BadLine p.0 p.1) in
    ap (λ (r : List ℕ). name ++ 32 ∷ r) (whole ∙ ap (λ (w : List ℕ). w ++ 32 ∷ p.0.1) word)
    ∙ ap (λ (n : List ℕ). n ++ 32 ∷ (codes "in" ++ 32 ∷ p.0.1)) (named_same name s.0 s.1)
    ∙ ap (λ (n : List ℕ). s.0 ++ 32 ∷ (codes "in" ++ 32 ∷ n)) (named_same p.0.1 t.0 t.1)
    ∙ sym (ap after is)

heading_spelled : (rest : List ℕ) (parts : Option (List ℕ × List ℕ)) (ids : List ℕ × Option (List ℕ)) → split_at_first 32 rest ≡ parts → heading rest parts ≡ Ok ids → rest ≡ after ids
unfolding heading
heading_spelled rest None ids e h =
    let p = bind_ok (named rest) _ ids h in
    let is : ids ≡ (p.0, None) = cc in
    named_same rest p.0 p.1 ∙ sym (append-nil p.0) ∙ sym (ap after is)
heading_spelled rest (Some parts) ids e h = joined rest parts e ∙ parent_spelled parts.0 parts.1 ids h

none_found : {A : Type 0} (o : Option A) → is_some o ≡ false → o ≡ None
none_found None h = refl
none_found (Some x) h = absurd cc

begun_adds : (version : Version) (number : ℕ) (kind : Kind) (line rest : List ℕ) (draft next : Draft) → line ≡ kind_word kind ++ rest
    → (heading rest (split_at_first 32 rest) >>= λ ids. with_subject number kind ids.0 ids.1 draft) ≡ Ok next → Adds version (subjects_of draft) line (subjects_of next)
unfolding with_subject
begun_adds version number kind line rest draft next spelled h =
    let p = bind_ok (heading rest (split_at_first 32 rest)) _ next h in
    let right = heading_right rest (split_at_first 32 rest) p.0 p.1 in
    let a = second_ok (is_some (find_subject (record { kind = kind; name = p.0.0 }) (subjects_of draft))) Repeated _ next p.2 in
    let b = second_ok (nat_le max_subjects (length draft)) Limit _ next a.1 in
    let is : next ≡ draft ++ (number, new_subject kind p.0.0 p.0.1) ∷ [] = cc in
    let sizes : length (subjects_of draft) ≡ length draft = length-map draft (λ (entry : ℕ × Subject). entry.1) in
    let test = b.0 in
    let room : length (subjects_of draft) < max_subjects = grind (arith, nat_tests) in
    let whole = heading_spelled rest (split_at_first 32 rest) p.0 refl p.1 in
    begins kind p.0.0 p.0.1 right.0 right.1
    (spelled ∙ ap (λ (t : List ℕ). kind_word kind ++ t) whole ∙ sym (append_assoc (kind_word kind) p.0.0 (after_name p.0.1)))
    (none_found (find_subject (record { kind = kind; name = p.0.0 }) (subjects_of draft)) a.0) room
    (ap subjects_of is ∙ subjects-push draft number (new_subject kind p.0.0 p.0.1))

-- ---- settings

once : {A : Type 0} (old value : Option A) (change : A → Subject) (next : Subject) → set_once old value change ≡ Ok next → (old ≡ None) × ((x : A) × (value ≡ Some x) × (next ≡ change x))
once (Some x) value change next h = absurd cc
once None None change next h = absurd cc
once None (Some x) change next h = (refl, (x, refl, cc))

secret_same : (text secret : List ℕ) → secret_of text ≡ Some secret → (is_secret text ≡ true) × (secret ≡ text)
secret_same text secret h = by (is_secret text) refl h
  where
    by : (b : Bool) → is_secret text ≡ b → cond b (Some text) None ≡ Some secret → (is_secret text ≡ true) × (secret ≡ text)
    by true e k = (e, cc)
    by false e k = absurd cc

clear_same : (text : List ℕ) (secret : Secret) → option_map Clear (secret_of text) ≡ Some secret → (is_secret text ≡ true) × (secret ≡ Clear text)
clear_same text secret h = by (is_secret text) refl h
  where
    by : (b : Bool) → is_secret text ≡ b → option_map Clear (cond b (Some text) None) ≡ Some secret → (is_secret text ≡ true) × (secret ≡ Clear text)
    by true e k = (e, cc)
    by false e k = absurd cc

hashed_same : (text : List ℕ) (secret : Secret) → option_map Hashed (hash_of text) ≡ Some secret → (hash : HashParts) × (is_hash hash ≡ true) × (text ≡ hash_text hash) × (secret ≡ Hashed hash)
hashed_same text secret h = by (hash_of text) refl h
  where
    by : (read : Option HashParts) → hash_of text ≡ read → option_map Hashed read ≡ Some secret → (hash : HashParts) × (is_hash hash ≡ true) × (text ≡ hash_text hash) × (secret ≡ Hashed hash)
    by None e k = absurd cc
    by (Some hash) e k = let is = found text (Some hash) (sym e) in (hash, is.0, is.1, cc)

login_sets : (version : Version) (line text : List ℕ) (old new : Subject) → line ≡ codes "login " ++ text → with_login text old ≡ Ok new → Sets version old line new
login_sets version line text old new spelled h = by old.kind refl h
  where
    by : (k : Kind) → old.kind ≡ k → cond (same_kind k Group) (Err BadLine) (set_once old.login (option_map Clear (secret_of text)) (λ secret. record old { login = Some secret })) ≡ Ok new → Sets version old line new
    by Group e k = absurd cc
    by User e k =
        let m = once old.login (option_map Clear (secret_of text)) (λ secret. record old { login = Some secret }) new k in
        let s = clear_same text m.1.0 m.1.1 in
        login text s.0 spelled e m.0 (m.1.2 ∙ ap (λ (secret : Secret). record old { login = Some secret }) s.1)

enable_sets : (version : Version) (line text : List ℕ) (old new : Subject) → line ≡ codes "enable " ++ text → with_enable text old ≡ Ok new → Sets version old line new
enable_sets version line text old new spelled h = by old.kind refl h
  where
    by : (k : Kind) → old.kind ≡ k → cond (same_kind k Group) (Err BadLine) (set_once old.enable (option_map Clear (secret_of text)) (λ secret. record old { enable = Some secret })) ≡ Ok new → Sets version old line new
    by Group e k = absurd cc
    by User e k =
        let m = once old.enable (option_map Clear (secret_of text)) (λ secret. record old { enable = Some secret }) new k in
        let s = clear_same text m.1.0 m.1.1 in
        enable text s.0 spelled e m.0 (m.1.2 ∙ ap (λ (secret : Secret). record old { enable = Some secret }) s.1)

login_hash_sets : (version : Version) (line text : List ℕ) (old new : Subject) → has_hashes version ≡ true → line ≡ codes "login-hash " ++ text → with_login_hash text old ≡ Ok new → Sets version old line new
login_hash_sets version line text old new third spelled h = by old.kind refl h
  where
    by : (k : Kind) → old.kind ≡ k → cond (same_kind k Group) (Err BadLine) (set_once old.login (option_map Hashed (hash_of text)) (λ secret. record old { login = Some secret })) ≡ Ok new → Sets version old line new
    by Group e k = absurd cc
    by User e k =
        let m = once old.login (option_map Hashed (hash_of text)) (λ secret. record old { login = Some secret }) new k in
        let s = hashed_same text m.1.0 m.1.1 in
        login_hash s.0 third s.1 (spelled ∙ ap (λ (t : List ℕ). codes "login-hash " ++ t) s.2) e m.0 (m.1.2 ∙ ap (λ (secret : Secret). record old { login = Some secret }) s.3)

enable_hash_sets : (version : Version) (line text : List ℕ) (old new : Subject) → has_hashes version ≡ true → line ≡ codes "enable-hash " ++ text → with_enable_hash text old ≡ Ok new → Sets version old line new
enable_hash_sets version line text old new third spelled h = by old.kind refl h
  where
    by : (k : Kind) → old.kind ≡ k → cond (same_kind k Group) (Err BadLine) (set_once old.enable (option_map Hashed (hash_of text)) (λ secret. record old { enable = Some secret })) ≡ Ok new → Sets version old line new
    by Group e k = absurd cc
    by User e k =
        let m = once old.enable (option_map Hashed (hash_of text)) (λ secret. record old { enable = Some secret }) new k in
        let s = hashed_same text m.1.0 m.1.1 in
        enable_hash s.0 third s.1 (spelled ∙ ap (λ (t : List ℕ). codes "enable-hash " ++ t) s.2) e m.0 (m.1.2 ∙ ap (λ (secret : Secret). record old { enable = Some secret }) s.3)

level_sets : (version : Version) (line text : List ℕ) (old new : Subject) → line ≡ codes "priv " ++ text → with_priv text old ≡ Ok new → Sets version old line new
level_sets version line text old new spelled h =
    let m = once old.priv_lvl (level_of text) (λ level. record old { priv_lvl = Some level }) new h in
    level text m.1.0 m.1.1 spelled m.0 m.1.2

service_sets : (version : Version) (line : List ℕ) (said : ServiceLine) (old new : Subject) → has_services version ≡ true → line ≡ line_text said → with_service said old ≡ Ok new → Sets version old line new
service_sets version line said old new third spelled h =
    let s = service_said said old new h in
    let test = s.room in
    let room : length old.services < max_services = grind (arith, nat_tests) in
    about said third s.right spelled s.apart room s.is

rule_sets : (version : Version) (verdict : Verdict) (line text : List ℕ) (old new : Subject) → line ≡ verdict_word verdict ++ text → with_rule version verdict text old ≡ Ok new → Sets version old line new
rule_sets version verdict line text old new spelled h = by (pattern_in version text) refl
  where
    by : (p : Result (List ℕ) PatternFault) → pattern_in version text ≡ p → Sets version old line new
    by (Ok pattern) e =
        let k = second_ok (nat_le max_rules (length old.rules)) Limit _ new (sym (rule_read version verdict text pattern old e) ∙ h) in
        let test = k.0 in
        let room : length old.rules < max_rules = grind (arith, nat_tests) in
        let is : new ≡ record old { rules = old.rules ++ record { verdict = verdict; pattern = pattern } ∷ [] } = cc in
        rule verdict text pattern e spelled room is
    by (Err fault) e = let none = sym (rule_refused version verdict text fault old e) ∙ h in absurd cc

set_adds : (version : Version) (line : List ℕ) (change : Subject → Result Subject PolicyRefusal) (draft next : Draft) → ((old new : Subject) → change old ≡ Ok new → Sets version old line new)
    → with_present change draft ≡ Ok next → Adds version (subjects_of draft) line (subjects_of next)
unfolding with_present
set_adds version line change draft next each h =
    let p = bind_ok (ok_or (split_last draft) NoSubject) _ next h in
    let q = bind_ok (change p.0.1.1) _ next p.2 in
    let is : next ≡ p.0.0 ++ (p.0.1.0, q.0) ∷ [] = cc in
    let was : draft ≡ p.0.0 ++ p.0.1 ∷ [] = split_back draft p.0 (some_of (split_last draft) NoSubject p.0 p.1) in
    sets (subjects_of p.0.0) p.0.1.1 q.0 (each p.0.1.1 q.0 q.1)
    (ap subjects_of was ∙ subjects-push p.0.0 p.0.1.0 p.0.1.1) (ap subjects_of is ∙ subjects-push p.0.0 p.0.1.0 q.0)

said_adds : (version : Version) (line : List ℕ) (said : Result ServiceLine PolicyRefusal) (draft next : Draft) → has_services version ≡ true → ((x : ServiceLine) → said ≡ Ok x → line ≡ line_text x)
    → (said >>= λ x. with_present (with_service x) draft) ≡ Ok next → Adds version (subjects_of draft) line (subjects_of next)
said_adds version line said draft next third spelled h =
    let p = bind_ok said _ next h in
    set_adds version line (with_service p.0) draft next (λ old new. service_sets version line p.0 old new third (spelled p.0 p.1)) p.2

-- ---- lines

abbrev after_word : List ℕ → List ℕ → List ℕ
after_word rest word = word ++ 32 ∷ rest

words_add : (version : Version) (number : ℕ) (word rest : List ℕ) (draft next : Draft) → with_words version number word rest draft ≡ Ok next → Adds version (subjects_of draft) (word ++ 32 ∷ rest) (subjects_of next)
unfolding with_words
words_add version number word rest draft next h =
    either (bytes_eq word (codes "group")) _ _ next (λ w k. begun_adds version number Group (word ++ 32 ∷ rest) rest draft next (ap (after_word rest) (word_is word (codes "group") w)) k) (λ k.
    either (bytes_eq word (codes "user")) _ _ next (λ w k. begun_adds version number User (word ++ 32 ∷ rest) rest draft next (ap (after_word rest) (word_is word (codes "user") w)) k) (λ k.
    either (bytes_eq word (codes "service") && has_services version) _ _ next (λ w k. said_adds version (word ++ 32 ∷ rest) (allowed_by rest) draft next (and_right (bytes_eq word (codes "service")) _ w) (λ x read. ap (after_word rest) (word_is word (codes "service") (and_left _ _ w)) ∙ allowed_found rest x read) k) (λ k.
    either (bytes_eq word (codes "refuse") && has_services version) _ _ next (λ w k. said_adds version (word ++ 32 ∷ rest) (refused_by rest) draft next (and_right (bytes_eq word (codes "refuse")) _ w) (λ x read. ap (after_word rest) (word_is word (codes "refuse") (and_left _ _ w)) ∙ refused_found rest x read) k) (λ k.
    either (bytes_eq word (codes "login")) _ _ next (λ w k. set_adds version (word ++ 32 ∷ rest) (with_login rest) draft next (λ old new. login_sets version (word ++ 32 ∷ rest) rest old new (ap (after_word rest) (word_is word (codes "login") w))) k) (λ k.
    either (bytes_eq word (codes "enable")) _ _ next (λ w k. set_adds version (word ++ 32 ∷ rest) (with_enable rest) draft next (λ old new. enable_sets version (word ++ 32 ∷ rest) rest old new (ap (after_word rest) (word_is word (codes "enable") w))) k) (λ k.
    either (bytes_eq word (codes "login-hash") && has_hashes version) _ _ next (λ w k. set_adds version (word ++ 32 ∷ rest) (with_login_hash rest) draft next (λ old new. login_hash_sets version (word ++ 32 ∷ rest) rest old new (and_right (bytes_eq word (codes "login-hash")) _ w) (ap (after_word rest) (word_is word (codes "login-hash") (and_left _ _ w)))) k) (λ k.
    either (bytes_eq word (codes "enable-hash") && has_hashes version) _ _ next (λ w k. set_adds version (word ++ 32 ∷ rest) (with_enable_hash rest) draft next (λ old new. enable_hash_sets version (word ++ 32 ∷ rest) rest old new (and_right (bytes_eq word (codes "enable-hash")) _ w) (ap (after_word rest) (word_is word (codes "enable-hash") (and_left _ _ w)))) k) (λ k.
    either (bytes_eq word (codes "priv")) _ _ next (λ w k. set_adds version (word ++ 32 ∷ rest) (with_priv rest) draft next (λ old new. level_sets version (word ++ 32 ∷ rest) rest old new (ap (after_word rest) (word_is word (codes "priv") w))) (first_ok (is_field rest) _ BadLine next k).1) (λ k.
    either (bytes_eq word (codes "permit")) _ _ next (λ w k. set_adds version (word ++ 32 ∷ rest) (with_rule version Permit rest) draft next (λ old new. rule_sets version Permit (word ++ 32 ∷ rest) rest old new (ap (after_word rest) (word_is word (codes "permit") w))) k) (λ k.
    let q = first_ok (bytes_eq word (codes "deny")) _ BadLine next k in
    set_adds version (word ++ 32 ∷ rest) (with_rule version Deny rest) draft next (λ old new. rule_sets version Deny (word ++ 32 ∷ rest) rest old new (ap (after_word rest) (word_is word (codes "deny") q.0))) q.1) k) k) k) k) k) k) k) k) k) h

trimmed_adds : (version : Version) (number : ℕ) (line : List ℕ) (draft next : Draft) → is_blank line ≡ false → with_trimmed version number line draft ≡ Ok next → Adds version (subjects_of draft) line (subjects_of next)
unfolding with_trimmed
trimmed_adds version number line draft next says h =
    let p = bind_ok (ok_or (split_at_first 32 line) BadLine) _ next (rw says at h) in
    let whole = joined line p.0 (some_of (split_at_first 32 line) BadLine p.0 p.1) in
    subst (λ (l : List ℕ). Adds version (subjects_of draft) l (subjects_of next)) (sym whole) (words_add version number p.0.0 p.0.1 draft next p.2)

blank_adds : (version : Version) (number : ℕ) (line : List ℕ) (draft next : Draft) → is_blank line ≡ true → with_trimmed version number line draft ≡ Ok next → draft ≡ next
unfolding with_trimmed
blank_adds version number line draft next says h = let same = rw says at h in cc

pub lines_extend : (version : Version) (number : ℕ) (lines : List (List ℕ)) (draft next : Draft) → with_lines version number lines draft ≡ Ok next → Extends version (subjects_of draft) (meaningful lines) (subjects_of next)
unfolding with_lines with_line
lines_extend version number [] draft next h = let same : draft ≡ next = cc in ap subjects_of same
lines_extend version number (line ∷ lines) draft next h =
    let p = bind_ok (at_line number (with_line version number line draft)) _ next h in
    let q = first_ok (is_text line) _ BadLine p.0 (placed_ok number (with_line version number line draft) p.0 p.1) in
    by (is_blank (without_leading_spaces line)) refl p.0 q.1 (lines_extend version (number + 1) lines p.0 next p.2)
  where
    by : (b : Bool) → is_blank (without_leading_spaces line) ≡ b → (mid : Draft) → with_trimmed version number (without_leading_spaces line) draft ≡ Ok mid
        → Extends version (subjects_of mid) (meaningful lines) (subjects_of next)
        → Extends version (subjects_of draft) (cond b (meaningful lines) (without_leading_spaces line ∷ meaningful lines)) (subjects_of next)
    by true e mid k later = rw (blank_adds version number (without_leading_spaces line) draft mid e k) later
    by false e mid k later = (subjects_of mid, trimmed_adds version number (without_leading_spaces line) draft mid e k, later)

pub spelled_so : (text : List ℕ) (policy : List Subject) → policy_of text ≡ Ok policy → Spells text policy
unfolding policy_of
spelled_so text policy h =
    let well = read_well_formed text policy h in
    let body = body_of (lines_of text) in
    let p = bind_ok (with_body body) with_right_chains policy h in
    let is : policy ≡ subjects_of p.0 = chains_same p.0 policy p.2 in
    record {
      texts = read_text body.version body.number body.lines [] p.0 p.1;
      lines = rw is (lines_extend body.version body.number body.lines [] p.0 p.1);
      parents = well.parents;
      short = well.short;
    }
