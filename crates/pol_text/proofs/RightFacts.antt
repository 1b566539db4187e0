-- What is read is well formed.
use Rattle.std.proofs.Common.{◌≡◌, ℕ, ◌+◌, Bool, true, false, not, cond, ◌||◌, ◌&&◌, List, [], ◌∷◌, ◌++◌, length, map, find, codes, nat_le, Option, None, Some, Result, Ok, Err, ok_or, is_some, refl, sym, ap, ◌∙◌, arith, ◌≤◌, length-append}
use Rattle.std.specs.List.{list_all, list_any}
use Rattle.std.specs.Option.{option_map_or}
use Rattle.std.specs.Str.{bytes_eq}
use Rattle.std.specs.Cmp.Lexicographic.{bytes_decides}
use Rattle.std.proofs.lemmas.Bool.Decides.{nat_tests, same_from_decides, Decides-like}
use Rattle.std.proofs.lemmas.List.{map-append, length-map}
use Rattle.std.proofs.lemmas.List.Folds.{list_all-append, list_any-append}
use Rattle.basics.specs.Symbol.{is_text}
use Rattle.basics.specs.Lines.{split_at_first, lines_of, without_leading_spaces}
use Rattle.pol_text.specs.declared.version.TextVersion.{TextVersion as Version}
use Rattle.pol_names.specs.declared.subject_id.Kind.{Kind}
use Rattle.pol_names.specs.declared.subject_id.Kind.TheVariants.{Group, User}
use Rattle.pol_names.specs.declared.decision.Verdict.TheVariants.{Permit, Deny}
use Rattle.pol_names.specs.declared.subject_id.SubjectId.{SubjectId}
use Rattle.pol_text.specs.declared.subject.Subject.{Subject}
use Rattle.pol_text.specs.declared.fault.PolicyRefusal.{PolicyRefusal}
use Rattle.pol_text.specs.declared.fault.PolicyRefusal.TheVariants.{BadLine, BadName, Repeated, Limit, NoSubject, NoSuchParent, Cycle, TooDeep}
use Rattle.pol_text.specs.declared.fault.PolicyFault.TheVariants.{Refused}
use Rattle.pol_text.specs.Draft.{RightDraft}
use Rattle.pol_names.specs.Name.{is_name, name_of}
use Rattle.pol_names.specs.declared.service.ServiceLine.{ServiceLine}
use Rattle.pol_names.specs.SubjectId.{same_kind, same_id}
use Rattle.pol_text.specs.Policy.{id_of, find_subject, all_distinct, all_of, is_right_subject, has_parent, ends_within, WellFormed, max_subjects}
use Rattle.pol_text.specs.Text.{◌>>=◌, Draft, subjects_of, named, is_field, with_parent, heading, new_subject, with_subject, after_first, split_last, with_present, with_login, with_enable, with_login_hash, with_enable_hash, with_priv, with_service, allowed_by, refused_by, with_rule, with_words, is_blank, with_trimmed, with_line, at_line, with_lines, checked, with_right_chains, body_of, with_body, policy_of}
use Rattle.pol_text.specs.Versions.{has_hashes, has_services}
use Rattle.pol_text.proofs.SettingFacts.{and_left, and_right, right_parts, right_whole, Kept, login_kept, enable_kept, login_hash_kept, enable_hash_kept, priv_kept, service_kept, rule_kept}

-- ---- steps that go well

pub bind_ok : {A B E : Type 0} (r : Result A E) (f : A → Result B E) (y : B) → (r >>= f) ≡ Ok y → (x : A) × (r ≡ Ok x) × (f x ≡ Ok y)
bind_ok (Ok x) f y h = (x, refl, h)
bind_ok (Err e) f y h = absurd cc

pub some_of : {A E : Type 0} (o : Option A) (e : E) (x : A) → ok_or o e ≡ Ok x → o ≡ Some x
some_of None e x h = absurd cc
some_of (Some y) e x h = cc

-- one of two, each of which shows what is wanted where it goes well
either_ok : {A E P : Type 0} (b : Bool) (x y : Result A E) (v : A) → (x ≡ Ok v → P) → (y ≡ Ok v → P) → cond b x y ≡ Ok v → P
either_ok true x y v f g h = f h
either_ok false x y v f g h = g h

-- the first of two is a fault
pub second_ok : {A E : Type 0} (b : Bool) (e : E) (y : Result A E) (v : A) → cond b (Err e) y ≡ Ok v → (b ≡ false) × (y ≡ Ok v)
second_ok true e y v h = absurd cc
second_ok false e y v h = (refl, h)

-- the second of two is a fault
pub first_ok : {A E : Type 0} (b : Bool) (x : Result A E) (e : E) (v : A) → cond b x (Err e) ≡ Ok v → (b ≡ true) × (x ≡ Ok v)
first_ok true x e v h = (refl, h)
first_ok false x e v h = absurd cc

-- ---- ids apart

kind_same : (a b : Kind) → same_kind a b ≡ same_kind b a
kind_same Group Group = refl
kind_same Group User = refl
kind_same User Group = refl
kind_same User User = refl

bytes_same : (a b : List ℕ) → bytes_eq a b ≡ bytes_eq b a
bytes_same a b = same_from_decides (bytes_eq a b) (bytes_eq b a) (bytes_decides a b) (Decides-like (bytes_eq b a) (λ (e : b ≡ a). sym e) (λ (e : a ≡ b). sym e) (bytes_decides b a))

pub id_same : (a b : SubjectId) → same_id a b ≡ same_id b a
id_same a b = rw (kind_same a.kind b.kind, bytes_same a.name b.name) refl

pub or_false : (a b : Bool) → (a || b) ≡ false → (a ≡ false) × (b ≡ false)
or_false true b h = absurd cc
or_false false b h = (refl, h)

distinct-push : (ids : List SubjectId) (id : SubjectId) → all_distinct ids ≡ true → list_any (same_id id) ids ≡ false → all_distinct (ids ++ id ∷ []) ≡ true
distinct-push [] id h none = refl
distinct-push (x ∷ rest) id h none =
    let parts = or_false _ _ none in
    let other : list_any (same_id x) rest ≡ false = not_is _ (and_left _ _ h) in
    let new : same_id x id ≡ false = id_same x id ∙ parts.0 in
    let below : all_distinct (rest ++ id ∷ []) ≡ true = distinct-push rest id (and_right _ _ h) parts.1 in
    rw (list_any-append (same_id x) rest (id ∷ []), other, new, below) refl
  where
    not_is : (b : Bool) → not b ≡ true → b ≡ false
    not_is true k = sym k
    not_is false k = refl

pub any_is : (id : SubjectId) (policy : List Subject) → list_any (same_id id) (map id_of policy) ≡ is_some (find_subject id policy)
any_is id [] = refl
any_is id (subject ∷ rest) = rw (any_is id rest) (by (same_id id (id_of subject)))
  where
    by : (b : Bool) → (b || is_some (find_subject id rest)) ≡ is_some (cond b (Some subject) (find_subject id rest))
    by true = refl
    by false = refl

-- ---- drafts

pub right-nil : RightDraft []
right-nil = record { few = omega arith; distinct = refl; right = refl }

pub subjects-push : (draft : Draft) (line : ℕ) (subject : Subject) → subjects_of (draft ++ (line, subject) ∷ []) ≡ subjects_of draft ++ subject ∷ []
subjects-push draft line subject = map-append (λ (entry : ℕ × Subject). entry.1) draft ((line, subject) ∷ [])

pub subject_right : (line : ℕ) (kind : Kind) (name : List ℕ) (parent : Option (List ℕ)) (draft next : Draft) → is_name name ≡ true → all_of is_name parent ≡ true → RightDraft draft
    → with_subject line kind name parent draft ≡ Ok next → RightDraft next
unfolding with_subject
subject_right line kind name parent draft next named belongs r h =
    let p = second_ok (is_some (find_subject (record { kind = kind; name = name }) (subjects_of draft))) Repeated _ next h in
    let q = second_ok (nat_le max_subjects (length draft)) Limit _ next p.1 in
    let is : next ≡ draft ++ (line, new_subject kind name parent) ∷ [] = cc in
    let subjects = subjects-push draft line (new_subject kind name parent) in
    let absent : list_any (same_id (record { kind = kind; name = name })) (map id_of (subjects_of draft)) ≡ false = any_is (record { kind = kind; name = name }) (subjects_of draft) ∙ p.0 in
    let right_new : is_right_subject (new_subject kind name parent) ≡ true = new_right kind in
    rw is (record {
      few = rw (length-append draft ((line, new_subject kind name parent) ∷ [])) (let f = r.few in let g = q.0 in grind (arith, nat_tests));
      distinct = rw (subjects, map-append id_of (subjects_of draft) (new_subject kind name parent ∷ [])) (distinct-push (map id_of (subjects_of draft)) (record { kind = kind; name = name }) r.distinct absent);
      right = rw (subjects, list_all-append is_right_subject (subjects_of draft) (new_subject kind name parent ∷ []), r.right, right_new) refl;
    })
  where
    new_right : (k : Kind) → is_right_subject (new_subject k name parent) ≡ true
    new_right Group = right_whole (new_subject Group name parent) (record { name = named; parent = belongs; login = refl; enable = refl; secrets = refl; level = refl; services = refl; few = refl; rules = refl })
    new_right User = right_whole (new_subject User name parent) (record { name = named; parent = belongs; login = refl; enable = refl; secrets = refl; level = refl; services = refl; few = refl; rules = refl })

-- a list with a last element
pub split_back : {A : Type 0} (xs : List A) (parts : List A × A) → split_last xs ≡ Some parts → xs ≡ parts.0 ++ parts.1 ∷ []
split_back [] parts h = absurd cc
split_back {A = A} (x ∷ xs) parts h = by (split_last xs) refl (λ p e. split_back xs p e) h
  where
    by : (o : Option (List A × A)) → split_last xs ≡ o → ((p : List A × A) → split_last xs ≡ Some p → xs ≡ p.0 ++ p.1 ∷ []) → after_first x o ≡ Some parts → x ∷ xs ≡ parts.0 ++ parts.1 ∷ []
    by None e below k =
        let is : parts ≡ ([], x) = cc in
        let none : xs ≡ [] = empty xs e in
        rw (is, none) refl
      where
        empty : (ys : List A) → split_last ys ≡ None → ys ≡ []
        empty [] n = refl
        empty (y ∷ ys) n = absurd (never (split_last ys) n)
          where
            never : (o : Option (List A × A)) → after_first y o ≡ None → ⊥
            never None m = cc
            never (Some p) m = cc
    by (Some p) e below k =
        let is : parts ≡ (x ∷ p.0, p.1) = cc in
        rw is (ap (λ (ys : List A). x ∷ ys) (below p e))

right-present : (front : Draft) (line : ℕ) (old new : Subject) → Kept old new → RightDraft (front ++ (line, old) ∷ []) → RightDraft (front ++ (line, new) ∷ [])
right-present front line old new kept r =
    let before = subjects-push front line old in
    let after = subjects-push front line new in
    let all = sym (list_all-append is_right_subject (subjects_of front) (old ∷ [])) ∙ ap (list_all is_right_subject) (sym before) ∙ r.right in
    let fronts : list_all is_right_subject (subjects_of front) ≡ true = and_left _ _ all in
    let last : is_right_subject old ≡ true = and_left _ true (and_right _ _ all) in
    let still : is_right_subject new ≡ true = right_whole new (kept.right (right_parts old last)) in
    record {
      few = fits r.few;
      distinct = rw (after, map-append id_of (subjects_of front) (new ∷ []), kept.same, ← map-append id_of (subjects_of front) (old ∷ []), ← before) r.distinct;
      right = rw (after, list_all-append is_right_subject (subjects_of front) (new ∷ []), fronts, still) refl;
    }
  where
    fits : length (front ++ (line, old) ∷ []) ≤ max_subjects → length (front ++ (line, new) ∷ []) ≤ max_subjects
    fits few = let a = length-append front ((line, old) ∷ []) in let b = length-append front ((line, new) ∷ []) in omega arith

pub present_right : (change : Subject → Result Subject PolicyRefusal) (draft next : Draft) → ((old new : Subject) → change old ≡ Ok new → Kept old new) → RightDraft draft
    → with_present change draft ≡ Ok next → RightDraft next
unfolding with_present
present_right change draft next kept r h =
    let p = bind_ok (ok_or (split_last draft) NoSubject) _ next h in
    let q = bind_ok (change p.0.1.1) _ next p.2 in
    let is : next ≡ p.0.0 ++ (p.0.1.0, q.0) ∷ [] = cc in
    let was : draft ≡ p.0.0 ++ p.0.1 ∷ [] = split_back draft p.0 (some_of (split_last draft) NoSubject p.0 p.1) in
    rw is (right-present p.0.0 p.0.1.0 p.0.1.1 q.0 (kept p.0.1.1 q.0 q.1) (rw was at r))

-- ---- lines

named_right : (text name : List ℕ) → named text ≡ Ok name → is_name name ≡ true
named_right text name h = by (is_name text) refl (some_of (name_of text) BadName name h)
  where
    by : (b : Bool) → is_name text ≡ b → cond b (Some text) None ≡ Some name → is_name name ≡ true
    by true e k = let same : text ≡ name = cc in rw (← same) e
    by false e k = absurd cc

parent_right : (name rest : List ℕ) (ids : List ℕ × Option (List ℕ)) → with_parent name rest ≡ Ok ids → (is_name ids.0 ≡ true) × (all_of is_name ids.1 ≡ true)
unfolding with_parent
parent_right name rest ids h =
    let p = bind_ok (ok_or (split_at_first 32 rest) BadLine) _ ids h in
    let q = first_ok (bytes_eq p.0.0 (codes "in") && is_field p.0.1) _ BadLine ids p.2 in
    let s = bind_ok (named name) _ ids q.1 in
    let t = bind_ok (named p.0.1) _ ids s.2 in
    let is : ids ≡ (s.0, Some t.0) = cc in
    rw is (named_right name s.0 s.1, named_right p.0.1 t.0 t.1)

pub heading_right : (rest : List ℕ) (parts : Option (List ℕ × List ℕ)) (ids : List ℕ × Option (List ℕ)) → heading rest parts ≡ Ok ids → (is_name ids.0 ≡ true) × (all_of is_name ids.1 ≡ true)
unfolding heading
heading_right rest None ids h =
    let p = bind_ok (named rest) _ ids h in
    let is : ids ≡ (p.0, None) = cc in
    rw is (named_right rest p.0 p.1, refl)
heading_right rest (Some parts) ids h = parent_right parts.0 parts.1 ids h

begun_right : (number : ℕ) (kind : Kind) (rest : List ℕ) (draft next : Draft) → RightDraft draft
    → (heading rest (split_at_first 32 rest) >>= λ ids. with_subject number kind ids.0 ids.1 draft) ≡ Ok next → RightDraft next
begun_right number kind rest draft next r h =
    let p = bind_ok (heading rest (split_at_first 32 rest)) _ next h in
    let named = heading_right rest (split_at_first 32 rest) p.0 p.1 in
    subject_right number kind p.0.0 p.0.1 draft next named.0 named.1 r p.2

said_right : (said : Result ServiceLine PolicyRefusal) (draft next : Draft) → RightDraft draft → (said >>= λ line. with_present (with_service line) draft) ≡ Ok next → RightDraft next
said_right said draft next r h =
    let p = bind_ok said _ next h in
    present_right (with_service p.0) draft next (service_kept p.0) r p.2

words_right : (version : Version) (number : ℕ) (word rest : List ℕ) (draft next : Draft) → RightDraft draft → with_words version number word rest draft ≡ Ok next → RightDraft next
unfolding with_words
words_right version number word rest draft next r h =
    either_ok (bytes_eq word (codes "group")) _ _ next (λ k. begun_right number Group rest draft next r k) (λ k.
    either_ok (bytes_eq word (codes "user")) _ _ next (λ k. begun_right number User rest draft next r k) (λ k.
    either_ok (bytes_eq word (codes "service") && has_services version) _ _ next (λ k. said_right (allowed_by rest) draft next r k) (λ k.
    either_ok (bytes_eq word (codes "refuse") && has_services version) _ _ next (λ k. said_right (refused_by rest) draft next r k) (λ k.
    either_ok (bytes_eq word (codes "login")) _ _ next (λ k. present_right (with_login rest) draft next (login_kept rest) r k) (λ k.
    either_ok (bytes_eq word (codes "enable")) _ _ next (λ k. present_right (with_enable rest) draft next (enable_kept rest) r k) (λ k.
    either_ok (bytes_eq word (codes "login-hash") && has_hashes version) _ _ next (λ k. present_right (with_login_hash rest) draft next (login_hash_kept rest) r k) (λ k.
    either_ok (bytes_eq word (codes "enable-hash") && has_hashes version) _ _ next (λ k. present_right (with_enable_hash rest) draft next (enable_hash_kept rest) r k) (λ k.
    either_ok (bytes_eq word (codes "priv")) _ _ next (λ k. present_right (with_priv rest) draft next (priv_kept rest) r (first_ok (is_field rest) _ BadLine next k).1) (λ k.
    either_ok (bytes_eq word (codes "permit")) _ _ next (λ k. present_right (with_rule version Permit rest) draft next (rule_kept version Permit rest) r k) (λ k.
    present_right (with_rule version Deny rest) draft next (rule_kept version Deny rest) r (first_ok (bytes_eq word (codes "deny")) _ BadLine next k).1) k) k) k) k) k) k) k) k) k) h

trimmed_right : (version : Version) (number : ℕ) (line : List ℕ) (draft next : Draft) → RightDraft draft → with_trimmed version number line draft ≡ Ok next → RightDraft next
unfolding with_trimmed
trimmed_right version number line draft next r h =
    either_ok (is_blank line) (Ok draft) _ next (λ k. let same : next ≡ draft = cc in rw same r)
    (λ k. let p = bind_ok (ok_or (split_at_first 32 line) BadLine) _ next k in words_right version number p.0.0 p.0.1 draft next r p.2) h

line_right : (version : Version) (number : ℕ) (line : List ℕ) (draft next : Draft) → RightDraft draft → with_line version number line draft ≡ Ok next → RightDraft next
unfolding with_line
line_right version number line draft next r h =
    trimmed_right version number (without_leading_spaces line) draft next r (first_ok (is_text line) _ BadLine next h).1

pub placed_ok : {A : Type 0} (number : ℕ) (r : Result A PolicyRefusal) (x : A) → at_line number r ≡ Ok x → r ≡ Ok x
placed_ok number (Ok y) x h = cc
placed_ok number (Err e) x h = absurd cc

pub lines_right : (version : Version) (number : ℕ) (lines : List (List ℕ)) (draft next : Draft) → RightDraft draft → with_lines version number lines draft ≡ Ok next → RightDraft next
unfolding with_lines
lines_right version number [] draft next r h = let same : next ≡ draft = cc in rw same r
lines_right version number (line ∷ lines) draft next r h =
    let p = bind_ok (at_line number (with_line version number line draft)) _ next h in
    lines_right version (number + 1) lines p.0 next (line_right version number line draft p.0 r (placed_ok number (with_line version number line draft) p.0 p.1)) p.2

-- ---- chains

all_pass : (test : Subject → Bool) (draft : Draft) → find (λ (entry : ℕ × Subject). not (test entry.1)) draft ≡ None → list_all test (subjects_of draft) ≡ true
all_pass test [] h = refl
all_pass test (entry ∷ rest) h = by (test entry.1) (λ e. all_pass test rest e) h
  where
    by : (b : Bool) → (find (λ (entry : ℕ × Subject). not (test entry.1)) rest ≡ None → list_all test (subjects_of rest) ≡ true) → cond (not b) (Some entry) (find (λ (entry : ℕ × Subject). not (test entry.1)) rest) ≡ None → (b && list_all test (subjects_of rest)) ≡ true
    by true below k = below k
    by false below k = absurd cc

checked_ok : (test : Subject → Bool) (refusal : PolicyRefusal) (draft next : Draft) → checked test refusal draft ≡ Ok next → (next ≡ draft) × (list_all test (subjects_of draft) ≡ true)
unfolding checked
checked_ok test refusal draft next h = by (find (λ (entry : ℕ × Subject). not (test entry.1)) draft) refl h
  where
    by : (o : Option (ℕ × Subject)) → find (λ (entry : ℕ × Subject). not (test entry.1)) draft ≡ o
        → option_map_or (λ entry. Err (Refused entry.0 refusal)) o (Ok draft) ≡ Ok next → (next ≡ draft) × (list_all test (subjects_of draft) ≡ true)
    by None e k = (cc, all_pass test draft e)
    by (Some entry) e k = absurd cc

-- what passes is the draft's subjects
pub chains_same : (draft : Draft) (policy : List Subject) → with_right_chains draft ≡ Ok policy → policy ≡ subjects_of draft
unfolding with_right_chains
chains_same draft policy h =
    let p3 = bind_ok (checked (has_parent (subjects_of draft)) NoSuchParent draft >>= checked (ends_within (length draft) (subjects_of draft)) Cycle >>= checked (ends_within 8 (subjects_of draft)) TooDeep) _ policy h in
    let p2 = bind_ok (checked (has_parent (subjects_of draft)) NoSuchParent draft >>= checked (ends_within (length draft) (subjects_of draft)) Cycle) _ p3.0 p3.1 in
    let p1 = bind_ok (checked (has_parent (subjects_of draft)) NoSuchParent draft) _ p2.0 p2.1 in
    let c1 = checked_ok (has_parent (subjects_of draft)) NoSuchParent draft p1.0 p1.1 in
    let c2 = checked_ok (ends_within (length draft) (subjects_of draft)) Cycle p1.0 p2.0 p1.2 in
    let c3 = checked_ok (ends_within 8 (subjects_of draft)) TooDeep p2.0 p3.0 p2.2 in
    let given = p3.2 in
    let last : subjects_of p3.0 ≡ policy = cc in
    sym last ∙ ap subjects_of (c3.0 ∙ c2.0 ∙ c1.0)

pub chains_right : (draft : Draft) (policy : List Subject) → RightDraft draft → with_right_chains draft ≡ Ok policy → WellFormed policy
unfolding with_right_chains
chains_right draft policy r h =
    let p3 = bind_ok (checked (has_parent (subjects_of draft)) NoSuchParent draft >>= checked (ends_within (length draft) (subjects_of draft)) Cycle >>= checked (ends_within 8 (subjects_of draft)) TooDeep) _ policy h in
    let p2 = bind_ok (checked (has_parent (subjects_of draft)) NoSuchParent draft >>= checked (ends_within (length draft) (subjects_of draft)) Cycle) _ p3.0 p3.1 in
    let p1 = bind_ok (checked (has_parent (subjects_of draft)) NoSuchParent draft) _ p2.0 p2.1 in
    let c1 = checked_ok (has_parent (subjects_of draft)) NoSuchParent draft p1.0 p1.1 in
    let c2 = checked_ok (ends_within (length draft) (subjects_of draft)) Cycle p1.0 p2.0 p1.2 in
    let c3 = checked_ok (ends_within 8 (subjects_of draft)) TooDeep p2.0 p3.0 p2.2 in
    let same : p2.0 ≡ draft = c2.0 ∙ c1.0 in
    let end : p3.0 ≡ draft = c3.0 ∙ same in
    let is : policy ≡ subjects_of draft = let given = p3.2 in let last : subjects_of p3.0 ≡ policy = cc in sym last ∙ ap subjects_of end in
    rw is (record {
      few = rw (length-map draft (λ (entry : ℕ × Subject). entry.1)) r.few;
      distinct = r.distinct;
      right = r.right;
      parents = c1.1;
      short = sym (ap (λ (d : Draft). list_all (ends_within 8 (subjects_of draft)) (subjects_of d)) same) ∙ c3.1;
    })

-- what a text says is a well-formed policy
pub read_well_formed : (text : List ℕ) (policy : List Subject) → policy_of text ≡ Ok policy → WellFormed policy
unfolding policy_of
read_well_formed text policy h =
    let body = body_of (lines_of text) in
    let p = bind_ok (with_body body) with_right_chains policy h in
    chains_right p.0 policy (lines_right body.version body.number body.lines [] p.0 right-nil p.1) p.2
