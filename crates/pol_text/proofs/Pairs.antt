-- The lines and the subjects of a draft, side by side.
use Rattle.std.proofs.Common.{◌≡◌, ℕ, zero, suc, ◌+◌, ◌-◌, ◌<◌, List, [], ◌∷◌, ◌++◌, ◌≢◌, length, map, take, slice_get, slice_set, Some, None, refl, sym, ap, ◌∙◌, arith, length-append}
use Rattle.std.specs.List.{zip}
use Rattle.pol_names.specs.declared.subject_id.SubjectId.{SubjectId}
use Rattle.pol_text.specs.declared.subject.Subject.{Subject}
use Rattle.pol_text.specs.Policy.{id_of}
use Rattle.pol_text.specs.Text.{Draft, subjects_of}
use Rattle.pol_text.proofs.Keeps.{set_back}

pub firsts : {X Y : Type 0} (xs : List X) (ys : List Y) → length xs ≡ length ys → map (λ (p : X × Y). p.0) (zip xs ys) ≡ xs
firsts [] ys e = refl
firsts (x ∷ xs) [] e = absurd (omega arith)
firsts (x ∷ xs) (y ∷ ys) e = ap (λ l. x ∷ l) (firsts xs ys (omega arith))

pub seconds : {X Y : Type 0} (xs : List X) (ys : List Y) → length xs ≡ length ys → map (λ (p : X × Y). p.1) (zip xs ys) ≡ ys
seconds [] [] e = refl
seconds [] (y ∷ ys) e = absurd (omega arith)
seconds (x ∷ xs) [] e = absurd (omega arith)
seconds (x ∷ xs) (y ∷ ys) e = ap (λ l. y ∷ l) (seconds xs ys (omega arith))

pub zip_push : {X Y : Type 0} (xs : List X) (ys : List Y) (x : X) (y : Y) → length xs ≡ length ys → zip (xs ++ x ∷ []) (ys ++ y ∷ []) ≡ zip xs ys ++ (x, y) ∷ []
zip_push [] [] x y e = refl
zip_push [] (b ∷ ys) x y e = absurd (omega arith)
zip_push (a ∷ xs) [] x y e = absurd (omega arith)
zip_push (a ∷ xs) (b ∷ ys) x y e = ap (λ l. (a, b) ∷ l) (zip_push xs ys x y (omega arith))

pub as_long : {X Y : Type 0} (xs : List X) (ys : List Y) → length xs ≡ length ys → length (zip xs ys) ≡ length ys
as_long [] [] e = refl
as_long [] (y ∷ ys) e = absurd (omega arith)
as_long (x ∷ xs) [] e = absurd (omega arith)
as_long (x ∷ xs) (y ∷ ys) e = ap suc (as_long xs ys (omega arith))

-- the kinds and names of the subjects are those of the draft
pub drafted_ids : (lines : List ℕ) (subjects : List Subject) (draft : Draft) (keys : List SubjectId) → length lines ≡ length subjects → keys ≡ map id_of subjects → zip lines subjects ≡ draft
    → keys ≡ map id_of (subjects_of draft)
drafted_ids lines subjects draft keys long e view =
    e ∙ ap (map id_of) (sym (seconds lines subjects long)) ∙ ap (λ (d : Draft). map id_of (subjects_of d)) view

-- ---- what is at a place

slice_get-within : {X : Type 0} (xs : List X) (i : ℕ) (x : X) → slice_get xs i ≡ Some x → i < length xs
slice_get-within [] i x at = cc
slice_get-within (y ∷ xs) zero x at = omega arith
slice_get-within (y ∷ xs) (suc i) x at = let lt = slice_get-within xs i x at in omega arith

slice_get-there : {X : Type 0} (xs : List X) (i : ℕ) → i < length xs → slice_get xs i ≢ None
slice_get-there [] i lt none = omega arith
slice_get-there (x ∷ xs) zero lt none = cc
slice_get-there (x ∷ xs) (suc i) lt none = slice_get-there xs i (omega arith) none

-- ---- one more of each

module _ (lines more : List ℕ) (subjects next : List Subject) (line : ℕ) (subject : Subject) (long : length lines ≡ length subjects)
    (lines_now : more ≡ lines ++ line ∷ []) (subjects_now : next ≡ subjects ++ subject ∷ []) where
  pub pushed : (draft : Draft) (y : Subject) → zip lines subjects ≡ draft → subject ≡ y → zip more next ≡ draft ++ (line, y) ∷ []
  pushed draft y view same =
      ap (λ l. zip l next) lines_now ∙ ap (zip (lines ++ line ∷ [])) subjects_now ∙ zip_push lines subjects line subject long
      ∙ ap (λ (d : Draft). d ++ (line, subject) ∷ []) view ∙ ap (λ s. draft ++ (line, s) ∷ []) same

-- ---- the last of them

last_set : {X : Type 0} (xs : List X) (i : ℕ) (x : X) → length xs ≡ suc i → slice_set xs i x ≡ take i xs ++ x ∷ []
last_set [] i x long = absurd (omega arith)
last_set (y ∷ []) zero x long = refl
last_set (y ∷ z ∷ xs) zero x long = absurd (omega arith)
last_set (y ∷ xs) (suc i) x long = ap (λ l. y ∷ l) (last_set xs i x (omega arith))

record LastPair (lines : List ℕ) (front : List Subject) : Type 0 where
  before : List ℕ
  line : ℕ
  paired : (s : Subject) → zip lines (front ++ s ∷ []) ≡ zip before front ++ (line, s) ∷ []

last_pair : (lines : List ℕ) (front : List Subject) → length lines ≡ suc (length front) → LastPair lines front
last_pair [] front long = absurd (omega arith)
last_pair (n ∷ []) [] long = record { before = []; line = n; paired = λ s. refl }
last_pair (n ∷ m ∷ lines) [] long = absurd (omega arith)
last_pair (n ∷ lines) (x ∷ front) long =
    let rest = last_pair lines front (omega arith) in
    record { before = n ∷ rest.before; line = rest.line; paired = λ s. ap (λ l. (n, x) ∷ l) (rest.paired s) }

-- the present subject, and what stands before it
pub record Present (lines : List ℕ) (subjects : List Subject) (last : ℕ) (old : Subject) : Type 0 where
  pub before : List ℕ
  pub front : List Subject
  pub line : ℕ
  pub whole : subjects ≡ front ++ old ∷ []
  pub changed : (s : Subject) → slice_set subjects last s ≡ front ++ s ∷ []
  pub paired : (s : Subject) → zip lines (front ++ s ∷ []) ≡ zip before front ++ (line, s) ∷ []
  pub long : (s : Subject) → length lines ≡ length (front ++ s ∷ [])

pub present : (lines : List ℕ) (subjects : List Subject) (last : ℕ) (old : Subject) → length lines ≡ length subjects → last ≡ length subjects - 1
    → slice_get subjects last ≡ Some old → Present lines subjects last old
present lines subjects last old same is at =
    let some : length subjects ≡ suc last = let lt : last < length subjects = slice_get-within subjects last old at in omega arith in
    let front = take last subjects in
    let whole : subjects ≡ front ++ old ∷ [] = sym (set_back subjects last old at) ∙ last_set subjects last old some in
    let size : length subjects ≡ length (front ++ old ∷ []) = ap length whole in
    let sum : length (front ++ old ∷ []) ≡ length front + 1 = length-append front (old ∷ []) in
    let pair = last_pair lines front (omega arith) in
    record {
      before = pair.before;
      front = front;
      line = pair.line;
      whole = whole;
      changed = λ s. last_set subjects last s some;
      paired = pair.paired;
      long = λ s. let next : length (front ++ s ∷ []) ≡ length front + 1 = length-append front (s ∷ []) in omega arith;
    }

-- there is no subject
pub none_there : (lines : List ℕ) (subjects : List Subject) (last : ℕ) → last ≡ length subjects - 1 → slice_get subjects last ≡ None → zip lines subjects ≡ []
none_there [] [] last is none = refl
none_there (line ∷ lines) [] last is none = refl
none_there lines (subject ∷ subjects) last is none = absurd (slice_get-there (subject ∷ subjects) last (omega arith) none)
