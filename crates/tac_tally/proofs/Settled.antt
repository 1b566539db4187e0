-- Marks that are put in the place of others.
use Rattle.std.proofs.Common.{◌≡◌, ℕ, zero, suc, ◌<◌, Bool, true, false, ◌||◌, cond, eqb, List, [], ◌∷◌, length, map, set, get_or, replicate, Option, Some, None, unwrap_or, refl, sym, ap, subst, ◌∙◌, arith, inl, inr, Result, Ok, Err}
use Rattle.std.specs.Prelude.{slice_get, IfOk}
use Rattle.std.specs.Option.{option_map_or}
use Rattle.std.specs.List.{list_any, fold, All}
use Rattle.std.proofs.lemmas.Bool.{cases_Bool, cond-true, cond-false, eqb-true, eqb-false}
use Rattle.std.proofs.lemmas.List.Elements.{All-head, All-tail}
use Rattle.std.proofs.lemmas.List.{length-set, length-map, length-replicate, get_or-set_same, get_or-set_other, get_or-replicate, ext_get_or}
use Rattle.tac_request.specs.declared.record.Record.{Record}
use Rattle.tac_tally.specs.Book.{Entry, items}
use Rattle.tac_tally.specs.Accounts.{stands_at, ArePlaces, with_mark_at}
use Rattle.tac_tally.specs.Recount.{is_denied, is_one_of, recount_of, settled, remarked, marked, spread, with_marks, mark_at, marks_at}
use Rattle.tac_tally.specs.declared.recount.Mark.{Mark}
use Rattle.tac_tally.proofs.Remarked.{length-with_mark_at}

-- ---- putting in what is spread

length-settled : (anew : List (Option Bool)) (xs : List Entry) → length (settled anew xs) ≡ length xs
length-settled [] xs = refl
length-settled (a ∷ anew) [] = refl
length-settled (a ∷ anew) (x ∷ xs) = ap suc (length-settled anew xs)

settled-none : (n : ℕ) (xs : List Entry) → settled (replicate n None) xs ≡ xs
settled-none zero xs = refl
settled-none (suc n) [] = refl
settled-none (suc n) (x ∷ xs) = ap (λ l. x ∷ l) (settled-none n xs)

settled-set : (anew : List (Option Bool)) (xs : List Entry) (place : ℕ) (denied : Bool) → place < length anew
    → settled (set anew place (Some denied)) xs ≡ with_mark_at place denied (settled anew xs)
settled-set [] xs place denied lt = absurd (omega arith)
settled-set (a ∷ anew) [] zero denied lt = refl
settled-set (a ∷ anew) [] (suc place) denied lt = refl
settled-set (a ∷ anew) (x ∷ xs) zero denied lt = refl
settled-set (a ∷ anew) (x ∷ xs) (suc place) denied lt = ap (λ l. record x { denied = unwrap_or a x.denied } ∷ l) (settled-set anew xs place denied (omega arith))

settled_fold : (marks : List Mark) (anew : List (Option Bool)) (xs : List Entry) → All (λ mark. mark.place < length anew) marks
    → settled (fold (λ all mark. set all mark.place (Some mark.denied)) anew marks) xs ≡ with_marks marks (settled anew xs)
settled_fold [] anew xs within = refl
settled_fold (mark ∷ marks) anew xs within =
    let next = set anew mark.place (Some mark.denied) in
    let size = length-set anew mark.place (Some mark.denied) in
    settled_fold marks next xs (subst (λ n. All (λ (m : Mark). m.place < n) marks) (sym size) (All-tail (λ (m : Mark). m.place < length anew) mark marks within))
    ∙ ap (with_marks marks) (settled-set anew xs mark.place mark.denied (All-head (λ (m : Mark). m.place < length anew) mark marks within))

pub settled-spread : (size : ℕ) (marks : List Mark) (xs : List Entry) → All (λ mark. mark.place < size) marks → settled (spread size marks) xs ≡ with_marks marks xs
settled-spread size marks xs within =
    settled_fold marks (replicate size None) xs (subst (λ n. All (λ (m : Mark). m.place < n) marks) (sym (length-replicate size None)) within)
    ∙ ap (with_marks marks) (settled-none size xs)

-- ---- how long it is

length_fold : (marks : List Mark) (anew : List (Option Bool)) → length (fold (λ all mark. set all mark.place (Some mark.denied)) anew marks) ≡ length anew
length_fold [] anew = refl
length_fold (mark ∷ marks) anew = length_fold marks (set anew mark.place (Some mark.denied)) ∙ length-set anew mark.place (Some mark.denied)

pub length-spread : (size : ℕ) (marks : List Mark) → length (spread size marks) ≡ size
length-spread size marks = length_fold marks (replicate size None) ∙ length-replicate size None

pub length-with_marks : (marks : List Mark) (xs : List Entry) → length (with_marks marks xs) ≡ length xs
length-with_marks [] xs = refl
length-with_marks (mark ∷ marks) xs = length-with_marks marks (with_mark_at mark.place mark.denied xs) ∙ length-with_mark_at mark.place mark.denied xs

-- ---- marks at places, each by what is denied there

chosen : (same later : Bool) (one all : Option Bool) → cond later one (cond same one all) ≡ cond (same || later) one all
chosen true true one all = refl
chosen true false one all = refl
chosen false true one all = refl
chosen false false one all = refl

module _ (denies : List ℕ → List ℕ → Bool) (records : List Record) where
  abbrev denied_at : ℕ → Option Bool
  denied_at place = Some (mark_at denies records place).denied

  set_at_place : (all : List (Option Bool)) (q place : ℕ) → place < length all → get_or (set all q (denied_at q)) place None ≡ cond (eqb place q) (denied_at place) (get_or all place None)
  set_at_place all q place lt = elim (cases_Bool (eqb place q)) [
    | inl y ↦
        let same : place ≡ q = eqb-true place q y in
        rw (← same) (get_or-set_same all place (denied_at place) None lt) ∙ sym (cond-true (eqb place q) (denied_at place) (get_or all place None) y)
    | inr n ↦ get_or-set_other all q place (denied_at q) None (eqb-false place q n) ∙ sym (cond-false (eqb place q) (denied_at place) (get_or all place None) n)
  ]

  spread_at : (places : List ℕ) (all : List (Option Bool)) (place : ℕ) → place < length all
      → get_or (fold (λ l mark. set l mark.place (Some mark.denied)) all (marks_at denies records places)) place None ≡ cond (list_any (eqb place) places) (denied_at place) (get_or all place None)
  spread_at [] all place lt = refl
  spread_at (q ∷ places) all place lt =
      spread_at places (set all q (denied_at q)) place (rw (length-set all q (denied_at q)) lt)
      ∙ ap (cond (list_any (eqb place) places) (denied_at place)) (set_at_place all q place lt)
      ∙ chosen (eqb place q) (list_any (eqb place) places) (denied_at place) (get_or all place None)

-- the marks anew of the entries that pass a test
abbrev pub anew : (List ℕ → List ℕ → Bool) → (Entry → Bool) → List Entry → List (Option Bool)
anew denies test xs = map (λ e. cond (test e) (Some (is_denied denies e.item)) None) xs

anew_at : (denies : List ℕ → List ℕ → Bool) (test : Entry → Bool) (xs : List Entry) (place : ℕ) → place < length xs
    → cond (stands_at test xs place) (Some (option_map_or (is_denied denies) (slice_get (items xs) place) false)) None ≡ get_or (anew denies test xs) place None
anew_at denies test [] place lt = absurd (omega arith)
anew_at denies test (x ∷ xs) zero lt = refl
anew_at denies test (x ∷ xs) (suc place) lt = anew_at denies test xs place (omega arith)

pub spread-places : (denies : List ℕ → List ℕ → Bool) (test : Entry → Bool) (xs : List Entry) (places : List ℕ) → ArePlaces test xs places
    → spread (length xs) (marks_at denies (items xs) places) ≡ anew denies test xs
spread-places denies test xs places are =
    let size = length-spread (length xs) (marks_at denies (items xs) places) in
    ext_get_or None _ _ (size ∙ sym (length-map xs (λ e. cond (test e) (Some (is_denied denies e.item)) None)))
    (λ place lt.
    let here : place < length xs = subst (λ n. place < n) size lt in
    spread_at denies (items xs) places (replicate (length xs) None) place (subst (λ n. place < n) (sym (length-replicate (length xs) None)) here)
    ∙ ap (cond (list_any (eqb place) places) (denied_at denies (items xs) place)) (get_or-replicate (length xs) place None None here)
    ∙ ap (λ b. cond b (denied_at denies (items xs) place) None) (are place)
    ∙ anew_at denies test xs place here)

-- ---- of some users, and of all

pub anew-users : (denies : List ℕ → List ℕ → Bool) (users : List (List ℕ)) (xs : List Entry) → anew denies (λ e. is_one_of users e.item.user) xs ≡ recount_of denies users (items xs)
anew-users denies users [] = refl
anew-users denies users (x ∷ xs) = rw (anew-users denies users xs) refl

with_mark-is : (denies : List ℕ → List ℕ → Bool) (entry : Entry) (own : Bool)
    → ◌≡◌ {A = Entry} (record entry { denied = unwrap_or (cond own (Some (is_denied denies entry.item)) None) entry.denied }) (cond own (record entry { denied = is_denied denies entry.item }) entry)
with_mark-is denies entry true = refl
with_mark-is denies entry false = refl

-- a recount that is settled leaves the entries of these users with their marks anew
pub settled-recount_of : (denies : List ℕ → List ℕ → Bool) (users : List (List ℕ)) (entries : List Entry)
    → settled (recount_of denies users (items entries)) entries ≡ remarked denies users entries
settled-recount_of denies users [] = refl
settled-recount_of denies users (entry ∷ rest) =
    rw (settled-recount_of denies users rest) (ap (λ e. e ∷ remarked denies users rest) (with_mark-is denies entry (is_one_of users entry.item.user)))

-- once all are settled, each entry has its mark anew
pub settled-all : (denies : List ℕ → List ℕ → Bool) (entries : List Entry) → settled (anew denies (λ entry. true) entries) entries ≡ marked denies (items entries)
settled-all denies [] = refl
settled-all denies (entry ∷ rest) = ap (λ l. record { item = entry.item; denied = is_denied denies entry.item } ∷ l) (settled-all denies rest)

-- what is true of what a call returned
pub if_ok : {A E : Type 0} {P Q : A → Type 0} (r : Result A E) → ((a : A) → P a → Q a) → IfOk r P → IfOk r Q
if_ok (Ok a) f p = f a p
if_ok (Err e) f p = tt
