-- Lines about services of one subject: one more goes last, and some are cleared.
use Rattle.std.proofs.Common.{◌≡◌, Bool, true, false, not, cond, ◌&&◌, ◌||◌, List, [], ◌∷◌, ◌++◌, length, nat_le, refl, sym, ◌∙◌, arith, ◌<◌, ◌≤◌, ◌+◌, length-append}
use Rattle.std.specs.List.{filter, list_any, list_all}
use Rattle.std.proofs.lemmas.Bool.{and_parts, and_from, or_parts, not-true, leb-true, le-leb}
use Rattle.std.proofs.lemmas.List.Folds.{list_all-append, list_any-append}
use Rattle.pol_names.specs.Service.{is_right_line, clash, any_clash}
use Rattle.pol_names.specs.declared.service.ServiceLine.{ServiceLine}
use Rattle.pol_text.specs.Policy.{max_services, none_clash, are_right_lines}

pub record RightLines (lines : List ServiceLine) : Type 0 where
  pub few : length lines ≤ max_services
  pub each : list_all is_right_line lines ≡ true
  pub apart : none_clash lines ≡ true

pub lines_parts : (lines : List ServiceLine) → are_right_lines lines ≡ true → RightLines lines
lines_parts lines h =
    let outer = and_parts (nat_le (length lines) max_services && list_all is_right_line lines) (none_clash lines) h in
    let inner = and_parts (nat_le (length lines) max_services) (list_all is_right_line lines) outer.0 in
    record { few = leb-true (length lines) max_services inner.0; each = inner.1; apart = outer.1 }

pub lines_whole : (lines : List ServiceLine) → RightLines lines → are_right_lines lines ≡ true
lines_whole lines r =
    and_from (nat_le (length lines) max_services && list_all is_right_line lines) (none_clash lines)
    (and_from (nat_le (length lines) max_services) (list_all is_right_line lines) (le-leb (length lines) max_services r.few) r.each) r.apart

-- ---- one more

none_push : (lines : List ServiceLine) (line : ServiceLine) → none_clash lines ≡ true → any_clash lines line ≡ false → none_clash (lines ++ line ∷ []) ≡ true
none_push [] line h none = refl
none_push (x ∷ rest) line h none =
    let parts = and_parts (not (list_any (clash x) rest)) (none_clash rest) h in
    let apart = or_parts (clash x line) (any_clash rest line) none in
    let other : list_any (clash x) rest ≡ false = not-true (list_any (clash x) rest) parts.0 in
    rw (list_any-append (clash x) rest (line ∷ []), other, apart.0, none_push rest line parts.1 apart.1) refl

pub lines_push : (lines : List ServiceLine) (line : ServiceLine) → are_right_lines lines ≡ true → is_right_line line ≡ true → any_clash lines line ≡ false → length lines < max_services
    → are_right_lines (lines ++ line ∷ []) ≡ true
lines_push lines line h right none room =
    let r = lines_parts lines h in
    lines_whole (lines ++ line ∷ []) (record {
      few = let long = length-append lines (line ∷ []) in omega arith;
      each = list_all-append is_right_line lines (line ∷ []) ∙ and_from (list_all is_right_line lines) (list_all is_right_line (line ∷ [])) r.each (and_from (is_right_line line) true right refl);
      apart = none_push lines line r.apart none;
    })

-- ---- fewer

any_filter : {X : Type 0} (test keep : X → Bool) (xs : List X) → list_any test xs ≡ false → list_any test (filter keep xs) ≡ false
any_filter test keep [] h = refl
any_filter {X = X} test keep (x ∷ xs) h = by (keep x) (any_filter test keep xs ((or_parts (test x) (list_any test xs) h).1))
  where
    by : (b : Bool) → list_any test (filter keep xs) ≡ false → list_any test (cond b (x ∷ filter keep xs) (filter keep xs)) ≡ false
    by true below = rw ((or_parts (test x) (list_any test xs) h).0, below) refl
    by false below = below

all_filter : {X : Type 0} (test keep : X → Bool) (xs : List X) → list_all test xs ≡ true → list_all test (filter keep xs) ≡ true
all_filter test keep [] h = refl
all_filter {X = X} test keep (x ∷ xs) h = by (keep x) (all_filter test keep xs ((and_parts (test x) (list_all test xs) h).1))
  where
    by : (b : Bool) → list_all test (filter keep xs) ≡ true → list_all test (cond b (x ∷ filter keep xs) (filter keep xs)) ≡ true
    by true below = and_from (test x) (list_all test (filter keep xs)) ((and_parts (test x) (list_all test xs) h).0) below
    by false below = below

pub few_filter : {X : Type 0} (keep : X → Bool) (xs : List X) → length (filter keep xs) ≤ length xs
few_filter keep [] = omega arith
few_filter {X = X} keep (x ∷ xs) = by (keep x) (few_filter keep xs)
  where
    by : (b : Bool) → length (filter keep xs) ≤ length xs → length (cond b (x ∷ filter keep xs) (filter keep xs)) ≤ length (x ∷ xs)
    by true le = omega arith
    by false le = omega arith

none_filter : (keep : ServiceLine → Bool) (lines : List ServiceLine) → none_clash lines ≡ true → none_clash (filter keep lines) ≡ true
none_filter keep [] h = refl
none_filter keep (x ∷ rest) h =
    let parts = and_parts (not (list_any (clash x) rest)) (none_clash rest) h in
    by (keep x) (any_filter (clash x) keep rest (not-true (list_any (clash x) rest) parts.0)) (none_filter keep rest parts.1)
  where
    by : (b : Bool) → list_any (clash x) (filter keep rest) ≡ false → none_clash (filter keep rest) ≡ true → none_clash (cond b (x ∷ filter keep rest) (filter keep rest)) ≡ true
    by true other below = rw (other, below) refl
    by false other below = below

pub lines_filter : (keep : ServiceLine → Bool) (lines : List ServiceLine) → are_right_lines lines ≡ true → are_right_lines (filter keep lines) ≡ true
lines_filter keep lines h =
    let r = lines_parts lines h in
    lines_whole (filter keep lines) (record {
      few = let fewer = few_filter keep lines in let few = r.few in omega arith;
      each = all_filter is_right_line keep lines r.each;
      apart = none_filter keep lines r.apart;
    })

-- ---- the first of them

none_front : (xs ys : List ServiceLine) → none_clash (xs ++ ys) ≡ true → none_clash xs ≡ true
none_front [] ys h = refl
none_front (x ∷ xs) ys h =
    let parts = and_parts (not (list_any (clash x) (xs ++ ys))) (none_clash (xs ++ ys)) h in
    let none : list_any (clash x) (xs ++ ys) ≡ false = not-true (list_any (clash x) (xs ++ ys)) parts.0 in
    let split = or_parts (list_any (clash x) xs) (list_any (clash x) ys) (sym (list_any-append (clash x) xs ys) ∙ none) in
    rw (split.0, none_front xs ys parts.1) refl

pub lines_front : (xs ys : List ServiceLine) → are_right_lines (xs ++ ys) ≡ true → are_right_lines xs ≡ true
lines_front xs ys h =
    let r = lines_parts (xs ++ ys) h in
    let all = sym (list_all-append is_right_line xs ys) ∙ r.each in
    lines_whole xs (record {
      few = let long = length-append xs ys in let few = r.few in omega arith;
      each = (and_parts (list_all is_right_line xs) (list_all is_right_line ys) all).0;
      apart = none_front xs ys r.apart;
    })

-- ---- one after another

-- none of the lines before it clashes with a line
pub none_before : (done rest : List ServiceLine) (line : ServiceLine) → none_clash (done ++ line ∷ rest) ≡ true → any_clash done line ≡ false
none_before [] rest line h = refl
none_before (x ∷ done) rest line h =
    let parts = and_parts (not (list_any (clash x) (done ++ line ∷ rest))) (none_clash (done ++ line ∷ rest)) h in
    let other : list_any (clash x) (done ++ line ∷ rest) ≡ false = not-true (list_any (clash x) (done ++ line ∷ rest)) parts.0 in
    let split = or_parts (list_any (clash x) done) (list_any (clash x) (line ∷ rest)) (sym (list_any-append (clash x) done (line ∷ rest)) ∙ other) in
    let here = or_parts (clash x line) (list_any (clash x) rest) split.1 in
    rw (here.0, none_before done rest line parts.1) refl
