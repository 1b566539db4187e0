-- Marks of which a loop moves one part after another.
use Rattle.std.proofs.Common.{◌≡◌, ℕ, ◌+◌, ◌-◌, ◌≤◌, Bool, ◌||◌, List, [], ◌++◌, length, take, drop, refl, sym, ap, ◌∙◌, append_assoc, append-nil, length-append, length-take-le, length-drop, arith}
use borrow.Rule.Slice.PartMut.{put_mid}
use Rattle.std.proofs.lemmas.List.{drop_all, take_at, drop_at, take-take, drop-take, drop-drop}
use Rattle.pol_pattern.specs.Flat.{Factor, Term, put, Terms, alt}
use Rattle.pol_pattern.specs.Matching.{factor_positions, term_positions, terms_positions, factor_ends, term_ends, terms_end, factor_moved, term_moved, terms_moved}

-- what stands after a write from a place on
pub put_rest : (marks rest : List Bool) (place : ℕ) → put_mid place (length marks - place) marks rest ≡ take place marks ++ rest
put_rest marks rest place =
    let none : drop (length marks - place) (drop place marks) ≡ [] = drop_all (length marks - place) (drop place marks) (omega (arith, length-drop place marks)) in
    rw none (ap (λ (t : List Bool). take place marks ++ t) (append-nil rest))

-- what a write of a part leaves before its end, and after it
pub record Writes (marks part after : List Bool) (place count next : ℕ) : Type 0 where
  pub front : take next after ≡ take place marks ++ part
  pub back : drop next after ≡ drop count (drop place marks)
  pub wide : length after ≡ length marks

pub part_writes : (marks part after : List Bool) (place count : ℕ) → after ≡ take place marks ++ (part ++ drop count (drop place marks))
    → place + count ≤ length marks → length part ≡ count → Writes marks part after place count (place + count)
part_writes marks part after place count e le n =
    let done = take place marks ++ part in
    let left = drop count (drop place marks) in
    let whole : after ≡ done ++ left = e ∙ sym (append_assoc (take place marks) part left) in
    let long : length done ≡ place + count = omega (arith, length-append (take place marks) part, length-take-le place marks (omega arith)) in
    record {
      front = rw whole (take_at done left (place + count) long);
      back = rw whole (drop_at done left (place + count) long);
      wide = rw whole (omega (arith, length-append done left, length-drop count (drop place marks), length-drop place marks));
    }

-- ---- reading the marks from the left

pub term_ends-put : (factor : Factor) (term : Term) (before : Bool) (marks : List Bool)
    → term_ends (put factor term) before (take (factor_positions factor + term_positions term) marks)
    ≡ term_ends term (factor_ends factor before (take (factor_positions factor) marks)) (take (term_positions term) (drop (factor_positions factor) marks))
term_ends-put factor term before marks =
    let n = factor_positions factor in
    let m = term_positions term in
    let le : n ≤ n + m = omega arith in
    rw (take-take n (n + m) marks le, drop-take n m marks) refl

pub terms_end-alt : (term : Term) (terms : Terms) (before : Bool) (marks : List Bool)
    → terms_end (alt term terms) before (take (term_positions term + terms_positions terms) marks)
    ≡ (term_ends term before (take (term_positions term) marks) || terms_end terms before (take (terms_positions terms) (drop (term_positions term) marks)))
terms_end-alt term terms before marks =
    let n = term_positions term in
    let m = terms_positions terms in
    let le : n ≤ n + m = omega arith in
    rw (take-take n (n + m) marks le, drop-take n m marks) refl

pub term_moved-put : (factor : Factor) (term : Term) (before : Bool) (symbol : ℕ) (marks : List Bool)
    → term_moved (put factor term) before symbol (take (factor_positions factor + term_positions term) marks)
    ≡ factor_moved factor before symbol (take (factor_positions factor) marks)
    ++ term_moved term (factor_ends factor before (take (factor_positions factor) marks)) symbol (take (term_positions term) (drop (factor_positions factor) marks))
term_moved-put factor term before symbol marks =
    let n = factor_positions factor in
    let m = term_positions term in
    let le : n ≤ n + m = omega arith in
    rw (take-take n (n + m) marks le, drop-take n m marks) refl

pub terms_moved-alt : (term : Term) (terms : Terms) (before : Bool) (symbol : ℕ) (marks : List Bool)
    → terms_moved (alt term terms) before symbol (take (term_positions term + terms_positions terms) marks)
    ≡ term_moved term before symbol (take (term_positions term) marks) ++ terms_moved terms before symbol (take (terms_positions terms) (drop (term_positions term) marks))
terms_moved-alt term terms before symbol marks =
    let n = term_positions term in
    let m = terms_positions terms in
    let le : n ≤ n + m = omega arith in
    rw (take-take n (n + m) marks le, drop-take n m marks) refl

-- ---- one part further: the marks before it have moved, and those after it have not

regroup : (done part moved left : List Bool) → (done ++ part) ++ (moved ++ left) ≡ done ++ ((part ++ moved) ++ left)
regroup done part moved left = simp append_assoc

pub term_moved-more : (factor : Factor) (term : Term) (before : Bool) (symbol : ℕ) (marks part after : List Bool) (place next : ℕ)
    → Writes marks part after place (factor_positions factor) next
    → part ≡ factor_moved factor before symbol (take (factor_positions factor) (drop place marks))
    → take next after
    ++ (term_moved term (factor_ends factor before (take (factor_positions factor) (drop place marks))) symbol (take (term_positions term) (drop next after))
    ++ drop (term_positions term) (drop next after))
    ≡ take place marks
    ++ (term_moved (put factor term) before symbol (take (factor_positions factor + term_positions term) (drop place marks))
    ++ drop (factor_positions factor + term_positions term) (drop place marks))
term_moved-more factor term before symbol marks part after place next w e =
    let n = factor_positions factor in
    let m = term_positions term in
    let behind = drop place marks in
    rw (w.front, w.back, e, term_moved-put factor term before symbol behind, ← drop-drop m n behind)
    (regroup (take place marks) (factor_moved factor before symbol (take n behind))
    (term_moved term (factor_ends factor before (take n behind)) symbol (take m (drop n behind))) (drop m (drop n behind)))

pub terms_moved-more : (term : Term) (terms : Terms) (before : Bool) (symbol : ℕ) (marks part after : List Bool) (place next : ℕ)
    → Writes marks part after place (term_positions term) next
    → part ≡ term_moved term before symbol (take (term_positions term) (drop place marks))
    → take next after
    ++ (terms_moved terms before symbol (take (terms_positions terms) (drop next after)) ++ drop (terms_positions terms) (drop next after))
    ≡ take place marks
    ++ (terms_moved (alt term terms) before symbol (take (term_positions term + terms_positions terms) (drop place marks))
    ++ drop (term_positions term + terms_positions terms) (drop place marks))
terms_moved-more term terms before symbol marks part after place next w e =
    let n = term_positions term in
    let m = terms_positions terms in
    let behind = drop place marks in
    rw (w.front, w.back, e, terms_moved-alt term terms before symbol behind, ← drop-drop m n behind)
    (regroup (take place marks) (term_moved term before symbol (take n behind))
    (terms_moved terms before symbol (take m (drop n behind))) (drop m (drop n behind)))
