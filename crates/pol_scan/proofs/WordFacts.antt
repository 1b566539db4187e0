-- What stands at a place in a list of words that grows.
use Rattle.std.proofs.Common.{◌≡◌, ◌⊎◌, ◌<◌, ◌≤◌, ◌+◌, ℕ, zero, suc, List, [], ◌∷◌, ◌++◌, length, refl, sym, ap, ◌∙◌, subst, inl, inr, arith, length-append, append_assoc, reverse, ◌-◌}
use Rattle.std.specs.List.{slice_index_or}
use Rattle.std.proofs.lemmas.List.{get_or_append_left, get_or_push, reverse-append}
use Rattle.std.proofs.lemmas.Bool.{cases_lt}
use Rattle.pol_scan.specs.declared.words.Branch.{Branch}
use Rattle.pol_scan.specs.Words.{word_at, longer, with_longer}
use Rattle.pol_scan.specs.Branches.{words_from, words_along, AreRooted}

-- what stands in the list stays there when the list grows
pub word_at-append : (words more : List (List ℕ)) (i : ℕ) → i < length words → word_at (words ++ more) i ≡ word_at words i
word_at-append words more i h = get_or_append_left words more [] i h

pub length-with_longer : (words : List (List ℕ)) (number column : ℕ) → length (with_longer words number column) ≡ length words + 1
length-with_longer words number column = simp length-append

-- the new word stands last
pub word_at-with_longer : (words : List (List ℕ)) (number column : ℕ) → word_at (with_longer words number column) (length words) ≡ longer (word_at words number) column
word_at-with_longer words number column = get_or_push words (longer (word_at words number) column) [] (length words) refl

pub length-words_from : (words : List (List ℕ)) (branches : List Branch) → length (words_from words branches) ≡ length words + length branches
length-words_from words [] = omega arith
length-words_from words (b ∷ branches) =
    omega (arith, length-words_from (with_longer words b.parent b.column) branches, length-with_longer words b.parent b.column)

word_at-words_from : (words : List (List ℕ)) (branches : List Branch) (i : ℕ) → i < length words → word_at (words_from words branches) i ≡ word_at words i
word_at-words_from words [] i h = refl
word_at-words_from words (b ∷ branches) i h =
    word_at-words_from (with_longer words b.parent b.column) branches i (omega (arith, length-with_longer words b.parent b.column))
    ∙ word_at-append words (longer (word_at words b.parent) b.column ∷ []) i h

-- a word along a branch is its parent's with one more column
word_at-branch : (words : List (List ℕ)) (branches : List Branch) (k : ℕ) (d : Branch) → k < length branches → (slice_index_or branches k d).parent < length words + k
    → word_at (words_from words branches) (length words + k) ≡ longer (word_at (words_from words branches) (slice_index_or branches k d).parent) (slice_index_or branches k d).column
word_at-branch words [] k d h p = absurd (omega arith)
word_at-branch words (b ∷ branches) zero d h p =
    let more = with_longer words b.parent b.column in
    let size : length more ≡ length words + 1 = length-with_longer words b.parent b.column in
    ap (word_at (words_from more branches)) (omega arith)
    ∙ word_at-words_from more branches (length words) (omega arith)
    ∙ word_at-with_longer words b.parent b.column
    ∙ ap (λ w. longer w b.column) (sym (word_at-words_from more branches b.parent (omega arith) ∙ word_at-append words (longer (word_at words b.parent) b.column ∷ []) b.parent (omega arith)))
word_at-branch words (b ∷ branches) (suc k) d h p =
    let more = with_longer words b.parent b.column in
    let size : length more ≡ length words + 1 = length-with_longer words b.parent b.column in
    ap (word_at (words_from more branches)) (omega arith)
    ∙ word_at-branch more branches k d (omega arith) (omega arith)

pub length-words_along : (branches : List Branch) (words : List (List ℕ)) → words_along branches ≡ words → length words ≡ length branches + 1
length-words_along branches words e = omega (arith, ap length e, length-words_from ([] ∷ []) branches)

-- so is each but the first of those that are kept
pub word_at-along : (branches : List Branch) (k : ℕ) (d : Branch) → AreRooted branches → k < length branches
    → word_at (words_along branches) (k + 1) ≡ longer (word_at (words_along branches) (slice_index_or branches k d).parent) (slice_index_or branches k d).column
word_at-along branches k d rooted h =
    ap (word_at (words_along branches)) (omega arith) ∙ word_at-branch ([] ∷ []) branches k d h (omega (arith, rooted k d h))

pub rooted_push : (branches : List Branch) (b : Branch) → AreRooted branches → b.parent < length (words_along branches) → AreRooted (branches ++ b ∷ [])
rooted_push branches b rooted p k d h = by (cases_lt k (length branches))
  where
    by : (k < length branches) ⊎ (length branches ≤ k) → (slice_index_or (branches ++ b ∷ []) k d).parent ≤ k
    by (inl lt) = subst (λ (e : Branch). e.parent ≤ k) (sym (get_or_append_left branches (b ∷ []) d k lt)) (rooted k d lt)
    by (inr ge) =
        let e : length branches ≡ k = omega (arith, length-append branches (b ∷ [])) in
        subst (λ (x : Branch). x.parent ≤ k) (sym (get_or_push branches b d k e)) (omega (arith, length-words_from ([] ∷ []) branches))

pub word_at-first : (branches : List Branch) → word_at (words_along branches) 0 ≡ []
word_at-first branches = word_at-words_from ([] ∷ []) branches 0 (omega arith)

-- the branch along which a word was found
pub branch_of : (branches : List Branch) (words : List (List ℕ)) (at : ℕ) (b : Branch) → words_along branches ≡ words → AreRooted branches → 0 < at → at < length words
    → b ≡ slice_index_or branches (at - 1) b → (b.parent < at) × (word_at words at ≡ longer (word_at words b.parent) b.column)
branch_of branches words at b e rooted above h is =
    let within : at - 1 < length branches = omega (arith, length-words_along branches words e) in
    let low : b.parent ≤ at - 1 = subst (λ (x : Branch). x.parent ≤ at - 1) (sym is) (rooted (at - 1) b within) in
    let back : at - 1 + 1 ≡ at = omega arith in (
      omega arith,
      subst (λ ws. word_at ws at ≡ longer (word_at ws b.parent) b.column) e
          (ap (word_at (words_along branches)) (sym back)
          ∙ subst (λ (x : Branch). word_at (words_along branches) (at - 1 + 1) ≡ longer (word_at (words_along branches) x.parent) x.column) (sym is)
          (word_at-along branches (at - 1) b rooted within)),
    )

-- one column further to the front
pub longer_back : (whole word so_far : List ℕ) (column : ℕ) → whole ≡ longer word column ++ reverse so_far → whole ≡ word ++ reverse (so_far ++ column ∷ [])
longer_back whole word so_far column e = e ∙ append_assoc word (column ∷ []) (reverse so_far) ∙ ap (λ t. word ++ t) (sym (reverse-append so_far (column ∷ [])))
