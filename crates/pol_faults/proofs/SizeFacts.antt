-- Rules along the chain of a subject that is too large.
use Rattle.std.proofs.Common.{◌≡◌, ◌∷◌, ◌++◌, ◌||◌, [], ℕ, ◌+◌, nat_eq, All, Bool, true, false, List, Option, Some, None, IfSome, refl, ap, ◌∙◌, arith, if◌then◌else◌}
use Rattle.std.specs.List.{list_any}
use Rattle.std.proofs.lemmas.List.Elements.{All-nil, All-cons}
use Rattle.std.proofs.lemmas.List.Folds.{list_any-append}
use Rattle.std.proofs.lemmas.Bool.Decides.{nat_tests}
use Rattle.pol_words.specs.Places.{noted}
use Rattle.pol_words.specs.declared.finding.Finding.TheVariants.{AfterSearch}
use Rattle.pol_words.specs.declared.remark.Found.{Found}
use Rattle.pol_faults.specs.Sizes.{IsSearch, is_rule_along, along_after, rules_from}
use Rattle.pol_faults.specs.declared.chains.Heading.{Heading}

-- these numbers are among those
abbrev pub Among : List ℕ → List ℕ → Type 0
Among some all = (n : ℕ) → list_any (nat_eq n) some ≡ true → list_any (nat_eq n) all ≡ true

or_true : (x : Bool) → (x || true) ≡ true
or_true true = refl
or_true false = refl

begins : (number : ℕ) (rest : List ℕ) → list_any (nat_eq number) (number ∷ rest) ≡ true
begins number rest =
    let same : nat_eq number number ≡ true = grind (arith, nat_tests) in
    ap (λ (b : Bool). b || list_any (nat_eq number) rest) same

module _ (headings : List Heading) (large : Heading) (all : List ℕ) where
  -- what is told of a line is told of a rule along the chain
  pub one_told : (along : Bool) (number : ℕ) (line : List ℕ) (lines : List (List ℕ)) (found : Option Found)
      → Among (rules_from headings large along number (line ∷ lines)) all
      → IfSome found (λ told. (is_rule_along along line ≡ true) × (told.finding ≡ AfterSearch)) → All (IsSearch all) (noted number found)
  one_told along number line lines None among so = All-nil (IsSearch all)
  one_told along number line lines (Some f) among so =
      let later = rules_from headings large (along_after headings large along line) (number + 1) lines in
      let here : list_any (nat_eq number) (rules_from headings large along number (line ∷ lines)) ≡ true =
      ap (λ (b : Bool). list_any (nat_eq number) ((if b then number ∷ [] else []) ++ later)) so.0 ∙ begins number later in
      All-cons (IsSearch all) _ [] (among number here, so.1) (All-nil (IsSearch all))

  -- the lines after it
  pub later_among : (along : Bool) (number : ℕ) (line : List ℕ) (lines : List (List ℕ)) → Among (rules_from headings large along number (line ∷ lines)) all
      → Among (rules_from headings large (along_after headings large along line) (number + 1) lines) all
  later_among along number line lines among n e =
      let own : List ℕ = if is_rule_along along line then number ∷ [] else [] in
      let later = rules_from headings large (along_after headings large along line) (number + 1) lines in
      among n (list_any-append (nat_eq n) own later ∙ ap (λ (b : Bool). list_any (nat_eq n) own || b) e ∙ or_true (list_any (nat_eq n) own))
