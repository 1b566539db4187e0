-- What blocks answer, row by row, as tac_plus does. Nothing cites these: they are here so that a
-- definition which says something else doesn't pass.
use Rattle.std.proofs.Common.{◌≡◌, inl, inr, ℕ, ◌==◌, Bool, true, false, ◌||◌, List, [], ◌∷◌, ◌++◌, Option, Some, None, codes, refl, sym, ap, subst, ◌∙◌, arith}
use Rattle.std.specs.List.{list_any}
use Rattle.pol_names.specs.declared.decision.Verdict.{Verdict}
use Rattle.pol_names.specs.declared.decision.Verdict.TheVariants.{Permit, Deny}
use Rattle.posix_expression.specs.Syntax.{Expression, symbol, begin, concatenated}
use Rattle.posix_expression.specs.Finding.{Finds}
use Rattle.tac_plus_file.specs.declared.configuration.Rule.{Rule}
use Rattle.tac_plus_import.specs.Blocks.{said, Guess, FoundBy, Found, Answers}

abbrev rule : Verdict → List ℕ → Rule
rule verdict text = record { line = 1; verdict = verdict; expression = text }

-- `x`, and `^a`
abbrev letter : Expression
letter = symbol 120

abbrev first : Expression
first = concatenated begin (symbol 97)

has : ℕ → List ℕ → Bool
has byte text = list_any (λ b. b == byte) text

has-append : (byte : ℕ) (front back : List ℕ) → has byte (front ++ back) ≡ (has byte front || has byte back)
unfolding has
has-append byte [] back = refl
has-append byte (b ∷ front) back = by (b == byte) (has-append byte front back)
  where
    by : (test : Bool) → has byte (front ++ back) ≡ (has byte front || has byte back) → (test || has byte (front ++ back)) ≡ ((test || has byte front) || has byte back)
    by true later = refl
    by false later = later

-- where an `x` is found there is one
letter_has : (arguments : List ℕ) → Finds letter arguments → has 120 arguments ≡ true
unfolding has
letter_has arguments (before, text, after, whole, fits) =
    ap (has 120) (whole ∙ ap (λ (t : List ℕ). before ++ (t ++ after)) fits) ∙ has-append 120 before (120 ∷ after) ∙ or-true (has 120 before)
  where
    or-true : (b : Bool) → (b || true) ≡ true
    or-true true = refl
    or-true false = refl

first_begins : (arguments : List ℕ) → Finds first arguments → (rest : List ℕ) × (arguments ≡ 97 ∷ rest)
first_begins arguments (before, text, after, whole, (front, back, parts, (none, here), one)) =
    (after, whole ∙ ap (λ (b : List ℕ). b ++ (text ++ after)) here ∙ ap (λ (t : List ℕ). t ++ after) (parts ∙ ap (λ (f : List ℕ). f ++ back) none ∙ one))

module _ (name : List ℕ) (guess : Guess) (p q : List ℕ) (says : said name (codes "x") ≡ Some (letter, p)) (begins : said name (codes "^a") ≡ Some (first, q)) where
  found : (verdict : Verdict) (arguments : List ℕ) → Finds letter arguments → Found name guess (rule verdict (codes "x")) arguments
  found verdict arguments it = subst (λ (o : Option (Expression × List ℕ)). FoundBy o (guess (rule verdict (codes "x")) arguments) arguments) (sym says) it

  none : (verdict : Verdict) (arguments : List ℕ) → has 120 arguments ≡ false → Found name guess (rule verdict (codes "x")) arguments → ⊥
  none verdict arguments not it =
      let e : true ≡ false = sym (letter_has arguments (subst (λ (o : Option (Expression × List ℕ)). FoundBy o (guess (rule verdict (codes "x")) arguments) arguments) says it)) ∙ not in
      absurd cc

  -- the first that finds something answers, also where a later one says otherwise
  the_first_answers : Answers name guess (rule Deny (codes "x") ∷ rule Permit (codes "x") ∷ []) (codes "ax") (Some Deny)
  the_first_answers = inl (found Deny (codes "ax") (codes "a", codes "x", [], refl, refl), refl)

  -- one that finds nothing leaves it to the next
  the_next_answers : Answers name guess (rule Deny (codes "x") ∷ rule Permit (codes "^a") ∷ []) (codes "ab") (Some Permit)
  unfolding has
  the_next_answers = inr (
    none Deny (codes "ab") refl,
    inl (
      subst (λ (o : Option (Expression × List ℕ)). FoundBy o (guess (rule Permit (codes "^a")) (codes "ab")) (codes "ab")) (sym begins)
          ([], codes "a", codes "b", refl, ([], codes "a", refl, (refl, refl), refl)),
      refl,
    ),
  )

  -- where none finds anything, nothing answers: `^a` is at the beginning alone
  none_answers : Answers name guess (rule Permit (codes "x") ∷ rule Permit (codes "^a") ∷ []) (codes "ba") None
  unfolding has
  none_answers = inr (
    none Permit (codes "ba") refl,
    inr (
      (λ it. let e = first_begins (codes "ba") (subst (λ (o : Option (Expression × List ℕ)). FoundBy o (guess (rule Permit (codes "^a")) (codes "ba")) (codes "ba")) begins it) in
          let same : 98 ≡ 97 = ap head e.1 in absurd (omega arith)),
      refl,
    ),
  )
    where
      head : List ℕ → ℕ
      head [] = 0
      head (b ∷ bytes) = b
