-- What rules of a policy decide, one after another.
use Rattle.std.proofs.Common.{◌≡◌, ◌↔◌, ◌⊎◌, inl, inr, ℕ, Bool, true, false, IsTrue, List, [], ◌∷◌, ◌++◌, Option, Some, None, refl, sym, ap, ◌∙◌, if◌then◌else◌}
use Rattle.basics.specs.Symbol.{is_text}
use Rattle.pol_names.specs.declared.decision.Verdict.{Verdict}
use Rattle.pol_pattern.specs.Matching.{matches}
use Rattle.pol_pattern.specs.Spelling.{Holds}
use Rattle.pol_pattern.proofs.HeldTexts.{match_law}
use Rattle.posix_expression.specs.Syntax.{Expression}
use Rattle.posix_expression.specs.Finding.{Finds, FindsInLine}
use Rattle.tac_plus_import.specs.declared.block.PolicyRule.{PolicyRule}
use Rattle.tac_plus_import.specs.Lines.{IsLine, IsPatternOf}
use Rattle.tac_plus_import.specs.Rules.{decided}
use Rattle.tac_plus_import.specs.Joining.{DecideAlike, DecideAll, of_verdict}

-- the first answer, else the second
abbrev pub else_by : Option Verdict → Option Verdict → Option Verdict
else_by None later = later
else_by (Some verdict) later = Some verdict

pub decided-append : (first second : List PolicyRule) (line : List ℕ) → decided (first ++ second) line ≡ else_by (decided first line) (decided second line)
decided-append [] second line = refl
decided-append (rule ∷ rules) second line = by (matches rule.pattern line) (decided-append rules second line)
  where
    by : (test : Bool) → decided (rules ++ second) line ≡ else_by (decided rules line) (decided second line)
        → (if test then Some rule.verdict else decided (rules ++ second) line) ≡ else_by (if test then Some rule.verdict else decided rules line) (decided second line)
    by true later = refl
    by false later = later

-- what decides alike decides alike before the same rules, and after them
pub alike_before : (first second later : List PolicyRule) → DecideAlike first second → DecideAlike (first ++ later) (second ++ later)
alike_before first second later alike line texts =
    decided-append first later line ∙ ap (λ (d : Option Verdict). else_by d (decided later line)) (alike line texts) ∙ sym (decided-append second later line)

pub alike_after : (early first second : List PolicyRule) → DecideAlike first second → DecideAlike (early ++ first) (early ++ second)
alike_after early first second alike line texts =
    decided-append early first line ∙ ap (λ (d : Option Verdict). else_by (decided early line) d) (alike line texts) ∙ sym (decided-append early second line)

-- what is decided stays decided, whatever comes after
pub decided_first : (first later : List PolicyRule) (line : List ℕ) (verdict : Verdict) → decided first line ≡ Some verdict → decided (first ++ later) line ≡ Some verdict
decided_first first later line verdict e = decided-append first later line ∙ ap (λ (d : Option Verdict). else_by d (decided later line)) e

-- ---- one rule, by what its pattern finds

pub holds_true : (pattern line : List ℕ) → Holds pattern line → matches pattern line ≡ true
holds_true pattern line held = (match_law.same pattern line).1 held

pub true_holds : (pattern line : List ℕ) → matches pattern line ≡ true → Holds pattern line
true_holds pattern line e = (match_law.same pattern line).0 e

-- a line of the command has the arguments in which something is found
pub line_of : (name line : List ℕ) (expression : Expression) → FindsInLine name expression line → (arguments : List ℕ) × IsLine name arguments line
line_of name line expression (inl alone) = ([], inl (alone.0, refl))
line_of name line expression (inr more) = (more.0, inr more.1)

pub either_line : (name line : List ℕ) (both first second : Expression)
    → ((arguments : List ℕ) → Finds both arguments ↔ (Finds first arguments ⊎ Finds second arguments))
    → FindsInLine name both line ↔ (FindsInLine name first line ⊎ FindsInLine name second line)
either_line name line both first second law = (from, to)
  where
    from : FindsInLine name both line → FindsInLine name first line ⊎ FindsInLine name second line
    from (inl alone) = elim ((law []).0 alone.1) [ inl found ↦ inl (inl (alone.0, found)) | inr found ↦ inr (inl (alone.0, found)) ]
    from (inr more) = elim ((law more.0).0 more.2) [ inl found ↦ inl (inr (more.0, more.1, found)) | inr found ↦ inr (inr (more.0, more.1, found)) ]

    to : FindsInLine name first line ⊎ FindsInLine name second line → FindsInLine name both line
    to (inl (inl alone)) = inl (alone.0, (law []).1 (inl alone.1))
    to (inl (inr more)) = inr (more.0, more.1, (law more.0).1 (inl more.2))
    to (inr (inl alone)) = inl (alone.0, (law []).1 (inr alone.1))
    to (inr (inr more)) = inr (more.0, more.1, (law more.0).1 (inr more.2))

pub joined_alike : (name : List ℕ) (verdict : Verdict) (both first second : Expression) (pattern one other : List ℕ)
    → ((arguments : List ℕ) → Finds both arguments ↔ (Finds first arguments ⊎ Finds second arguments))
    → IsPatternOf name both pattern → IsPatternOf name first one → IsPatternOf name second other
    → DecideAlike (of_verdict verdict pattern ∷ []) (of_verdict verdict one ∷ of_verdict verdict other ∷ [])
joined_alike name verdict both first second pattern one other law whole left right line texts =
    by (matches pattern line) (matches one line) (matches other line) (match_law.same pattern line) (match_law.same one line) (match_law.same other line)
  where
    meet : Holds pattern line ↔ (Holds one line ⊎ Holds other line)
    meet =
        let cut = either_line name line both first second law in (
          (λ held. elim (cut.0 ((whole line texts).0 held)) [ inl found ↦ inl ((left line texts).1 found) | inr found ↦ inr ((right line texts).1 found) ]),
          (λ held. (whole line texts).1 (cut.1 (elim held [ inl it ↦ inl ((left line texts).0 it) | inr it ↦ inr ((right line texts).0 it) ]))),
        )

    by : (p a b : Bool) → (IsTrue p ↔ Holds pattern line) → (IsTrue a ↔ Holds one line) → (IsTrue b ↔ Holds other line)
        → (if p then Some verdict else None) ≡ (if a then Some verdict else (if b then Some verdict else None))
    by true true b lp la lb = refl
    by true false true lp la lb = refl
    by true false false lp la lb =
        elim (meet.0 (lp.0 refl)) [ inl held ↦ (let e : false ≡ true = la.1 held in absurd cc) | inr held ↦ (let e : false ≡ true = lb.1 held in absurd cc) ]
    by false true b lp la lb = let e : false ≡ true = lp.1 (meet.1 (inl (la.0 refl))) in absurd cc
    by false false true lp la lb = let e : false ≡ true = lp.1 (meet.1 (inr (lb.0 refl))) in absurd cc
    by false false false lp la lb = refl

-- ---- rules that decide all lines of a command

-- rules that speak of no other line change nothing after rules that decide all of them
pub all_alike : (name : List ℕ) (rules later : List PolicyRule)
    → ((line : List ℕ) (verdict : Verdict) → IsTrue (is_text line) → decided later line ≡ Some verdict → (arguments : List ℕ) × IsLine name arguments line)
    → DecideAll name rules → DecideAlike rules (rules ++ later)
all_alike name rules later only all line texts = sym (decided-append rules later line ∙ by (decided later line) refl)
  where
    by : (d : Option Verdict) → decided later line ≡ d → else_by (decided rules line) d ≡ decided rules line
    by None e = none (decided rules line)
      where
        none : (o : Option Verdict) → else_by o None ≡ o
        none None = refl
        none (Some v) = refl
    by (Some v) e =
        let is = only line v texts e in
        let there = all line is.0 texts is.1 in
        rw there.1 refl
