-- What was worked out of two inputs.
use Rattle.std.proofs.Common.{◌≡◌, ◌≤◌, ◌++◌, ℕ, List, length, Option, Some, None, Result, Ok, Err, sym, subst, append-nil, ◌∙◌}
use Rattle.std.specs.Global.{Vec}
use Rattle.std.specs.Io.KnownBytes.{Consumes, IsAtEnd}
use Rattle.tac_io.specs.declared.reading.InputFault.{InputFault}
use Rattle.tac_io.specs.declared.reading.InputFault.TheVariants as inputs
use Rattle.tac_io.specs.Answering.{IsWorked, ComesTo, max_input}
use Rattle.tac_review.specs.Reading.{given, Wanted}
use Rattle.tac_review.specs.declared.task.ReviewEnd.{ReviewEnd}

-- what was read to its end is all that there was
come : (wanted : Wanted) (one two output : List ℕ) (end : ReviewEnd) (old new : Option (List ℕ)) → Consumes old new one → IsAtEnd new → length one ≤ max_input → wanted one two output end
    → given old wanted two output end
come wanted one two output end None new consumes at_end few is = tt
come wanted one two output end (Some text) None consumes at_end few is = absurd consumes
come wanted one two output end (Some text) (Some rest) consumes at_end few is =
    let whole : one ≡ text = sym (append-nil one) ∙ subst (λ (left : List ℕ). one ++ left ≡ text) at_end (sym consumes) in
    (subst (λ (t : List ℕ). length t ≤ max_input) whole few, subst (λ (t : List ℕ). wanted t two output end) whole is)

-- what was worked out of the second, given the first
pub worked_given : (wanted : Wanted) (one : List ℕ) (old new second : Option (List ℕ)) (answer : Result (Vec ℕ × ReviewEnd) InputFault) → Consumes old new one → IsAtEnd new → length one ≤ max_input
    → IsWorked (wanted one) second answer → IsWorked (given old wanted) second answer
worked_given wanted one old new None (Ok output) consumes at_end few is = tt
worked_given wanted one old new (Some two) (Ok output) consumes at_end few is = (is.0, come wanted one two output.0.items output.1 old new consumes at_end few is.1)
worked_given wanted one old new second (Err inputs.TooLong) consumes at_end few is = is
worked_given wanted one old new second (Err inputs.Failed) consumes at_end few is = tt
worked_given wanted one old new second (Err inputs.Memory) consumes at_end few is = tt

-- what was worked out of all that was read
pub comes_to : (works : List ℕ → List ℕ → ReviewEnd → Type 0) (text output : List ℕ) (end : ReviewEnd) (old new : Option (List ℕ)) → Consumes old new text → IsAtEnd new → length text ≤ max_input → works text output end
    → ComesTo works old output end
comes_to works text output end None new consumes at_end few is = tt
comes_to works text output end (Some all) None consumes at_end few is = absurd consumes
comes_to works text output end (Some all) (Some rest) consumes at_end few is =
    let whole : text ≡ all = sym (append-nil text) ∙ subst (λ (left : List ℕ). text ++ left ≡ all) at_end (sym consumes) in
    (subst (λ (t : List ℕ). length t ≤ max_input) whole few, subst (λ (t : List ℕ). works t output end) whole is)
