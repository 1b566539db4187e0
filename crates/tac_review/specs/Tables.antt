-- Tables of questions and of cases, a line for each (docs/REVIEW.md).
use Rattle.std.specs.Prelude.{ℕ, ◌+◌, List, [], ◌∷◌, ◌++◌, ◌==◌, codes}
use Rattle.std.specs.Prelude.{Option, Some, None, Result, Ok, Err, if◌then◌else◌, option_map}
use Rattle.std.specs.Fmt.{decimal}
use Rattle.basics.specs.Lines.{without_leading_spaces}
use Rattle.pol_text.specs.declared.subject.Subject.{Subject}
use Rattle.tac_desk.specs.declared.query.Query.{Query}
use Rattle.tac_console.specs.Faults.{fault_line}
use Rattle.tac_review.specs.Asking.{question_of, answer_to}
use Rattle.tac_review.specs.Cases.{case_of, is_so, found_instead}
use Rattle.tac_review.specs.declared.want.Want.{Want}
use Rattle.tac_review.specs.declared.task.ReviewEnd.{ReviewEnd}
use Rattle.tac_review.specs.declared.task.ReviewEnd.TheVariants.{Done, Differs}
use Rattle.tac_review.specs.declared.task.Table.{Table}
use Rattle.tac_review.specs.declared.task.Table.TheVariants.{Questions, Cases}

-- ---- a line, after the spaces that it begins with

-- the line, and what is said of it
abbrev pub told : List ℕ → List ℕ → List ℕ
told line answer = line ++ codes ": " ++ answer

-- a question is told with its answer; nothing is told of what is no question
abbrev pub question_told : List Subject → List ℕ → Option (List ℕ)
question_told policy line =
    option_map (λ query. told line (answer_to policy query)) (question_of line)

abbrev pub numbered : ℕ → List ℕ
numbered number = codes "line " ++ decimal number ++ codes ": "

-- a case that isn't so is told, with its number and what is so in place of it
abbrev pub case_told_of : List Subject → ℕ → List ℕ → Want × Query → List ℕ
case_told_of policy number line case =
    if is_so policy case.0 case.1 then []
    else numbered number ++ told line (found_instead policy case.0 case.1)

abbrev pub case_told : List Subject → ℕ → List ℕ → Option (List ℕ)
case_told policy number line = option_map (case_told_of policy number line) (case_of line)

abbrev pub asked_told : Table → List Subject → ℕ → List ℕ → Option (List ℕ)
asked_told Questions policy number line = question_told policy line
asked_told Cases policy number line = case_told policy number line

-- an empty line, and one that begins with `#`, is passed over
abbrev pub line_told : Table → List Subject → ℕ → List ℕ → Option (List ℕ)
line_told table policy number [] = Some []
line_told table policy number (byte ∷ line) =
    if byte == 35 then Some [] else asked_told table policy number (byte ∷ line)

-- ---- all lines

abbrev pub onto : List ℕ → Result (List ℕ) ℕ → Result (List ℕ) ℕ
onto text (Ok rest) = Ok (text ++ rest)
onto text (Err number) = Err number

abbrev pub onto_told : ℕ → Option (List ℕ) → Result (List ℕ) ℕ → Result (List ℕ) ℕ
onto_told number None rest = Err number
onto_told number (Some text) rest = onto text rest

-- what is told of these lines, of which the first has this number; or the number of the first that
-- isn't one of the table's
abbrev pub tells : Table → List Subject → ℕ → List (List ℕ) → Result (List ℕ) ℕ
tells table policy number [] = Ok []
tells table policy number (line ∷ lines) =
    onto_told number (line_told table policy number (without_leading_spaces line))
    (tells table policy (number + 1) lines)

-- what is printed then: of cases that are all so, that they are
abbrev pub table_text : Table → List ℕ → List ℕ
table_text Questions text = text
table_text Cases [] = codes "ok" ++ 10 ∷ []
table_text Cases (byte ∷ text) = byte ∷ text

abbrev pub table_end : Table → List ℕ → ReviewEnd
table_end Questions text = Done
table_end Cases [] = Done
table_end Cases (byte ∷ text) = Differs

-- ---- an invalid line

abbrev pub fault_name : Table → List ℕ
fault_name Questions = codes "BadQuestion"
fault_name Cases = codes "BadCase"

abbrev pub fault : Table → ℕ → List ℕ
fault table number =
    fault_line (codes "line " ++ decimal number ++ codes " " ++ fault_name table)
