-- How a question is asked (docs/LINT.md): by its text, which stands beside it in the code.
use Rattle.std.specs.Prelude.{ℕ, List, ◌++◌, codes}
use Rattle.pol_habits.specs.declared.abbreviation.Abbreviation.{Abbreviation}
use Rattle.pol_habits.specs.declared.question.Question.{Question}
use Rattle.pol_habits.specs.declared.question.Question.TheVariants.{Habit, Abbreviated}

-- `'conf t' to 'configure terminal'`
abbrev pub expansion_text : Abbreviation → List ℕ
expansion_text words =
    codes "'" ++ words.short.now ++ codes "' to '" ++ words.full.now ++ codes "'"

abbrev pub question_text : Question → List ℕ
question_text (Habit text) = text.now
question_text (Abbreviated words) =
    codes "Cisco IOS expands " ++ expansion_text words ++ codes " before it asks: is that meant?"
