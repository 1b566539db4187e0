-- How reports of a policy's rules are printed (docs/CONSOLE.md). Every line ends in LF.
use Rattle.std.specs.Prelude.{ℕ, List, [], ◌∷◌, ◌++◌, codes, Option}
use Rattle.std.specs.List.{flat_map}
use Rattle.std.specs.Option.{option_map_or}
use Rattle.std.specs.Fmt.{decimal}
use Rattle.pol_names.specs.SubjectId.{subject_text}
use Rattle.pol_meaning.specs.declared.Shadowed.{Shadowed}
use Rattle.pol_meaning.specs.declared.Reached.{Reached}

-- the subject, the rule's owner, and its number there
abbrev pub shadowed_line : Shadowed → List ℕ
shadowed_line row =
    codes "shadowed in " ++ subject_text row.subject ++ codes ": " ++ subject_text row.owner
    ++ codes " rule " ++ decimal row.number ++ 10 ∷ []

-- a line for each rule that decides nothing
abbrev pub shadows_text : List Shadowed → List ℕ
shadows_text [] = codes "none" ++ 10 ∷ []
shadows_text (row ∷ rows) = flat_map shadowed_line (row ∷ rows)

-- the least line that a rule decides, if it decides any
abbrev pub reach_end : Option (List ℕ) → List ℕ
reach_end text =
    option_map_or (λ text. codes " first reached by: " ++ text) text (codes " never reached")

-- the rule's owner, and its number there
abbrev pub reached_line : Reached → List ℕ
reached_line row =
    subject_text row.owner ++ codes " rule " ++ decimal row.number ++ reach_end row.text ++ 10 ∷ []

-- a line for each rule along a chain
abbrev pub reach_text : List Reached → List ℕ
reach_text [] = codes "none" ++ 10 ∷ []
reach_text (row ∷ rows) = flat_map reached_line (row ∷ rows)
