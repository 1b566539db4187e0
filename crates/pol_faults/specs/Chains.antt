-- What is wrong with the chains of a text's subjects, each of whose lines is right by itself.
use Rattle.std.specs.Prelude.{ℕ, zero, suc, ◌+◌, List, [], ◌∷◌, ◌++◌, length, find, nat_eq, nat_le}
use Rattle.std.specs.Prelude.{Bool, false, ◌||◌, is_some, Option, Some, None, option_map}
use Rattle.std.specs.Prelude.{if◌then◌else◌}
use Rattle.std.specs.Option.{option_and_then, option_to_list}
use Rattle.std.specs.List.{list_any, flat_map}
use Rattle.basics.specs.Lines.{lines_of}
use Rattle.pol_names.specs.Name.{name_of}
use Rattle.pol_names.specs.SubjectId.{same_id, group_id}
use Rattle.pol_names.specs.declared.subject_id.SubjectId.{SubjectId}
use Rattle.pol_text.specs.declared.fault.PolicyRefusal.{PolicyRefusal}
use Rattle.pol_text.specs.Policy.{max_subjects}
use Rattle.pol_text.specs.Text.{body_of}
use Rattle.pol_words.specs.Words.{words_of, words_in, parent_text, keyword_of}
use Rattle.pol_words.specs.Places.{column_of, noted}
use Rattle.pol_words.specs.declared.words.Keyword.{Keyword}
use Rattle.pol_words.specs.declared.words.Keyword.TheVariants.{Opens}
use Rattle.pol_words.specs.declared.finding.Finding.TheVariants.{NoParent, Cycle, Refused}
use Rattle.pol_words.specs.declared.remark.Found.{Found}
use Rattle.pol_words.specs.declared.remark.Remark.{Remark}
use Rattle.pol_faults.specs.Faults.{body_faults}
use Rattle.pol_faults.specs.declared.chains.Heading.{Heading}

-- ---- lines that begin subjects

abbrev pub subject_by : Keyword → List ℕ → Option SubjectId
subject_by (Opens kind) rest =
    option_map (λ name. record { kind = kind; name = name }) (name_of (words_of rest).0)
subject_by _ rest = None

-- the subject that a line begins, where it begins one
abbrev pub subject_of : List ℕ → Option SubjectId
subject_of line = subject_by (keyword_of (words_in line).0) (words_in line).1

-- the same with its line, its parent, and the column of that
abbrev pub heading_of : ℕ → List ℕ → Option Heading
heading_of number line =
    option_map (λ id. record {
      line = number;
      column = column_of line (parent_text (words_in line).1);
      id = id;
      parent = name_of (parent_text (words_in line).1);
    }) (subject_of line)

-- those of these lines, of which the first has this number
abbrev pub headings : ℕ → List (List ℕ) → List Heading
headings number [] = []
headings number (line ∷ lines) =
    option_to_list (heading_of number line) ++ headings (number + 1) lines

-- ---- chains

-- the subject of this kind and name, and the group of this name
abbrev pub heading_for : List Heading → SubjectId → Option Heading
heading_for headings id = find (λ heading. same_id heading.id id) headings

abbrev pub group_of : List Heading → List ℕ → Option Heading
group_of headings name = heading_for headings (group_id name)

-- the parent isn't there
abbrev pub orphan_by : List Heading → ℕ → Option (List ℕ) → Option Found
orphan_by headings column None = None
orphan_by headings column (Some name) =
    if is_some (group_of headings name) then None
    else Some (record { column = column; finding = NoParent name })

abbrev pub orphan : List Heading → Heading → Option Found
orphan headings heading = orphan_by headings heading.column heading.parent

-- the parent of the group of this name
abbrev pub parent_of : List Heading → List ℕ → Option (List ℕ)
parent_of headings name = option_and_then (λ heading. heading.parent) (group_of headings name)

-- whether at most so many steps, the first to this parent and each further one to the parent of the
-- one before, come to the goal
unfoldable pub comes_to : ℕ → List Heading → SubjectId → Option (List ℕ) → Bool
comes_to zero headings goal parent = false
comes_to (suc most) headings goal None = false
comes_to (suc most) headings goal (Some name) =
    same_id (group_id name) goal || comes_to most headings goal (parent_of headings name)

-- a chain that comes back to its subject does so in as many steps as there are subjects
abbrev pub cycle : List Heading → Heading → Option Found
cycle headings heading =
    if comes_to (length headings) headings heading.id heading.parent
    then Some (record { column = heading.column; finding = Cycle }) else None

-- what is told of each of the subjects
abbrev pub told_of : (Heading → Option Found) → List Heading → List Remark
told_of found headings = flat_map (λ heading. noted heading.line (found heading)) headings

-- the first of two lists that has anything
abbrev pub or_else : List Remark → List Remark → List Remark
or_else [] later = later
or_else (remark ∷ remarks) later = remark ∷ remarks

-- parents that aren't there; where all are, the groups that chains come back to. Of more than 1,024
-- subjects no chains are judged: their number is refused
abbrev pub chain_faults : List Heading → List Remark
chain_faults headings =
    if nat_le (length headings) max_subjects
    then or_else (told_of (orphan headings) headings) (told_of (cycle headings) headings) else []

-- ---- the whole text

abbrev pub found_faults : List ℕ → List Remark
found_faults text =
    or_else (body_faults (body_of (lines_of text))) (chain_faults (headings 1 (lines_of text)))

-- the refusal of a check comes first, at its line, unless something is told of that line
abbrev pub with_refusal : ℕ → PolicyRefusal → List Remark → List Remark
with_refusal line refusal remarks =
    if list_any (λ remark. nat_eq remark.line line) remarks then remarks
    else record { line = line; column = 1; finding = Refused refusal } ∷ remarks

-- what is told of a text that a check refuses for this, at this line
abbrev pub text_faults : List ℕ → ℕ → PolicyRefusal → List Remark
text_faults text line refusal = with_refusal line refusal (found_faults text)
