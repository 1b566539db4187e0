-- The rules along the chain of a subject.
use Rattle.std.specs.Prelude.{ℕ, List, [], map}
use Rattle.std.specs.Option.{option_map_or}
use Rattle.pol_text.specs.declared.subject.Subject.{Subject}
use Rattle.pol_names.specs.declared.subject_id.SubjectId.{SubjectId}
use Rattle.pol_text.specs.Policy.{find_subject, Entry, entries}

-- the rules along the chain of the subject of this kind and name, none where there is no such one
abbrev pub entries_of : List Subject → SubjectId → List Entry
entries_of policy id = option_map_or (entries policy) (find_subject id policy) []

-- the patterns of the rules along the chain of a subject, the subject's own first
abbrev pub patterns_of : List Entry → List (List ℕ)
patterns_of along = map (λ entry. entry.rule.pattern) along

abbrev pub patterns_along : List Subject → Subject → List (List ℕ)
patterns_along policy subject = patterns_of (entries policy subject)
