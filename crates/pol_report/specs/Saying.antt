-- What subjects say of levels and services, and where they stand.
use Rattle.std.specs.Prelude.{ℕ, List, map, Option}
use Rattle.pol_names.specs.declared.subject_id.SubjectId.{SubjectId}
use Rattle.pol_text.specs.declared.subject.Subject.{Subject}
use Rattle.pol_text.specs.Policy.{id_of}
use Rattle.pol_given.specs.Saying.{Said, said}

-- a subject without its secrets and rules
pub record Stand : Type 0 where
  pub id : SubjectId
  pub parent : Option (List ℕ)
  pub said : Said

abbrev pub stand : Subject → Stand
stand subject = record { id = id_of subject; parent = subject.parent; said = said subject }

abbrev pub stands : List Subject → List Stand
stands subjects = map stand subjects
