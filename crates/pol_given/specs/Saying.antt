-- What subjects along a chain say of levels and of services.
use Rattle.std.specs.Prelude.{ℕ, List, map, Option}
use Rattle.pol_names.specs.declared.service.ServiceLine.{ServiceLine}
use Rattle.pol_text.specs.declared.subject.Subject.{Subject}

-- a subject's lines about services, and its level
pub record Said : Type 0 where
  pub services : List ServiceLine
  pub level : Option ℕ

abbrev pub said : Subject → Said
said subject = record { services = subject.services; level = subject.priv_lvl }

abbrev pub said_along : List Subject → List Said
said_along subjects = map said subjects
