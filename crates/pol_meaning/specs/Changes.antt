-- What a change of the policy brings users: by their lines, and by their services.
use Rattle.std.specs.Prelude.{◌≡◌, List}
use Rattle.pol_text.specs.declared.subject.Subject.{Subject}
use Rattle.pol_meaning.specs.LineChanges.{AreLineChanges}
use Rattle.pol_meaning.specs.ServiceChanges.{service_changes}
use Rattle.pol_meaning.specs.declared.Changes.{Changes}

abbrev pub AreChanges : List Subject → List Subject → Changes → Type 0
AreChanges before after changes =
    AreLineChanges before after changes.lines × (changes.services ≡ service_changes before after)
