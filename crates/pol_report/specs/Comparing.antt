-- Two policies that are compared.
use Rattle.std.specs.Prelude.{◌≡◌, List}
use Rattle.pol_text.specs.declared.subject.Subject.{Subject}
use Rattle.pol_report.specs.declared.comparison.Later.{Later}
use Rattle.pol_report.specs.declared.comparison.Later.TheVariants.{Other, Edited}

-- the later policy
abbrev pub later_policy : Later → List Subject
later_policy (Other live) = live.now
later_policy (Edited prepared) = prepared.now.after

-- it may be any policy, or what edits make of the earlier one
abbrev pub IsLaterOf : Later → List Subject → Type 0
IsLaterOf (Other live) before = Unit {0}
IsLaterOf (Edited prepared) before = prepared.now.before ≡ before
