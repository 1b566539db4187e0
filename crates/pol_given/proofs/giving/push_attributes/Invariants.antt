use Rattle.std.proofs.Common.{◌≡◌, ◌++◌, drop}
use Rattle.std.specs.Prelude.{filter_map}
use Rattle.pol_given.specs.Given.{attribute_in, attributes_of}
use Rattle.pol_given.proofs.giving.push_attributes.Given as goal

-- what lines gave is there, but for what the rest gives
abbrev pub invariant-loop-line : goal.invariant-loop-line
invariant-loop-line l = record {
  so : l.arguments ++ filter_map (attribute_in l.service) (drop l.line-index l.subject.services) ≡ l.fn.arguments ++ attributes_of l.service l.subject;
  lines : l.line-items ≡ l.subject.services;
}
