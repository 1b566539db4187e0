use Rattle.std.proofs.Common.{◌≡◌, ◌++◌, drop}
use Rattle.std.specs.Prelude.{filter_map}
use Rattle.pol_meaning.specs.ServiceChanges.{service_change}
use Rattle.pol_report.proofs.serving.list_asked.Given as goal

-- what changes for the services that are left is yet to come
abbrev pub invariant-places : goal.invariant-places
invariant-places l =
    l.changes ++ filter_map (service_change l.policies.before l.policies.after l.user) (drop l.place l.services)
    ≡ l.fn.changes ++ filter_map (service_change l.policies.before l.policies.after l.user) l.services
