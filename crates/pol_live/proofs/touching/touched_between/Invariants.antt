use Rattle.std.proofs.Common.{◌≡◌, ◌++◌, drop, None, Some, if◌then◌else◌}
use Rattle.std.specs.List.{filter_map}
use Rattle.pol_text.specs.Policy.{id_of}
use Rattle.pol_live.specs.Renewing.{had_rules, was_alike}
use Rattle.pol_live.proofs.touching.touched_between.Given as goal

-- those of the subjects that are left are yet to come
abbrev pub invariant-loop-subject : goal.invariant-loop-subject
invariant-loop-subject l = record {
  all : l.all ++ filter_map (λ subject. if was_alike l.before subject then None else Some (id_of subject)) (drop l.subject-index l.after)
      ≡ filter_map (λ subject. if was_alike l.before subject then None else Some (id_of subject)) l.after;
  rewritten : l.rewritten ++ filter_map (λ subject. if had_rules l.before subject then None else Some (id_of subject)) (drop l.subject-index l.after)
      ≡ filter_map (λ subject. if had_rules l.before subject then None else Some (id_of subject)) l.after;
}
