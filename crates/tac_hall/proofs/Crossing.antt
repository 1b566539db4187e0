-- A policy may be handed to another thread: a pattern's factors hold one another, which no search
-- sees through.
use denote.Param.Send.{IsSend, IsSync, sendable}
use Rattle.std.proofs.Crossing.{crosses}
use Rattle.pol_pattern.proofs.flat.Factor.TheLaws.TheKnot.{crosses as knot}
use Rattle.pol_pattern.specs.contracts.flat.Factor as Factor
use Rattle.pol_pattern.specs.contracts.pattern.Pattern as Pattern
use Rattle.pol_text.specs.contracts.subject.Rule as Rule
use Rattle.pol_text.specs.contracts.subject.Subject as Subject
use Rattle.pol_text.specs.contracts.policy.Policy as Policy
use Rattle.pol_names.proofs.service.ServiceLine.TheSendSync as line

pub Factor-send : IsSend Factor.the_row
Factor-send = search (knot, crosses, sendable) depth 60

pub Factor-sync : IsSync Factor.the_row
Factor-sync = search (knot, crosses, sendable) depth 60

pub Pattern-send : IsSend Pattern.the_row
Pattern-send = search (Factor-send, Factor-sync, crosses, sendable) depth 60

pub Pattern-sync : IsSync Pattern.the_row
Pattern-sync = search (Factor-send, Factor-sync, crosses, sendable) depth 60

pub Rule-send : IsSend Rule.the_row
Rule-send = search (Pattern-send, crosses, sendable) depth 60

pub Rule-sync : IsSync Rule.the_row
Rule-sync = search (Pattern-sync, crosses, sendable) depth 60

pub Subject-send : IsSend Subject.the_row
Subject-send = search (Rule-send, line.the_send, crosses, sendable) depth 60

pub Subject-sync : IsSync Subject.the_row
Subject-sync = search (Rule-sync, line.the_sync, crosses, sendable) depth 60

pub Policy-send : IsSend Policy.the_row
Policy-send = search (Subject-send, crosses, sendable) depth 60

pub Policy-sync : IsSync Policy.the_row
Policy-sync = search (Subject-sync, crosses, sendable) depth 60
