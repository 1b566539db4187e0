use Rattle.std.proofs.Common.{refl, sym, ◌∙◌}
use Rattle.tac_journal.specs.Device as device
use Rattle.tac_net.specs.Witness.{WriterTakes, WriterRefuses, place_of}
use Rattle.tac_net.proofs.LogFacts.{tells_log}
use Rattle.tac_net.proofs.WitnessFacts.{tells_some, tells_none}
use Rattle.tac_net.proofs.witness.DeviceWitness.new.Goals as goal

pub returns-then-not-is_kept : goal.returns-then-not-is_kept
returns-then-not-is_kept g c =
    tells_none (λ one. one.log) (λ was notice now. device.Takes (WriterTakes g.L.Log.keeping) (place_of g.L.Log.keeping was) notice (place_of g.L.Log.keeping now))
    (λ was notice now. device.Refuses (WriterRefuses g.L.Log.keeping) (place_of g.L.Log.keeping was) notice (place_of g.L.Log.keeping now)) (g.L.Log.keeping c.args.log.now) c.args.named _ refl
    (sym c.is_kept.ensures ∙ c.if-not-is_kept.true)

pub returns : goal.returns
returns g c =
    tells_some (λ one. one.log) (λ was notice now. device.Takes (WriterTakes g.L.Log.keeping) (place_of g.L.Log.keeping was) notice (place_of g.L.Log.keeping now))
    (λ was notice now. device.Refuses (WriterRefuses g.L.Log.keeping) (place_of g.L.Log.keeping was) notice (place_of g.L.Log.keeping now)) (g.L.Log.keeping c.args.log.now) c.args.named c.new-log.result _ refl
    (tells_log _ _ (λ log. log.log) (λ entry. entry.log.now) g.L.Log.keeping _ _ c.in_ok-origin.ensures _ c.args.log.now c.new.ensures c.new-log.result c.new-log.ensures.lines (sym c.is_kept.ensures ∙ c.if-not-is_kept.false))
