use Rattle.std.proofs.Common.{◌∙◌, ap}
use Rattle.tac_devices.proofs.RemarkFacts.{secret_in, first_with}
use Rattle.tac_devices.proofs.remark.with_key.Goals as goal

pub returns-in-Some : goal.returns-in-Some
returns-in-Some c = c.as_ref.ensures.value ∙ ap secret_in c.in-Some.ensures ∙ first_with c.args.key.now c.args.devices.now

pub returns-in-None : goal.returns-in-None
returns-in-None c = ap secret_in c.in-None.ensures ∙ first_with c.args.key.now c.args.devices.now
