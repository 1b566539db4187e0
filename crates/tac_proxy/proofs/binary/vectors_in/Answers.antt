use Rattle.std.proofs.Common.{◌≡◌}
use Rattle.std.proofs.lemmas.List.{take_rest}
use Rattle.tac_proxy.specs.declared.binary.Transport.TheVariants.{Tcp6}
use Rattle.tac_proxy.proofs.binary.vectors_in.Goals as goal

pub returns-in-Tcp6 : goal.returns-in-Tcp6
returns-in-Tcp6 c = let is : c.args.transport ≡ Tcp6 = c.in-Tcp6.is in rw is (take_rest c.args.bytes.now 36)
