-- What a desk and a console share, and who watches a desk that is handed to another thread.
use base.Fml.{Lft}
use mir.Syntax.{Lifetime}
use denote.Param.Send.{IsSend, IsSync, sendable, shr_send}
use denote.Ref.{ShrRef}
use Rattle.std.proofs.Crossing.{crosses}
use Rattle.std.proofs.alloc.Global.TheSendSync as heap
use Rattle.std.specs.contracts.alloc.Global as Global
use Rattle.basics.proofs.sequence.Sequence.TheSendSync as sequence
use Rattle.tac_keep.proofs.keeping_watch.KeepingWatch.TheSendSync as keeping
use Rattle.tac_keep.specs.contracts.keeping_watch.KeepingWatch as KeepingWatch
use Rattle.tac_keep.specs.contracts.tray.Wanted as Wanted
use Rattle.tac_keep.specs.contracts.tray.Tray as Tray

pub Wanted-send : IsSend Wanted.the_row
Wanted-send = search (sequence.the_send, crosses, sendable) depth 60 fits 20000

pub Tray-sync : IsSync Tray.the_row
Tray-sync = search (Wanted-send, crosses, sendable) depth 60 fits 20000

-- one that hands over to a tray that it borrows
pub KeepingWatch-send : (ℓ : Lifetime) (κ : Lft)
    → IsSend (KeepingWatch.the_row Global.the_row (ShrRef ℓ κ Tray.the_row))
KeepingWatch-send ℓ κ = keeping.the_send Global.the_row (ShrRef ℓ κ Tray.the_row) heap.the_send
    (shr_send ℓ κ Tray.the_row Tray-sync)
