-- The desk of a server may be handed to another thread.
use denote.Param.Send.{IsSend, sendable}
use Rattle.std.proofs.Crossing.{crosses}
use Rattle.pol_automaton.specs.contracts.meter.Meter as Meter
use Rattle.pol_live.specs.contracts.live.Live as Live
use Rattle.tac_tally.specs.contracts.book.Book as Book
use Rattle.tac_tally.proofs.book.Book.TheSendSync as book
use Rattle.tac_desks.specs.contracts.live_desk.LiveDesk as LiveDesk
use Rattle.tac_desks.proofs.remembering.Remembered.TheSendSync as remembered
use Rattle.tac_hall.proofs.Crossing.{Policy-send}

Live-field : IsSend Live.the_field.row
Live-field = search (Policy-send, crosses, sendable) depth 60 fits 20000

Meter-field : IsSend Meter.the_field.row
Meter-field = search sendable depth 20

Book-field : IsSend Book.the_field.row
Book-field = search (book.the_send, sendable) depth 60

pub LiveDesk-send : IsSend LiveDesk.the_row
LiveDesk-send =
    search (Live-field, Meter-field, Book-field, remembered.the_field_send, sendable) depth 60
