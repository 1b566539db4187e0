-- What a seat of a hall has done for a connection.
use Rattle.std.proofs.Common.{[], refl, sym, append-nil}
use Rattle.std.proofs.lemmas.List.Elements.{All-nil}
use Rattle.tac_conn.specs.declared.ask.Ask.{Ask}
use Rattle.tac_hall.specs.Room.{Opening}
use Rattle.tac_hall.specs.Seat.{Seated, IsMade, CatchesUp, IsRefused}
use Rattle.tac_hall.specs.declared.call.Call.TheVariants as calls
use Rattle.tac_hall.specs.declared.fault.HallFault.{HallFault}
use Rattle.tac_worker.specs.Worked.{Exchange, receipt_for}

-- others did something, and then it made this exchange, and nothing else
abbrev pub MakesOne : Opening → Seated → Exchange → Seated → Type 0
MakesOne opening was exchange now =
    IsMade opening was (calls.Ask exchange.ask) (receipt_for was.number exchange) now

-- a seat that stays as it is has caught up, with nothing
pub rests_so : (seat : Seated) → CatchesUp seat seat
rests_so seat = record {
  others = [];
  apart = All-nil _;
  number = refl;
  seen = sym (append-nil seat.seen);
  view = refl;
  rotations = refl;
}

-- it is refused a call of this ask so, after what it has seen
abbrev pub Refuses : Opening → Seated → Ask → HallFault → Type 0
Refuses opening seat ask fault = IsRefused opening seat (calls.Ask ask) fault
