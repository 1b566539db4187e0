-- What the fields of a link stand for.
use Rattle.std.specs.Prelude.{◌≡◌, true, None}
use Rattle.tac_conn.specs.declared.ask.Ask.{Ask}
use Rattle.tac_audit.specs.declared.notice.Notice.{Notice}
use Rattle.tac_hall.specs.declared.fault.HallFault.{HallFault}
use Rattle.tac_worker.specs.declared.link.Link.TheInside.{Inside}
use Rattle.tac_worker.specs.Ahead.{WaitsForIt, IsAhead, seen_by}
use Rattle.tac_worker.specs.Linked.{Linked, IsLinked}

module _ {S V : Type 0} where
  abbrev pub connection_of : Inside S V → Linked S V
  connection_of link = record {
    door = link.door.now;
    heard = link.pieces;
    called = link.called;
    sent = link.sent;
    pending = link.queue;
    first = link.first.value;
    witness = link.witness;
    caller = link.caller.value;
    rests = link.rests;
    end = link.end;
  }

  -- it stands as though its next turn weren't found yet, which is only found where one is due
  pub record IsKept (refuses : S → Ask → HallFault → Type 0)
      (takes refuses_notice : V → Notice → V → Type 0) (link : Inside S V) : Type 0 where
    pub linked : IsLinked refuses takes refuses_notice link.end (connection_of link)
        (seen_by link.ahead link.stream)
    pub ahead : IsAhead link.door.now link.ahead link.stream
    pub due : link.rests ≡ true → link.ahead ≡ None
    pub password : WaitsForIt link.digest link.ahead
