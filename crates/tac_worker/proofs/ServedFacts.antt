-- What is sent and told for packets, in parts that join.
use Rattle.std.proofs.Common.{◌≡◌, ℕ, List, [], ◌∷◌, ◌++◌, map, flat_map, reverse, Option, Some, None, refl, sym, ap, subst, ◌∙◌, append_assoc, append-nil}
use Rattle.std.specs.List.{cons_option}
use Rattle.std.proofs.lemmas.List.{map-append, reverse-append}
use Rattle.std.proofs.lemmas.List.Concat.{flat_map-append}
use Rattle.std.specs.Io.KnownBytes.{Appends}
use Rattle.std.proofs.KnownBytes.{Appends-nil, Appends-trans}
use Rattle.tac_wire.specs.declared.door.Door.{Door}
use Rattle.tac_wire.specs.declared.frame.Frame.{Frame}
use Rattle.tac_wire.specs.Stream.{Tail}
use Rattle.tac_conn.specs.declared.ask.Answer.{Answer}
use Rattle.tac_conn.specs.declared.ask.Ask.{Ask}
use Rattle.tac_conn.specs.declared.packet.Packet.{Packet}
use Rattle.tac_conn.specs.declared.reply.Reply.{Reply as ReplyValue}
use Rattle.tac_conn.specs.Packet.{clear, sent}
use Rattle.tac_conn.specs.Reply.{packet_of}
use Rattle.tac_audit.specs.declared.notice.Notice.{Notice}
use Rattle.tac_audit.specs.Notices.{notices_to, reply_told, replies_told}
use Rattle.tac_audit.specs.Witness.{AreTold}
use Rattle.tac_stream.specs.Turns.{packets_of}
use Rattle.tac_worker.specs.declared.end.End.{End}
use Rattle.tac_worker.specs.declared.end.End.TheVariants.{Finished, ByProtocol, Stopped, LogFull, Memory, ReadFault, Unwitnessed, NoSeat}
use Rattle.tac_worker.specs.Served.{Sending, served_to, asks_in, bytes_sent, carried}
use Rattle.tac_hall.specs.declared.fault.HallFault.{HallFault}
use Rattle.tac_worker.specs.Told.{bytes_told, TakesUntil, Tells}
use Rattle.tac_worker.specs.Worked.{Exchange, asks_of, answers_of, AreMade, AreAllMade, Worker, WritesSome, WritesFirst, Writes, Ends}
use Rattle.tac_worker.specs.Working.{Handled, GoesOn}

-- ---- lists

pub packets_of-append : (door : Door) (first second : List Frame) → packets_of door (first ++ second) ≡ packets_of door second ++ packets_of door first
packets_of-append door first second = ap reverse (map-append (clear door) first second) ∙ reverse-append (map (clear door) first) (map (clear door) second)

-- the packets of the second after those of the first
history : (door : Door) (first second : List Frame) (earlier : List Packet)
    → packets_of door second ++ (packets_of door first ++ earlier) ≡ packets_of door (first ++ second) ++ earlier
history door first second earlier =
    sym (append_assoc (packets_of door second) (packets_of door first) earlier) ∙ ap (λ (l : List Packet). l ++ earlier) (sym (packets_of-append door first second))

pub bytes_sent-append : (door : Door) (first second : List Sending) → bytes_sent door (first ++ second) ≡ bytes_sent door first ++ bytes_sent door second
bytes_sent-append door first second = flat_map-append (λ (sending : Sending). sent door sending.packet) first second

cons_option-append : {A : Type 0} (one : Option A) (first second whole : List A) → whole ≡ first ++ second → cons_option one whole ≡ cons_option one first ++ second
cons_option-append None first second whole e = e
cons_option-append {A} (Some one) first second whole e = ap (λ (l : List A). one ∷ l) e

pub carried-append : (first second : List Sending) → carried (first ++ second) ≡ carried first ++ carried second
carried-append [] second = refl
carried-append (sending ∷ first) second =
    cons_option-append sending.carries (carried first) (carried second) (carried (first ++ second)) (carried-append first second)

replies_told-append : (first second : List Notice) → replies_told (first ++ second) ≡ replies_told first ++ replies_told second
replies_told-append [] second = refl
replies_told-append (notice ∷ first) second =
    cons_option-append (reply_told notice) (replies_told first) (replies_told second) (replies_told (first ++ second)) (replies_told-append first second)

pub bytes_told-append : (door : Door) (first second : List Notice) → bytes_told door (first ++ second) ≡ bytes_told door first ++ bytes_told door second
bytes_told-append door first second =
    ap (λ (l : List ReplyValue). flat_map (λ (reply : ReplyValue). sent door (packet_of reply)) l) (replies_told-append first second)
    ∙ flat_map-append (λ (reply : ReplyValue). sent door (packet_of reply)) (replies_told first) (replies_told second)

answers_of-append : (first second : List Exchange) → answers_of (first ++ second) ≡ answers_of first ++ answers_of second
answers_of-append first second = map-append (λ (exchange : Exchange). exchange.answer) first second

asks_of-append : (first second : List Exchange) → asks_of (first ++ second) ≡ asks_of first ++ asks_of second
asks_of-append first second = map-append (λ (exchange : Exchange). exchange.ask) first second

-- ---- calls

pub are_made-then : {S : Type 0} (step : S → Exchange → S → Type 0) (first second : List Exchange) (was mid now : S) → AreMade step was first mid → AreMade step mid second now → AreMade step was (first ++ second) now
are_made-then {S} step [] second was mid now f s = subst (λ (x : S). AreMade step x second now) f s
are_made-then step (exchange ∷ first) second was mid now f s = (f.0, f.1, are_made-then step first second f.0 mid now f.2 s)

-- ---- notices

are_told-then : {V : Type 0} (takes : V → Notice → V → Type 0) (first second : List Notice) (was mid now : V) → AreTold takes was first mid → AreTold takes mid second now → AreTold takes was (first ++ second) now
are_told-then {V} takes [] second was mid now f s = subst (λ (x : V). AreTold takes x second now) f s
are_told-then takes (notice ∷ first) second was mid now f s = (f.0, f.1, are_told-then takes first second f.0 mid now f.2 s)

-- ---- packets that were served

handled_none : (door : Door) (earlier : List Packet) → Handled door earlier [] [] [] []
handled_none door earlier = record { served = λ more later. refl; asks = λ more. refl; carries = refl; tells = λ more tail later. refl; bytes = refl }

module _ (door : Door) (earlier : List Packet) (first : List Frame) (made : List Exchange) (sendings : List Sending) (notices : List Notice) (f : Handled door earlier first made sendings notices) where
  -- what is sent for more packets, by more answers
  served_more : (second : List Frame) (others : List Exchange) (later : List Answer)
      → served_to door earlier (first ++ second) (answers_of (made ++ others) ++ later) ≡ sendings ++ served_to door (packets_of door first ++ earlier) second (answers_of others ++ later)
  served_more second others later =
      ap (λ (l : List Answer). served_to door earlier (first ++ second) (l ++ later)) (answers_of-append made others)
      ∙ ap (λ (l : List Answer). served_to door earlier (first ++ second) l) (append_assoc (answers_of made) (answers_of others) later)
      ∙ f.served second (answers_of others ++ later)

  pub served_after : (second : List Frame) (others : List Exchange)
      → served_to door earlier (first ++ second) (answers_of (made ++ others)) ≡ sendings ++ served_to door (packets_of door first ++ earlier) second (answers_of others)
  served_after second others =
      ap (λ (l : List Answer). served_to door earlier (first ++ second) l) (sym (append-nil (answers_of (made ++ others))))
      ∙ served_more second others []
      ∙ ap (λ (l : List Answer). sendings ++ served_to door (packets_of door first ++ earlier) second l) (append-nil (answers_of others))

  -- what is told of more packets, by more answers
  tells_more : (second : List Frame) (tail : Tail) (others : List Exchange) (later : List Answer)
      → notices_to door earlier (first ++ second) tail (answers_of (made ++ others) ++ later) ≡ notices ++ notices_to door (packets_of door first ++ earlier) second tail (answers_of others ++ later)
  tells_more second tail others later =
      ap (λ (l : List Answer). notices_to door earlier (first ++ second) tail (l ++ later)) (answers_of-append made others)
      ∙ ap (λ (l : List Answer). notices_to door earlier (first ++ second) tail l) (append_assoc (answers_of made) (answers_of others) later)
      ∙ f.tells second tail (answers_of others ++ later)

  pub tells_after : (second : List Frame) (tail : Tail) (others : List Exchange)
      → notices_to door earlier (first ++ second) tail (answers_of (made ++ others)) ≡ notices ++ notices_to door (packets_of door first ++ earlier) second tail (answers_of others)
  tells_after second tail others =
      ap (λ (l : List Answer). notices_to door earlier (first ++ second) tail l) (sym (append-nil (answers_of (made ++ others))))
      ∙ tells_more second tail others []
      ∙ ap (λ (l : List Answer). notices ++ notices_to door (packets_of door first ++ earlier) second tail l) (append-nil (answers_of others))

  pub bytes_after : (told : List Notice) → bytes_told door (notices ++ told) ≡ bytes_sent door sendings ++ bytes_told door told
  bytes_after told = bytes_told-append door notices told ∙ ap (λ (l : List ℕ). l ++ bytes_told door told) f.bytes

  pub carries_after : (others : List Exchange) (after : List Sending) → carried after ≡ answers_of others → carried (sendings ++ after) ≡ answers_of (made ++ others)
  carries_after others after e =
      carried-append sendings after ∙ ap (λ (l : List Answer). l ++ carried after) f.carries ∙ ap (λ (l : List Answer). answers_of made ++ l) e ∙ sym (answers_of-append made others)

  pub asks_after : (second : List Frame) (others : List Exchange) (left : List Ask) → asks_in door (packets_of door first ++ earlier) second ≡ asks_of others ++ left
      → asks_in door earlier (first ++ second) ≡ asks_of (made ++ others) ++ left
  asks_after second others left e =
      f.asks second ∙ ap (λ (l : List Ask). asks_of made ++ l) e ∙ sym (append_assoc (asks_of made) (asks_of others) left)
      ∙ ap (λ (l : List Ask). l ++ left) (sym (asks_of-append made others))

  handled-then : (second : List Frame) (others : List Exchange) (after : List Sending) (told : List Notice) → Handled door (packets_of door first ++ earlier) second others after told
      → Handled door earlier (first ++ second) (made ++ others) (sendings ++ after) (notices ++ told)
  handled-then second others after told s = record {
    served = λ more later.
        ap (λ (l : List Frame). served_to door earlier l (answers_of (made ++ others) ++ later)) (append_assoc first second more)
        ∙ served_more (second ++ more) others later
        ∙ ap (λ (l : List Sending). sendings ++ l) (s.served more later)
        ∙ sym (append_assoc sendings after (served_to door (packets_of door second ++ (packets_of door first ++ earlier)) more later))
        ∙ ap (λ (h : List Packet). (sendings ++ after) ++ served_to door h more later) (history door first second earlier);
    asks = λ more.
        ap (λ (l : List Frame). asks_in door earlier l) (append_assoc first second more)
        ∙ asks_after (second ++ more) others (asks_in door (packets_of door second ++ (packets_of door first ++ earlier)) more) (s.asks more)
        ∙ ap (λ (h : List Packet). asks_of (made ++ others) ++ asks_in door h more) (history door first second earlier);
    carries = carries_after others after s.carries;
    tells = λ more tail later.
        ap (λ (l : List Frame). notices_to door earlier l tail (answers_of (made ++ others) ++ later)) (append_assoc first second more)
        ∙ tells_more (second ++ more) tail others later
        ∙ ap (λ (l : List Notice). notices ++ l) (s.tells more tail later)
        ∙ sym (append_assoc notices told (notices_to door (packets_of door second ++ (packets_of door first ++ earlier)) more tail later))
        ∙ ap (λ (h : List Packet). (notices ++ told) ++ notices_to door h more tail later) (history door first second earlier);
    bytes = bytes_after told ∙ ap (λ (l : List ℕ). bytes_sent door sendings ++ l) s.bytes ∙ sym (bytes_sent-append door sendings after);
  }

-- ---- and told and written

module _ {S V : Type 0} (step : S → Exchange → S → Type 0) (rests : S → S → Type 0) (refuses : S → Ask → HallFault → Type 0) (takes refuses_notice : V → Notice → V → Type 0) (door : Door) where
  -- these packets, and what follows them, were served and told, and so it ended
  pub record Done (end : End) (earlier : List Packet) (frames : List Frame) (tail : Tail) (was now : Worker S V) (old new : Option (List ℕ)) : Type 0 where
    pub ends : Ends end door (asks_in door earlier frames) (served_to door earlier frames) (λ made. AreAllMade step rests was.caller made now.caller) (refuses now.caller) old new
    pub told : Tells end door (notices_to door earlier frames tail (answers_of ends.made)) (λ told refused. TakesUntil takes refuses_notice was.witness told refused now.witness) old new

pub goes_none : {S V : Type 0} (step : S → Exchange → S → Type 0) (takes : V → Notice → V → Type 0) (door : Door) (earlier : List Packet) (was : Worker S V) (old : Option (List ℕ)) → GoesOn step takes door earlier [] was was old old
goes_none step takes door earlier was old = record { made = []; sendings = []; notices = []; handled = handled_none door earlier; makes = refl; told = refl; written = Appends-nil old }

module _ {S V : Type 0} (step : S → Exchange → S → Type 0) (takes : V → Notice → V → Type 0) (door : Door) (earlier : List Packet) (first : List Frame) (was mid : Worker S V) (old between : Option (List ℕ)) (g : GoesOn step takes door earlier first was mid old between) where
  pub goes-then : (second : List Frame) (now : Worker S V) (new : Option (List ℕ)) → GoesOn step takes door (packets_of door first ++ earlier) second mid now between new
      → GoesOn step takes door earlier (first ++ second) was now old new
  goes-then second now new s = record {
    made = g.made ++ s.made;
    sendings = g.sendings ++ s.sendings;
    notices = g.notices ++ s.notices;
    handled = handled-then door earlier first g.made g.sendings g.notices g.handled second s.made s.sendings s.notices s.handled;
    makes = are_made-then step g.made s.made was.caller mid.caller now.caller g.makes s.makes;
    told = are_told-then takes g.notices s.notices was.witness mid.witness now.witness g.told s.told;
    written = rw (bytes_sent-append door g.sendings s.sendings) (Appends-trans old between new (bytes_sent door g.sendings) (bytes_sent door s.sendings) g.written s.written);
  }

  module _ (new : Option (List ℕ)) (others : List Exchange) (after all : List Sending) (whole : all ≡ g.sendings ++ after) where
    -- all of it was written
    all_after : Appends between new (bytes_sent door after) → Appends old new (bytes_sent door all)
    all_after w =
        rw (whole, bytes_sent-append door g.sendings after) (Appends-trans old between new (bytes_sent door g.sendings) (bytes_sent door after) g.written w)

    some_after : WritesSome door after (answers_of others) between new → WritesSome door all (answers_of (g.made ++ others)) old new
    some_after w = record {
      first = g.sendings ++ w.first;
      others = w.others;
      parts = whole ∙ ap (λ (l : List Sending). g.sendings ++ l) w.parts ∙ sym (append_assoc g.sendings w.first w.others);
      carries = carries_after door earlier first g.made g.sendings g.notices g.handled others w.first w.carries;
      written = rw (bytes_sent-append door g.sendings w.first) (Appends-trans old between new (bytes_sent door g.sendings) (bytes_sent door w.first) g.written w.written);
    }

    first_after : WritesFirst door after (answers_of others) between new → WritesFirst door all (answers_of (g.made ++ others)) old new
    first_after w = record {
      first = g.sendings ++ w.first;
      next = w.next;
      others = w.others;
      parts = whole ∙ ap (λ (l : List Sending). g.sendings ++ l) w.parts ∙ sym (append_assoc g.sendings (w.first ++ w.next) w.others)
          ∙ ap (λ (l : List Sending). l ++ w.others) (sym (append_assoc g.sendings w.first w.next));
      one = w.one;
      carries = ap carried (append_assoc g.sendings w.first w.next)
          ∙ carries_after door earlier first g.made g.sendings g.notices g.handled others (w.first ++ w.next) w.carries;
      written = rw (bytes_sent-append door g.sendings w.first) (Appends-trans old between new (bytes_sent door g.sendings) (bytes_sent door w.first) g.written w.written);
    }

    writes_after : (end : End) → Writes end door after (answers_of others) between new → Writes end door all (answers_of (g.made ++ others)) old new
    writes_after Finished w = all_after w
    writes_after ByProtocol w = all_after w
    writes_after Stopped w = all_after w
    writes_after LogFull w = all_after w
    writes_after Memory w = some_after w
    writes_after ReadFault w = all_after w
    writes_after Unwitnessed w = first_after w
    writes_after NoSeat w = all_after w

  module _ (new : Option (List ℕ)) (told : List Notice) where
    -- all replies that are told were written
    all_told : Appends between new (bytes_told door told) → Appends old new (bytes_told door (g.notices ++ told))
    all_told w =
        rw (bytes_after door earlier first g.made g.sendings g.notices g.handled told) (Appends-trans old between new (bytes_sent door g.sendings) (bytes_told door told) g.written w)

  module _ (rests : S → S → Type 0) (refuses : S → Ask → HallFault → Type 0) (refuses_notice : V → Notice → V → Type 0) (end : End) (second : List Frame) (now : Worker S V) (new : Option (List ℕ)) where
    -- the others end the connection
    pub ends-after :
        Ends end door (asks_in door (packets_of door first ++ earlier) second) (served_to door (packets_of door first ++ earlier) second) (λ made. AreAllMade step rests mid.caller made now.caller) (refuses now.caller) between new
        → Ends end door (asks_in door earlier (first ++ second)) (served_to door earlier (first ++ second)) (λ made. AreAllMade step rests was.caller made now.caller) (refuses now.caller) old new
    ends-after e = record {
      made = g.made ++ e.made;
      makes = (e.makes.0, are_made-then step g.made e.made was.caller mid.caller e.makes.0 g.makes e.makes.1, e.makes.2);
      left = e.left;
      asks = asks_after door earlier first g.made g.sendings g.notices g.handled second e.made e.left e.asks;
      leaves = e.leaves;
      writes = writes_after new e.made (served_to door (packets_of door first ++ earlier) second (answers_of e.made))
          (served_to door earlier (first ++ second) (answers_of (g.made ++ e.made)))
          (served_after door earlier first g.made g.sendings g.notices g.handled second e.made) end e.writes;
    }

    -- and the witness was told of them
    pub tells-after : (tail : Tail) (others : List Exchange)
        → Tells end door (notices_to door (packets_of door first ++ earlier) second tail (answers_of others)) (λ told refused. TakesUntil takes refuses_notice mid.witness told refused now.witness) between new
        → Tells end door (notices_to door earlier (first ++ second) tail (answers_of (g.made ++ others))) (λ told refused. TakesUntil takes refuses_notice was.witness told refused now.witness) old new
    tells-after tail others t = record {
      told = g.notices ++ t.told;
      left = t.left;
      parts = tells_after door earlier first g.made g.sendings g.notices g.handled second tail others ∙ ap (λ (l : List Notice). g.notices ++ l) t.parts
          ∙ sym (append_assoc g.notices t.told t.left);
      takes = (t.takes.0, are_told-then takes g.notices t.told was.witness mid.witness t.takes.0 g.told t.takes.1, t.takes.2);
      leaves = t.leaves;
      writes = all_told new t.told t.writes;
    }

    pub done-after : (tail : Tail) → Done step rests refuses takes refuses_notice door end (packets_of door first ++ earlier) second tail mid now between new
        → Done step rests refuses takes refuses_notice door end earlier (first ++ second) tail was now old new
    unfolding ends-after
    done-after tail d = record { ends = ends-after d.ends; told = tells-after tail d.ends.made d.told }
