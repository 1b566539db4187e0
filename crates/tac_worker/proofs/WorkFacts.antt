-- A whole connection, one turn after another.
use Rattle.std.proofs.Common.{◌≡◌, ℕ, zero, suc, List, [], ◌∷◌, ◌++◌, take, drop, Bool, false, ◌||◌, Option, None, Err, refl, sym, ap, subst, ◌∙◌, append-nil, length-append, arith}
use Rattle.std.proofs.lemmas.List.{take-append-drop, take-append-le}
use Rattle.std.specs.Io.KnownBytes.{Appends, Consumes, IsAtEnd}
use Rattle.std.proofs.KnownBytes.{Appends-nil, Appends-trans, Consumes-nil, Consumes-trans}
use Rattle.tac_wire.specs.declared.door.Door.{Door}
use Rattle.tac_wire.specs.declared.frame.Frame.{Frame}
use Rattle.tac_wire.specs.Stream.{cut}
use Rattle.tac_audit.specs.declared.notice.Notice.{Notice}
use Rattle.tac_conn.specs.declared.ask.Ask.{Ask}
use Rattle.tac_conn.specs.declared.packet.Packet.{Packet}
use Rattle.tac_conn.specs.History.{is_closed}
use Rattle.tac_stream.specs.declared.stream.Stream.{Stream}
use Rattle.tac_stream.specs.Turns.{packets_of, closed_by}
use Rattle.tac_stream.specs.Kept.{IsReady, Stands}
use Rattle.tac_hall.specs.declared.fault.HallFault.{HallFault}
use Rattle.tac_worker.specs.declared.end.End.{End}
use Rattle.tac_worker.specs.declared.end.End.TheVariants.{Finished, ByProtocol, Stopped, LogFull, Memory, ReadFault, Unwitnessed, NoSeat}
use Rattle.tac_worker.specs.Served.{closes}
use Rattle.tac_worker.specs.Told.{TakesUntil, LeavesUntold, refused_of}
use Rattle.tac_worker.specs.Worked.{Exchange, AreAllMade, Worker, Traffic, Leaves, Closes, Writes, IsServedBy}
use Rattle.tac_worker.specs.Working.{GoesOn, TakesOne, IsAtRest, EndsAt, HearsMore, Heard, Serving}
use Rattle.tac_worker.proofs.ServedFacts.{packets_of-append, goes_none, goes-then, Done, done-after}
use Rattle.tac_worker.proofs.TurnFacts.{served_at_end, asks_at_end, none_at_end, done_memory, done_none}

next_of_list : (n : ℕ) (xs : List Frame) (x : Frame) (more : List Frame) → drop n xs ≡ x ∷ more → take (suc n) xs ≡ take n xs ++ x ∷ []
next_of_list zero [] x more e = absurd cc
next_of_list zero (y ∷ ys) x more e = let here : y ≡ x = cc in ap (λ (f : Frame). f ∷ []) here
next_of_list (suc n) [] x more e = absurd cc
next_of_list (suc n) (y ∷ ys) x more e = ap (λ (fs : List Frame). y ∷ fs) (next_of_list n ys x more e)

closed_none : is_closed [] ≡ false
unfolding is_closed
closed_none = refl

abbrev pub traffic_of : Option (List ℕ) → Option (List ℕ) → Option (List ℕ) → Option (List ℕ) → Traffic
traffic_of before after old new = record { before = before; after = after; old = old; new = new }

-- nothing was read yet
pub serving_first : {S V : Type 0} (step : S → Exchange → S → Type 0) (takes : V → Notice → V → Type 0) (door : Door) (was : Worker S V) (before old : Option (List ℕ)) (stream : Stream) → IsReady stream → Stands door stream [] 0
    → Serving step takes door was was (traffic_of before before old old) stream
serving_first step takes door was before old stream ready stands = record {
  input = [];
  taken = 0;
  read = Consumes-nil before;
  goes = goes_none step takes door [] was old;
  stays = closed_none;
  ready = ready;
  stands = stands;
}

module _ {S V : Type 0} (step : S → Exchange → S → Type 0) (rests : S → S → Type 0) (rests_so : (x : S) → rests x x) (refuses : S → Ask → HallFault → Type 0) (takes refuses_notice : V → Notice → V → Type 0) where
  -- a connection that such a worker served
  abbrev Serves : End → Door → Worker S V → Worker S V → Traffic → Type 0
  Serves end door was now traffic =
      IsServedBy end door (λ made. AreAllMade step rests was.caller made now.caller) (refuses now.caller)
      (λ told refused. TakesUntil takes refuses_notice was.witness told refused now.witness) traffic

  module _ (door : Door) (was now : Worker S V) (before after old mid : Option (List ℕ)) (stream : Stream) (s : Serving step takes door was now (traffic_of before after old mid) stream) where
    -- what is done after the packets that were taken
    after_front : (T : List Packet → Type 0) → T (packets_of door (take s.taken (cut door s.input).packets)) → T (packets_of door (take s.taken (cut door s.input).packets) ++ [])
    after_front T t = subst T (sym (append-nil (packets_of door (take s.taken (cut door s.input).packets)))) t

    -- one more packet was taken
    pub serving_on : (next : Worker S V) (new : Option (List ℕ)) (then : Stream) → TakesOne step rests refuses takes refuses_notice door s.input s.taken now next mid new then
        → Serving step takes door was next (traffic_of before after old new) then
    serving_on next new then t = record {
      input = s.input;
      taken = suc s.taken;
      read = s.read;
      goes = rw (next_of_list s.taken (cut door s.input).packets t.frame t.more t.left)
          (goes-then step takes door [] (take s.taken (cut door s.input).packets) was now old mid s.goes (t.frame ∷ []) next new
          (after_front (λ h. GoesOn step takes door h (t.frame ∷ []) now next mid new) t.goes));
      stays = rw (next_of_list s.taken (cut door s.input).packets t.frame t.more t.left, packets_of-append door (take s.taken (cut door s.input).packets) (t.frame ∷ [])) (t.stays s.stays);
      ready = t.ready;
      stands = t.stands;
    }

    -- the connection ends at a turn
    pub served_turn : (end : End) (next : Worker S V) (new : Option (List ℕ)) → EndsAt step rests refuses takes refuses_notice end door s.input s.taken now next mid new
        → Serves end door was next (traffic_of before after old new)
    served_turn end next new t =
        let rest : Done step rests refuses takes refuses_notice door end (packets_of door (take s.taken (cut door s.input).packets)) (drop s.taken (cut door s.input).packets) (cut door s.input).tail now next mid new =
        record { ends = t.ends; told = t.told } in
        let all =
        subst (λ (fs : List Frame). Done step rests refuses takes refuses_notice door end [] fs (cut door s.input).tail was next old new) (take-append-drop s.taken (cut door s.input).packets)
        (done-after step takes door [] (take s.taken (cut door s.input).packets) was now old mid s.goes rests refuses refuses_notice end (drop s.taken (cut door s.input).packets) next new (cut door s.input).tail
        (after_front (λ h. Done step rests refuses takes refuses_notice door end h (drop s.taken (cut door s.input).packets) (cut door s.input).tail now next mid new) rest)) in
        record {
          input = s.input;
          read = s.read;
          finished = λ e. absurd (t.unfinished e);
          memory = t.memory;
          closing = t.closing;
          ends = all.ends;
          told = all.told;
        }

    module _ (next : Worker S V) (new : Option (List ℕ)) (rested : Stream) (r : IsAtRest step rests refuses takes refuses_notice door s.input s.taken now next mid new rested) where
      rested_so : GoesOn step takes door [] (take s.taken (cut door s.input).packets) was next old new
      rested_so = rw r.same (record {
        made = s.goes.made;
        sendings = s.goes.sendings;
        notices = s.goes.notices;
        handled = s.goes.handled;
        makes = s.goes.makes;
        told = s.goes.told;
        written = rw (append-nil _) at (Appends-trans old mid new _ [] s.goes.written r.nothing);
      })

      -- nothing was done, nor is anything left to do, and the connection goes on
      pub serving_rests : (t : Serving step takes door was next (traffic_of before after old new) rested) × IsAtRest step rests refuses takes refuses_notice door t.input t.taken next next new new rested
      serving_rests = (
        record { input = s.input; taken = s.taken; read = s.read; goes = rested_so; stays = s.stays; ready = r.ready; stands = r.stands },
        record { left = r.left; tail = r.tail; same = refl; nothing = Appends-nil new; ready = r.ready; stands = r.stands },
      )

      all_taken : (cut door s.input).packets ≡ take s.taken (cut door s.input).packets
      all_taken =
          sym (take-append-drop s.taken (cut door s.input).packets) ∙ ap (λ (l : List Frame). take s.taken (cut door s.input).packets ++ l) r.left ∙ append-nil (take s.taken (cut door s.input).packets)

      -- more bytes were read
      pub serving_more : (left : Option (List ℕ)) (then : Stream) → HearsMore after left rested then → Serving step takes door was next (traffic_of before left old new) then
      serving_more left then h =
          let more = h.prolongs door s.input in
          let same : take s.taken (cut door (s.input ++ h.piece)).packets ≡ take s.taken (cut door s.input).packets =
          ap (take s.taken) more.1 ∙ take-append-le s.taken (cut door s.input).packets more.0 r.stands.within in
          record {
            input = s.input ++ h.piece;
            taken = s.taken;
            read = Consumes-trans before after left s.input h.piece s.read h.read;
            goes = rw same rested_so;
            stays = rw same s.stays;
            ready = (h.closed ∙ r.ready.0, h.pending ∙ r.ready.1);
            stands = h.stands door s.input s.taken r.ready.0 r.stands;
          }

      all_open : closes door s.input ≡ false
      all_open =
          ap (λ (fs : List Frame). is_closed (packets_of door fs) || closed_by (cut door s.input).tail) all_taken ∙ ap (λ (b : Bool). b || closed_by (cut door s.input).tail) s.stays ∙ r.tail

      -- nothing was left to do
      served_whole : (end : End) (left : Option (List ℕ)) → Consumes after left [] → (end ≡ Finished → IsAtEnd left) → (end ≡ Memory → ⊥) → Closes end false
          → Leaves end (refuses next.caller) [] → (Appends new new [] → Writes end door [] [] new new)
          → refused_of end [] ≡ None → LeavesUntold end []
          → Serves end door was next (traffic_of before left old new)
      served_whole end left read finished enough closing leaves writes unrefused untold =
          let rest : Done step rests refuses takes refuses_notice door end (packets_of door (take s.taken (cut door s.input).packets) ++ []) [] (cut door s.input).tail next next new new =
          done_none step rests refuses takes refuses_notice door _ [] (cut door s.input).tail end next.caller next.caller next.witness next.witness [] new new (rests_so next.caller)
          (asks_at_end door _) (served_at_end door _ []) (none_at_end door _ (cut door s.input).tail [] r.tail) refl refl (Appends-nil new) leaves writes unrefused untold in
          let all =
          subst (λ (fs : List Frame). Done step rests refuses takes refuses_notice door end [] fs (cut door s.input).tail was next old new) (append-nil (take s.taken (cut door s.input).packets) ∙ sym all_taken)
          (done-after step takes door [] (take s.taken (cut door s.input).packets) was next old new rested_so rests refuses refuses_notice end [] next new (cut door s.input).tail rest) in
          record {
            input = s.input;
            read = rw (append-nil s.input) at (Consumes-trans before after left s.input [] s.read read);
            finished = finished;
            memory = λ e. absurd (enough e);
            closing = rw all_open closing;
            ends = all.ends;
            told = all.told;
          }

      -- the connection ends at a read
      pub served_read : (end : End) (left : Option (List ℕ)) (then : Stream) → Heard (Err end) after left rested then → Serves end door was next (traffic_of before left old new)
      served_read Finished left then h = served_whole Finished left h.0 (λ e. h.1) (λ e. cc) refl refl (λ w. w) refl refl
      served_read ByProtocol left then h = absurd h
      served_read Stopped left then h = absurd h
      served_read LogFull left then h = absurd h
      served_read Memory left then h =
          let more = h.3 door s.input in
          let tail = (cut door (s.input ++ h.0)).tail in
          let rest : Done step rests refuses takes refuses_notice door Memory (packets_of door (take s.taken (cut door s.input).packets) ++ []) more.0 tail next next new new =
          done_memory step rests refuses takes refuses_notice door _ more.0 tail next.caller next.caller next.witness new (rests_so next.caller) in
          let all =
          subst (λ (fs : List Frame). Done step rests refuses takes refuses_notice door Memory [] fs tail was next old new) (ap (λ (l : List Frame). l ++ more.0) (sym all_taken) ∙ sym more.1)
          (done-after step takes door [] (take s.taken (cut door s.input).packets) was next old new rested_so rests refuses refuses_notice Memory more.0 next new tail rest) in
          record {
            input = s.input ++ h.0;
            read = Consumes-trans before after left s.input h.0 s.read h.2;
            finished = λ e. absurd cc;
            memory = λ e. (let some = h.1 in omega (arith, some, length-append s.input h.0));
            closing = tt;
            ends = all.ends;
            told = all.told;
          }
      served_read ReadFault left then h = served_whole ReadFault left h (λ e. absurd cc) (λ e. cc) refl refl (λ w. w) refl refl
      served_read Unwitnessed left then h = absurd h
      served_read NoSeat left then h = absurd h
