-- A connection that is served in turns.
use Rattle.std.proofs.Common.{◌≡◌, ◌≤◌, ℕ, suc, List, [], ◌∷◌, ◌++◌, map, length, take, drop, Bool, true, false, Option, Some, None, Result, Ok, Err, refl, sym, ap, subst, ◌∙◌, append_assoc, append-nil, length-append, arith, true≢false}
use Rattle.std.proofs.lemmas.List.{take-append-drop, length-map}
use Rattle.std.specs.Io.KnownBytes.{Appends}
use Rattle.tac_wire.specs.declared.door.Door.{Door}
use Rattle.tac_wire.specs.declared.frame.Frame.{Frame}
use Rattle.tac_wire.specs.Stream.{cut}
use Rattle.tac_conn.specs.declared.ask.Answer.{Answer}
use Rattle.tac_conn.specs.declared.ask.Ask.{Ask}
use Rattle.tac_audit.specs.declared.notice.Notice.{Notice}
use Rattle.tac_audit.specs.Witness.{AreTold}
use Rattle.tac_hall.specs.declared.fault.HallFault.{HallFault}
use Rattle.tac_stream.specs.declared.stream.Stream.{Stream}
use Rattle.tac_stream.specs.Turns.{packets_of}
use Rattle.tac_stream.specs.Kept.{IsReady, Stands}
use Rattle.tac_worker.specs.declared.due.Due.{Due}
use Rattle.tac_worker.specs.declared.due.Due.TheVariants as next
use Rattle.tac_worker.specs.declared.end.End.{End}
use Rattle.tac_worker.specs.declared.end.End.TheVariants.{Memory}
use Rattle.tac_worker.specs.declared.turning.Went.{Went}
use Rattle.tac_worker.specs.declared.turning.Went.TheVariants.{On, Rests}
use Rattle.tac_worker.specs.Linked.{Linked, due_by, fresh, put, traffic_on, worker_at, IsOver, IsOpen, StandsSo, IsLinked, Turns, TurnsAt, after_sending}
use Rattle.tac_worker.specs.Noting.{answered, IsNoted, NoneIsNoted, Noting, noting, NotesOne, NotesNone, RefusesNoted}
use Rattle.tac_worker.specs.Served.{served}
use Rattle.tac_worker.specs.Told.{notices, TakesUntil, Tells}
use Rattle.tac_worker.specs.Worked.{Exchange, asks_of, answers_of, AreAllMade, Worker, Traffic, Writes, IsServedBy}
use Rattle.tac_worker.specs.Working.{IsAtRest, Heard, HearsMore, Turned, Serving}
use Rattle.tac_worker.proofs.ServedFacts.{Done, done-after}
use Rattle.tac_worker.proofs.TurnFacts.{worker, done_memory}
use Rattle.tac_worker.proofs.NoteFacts.{noted_made, notes_none, all_made_as, turned_as}
use Rattle.tac_worker.proofs.WorkFacts.{traffic_of, serving_first, serving_on, serving_rests, serving_more, served_turn, served_read}

-- ---- what is due

pub turn_due : (pending : List ℕ) (end : Option End) (rests : Bool) → due_by pending end rests ≡ next.Turn → (pending ≡ []) × (end ≡ None) × (rests ≡ false)
turn_due (byte ∷ bytes) end rests e = absurd cc
turn_due [] (Some end) rests e = absurd cc
turn_due [] None true e = absurd cc
turn_due [] None false e = (refl, refl, refl)

pub hear_due : (pending : List ℕ) (end : Option End) (rests : Bool) → due_by pending end rests ≡ next.Hear → (pending ≡ []) × (end ≡ None) × (rests ≡ true)
hear_due (byte ∷ bytes) end rests e = absurd cc
hear_due [] (Some end) rests e = absurd cc
hear_due [] None true e = (refl, refl, refl)
hear_due [] None false e = absurd cc

-- ---- who served, and was told

module _ (end : End) (door : Door) (traffic : Traffic) where
  -- of whoever made these exchanges and was told these notices more may be known
  pub served_as : (makes others : List Exchange → Type 0) (refuses : Ask → HallFault → Type 0) (tells told : List Notice → Option Notice → Type 0) (work : IsServedBy end door makes refuses tells traffic) → others work.ends.made
      → ((notices : List Notice) (refused : Option Notice) → tells notices refused → told notices refused)
      → IsServedBy end door others refuses told traffic
  served_as makes others refuses tells told work m t = record {
    input = work.input;
    read = work.read;
    finished = work.finished;
    memory = work.memory;
    closing = work.closing;
    ends = record { made = work.ends.made; makes = m; left = work.ends.left; asks = work.ends.asks; leaves = work.ends.leaves; writes = work.ends.writes };
    told = record { told = work.told.told; left = work.told.left; parts = work.told.parts; takes = t _ _ work.told.takes; leaves = work.told.leaves; writes = work.told.writes };
  }

-- ---- what is put after what was sent

put_after : (sent old new bytes : List ℕ) → Appends (Some old) (Some new) bytes → Appends (Some (sent ++ old)) (Some (sent ++ new)) bytes
put_after sent old new bytes e = ap (λ (l : List ℕ). sent ++ l) e ∙ sym (append_assoc sent old bytes)

module _ {S V : Type 0} (refuses : S → Ask → HallFault → Type 0) (takes refuses_notice : V → Notice → V → Type 0) where
  abbrev pub Links : Option End → Linked S V → Stream → Type 0
  Links end link stream = IsLinked refuses takes refuses_notice end link stream

  abbrev pub ServingOn : Linked S V → Stream → Type 0
  ServingOn link stream = Serving IsNoted takes link.door (worker_at [] link.first) (worker_at link.called link.witness) (traffic_on link) stream

  -- where it hasn't ended
  pub as_open : (end : Option End) (link : Linked S V) (stream : Stream) → end ≡ None → Links end link stream → Links None link stream
  as_open end link stream none l = subst (λ (e : Option End). Links e link stream) none l

  pub open_still : (end : Option End) (link : Linked S V) (stream : Stream) → end ≡ None → Links None link stream → Links end link stream
  open_still end link stream none l = subst (λ (e : Option End). Links e link stream) (sym none) l

  -- what was noted is what was called
  over_noted : (link : Linked S V) (end : End)
      → IsServedBy end link.door (λ made. AreAllMade IsNoted NoneIsNoted [] made link.called) (refuses link.caller) (λ told refused. TakesUntil takes refuses_notice link.first told refused link.witness) (traffic_on link)
      → IsOver refuses takes refuses_notice link end
  over_noted link end work =
      let all = work.ends.makes in
      served_as end link.door (traffic_on link) (λ made. AreAllMade IsNoted NoneIsNoted [] made link.called) (λ made. link.called ≡ map answered made) (refuses link.caller)
      (λ told refused. TakesUntil takes refuses_notice link.first told refused link.witness) (λ told refused. TakesUntil takes refuses_notice link.first told refused link.witness) work
      (all.2 ∙ noted_made [] work.ends.made all.0 all.1) (λ notices refused t. t)

  -- ---- bytes were sent

  -- with these bytes put there
  abbrev LinksBy : List ℕ → Option End → Linked S V → Stream → Type 0
  LinksBy bytes None link stream =
      (s : Serving IsNoted takes link.door (worker_at [] link.first) (worker_at link.called link.witness) (traffic_of (Some link.heard) (Some []) (Some []) (Some bytes)) stream)
      × (link.rests ≡ true → IsAtRest IsNoted NoneIsNoted (λ _. refuses link.caller) takes refuses_notice link.door s.input s.taken (worker_at link.called link.witness) (worker_at link.called link.witness) (Some bytes) (Some bytes) stream)
  LinksBy bytes (Some end) link stream =
      IsServedBy end link.door (λ made. link.called ≡ map answered made) (refuses link.caller) (λ told refused. TakesUntil takes refuses_notice link.first told refused link.witness)
      (traffic_of (Some link.heard) (Some []) (Some []) (Some bytes))

  put_still : (n : ℕ) (link : Linked S V) → put link ≡ put (after_sending n link)
  put_still n link = sym (append_assoc link.sent (take n link.pending) (drop n link.pending) ∙ ap (λ (l : List ℕ). link.sent ++ l) (take-append-drop n link.pending))

  -- what was put there stays
  pub linked_sent : (n : ℕ) (end : Option End) (link : Linked S V) (stream : Stream) → Links end link stream → Links end (after_sending n link) stream
  linked_sent n None link stream l = subst (λ (bytes : List ℕ). LinksBy bytes None link stream) (put_still n link) l
  linked_sent n (Some end) link stream l = subst (λ (bytes : List ℕ). LinksBy bytes (Some end) link stream) (put_still n link) l

  -- ---- nothing came

  pub linked_first : (door : Door) (witness : V) (caller : S) (stream : Stream) → IsReady stream → Stands door stream [] 0 → Links None (fresh door witness caller) stream
  linked_first door witness caller stream ready stands =
      (serving_first IsNoted takes door (worker [] witness) (Some []) (Some []) stream ready stands, λ e. absurd (true≢false (sym e)))

  -- ---- a read

  module _ (link : Linked S V) (piece : List ℕ) (stream then : Stream) (s : ServingOn link stream)
      (r : IsAtRest IsNoted NoneIsNoted (λ _. refuses link.caller) takes refuses_notice link.door s.input s.taken (worker link.called link.witness) (worker link.called link.witness) (Some (put link)) (Some (put link)) stream) where
    -- with more that was to be read
    abbrev reread : Serving IsNoted takes link.door (worker [] link.first) (worker link.called link.witness) (traffic_of (Some (link.heard ++ piece)) (Some piece) (Some []) (Some (put link))) stream
    reread = record {
      input = s.input;
      taken = s.taken;
      read = ap (λ (l : List ℕ). l ++ piece) (s.read ∙ append-nil s.input);
      goes = s.goes;
      stays = s.stays;
      ready = s.ready;
      stands = s.stands;
    }

    pub linked_more : HearsMore (Some piece) (Some []) stream then → Links None (record link { heard = link.heard ++ piece; rests = false }) then
    linked_more h = (
      serving_more IsNoted NoneIsNoted (λ x. refl) (λ _. refuses link.caller) takes refuses_notice link.door (worker [] link.first) (worker link.called link.witness) (Some (link.heard ++ piece)) (Some piece) (Some []) (Some (put link)) stream reread
          (worker link.called link.witness) (Some (put link)) stream r (Some []) then h,
      λ e. absurd (true≢false (sym e)),
    )

    pub linked_heard : (end : End) → Heard (Err end) (Some piece) (Some []) stream then → Links (Some end) (record link { heard = link.heard ++ piece; end = Some end }) then
    linked_heard end h =
        over_noted (record link { heard = link.heard ++ piece; end = Some end }) end
        (served_read IsNoted NoneIsNoted (λ x. refl) (λ _. refuses link.caller) takes refuses_notice link.door (worker [] link.first) (worker link.called link.witness) (Some (link.heard ++ piece)) (Some piece) (Some []) (Some (put link)) stream reread
        (worker link.called link.witness) (Some (put link)) stream r end (Some []) then h)

  -- ---- how it stands

  -- as it would where nothing more is done
  opened : (link : Linked S V) (stream : Stream) → ServingOn link stream → IsOpen refuses takes refuses_notice link
  opened link stream s =
      let front = take s.taken (cut link.door s.input).packets in
      let rest = drop s.taken (cut link.door s.input).packets in
      let now = worker link.called link.witness in
      let cut_off = done_memory IsNoted NoneIsNoted (λ _. refuses link.caller) takes refuses_notice link.door (packets_of link.door front ++ []) rest (cut link.door s.input).tail link.called link.called link.witness (Some (put link)) refl in
      let all : Done IsNoted NoneIsNoted (λ _. refuses link.caller) takes refuses_notice link.door Memory [] (front ++ rest) (cut link.door s.input).tail (worker [] link.first) now (Some []) (Some (put link)) =
      done-after IsNoted takes link.door [] front (worker [] link.first) now (Some []) (Some (put link)) s.goes NoneIsNoted (λ _. refuses link.caller) refuses_notice Memory rest now (Some (put link)) (cut link.door s.input).tail cut_off in
      let whole =
      subst (λ (fs : List Frame). Done IsNoted NoneIsNoted (λ _. refuses link.caller) takes refuses_notice link.door Memory [] fs (cut link.door s.input).tail (worker [] link.first) now (Some []) (Some (put link)))
      (take-append-drop s.taken (cut link.door s.input).packets) all in
      let d =
      subst (λ (bytes : List ℕ). Done IsNoted NoneIsNoted (λ _. refuses link.caller) takes refuses_notice link.door Memory [] (cut link.door bytes).packets (cut link.door bytes).tail (worker [] link.first) now (Some []) (Some (put link)))
      (sym (s.read ∙ append-nil s.input)) whole in
      let made = d.ends.makes in
      let told = d.told.takes in
      record {
        made = d.ends.made;
        called = made.2 ∙ noted_made [] d.ends.made made.0 made.1;
        left = d.ends.left;
        asked = d.ends.asks;
        writes = d.ends.writes;
        told = d.told.told;
        untold = d.told.left;
        parts = d.told.parts;
        took = subst (λ (w : V). AreTold takes link.first d.told.told w) (sym told.2) told.1;
        replies = d.told.writes;
      }

  pub stands_so : (end : Option End) (link : Linked S V) (stream : Stream) → Links end link stream → StandsSo refuses takes refuses_notice end link
  stands_so None link stream linked = opened link stream linked.0
  stands_so (Some end) link stream linked = linked

-- ---- a turn

module _ {S V : Type 0} (makes : S → Exchange → S → Type 0) (rests : S → S → Type 0) (rests_so : (x : S) → rests x x) (refuses : S → Ask → HallFault → Type 0) (takes refuses_notice : V → Notice → V → Type 0) where
  -- by a caller, after which this is so
  module _ (link : Linked S V) (before after : S) (called : List (Ask × Answer)) (witness : V) (pending : List ℕ) (then : Stream) where
    abbrev pub after_turn : Linked S V
    after_turn = record link { called = called; witness = witness; pending = pending; caller = after }

    abbrev pub Went_by : Result Went End → List ℕ → ℕ → Type 0
    Went_by result input taken =
        Turned (NotesOne makes) (NotesNone rests) (RefusesNoted refuses) takes refuses_notice result link.door input taken (worker (noting before link.called) link.witness) (worker (noting after called) witness)
        (Some link.pending) (Some pending) then

    turned_link : (result : Result Went End) (input : List ℕ) (taken : ℕ) → Went_by result input taken
        → Turned IsNoted NoneIsNoted (λ _. refuses after) takes refuses_notice result link.door input taken (worker link.called link.witness) (worker called witness) (Some (put link)) (Some (put after_turn)) then
    turned_link result input taken t =
        turned_as (NotesOne makes) (NotesNone rests) (RefusesNoted refuses) IsNoted NoneIsNoted (λ _. refuses after) takes refuses_notice (λ (n : Noting S). n.called) (λ was now exchange m. m.1) (λ was now m. m.1)
        link.door input taken (worker (noting before link.called) link.witness) (worker (noting after called) witness) (Some link.pending) (Some pending) (Some (put link)) (Some (put after_turn)) then
        (put_after link.sent link.pending pending) refl result t

    module _ (stream : Stream) (s : ServingOn refuses takes refuses_notice link stream) where
      -- a packet was served
      pub linked_on : link.rests ≡ false → Went_by (Ok On) s.input s.taken → Links refuses takes refuses_notice None after_turn then
      linked_on rest t = (
        serving_on IsNoted NoneIsNoted (λ x. refl) (λ _. refuses after) takes refuses_notice link.door (worker [] link.first) (worker link.called link.witness) (Some link.heard) (Some []) (Some []) (Some (put link)) stream s
            (worker called witness) (Some (put after_turn)) then (turned_link (Ok On) s.input s.taken t),
        λ e. absurd (true≢false (sym e ∙ rest)),
      )

      -- no whole packet stood there
      pub linked_rests : Went_by (Ok Rests) s.input s.taken → Links refuses takes refuses_notice None (record after_turn { rests = true }) then
      linked_rests went =
          let t =
          serving_rests IsNoted NoneIsNoted (λ x. refl) (λ _. refuses after) takes refuses_notice link.door (worker [] link.first) (worker link.called link.witness) (Some link.heard) (Some []) (Some []) (Some (put link)) stream s
          (worker called witness) (Some (put after_turn)) then (turned_link (Ok Rests) s.input s.taken went) in
          (t.0, λ e. t.1)

      -- the connection ended
      pub linked_over : (end : End) → Went_by (Err end) s.input s.taken → Links refuses takes refuses_notice (Some end) (record after_turn { end = Some end }) then
      linked_over end t =
          over_noted refuses takes refuses_notice after_turn end
          (served_turn IsNoted NoneIsNoted (λ x. refl) (λ _. refuses after) takes refuses_notice link.door (worker [] link.first) (worker link.called link.witness) (Some link.heard) (Some []) (Some []) (Some (put link)) stream s
          end (worker called witness) (Some (put after_turn)) (turned_link (Err end) s.input s.taken t))

    -- the caller made this, and it was noted
    abbrev MadeBy : Type 0
    MadeBy = (made : List Exchange) × AreAllMade (NotesOne makes) (NotesNone rests) (noting before link.called) made (noting after called)

    made_by : (result : Result Went End) (input : List ℕ) (taken : ℕ) → Went_by result input taken → MadeBy
    made_by (Ok On) input taken t = (t.goes.made, (noting after called, t.goes.makes, notes_none rests rests_so (noting after called)))
    made_by (Ok Rests) input taken t =
        ([], (noting before link.called, refl, subst (λ (w : Worker (Noting S) V). NotesNone rests (noting before link.called) w.caller) (sym t.same) (notes_none rests rests_so (noting before link.called))))
    made_by (Err end) input taken t = (t.ends.made, t.ends.makes)

    turns_so : (rested : Bool) (end : Option End) (result : Result Went End) (input : List ℕ) (taken : ℕ) → Went_by result input taken → length called ≤ suc (length link.called)
        → Turns makes rests link (record after_turn { rests = rested; end = end }) before after
    turns_so rested end result input taken t one =
        let m = made_by result input taken t in
        let made = m.0 in
        let all = all_made_as (NotesOne makes) (NotesNone rests) (RefusesNoted refuses) makes rests refuses takes refuses_notice (λ (n : Noting S). n.caller) (λ was now exchange m. m.0) (λ was now m. m.0)
        (noting before link.called) made (noting after called) m.1 in
        let notes = all_made_as (NotesOne makes) (NotesNone rests) (RefusesNoted refuses) IsNoted NoneIsNoted (λ _. refuses after) takes refuses_notice (λ (n : Noting S). n.called) (λ was now exchange m. m.1) (λ was now m. m.1)
        (noting before link.called) made (noting after called) m.1 in
        let noted : called ≡ link.called ++ map answered made = notes.2 ∙ noted_made link.called made notes.0 notes.1 in
        let long = ap length noted ∙ length-append link.called (map answered made) in
        record {
          made = made;
          one = omega (arith, one, long, length-map made answered);
          makes = all;
          called = noted;
          caller = refl;
          door = refl;
          heard = refl;
          sent = refl;
          first = refl;
        }

    -- as it is due
    pub turned_at : (due : Due) → due ≡ next.Turn → (rested : Bool) (end : Option End) (result : Result Went End) (input : List ℕ) (taken : ℕ) → Went_by result input taken → length called ≤ suc (length link.called)
        → TurnsAt makes rests due link (record after_turn { rests = rested; end = end }) before after
    turned_at due is rested end result input taken t one =
        subst (λ (d : Due). TurnsAt makes rests d link (record after_turn { rests = rested; end = end }) before after) (sym is) (turns_so rested end result input taken t one)

-- ---- what its notes tell of the calls that were made for it

asks_noted : (made : List Exchange) → asks_of made ≡ map (λ (call : Ask × Answer). call.0) (map answered made)
asks_noted [] = refl
asks_noted (exchange ∷ made) = ap (λ (l : List Ask). exchange.ask ∷ l) (asks_noted made)

answers_noted : (made : List Exchange) → answers_of made ≡ map (λ (call : Ask × Answer). call.1) (map answered made)
answers_noted [] = refl
answers_noted (exchange ∷ made) = ap (λ (l : List Answer). exchange.answer ∷ l) (answers_noted made)

module _ {S V : Type 0} (refuses : S → Ask → HallFault → Type 0) (takes refuses_notice : V → Notice → V → Type 0) where
  -- whoever knows which exchanges were made for it, knows that it was served by these
  pub over_by : (link : Linked S V) (end : End) (made : List Exchange) → link.called ≡ map answered made → IsOver refuses takes refuses_notice link end
      → IsServedBy end link.door (λ others. others ≡ made) (refuses link.caller) (λ told refused. TakesUntil takes refuses_notice link.first told refused link.witness) (traffic_on link)
  over_by link end made noted work =
      let same : map answered work.ends.made ≡ map answered made = sym work.ends.makes ∙ noted in
      let asks_same : asks_of work.ends.made ≡ asks_of made = asks_noted work.ends.made ∙ ap (map (λ (call : Ask × Answer). call.0)) same ∙ sym (asks_noted made) in
      let answers_same : answers_of work.ends.made ≡ answers_of made = answers_noted work.ends.made ∙ ap (map (λ (call : Ask × Answer). call.1)) same ∙ sym (answers_noted made) in
      record {
        input = work.input;
        read = work.read;
        finished = work.finished;
        memory = work.memory;
        closing = work.closing;
        ends = record {
          made = made;
          makes = refl;
          left = work.ends.left;
          asks = work.ends.asks ∙ ap (λ (l : List Ask). l ++ work.ends.left) asks_same;
          leaves = work.ends.leaves;
          writes = subst (λ (l : List Answer). Writes end link.door (served link.door work.input l) l (Some []) (Some (put link))) answers_same work.ends.writes;
        };
        told = subst (λ (l : List Answer). Tells end link.door (notices link.door work.input l) (λ told refused. TakesUntil takes refuses_notice link.first told refused link.witness) (Some []) (Some (put link))) answers_same work.told;
      }
