-- The connections of a server, and bytes that are handed in piece by piece.
use Rattle.std.proofs.Common.{◌≡◌, ℕ, suc, List, [], ◌∷◌, ◌++◌, take, drop, Bool, true, false, cond, Option, None, Some, Result, Ok, Err, refl, sym, ap, subst, ◌∙◌, append_assoc, append-nil, length, arith, nat_cmp}
use Rattle.std.specs.Prelude.{◌==◌, is_some, IsSome}
use Rattle.std.specs.BTreeMap.{BTreeMap, get, is_at}
use Rattle.std.proofs.lemmas.Bool.{eq-eqb, eqb-true}
use Rattle.std.proofs.lemmas.List.{take-append-drop}
use Rattle.std.specs.declared.alloc.AllocError.{AllocError}
use Rattle.tac_wire.specs.declared.door.Door.{Door}
use Rattle.tac_wire.specs.declared.door.Door.TheVariants.{Padded}
use Rattle.tac_wire.specs.Stream.{Parts, open_end, cut, cut_within, only}
use Rattle.tac_conn.specs.declared.packet.Packet.{Packet}
use Rattle.tac_stream.specs.declared.stream.Stream.{Stream}
use Rattle.tac_stream.specs.Kept.{IsReady, Stands}
use Rattle.tac_desk.specs.Meaning.{Meaning}
use Rattle.tac_server.specs.declared.server.Server.{Server}
use Rattle.tac_server.specs.declared.server.ServerFault.{ServerFault}
use Rattle.tac_server.specs.declared.server.ServerFault.TheVariants as faults
use Rattle.tac_desk.specs.Serving.{Said, sent_before, unless_closed, said_on}
use Rattle.tac_server.specs.Server.{Connections, State, with_connection, opened, heard}
use Rattle.tac_server.specs.Kept.{Sends, Serves, Ties, Has, stands_for, HasState, IsOpened, IsSaid, IsHeard, IsHeardUnlessMemory}
use Rattle.tac_server.specs.Turning.{ServesUnless, SaysPiece}
use Rattle.tac_desk.proofs.ServingFacts.{unless_closed-true, unless_closed-false}
use Rattle.tac_server.proofs.SentFacts.{sends-append}

-- ---- one number among others

at_number : (number other : ℕ) → is_at (nat_cmp number) other ≡ (other == number)
at_number number other = Prim.grind (arith)

chosen : (door : Door) (b : Bool) (w g : Option Stream) (bytes c : Option (List ℕ)) → Ties door w bytes → Ties door g c → Ties door (cond b w g) (cond b bytes c)
chosen door true w g bytes c t r = t
chosen door false w g bytes c t r = r

-- one connection has changed
pub has_updated : (door : Door) (old new : BTreeMap ℕ Stream) (number : ℕ) (w : Option Stream) (bytes : Option (List ℕ)) (connections : Connections)
    → ((q : ℕ) → get nat_cmp new q ≡ cond (is_at (nat_cmp number) q) w (get nat_cmp old q)) → Has door old connections → Ties door w bytes → Has door new (with_connection number bytes connections)
has_updated door old new number w bytes connections h has tie =
    λ q. rw (h q, at_number number q) (chosen door (q == number) w (get nat_cmp old q) bytes (connections q) tie (has q))

twice_there : (b : Bool) (w v g : Option Stream) → cond b w (cond b v g) ≡ cond b w g
twice_there true w v g = refl
twice_there false w v g = refl

-- a connection was changed, and then removed
pub removed : (old mid new : BTreeMap ℕ Stream) (number : ℕ) (w : Option Stream)
    → ((q : ℕ) → get nat_cmp mid q ≡ cond (is_at (nat_cmp number) q) w (get nat_cmp old q))
    → ((q : ℕ) → get nat_cmp new q ≡ cond (is_at (nat_cmp number) q) None (get nat_cmp mid q))
    → (q : ℕ) → get nat_cmp new q ≡ cond (is_at (nat_cmp number) q) None (get nat_cmp old q)
removed old mid new number w first second q = second q ∙ ap (λ (g : Option Stream). cond (is_at (nat_cmp number) q) None g) (first q) ∙ twice_there (is_at (nat_cmp number) q) None w (get nat_cmp old q)

pub found_bytes : (door : Door) (o : Option Stream) (bytes : Option (List ℕ)) (stream : Stream) → o ≡ Some stream → Ties door o bytes
    → (before : List ℕ) × (bytes ≡ Some before) × Serves door stream before
found_bytes door (Some other) (Some before) stream e t =
    let same : other ≡ stream = cc in
    (before, refl, subst (λ (c : Stream). Serves door c before) same t)
found_bytes door (Some other) None stream e t = absurd t
found_bytes door None bytes stream e t = cc

pub some_found : (o : Option Stream) (stream : Stream) → Some stream ≡ o → IsSome o
some_found o stream e = rw (sym e) refl

-- ---- opening

none_there : (door : Door) (o : Option Stream) (bytes : Option (List ℕ)) → is_some o ≡ false → Ties door o bytes → bytes ≡ None
none_there door None None e t = refl
none_there door None (Some bytes) e t = absurd t
none_there door (Some stream) bytes e t = cc

cut_none : (door : Door) → cut door [] ≡ only (open_end [])
unfolding cut cut_within
cut_none door = refl

serves_none : (door : Door) (stream : Stream) → Stands door stream [] 0 → IsReady stream → Serves door stream []
serves_none door stream stands ready = record {
  rest = [];
  tail = ap (λ (p : Parts). p.tail) (cut_none door);
  ready = ready;
  stands = subst (λ (n : ℕ). Stands door stream [] n) (sym (ap (λ (p : Parts). length p.packets) (cut_none door))) stands;
}

pub opens : {D : Type 0} (meaning : D → Meaning) (old server : Server D) (number : ℕ) (stream : Stream) (state : State)
    → HasState meaning old state → server.key ≡ old.key → stands_for meaning server ≡ stands_for meaning old → server.batch ≡ old.batch
    → ((q : ℕ) → get nat_cmp server.connections q ≡ cond (is_at (nat_cmp number) q) (Some stream) (get nat_cmp old.connections q))
    → is_some (get nat_cmp old.connections number) ≡ false → ((door : Door) → Stands door stream [] 0) → IsReady stream
    → IsOpened meaning server number state (Ok tt)
opens meaning old server number stream state has key desk batch updates absent stands ready = (
  none_there (Padded old.key) (get nat_cmp old.connections number) (state.connections number) absent (has.connections number),
  record {
    key = key ∙ has.key;
    desk = desk ∙ has.desk;
    connections = subst (λ (k : List ℕ). Has (Padded k) server.connections (with_connection number (Some []) state.connections)) (sym key)
        (has_updated (Padded old.key) old.connections server.connections number (Some stream) (Some []) state.connections updates has.connections (serves_none (Padded old.key) stream (stands (Padded old.key)) ready));
    batch = batch ∙ has.batch;
  },
)

-- ---- hearing a piece

stays_open : (b : Bool) (door : Door) (stream : Stream) (bytes : List ℕ) → b ≡ false → ServesUnless b door stream bytes → Serves door stream bytes
stays_open true door stream bytes e s = cc
stays_open false door stream bytes e s = s

module _ {D : Type 0} (meaning : D → Meaning) (old server : Server D) (number : ℕ) (stream after : Stream) (was now : List ℕ) (piece : List ℕ)
    (found : get nat_cmp old.connections number ≡ Some stream) (key : server.key ≡ old.key) (same_batch : server.batch ≡ old.batch) (state : State) (has : HasState meaning old state) where
  here : (before : List ℕ) × (state.connections number ≡ Some before) × Serves (Padded old.key) stream before
  here = found_bytes (Padded old.key) (get nat_cmp old.connections number) (state.connections number) stream found (has.connections number)

  said_here : (result : Result Bool AllocError)
      → ((before : List ℕ) → Serves (Padded old.key) stream before → SaysPiece result (Padded old.key) (meaning old.desk) (meaning server.desk) was now after before piece)
      → SaysPiece result (Padded state.key) state.meaning (meaning server.desk) was now after here.0 piece
  said_here result said =
      subst (λ (m : Meaning). SaysPiece result (Padded state.key) m (meaning server.desk) was now after here.0 piece) has.desk
      (subst (λ (k : List ℕ). SaysPiece result (Padded k) (meaning old.desk) (meaning server.desk) was now after here.0 piece) has.key (said here.0 here.2))

  -- the connection stays open
  pub heard_open : ((before : List ℕ) → Serves (Padded old.key) stream before → SaysPiece (Ok false) (Padded old.key) (meaning old.desk) (meaning server.desk) was now after before piece)
      → ((q : ℕ) → get nat_cmp server.connections q ≡ cond (is_at (nat_cmp number) q) (Some after) (get nat_cmp old.connections q))
      → IsHeard meaning was now server number piece state (Ok false)
  unfolding said_here
  heard_open said updates =
      let told = said_here (Ok false) said in
      let bytes : List ℕ = here.0 ++ piece in
      let whole = said_on (Padded state.key) state.meaning here.0 piece in
      let serves : Serves (Padded old.key) after bytes = subst (λ (k : List ℕ). Serves (Padded k) after bytes) (sym has.key) told.serves in (
        here.0,
        here.1,
        record {
          closing = told.closing;
          sends = told.sends;
          has = record {
            key = key ∙ has.key;
            desk = told.meaning;
            connections = subst (λ (k : List ℕ). Has (Padded k) server.connections (with_connection number (cond whole.closes None (Some bytes)) state.connections)) (sym key)
                (subst (λ (b : Bool). Has (Padded old.key) server.connections (with_connection number (cond b None (Some bytes)) state.connections)) told.closing
                (has_updated (Padded old.key) old.connections server.connections number (Some after) (Some bytes) state.connections updates has.connections serves));
            batch = same_batch ∙ has.batch;
          };
        },
      )

  -- the connection is closed
  pub heard_closing : ((before : List ℕ) → Serves (Padded old.key) stream before → SaysPiece (Ok true) (Padded old.key) (meaning old.desk) (meaning server.desk) was now after before piece)
      → ((q : ℕ) → get nat_cmp server.connections q ≡ cond (is_at (nat_cmp number) q) None (get nat_cmp old.connections q))
      → IsHeard meaning was now server number piece state (Ok true)
  unfolding said_here
  heard_closing said updates =
      let told = said_here (Ok true) said in
      let bytes : List ℕ = here.0 ++ piece in
      let whole = said_on (Padded state.key) state.meaning here.0 piece in (
        here.0,
        here.1,
        record {
          closing = told.closing;
          sends = told.sends;
          has = record {
            key = key ∙ has.key;
            desk = told.meaning;
            connections = subst (λ (k : List ℕ). Has (Padded k) server.connections (with_connection number (cond whole.closes None (Some bytes)) state.connections)) (sym key)
                (subst (λ (b : Bool). Has (Padded old.key) server.connections (with_connection number (cond b None (Some bytes)) state.connections)) told.closing
                (has_updated (Padded old.key) old.connections server.connections number None None state.connections updates has.connections tt));
            batch = same_batch ∙ has.batch;
          };
        },
      )

  -- memory ran out
  pub heard_short : (error : AllocError) → ((before : List ℕ) → Serves (Padded old.key) stream before → SaysPiece (Err error) (Padded old.key) (meaning old.desk) (meaning server.desk) was now after before piece)
      → ((q : ℕ) → get nat_cmp server.connections q ≡ cond (is_at (nat_cmp number) q) None (get nat_cmp old.connections q))
      → IsHeard meaning was now server number piece state (Err (faults.Memory false))
  unfolding said_here
  heard_short error said updates =
      let told = said_here (Err error) said in (
        refl,
        (
          here.0,
          here.1,
          record {
            count = told.count;
            stays = ap (λ (s : Said). s.closes) told.said;
            sends = subst (λ (l : List Packet). Sends (Padded state.key) was now l) (sym (ap (λ (s : Said). s.sent) told.said)) told.sends;
            has = record {
              key = key ∙ has.key;
              desk = sym (ap (λ (s : Said). s.meaning) told.said);
              connections = subst (λ (k : List ℕ). Has (Padded k) server.connections (with_connection number None state.connections)) (sym key)
                  (has_updated (Padded old.key) old.connections server.connections number None None state.connections updates has.connections tt);
              batch = same_batch ∙ has.batch;
            };
          },
        ),
      )

-- ---- piece by piece

pub unless_memory : {D : Type 0} (meaning : D → Meaning) (was now : List ℕ) (server : Server D) (number : ℕ) (bytes : List ℕ) (state : State) (result : Result Bool ServerFault)
    → IsHeard meaning was now server number bytes state result → IsHeardUnlessMemory meaning was now server number bytes state result
unless_memory meaning was now server number bytes state (Ok closes) h = h
unless_memory meaning was now server number bytes state (Err faults.NoConnection) h = h
unless_memory meaning was now server number bytes state (Err faults.AlreadyOpen) h = h
unless_memory meaning was now server number bytes state (Err (faults.Memory accepted)) h = tt

with_same : (number : ℕ) (bytes : Option (List ℕ)) (connections : Connections) → with_connection number bytes connections number ≡ bytes
with_same number bytes connections = rw (eq-eqb number number refl) refl

twice : (door : Door) (b : Bool) (g : Option Stream) (x y c : Option (List ℕ)) → Ties door g (cond b x (cond b y c)) → Ties door g (cond b x c)
twice door true g x y c t = t
twice door false g x y c t = t

abbrev pub Law : List ℕ → Type 0
Law key = (meaning : Meaning) (before first second : List ℕ) → said_on (Padded key) meaning before (first ++ second) ≡ unless_closed (said_on (Padded key) meaning before first) (λ next. said_on (Padded key) next (before ++ first) second)

module _ {D : Type 0} (meaning : D → Meaning) (was now last : List ℕ) (middle server : Server D) (number : ℕ) (first second : List ℕ) (state : State) (pieces : Law state.key) where
  after_first : List ℕ → State
  after_first before = heard number (before ++ first) (said_on (Padded state.key) state.meaning before first) state

  -- the connection is open after the first piece
  still_open : (before : List ℕ) → (said_on (Padded state.key) state.meaning before first).closes ≡ false → (after_first before).connections number ≡ Some (before ++ first)
  unfolding after_first
  still_open before e = with_same number _ state.connections ∙ rw e refl

  joined_said : (before : List ℕ) → (said_on (Padded state.key) state.meaning before first).closes ≡ false
      → said_on (Padded state.key) state.meaning before (first ++ second) ≡ sent_before (said_on (Padded state.key) state.meaning before first).sent (said_on (Padded state.key) (said_on (Padded state.key) state.meaning before first).meaning (before ++ first) second)
  joined_said before e = pieces state.meaning before first second ∙ unless_closed-false (said_on (Padded state.key) state.meaning before first) (λ next. said_on (Padded state.key) next (before ++ first) second) e

  both : (result : Result Bool ServerFault) (before : List ℕ) → state.connections number ≡ Some before → IsSaid meaning was now false middle number (before ++ first) state (said_on (Padded state.key) state.meaning before first)
      → IsHeardUnlessMemory meaning now last server number second (after_first before) result → IsHeardUnlessMemory meaning was last server number (first ++ second) state result
  unfolding after_first
  both (Err (faults.Memory accepted)) before e said h = tt
  both (Err faults.AlreadyOpen) before e said h = h
  both (Err faults.NoConnection) before e said h =
      let open_still = still_open before (sym said.closing) in
      let impossible : None ≡ Some (before ++ first) = sym h.0 ∙ open_still in cc
  both (Ok closes) before e said (again, f, more) =
      let stays : (said_on (Padded state.key) state.meaning before first).closes ≡ false = sym said.closing in
      let same : again ≡ before ++ first = (let h : Some again ≡ Some (before ++ first) = sym f ∙ still_open before stays in cc) in
      let one = said_on (Padded state.key) state.meaning before first in
      let two = said_on (Padded state.key) one.meaning (before ++ first) second in
      let told = subst (λ (b : List ℕ). IsSaid meaning now last closes server number (b ++ second) (after_first before) (said_on (Padded state.key) one.meaning b second)) same more in
      let all = joined_said before stays in (
        before,
        e,
        record {
          closing = told.closing ∙ sym (ap (λ (s : Said). s.closes) all);
          sends = subst (λ (l : List Packet). Sends (Padded state.key) was last l) (sym (ap (λ (s : Said). s.sent) all)) (sends-append (Padded state.key) was now last one.sent two.sent said.sends told.sends);
          has = record {
            key = told.has.key;
            desk = told.has.desk ∙ sym (ap (λ (s : Said). s.meaning) all);
            connections = λ q. rw (all, ← append_assoc before first second) (twice (Padded server.key) (q == number) _ _ _ (state.connections q) (told.has.connections q));
            batch = told.has.batch;
          };
        },
      )

  -- what was said to one piece, and then to the rest, was said to both
  heard_more : (result : Result Bool ServerFault) → IsHeard meaning was now middle number first state (Ok false)
      → ((next : State) → HasState meaning middle next → IsHeardUnlessMemory meaning now last server number second next result)
      → IsHeardUnlessMemory meaning was last server number (first ++ second) state result
  unfolding after_first
  heard_more result (before, e, said) goes_on = both result before e said (goes_on (after_first before) said.has)

  -- the first piece has closed the connection
  heard_all : IsHeard meaning was now server number first state (Ok true) → IsHeard meaning was now server number (first ++ second) state (Ok true)
  heard_all (before, e, said) =
      let one = said_on (Padded state.key) state.meaning before first in
      let closed : one.closes ≡ true = sym said.closing in
      let all : said_on (Padded state.key) state.meaning before (first ++ second) ≡ one = pieces state.meaning before first second ∙ unless_closed-true one (λ next. said_on (Padded state.key) next (before ++ first) second) closed in
      let has : Has (Padded server.key) server.connections (with_connection number None state.connections) = subst (λ (b : Bool). Has (Padded server.key) server.connections (with_connection number (cond b None (Some (before ++ first))) state.connections)) closed said.has.connections in (
        before,
        e,
        rw all (record {
          closing = said.closing;
          sends = said.sends;
          has = record { key = said.has.key; desk = said.has.desk; connections = rw closed has; batch = said.has.batch };
        }),
      )

-- a refusal doesn't depend on the bytes
heard_refused : {D : Type 0} (meaning : D → Meaning) (was now : List ℕ) (server : Server D) (number : ℕ) (first second : List ℕ) (state : State) (fault : ServerFault)
    → IsHeard meaning was now server number first state (Err fault) → IsHeardUnlessMemory meaning was now server number second state (Err fault)
heard_refused meaning was now server number first second state faults.NoConnection h = h
heard_refused meaning was now server number first second state faults.AlreadyOpen h = h
heard_refused meaning was now server number first second state (faults.Memory accepted) h = tt

no_bytes : (bytes : List ℕ) → true ≡ (length bytes == 0) → bytes ≡ []
no_bytes [] e = refl
no_bytes (byte ∷ bytes) e = let n : suc (length bytes) ≡ 0 = eqb-true (suc (length bytes)) 0 (sym e) in cc

-- a piece and the rest, as they were split
module _ {D : Type 0} (meaning : D → Meaning) (n : ℕ) (all piece rest : List ℕ) (front : piece ≡ take n all) (back : rest ≡ drop n all) (was now : List ℕ) (middle : Server D) (number : ℕ) (closes : Bool) where
  whole : piece ++ rest ≡ all
  whole = ap (λ (l : List ℕ). l ++ rest) front ∙ ap (λ (l : List ℕ). take n all ++ l) back ∙ take-append-drop n all

  -- the piece has closed the connection
  pub closed_here : closes ≡ true → (state : State) → Law state.key → IsHeard meaning was now middle number piece state (Ok closes) → IsHeardUnlessMemory meaning was now middle number all state (Ok true)
  closed_here closed state law h =
      let told = subst (λ (b : Bool). IsHeard meaning was now middle number piece state (Ok b)) closed h in
      subst (λ (l : List ℕ). IsHeard meaning was now middle number l state (Ok true)) whole (heard_all meaning was now now middle middle number piece rest state law told)

  -- there is no rest
  pub done_here : closes ≡ false → true ≡ (length rest == 0) → (state : State) → IsHeard meaning was now middle number piece state (Ok closes) → IsHeardUnlessMemory meaning was now middle number all state (Ok false)
  done_here opened none state h =
      let told = subst (λ (b : Bool). IsHeard meaning was now middle number piece state (Ok b)) opened h in
      let same_bytes : piece ≡ all = sym (append-nil piece) ∙ ap (λ (l : List ℕ). piece ++ l) (sym (no_bytes rest none)) ∙ whole in
      subst (λ (l : List ℕ). IsHeard meaning was now middle number l state (Ok false)) same_bytes told

  -- the rest is still to be handed in
  pub more_here : closes ≡ false → (last : List ℕ) (server : Server D) (result : Result Bool ServerFault)
      → ((next : State) → HasState meaning middle next → IsHeardUnlessMemory meaning now last server number rest next result)
      → (state : State) → Law state.key → IsHeard meaning was now middle number piece state (Ok closes) → IsHeardUnlessMemory meaning was last server number all state result
  more_here opened last server result goes_on state law h =
      let told = subst (λ (b : Bool). IsHeard meaning was now middle number piece state (Ok b)) opened h in
      subst (λ (l : List ℕ). IsHeardUnlessMemory meaning was last server number l state result) whole
      (heard_more meaning was now last middle server number piece rest state law result told goes_on)

  -- the piece was refused
  pub refused_here : (state : State) (fault : ServerFault) → IsHeard meaning was now middle number piece state (Err fault) → IsHeardUnlessMemory meaning was now middle number all state (Err fault)
  refused_here state fault h = heard_refused meaning was now middle number piece all state fault h
