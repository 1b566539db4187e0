-- One event more.
use Rattle.std.proofs.Common.{◌≡◌, ℕ, List, [], ◌∷◌, ◌++◌, Bool, true, false, cond, Option, Some, None, Result, Ok, Err, refl, sym, ap, subst, ◌∙◌, nat_cmp}
use Rattle.std.specs.Prelude.{◌==◌, OnOk}
use Rattle.std.specs.BTreeMap.{get}
use Rattle.std.proofs.lemmas.List.{append_cancel_left}
use Rattle.tac_wire.specs.declared.door.Door.{Door}
use Rattle.tac_wire.specs.declared.door.Door.TheVariants.{Padded}
use Rattle.tac_wire.specs.Stream.{open_end, cut}
use Rattle.tac_stream.specs.declared.stream.Stream.{Stream}
use Rattle.tac_desk.specs.Meaning.{Meaning}
use Rattle.tac_desk.specs.Serving.{Said, said_on, sent_bytes}
use Rattle.tac_server.specs.Server.{State, opened, lost, heard, typed}
use Rattle.tac_server.specs.Kept.{Serves, Ties, HasState, IsOpened, IsCutShort, IsHeard, IsAnswered, IsOnlyAnswer}
use Rattle.tac_server.specs.Happening.{Happening, Opens, Brings, Loses, Types, Given, Nothing, Packets, Text, Gives, Hears}
use Rattle.tac_server.specs.Course.{Course, HasRun, RunsOn, BreaksOff, RunsAfterFault}
use Rattle.tac_server.specs.declared.server.Server.{Server}
use Rattle.tac_server.specs.declared.server.ServerFault.{ServerFault}
use Rattle.tac_server.specs.declared.server.ServerFault.TheVariants as faults
use Rattle.tac_server.proofs.FrontFacts.{begun_by}

same_bytes : (bytes : Option (List ℕ)) (one two : List ℕ) → bytes ≡ Some one → bytes ≡ Some two → two ≡ one
same_bytes bytes one two a b = let h : Some two ≡ Some one = sym b ∙ a in cc

-- one thing is said to bytes that come on an open connection
pub only_hears : (state : State) (number : ℕ) (bytes before : List ℕ) → state.connections number ≡ Some before → (other : Given) (later : State) → Hears state number bytes other later
    → (other ≡ Packets number (said_on (Padded state.key) state.meaning before bytes)) × (later ≡ heard number (before ++ bytes) (said_on (Padded state.key) state.meaning before bytes) state)
only_hears state number bytes before e other later d =
    let same = same_bytes (state.connections number) before d.before e d.is_open in (
      d.says ∙ ap (λ (b : List ℕ). Packets number (said_on (Padded state.key) state.meaning b bytes)) same,
      d.leaves ∙ ap (λ (b : List ℕ). heard number (b ++ bytes) (said_on (Padded state.key) state.meaning b bytes) state) same,
    )

-- ---- the key stays

pub gives_key : (state : State) (event : Happening) (given : Given) (after : State) → Gives state event given after → after.key ≡ state.key
gives_key state (Opens number) given after g = ap (λ (s : State). s.key) g.2
gives_key state (Brings number bytes) given after g = ap (λ (s : State). s.key) g.leaves
gives_key state (Loses number) given after g = ap (λ (s : State). s.key) g.1
gives_key state (Types line) given after g = ap (λ (s : State). s.key) g.leaves

course_key : (start : State) (events : List Happening) (outs : List Given) (after : State) → Course start events outs after → after.key ≡ start.key
course_key start [] outs after c = ap (λ (s : State). s.key) c.1
course_key start (event ∷ events) outs after c = gives_key c.before event c.given after c.gives ∙ course_key start events c.rest c.before c.was

-- ---- an event first

-- an event before all others
pub course_first : (start next after : State) (event : Happening) (given : Given) (events : List Happening) (outs : List Given)
    → Gives start event given next → Course next events outs after → Course start (events ++ event ∷ []) (outs ++ given ∷ []) after
course_first start next after event given [] outs gives c =
    record { before = start; rest = []; given = given; was = (refl, refl); gives = subst (Gives start event given) (sym c.1) gives; is = ap (λ (l : List Given). l ++ given ∷ []) c.0 }
course_first start next after event given (last ∷ events) outs gives c =
    record {
      before = c.before;
      rest = c.rest ++ given ∷ [];
      given = c.given;
      was = course_first start next c.before event given events c.rest gives c.was;
      gives = c.gives;
      is = ap (λ (l : List Given). l ++ given ∷ []) c.is;
    }

-- the first event, and the course of the others
pub record First (start : State) (event : Happening) (events : List Happening) (outs : List Given) (after : State) : Type 0 where
  pub next : State
  pub given : Given
  pub rest : List Given
  pub gives : Gives start event given next
  pub course : Course next events rest after
  pub is : outs ≡ rest ++ given ∷ []

pub course_split : (start after : State) (event : Happening) (events : List Happening) (outs : List Given) → Course start (events ++ event ∷ []) outs after → First start event events outs after
course_split start after event [] outs c =
    record { next = after; given = c.given; rest = []; gives = subst (λ (s : State). Gives s event c.given after) c.was.1 c.gives; course = (refl, refl); is = c.is ∙ ap (λ (l : List Given). c.given ∷ l) c.was.0 }
course_split start after event (last ∷ events) outs c =
    let f = course_split start c.before event events c.rest c.was in
    record {
      next = f.next;
      given = f.given;
      rest = c.given ∷ f.rest;
      gives = f.gives;
      course = record { before = c.before; rest = f.rest; given = c.given; was = f.course; gives = c.gives; is = refl };
      is = c.is ∙ ap (λ (l : List Given). c.given ∷ l) f.is;
    }

-- ---- an event last

-- no other outcome of these events is right
abbrev Alone : State → List Happening → List Given → State → Type 0
Alone start events outs state = (others : List Given) (other : State) → Course start events others other → (others ≡ outs) × (other ≡ state)

alone_more : (start : State) (events : List Happening) (outs : List Given) (state : State) (event : Happening) (given : Given) (after : State)
    → Alone start events outs state → ((other : Given) (later : State) → Gives state event other later → (other ≡ given) × (later ≡ after)) → Alone start (event ∷ events) (given ∷ outs) after
alone_more start events outs state event given after earlier only = λ others other b.
    let same = earlier b.rest b.before b.was in
    let one = only b.given other (subst (λ (s : State). Gives s event b.given other) same.1 b.gives) in
    (b.is ∙ ap (λ (g : Given). g ∷ b.rest) one.0 ∙ ap (λ (l : List Given). given ∷ l) same.0, one.1)

-- ---- a piece that memory breaks off

-- what is held of an open connection is no packet yet
open_tail : (door : Door) (o : Option Stream) (bytes : Option (List ℕ)) (before : List ℕ) → bytes ≡ Some before → Ties door o bytes → (rest : List ℕ) × ((cut door before).tail ≡ open_end rest)
open_tail door (Some stream) (Some other) before e t =
    let same : other ≡ before = cc in
    let serves : Serves door stream before = subst (λ (b : List ℕ). Serves door stream b) same t in
    (serves.rest, serves.tail)
open_tail door None (Some other) before e t = absurd t
open_tail door o None before e t = absurd cc

removed_last : (door : Door) (b : Bool) (g : Option Stream) (x y c : Option (List ℕ)) → Ties door g (cond b x c) → Ties door g (cond b x (cond b y c))
removed_last door true g x y c t = t
removed_last door false g x y c t = t

module _ {D : Type 0} (meaning : D → Meaning) where
  -- nothing has happened
  pub run_none : (server : Server D) (start : State) → HasState meaning server start → HasRun meaning server start [] []
  run_none server start has = record { state = start; has = has; course = (refl, refl); only = λ others other h. h }

  -- one event more, whose outcome is the only one
  run_more : (old new : Server D) (start : State) (events : List Happening) (outs : List Given) (event : Happening) (h : HasRun meaning old start events outs) (given : Given) (after : State)
      → Gives h.state event given after → ((other : Given) (later : State) → Gives h.state event other later → (other ≡ given) × (later ≡ after)) → HasState meaning new after
      → HasRun meaning new start (event ∷ events) (given ∷ outs)
  run_more old new start events outs event h given after gives only has = record {
    state = after;
    has = has;
    course = record { before = h.state; rest = outs; given = given; was = h.course; gives = gives; is = refl };
    only = alone_more start events outs h.state event given after h.only only;
  }

  pub run_opened : (old new : Server D) (number : ℕ) (result : Result (Unit {0}) ServerFault) → ((state : State) → HasState meaning old state → IsOpened meaning new number state result)
      → (start : State) (events : List Happening) (outs : List Given) → HasRun meaning old start events outs → OnOk result (HasRun meaning new start (Opens number ∷ events) (Nothing ∷ outs))
  run_opened old new number (Err fault) step start events outs h = tt
  run_opened old new number (Ok done) step start events outs h =
      let s = step h.state h.has in
      run_more old new start events outs (Opens number) h Nothing (opened number h.state) (s.0, refl, refl) (λ other later g. (g.1, g.2)) s.1

  pub run_lost : (old new : Server D) (number : ℕ) → ((state : State) → HasState meaning old state → HasState meaning new (lost number state))
      → (start : State) (events : List Happening) (outs : List Given) → HasRun meaning old start events outs → HasRun meaning new start (Loses number ∷ events) (Nothing ∷ outs)
  run_lost old new number step start events outs h =
      run_more old new start events outs (Loses number) h Nothing (lost number h.state) (refl, refl) (λ other later g. g) (step h.state h.has)

  pub run_heard : (old new : Server D) (was now : List ℕ) (number : ℕ) (piece : List ℕ) (result : Result Bool ServerFault)
      → ((state : State) → HasState meaning old state → IsHeard meaning was now new number piece state result)
      → (start : State) (events : List Happening) (outs : List Given) → HasRun meaning old start events outs → OnOk result (RunsOn meaning was now new start (Brings number piece) events outs)
  run_heard old new was now number piece (Err fault) step start events outs h = tt
  run_heard old new was now number piece (Ok closes) step start events outs h =
      let s = step h.state h.has in
      let before = s.0 in
      let said = said_on (Padded h.state.key) h.state.meaning before piece in (
        Packets number said,
        s.2.sends.0 ∙ ap (λ (k : List ℕ). was ++ sent_bytes (Padded k) said.sent) (course_key start events outs h.state h.course),
        run_more old new start events outs (Brings number piece) h (Packets number said) (heard number (before ++ piece) said h.state)
            (record { before = before; is_open = s.1; says = refl; leaves = refl }) (only_hears h.state number piece before s.1) s.2.has,
      )

  -- a beginning of the piece came, and the connection is lost
  breaks_off : (old new : Server D) (was now : List ℕ) (number : ℕ) (piece : List ℕ) (start : State) (events : List Happening) (outs : List Given) (h : HasRun meaning old start events outs)
      (before : List ℕ) → h.state.connections number ≡ Some before → IsCutShort meaning was now new number before piece h.state → BreaksOff meaning was now new start number piece events outs
  breaks_off old new was now number piece start events outs h before is_open short =
      let tie = subst (λ (k : List ℕ). Ties (Padded k) (get nat_cmp old.connections number) (h.state.connections number)) h.has.key (h.has.connections number) in
      let held = open_tail (Padded h.state.key) (get nat_cmp old.connections number) (h.state.connections number) before is_open tie in
      let begun = begun_by (Padded h.state.key) h.state.meaning before piece held.0 short.count held.1 in
      let said : Said = said_on (Padded h.state.key) h.state.meaning before begun.front in
      let middle : State = heard number (before ++ begun.front) said h.state in
      let gives : Gives h.state (Brings number begun.front) (Packets number said) middle = record { before = before; is_open = is_open; says = refl; leaves = refl } in
      record {
        front = begun.front;
        rest = begun.rest;
        given = Packets number said;
        split = begun.split;
        added = short.sends.0 ∙ ap (λ (s : Said). was ++ sent_bytes (Padded h.state.key) s.sent) (sym begun.said)
            ∙ ap (λ (k : List ℕ). was ++ sent_bytes (Padded k) said.sent) (course_key start events outs h.state h.course);
        run = record {
          state = lost number middle;
          has = record {
            key = short.has.key;
            desk = short.has.desk ∙ sym (ap (λ (s : Said). s.meaning) begun.said);
            connections = λ q. removed_last (Padded new.key) (q == number) _ _ _ (h.state.connections q) (short.has.connections q);
            batch = short.has.batch;
          };
          course = record {
            before = middle;
            rest = Packets number said ∷ outs;
            given = Nothing;
            was = record { before = h.state; rest = outs; given = Packets number said; was = h.course; gives = gives; is = refl };
            gives = (refl, refl);
            is = refl;
          };
          only = alone_more start (Brings number begun.front ∷ events) (Packets number said ∷ outs) middle (Loses number) Nothing (lost number middle)
              (alone_more start events outs h.state (Brings number begun.front) (Packets number said) middle h.only (only_hears h.state number begun.front before is_open))
              (λ other later g. g);
        };
      }

  pub run_after_fault : (old new : Server D) (was now : List ℕ) (number : ℕ) (piece : List ℕ) (result : Result Bool ServerFault)
      → ((state : State) → HasState meaning old state → IsHeard meaning was now new number piece state result)
      → (start : State) (events : List Happening) (outs : List Given) → HasRun meaning old start events outs → RunsAfterFault meaning was now new start number piece events outs result
  run_after_fault old new was now number piece (Ok closes) step start events outs h = tt
  run_after_fault old new was now number piece (Err faults.NoConnection) step start events outs h =
      let s = step h.state h.has in
      (s.1, record { state = h.state; has = s.2; course = h.course; only = h.only })
  run_after_fault old new was now number piece (Err faults.AlreadyOpen) step start events outs h = step h.state h.has
  run_after_fault old new was now number piece (Err (faults.Memory accepted)) step start events outs h =
      let s = step h.state h.has in
      breaks_off old new was now number piece start events outs h s.1.0 s.1.1 s.1.2

  pub run_told : (old new : Server D) (was now line : List ℕ) (result : Result (Unit {0}) ServerFault)
      → ((state : State) → HasState meaning old state → IsAnswered meaning was now new line state result)
      → ((state : State) → HasState meaning old state → OnOk result (IsOnlyAnswer meaning was now new line state))
      → (start : State) (events : List Happening) (outs : List Given) → HasRun meaning old start events outs → OnOk result (RunsOn meaning was now new start (Types line) events outs)
  run_told old new was now line (Err fault) step only start events outs h = tt
  run_told old new was now line (Ok done) step only start events outs h =
      let s = step h.state h.has in
      let alone = only h.state h.has in (
        Text s.0,
        s.3,
        run_more old new start events outs (Types line) h (Text s.0) (typed line s.1 h.state) (record { text = s.0; meaning = s.1; answers = s.2; says = refl; leaves = refl })
            (λ other later g.
            let one = alone g.text g.meaning g.answers in
            let stands : g.meaning ≡ s.1 = sym one.1 ∙ s.4.desk in
            let texts : g.text ≡ s.0 = append_cancel_left was g.text s.0 (sym one.0 ∙ s.3) in
            (g.says ∙ ap (λ (t : List ℕ). Text t) texts, g.leaves ∙ ap (λ (m : Meaning). typed line m h.state) stands))
            s.4,
      )
