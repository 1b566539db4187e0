-- Doing the events of a script one after another.
use Rattle.std.proofs.Common.{◌≡◌, ℕ, ◌+◌, List, [], ◌∷◌, ◌++◌, length, Bool, true, false, Option, None, Some, Result, Ok, Err, inl, inr, refl, sym, ap, subst, ◌∙◌, append_assoc, append-nil}
use Rattle.std.specs.Prelude.{is_some, IsTrue, if◌then◌else◌}
use Rattle.std.specs.List.{list_any}
use Rattle.pol_live.specs.Judging.{Judges, IsOnlyJudged}
use Rattle.pol_live.specs.declared.judging.TextRefusal.{TextRefusal}
use Rattle.std.proofs.lemmas.List.{append_cancel_left}
use Rattle.pol_text.specs.declared.subject.Subject.{Subject}
use Rattle.tac_wire.specs.declared.door.Door.TheVariants.{Padded}
use Rattle.tac_desk.specs.Meaning.{Meaning}
use Rattle.tac_server.specs.declared.server.Server.{Server}
use Rattle.tac_server.specs.declared.server.ServerFault.{ServerFault}
use Rattle.tac_server.specs.declared.server.ServerFault.TheVariants as faults
use Rattle.tac_server.specs.declared.event.Event.{Event}
use Rattle.tac_server.specs.declared.event.Event.TheVariants.{Open, Hand, Pieces, Lost, Console}
use Rattle.tac_server.specs.declared.script_fault.ScriptFault.TheVariants.{BadKey, NoRun, BadCommand, AlreadyOpen}
use Rattle.tac_server.specs.declared.script_fault.Located.{Located}
use Rattle.tac_server.specs.declared.script_fault.Stop.{Stop}
use Rattle.tac_server.specs.declared.script_fault.Stop.TheVariants as stops
use Rattle.tac_desk.specs.Serving.{Said, said_on}
use Rattle.tac_server.specs.Server.{State, opening, opened, lost, heard, typed}
use Rattle.tac_server.specs.Command.{event_of}
use Rattle.tac_server.specs.Happening.{Nothing, Packets, Text}
use Rattle.tac_server.specs.Events.{shown, printed}
use Rattle.tac_server.specs.Kept.{Sends, HasState, IsOpened, IsHeardUnlessMemory, IsAnswered, IsOnlyAnswer, IsDone, IsDoneUnless, stop_of}
use Rattle.tac_server.specs.Running.{Steps, EventGoesOn}
use Rattle.tac_server.specs.Script.{Run, Runs, RunsBy, TextRuns, BodyRuns, LinesRun, Ends, Prints, desk_of, ended, stopped_by, stopped, after_text, is_run, key_line}
use Rattle.tac_server.proofs.CourseFacts.{only_hears}
use Rattle.tac_server.proofs.LinesFacts.{prints_course}

-- ---- opening

pub opens_line : {D : Type 0} (meaning : D → Meaning) (line number : ℕ) (server : Server D) (state : State) (text : List ℕ) → IsOpened meaning server number state (Ok tt)
    → IsDoneUnless meaning line text text server state (Open number) (Ok tt)
opens_line meaning line number server state text h = record {
  text = [];
  next = opened number state;
  free = rw h.0 refl;
  does = record { given = Nothing; gives = (h.0, refl, refl); prints = refl };
  only = λ other later d. (d.prints ∙ ap (printed state.key) d.gives.1, d.gives.2);
  added = sym (append-nil text);
  has = h.1;
}

taken : (o : Option (List ℕ)) → IsTrue (is_some o) → (if is_some o then Some AlreadyOpen else None) ≡ Some AlreadyOpen
taken (Some bytes) t = refl
taken None t = cc

pub not_opened : {D : Type 0} (meaning : D → Meaning) (line number : ℕ) (server : Server D) (state : State) (text : List ℕ) (fault : ServerFault) (stop : Stop) → stop ≡ stop_of line fault
    → IsOpened meaning server number state (Err fault) → IsDoneUnless meaning line text text server state (Open number) (Err stop)
not_opened meaning line number server state text faults.NoConnection stop e h = absurd h
not_opened meaning line number server state text faults.AlreadyOpen stop e h = rw e (refl, taken (state.connections number) h.0, refl)
not_opened meaning line number server state text (faults.Memory accepted) stop e h = rw e tt

-- ---- losing

pub loses_line : {D : Type 0} (meaning : D → Meaning) (line number : ℕ) (server : Server D) (state : State) (text : List ℕ) → HasState meaning server (lost number state)
    → IsDoneUnless meaning line text text server state (Lost number) (Ok tt)
loses_line meaning line number server state text h = record {
  text = [];
  next = lost number state;
  free = refl;
  does = record { given = Nothing; gives = (refl, refl); prints = refl };
  only = λ other later d. (d.prints ∙ ap (printed state.key) d.gives.0, d.gives.1);
  added = sym (append-nil text);
  has = h;
}

-- ---- the size of pieces

pub keeps_line : {D : Type 0} (meaning : D → Meaning) (line size : ℕ) (server : Server D) (state : State) (text : List ℕ) → HasState meaning server state
    → IsDoneUnless meaning line text text server state (Pieces size) (Ok tt)
keeps_line meaning line size server state text h = record {
  text = [];
  next = state;
  free = refl;
  does = (refl, refl);
  only = λ other later d. d;
  added = sym (append-nil text);
  has = h;
}

-- ---- handing bytes in

pub hands_line : {D : Type 0} (meaning : D → Meaning) (key : List ℕ) (line number : ℕ) (bytes : List ℕ) (server : Server D) (state : State) (sent : List ℕ) (closes : Bool) (old new : List ℕ) → key ≡ server.key
    → IsHeardUnlessMemory meaning [] sent server number bytes state (Ok closes)
    → ((said : Said) → Sends (Padded key) [] sent said.sent → closes ≡ said.closes → new ≡ old ++ shown key number said)
    → IsDoneUnless meaning line old new server state (Hand number bytes) (Ok tt)
hands_line meaning key line number bytes server state sent closes old new same (before, e, said) show =
    let whole = said_on (Padded state.key) state.meaning before bytes in
    let keys : key ≡ state.key = same ∙ said.has.key in
    record {
      text = shown state.key number whole;
      next = heard number (before ++ bytes) whole state;
      free = rw e refl;
      does = record { given = Packets number whole; gives = record { before = before; is_open = e; says = refl; leaves = refl }; prints = refl };
      only = λ other later d.
          let one = only_hears state number bytes before e d.given later d.gives in
          (d.prints ∙ ap (printed state.key) one.0, one.1);
      added = show whole (subst (λ (k : List ℕ). Sends (Padded k) [] sent whole.sent) (sym keys) said.sends) said.closing ∙ ap (λ (k : List ℕ). old ++ shown k number whole) keys;
      has = said.has;
    }

pub not_handed : {D : Type 0} (meaning : D → Meaning) (line number : ℕ) (bytes : List ℕ) (server : Server D) (state : State) (sent : List ℕ) (text : List ℕ) (fault : ServerFault) (stop : Stop) → stop ≡ stop_of line fault
    → IsHeardUnlessMemory meaning [] sent server number bytes state (Err fault) → IsDoneUnless meaning line text text server state (Hand number bytes) (Err stop)
not_handed meaning line number bytes server state sent text faults.NoConnection stop e h = rw e (refl, rw h.0 refl, refl)
not_handed meaning line number bytes server state sent text faults.AlreadyOpen stop e h = absurd h
not_handed meaning line number bytes server state sent text (faults.Memory accepted) stop e h = rw e tt

-- ---- the console

pub tells_line : {D : Type 0} (meaning : D → Meaning) (number : ℕ) (line : List ℕ) (server : Server D) (state : State) (old new : List ℕ)
    → IsAnswered meaning old new server line state (Ok tt) → IsOnlyAnswer meaning old new server line state
    → IsDoneUnless meaning number old new server state (Console line) (Ok tt)
tells_line meaning number line server state old new h only = record {
  text = h.0;
  next = typed line h.1 state;
  free = refl;
  does = record { given = Text h.0; gives = record { text = h.0; meaning = h.1; answers = h.2; says = refl; leaves = refl }; prints = refl };
  only = λ other later d.
      let g = d.gives in
      let same = only g.text g.meaning g.answers in
      let texts : g.text ≡ h.0 = append_cancel_left old g.text h.0 (sym same.0 ∙ h.3) in
      let meanings : g.meaning ≡ h.1 = sym same.1 ∙ h.4.desk in
      (d.prints ∙ ap (printed state.key) g.says ∙ texts, g.leaves ∙ ap (λ (m : Meaning). typed line m state) meanings);
  added = h.3;
  has = h.4;
}

-- ---- one line after another

-- what was printed so far, and the server that the events so far leave: the runs of what is still
-- to be run, after what was printed, are the runs of all
pub record Progress {D : Type 0} (meaning : D → Meaning) (old new : List ℕ) (server : Server D) (number : ℕ) (lines : List (List ℕ)) (runs : Run → Type 0) : Type 0 where
  pub state : State
  pub text : List ℕ
  pub has : HasState meaning server state
  pub printed : new ≡ old ++ text
  pub found : (rest : Run) → Steps state number lines rest → runs (after_text text rest)
  pub only : (run : Run) → runs run → (rest : Run) × Steps state number lines rest × (run ≡ after_text text rest)

pub run_begun : {D : Type 0} (meaning : D → Meaning) (old : List ℕ) (server : Server D) (number : ℕ) (lines : List (List ℕ)) (state : State) → HasState meaning server state
    → Progress meaning old old server number lines (Steps state number lines)
run_begun meaning old server number lines state has = record {
  state = state;
  text = [];
  has = has;
  printed = sym (append-nil old);
  found = λ rest h. h;
  only = λ run h. (run, h, refl);
}

module _ {D : Type 0} (meaning : D → Meaning) (old new : List ℕ) (server : Server D) (number : ℕ) (lines : List (List ℕ)) (runs : Run → Type 0) (p : Progress meaning old new server number lines runs) where
  -- a run that prints no more
  ends_with : (end : Run) (fault : Option Located) → Steps p.state number lines end → ((other : Run) → Steps p.state number lines other → other ≡ end) → end.text ≡ [] → end.fault ≡ fault
      → Ends old new fault runs
  ends_with end fault is only none same = record {
    run = after_text p.text end;
    is = p.found end is;
    only = λ other h. (let o = p.only other h in o.2 ∙ ap (after_text p.text) (only o.0 o.1));
    printed = p.printed ∙ ap (λ (t : List ℕ). old ++ t) (sym (append-nil p.text) ∙ ap (λ (t : List ℕ). p.text ++ t) (sym none));
    fault_is = same;
  }

  -- no line is left
  pub run_ended : lines ≡ [] → Ends old new None runs
  unfolding Steps
  run_ended e = ends_with ended None (rw e refl) (λ other h. rw e at h) refl refl

  module _ (line : List ℕ) (rest : List (List ℕ)) (split : lines ≡ line ∷ rest) where
    -- the line is no command
    pub run_refused : (at : ℕ) → at ≡ number → event_of p.state.key line ≡ None → Ends old new (Some (record { line = Some at; fault = BadCommand })) runs
    unfolding Steps
    run_refused at same none =
        ends_with (stopped number BadCommand) (Some (record { line = Some at; fault = BadCommand })) (rw (split, none) refl) (λ other h. rw (split, none) at h) refl (rw same refl)

    -- the event was not done
    pub run_stopped : (event : Event) (at : ℕ) (now : List ℕ) (last : Server D) (stop : Stop) → at ≡ number → event_of p.state.key line ≡ Some event
        → IsDoneUnless meaning at new now last p.state event (Err stop) → Prints old now (Err stop) runs
    unfolding Steps
    run_stopped event at now last stops.Memory same found h = tt
    run_stopped event at now last (stops.Fault fault) same found h =
        let end : Run = stopped number fault.fault in
        let located : end.fault ≡ Some fault = ap (λ (n : Option ℕ). Some (record { line = n; fault = fault.fault })) (ap (λ (n : ℕ). Some n) (sym same) ∙ sym h.0) in
        rw h.2 (ends_with end (Some fault) (rw (split, found, h.1) refl) (λ other r. rw (split, found, h.1) at r) refl located)

    -- the event was done
    module _ (event : Event) (next : ℕ) (now : List ℕ) (last : Server D) (more : next ≡ number + 1) (found : event_of p.state.key line ≡ Some event) (d : IsDone meaning new now last p.state event) where
      joined : (r : Run) → after_text p.text (after_text d.text r) ≡ after_text (p.text ++ d.text) r
      joined r = ap (λ (t : List ℕ). record r { text = t }) (sym (append_assoc p.text d.text r.text))

      runs_line : (r : Run) → Steps d.next next rest r → Steps p.state number lines (after_text d.text r)
      unfolding Steps
      runs_line r h = rw (split, found, d.free) (record { text = d.text; next = d.next; rest = r; does = d.does; onward = rw more at h; is = refl })

      runs_back : (run : Run) → Steps p.state number lines run → (r : Run) × Steps d.next next rest r × (run ≡ after_text d.text r)
      unfolding Steps
      runs_back run h =
          let on : EventGoesOn p.state event (λ after r. Steps after (number + 1) rest r) run = rw (split, found, d.free) at h in
          let same = d.only on.text on.next on.does in
          let onward : Steps d.next next rest on.rest = rw (← same.1, more) on.onward in
          (on.rest, onward, on.is ∙ ap (λ (t : List ℕ). after_text t on.rest) same.0)

      pub run_goes_on : Progress meaning old now last next rest runs
      run_goes_on = record {
        state = d.next;
        text = p.text ++ d.text;
        has = d.has;
        printed = d.added ∙ ap (λ (t : List ℕ). t ++ d.text) p.printed ∙ append_assoc old p.text d.text;
        found = λ r h. subst runs (joined r) (p.found (after_text d.text r) (runs_line r h));
        only = λ run h. (
            let o = p.only run h in
            let b = runs_back o.0 o.1 in
            (b.0, b.1, o.2 ∙ ap (after_text p.text) b.2 ∙ joined b.0));
      }

-- ---- what comes before the events

-- nothing was printed, and this is the only run
stops_at : (text : List ℕ) (at : Located) (runs : Run → Type 0) → runs (stopped_by at) → ((other : Run) → runs other → other ≡ stopped_by at) → Ends text text (Some at) runs
stops_at text at runs is only = record { run = stopped_by at; is = is; only = only; printed = sym (append-nil text); fault_is = refl }

-- there is no `run`
pub body_none : (text : List ℕ) (key : List ℕ) (lines : List (List ℕ)) (at : ℕ) → list_any is_run lines ≡ false → at ≡ length lines + 2
    → Ends text text (Some (record { line = Some at; fault = NoRun })) (BodyRuns key lines)
unfolding BodyRuns
body_none text key lines at none number =
    stops_at text (record { line = Some at; fault = NoRun }) (BodyRuns key lines) (rw (none, number) refl) (λ other r. (let told : other ≡ stopped (length lines + 2) NoRun = rw none at r in rw number told))

-- ---- the policy of a text

module _ (text key : List ℕ) (number : ℕ) (events : List (List ℕ)) (old new : List ℕ) (judged : Result (List Subject) TextRefusal) (judges : Judges text judged) (one : IsOnlyJudged text judged) where
  ends_judged : (fault : Option Located) → Ends old new fault (RunsBy judged key number events) → Ends old new fault (TextRuns text key number events)
  unfolding TextRuns
  ends_judged fault h = record {
    run = h.run;
    is = (judged, judges, h.is);
    only = λ other k. h.only other (subst (λ (found : Result (List Subject) TextRefusal). RunsBy found key number events other) (sym (one k.0 k.1)) k.2);
    printed = h.printed;
    fault_is = h.fault_is;
  }

  pub prints_judged : (result : Result (Unit {0}) Stop) → Prints old new result (RunsBy judged key number events) → Prints old new result (TextRuns text key number events)
  prints_judged (Ok _) h = ends_judged None h
  prints_judged (Err stops.Memory) h = tt
  prints_judged (Err (stops.Fault at)) h = ends_judged (Some at) h

-- a desk of a policy that may stand
pub runs_at_desk : (key : List ℕ) (number : ℕ) (events : List (List ℕ)) (old new : List ℕ) (policy : List Subject) (meaning : Meaning) → meaning ≡ desk_of policy
    → (result : Result (Unit {0}) Stop) → Prints old new result (Steps (opening key meaning) number events) → Prints old new result (RunsBy (Ok policy) key number events)
runs_at_desk key number events old new policy meaning is result h =
    subst (λ (m : Meaning). Prints old new result (Runs (opening key m) number events)) is (prints_course (opening key meaning) number events old new result h)

-- a run that stops before anything is printed
pub stops_so : (text : List ℕ) (at : Located) → Ends text text (Some at) (λ run. run ≡ stopped_by at)
stops_so text at = stops_at text at (λ run. run ≡ stopped_by at) refl (λ other r. r)

-- there is no line 1
pub lines_none : (text : List ℕ) (lines : List (List ℕ)) → lines ≡ [] → Ends text text (Some (record { line = Some 1; fault = BadKey })) (LinesRun lines)
unfolding LinesRun
lines_none text lines e = stops_at text (record { line = Some 1; fault = BadKey }) (LinesRun lines) (rw e refl) (λ other r. rw e at r)

-- it has no key
pub lines_bad : (text : List ℕ) (lines rest : List (List ℕ)) (line : List ℕ) → lines ≡ line ∷ rest → key_line line ≡ None → Ends text text (Some (record { line = Some 1; fault = BadKey })) (LinesRun lines)
unfolding LinesRun
lines_bad text lines rest line e none = stops_at text (record { line = Some 1; fault = BadKey }) (LinesRun lines) (rw (e, none) refl) (λ other r. rw (e, none) at r)
