-- The lines after `run`, one after another, and as one course of events.
use Rattle.std.proofs.Common.{◌≡◌, ℕ, ◌+◌, List, [], ◌∷◌, ◌++◌, length, reverse, Option, None, Some, Result, Ok, Err, refl, sym, ap, subst, ◌∙◌, arith}
use Rattle.std.specs.List.{flat_map}
use Rattle.std.proofs.lemmas.List.{reverse-append, reverse-reverse}
use Rattle.tac_server.specs.Server.{State}
use Rattle.tac_server.specs.Command.{event_of}
use Rattle.tac_server.specs.Happening.{Happening, Opens, Brings, Given, Gives}
use Rattle.tac_server.specs.Course.{Course}
use Rattle.tac_server.specs.Events.{fault_in, happening_of, printed, Does, DoesIf}
use Rattle.tac_server.specs.Script.{Run, Runs, StopsAt, Ends, Prints, stopped, after_text, with_happening, happenings, line_fault}
use Rattle.tac_server.specs.Running.{EventSteps, LineSteps, Steps}
use Rattle.tac_server.specs.declared.event.Event.{Event}
use Rattle.tac_server.specs.declared.event.Event.TheVariants.{Open, Hand, Pieces, Lost, Console}
use Rattle.tac_server.specs.declared.script_fault.Located.{Located}
use Rattle.tac_server.specs.declared.script_fault.ScriptFault.{ScriptFault}
use Rattle.tac_server.specs.declared.script_fault.ScriptFault.TheVariants.{BadCommand}
use Rattle.tac_server.specs.declared.script_fault.Stop.{Stop}
use Rattle.tac_server.specs.declared.script_fault.Stop.TheVariants as stops
use Rattle.tac_server.proofs.CourseFacts.{gives_key, course_first, course_split, First}

reverse-cons : {X : Type 0} (x : X) (xs : List X) → reverse (x ∷ xs) ≡ reverse xs ++ x ∷ []
reverse-cons x xs = reverse-append (x ∷ []) xs

-- ---- one line more, in front

asked_more : (key line : List ℕ) (done : List (List ℕ)) (event : Event) (events : List Happening) → event_of key line ≡ Some event → happenings key done ≡ Some events
    → happenings key (line ∷ done) ≡ Some (with_happening (happening_of event) events)
asked_more key line done event events found asked = rw (found, asked) refl

module _ (state : State) (number : ℕ) (line : List ℕ) (lines : List (List ℕ)) where
  -- it has a fault
  runs_stopped : (reason : ScriptFault) → line_fault state.connections (event_of state.key line) ≡ Some reason → Runs state number (line ∷ lines) (stopped number reason)
  runs_stopped reason fault = record {
    done = [];
    rest = line ∷ lines;
    events = [];
    outs = [];
    after = state;
    split = refl;
    asked = refl;
    course = (refl, refl);
    prints = refl;
    stops = (reason, fault, ap (λ (n : ℕ). Some (record { line = Some n; fault = reason })) (omega arith));
  }

  module _ (event : Event) (found : event_of state.key line ≡ Some event) (text : List ℕ) (next : State) (run : Run) where
    -- it was done
    runs_more : (happens : Option Happening) → happening_of event ≡ happens → DoesIf state happens text next → Runs next (number + 1) lines run → Runs state number (line ∷ lines) (after_text text run)
    runs_more None is does onward =
        let r : Runs state (number + 1) lines run = subst (λ (s : State). Runs s (number + 1) lines run) does.1 onward in
        record {
          done = line ∷ r.done;
          rest = r.rest;
          events = r.events;
          outs = r.outs;
          after = r.after;
          split = ap (λ (l : List (List ℕ)). line ∷ l) r.split;
          asked = asked_more state.key line r.done event r.events found r.asked ∙ ap (λ (h : Option Happening). Some (with_happening h r.events)) is;
          course = r.course;
          prints = ap (λ (t : List ℕ). t ++ run.text) does.0 ∙ r.prints;
          stops = subst (λ (n : ℕ). StopsAt r.after n r.rest run.fault) (omega arith) r.stops;
        }
    runs_more (Some happening) is does r =
        let key : next.key ≡ state.key = gives_key state happening does.given next does.gives in
        record {
          done = line ∷ r.done;
          rest = r.rest;
          events = happening ∷ r.events;
          outs = does.given ∷ r.outs;
          after = r.after;
          split = ap (λ (l : List (List ℕ)). line ∷ l) r.split;
          asked = asked_more state.key line r.done event r.events found (ap (λ (k : List ℕ). happenings k r.done) (sym key) ∙ r.asked) ∙ ap (λ (h : Option Happening). Some (with_happening h r.events)) is;
          course = rw (reverse-cons happening r.events, reverse-cons does.given r.outs) (course_first state next r.after happening does.given (reverse r.events) (reverse r.outs) does.gives r.course);
          prints = ap (λ (t : List ℕ). t ++ run.text) does.prints ∙ ap (λ (t : List ℕ). printed state.key does.given ++ t) (r.prints ∙ ap (λ (k : List ℕ). flat_map (printed k) r.outs) key);
          stops = subst (λ (n : ℕ). StopsAt r.after n r.rest run.fault) (omega arith) r.stops;
        }

  module _ (run : Run) (onward : (next : State) (rest : Run) → Steps next (number + 1) lines rest → Runs next (number + 1) lines rest) where
    runs_event : (event : Event) → event_of state.key line ≡ Some event → (fault : Option ScriptFault) → fault_in state.connections event ≡ fault
        → EventSteps fault state number event (λ next rest. Steps next (number + 1) lines rest) run → Runs state number (line ∷ lines) run
    runs_event event found None free s =
        subst (Runs state number (line ∷ lines)) (sym s.is) (runs_more event found s.text s.next s.rest (happening_of event) refl s.does (onward s.next s.rest s.onward))
    runs_event event found (Some reason) fault s = subst (Runs state number (line ∷ lines)) (sym s) (runs_stopped reason (rw found fault))

    runs_line : (asked : Option Event) → event_of state.key line ≡ asked → LineSteps state number asked (λ next rest. Steps next (number + 1) lines rest) run → Runs state number (line ∷ lines) run
    runs_line None none s = subst (Runs state number (line ∷ lines)) (sym s) (runs_stopped BadCommand (rw none refl))
    runs_line (Some event) found s = runs_event event found (fault_in state.connections event) refl s

-- what is run one line after another is one course
runs_of_steps : (state : State) (number : ℕ) (lines : List (List ℕ)) (run : Run) → Steps state number lines run → Runs state number lines run
unfolding Steps
runs_of_steps state number [] run s = rw s (record {
  done = [];
  rest = [];
  events = [];
  outs = [];
  after = state;
  split = refl;
  asked = refl;
  course = (refl, refl);
  prints = refl;
  stops = refl;
})
runs_of_steps state number (line ∷ lines) run s =
    runs_line state number line lines run (λ next rest h. runs_of_steps next (number + 1) lines rest h) (event_of state.key line) refl s

-- ---- and back

run_is : (run : Run) (fault : Option Located) → run.text ≡ [] → run.fault ≡ fault → run ≡ record { text = []; fault = fault }
run_is run fault none is = ap (λ (t : List ℕ). record run { text = t }) none ∙ ap (λ (f : Option Located). record run { text = []; fault = f }) is

-- no more is done
module _ (state : State) (number : ℕ) (run : Run) (none : run.text ≡ []) where
  steps_fault : (lines : List (List ℕ)) (reason : ScriptFault) → run ≡ stopped number reason → (asked : Option Event) → line_fault state.connections asked ≡ Some reason
      → LineSteps state number asked (λ next rest. Steps next (number + 1) lines rest) run
  steps_fault lines reason is None e = let same : BadCommand ≡ reason = cc in is ∙ ap (stopped number) (sym same)
  steps_fault lines reason is (Some event) e = rw e is

  steps_none : (lines : List (List ℕ)) → StopsAt state number lines run.fault → Steps state number lines run
  unfolding Steps
  steps_none [] s = run_is run None none s
  steps_none (line ∷ lines) (reason, e, f) = steps_fault lines reason (run_is run (Some (record { line = Some number; fault = reason })) none f) (event_of state.key line) e

-- what a line asks for can be done
gives_free : (state : State) (event : Event) (happening : Happening) (given : Given) (after : State) → happening_of event ≡ Some happening → Gives state happening given after → fault_in state.connections event ≡ None
gives_free state (Open number) happening given after e g =
    let same : Opens number ≡ happening = cc in
    let h : Gives state (Opens number) given after = subst (λ (h : Happening). Gives state h given after) (sym same) g in rw h.0 refl
gives_free state (Hand number bytes) happening given after e g =
    let same : Brings number bytes ≡ happening = cc in
    let h : Gives state (Brings number bytes) given after = subst (λ (h : Happening). Gives state h given after) (sym same) g in rw h.is_open refl
gives_free state (Pieces size) happening given after e g = refl
gives_free state (Lost number) happening given after e g = refl
gives_free state (Console line) happening given after e g = refl

none_free : (state : State) (event : Event) → happening_of event ≡ None → fault_in state.connections event ≡ None
none_free state (Open number) e = absurd cc
none_free state (Hand number bytes) e = absurd cc
none_free state (Pieces size) e = refl
none_free state (Lost number) e = absurd cc
none_free state (Console line) e = absurd cc

-- what the first line asks for, and the others
record AsksFirst (key line : List ℕ) (done : List (List ℕ)) (events : List Happening) : Type 0 where
  event : Event
  later : List Happening
  found : event_of key line ≡ Some event
  asked : happenings key done ≡ Some later
  are : events ≡ with_happening (happening_of event) later

asks_first : (key line : List ℕ) (done : List (List ℕ)) (events : List Happening) (asked : Option Event) (more : Option (List Happening)) → event_of key line ≡ asked → happenings key done ≡ more
    → happenings key (line ∷ done) ≡ Some events → AsksFirst key line done events
asks_first key line done events None more a b e = let never : ◌≡◌ {A = Option (List Happening)} None (Some events) = rw a at e in absurd cc
asks_first key line done events (Some event) None a b e = let never : ◌≡◌ {A = Option (List Happening)} None (Some events) = rw (a, b) at e in absurd cc
asks_first key line done events (Some event) (Some later) a b e =
    let told : Some (with_happening (happening_of event) later) ≡ Some events = rw (a, b) at e in
    record { event = event; later = later; found = a; asked = b; are = cc }

-- all that a course has in front of what stops it
module _ (rest : List (List ℕ)) (after : State) where
  abbrev Onward : ℕ → List (List ℕ) → Type 0
  Onward number done = (state : State) (events : List Happening) (outs : List Given) (run : Run) → happenings state.key done ≡ Some events → Course state (reverse events) (reverse outs) after
      → run.text ≡ flat_map (printed state.key) outs → StopsAt after (number + length done) rest run.fault → Steps state number (done ++ rest) run

  module _ (number : ℕ) (line : List ℕ) (done : List (List ℕ)) (onward : Onward (number + 1) done) (state : State) (events : List Happening) (outs : List Given) (run : Run)
      (a : AsksFirst state.key line done events) (course : Course state (reverse events) (reverse outs) after) (prints : run.text ≡ flat_map (printed state.key) outs)
      (stops : StopsAt after (number + 1 + length done) rest run.fault) where
    steps_event : (happening : Happening) → happening_of a.event ≡ Some happening → (next : State) (given : Given) (others : List Given) → Gives state happening given next
        → Course next (reverse a.later) (reverse others) after → outs ≡ given ∷ others → Steps state number (line ∷ done ++ rest) run
    unfolding Steps
    steps_event happening is next given others gives onwards outs_are =
        let key : next.key ≡ state.key = gives_key state happening given next gives in
        let on = onward next a.later others (record run { text = flat_map (printed state.key) others }) (ap (λ (k : List ℕ). happenings k done) key ∙ a.asked) onwards
        (ap (λ (k : List ℕ). flat_map (printed k) others) (sym key)) stops in
        let told : run.text ≡ printed state.key given ++ flat_map (printed state.key) others = prints ∙ ap (flat_map (printed state.key)) outs_are in
        rw (a.found, gives_free state a.event happening given next is gives) (record {
          text = printed state.key given;
          next = next;
          rest = record run { text = flat_map (printed state.key) others };
          does = rw is (record { given = given; gives = gives; prints = refl });
          onward = on;
          is = ap (λ (t : List ℕ). record run { text = t }) told;
        })

    steps_more : (happens : Option Happening) → happening_of a.event ≡ happens → Steps state number (line ∷ done ++ rest) run
    unfolding Steps
    steps_more None is =
        let same : events ≡ a.later = a.are ∙ ap (λ (h : Option Happening). with_happening h a.later) is in
        let does : Does state a.event [] state = rw is (refl, refl) in
        let free = none_free state a.event is in
        let on = onward state a.later outs run a.asked (rw same at course) prints stops in
        rw (a.found, free) (record { text = []; next = state; rest = run; does = does; onward = on; is = refl })
    steps_more (Some happening) is =
        let same : events ≡ happening ∷ a.later = a.are ∙ ap (λ (h : Option Happening). with_happening h a.later) is in
        let whole : Course state (reverse a.later ++ happening ∷ []) (reverse outs) after = rw (same, reverse-cons happening a.later) at course in
        let f : First state happening (reverse a.later) (reverse outs) after = course_split state after happening (reverse a.later) (reverse outs) whole in
        steps_event happening is f.next f.given (reverse f.rest) f.gives (rw (reverse-reverse f.rest) f.course) (sym (reverse-reverse outs) ∙ ap reverse f.is ∙ reverse-append f.rest (f.given ∷ []))

  steps_done : (number : ℕ) (done : List (List ℕ)) → Onward number done
  steps_done number [] state events outs run asked course prints stops =
      let none : events ≡ [] = cc in
      let at_rest : Course state [] (reverse outs) after = rw none at course in
      let outs_are : outs ≡ [] = sym (reverse-reverse outs) ∙ ap reverse at_rest.0 in
      let none_done : number + 0 ≡ number = omega arith in
      let there : StopsAt after number rest run.fault = subst (λ (n : ℕ). StopsAt after n rest run.fault) none_done stops in
      let here : StopsAt state number rest run.fault = rw at_rest.1 at there in
      steps_none state number run (prints ∙ ap (flat_map (printed state.key)) outs_are) rest here
  steps_done number (line ∷ done) state events outs run asked course prints stops =
      let a = asks_first state.key line done events (event_of state.key line) (happenings state.key done) refl refl asked in
      let count : number + length (line ∷ done) ≡ number + 1 + length done = omega arith in
      let there : StopsAt after (number + 1 + length done) rest run.fault = subst (λ (n : ℕ). StopsAt after n rest run.fault) count stops in
      steps_more number line done (steps_done (number + 1) done) state events outs run a course prints there (happening_of a.event) refl

steps_of_runs : (state : State) (number : ℕ) (lines : List (List ℕ)) (run : Run) → Runs state number lines run → Steps state number lines run
steps_of_runs state number lines run r = subst (λ (l : List (List ℕ)). Steps state number l run) (sym r.split) (steps_done r.rest r.after number r.done state r.events r.outs run r.asked r.course r.prints r.stops)

-- ---- what is printed

module _ (state : State) (number : ℕ) (lines : List (List ℕ)) (old new : List ℕ) where
  ends_course : (fault : Option Located) → Ends old new fault (Steps state number lines) → Ends old new fault (Runs state number lines)
  ends_course fault h = record {
    run = h.run;
    is = runs_of_steps state number lines h.run h.is;
    only = λ other r. h.only other (steps_of_runs state number lines other r);
    printed = h.printed;
    fault_is = h.fault_is;
  }

  pub prints_course : (result : Result (Unit {0}) Stop) → Prints old new result (Steps state number lines) → Prints old new result (Runs state number lines)
  prints_course (Ok _) h = ends_course None h
  prints_course (Err stops.Memory) h = tt
  prints_course (Err (stops.Fault at)) h = ends_course (Some at) h
