-- What the replay of a script prints.
use Rattle.std.specs.Prelude.{◌≡◌, ℕ, ◌+◌, List, [], ◌∷◌, ◌++◌, length, reverse, codes, Bool}
use Rattle.std.specs.Prelude.{true, false, Option, Some, None, option_map, Result, Ok, Err}
use Rattle.std.specs.Prelude.{if◌then◌else◌}
use Rattle.std.specs.Option.{option_and_then}
use Rattle.std.specs.List.{list_any, flat_map}
use Rattle.std.specs.Str.{bytes_eq}
use Rattle.tac_wire.specs.Key.{key_of}
use Rattle.basics.specs.Lines.{split_at_first, lines_of}
use Rattle.pol_text.specs.Text.{text_of_lines}
use Rattle.pol_live.specs.Judging.{Judges}
use Rattle.pol_live.specs.declared.judging.TextRefusal.{TextRefusal}
use Rattle.pol_live.specs.declared.judging.TextRefusal.TheVariants.{NoPolicy, TooLarge}
use Rattle.tac_server.specs.FaultText.{located_text}
use Rattle.tac_server.specs.Command.{event_of}
use Rattle.tac_desk.specs.Meaning.{Meaning}
use Rattle.tac_desk.specs.Meaning as desks
use Rattle.tac_server.specs.Server.{Connections, State, opening}
use Rattle.tac_server.specs.Happening.{Happening, Given}
use Rattle.tac_server.specs.Course.{Course}
use Rattle.tac_server.specs.Events.{fault_in, happening_of, printed}
use Rattle.tac_server.specs.declared.event.Event.{Event}
use Rattle.pol_text.specs.declared.subject.Subject.{Subject}
use Rattle.tac_server.specs.declared.script_fault.Located.{Located}
use Rattle.tac_server.specs.declared.script_fault.ScriptFault.{ScriptFault}
use Rattle.tac_server.specs.declared.script_fault.ScriptFault.TheVariants.{BadKey, NoRun, BadPolicy}
use Rattle.tac_server.specs.declared.script_fault.ScriptFault.TheVariants.{TooManyStates}
use Rattle.tac_server.specs.declared.script_fault.ScriptFault.TheVariants.{BadCommand}
use Rattle.tac_server.specs.declared.script_fault.Stop.{Stop}
use Rattle.tac_server.specs.declared.script_fault.Stop.TheVariants as stops
use Rattle.tac_server.specs.declared.replaying.ReplayEnd.{ReplayEnd}
use Rattle.tac_server.specs.declared.replaying.ReplayEnd.TheVariants.{Done, Refused}

-- what a run printed, and the fault that ended it, if one did
pub record Run : Type 0 where
  pub text : List ℕ
  pub fault : Option Located

abbrev pub ended : Run
ended = record { text = []; fault = None }

-- a run that a fault ends before anything is printed
abbrev pub stopped_by : Located → Run
stopped_by at = record { text = []; fault = Some at }

abbrev pub stopped : ℕ → ScriptFault → Run
stopped line fault = stopped_by (record { line = Some line; fault = fault })

-- a run that first prints this
abbrev pub after_text : List ℕ → Run → Run
after_text text run = record run { text = text ++ run.text }

-- ---- events

abbrev pub with_happening : Option Happening → List Happening → List Happening
with_happening None events = events
with_happening (Some event) events = event ∷ events

-- what these lines make happen, in their order; nothing where one is no command
abbrev pub happenings : List ℕ → List (List ℕ) → Option (List Happening)
happenings key [] = Some []
happenings key (line ∷ lines) = option_and_then
    (λ event. option_map (with_happening (happening_of event)) (happenings key lines))
    (event_of key line)

-- what keeps a line from being done
abbrev pub line_fault : Connections → Option Event → Option ScriptFault
line_fault connections None = Some BadCommand
line_fault connections (Some event) = fault_in connections event

-- the first of these lines, which has this number, has this fault; none is left where there is none
abbrev pub StopsAt : State → ℕ → List (List ℕ) → Option Located → Type 0
StopsAt state number [] fault = fault ≡ None
StopsAt state number (line ∷ lines) fault =
    (reason : ScriptFault)
    × (line_fault state.connections (event_of state.key line) ≡ Some reason)
    × (fault ≡ Some (record { line = Some number; fault = reason }))

-- the run of these lines, of which the first has this number: those before the first fault, or all,
-- make happen what is one course of the server; what that gives out is printed, and nothing else
pub record Runs (start : State) (number : ℕ) (lines : List (List ℕ)) (run : Run) : Type 0 where
  pub done : List (List ℕ)
  pub rest : List (List ℕ)
  pub events : List Happening
  pub outs : List Given
  pub after : State
  pub split : lines ≡ done ++ rest
  pub asked : happenings start.key done ≡ Some events
  pub course : Course start (reverse events) (reverse outs) after
  pub prints : run.text ≡ flat_map (printed start.key) outs
  pub stops : StopsAt after (number + length done) rest run.fault

-- ---- the whole script

abbrev pub is_run : List ℕ → Bool
is_run line = bytes_eq line (codes "run")

-- the lines before the first `run`, and those after it
abbrev pub before_run : List (List ℕ) → List (List ℕ)
before_run [] = []
before_run (line ∷ lines) = if is_run line then [] else line ∷ before_run lines

abbrev pub after_run : List (List ℕ) → List (List ℕ)
after_run [] = []
after_run (line ∷ lines) = if is_run line then lines else after_run lines

-- what the desk of a script represents at first: this policy, and no records
abbrev pub desk_of : List Subject → Meaning
desk_of policy = desks.opening policy desks.max_records

-- `key TEXT`
unfoldable pub key_line : List ℕ → Option (List ℕ)
key_line line =
    option_and_then
    (λ parts. if bytes_eq parts.0 (codes "key") then key_of parts.1 else None)
    (split_at_first 32 line)

-- the events, of which the first has this number, with a desk of the policy that may stand; or why
-- the policy is refused, whose first line is the second of the script. That it is too large is a
-- fault of no single line
abbrev pub RunsBy : Result (List Subject) TextRefusal → List ℕ → ℕ → List (List ℕ) → Run → Type 0
RunsBy (Ok policy) key number events run = Runs (opening key (desk_of policy)) number events run
RunsBy (Err (NoPolicy line refusal)) key number events run =
    run ≡ stopped (line + 1) (BadPolicy refusal)
RunsBy (Err (TooLarge subject)) key number events run =
    run ≡ stopped_by (record { line = None; fault = TooManyStates subject })

-- the events with the policy of this text
unfoldable pub TextRuns : List ℕ → List ℕ → ℕ → List (List ℕ) → Run → Type 0
TextRuns text key number events run =
    (judged : Result (List Subject) TextRefusal) × Judges text judged
    × RunsBy judged key number events run

abbrev pub BodyRunsBy : Bool → List ℕ → List (List ℕ) → Run → Type 0
BodyRunsBy true key lines run =
    TextRuns (text_of_lines (before_run lines)) key (length (before_run lines) + 3)
    (after_run lines) run
BodyRunsBy false key lines run = run ≡ stopped (length lines + 2) NoRun

-- the lines after the key; the policy's text is those before `run`
unfoldable pub BodyRuns : List ℕ → List (List ℕ) → Run → Type 0
BodyRuns key lines run = BodyRunsBy (list_any is_run lines) key lines run

abbrev pub KeyRuns : Option (List ℕ) → List (List ℕ) → Run → Type 0
KeyRuns None lines run = run ≡ stopped 1 BadKey
KeyRuns (Some key) lines run = BodyRuns key lines run

-- the key is judged first, then that there is a `run`, then the policy, then the events
unfoldable pub LinesRun : List (List ℕ) → Run → Type 0
LinesRun [] run = run ≡ stopped 1 BadKey
LinesRun (first ∷ lines) run = KeyRuns (key_line first) lines run

abbrev pub fault_line : Option Located → List ℕ
fault_line None = []
fault_line (Some at) = located_text at ++ 10 ∷ []

abbrev pub end_by : Option Located → ReplayEnd
end_by None = Done
end_by (Some at) = Refused

-- the replay of a script prints this, and ends so
pub record IsReplay (script output : List ℕ) (end : ReplayEnd) : Type 0 where
  pub run : Run
  pub runs : LinesRun (lines_of script) run
  pub prints : output ≡ run.text ++ fault_line run.fault
  pub ends : end ≡ end_by run.fault

-- ---- what a function returned, against what was wanted

-- the text grew by what a run of this kind prints, up to the fault that ended it; no other run is
-- one of this kind
pub record Ends (old new : List ℕ) (fault : Option Located) (runs : Run → Type 0) : Type 0 where
  pub run : Run
  pub is : runs run
  pub only : (other : Run) → runs other → other ≡ run
  pub printed : new ≡ old ++ run.text
  pub fault_is : run.fault ≡ fault

-- the same, unless memory ran out
abbrev pub Prints : List ℕ → List ℕ → Result (Unit {0}) Stop → (Run → Type 0) → Type 0
Prints old new (Ok _) runs = Ends old new None runs
Prints old new (Err stops.Memory) runs = Unit {0}
Prints old new (Err (stops.Fault at)) runs = Ends old new (Some at) runs

-- a replay of the script was worked out, and no other is one of it
pub record IsWorkedOut (script output : List ℕ) (end : ReplayEnd) : Type 0 where
  pub replay : IsReplay script output end
  pub only : (other : List ℕ) (last : ReplayEnd) → IsReplay script other last
      → (other ≡ output) × (last ≡ end)
