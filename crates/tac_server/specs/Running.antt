-- How the lines after `run` are run, one after another.
use Rattle.std.specs.Prelude.{◌≡◌, ℕ, ◌+◌, List, [], ◌∷◌, Option, Some, None}
use Rattle.tac_server.specs.Command.{event_of}
use Rattle.tac_server.specs.Server.{State}
use Rattle.tac_server.specs.Events.{fault_in, Does}
use Rattle.tac_server.specs.Script.{Run, ended, stopped, after_text}
use Rattle.tac_server.specs.declared.event.Event.{Event}
use Rattle.tac_server.specs.declared.script_fault.ScriptFault.{ScriptFault}
use Rattle.tac_server.specs.declared.script_fault.ScriptFault.TheVariants.{BadCommand}

-- an event prints this, and then goes on
pub record EventGoesOn (state : State) (event : Event) (goes_on : State → Run → Type 0) (run : Run)
    : Type 0 where
  pub text : List ℕ
  pub next : State
  pub rest : Run
  pub does : Does state event text next
  pub onward : goes_on next rest
  pub is : run ≡ after_text text rest

-- an event at a line, and then what goes on with the server that it leaves
abbrev pub EventSteps : Option ScriptFault → State → ℕ → Event → (State → Run → Type 0) → Run
    → Type 0
EventSteps None state number event goes_on run = EventGoesOn state event goes_on run
EventSteps (Some fault) state number event goes_on run = run ≡ stopped number fault

abbrev pub LineSteps : State → ℕ → Option Event → (State → Run → Type 0) → Run → Type 0
LineSteps state number None goes_on run = run ≡ stopped number BadCommand
LineSteps state number (Some event) goes_on run =
    EventSteps (fault_in state.connections event) state number event goes_on run

-- the run of these lines, of which the first has this number; nothing is printed after the first
-- fault
unfoldable pub Steps : State → ℕ → List (List ℕ) → Run → Type 0
Steps state number [] run = run ≡ ended
Steps state number (line ∷ lines) run =
    LineSteps state number (event_of state.key line)
    (λ next rest. Steps next (number + 1) lines rest) run
