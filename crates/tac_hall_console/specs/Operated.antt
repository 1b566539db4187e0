-- What was done at the console of a hall (docs/CONSOLE.md, "The console of `tacd serve`").
use Rattle.std.specs.Prelude.{◌≡◌, ◌<◌, ◌⊎◌, ℕ, List, [], ◌∷◌, ◌++◌, length, codes, true, false}
use Rattle.std.specs.Prelude.{Option, Some, None, Result, Ok, Err, flat_map, filter_map, MatchBool}
use Rattle.std.specs.Prelude.{if◌then◌else◌}
use Rattle.std.specs.Fmt.{decimal}
use Rattle.std.specs.Io.KnownBytes.{Appends, Consumes, IsAtEnd}
use Rattle.basics.specs.Lines.{lines_of}
use Rattle.pol_edit.specs.FaultText as edit_faults
use Rattle.pol_edit.specs.declared.edit.Edit.{Edit}
use Rattle.pol_edit.specs.declared.fault.EditFault.TheVariants as edit_refusals
use Rattle.pol_text.specs.Text.{policy_of}
use Rattle.pol_text.specs.declared.fault.PolicyFault.{PolicyFault}
use Rattle.pol_text.specs.declared.subject.Subject.{Subject}
use Rattle.pol_secrets.specs.Telling.{secrets_text}
use Rattle.tac_console.specs.Answers as console
use Rattle.tac_console.specs.Answers.{edit_answer, batch_answer, load_answer, query_answer}
use Rattle.tac_console.specs.Answers.{notice_text}
use Rattle.tac_console.specs.Batching.{action_of, batch_after}
use Rattle.tac_console.specs.ConsoleText.{asked_by}
use Rattle.tac_console.specs.Faults.{fault_line, policy_fault}
use Rattle.tac_console.specs.declared.batching.Action.{Action}
use Rattle.tac_console.specs.declared.batching.Action.TheVariants as actions
use Rattle.tac_console.specs.declared.batching.Notice.{Notice}
use Rattle.tac_audit.specs.Witness.{AreTold}
use Rattle.tac_audit.specs.declared.notice.Typing.{Typing}
use Rattle.tac_desk.specs.declared.query.Query.TheVariants as queries
use Rattle.tac_desk.specs.declared.query.Report.TheVariants as reports
use Rattle.tac_hall.specs.Room.{Opening}
use Rattle.tac_hall.specs.History as history
use Rattle.tac_hall.specs.Seat.{Seated, IsMade, IsRefused, IsRotated, IsUnrotated, CatchesUp}
use Rattle.tac_hall.specs.declared.limits.Rotated.{Rotated}
use Rattle.tac_hall.specs.declared.call.Call.{Call}
use Rattle.tac_hall.specs.declared.call.Call.TheVariants as calls
use Rattle.tac_hall.specs.declared.call.CallAnswer.{CallAnswer}
use Rattle.tac_hall.specs.declared.call.CallAnswer.TheVariants as answers
use Rattle.tac_hall.specs.View.{Made, made_of}
use Rattle.tac_hall.specs.declared.receipt.Receipt.{Receipt}
use Rattle.tac_hall.specs.declared.fault.HallFault.{HallFault}
use Rattle.tac_hall.specs.FaultText.{fault_text}
use Rattle.tac_hall_console.specs.declared.fault.OperatorFault.{OperatorFault}
use Rattle.tac_hall_console.specs.declared.fault.OperatorFault.TheVariants as faults
use Rattle.tac_hall_console.specs.Commands.{ended_lines, is_rotate, is_reload, is_reload_devices}
use Rattle.tac_hall_console.specs.Commands.{commands, quits}
use Rattle.tac_hall_console.specs.declared.users.Turnover.{Turnover}
use Rattle.tac_hall_console.specs.DevicesAnswer.{IsDevicesAnswer}
use Rattle.tac_hall_console.specs.Shown.{shown}
use Rattle.tac_hall_console.specs.Users.{turnover, shuts_out, most_are_gone, gone_line}

-- ---- a line

-- what came of a line: a notice without a call, or its call was made, or the present segment was
-- ended, or the one or the other was refused; or this line was told, and the history has nothing of
-- it. Or the policy was asked for, and another one was barred, as nobody could log in, or loaded in
-- the place of the one that was answered, or the call for that was refused
pub data Outcome : Type 0 where
  noticed : Notice → Outcome
  made : Made → Outcome
  rotated : Rotated → Outcome
  refused : HallFault → Outcome
  replied : List ℕ → Outcome
  barred : Made → Outcome
  loaded : List Subject → Made → Made → Outcome
  unloaded : Made → HallFault → Outcome

-- what a view has of it
abbrev pub entries_by : Outcome → List Made
entries_by (noticed notice) = []
entries_by (made entry) = entry ∷ []
entries_by (rotated rotation) = []
entries_by (refused fault) = []
entries_by (replied line) = []
entries_by (barred asked) = asked ∷ []
entries_by (loaded old asked entry) = asked ∷ entry ∷ []
entries_by (unloaded asked fault) = asked ∷ []

abbrev pub entries_of : List Outcome → List Made
entries_of outcomes = flat_map entries_by outcomes

-- this call was made by the seat, after whatever others did; or it was refused so, after all that
-- others did, and the seat has seen that, and did nothing
abbrev pub CallsFor : Opening → Seated → Call → Outcome → Seated → Type 0
CallsFor opening was call (noticed notice) now = ⊥
CallsFor opening was call (made entry) now =
    (receipt : Receipt) × (entry ≡ made_of call receipt) × IsMade opening was call receipt now
CallsFor opening was call (rotated rotation) now = ⊥
CallsFor opening was call (refused fault) now =
    IsRefused opening now call fault × CatchesUp was now
CallsFor opening was call (replied line) now = ⊥
CallsFor opening was call (barred asked) now = ⊥
CallsFor opening was call (loaded old asked entry) now = ⊥
CallsFor opening was call (unloaded asked fault) now = ⊥

-- the edits of a batch are one call, and only a notice makes none
abbrev pub ComesTo : Opening → Seated → Action → Outcome → Seated → Type 0
ComesTo opening was (actions.Edit edit) = CallsFor opening was (calls.Edit edit)
ComesTo opening was (actions.Commit edits) = CallsFor opening was (calls.Batch edits)
ComesTo opening was (actions.Query query) = CallsFor opening was (calls.Query query)
ComesTo opening was (actions.Tell notice) =
    λ outcome now. (outcome ≡ noticed notice) × (now ≡ was)

-- the seat ended the segment that is told of, after whatever others did; or that was refused so,
-- after all that others did, and the seat has seen that, and did nothing
abbrev pub IsRotation : Opening → Seated → Outcome → Seated → Type 0
IsRotation opening was (noticed notice) now = ⊥
IsRotation opening was (made entry) now = ⊥
IsRotation opening was (rotated rotation) now = IsRotated opening was rotation now
IsRotation opening was (refused fault) now = IsUnrotated opening now fault × CatchesUp was now
IsRotation opening was (replied line) now = ⊥
IsRotation opening was (barred asked) now = ⊥
IsRotation opening was (loaded old asked entry) now = ⊥
IsRotation opening was (unloaded asked fault) now = ⊥

-- ---- another policy

-- a text was judged so: it says this policy, or it is refused, as its check tells it
abbrev pub ReadsBy : List ℕ → Result (List Subject) (List ℕ) → Type 0
ReadsBy text (Ok policy) = policy_of text ≡ Ok policy
ReadsBy text (Err line) =
    (fault : PolicyFault) × (policy_of text ≡ Err fault) × (line ≡ policy_fault fault)

-- there was no text, for some reason, which this line tells
abbrev pub unread_line : List ℕ → List ℕ
unread_line why = codes "unread " ++ shown why ++ 10 ∷ []

abbrev pub IsUnread : Result (List Subject) (List ℕ) → Type 0
IsUnread (Ok policy) = ⊥
IsUnread (Err line) = (why : List ℕ) × (line ≡ unread_line why)

-- a policy that some text says, or the line that tells why there is none
abbrev pub Reads : Result (List Subject) (List ℕ) → Type 0
Reads judged = ((text : List ℕ) × ReadsBy text judged) ⊎ IsUnread judged

abbrev pub no_memory_line : List ℕ
no_memory_line = console.refused (edit_faults.fault_text edit_refusals.Memory)

-- why there is no policy to load; or that there was no memory for it
abbrev pub Unloads : List ℕ → Type 0
Unloads line = Reads (Err line) ⊎ (line ≡ no_memory_line)

-- the question what the policy is, and the policy that it is answered; there is none where memory
-- ran out
abbrev pub policy_question : Call
policy_question = calls.Query queries.Policy

abbrev pub policy_in : CallAnswer → Option (List Subject)
policy_in (answers.Query (Ok (reports.Policy policy))) = Some policy
policy_in answer = None

-- the seat asked what the policy is, and this is it
abbrev pub Learns : Opening → Seated → Made → List Subject → Seated → Type 0
Learns opening was asked old now =
    CallsFor opening was policy_question (made asked) now × (policy_in asked.answer ≡ Some old)

-- this policy was to take the place of the present one, which was asked for. A policy without a
-- user is barred where the present one has users; any other was called for
abbrev pub Replaces : Opening → Seated → List Subject → Outcome → Seated → Type 0
Replaces opening was new (noticed notice) now = ⊥
Replaces opening was new (made asked) now =
    CallsFor opening was policy_question (made asked) now × (policy_in asked.answer ≡ None)
Replaces opening was new (rotated rotation) now = ⊥
Replaces opening was new (refused fault) now =
    CallsFor opening was policy_question (refused fault) now
Replaces opening was new (replied line) now = ⊥
Replaces opening was new (barred asked) now =
    (old : List Subject) × Learns opening was asked old now
    × (shuts_out (turnover old new) ≡ true)
Replaces opening was new (loaded old asked entry) now =
    (mid : Seated) × Learns opening was asked old mid × (shuts_out (turnover old new) ≡ false)
    × CallsFor opening mid (calls.Load new) (made entry) now
Replaces opening was new (unloaded asked fault) now =
    (old : List Subject) × (mid : Seated) × Learns opening was asked old mid
    × (shuts_out (turnover old new) ≡ false)
    × CallsFor opening mid (calls.Load new) (refused fault) now

-- a policy that some text says was to take the place of the present one; or there was none, and
-- nothing was done
abbrev pub IsReload : Opening → Seated → Outcome → Seated → Type 0
IsReload opening was outcome now =
    ((policy : List Subject) × Reads (Ok policy) × Replaces opening was policy outcome now)
    ⊎ ((line : List ℕ) × Unloads line × (outcome ≡ replied line) × (now ≡ was))

-- ---- other devices

-- what is answered where the devices' file is read again; or that there was no memory for it
abbrev pub TellsOfDevices : List ℕ → Type 0
TellsOfDevices line = IsDevicesAnswer line ⊎ (line ≡ no_memory_line)

-- that is told, and no call was made
abbrev pub IsDevicesReload : Seated → Outcome → Seated → Type 0
IsDevicesReload was outcome now =
    (line : List ℕ) × TellsOfDevices line × (outcome ≡ replied line) × (now ≡ was)

-- ---- a line, by what it is

-- what may come of a line at a console with this batch and seat, and the seat after it: `rotate`,
-- `reload` and `reload devices` are no lines of a desk's console
abbrev pub LineComesTo : Opening → Option (List Edit) → Seated → List ℕ → Outcome → Seated → Type 0
LineComesTo opening batch was line outcome now =
    MatchBool (is_rotate line) (IsRotation opening was outcome now)
    (MatchBool (is_reload line) (IsReload opening was outcome now)
    (MatchBool (is_reload_devices line) (IsDevicesReload was outcome now)
    (ComesTo opening was (action_of batch (asked_by line)) outcome now)))

-- the Stop is one call
abbrev pub StopComesTo : Opening → Seated → Outcome → Seated → Type 0
StopComesTo opening was outcome now = CallsFor opening was calls.Stop outcome now

-- the batch that the line leaves
abbrev pub batch_by : Option (List Edit) → List ℕ → Option (List Edit)
batch_by batch line =
    if is_rotate line then batch
    else if is_reload line then batch
    else if is_reload_devices line then batch else batch_after batch (asked_by line)

-- how the answer to a call is printed; of a Stop nothing is
abbrev pub answer_text : Call → CallAnswer → List ℕ
answer_text (calls.Edit edit) (answers.Edit answer) = edit_answer answer
answer_text (calls.Batch edits) (answers.Batch answer) = batch_answer answer
answer_text (calls.Load policy) (answers.Edit answer) = load_answer answer
answer_text (calls.Query query) (answers.Query answer) = query_answer query answer
answer_text call answer = []

abbrev pub refusal_line : HallFault → List ℕ
refusal_line fault = codes "refused " ++ fault_text fault ++ 10 ∷ []

-- the number of the segment, and how many calls its log has
abbrev pub rotated_line : Rotated → List ℕ
rotated_line rotation =
    codes "rotated " ++ decimal rotation.number
    ++ codes " entries " ++ decimal rotation.entries ++ 10 ∷ []

-- a policy without a user isn't loaded
abbrev pub no_user_line : List ℕ
no_user_line = fault_line (codes "NoUser")

-- how many users are gone, where most of them are
abbrev pub gone_text : Turnover → List ℕ
gone_text between = if most_are_gone between then gone_line between else []

-- what comes after the answer where the new policy was loaded: which secrets aren't what they were
-- by the policy that was asked for just before, and how many users are gone
abbrev pub users_text : List Subject → List Subject → CallAnswer → List ℕ
users_text old new (answers.Edit (Ok changes)) =
    secrets_text old new ++ gone_text (turnover old new)
users_text old new answer = []

abbrev pub loaded_text : List Subject → Call → CallAnswer → List ℕ
loaded_text old (calls.Load new) answer = users_text old new answer
loaded_text old call answer = []

abbrev pub load_text : List Subject → Call → CallAnswer → List ℕ
load_text old call answer = answer_text call answer ++ loaded_text old call answer

-- how it is told what came of a line
abbrev pub told : Outcome → List ℕ
told (noticed notice) = notice_text notice
told (made entry) = answer_text entry.call entry.answer
told (rotated rotation) = rotated_line rotation
told (refused fault) = refusal_line fault
told (replied line) = line
told (barred asked) = no_user_line
told (loaded old asked entry) = load_text old entry.call entry.answer
told (unloaded asked fault) = refusal_line fault

-- ---- lines, one after another

-- what came of each, if before the first this batch is open, and the seat is this; and the seat
-- after the last
abbrev pub CameTo : Opening → Option (List Edit) → Seated → List (List ℕ) → List Outcome → Seated
    → Type 0
CameTo opening batch was [] [] now = now ≡ was
CameTo opening batch was [] (outcome ∷ outcomes) now = ⊥
CameTo opening batch was (line ∷ lines) [] now = ⊥
CameTo opening batch was (line ∷ lines) (outcome ∷ outcomes) now =
    (mid : Seated) × LineComesTo opening batch was line outcome mid
    × CameTo opening (batch_by batch line) mid lines outcomes now

-- what was rotated
abbrev pub rotation_of : Outcome → Option Rotated
rotation_of (noticed notice) = None
rotation_of (made entry) = None
rotation_of (rotated rotation) = Some rotation
rotation_of (refused fault) = None
rotation_of (replied line) = None
rotation_of (barred asked) = None
rotation_of (loaded old asked entry) = None
rotation_of (unloaded asked fault) = None

abbrev pub rotations_of : List Outcome → List Rotated
rotations_of outcomes = filter_map rotation_of outcomes

-- of the seat there are these calls more, in this order, and no others; and these rotations
pub record Makes (was now : Seated) (entries : List Made) (kept : List Rotated) : Type 0 where
  pub number : now.number ≡ was.number
  pub view : history.view_of was.number now.seen
      ≡ history.view_of was.number was.seen ++ entries
  pub rotations : history.rotations_of was.number now.seen
      ≡ history.rotations_of was.number was.seen ++ kept

-- ---- what a witness was told, and what was written

-- it was told of a line, and took or refused that
abbrev pub Hears : {V : Type 0} → (V → Typing → V → Type 0) → (V → Typing → V → Type 0)
    → V → Typing → V → Type 0
Hears takes refuses was typing now = takes was typing now ⊎ refuses was typing now

-- it was told of these lines, one after another, and of nothing else
abbrev pub AreHeard : {V : Type 0} → (V → Typing → V → Type 0) → (V → Typing → V → Type 0)
    → V → V → List Typing → Type 0
AreHeard takes refuses was now typings = AreTold (Hears takes refuses) was typings now

-- of lines of which this came: of each with the text that tells it
abbrev pub typings_of : List (List ℕ) → List Outcome → List Typing
typings_of [] outcomes = []
typings_of (line ∷ lines) [] = []
typings_of (line ∷ lines) (outcome ∷ outcomes) =
    record { line = line; answer = told outcome } ∷ typings_of lines outcomes

-- of a line that has no answer
abbrev pub unanswered : List ℕ → Typing
unanswered line = record { line = line; answer = [] }

-- of `quit`, if it is one of these lines
abbrev pub quit_of : List (List ℕ) → List Typing
quit_of lines = if quits lines then unanswered (codes "quit") ∷ [] else []

-- memory ran out: before a line was whole, of which nothing is told; or at one that is told without
-- an answer, whether nothing came of it or something did
abbrev pub AreCutShort : List (List ℕ) → List (List ℕ) → List Outcome → List Typing → Type 0
AreCutShort answered left outcomes typings =
    (typings ≡ typings_of answered outcomes)
    ⊎ ((line : List ℕ) × (later : List (List ℕ)) × (left ≡ line ∷ later)
    × (typings ≡ typings_of answered outcomes ++ unanswered line ∷ []))
    ⊎ ((first : List (List ℕ)) × (line : List ℕ) × (answered ≡ first ++ line ∷ [])
    × (typings ≡ typings_of first outcomes ++ unanswered line ∷ []))

-- what is told of lines that went so, of which these were answered and these are left; where all
-- went well, this comes last
abbrev pub AreTypingsOf : Result (Unit {0}) OperatorFault → List (List ℕ) → List (List ℕ)
    → List Outcome → List Typing → List Typing → Type 0
AreTypingsOf (Ok _) answered left outcomes last typings =
    typings ≡ typings_of answered outcomes ++ last
AreTypingsOf (Err faults.ReadFault) answered left outcomes last typings =
    typings ≡ typings_of answered outcomes
AreTypingsOf (Err faults.WriteFault) answered left outcomes last typings =
    typings ≡ typings_of answered outcomes
AreTypingsOf (Err faults.Memory) answered left outcomes last typings =
    AreCutShort answered left outcomes typings

abbrev pub answers_of : List Typing → List ℕ
answers_of typings = flat_map (λ typing. typing.answer) typings

-- a beginning of a text, and not all of it
pub record WritesBeginning (text : List ℕ) (old new : Option (List ℕ)) : Type 0 where
  pub first : List ℕ
  pub others : List ℕ
  pub parts : text ≡ first ++ others
  pub some_left : 0 < length others
  pub written : Appends old new first

-- the answers that were told were written, as far as a fault of writing allows
abbrev pub WritesTo : Result (Unit {0}) OperatorFault → List Typing → Option (List ℕ)
    → Option (List ℕ) → Type 0
WritesTo (Ok _) typings old new = Appends old new (answers_of typings)
WritesTo (Err faults.ReadFault) typings old new = Appends old new (answers_of typings)
WritesTo (Err faults.WriteFault) typings old new = WritesBeginning (answers_of typings) old new
WritesTo (Err faults.Memory) typings old new = Appends old new (answers_of typings)

abbrev pub IsRefusal : Outcome → Type 0
IsRefusal (noticed notice) = ⊥
IsRefusal (made entry) = ⊥
IsRefusal (rotated rotation) = ⊥
IsRefusal (refused fault) = Unit {0}
IsRefusal (replied line) = ⊥
IsRefusal (barred asked) = ⊥
IsRefusal (loaded old asked entry) = ⊥
IsRefusal (unloaded asked fault) = ⊥

-- after lines that went so the Stop was made, and it ends so: what came of it is told, unless the
-- lines ended in a fault. Memory runs out only where a refusal is told
abbrev pub StopEnds : Result (Unit {0}) OperatorFault → Result (Unit {0}) OperatorFault → Outcome
    → Option (List ℕ) → Option (List ℕ) → Type 0
StopEnds (Ok _) (Ok _) stop old new = Appends old new (told stop)
StopEnds (Ok _) (Err faults.ReadFault) stop old new = ⊥
StopEnds (Ok _) (Err faults.WriteFault) stop old new = WritesBeginning (told stop) old new
StopEnds (Ok _) (Err faults.Memory) stop old new = Appends old new [] × IsRefusal stop
StopEnds (Err fault) end stop old new = (end ≡ Err fault) × (new ≡ old)

-- ---- how it ended

-- the lines of what was read: what stands after the last LF is one too, but not where reading
-- failed
abbrev pub lines_at : Result (Unit {0}) OperatorFault → List ℕ → List (List ℕ)
lines_at (Ok _) input = lines_of input
lines_at (Err faults.ReadFault) input = ended_lines input
lines_at (Err faults.WriteFault) input = lines_of input
lines_at (Err faults.Memory) input = lines_of input

-- these commands come first, and each ended in LF
abbrev pub HaveEnded : List ℕ → List (List ℕ) → Type 0
HaveEnded input answered =
    (more : List (List ℕ)) × (commands (ended_lines input) ≡ answered ++ more)

-- the commands that nothing came of: none, unless the console failed at one
abbrev pub Leaves : Result (Unit {0}) OperatorFault → List (List ℕ) → Type 0
Leaves (Ok _) left = left ≡ []
Leaves (Err faults.ReadFault) left = left ≡ []
Leaves (Err faults.WriteFault) left = Unit {0}
Leaves (Err faults.Memory) left = Unit {0}

-- it goes on until a line is `quit`, or the input ends
abbrev pub Finishes : Result (Unit {0}) OperatorFault → List ℕ → Option (List ℕ) → Type 0
Finishes (Ok _) input after = quits (ended_lines input) ≡ false → IsAtEnd after
Finishes (Err faults.ReadFault) input after = quits (ended_lines input) ≡ false
Finishes (Err faults.WriteFault) input after = Unit {0}
Finishes (Err faults.Memory) input after = Unit {0}

-- the lines of what was read up to the first `quit` were answered, one after another, by calls of
-- this seat, and of each, of `quit` too, a witness was told; at first no batch is open. A line
-- without its LF is answered only where nothing is left of the input. However that went, the seat
-- made the Stop then. `are_heard` says which lines the witness was told
pub record IsOperated (opening : Opening) (end : Result (Unit {0}) OperatorFault)
    (are_heard : List Typing → Type 0) (was now : Seated)
    (before after old new : Option (List ℕ)) : Type 0 where
  pub listened : Result (Unit {0}) OperatorFault
  pub input : List ℕ
  pub read : Consumes before after input
  pub finishes : Finishes listened input after
  -- memory runs out at a line that began
  pub wants : listened ≡ Err faults.Memory → 0 < length input
  pub answered : List (List ℕ)
  pub left : List (List ℕ)
  pub lines : commands (lines_at listened input) ≡ answered ++ left
  pub leaves : Leaves listened left
  pub whole : HaveEnded input answered ⊎ IsAtEnd after
  pub outcomes : List Outcome
  pub mid : Seated
  pub came : CameTo opening None was answered outcomes mid
  pub typings : List Typing
  pub tells :
      AreTypingsOf listened answered left outcomes (quit_of (lines_at listened input)) typings
  pub heard : are_heard typings
  pub between : Option (List ℕ)
  pub writes : WritesTo listened typings old between
  pub stop : Outcome
  pub stops : StopComesTo opening mid stop now
  pub ends : StopEnds listened end stop between new
  pub makes : Makes was now
      (entries_of (outcomes ++ stop ∷ [])) (rotations_of (outcomes ++ stop ∷ []))
