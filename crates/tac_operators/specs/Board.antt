-- The one place where a line and its answer change hands: what lies there, and whose it is.
use Rattle.std.specs.Prelude.{◌≡◌, ℕ, List, [], ◌++◌, ◌==◌, Bool, true, false}
use Rattle.std.specs.Prelude.{Option, Some, None, Result, Ok, Err, if◌then◌else◌}
use Rattle.std.specs.declared.alloc.AllocError.{AllocError}
use Rattle.tac_operators.specs.Holding.{holder_after}
use Rattle.tac_operators.specs.declared.part.Part.{Part}
use Rattle.tac_operators.specs.declared.part.Part.TheVariants as parts
use Rattle.tac_operators.specs.declared.board.Operator.{Operator}
use Rattle.tac_operators.specs.declared.board.Message.{Message}
use Rattle.tac_operators.specs.declared.board.Mailbox.{Mailbox}
use Rattle.tac_operators.specs.declared.board.Mailbox.TheVariants as mailboxes
use Rattle.tac_operators.specs.declared.board.Ruling.{Ruling}
use Rattle.tac_operators.specs.declared.board.Ruling.TheVariants as rulings
use Rattle.tac_operators.specs.declared.board.Board.{Board}

abbrev pub empty : Board
empty = record { mailbox = mailboxes.Free; holder = None }

abbrev pub ended : Board
ended = record { mailbox = mailboxes.Ended; holder = None }

-- ---- a line is put there

-- a line that is none of a batch may always go; another one only where nobody else holds the batch
abbrev pub ruling_beside : Option Operator → Operator → Part → Ruling
ruling_beside holder operator parts.Beside = rulings.Put
ruling_beside None operator part = rulings.Put
ruling_beside (Some holder) operator part =
    if holder.number == operator.number then rulings.Put else rulings.Busy holder

abbrev pub ruling_at : Mailbox → Option Operator → Operator → Part → Ruling
ruling_at mailboxes.Free holder operator part = ruling_beside holder operator part
ruling_at mailboxes.Ended holder operator part = rulings.Ended
ruling_at mailbox holder operator part = rulings.Occupied

abbrev pub ruling : Board → Operator → Part → Ruling
ruling board operator part = ruling_at board.mailbox board.holder operator part

abbrev pub after_put : Board → Message → Ruling → Board
after_put board message rulings.Put = record board { mailbox = mailboxes.Typed message }
after_put board message _ = board

-- ---- the console takes it, and answers it

abbrev pub line_of : Mailbox → Option (List ℕ)
line_of (mailboxes.Typed message) = Some message.text
line_of _ = None

-- the answer is that of the same line of the same operator, and is empty so far
abbrev pub mailbox_taken : Mailbox → Mailbox
mailbox_taken (mailboxes.Typed message) = mailboxes.Taken (record message { text = [] })
mailbox_taken mailbox = mailbox

abbrev pub after_taken : Board → Board
after_taken board = record board { mailbox = mailbox_taken board.mailbox }

-- a text is added to the answer of the line that was taken, or is nobody's answer
abbrev pub AddsAt : List ℕ → Mailbox → Mailbox → Bool → Type 0
AddsAt text (mailboxes.Taken message) now is_answer =
    (is_answer ≡ true) × (now ≡ mailboxes.Taken (record message { text = message.text ++ text }))
AddsAt text mailbox now is_answer = (is_answer ≡ false) × (now ≡ mailbox)

abbrev pub Adds : List ℕ → Board → Board → Result Bool AllocError → Type 0
Adds text was now (Ok is_answer) =
    AddsAt text was.mailbox now.mailbox is_answer × (now.holder ≡ was.holder)
Adds text was now (Err error) = now ≡ was

-- the name of whose line the console answers now, if he said one
abbrev pub typist_at : Mailbox → Option (List ℕ)
typist_at (mailboxes.Taken message) = message.operator.name
typist_at mailbox = None

abbrev pub answered_at : Mailbox → Option Operator → Board
answered_at (mailboxes.Taken message) holder = record {
  mailbox = mailboxes.Answered message;
  holder = holder_after holder message.operator message.part;
}
answered_at mailbox holder = record { mailbox = mailbox; holder = holder }

abbrev pub after_answered : Board → Board
after_answered board = answered_at board.mailbox board.holder

-- ---- its operator takes the answer

abbrev pub answer_for : ℕ → Mailbox → Option (List ℕ)
answer_for number (mailboxes.Answered message) =
    if message.operator.number == number then Some message.text else None
answer_for number _ = None

abbrev pub mailbox_answer_taken : ℕ → Mailbox → Mailbox
mailbox_answer_taken number (mailboxes.Answered message) =
    if message.operator.number == number then mailboxes.Free else mailboxes.Answered message
mailbox_answer_taken number mailbox = mailbox

abbrev pub after_answer_taken : ℕ → Board → Board
after_answer_taken number board =
    record board { mailbox = mailbox_answer_taken number board.mailbox }

-- ---- the console ends

abbrev pub last_of : Mailbox → Option (List ℕ)
last_of (mailboxes.Taken message) = Some message.text
last_of _ = None
