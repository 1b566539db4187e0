-- The line of a console: an edit, a question, a word of a batch, or none of them
-- (docs/CONSOLE.md).
use Rattle.std.specs.Prelude.{ℕ, List, [], codes, Bool, true, false, Option, Some, None, option_map}
use Rattle.std.specs.Prelude.{if◌then◌else◌}
use Rattle.std.specs.Option.{option_and_then, option_map_or}
use Rattle.std.specs.Str.{bytes_eq}
use Rattle.basics.specs.Symbol.{is_text}
use Rattle.pol_names.specs.Name.{name_of}
use Rattle.pol_names.specs.Service.{service_of}
use Rattle.pol_edit.specs.EditText.{parted, subject_of, edit_of, has_text}
use Rattle.pol_edit.specs.declared.edit.Edit.{Edit}
use Rattle.tac_desk.specs.declared.query.Query.{Query}
use Rattle.tac_desk.specs.declared.query.Query.TheVariants.{Policy, Shadow, Reach, Tally, Why}
use Rattle.tac_desk.specs.declared.query.Query.TheVariants.{Given, Records}
use Rattle.tac_console.specs.declared.asked.Asked.{Asked}
use Rattle.tac_console.specs.declared.asked.Asked.TheVariants as asks

-- `NAME`, which asks the empty line, or `NAME LINE`, where the line is the whole rest
abbrev pub why : List ℕ → Option (List ℕ × List ℕ) → Option Query
why text None = option_map (λ user. Why user []) (name_of text)
why text (Some parts) = option_map (λ user. Why user parts.1) (name_of parts.0)

-- `NAME SERVICE`
abbrev pub given : Option (List ℕ × List ℕ) → Option Query
given None = None
given (Some parts) =
    option_and_then (λ user. option_map (Given user) (service_of parts.1)) (name_of parts.0)

-- a question of this first word, which a space follows
abbrev pub query_by : List ℕ → List ℕ → Option Query
query_by word rest =
    if bytes_eq word (codes "tally") then option_map Tally (subject_of rest)
    else if bytes_eq word (codes "reach") then option_map Reach (subject_of rest)
    else if bytes_eq word (codes "why") then why rest (parted rest)
    else if bytes_eq word (codes "given") then given (parted rest)
    else None

-- a line by its first word, if a space follows one
abbrev pub by_word : Option (List ℕ × List ℕ) → Option Query
by_word None = None
by_word (Some parts) = query_by parts.0 parts.1

abbrev pub query_in : List ℕ → Option Query
query_in line =
    if bytes_eq line (codes "policy") then Some Policy
    else if bytes_eq line (codes "shadow") then Some Shadow
    else if bytes_eq line (codes "records") then Some Records
    else by_word (parted line)

-- the question that a line of symbols says; nothing where it says no question
unfoldable pub query_of : List ℕ → Option Query
query_of line = if is_text line then query_in line else None

-- the lines round the edits of a batch
abbrev pub batch_word : List ℕ → Option Asked
batch_word line =
    if bytes_eq line (codes "begin") then Some asks.Begin
    else if bytes_eq line (codes "commit") then Some asks.Commit
    else if bytes_eq line (codes "abandon") then Some asks.Abandon
    else None

abbrev pub asked_of : Option Asked → Option Query → Option Edit → Asked
asked_of (Some word) query edit = word
asked_of None (Some query) edit = asks.Query query
asked_of None None (Some edit) = asks.Edit edit
asked_of None None None = asks.Neither

-- what a line asks; no line asks two of these
abbrev pub asked_by : List ℕ → Asked
asked_by line = asked_of (batch_word line) (query_of line) (edit_of line)

-- ---- memory

-- whether it is `why`, whose line takes memory to keep
abbrev pub is_why : Query → Bool
is_why (Why user line) = true
is_why query = false

abbrev pub is_why_in : Option Query → Bool
is_why_in query = option_map_or is_why query false

-- whether reading a line that asks this may take memory: where a text is kept
abbrev pub may_take_memory : Asked → Bool
may_take_memory (asks.Edit edit) = has_text edit
may_take_memory (asks.Query query) = is_why query
may_take_memory asked = false
