-- With which status the program ends.
use Rattle.std.specs.Prelude.{◌≡◌, ℕ, Result, Ok, Err}
use Rattle.std.specs.IoError.{error_kind}
use Rattle.std.specs.declared.io.ErrorKind.TheVariants as kinds
use Rattle.tac_io.specs.declared.reading.InputFault.{InputFault}
use Rattle.tac_io.specs.declared.reading.InputFault.TheVariants as inputs
use Rattle.tac_io.specs.declared.answering.AnswerFault.{AnswerFault}
use Rattle.tac_io.specs.declared.answering.AnswerFault.TheVariants as answers
use Rattle.tac_devices.specs.declared.listing.ListingEnd.{ListingEnd}
use Rattle.tac_devices.specs.declared.listing.ListingEnd.TheVariants as listings
use Rattle.tac_devices_lint.specs.declared.lint.DevicesLintEnd.{DevicesLintEnd}
use Rattle.tac_devices_lint.specs.declared.lint.DevicesLintEnd.TheVariants as devices
use Rattle.tac_review.specs.declared.checking.CheckEnd.{CheckEnd}
use Rattle.tac_review.specs.declared.checking.CheckEnd.TheVariants as checks
use Rattle.tac_review.specs.declared.linting.LintEnd.{LintEnd}
use Rattle.tac_review.specs.declared.linting.LintEnd.TheVariants as lints
use Rattle.tac_console_client.specs.declared.heard.Heard.{Heard}
use Rattle.tac_console_client.specs.declared.heard.Heard.TheVariants as heard
use Rattle.tac_review.specs.declared.task.Permission.{Permission}
use Rattle.tac_review.specs.declared.task.Permission.TheVariants as permissions
use Rattle.tac_review.specs.declared.task.ReviewEnd.{ReviewEnd}
use Rattle.tac_review.specs.declared.task.ReviewEnd.TheVariants as reviews
use Rattle.tac_review.specs.declared.task.ReviewFault.{ReviewFault}
use Rattle.tac_run.specs.declared.text.TextFault.{TextFault}
use Rattle.tac_run.specs.declared.text.TextFault.TheVariants as texts
use Rattle.tac_run.specs.declared.status.Status.{Status}
use Rattle.tac_run.specs.declared.status.Status.TheVariants.{Done, Refused, OutOfMemory, Failed}
use Rattle.tac_run.specs.declared.status.Status.TheVariants.{Differs}

-- out of memory is told apart from all else that keeps an input from being answered
abbrev pub status_of : AnswerFault → Status
status_of answers.Memory = OutOfMemory
status_of answers.Untold = OutOfMemory
status_of answers.ReadFault = Failed
status_of answers.TooLong = Failed
status_of answers.WriteFault = Failed

abbrev pub status_of_check : Result CheckEnd AnswerFault → Status
status_of_check (Ok checks.Sound) = Done
status_of_check (Ok checks.Refused) = Refused
status_of_check (Err fault) = status_of fault

-- what is told of a policy that may stand is no refusal
abbrev pub status_of_lint : Result LintEnd AnswerFault → Status
status_of_lint (Ok lints.Quiet) = Done
status_of_lint (Ok lints.Told) = Differs
status_of_lint (Ok lints.Refused) = Refused
status_of_lint (Err fault) = status_of fault

-- an address that may not call is told by a status of its own
abbrev pub status_of_listing : Result ListingEnd AnswerFault → Status
status_of_listing (Ok listings.Fine) = Done
status_of_listing (Ok listings.Stranger) = Differs
status_of_listing (Ok listings.Refused) = Refused
status_of_listing (Err fault) = status_of fault

-- the same of a devices' file
abbrev pub status_of_devices_lint : Result DevicesLintEnd AnswerFault → Status
status_of_devices_lint (Ok devices.Quiet) = Done
status_of_devices_lint (Ok devices.Told) = Differs
status_of_devices_lint (Ok devices.Refused) = Refused
status_of_devices_lint (Err fault) = status_of fault

-- where something differs it is the one that is given
abbrev pub status_of_review : Status → Result ReviewEnd ReviewFault → Status
status_of_review told (Ok reviews.Done) = Done
status_of_review told (Ok (reviews.Answered permission)) = Done
status_of_review told (Ok reviews.Differs) = told
status_of_review told (Ok (reviews.Edited batches)) = told
status_of_review told (Ok (reviews.BadPolicy input)) = Refused
status_of_review told (Ok reviews.Refused) = Refused
status_of_review told (Err fault) = status_of fault.fault

-- what a question is answered, where the status tells it
abbrev pub status_of_permission : Permission → Status
status_of_permission permissions.Permitted = Done
status_of_permission permissions.Denied = Differs
status_of_permission permissions.Unknown = Refused

abbrev pub status_of_question : Result ReviewEnd ReviewFault → Status
status_of_question (Ok (reviews.Answered permission)) = status_of_permission permission
status_of_question outcome = status_of_review Done outcome

-- how a client's lines were obeyed that were all answered
abbrev pub status_of_heard : Heard → Status
status_of_heard heard.Well = Done
status_of_heard heard.Unkept = Differs
status_of_heard heard.Refused = Refused

-- ---- why the text of a file isn't had

-- of a file that is open and may have so many bytes
abbrev pub fault_of_input : InputFault → ℕ → TextFault
fault_of_input inputs.Failed most = texts.Failed
fault_of_input inputs.TooLong most = texts.TooLong most
fault_of_input inputs.Memory most = texts.Memory

-- memory ran out, also where the system says so of a file
abbrev pub IsMemoryFault : TextFault → Type 0
IsMemoryFault texts.Memory = Unit {0}
IsMemoryFault (texts.Unopened error) = error_kind error ≡ kinds.OutOfMemory
IsMemoryFault fault = ⊥
