-- What is asked of the desk, and what it answers.
use Rattle.tac_conn.specs.declared.ask.Ask.{Ask}
use Rattle.tac_conn.specs.declared.ask.Ask.TheVariants.{Authenticate, Authorise, Serve, Account}
use Rattle.tac_conn.specs.declared.ask.Answer.{Answer}
use Rattle.tac_conn.specs.declared.ask.Answer.TheVariants.{Pass, Fail, UnknownUser, Unprintable}
use Rattle.tac_conn.specs.declared.ask.Answer.TheVariants.{Denied, Permitted, Unserved, Refused}
use Rattle.tac_conn.specs.declared.ask.Answer.TheVariants.{Granted, Stored, BookFull}
use Rattle.tac_conn.specs.declared.ask.AskKind.{AskKind}
use Rattle.tac_conn.specs.declared.ask.AskKind.TheVariants.{Authentication, Authorisation}
use Rattle.tac_conn.specs.declared.ask.AskKind.TheVariants.{Accounting}
use Rattle.tac_conn.specs.declared.ask.Slot.{Slot}

-- what an ask is about
abbrev pub kind_of_ask : Ask → AskKind
kind_of_ask (Authenticate user service proof) = Authentication
kind_of_ask (Authorise user line) = Authorisation
kind_of_ask (Serve user service protocol) = Authorisation
kind_of_ask (Account event) = Accounting

-- what an answer is to
abbrev pub kind_of_answer : Answer → AskKind
kind_of_answer Pass = Authentication
kind_of_answer Fail = Authentication
kind_of_answer UnknownUser = Authorisation
kind_of_answer Unprintable = Authorisation
kind_of_answer (Denied by) = Authorisation
kind_of_answer (Permitted level) = Authorisation
kind_of_answer Unserved = Authorisation
kind_of_answer (Refused owner) = Authorisation
kind_of_answer (Granted arguments) = Authorisation
kind_of_answer Stored = Accounting
kind_of_answer BookFull = Accounting

-- it carries arguments other than a level
abbrev pub HasArguments : Answer → Type 0
HasArguments (Granted arguments) = Unit {0}
HasArguments answer = ⊥

-- what answers belong into a slot
abbrev pub kind_asked : Slot → AskKind
kind_asked slot = slot.kind
