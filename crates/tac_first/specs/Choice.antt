-- Which key the first packet of a connection shows. Nothing in a packet names its key. Under
-- another than its own, its body is mostly none of its type (RFC 8907, section 4.5), or has values
-- that mean nothing.
use Rattle.std.specs.Prelude.{◌≡◌, ◌<◌, ℕ, Bool, List, IsTrue, ◌||◌, nat_lt, ◌==◌, Option, Some}
use Rattle.std.specs.Prelude.{None, Result, Ok, Err, unwrap_or, if◌then◌else◌}
use Rattle.tac_wire.specs.Header.{tac_plus_authen, tac_plus_author, tac_plus_acct}
use Rattle.tac_wire.specs.Pad.{padded}
use Rattle.tac_wire.specs.declared.body.BodyFault.{BodyFault}
use Rattle.tac_wire.specs.declared.frame.Frame.{Frame}
use Rattle.tac_wire.specs.declared.header.Header.{Header}
use Rattle.tac_authen.specs.Start.{start_bytes, start_of}
use Rattle.tac_authen.specs.declared.start.Start.{Start}
use Rattle.tac_request.specs.AuthorRequest.{author_request, author_request_of}
use Rattle.tac_request.specs.AcctRequest.{acct_request, acct_request_of}
use Rattle.tac_request.specs.declared.author_request.AuthorRequest.{AuthorRequest}
use Rattle.tac_request.specs.declared.acct_request.AcctRequest.{AcctRequest}
use Rattle.tac_first.specs.InRange.{is_start_in_range, is_author_request_in_range}
use Rattle.tac_first.specs.InRange.{is_acct_request_in_range}
use Rattle.tac_first.specs.declared.keys.Keys.{Keys}
use Rattle.tac_first.specs.declared.keys.Shown.{Shown}
use Rattle.tac_first.specs.declared.keys.Shown.TheVariants.{Present, Old}

-- ---- how well a packet fits a key

-- 2 where a body is one of its type, with values in their ranges; 1 where it is one; else 0
abbrev pub grade : {Body : Type 0} → (Body → Bool) → Result Body BodyFault → ℕ
grade is_in_range (Ok body) = if is_in_range body then 2 else 1
grade is_in_range (Err fault) = 0

-- the grade of a body in a packet of this type; of a type that isn't served it is 0
abbrev pub grade_as : ℕ → List ℕ → ℕ
grade_as kind body =
    if kind == tac_plus_authen
    then grade is_start_in_range (start_of body)
    else if kind == tac_plus_author
    then grade is_author_request_in_range (author_request_of body)
    else if kind == tac_plus_acct
    then grade is_acct_request_in_range (acct_request_of body) else 0

-- the grade of the body that the key gives: the pad is taken off
abbrev pub fits : List ℕ → Frame → ℕ
fits key frame = grade_as frame.header.kind.0 (padded frame.header key frame.body)

-- ---- the key that it shows

-- the old key, if there is one that the packet fits better; else the present one
abbrev pub chosen_of : List ℕ → Option (List ℕ) → Frame → Shown
chosen_of present None frame = Present
chosen_of present (Some old) frame =
    if nat_lt (fits present frame) (fits old frame) then Old else Present

abbrev pub chosen : Keys → Frame → Shown
chosen keys frame = chosen_of keys.present keys.old frame

-- the key that is meant; without an old one it is the present one
abbrev pub key_of : Shown → Keys → List ℕ
key_of Present keys = keys.present
key_of Old keys = unwrap_or keys.old keys.present

-- ---- what devices see of it

-- what a device sends first, by its type: a body with values in their ranges
pub data IsSent : ℕ → List ℕ → Type 0 where
  of_start : (start : Start) → IsTrue (is_start_in_range start)
      → IsSent tac_plus_authen (start_bytes start)
  of_author_request : (request : AuthorRequest) → IsTrue (is_author_request_in_range request)
      → IsSent tac_plus_author (author_request request)
  of_acct_request : (request : AcctRequest) → IsTrue (is_acct_request_in_range request)
      → IsSent tac_plus_acct (acct_request request)

-- the packet that is sent of it under a key: the pad is put on
abbrev pub under : List ℕ → Header → List ℕ → Frame
under key header body = record { header = header; body = padded header key body }

-- what a device sends under a key shows that key
pub record ShowsItsKey (keys : Keys) : Type 0 where
  -- under the present one in any case
  pub present : (header : Header) (body : List ℕ) → IsSent header.kind.0 body
      → chosen keys (under keys.present header body) ≡ Present
  -- under the old one unless it fits the present one as well
  pub old : (key : List ℕ) (header : Header) (body : List ℕ) → keys.old ≡ Some key
      → IsSent header.kind.0 body → fits keys.present (under key header body) < 2
      → chosen keys (under key header body) ≡ Old

-- ---- what it costs

-- a type that is served: the body of any other isn't looked at
abbrev pub is_served : ℕ → Bool
is_served kind = kind == tac_plus_authen || kind == tac_plus_author || kind == tac_plus_acct
