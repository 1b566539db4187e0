-- Histories of calls, one call after another, and one history after another.
use Rattle.std.proofs.Common.{◌≡◌, List, [], ◌∷◌, ◌++◌, Bool, true, false, ◌||◌, append-nil, append_assoc, refl}
use Rattle.tac_desk.specs.Meaning.{Meaning}
use Rattle.tac_hall.specs.Calls.{Entry, is_stop, is_closed, Legal, at_first, and_then}
use Rattle.tac_hall.specs.Segments.{Stretch, IsStretch, Joins, as_one}

or_false : (b : Bool) → (b || false) ≡ b
or_false true = refl
or_false false = refl

after : (first rest whole last : Bool) → (first || rest) ≡ false → (rest ≡ false → whole ≡ last) → (first || whole) ≡ last
after true rest whole last h k = cc
after false rest whole last h k = k h

-- a log without a Stop has one after one more call exactly if that call is a Stop
pub closed_after : (log : List Entry) (entry : Entry) → is_closed log ≡ false → is_closed (log ++ entry ∷ []) ≡ is_stop entry.call
closed_after [] entry h = or_false (is_stop entry.call)
closed_after (first ∷ log) entry h = after (is_stop first.call) (is_closed log) (is_closed (log ++ entry ∷ [])) (is_stop entry.call) h (closed_after log entry)

-- ---- two logs, one after the other

closed_joined : (one two : List Entry) → is_closed one ≡ false → is_closed two ≡ false → is_closed (one ++ two) ≡ false
closed_joined [] two h k = k
closed_joined (entry ∷ one) two h k = after (is_stop entry.call) (is_closed one) (is_closed (one ++ two)) false h (λ rest. closed_joined one two rest k)

pub legal_joined : {base : Meaning} (one : List Entry) {middle end : Meaning} {two : List Entry} → Legal base one middle → is_closed one ≡ false → Legal middle two end → Legal base (one ++ two) end
legal_joined one first h at_first = rw append-nil first
legal_joined one first h (and_then {log} entry rest goes_on answers) =
    rw (← append_assoc one log (entry ∷ [])) (and_then entry (legal_joined one first h rest) (closed_joined one log h goes_on) answers)

-- a segment and the one that follows it are a stretch
pub stretch_joined : (first second : Stretch) → IsStretch first → IsStretch second → Joins first second → IsStretch (as_one first second)
stretch_joined first second one two joins = record {
  legal = legal_joined first.log one.legal one.goes_on (rw joins.1 at two.legal);
  goes_on = closed_joined first.log second.log one.goes_on two.goes_on;
}
