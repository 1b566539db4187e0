-- The lines of events are told apart, so what they tell is read back from them.
use Rattle.std.specs.Prelude.{◌≡◌, ◌≢◌, ◌^◌, ℕ, List, Bool, true, ◌&&◌, nat_lt, IsTrue, Option}
use Rattle.std.specs.List.{list_all}
use Rattle.std.specs.Option.{option_map_or}
use Rattle.tac_conn.specs.declared.reading.Asker.{Asker}
use Rattle.tac_audit.specs.declared.event.Said.{Said}
use Rattle.tac_audit.specs.Told.{Told, Login, Command, Account, Refused}
use Rattle.tac_audit.specs.declared.event.CameBy.{CameBy}
use Rattle.tac_audit.specs.declared.event.CameBy.TheVariants.{Key, OldKey, Tls}
use Rattle.tac_audit.specs.declared.event.Named.{Named}
use Rattle.tac_audit.specs.declared.event.Origin.{Origin}
use Rattle.tac_audit.specs.Told.{Event}
use Rattle.tac_audit.specs.declared.event.TurnedAway.{TurnedAway}
use Rattle.tac_audit.specs.declared.event.Typist.{Typist}
use Rattle.tac_audit.specs.declared.event.Typist.TheVariants.{Anyone, Operator}
use Rattle.tac_audit.specs.declared.event.Typed.{Typed}
use Rattle.tac_audit.specs.Event.{line_of, typed_line, turned_away_line}

-- numbers below 256, as all bytes are
abbrev pub are_bytes : List ℕ → Bool
are_bytes bytes = list_all (λ byte. nat_lt byte 256) bytes

abbrev pub are_texts : List (List ℕ) → Bool
are_texts texts = list_all are_bytes texts

abbrev pub is_asker : Asker → Bool
is_asker asker =
    are_bytes asker.user && are_bytes asker.port && are_bytes asker.from
    && nat_lt asker.privilege 256 && nat_lt asker.service 256

abbrev pub is_said : Said → Bool
is_said said = are_bytes said.text && are_texts said.given

abbrev pub is_told : Told → Bool
is_told (Login asker said) = is_asker asker && is_said said
is_told (Command asker arguments line said) =
    is_asker asker && are_texts arguments && option_map_or are_bytes line true && is_said said
is_told (Account asker kind task arguments said) =
    is_asker asker && are_bytes task && are_texts arguments && is_said said
is_told (Refused why) = true

abbrev pub is_came_by : CameBy → Bool
is_came_by Key = true
is_came_by OldKey = true
is_came_by (Tls name) = option_map_or are_bytes name true

abbrev pub is_named : Named → Bool
is_named named = are_bytes named.name && is_came_by named.came_by

abbrev pub is_origin : Origin → Bool
is_origin origin = are_bytes origin.device && option_map_or is_named origin.named true

-- an event as there can be one: bytes, and 32 bits of session
abbrev pub is_event : Event → Bool
is_event event =
    option_map_or are_bytes event.time true && is_origin event.origin
    && nat_lt event.session (2 ^ 32) && is_told event.told

-- a size below 2^64
abbrev pub is_size : Option ℕ → Bool
is_size size = option_map_or (λ size. nat_lt size (2 ^ 64)) size true

abbrev pub is_typist : Typist → Bool
is_typist Anyone = true
is_typist (Operator name) = option_map_or are_bytes name true

abbrev pub is_typed : Typed → Bool
is_typed typed =
    are_bytes typed.time && is_typist typed.typist && are_bytes typed.console
    && is_size typed.answer_bytes && are_texts typed.answer

abbrev pub is_turned_away : TurnedAway → Bool
is_turned_away turned =
    are_bytes turned.time && is_origin turned.origin && nat_lt turned.count (2 ^ 64)

-- events with the same line are the same
abbrev pub AreApart : Event → Event → Type 0
AreApart a b = IsTrue (is_event a) → IsTrue (is_event b) → line_of a ≡ line_of b → a ≡ b

-- the same of the console's
abbrev pub AreTypedApart : Typed → Typed → Type 0
AreTypedApart a b =
    IsTrue (is_typed a) → IsTrue (is_typed b) → typed_line a ≡ typed_line b → a ≡ b

-- the same of refused connections
abbrev pub AreTurnedAwayApart : TurnedAway → TurnedAway → Type 0
AreTurnedAwayApart a b =
    IsTrue (is_turned_away a) → IsTrue (is_turned_away b) →
    turned_away_line a ≡ turned_away_line b → a ≡ b

-- theirs is no line of an event
abbrev pub IsOther : Event → TurnedAway → Type 0
IsOther event turned =
    IsTrue (is_event event) → IsTrue (is_turned_away turned) →
    line_of event ≢ turned_away_line turned
