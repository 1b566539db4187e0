-- The lines of refused connections are told apart, and from those of events.
use Rattle.std.specs.Prelude.{slice_index}
use Rattle.std.proofs.Common.{◌≡◌, ℕ, ◌^◌, ◌<◌, ◌&&◌, true, if◌then◌else◌, eqb, List, ◌++◌, Some, codes, nat_lt, refl, sym, ap, ◌∙◌, arith}
use Rattle.std.specs.Fmt.{decimal}
use Rattle.std.specs.Option.{option_map_or}
use Rattle.std.proofs.lemmas.Bool.Decides.{nat_tests}
use Rattle.std.proofs.lemmas.Bool.{and_parts}
use Rattle.std.proofs.lemmas.Fmt.{decimal_injective}
use Rattle.std.proofs.lemmas.List.{append_cancel_right}
use Rattle.tac_audit.specs.declared.event.Origin.{Origin}
use Rattle.tac_audit.specs.Told.{Event}
use Rattle.tac_audit.specs.declared.event.WhyTurnedAway.{WhyTurnedAway}
use Rattle.tac_audit.specs.declared.event.WhyTurnedAway.TheVariants.{UnknownDevice, NoKey, NoTls, NoCertificate, OtherCertificate, BadProxyHeader, TooManyConnections}
use Rattle.tac_audit.specs.declared.event.TurnedAway.{TurnedAway}
use Rattle.tac_audit.specs.Json.{text_json, member}
use Rattle.tac_audit.specs.Event.{turned_away_word, session_digits, origin_json, type_json, begun, ended, turned_away_line}
use Rattle.tac_audit.specs.Apart.{are_bytes, is_told, is_origin, AreTurnedAwayApart, IsOther}
use Rattle.tac_audit.proofs.JsonApart.{unlike, member_apart, text_member}
use Rattle.tac_audit.proofs.OriginsApart.{IsAfterOrigin, origins_apart}
use Rattle.tac_audit.proofs.EventsApart.{nest5, begun_apart, line_is, before_session}

word_bytes : (a : WhyTurnedAway) → are_bytes (turned_away_word a) ≡ true
word_bytes UnknownDevice = refl
word_bytes NoKey = refl
word_bytes NoTls = refl
word_bytes NoCertificate = refl
word_bytes OtherCertificate = refl
word_bytes BadProxyHeader = refl
word_bytes TooManyConnections = refl

-- which it is whose word has this fourth byte, and this fifth one
why_at : ℕ → ℕ → WhyTurnedAway
why_at fourth fifth =
    if eqb fourth 0x6B then NoKey
    else if eqb fourth 0x63 then NoCertificate
    else if eqb fifth 0x6F then UnknownDevice
    else if eqb fifth 0x6C then NoTls
    else if eqb fifth 0x72 then OtherCertificate
    else if eqb fifth 0x70 then BadProxyHeader
    else TooManyConnections

-- which it is that has this word
word_at : List ℕ → WhyTurnedAway
word_at word = why_at (slice_index word 3) (slice_index word 4)

word_read : (a : WhyTurnedAway) → word_at (turned_away_word a) ≡ a
unfolding word_at why_at
word_read UnknownDevice = refl
word_read NoKey = refl
word_read NoTls = refl
word_read NoCertificate = refl
word_read OtherCertificate = refl
word_read BadProxyHeader = refl
word_read TooManyConnections = refl

words_apart : (a b : WhyTurnedAway) → turned_away_word a ≡ turned_away_word b → a ≡ b
words_apart a b e = sym (word_read a) ∙ ap word_at e ∙ word_read b

small_count : (n : ℕ) → nat_lt n (2 ^ 64) ≡ true → n < 2 ^ 64
small_count n h = grind (arith, nat_tests)

-- numbers at the end of a line
counts_apart : (m n : ℕ) → nat_lt m (2 ^ 64) ≡ true → nat_lt n (2 ^ 64) ≡ true → member (codes "count") (decimal m) ++ ended ≡ member (codes "count") (decimal n) ++ ended → m ≡ n
counts_apart m n h k same =
    decimal_injective m n (small_count m h) (small_count n k)
    (append_cancel_right (decimal m) (decimal n) ended (member_apart (codes "count") (decimal m) (decimal n) ended ended same))

turned_parts : (a b : TurnedAway) → a.time ≡ b.time → a.origin ≡ b.origin → a.why ≡ b.why → a.count ≡ b.count → a ≡ b
turned_parts a b time origin why count =
    ap (λ (x : List ℕ). record a { time = x }) time
    ∙ ap (λ (x : Origin). record { time = b.time; origin = x; why = a.why; count = a.count }) origin
    ∙ ap (λ (x : WhyTurnedAway). record { time = b.time; origin = b.origin; why = x; count = a.count }) why
    ∙ ap (λ (x : ℕ). record b { count = x }) count

turned_is : (t : TurnedAway) → turned_away_line t
    ≡ begun (Some t.time) ++ (origin_json t.origin ++ (type_json (codes "refused") ++ (member (codes "why") (text_json (turned_away_word t.why)) ++ (member (codes "count") (decimal t.count) ++ ended))))
turned_is t = nest5 (begun (Some t.time)) (origin_json t.origin) (type_json (codes "refused")) (member (codes "why") (text_json (turned_away_word t.why))) (member (codes "count") (decimal t.count)) ended

-- after where they come from, the type follows
before_type : (word x : List ℕ) → IsAfterOrigin (type_json word ++ x)
unfolding type_json member IsAfterOrigin
before_type word x = (refl, refl, refl)

pub turned_away_apart : (a b : TurnedAway) → AreTurnedAwayApart a b
unfolding type_json
turned_away_apart a b h k same =
    let h1 = and_parts (are_bytes a.time && is_origin a.origin) (nat_lt a.count (2 ^ 64)) h in
    let k1 = and_parts (are_bytes b.time && is_origin b.origin) (nat_lt b.count (2 ^ 64)) k in
    let h2 = and_parts (are_bytes a.time) (is_origin a.origin) h1.0 in
    let k2 = and_parts (are_bytes b.time) (is_origin b.origin) k1.0 in
    let times = begun_apart (Some a.time) (Some b.time) _ _ h2.0 k2.0 (sym (turned_is a) ∙ same ∙ turned_is b) in
    let time : a.time ≡ b.time = (let both = times.0 in cc) in
    let origins = origins_apart a.origin b.origin _ _ h2.1 k2.1 (before_type (codes "refused") _) (before_type (codes "refused") _) times.1 in
    let types = text_member (codes "type") (codes "refused") (codes "refused") _ _ refl refl origins.1 in
    let words = text_member (codes "why") (turned_away_word a.why) (turned_away_word b.why) _ _ (word_bytes a.why) (word_bytes b.why) types.1 in
    turned_parts a b time origins.0 (words_apart a.why b.why words.0) (counts_apart a.count b.count h1.1 k1.1 words.1)

-- a session is no type
session_type : (v w x y : List ℕ) → member (codes "session") v ++ x ≡ type_json w ++ y → ⊥
unfolding member type_json
session_type v w x y same = unlike 0x73 0x74 refl (ap (λ (l : List ℕ). slice_index l 2) same)

pub is_other : (event : Event) (turned : TurnedAway) → IsOther event turned
is_other event turned h k same =
    let h1 = and_parts (option_map_or are_bytes event.time true && is_origin event.origin && nat_lt event.session (2 ^ 32)) (is_told event.told) h in
    let h2 = and_parts (option_map_or are_bytes event.time true && is_origin event.origin) (nat_lt event.session (2 ^ 32)) h1.0 in
    let h3 = and_parts (option_map_or are_bytes event.time true) (is_origin event.origin) h2.0 in
    let k1 = and_parts (are_bytes turned.time && is_origin turned.origin) (nat_lt turned.count (2 ^ 64)) k in
    let k2 = and_parts (are_bytes turned.time) (is_origin turned.origin) k1.0 in
    let times = begun_apart event.time (Some turned.time) _ _ h3.0 k2.0 (sym (line_is event) ∙ same ∙ turned_is turned) in
    let origins = origins_apart event.origin turned.origin _ _ h3.1 k2.1 (before_session (text_json (session_digits event.session)) _) (before_type (codes "refused") _) times.1 in
    session_type (text_json (session_digits event.session)) (codes "refused") _ _ origins.1
