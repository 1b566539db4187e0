-- The lines of events are told apart.
use Rattle.std.proofs.Common.{◌≡◌, ℕ, ◌/◌, ◌%◌, ◌^◌, ◌<◌, ◌&&◌, true, if◌then◌else◌, eqb, length, List, [], ◌∷◌, ◌++◌, drop, Option, Some, None, codes, nat_lt, append_assoc, refl, sym, ap, ◌∙◌, arith}
use Rattle.std.specs.Prelude.{slice_index}
use Rattle.std.specs.Int.{to_be_bytes, from_be_bytes, w32}
use Rattle.std.specs.Option.{option_map, option_map_or}
use Rattle.std.specs.Fmt.{decimal}
use Rattle.std.proofs.lemmas.Bool.Decides.{nat_tests}
use Rattle.std.proofs.lemmas.Bool.{and_parts, and_from}
use Rattle.std.proofs.lemmas.Nat.{from_be_bytes-to_be_bytes_4}
use Rattle.tac_request.specs.declared.record.AcctKind.{AcctKind}
use Rattle.tac_request.specs.declared.record.AcctKind.TheVariants.{Begin, Stop, Watch, Update}
use Rattle.tac_conn.specs.declared.reading.Asker.{Asker}
use Rattle.tac_audit.specs.declared.event.Status.{Status}
use Rattle.tac_audit.specs.declared.event.Status.TheVariants as statuses
use Rattle.tac_audit.specs.declared.event.Said.{Said}
use Rattle.tac_audit.specs.declared.event.Why.{Why}
use Rattle.tac_audit.specs.declared.event.Why.TheVariants as reasons
use Rattle.tac_audit.specs.Told.{Told, Login, Command, Account, Refused}
use Rattle.tac_audit.specs.declared.event.Origin.{Origin}
use Rattle.tac_audit.specs.Told.{Event}
use Rattle.tac_audit.specs.declared.event.Typist.{Typist}
use Rattle.tac_audit.specs.declared.event.Typist.TheVariants.{Anyone, Operator}
use Rattle.tac_audit.specs.declared.event.Typed.{Typed}
use Rattle.tac_audit.specs.Json.{text_json, optional_json, texts_json, member}
use Rattle.tac_audit.specs.Event.{status_word, why_word, kind_word, session_digits, asker_json, given_json, said_json, type_json, told_json, origin_json, begun, ended, line_of, typist_json, size_json, typed_line}
use Rattle.tac_audit.specs.Apart.{are_bytes, are_texts, is_asker, is_said, is_told, is_origin, is_typist, is_size, AreApart, AreTypedApart}
use Rattle.tac_audit.proofs.JsonApart.{optional_apart, texts_apart, IsNext, next_member, unlike, number_apart, member_apart, text_member, optional_member, hexes_are_bytes, hexes_apart}
use Rattle.tac_audit.proofs.OriginsApart.{IsAfterOrigin, origins_apart}

-- ---- words

status_bytes : (a : Status) → are_bytes (status_word a) ≡ true
status_bytes statuses.Pass = refl
status_bytes statuses.Fail = refl
status_bytes statuses.PassAdd = refl
status_bytes statuses.Success = refl
status_bytes statuses.Error = refl

-- which it is that has this word
status_at : List ℕ → Status
status_at word =
    if eqb (length word) 8 then statuses.PassAdd
    else if eqb (length word) 7 then statuses.Success
    else if eqb (length word) 5 then statuses.Error
    else if eqb (slice_index word 0) 80 then statuses.Pass
    else statuses.Fail

status_read : (a : Status) → status_at (status_word a) ≡ a
unfolding status_at
status_read statuses.Pass = refl
status_read statuses.Fail = refl
status_read statuses.PassAdd = refl
status_read statuses.Success = refl
status_read statuses.Error = refl

status_same : (a b : Status) → status_word a ≡ status_word b → a ≡ b
status_same a b e = sym (status_read a) ∙ ap status_at e ∙ status_read b

why_bytes : (a : Why) → are_bytes (why_word a) ≡ true
why_bytes reasons.BadBody = refl
why_bytes reasons.UnservedType = refl
why_bytes reasons.OutOfTurn = refl
why_bytes reasons.Aborted = refl
why_bytes reasons.BadHeader = refl

-- which it is that has this word
why_at : List ℕ → Why
why_at word =
    if eqb (length word) 8 then reasons.BadBody
    else if eqb (length word) 13 then reasons.UnservedType
    else if eqb (length word) 11 then reasons.OutOfTurn
    else if eqb (length word) 10 then reasons.BadHeader
    else reasons.Aborted

why_read : (a : Why) → why_at (why_word a) ≡ a
unfolding why_at
why_read reasons.BadBody = refl
why_read reasons.UnservedType = refl
why_read reasons.OutOfTurn = refl
why_read reasons.Aborted = refl
why_read reasons.BadHeader = refl

why_same : (a b : Why) → why_word a ≡ why_word b → a ≡ b
why_same a b e = sym (why_read a) ∙ ap why_at e ∙ why_read b

kind_bytes : (a : AcctKind) → are_bytes (kind_word a) ≡ true
kind_bytes Begin = refl
kind_bytes Stop = refl
kind_bytes Watch = refl
kind_bytes Update = refl

-- which it is that has this word
kind_at : List ℕ → AcctKind
kind_at word =
    if eqb (length word) 5 then Begin
    else if eqb (length word) 4 then Stop
    else if eqb (length word) 8 then Watch
    else Update

kind_read : (a : AcctKind) → kind_at (kind_word a) ≡ a
unfolding kind_at
kind_read Begin = refl
kind_read Stop = refl
kind_read Watch = refl
kind_read Update = refl

kind_same : (a b : AcctKind) → kind_word a ≡ kind_word b → a ≡ b
kind_same a b e = sym (kind_read a) ∙ ap kind_at e ∙ kind_read b

kinds_bytes : (a : Option AcctKind) → option_map_or are_bytes (option_map kind_word a) true ≡ true
kinds_bytes None = refl
kinds_bytes (Some a) = kind_bytes a

some_word : (a b : List ℕ) → Some a ≡ Some b → a ≡ b
some_word a b e = cc

kinds_same : (a b : Option AcctKind) → option_map kind_word a ≡ option_map kind_word b → a ≡ b
kinds_same None None e = refl
kinds_same None (Some b) e = absurd cc
kinds_same (Some a) None e = absurd cc
kinds_same (Some a) (Some b) e = ap (λ (k : AcctKind). Some k) (kind_same a b (some_word (kind_word a) (kind_word b) e))

-- ---- parts one after another

nest2 : (a b x : List ℕ) → a ++ b ++ x ≡ a ++ (b ++ x)
nest2 a b x = append_assoc a b x

nest3 : (a b c x : List ℕ) → a ++ b ++ c ++ x ≡ a ++ (b ++ (c ++ x))
nest3 a b c x = simp append_assoc

nest4 : (a b c d x : List ℕ) → a ++ b ++ c ++ d ++ x ≡ a ++ (b ++ (c ++ (d ++ x)))
nest4 a b c d x = simp append_assoc

pub nest5 : (a b c d e x : List ℕ) → a ++ b ++ c ++ d ++ e ++ x ≡ a ++ (b ++ (c ++ (d ++ (e ++ x))))
nest5 a b c d e x = simp append_assoc

nest6 : (a b c d e f x : List ℕ) → a ++ b ++ c ++ d ++ e ++ f ++ x ≡ a ++ (b ++ (c ++ (d ++ (e ++ (f ++ x)))))
nest6 a b c d e f x = simp append_assoc

texts_member : (name : List ℕ) (a b : List (List ℕ)) (x y : List ℕ) → are_texts a ≡ true → are_texts b ≡ true → member name (texts_json a) ++ x ≡ member name (texts_json b) ++ y → (a ≡ b) × (x ≡ y)
texts_member name a b x y h k same = texts_apart a b x y h k (member_apart name (texts_json a) (texts_json b) x y same)

small_byte : (n : ℕ) → nat_lt n 256 ≡ true → n < 256
small_byte n h = grind (arith, nat_tests)

-- a number, which another member follows
below : (n : ℕ) → n < 256 → n < 2 ^ 64
below n h = omega arith

number_member : (name : List ℕ) (m n : ℕ) (x y : List ℕ) → nat_lt m 256 ≡ true → nat_lt n 256 ≡ true → IsNext x → IsNext y
    → member name (decimal m) ++ x ≡ member name (decimal n) ++ y → (m ≡ n) × (x ≡ y)
number_member name m n x y h k next_x next_y same =
    number_apart m n x y (below m (small_byte m h)) (below n (small_byte n k)) next_x next_y (member_apart name (decimal m) (decimal n) x y same)

-- ---- who asks

asker_parts : (a b : Asker) → a.user ≡ b.user → a.port ≡ b.port → a.from ≡ b.from → a.privilege ≡ b.privilege → a.service ≡ b.service → a ≡ b
asker_parts a b user port from privilege service =
    ap (λ (x : List ℕ). record a { user = x }) user
    ∙ ap (λ (x : List ℕ). record { user = b.user; port = x; from = a.from; privilege = a.privilege; service = a.service }) port
    ∙ ap (λ (x : List ℕ). record { user = b.user; port = b.port; from = x; privilege = a.privilege; service = a.service }) from
    ∙ ap (λ (x : ℕ). record { user = b.user; port = b.port; from = b.from; privilege = x; service = a.service }) privilege
    ∙ ap (λ (x : ℕ). record b { service = x }) service

IsAsker : Asker → Type 0
IsAsker a = (are_bytes a.user ≡ true) × (are_bytes a.port ≡ true) × (are_bytes a.from ≡ true) × (nat_lt a.privilege 256 ≡ true) × (nat_lt a.service 256 ≡ true)

asker_known : (a : Asker) → is_asker a ≡ true → IsAsker a
unfolding IsAsker
asker_known a h =
    let p = and_parts (are_bytes a.user && are_bytes a.port && are_bytes a.from && nat_lt a.privilege 256) (nat_lt a.service 256) h in
    let q = and_parts (are_bytes a.user && are_bytes a.port && are_bytes a.from) (nat_lt a.privilege 256) p.0 in
    let r = and_parts (are_bytes a.user && are_bytes a.port) (are_bytes a.from) q.0 in
    let s = and_parts (are_bytes a.user) (are_bytes a.port) r.0 in
    (s.0, s.1, r.1, q.1, p.1)

asker_is : (a : Asker) (x : List ℕ) → asker_json a ++ x
    ≡ member (codes "user") (text_json a.user) ++ (member (codes "port") (text_json a.port) ++ (member (codes "from") (text_json a.from)
    ++ (member (codes "privilege") (decimal a.privilege) ++ (member (codes "service") (decimal a.service) ++ x))))
unfolding asker_json
asker_is a x = nest5 (member (codes "user") (text_json a.user)) (member (codes "port") (text_json a.port)) (member (codes "from") (text_json a.from))
    (member (codes "privilege") (decimal a.privilege)) (member (codes "service") (decimal a.service)) x

-- who asks, where another member follows
askers_apart : (a b : Asker) (x y : List ℕ) → is_asker a ≡ true → is_asker b ≡ true → IsNext x → IsNext y → asker_json a ++ x ≡ asker_json b ++ y → (a ≡ b) × (x ≡ y)
unfolding IsAsker
askers_apart a b x y h k next_x next_y same =
    let here = asker_known a h in
    let there = asker_known b k in
    let user = text_member (codes "user") a.user b.user _ _ here.0 there.0 (sym (asker_is a x) ∙ same ∙ asker_is b y) in
    let port = text_member (codes "port") a.port b.port _ _ here.1 there.1 user.1 in
    let from = text_member (codes "from") a.from b.from _ _ here.2 there.2 port.1 in
    let privilege = number_member (codes "privilege") a.privilege b.privilege _ _ here.3 there.3
    (next_member (codes "service") (decimal a.service) x) (next_member (codes "service") (decimal b.service) y) from.1 in
    let service = number_member (codes "service") a.service b.service x y here.4 there.4 next_x next_y privilege.1 in
    (asker_parts a b user.0 port.0 from.0 privilege.0 service.0, service.1)

-- ---- what is said

-- the object ends here
abbrev IsLast : List ℕ → Type 0
IsLast x = x ≡ 0x7D ∷ drop 1 x

ended_last : IsLast ended
unfolding ended
ended_last = refl

-- what is given, or nothing, at the end
given_apart : (a b : List (List ℕ)) (x y : List ℕ) → are_texts a ≡ true → are_texts b ≡ true → IsLast x → IsLast y → given_json a ++ x ≡ given_json b ++ y → (a ≡ b) × (x ≡ y)
unfolding member
given_apart [] [] x y h k last_x last_y same = (refl, same)
given_apart [] (t ∷ b) x y h k last_x last_y same =
    absurd (unlike 0x7D 0x2C refl (sym (ap (λ (l : List ℕ). slice_index l 0) last_x) ∙ ap (λ (l : List ℕ). slice_index l 0) same))
given_apart (s ∷ a) [] x y h k last_x last_y same =
    absurd (unlike 0x2C 0x7D refl (ap (λ (l : List ℕ). slice_index l 0) same ∙ ap (λ (l : List ℕ). slice_index l 0) last_y))
given_apart (s ∷ a) (t ∷ b) x y h k last_x last_y same = texts_member (codes "given") (s ∷ a) (t ∷ b) x y h k same

said_parts : (a b : Said) → a.status ≡ b.status → a.text ≡ b.text → a.given ≡ b.given → a ≡ b
said_parts a b status text given =
    ap (λ (x : Status). record a { status = x }) status
    ∙ ap (λ (x : List ℕ). record { status = b.status; text = x; given = a.given }) text
    ∙ ap (λ (x : List (List ℕ)). record b { given = x }) given

said_is : (a : Said) (x : List ℕ) → said_json a ++ x
    ≡ member (codes "status") (text_json (status_word a.status)) ++ (member (codes "text") (text_json a.text) ++ (given_json a.given ++ x))
unfolding said_json
said_is a x = nest3 (member (codes "status") (text_json (status_word a.status))) (member (codes "text") (text_json a.text)) (given_json a.given) x

next_said : (a : Said) (x : List ℕ) → IsNext (said_json a ++ x)
unfolding said_json
next_said a x =
    said_is a x ∙ next_member (codes "status") (text_json (status_word a.status)) (member (codes "text") (text_json a.text) ++ (given_json a.given ++ x))
    ∙ ap (λ (r : List ℕ). 0x2C ∷ drop 1 r) (sym (said_is a x))

-- what is said, at the end
saids_apart : (a b : Said) (x y : List ℕ) → is_said a ≡ true → is_said b ≡ true → IsLast x → IsLast y → said_json a ++ x ≡ said_json b ++ y → (a ≡ b) × (x ≡ y)
saids_apart a b x y h k last_x last_y same =
    let here = and_parts (are_bytes a.text) (are_texts a.given) h in
    let there = and_parts (are_bytes b.text) (are_texts b.given) k in
    let status = text_member (codes "status") (status_word a.status) (status_word b.status) _ _ (status_bytes a.status) (status_bytes b.status)
    (sym (said_is a x) ∙ same ∙ said_is b y) in
    let text = text_member (codes "text") a.text b.text _ _ here.0 there.0 status.1 in
    let given = given_apart a.given b.given x y here.1 there.1 last_x last_y text.1 in
    (said_parts a b (status_same a.status b.status status.0) text.0 given.0, given.1)

-- ---- what is told

word_of : Told → List ℕ
word_of (Login asker said) = codes "login"
word_of (Command asker arguments line said) = codes "command"
word_of (Account asker kind task arguments said) = codes "account"
word_of (Refused why) = codes "refused"

-- the members after the type, and what follows
rest_of : Told → List ℕ → List ℕ
rest_of (Login asker said) x = asker_json asker ++ (said_json said ++ x)
rest_of (Command asker arguments line said) x =
    asker_json asker ++ (member (codes "arguments") (texts_json arguments) ++ (member (codes "line") (optional_json line) ++ (said_json said ++ x)))
rest_of (Account asker kind task arguments said) x =
    asker_json asker ++ (member (codes "kind") (optional_json (option_map kind_word kind)) ++ (member (codes "task") (text_json task)
    ++ (member (codes "arguments") (texts_json arguments) ++ (said_json said ++ x))))
rest_of (Refused why) x = member (codes "why") (text_json (why_word why)) ++ x

word_bytes : (told : Told) → are_bytes (word_of told) ≡ true
unfolding word_of
word_bytes (Login asker said) = refl
word_bytes (Command asker arguments line said) = refl
word_bytes (Account asker kind task arguments said) = refl
word_bytes (Refused why) = refl

told_is : (told : Told) (x : List ℕ) → told_json told ++ x ≡ type_json (word_of told) ++ rest_of told x
unfolding word_of rest_of
told_is (Login asker said) x = nest3 (type_json (codes "login")) (asker_json asker) (said_json said) x
told_is (Command asker arguments line said) x =
    nest5 (type_json (codes "command")) (asker_json asker) (member (codes "arguments") (texts_json arguments)) (member (codes "line") (optional_json line)) (said_json said) x
told_is (Account asker kind task arguments said) x =
    nest6 (type_json (codes "account")) (asker_json asker) (member (codes "kind") (optional_json (option_map kind_word kind))) (member (codes "task") (text_json task))
    (member (codes "arguments") (texts_json arguments)) (said_json said) x
told_is (Refused why) x = nest2 (type_json (codes "refused")) (member (codes "why") (text_json (why_word why))) x

logins_apart : (asker asker' : Asker) (said said' : Said) (x y : List ℕ) → is_told (Login asker said) ≡ true → is_told (Login asker' said') ≡ true → IsLast x → IsLast y
    → rest_of (Login asker said) x ≡ rest_of (Login asker' said') y → (Login asker said ≡ Login asker' said') × (x ≡ y)
unfolding rest_of
logins_apart asker asker' said said' x y h k last_x last_y same =
    let here = and_parts (is_asker asker) (is_said said) h in
    let there = and_parts (is_asker asker') (is_said said') k in
    let first = askers_apart asker asker' _ _ here.0 there.0 (next_said said x) (next_said said' y) same in
    let last = saids_apart said said' x y here.1 there.1 last_x last_y first.1 in
    let same_asker = first.0 in
    let same_said = last.0 in
    (cc, last.1)

commands_apart : (asker asker' : Asker) (arguments arguments' : List (List ℕ)) (line line' : Option (List ℕ)) (said said' : Said) (x y : List ℕ)
    → is_told (Command asker arguments line said) ≡ true → is_told (Command asker' arguments' line' said') ≡ true → IsLast x → IsLast y
    → rest_of (Command asker arguments line said) x ≡ rest_of (Command asker' arguments' line' said') y
    → (Command asker arguments line said ≡ Command asker' arguments' line' said') × (x ≡ y)
unfolding rest_of
commands_apart asker asker' arguments arguments' line line' said said' x y h k last_x last_y same =
    let h1 = and_parts (is_asker asker && are_texts arguments && option_map_or are_bytes line true) (is_said said) h in
    let k1 = and_parts (is_asker asker' && are_texts arguments' && option_map_or are_bytes line' true) (is_said said') k in
    let h2 = and_parts (is_asker asker && are_texts arguments) (option_map_or are_bytes line true) h1.0 in
    let k2 = and_parts (is_asker asker' && are_texts arguments') (option_map_or are_bytes line' true) k1.0 in
    let h3 = and_parts (is_asker asker) (are_texts arguments) h2.0 in
    let k3 = and_parts (is_asker asker') (are_texts arguments') k2.0 in
    let first = askers_apart asker asker' _ _ h3.0 k3.0 (next_member (codes "arguments") (texts_json arguments) _) (next_member (codes "arguments") (texts_json arguments') _) same in
    let listed = texts_member (codes "arguments") arguments arguments' _ _ h3.1 k3.1 first.1 in
    let lined = optional_member (codes "line") line line' _ _ h2.1 k2.1 listed.1 in
    let last = saids_apart said said' x y h1.1 k1.1 last_x last_y lined.1 in
    let same_asker = first.0 in
    let same_arguments = listed.0 in
    let same_line = lined.0 in
    let same_said = last.0 in
    (cc, last.1)

accounts_apart : (asker asker' : Asker) (kind kind' : Option AcctKind) (task task' : List ℕ) (arguments arguments' : List (List ℕ)) (said said' : Said) (x y : List ℕ)
    → is_told (Account asker kind task arguments said) ≡ true → is_told (Account asker' kind' task' arguments' said') ≡ true → IsLast x → IsLast y
    → rest_of (Account asker kind task arguments said) x ≡ rest_of (Account asker' kind' task' arguments' said') y
    → (Account asker kind task arguments said ≡ Account asker' kind' task' arguments' said') × (x ≡ y)
unfolding rest_of
accounts_apart asker asker' kind kind' task task' arguments arguments' said said' x y h k last_x last_y same =
    let h1 = and_parts (is_asker asker && are_bytes task && are_texts arguments) (is_said said) h in
    let k1 = and_parts (is_asker asker' && are_bytes task' && are_texts arguments') (is_said said') k in
    let h2 = and_parts (is_asker asker && are_bytes task) (are_texts arguments) h1.0 in
    let k2 = and_parts (is_asker asker' && are_bytes task') (are_texts arguments') k1.0 in
    let h3 = and_parts (is_asker asker) (are_bytes task) h2.0 in
    let k3 = and_parts (is_asker asker') (are_bytes task') k2.0 in
    let first = askers_apart asker asker' _ _ h3.0 k3.0 (next_member (codes "kind") (optional_json (option_map kind_word kind)) _) (next_member (codes "kind") (optional_json (option_map kind_word kind')) _) same in
    let kinds = optional_member (codes "kind") (option_map kind_word kind) (option_map kind_word kind') _ _ (kinds_bytes kind) (kinds_bytes kind') first.1 in
    let tasks = text_member (codes "task") task task' _ _ h3.1 k3.1 kinds.1 in
    let listed = texts_member (codes "arguments") arguments arguments' _ _ h2.1 k2.1 tasks.1 in
    let last = saids_apart said said' x y h1.1 k1.1 last_x last_y listed.1 in
    let same_asker = first.0 in
    let same_kind = kinds_same kind kind' kinds.0 in
    let same_task = tasks.0 in
    let same_arguments = listed.0 in
    let same_said = last.0 in
    (cc, last.1)

refusals_apart : (why why' : Why) (x y : List ℕ) → rest_of (Refused why) x ≡ rest_of (Refused why') y → (Refused why ≡ Refused why') × (x ≡ y)
unfolding rest_of
refusals_apart why why' x y same =
    let parts = text_member (codes "why") (why_word why) (why_word why') x y (why_bytes why) (why_bytes why') same in
    let same_why = why_same why why' parts.0 in
    (cc, parts.1)

-- of one type
alike_apart : (a b : Told) (x y : List ℕ) → is_told a ≡ true → is_told b ≡ true → IsLast x → IsLast y → word_of a ≡ word_of b → rest_of a x ≡ rest_of b y → (a ≡ b) × (x ≡ y)
unfolding word_of
alike_apart (Login asker said) (Login asker' said') x y h k last_x last_y word same = logins_apart asker asker' said said' x y h k last_x last_y same
alike_apart (Login asker said) (Command asker' arguments' line' said') x y h k last_x last_y word same = absurd (unlike 108 99 refl (ap (λ (w : List ℕ). slice_index w 0) word))
alike_apart (Login asker said) (Account asker' kind' task' arguments' said') x y h k last_x last_y word same = absurd (unlike 108 97 refl (ap (λ (w : List ℕ). slice_index w 0) word))
alike_apart (Login asker said) (Refused why') x y h k last_x last_y word same = absurd (unlike 108 114 refl (ap (λ (w : List ℕ). slice_index w 0) word))
alike_apart (Command asker arguments line said) (Login asker' said') x y h k last_x last_y word same = absurd (unlike 99 108 refl (ap (λ (w : List ℕ). slice_index w 0) word))
alike_apart (Command asker arguments line said) (Command asker' arguments' line' said') x y h k last_x last_y word same = commands_apart asker asker' arguments arguments' line line' said said' x y h k last_x last_y same
alike_apart (Command asker arguments line said) (Account asker' kind' task' arguments' said') x y h k last_x last_y word same = absurd (unlike 99 97 refl (ap (λ (w : List ℕ). slice_index w 0) word))
alike_apart (Command asker arguments line said) (Refused why') x y h k last_x last_y word same = absurd (unlike 99 114 refl (ap (λ (w : List ℕ). slice_index w 0) word))
alike_apart (Account asker kind task arguments said) (Login asker' said') x y h k last_x last_y word same = absurd (unlike 97 108 refl (ap (λ (w : List ℕ). slice_index w 0) word))
alike_apart (Account asker kind task arguments said) (Command asker' arguments' line' said') x y h k last_x last_y word same = absurd (unlike 97 99 refl (ap (λ (w : List ℕ). slice_index w 0) word))
alike_apart (Account asker kind task arguments said) (Account asker' kind' task' arguments' said') x y h k last_x last_y word same = accounts_apart asker asker' kind kind' task task' arguments arguments' said said' x y h k last_x last_y same
alike_apart (Account asker kind task arguments said) (Refused why') x y h k last_x last_y word same = absurd (unlike 97 114 refl (ap (λ (w : List ℕ). slice_index w 0) word))
alike_apart (Refused why) (Login asker' said') x y h k last_x last_y word same = absurd (unlike 114 108 refl (ap (λ (w : List ℕ). slice_index w 0) word))
alike_apart (Refused why) (Command asker' arguments' line' said') x y h k last_x last_y word same = absurd (unlike 114 99 refl (ap (λ (w : List ℕ). slice_index w 0) word))
alike_apart (Refused why) (Account asker' kind' task' arguments' said') x y h k last_x last_y word same = absurd (unlike 114 97 refl (ap (λ (w : List ℕ). slice_index w 0) word))
alike_apart (Refused why) (Refused why') x y h k last_x last_y word same = refusals_apart why why' x y same

told_apart : (a b : Told) (x y : List ℕ) → is_told a ≡ true → is_told b ≡ true → IsLast x → IsLast y → told_json a ++ x ≡ told_json b ++ y → (a ≡ b) × (x ≡ y)
unfolding type_json
told_apart a b x y h k last_x last_y same =
    let parts = text_member (codes "type") (word_of a) (word_of b) (rest_of a x) (rest_of b y) (word_bytes a) (word_bytes b) (sym (told_is a x) ∙ same ∙ told_is b y) in
    alike_apart a b x y h k last_x last_y parts.0 parts.1

-- ---- sessions

rest_small : (n : ℕ) → nat_lt (n % 256) 256 ≡ true
rest_small n = let small : n % 256 < 256 = omega arith in grind (arith, nat_tests)

be_are_bytes : (n : ℕ) → are_bytes (to_be_bytes w32 n) ≡ true
be_are_bytes n =
    and_from _ _ (rest_small (n / 16777216)) (and_from _ _ (rest_small (n / 65536)) (and_from _ _ (rest_small (n / 256)) (and_from _ true (rest_small n) refl)))

digits_are_bytes : (n : ℕ) → are_bytes (session_digits n) ≡ true
unfolding session_digits
digits_are_bytes n = hexes_are_bytes (to_be_bytes w32 n) (be_are_bytes n)

sessions_apart : (m n : ℕ) → m < 2 ^ 32 → n < 2 ^ 32 → session_digits m ≡ session_digits n → m ≡ n
unfolding session_digits
sessions_apart m n small_m small_n same =
    sym (from_be_bytes-to_be_bytes_4 m small_m) ∙ ap (from_be_bytes w32) (hexes_apart (to_be_bytes w32 m) (to_be_bytes w32 n) (be_are_bytes m) (be_are_bytes n) same)
    ∙ from_be_bytes-to_be_bytes_4 n small_n

small_session : (n : ℕ) → nat_lt n (2 ^ 32) ≡ true → n < 2 ^ 32
small_session n h = grind (arith, nat_tests)

-- ---- lines

pub begun_apart : (a b : Option (List ℕ)) (x y : List ℕ) → option_map_or are_bytes a true ≡ true → option_map_or are_bytes b true ≡ true → begun a ++ x ≡ begun b ++ y → (a ≡ b) × (x ≡ y)
unfolding begun
begun_apart a b x y h k same = optional_apart a b x y h k (ap (drop 8) same)

event_parts : (a b : Event) → a.time ≡ b.time → a.origin ≡ b.origin → a.session ≡ b.session → a.told ≡ b.told → a ≡ b
event_parts a b time origin session told =
    ap (λ (x : Option (List ℕ)). record a { time = x }) time
    ∙ ap (λ (x : Origin). record { time = b.time; origin = x; session = a.session; told = a.told }) origin
    ∙ ap (λ (x : ℕ). record { time = b.time; origin = b.origin; session = x; told = a.told }) session
    ∙ ap (λ (x : Told). record b { told = x }) told

pub line_is : (e : Event) → line_of e ≡ begun e.time ++ (origin_json e.origin ++ (member (codes "session") (text_json (session_digits e.session)) ++ (told_json e.told ++ ended)))
line_is e = nest4 (begun e.time) (origin_json e.origin) (member (codes "session") (text_json (session_digits e.session))) (told_json e.told) ended

-- after where an event comes from, its session follows
pub before_session : (value x : List ℕ) → IsAfterOrigin (member (codes "session") value ++ x)
unfolding member IsAfterOrigin
before_session value x = (refl, refl, refl)

pub events_apart : (a b : Event) → AreApart a b
events_apart a b h k same =
    let h1 = and_parts (option_map_or are_bytes a.time true && is_origin a.origin && nat_lt a.session (2 ^ 32)) (is_told a.told) h in
    let k1 = and_parts (option_map_or are_bytes b.time true && is_origin b.origin && nat_lt b.session (2 ^ 32)) (is_told b.told) k in
    let h2 = and_parts (option_map_or are_bytes a.time true && is_origin a.origin) (nat_lt a.session (2 ^ 32)) h1.0 in
    let k2 = and_parts (option_map_or are_bytes b.time true && is_origin b.origin) (nat_lt b.session (2 ^ 32)) k1.0 in
    let h3 = and_parts (option_map_or are_bytes a.time true) (is_origin a.origin) h2.0 in
    let k3 = and_parts (option_map_or are_bytes b.time true) (is_origin b.origin) k2.0 in
    let times = begun_apart a.time b.time _ _ h3.0 k3.0 (sym (line_is a) ∙ same ∙ line_is b) in
    let origins = origins_apart a.origin b.origin _ _ h3.1 k3.1 (before_session (text_json (session_digits a.session)) _) (before_session (text_json (session_digits b.session)) _) times.1 in
    let sessions = text_member (codes "session") (session_digits a.session) (session_digits b.session) _ _ (digits_are_bytes a.session) (digits_are_bytes b.session) origins.1 in
    let told = told_apart a.told b.told ended ended h1.1 k1.1 ended_last ended_last sessions.1 in
    event_parts a b times.0 origins.0 (sessions_apart a.session b.session (small_session a.session h2.1) (small_session b.session k2.1) sessions.0) told.0

small_size : (n : ℕ) → nat_lt n (2 ^ 64) ≡ true → n < 2 ^ 64
small_size n h = grind (arith, nat_tests)

-- a size, or none, before an answer
sizes_apart : (a b : Option ℕ) (v w x y : List ℕ) → is_size a ≡ true → is_size b ≡ true
    → size_json a ++ (member (codes "answer") v ++ x) ≡ size_json b ++ (member (codes "answer") w ++ y)
    → (a ≡ b) × (member (codes "answer") v ++ x ≡ member (codes "answer") w ++ y)
unfolding member
sizes_apart None None v w x y h k same = (refl, same)
sizes_apart None (Some n) v w x y h k same = absurd (unlike 0x22 0x5F refl (ap (λ (l : List ℕ). slice_index l 8) same))
sizes_apart (Some m) None v w x y h k same = absurd (unlike 0x5F 0x22 refl (ap (λ (l : List ℕ). slice_index l 8) same))
sizes_apart (Some m) (Some n) v w x y h k same =
    let parts = number_apart m n (member (codes "answer") v ++ x) (member (codes "answer") w ++ y) (small_size m h) (small_size n k)
    (next_member (codes "answer") v x) (next_member (codes "answer") w y)
    (member_apart (codes "answer_bytes") (decimal m) (decimal n) (member (codes "answer") v ++ x) (member (codes "answer") w ++ y) same) in
    (ap (λ (size : ℕ). Some size) parts.0, parts.1)

-- who typed, or nobody, before a line
typists_apart : (a b : Typist) (v w x y : List ℕ) → is_typist a ≡ true → is_typist b ≡ true
    → typist_json a ++ (member (codes "console") v ++ x) ≡ typist_json b ++ (member (codes "console") w ++ y)
    → (a ≡ b) × (member (codes "console") v ++ x ≡ member (codes "console") w ++ y)
unfolding member
typists_apart Anyone Anyone v w x y h k same = (refl, same)
typists_apart Anyone (Operator n) v w x y h k same = absurd (unlike 0x63 0x6F refl (ap (λ (l : List ℕ). slice_index l 2) same))
typists_apart (Operator m) Anyone v w x y h k same = absurd (unlike 0x6F 0x63 refl (ap (λ (l : List ℕ). slice_index l 2) same))
typists_apart (Operator m) (Operator n) v w x y h k same =
    let parts = optional_member (codes "operator") m n (member (codes "console") v ++ x) (member (codes "console") w ++ y) h k same in
    (ap (λ (name : Option (List ℕ)). Operator name) parts.0, parts.1)

typed_parts : (a b : Typed) → a.time ≡ b.time → a.typist ≡ b.typist → a.console ≡ b.console → a.answer_bytes ≡ b.answer_bytes → a.answer ≡ b.answer → a ≡ b
typed_parts a b time typist console size answer =
    ap (λ (x : List ℕ). record a { time = x }) time
    ∙ ap (λ (x : Typist). record { time = b.time; typist = x; console = a.console; answer_bytes = a.answer_bytes; answer = a.answer }) typist
    ∙ ap (λ (x : List ℕ). record { time = b.time; typist = b.typist; console = x; answer_bytes = a.answer_bytes; answer = a.answer }) console
    ∙ ap (λ (x : Option ℕ). record { time = b.time; typist = b.typist; console = b.console; answer_bytes = x; answer = a.answer }) size
    ∙ ap (λ (x : List (List ℕ)). record b { answer = x }) answer

typed_is : (t : Typed) → typed_line t ≡ begun (Some t.time) ++ (typist_json t.typist ++ (member (codes "console") (text_json t.console) ++ (size_json t.answer_bytes ++ (member (codes "answer") (texts_json t.answer) ++ ended))))
typed_is t = nest5 (begun (Some t.time)) (typist_json t.typist) (member (codes "console") (text_json t.console)) (size_json t.answer_bytes) (member (codes "answer") (texts_json t.answer)) ended

pub typed_apart : (a b : Typed) → AreTypedApart a b
typed_apart a b h k same =
    let h1 = and_parts (are_bytes a.time && is_typist a.typist && are_bytes a.console && is_size a.answer_bytes) (are_texts a.answer) h in
    let k1 = and_parts (are_bytes b.time && is_typist b.typist && are_bytes b.console && is_size b.answer_bytes) (are_texts b.answer) k in
    let h2 = and_parts (are_bytes a.time && is_typist a.typist && are_bytes a.console) (is_size a.answer_bytes) h1.0 in
    let k2 = and_parts (are_bytes b.time && is_typist b.typist && are_bytes b.console) (is_size b.answer_bytes) k1.0 in
    let h3 = and_parts (are_bytes a.time && is_typist a.typist) (are_bytes a.console) h2.0 in
    let k3 = and_parts (are_bytes b.time && is_typist b.typist) (are_bytes b.console) k2.0 in
    let h4 = and_parts (are_bytes a.time) (is_typist a.typist) h3.0 in
    let k4 = and_parts (are_bytes b.time) (is_typist b.typist) k3.0 in
    let times = begun_apart (Some a.time) (Some b.time) _ _ h4.0 k4.0 (sym (typed_is a) ∙ same ∙ typed_is b) in
    let time : a.time ≡ b.time = (let both = times.0 in cc) in
    let typists = typists_apart a.typist b.typist (text_json a.console) (text_json b.console) _ _ h4.1 k4.1 times.1 in
    let consoles = text_member (codes "console") a.console b.console _ _ h3.1 k3.1 typists.1 in
    let sizes = sizes_apart a.answer_bytes b.answer_bytes (texts_json a.answer) (texts_json b.answer) ended ended h2.1 k2.1 consoles.1 in
    let answers = texts_member (codes "answer") a.answer b.answer ended ended h1.1 k1.1 sizes.1 in
    typed_parts a b time typists.0 consoles.0 sizes.0 answers.0
