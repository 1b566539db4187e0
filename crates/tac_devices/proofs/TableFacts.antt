-- In the devices of a text no prefix stands twice, and no bit is set after one.
use Rattle.std.proofs.Common.{◌≡◌, ◌≤◌, ◌<◌, arith, ℕ, ◌+◌, Bool, true, false, cond, not, ◌||◌, ◌&&◌, codes, IfOk, List, [], ◌∷◌, ◌++◌, length, map, nat_le, find, Option, Some, None, Result, Ok, Err, All, refl, subst, sym, ap, ◌∙◌, append_assoc, append-nil}
use Rattle.std.proofs.lemmas.Bool.Decides.{nat_tests}
use Rattle.std.proofs.lemmas.List.{map-append, length-append}
use Rattle.std.proofs.lemmas.List.Elements.{All-nil, All-cons, All-head, All-tail, All-push}
use Rattle.std.specs.Option.{option_map_or}
use Rattle.std.specs.List.{list_any}
use Rattle.basics.specs.Lines.{lines_of, split_at_first, without_leading_spaces}
use Rattle.basics.specs.Symbol.{is_text}
use Rattle.std.specs.Str.{bytes_eq}
use Rattle.tac_devices.specs.declared.said.Said.{Said}
use Rattle.tac_devices.specs.declared.said.Said.TheVariants as said
use Rattle.tac_devices.specs.declared.device.Device.{Device}
use Rattle.tac_devices.specs.declared.device.Place.{Place}
use Rattle.tac_devices.specs.declared.draft.Entry.{Entry}
use Rattle.tac_devices.specs.declared.draft.KeyLine.{KeyLine}
use Rattle.tac_devices.specs.declared.draft.Draft.{Draft}
use Rattle.tac_devices.specs.declared.fault.DevicesRefusal.{DevicesRefusal}
use Rattle.tac_devices.specs.declared.fault.DevicesRefusal.TheVariants.{Repeated, Limit, NoKey, NoAddress}
use Rattle.tac_devices.specs.declared.fault.DevicesFault.{DevicesFault}
use Rattle.tac_devices.specs.declared.fault.DevicesFault.TheVariants.{Refused}
use Rattle.tac_devices.specs.Prefix.{Range, same_prefix, IsBare, Reads}
use Rattle.tac_devices.specs.Line.{Where, SaysTrimmed, SaysParts, is_blank, is_field, said_by, said_alone, connections_of}
use Rattle.tac_devices.specs.Tls.{tls_of}
use Rattle.tac_devices.specs.declared.device.Tls.{Tls}
use Rattle.tac_devices.specs.declared.device.Tls.TheVariants.{Any}
use Rattle.pol_names.specs.Name.{name_of}
use Rattle.tac_wire.specs.Key.{key_of}
use Rattle.tac_devices.specs.Text.{◌>>=◌, whole, empty, with_device, for_present, with_present, place_given, with_prefix, set_once, same_keys, keys_apart, with_key, with_old_key, with_tls, with_connections, with_said}
use Rattle.tac_devices.specs.Text.{Follows, Makes, device_of, devices_of, has_way, has_place, checked, finished, IsText, UnlessMemory, max_devices, max_prefixes}
use Rattle.tac_devices.specs.Devices.{Spot, spots, spots_of, Apart, prefixes_of, IsTable}

-- ---- the prefixes of devices of which more may be said

abbrev ranges : List Place → List Range
ranges places = map (λ (place : Place). place.prefix) places

abbrev prefixes_in : List Entry → List Range
prefixes_in [] = []
prefixes_in (entry ∷ entries) = ranges entry.places ++ prefixes_in entries

in_append : (xs ys : List Entry) → prefixes_in (xs ++ ys) ≡ prefixes_in xs ++ prefixes_in ys
in_append [] ys = refl
in_append (x ∷ xs) ys =
    ap (λ (l : List Range). ranges x.places ++ l) (in_append xs ys) ∙ sym (append_assoc (ranges x.places) (prefixes_in xs) (prefixes_in ys))

in_push : (xs : List Entry) (x : Entry) → prefixes_in (xs ++ x ∷ []) ≡ prefixes_in xs ++ ranges x.places
in_push xs x = in_append xs (x ∷ []) ∙ ap (λ (l : List Range). prefixes_in xs ++ l) (append-nil (ranges x.places))

abbrev Bare : Range → Type 0
Bare prefix = IsBare prefix.address prefix.length

-- ---- one prefix more

all_unlike : (p : Range) (xs : List Range) → list_any (same_prefix p) xs ≡ false → All (λ (x : Range). same_prefix p x ≡ false) xs
all_unlike p [] none = All-nil (λ (x : Range). same_prefix p x ≡ false)
all_unlike p (x ∷ xs) none = by (all_unlike p xs) (same_prefix p x) refl none
  where
    by : (list_any (same_prefix p) xs ≡ false → All (λ (x : Range). same_prefix p x ≡ false) xs) → (t : Bool) → same_prefix p x ≡ t → (t || list_any (same_prefix p) xs) ≡ false → All (λ (x : Range). same_prefix p x ≡ false) (x ∷ xs)
    by rest true e h = absurd (cc)
    by rest false e h = All-cons (λ (x : Range). same_prefix p x ≡ false) x xs e (rest h)

apart_push : (xs : List Range) (p : Range) → Apart xs → All (λ (x : Range). same_prefix p x ≡ false) xs → Apart (xs ++ p ∷ [])
apart_push [] p h none = (All-nil (λ (other : Range). same_prefix other p ≡ false), tt)
apart_push (x ∷ xs) p h none =
    (All-push (λ (other : Range). same_prefix other x ≡ false) xs p h.0 (All-head (λ (y : Range). same_prefix p y ≡ false) x xs none), apart_push xs p h.1 (All-tail (λ (y : Range). same_prefix p y ≡ false) x xs none))

-- ---- a draft

record Right (draft : Draft) : Type 0 where
  all : prefixes_in (whole draft) ≡ draft.prefixes
  apart : Apart draft.prefixes
  bare : All Bare draft.prefixes
  few : length draft.prefixes ≤ max_prefixes

abbrev BareSaid : Said → Type 0
BareSaid (said.At (Some prefix)) = Bare prefix
BareSaid _ = Unit {0}

right_empty : Right empty
right_empty = record { all = refl; apart = tt; bare = All-nil Bare; few = omega arith }

abbrev good : Draft → Result Draft DevicesRefusal
good draft = Ok draft

ok_same : (a b : Draft) → good a ≡ good b → a ≡ b
ok_same a b e = cc

-- a setting that leaves the places as they are
right_present : (change : Entry → Result Entry DevicesRefusal) → ((entry next : Entry) → change entry ≡ Ok next → next.places ≡ entry.places)
    → (done : List Entry) (present : Option Entry) (names : List (List ℕ)) (prefixes : List Range) (next : Draft)
    → Right (record { done = done; present = present; names = names; prefixes = prefixes }) → with_present change (record { done = done; present = present; names = names; prefixes = prefixes }) ≡ Ok next → Right next
right_present change keeps done None names prefixes next right e = absurd (cc)
right_present change keeps done (Some entry) names prefixes next right e = by (change entry) refl e
  where
    by : (r : Result Entry DevicesRefusal) → change entry ≡ r
        → (r >>= λ entry. Ok (record { done = done; present = Some entry; names = names; prefixes = prefixes })) ≡ Ok next → Right next
    by (Err refusal) made h = absurd (cc)
    by (Ok changed) made h =
        subst Right (ok_same _ next h) (record {
          all = in_push done changed ∙ ap (λ (l : List Place). prefixes_in done ++ ranges l) (keeps entry changed made) ∙ sym (in_push done entry) ∙ right.all;
          apart = right.apart;
          bare = right.bare;
          few = right.few;
        })

right_device : (line : ℕ) (name : List ℕ) (draft next : Draft) → Right draft → with_device line name draft ≡ Ok next → Right next
unfolding with_device
right_device line name draft next right e = by (list_any (bytes_eq name) draft.names) (nat_le max_devices (length (whole draft))) e
  where
    made : Draft
    made =
        record draft {
          done = whole draft;
          present = Some (record { name = name; line = line; places = []; key = None; old_key = None; tls = None; tls_line = None; connections = None });
          names = draft.names ++ name ∷ [];
        }

    by : (s t : Bool) → cond s (Err Repeated) (cond t (Err Limit) (Ok made)) ≡ Ok next → Right next
    by true t h = absurd (cc)
    by false true h = absurd (cc)
    by false false h =
        subst Right (ok_same made next h) (record {
          all = in_push (whole draft) (record { name = name; line = line; places = []; key = None; old_key = None; tls = None; tls_line = None; connections = None }) ∙ append-nil (prefixes_in (whole draft)) ∙ right.all;
          apart = right.apart;
          bare = right.bare;
          few = right.few;
        })

-- ---- a setting keeps the places

abbrev places_if : Result Entry DevicesRefusal → List Place
places_if (Ok entry) = entry.places
places_if (Err refusal) = []

apart_keeps : (entry next : Entry) → keys_apart entry ≡ Ok next → next.places ≡ entry.places
apart_keeps entry next e = by (same_keys entry.key entry.old_key) e
  where
    by : (t : Bool) → cond t (Err Repeated) (Ok entry) ≡ Ok next → next.places ≡ entry.places
    by true h = absurd (cc)
    by false h = sym (ap places_if h)

key_keeps : (line : ℕ) (key : Option (List ℕ)) (entry next : Entry) → with_key line key entry ≡ Ok next → next.places ≡ entry.places
key_keeps line None entry next e = absurd (cc)
key_keeps line (Some key) entry next e = by entry.key e
  where
    by : (old : Option KeyLine) → (set_once (Some key) old (λ key. record entry { key = Some (record { key = key; line = line }) }) >>= keys_apart) ≡ Ok next → next.places ≡ entry.places
    by (Some old) h = absurd (cc)
    by None h = apart_keeps (record entry { key = Some (record { key = key; line = line }) }) next h

old_key_keeps : (line : ℕ) (old_key : Option (List ℕ)) (entry next : Entry) → with_old_key line old_key entry ≡ Ok next → next.places ≡ entry.places
old_key_keeps line None entry next e = absurd (cc)
old_key_keeps line (Some key) entry next e = by entry.old_key e
  where
    by : (old : Option KeyLine) → (set_once (Some key) old (λ key. record entry { old_key = Some (record { key = key; line = line }) }) >>= keys_apart) ≡ Ok next → next.places ≡ entry.places
    by (Some old) h = absurd (cc)
    by None h = apart_keeps (record entry { old_key = Some (record { key = key; line = line }) }) next h

connections_keep : (n : Option ℕ) (entry next : Entry) → with_connections n entry ≡ Ok next → next.places ≡ entry.places
connections_keep None entry next e = absurd (cc)
connections_keep (Some n) entry next e = by entry.connections e
  where
    by : (old : Option ℕ) → set_once (Some n) old (λ n. record entry { connections = Some n }) ≡ Ok next → next.places ≡ entry.places
    by (Some old) h = absurd (cc)
    by None h = sym (ap places_if h)

tls_keeps : (line : ℕ) (tls : Option Tls) (entry next : Entry) → with_tls line tls entry ≡ Ok next → next.places ≡ entry.places
tls_keeps line None entry next e = absurd (cc)
tls_keeps line (Some tls) entry next e = by entry.tls e
  where
    by : (old : Option Tls) → set_once (Some tls) old (λ tls. record entry { tls = Some tls; tls_line = Some line }) ≡ Ok next → next.places ≡ entry.places
    by (Some old) h = absurd (cc)
    by None h = sym (ap places_if h)

-- ---- a prefix

abbrev put : ℕ → Entry → List Range → Range → Result (Entry × List Range) DevicesRefusal
put line entry prefixes prefix = Ok (record entry { places = entry.places ++ record { prefix = prefix; line = line } ∷ [] }, prefixes ++ prefix ∷ [])

right_prefix : (line : ℕ) (p : Range) → Bare p → (done : List Entry) (present : Option Entry) (names : List (List ℕ)) (prefixes : List Range) (next : Draft)
    → Right (record { done = done; present = present; names = names; prefixes = prefixes }) → with_prefix line (Some p) (record { done = done; present = present; names = names; prefixes = prefixes }) ≡ Ok next → Right next
right_prefix line p bare done None names prefixes next right e = absurd (cc)
right_prefix line p bare done (Some entry) names prefixes next right e =
    by (list_any (same_prefix p) prefixes) refl (nat_le max_prefixes (length prefixes)) refl e
  where
    more : Entry
    more = record entry { places = entry.places ++ record { prefix = p; line = line } ∷ [] }

    made : Draft
    made = record { done = done; present = Some more; names = names; prefixes = prefixes ++ p ∷ [] }

    by : (s : Bool) → list_any (same_prefix p) prefixes ≡ s → (t : Bool) → nat_le max_prefixes (length prefixes) ≡ t
        → (cond s (Err Repeated) (cond t (Err Limit) (Ok p)) >>= put line entry prefixes
        >>= λ made. good (record { done = done; present = Some made.0; names = names; prefixes = made.1 })) ≡ Ok next → Right next
    by true e t many h = absurd (cc)
    by false e true many h = absurd (cc)
    by false e false many h =
        subst Right (ok_same made next h) (record {
          all = in_push done more
              ∙ ap (λ (l : List Range). prefixes_in done ++ l) (map-append (λ (place : Place). place.prefix) entry.places (record { prefix = p; line = line } ∷ []))
              ∙ sym (append_assoc (prefixes_in done) (ranges entry.places) (p ∷ []))
              ∙ ap (λ (l : List Range). l ++ p ∷ []) (sym (in_push done entry) ∙ right.all);
          apart = apart_push prefixes p right.apart (all_unlike p prefixes e);
          bare = All-push Bare prefixes p right.bare bare;
          few =
              let less : length prefixes < max_prefixes = grind (arith, nat_tests) in
              let more : length (prefixes ++ p ∷ []) ≡ length prefixes + 1 = length-append prefixes (p ∷ []) in
              omega arith;
        })

-- ---- a line

right_said : (line : ℕ) (what : Said) → BareSaid what → (draft next : Draft) → Right draft → with_said line what draft ≡ Ok next → Right next
right_said line said.Nothing bare draft next right e = subst Right (ok_same draft next e) right
right_said line said.Bad bare draft next right e = absurd (cc)
right_said line (said.Device None) bare draft next right e = absurd (cc)
right_said line (said.Device (Some name)) bare draft next right e = right_device line name draft next right e
right_said line (said.At None) bare draft next right e = none_at draft.present e
  where
    none_at : (present : Option Entry) → (for_present (λ entry. Ok entry) present >>= λ entry. place_given line None entry draft.prefixes >>= λ made. good (record draft { present = Some made.0; prefixes = made.1 })) ≡ Ok next → Right next
    none_at None h = absurd (cc)
    none_at (Some entry) h = absurd (cc)
right_said line (said.At (Some p)) bare draft next right e = right_prefix line p bare draft.done draft.present draft.names draft.prefixes next right e
right_said line (said.Key key) bare draft next right e =
    right_present (with_key line key) (key_keeps line key) draft.done draft.present draft.names draft.prefixes next right e
right_said line (said.OldKey old_key) bare draft next right e =
    right_present (with_old_key line old_key) (old_key_keeps line old_key) draft.done draft.present draft.names draft.prefixes next right e
right_said line (said.Tls tls) bare draft next right e =
    right_present (with_tls line tls) (tls_keeps line tls) draft.done draft.present draft.names draft.prefixes next right e
right_said line (said.Connections n) bare draft next right e =
    right_present (with_connections n) (connections_keep n) draft.done draft.present draft.names draft.prefixes next right e

-- ---- what a line says has no bit after its prefix

reads_bare : (text : List ℕ) (prefix : Option Range) → Reads text prefix → BareSaid (said.At prefix)
reads_bare text None h = tt
reads_bare text (Some prefix) h = h.1

by_bare : (word rest : List ℕ) → BareSaid (said_by word rest)
unfolding said_by
by_bare word rest =
    by (bytes_eq word (codes "device")) (bytes_eq word (codes "key")) (bytes_eq word (codes "old-key")) (bytes_eq word (codes "tls")) (bytes_eq word (codes "connections"))
    (is_field rest)
  where
    by : (a b o t c d : Bool)
        → BareSaid (cond a (cond d (said.Device (name_of rest)) said.Bad)
        (cond b (said.Key (key_of rest))
        (cond o (said.OldKey (key_of rest)) (cond t (said.Tls (tls_of rest)) (cond c (cond d (said.Connections (connections_of rest)) said.Bad) said.Bad)))))
    by true b o t c true = tt
    by true b o t c false = tt
    by false true o t c d = tt
    by false false true t c d = tt
    by false false false true c d = tt
    by false false false false true true = tt
    by false false false false true false = tt
    by false false false false false d = tt

alone_bare : (word : List ℕ) → BareSaid (said_alone word)
alone_bare word = by (bytes_eq word (codes "tls"))
  where
    by : (t : Bool) → BareSaid (cond t (said.Tls (Some Any)) said.Bad)
    by true = tt
    by false = tt

words_bare : (word rest : List ℕ) (t : Bool) (what : Said) → Where t ((prefix : Option Range) × Reads rest prefix × (what ≡ said.At prefix)) (what ≡ said_by word rest) → BareSaid what
words_bare word rest true what h = subst BareSaid (sym h.2) (reads_bare rest h.0 h.1)
words_bare word rest false what h = subst BareSaid (sym h) (by_bare word rest)

parts_bare : (line : List ℕ) (parts : Option (List ℕ × List ℕ)) (what : Said) → SaysParts line parts what → BareSaid what
parts_bare line None what h = subst BareSaid (sym h) (alone_bare line)
parts_bare line (Some parts) what h = words_bare parts.0 parts.1 (bytes_eq parts.0 (codes "at") && is_field parts.1) what h

trimmed_bare : (line : List ℕ) (t : Bool) (what : Said) → Where t (what ≡ said.Nothing) (SaysParts line (split_at_first 32 line) what) → BareSaid what
trimmed_bare line true what h = subst BareSaid (sym h) tt
trimmed_bare line false what h = parts_bare line (split_at_first 32 line) what h

says_bare : (line : List ℕ) (t : Bool) (what : Said) → Where t (SaysTrimmed (without_leading_spaces line) what) (what ≡ said.Bad) → BareSaid what
says_bare line true what h = trimmed_bare (without_leading_spaces line) (is_blank (without_leading_spaces line)) what h
says_bare line false what h = subst BareSaid (sym h) tt

-- ---- all lines

abbrev fine : Draft → Result Draft DevicesFault
fine draft = Ok draft

fine_same : (a b : Draft) → fine a ≡ fine b → a ≡ b
fine_same a b e = cc

follows_right : (r : Result Draft DevicesRefusal) (number : ℕ) (more : Draft → Type 0) (end : Draft) → ((next : Draft) → r ≡ Ok next → more next → Right end) → Follows r number more (Ok end) → Right end
follows_right (Ok next) number more end goes h = goes next refl h
follows_right (Err refusal) number more end goes h = absurd (cc)

makes_right : (number : ℕ) (lines : List (List ℕ)) (draft end : Draft) → Right draft → Makes number lines draft (Ok end) → Right end
makes_right number [] draft end right h = subst Right (fine_same draft end (sym h)) right
makes_right number (line ∷ lines) draft end right h =
    follows_right (with_said number h.0 draft) number (λ next. Makes (number + 1) lines next (Ok end)) end
    (λ next e more. makes_right (number + 1) lines next end (right_said number h.0 (says_bare line (is_text line) h.0 h.1) draft next right e) more) h.2

-- ---- the devices

device_ranges : (device : Device) (places : List Place) → map (λ (s : Spot). s.1.prefix) (map (λ (place : Place). (device, place)) places) ≡ ranges places
device_ranges device [] = refl
device_ranges device (place ∷ places) = ap (λ (l : List Range). place.prefix ∷ l) (device_ranges device places)

ranges_of : (entries : List Entry) → prefixes_of (devices_of entries) ≡ prefixes_in entries
ranges_of [] = refl
ranges_of (entry ∷ entries) =
    map-append (λ (s : Spot). s.1.prefix) (spots_of (device_of entry)) (spots (devices_of entries))
    ∙ ap (λ (l : List Range). l ++ prefixes_of (devices_of entries)) (device_ranges (device_of entry) entry.places)
    ∙ ap (λ (l : List Range). ranges entry.places ++ l) (ranges_of entries)

abbrev fine_list : List Device → Result (List Device) DevicesFault
fine_list devices = Ok devices

list_same : (a b : List Device) → fine_list a ≡ fine_list b → a ≡ b
list_same a b e = cc

placed_is : (entries : List Entry) (devices : List Device) (two : Option Entry)
    → (option_map_or (λ (entry : Entry). Err (Refused entry.line NoAddress)) two (Ok entries) >>= λ entries. fine_list (devices_of entries)) ≡ Ok devices → devices_of entries ≡ devices
placed_is entries devices (Some entry) h = absurd (cc)
placed_is entries devices None h = list_same (devices_of entries) devices h

finished_is : (entries : List Entry) (devices : List Device) → finished entries ≡ Ok devices → devices_of entries ≡ devices
finished_is entries devices h = by (find (λ e. not (has_way e)) entries) h
  where
    by : (one : Option Entry)
        → ((option_map_or (λ (entry : Entry). Err (Refused entry.line NoKey)) one (Ok entries) >>= checked has_place NoAddress) >>= λ entries. fine_list (devices_of entries)) ≡ Ok devices
        → devices_of entries ≡ devices
    by (Some entry) h = absurd (cc)
    by None h = placed_is entries devices (find (λ e. not (has_place e)) entries) h

abbrev IsFewTable : List Device → Type 0
IsFewTable devices = IsTable devices × (length (prefixes_of devices) ≤ max_prefixes)

table_of : (draft : Draft) (devices : List Device) → Right draft → finished (whole draft) ≡ Ok devices → IsFewTable devices
table_of draft devices right h =
    let same : prefixes_of devices ≡ draft.prefixes = ap prefixes_of (sym (finished_is (whole draft) devices h)) ∙ ranges_of (whole draft) ∙ right.all in
    (record { apart = subst Apart (sym same) right.apart; bare = subst (All Bare) (sym same) right.bare }, rw same right.few)

text_table : (draft : Result Draft DevicesFault) (lines : List (List ℕ)) (devices : List Device) → Makes 1 lines empty draft → (draft >>= λ draft. finished (whole draft)) ≡ Ok devices → IsFewTable devices
text_table (Ok draft) lines devices made h = table_of draft devices (makes_right 1 lines empty draft right_empty made) h
text_table (Err fault) lines devices made h = absurd (cc)

pub is_table : (text : List ℕ) (devices : List Device) → IsText text (Ok devices) → IsFewTable devices
is_table text devices h = text_table h.0 (lines_of text) devices h.1 (sym h.2)

pub table_unless : (text : List ℕ) (result : Result (List Device) DevicesFault) → UnlessMemory (λ (devices : List Device). devices) result (IsText text) → IfOk result IsTable
table_unless text (Ok devices) h = (is_table text devices h).0
table_unless text (Err fault) h = tt

pub few_unless : (text : List ℕ) (result : Result (List Device) DevicesFault) → UnlessMemory (λ (devices : List Device). devices) result (IsText text)
    → IfOk result (λ devices. length (prefixes_of devices) ≤ max_prefixes)
few_unless text (Ok devices) h = (is_table text devices h).1
few_unless text (Err fault) h = tt
