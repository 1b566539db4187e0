-- What is printed of a devices' file is one thing alone.
use Rattle.std.proofs.Common.{◌≡◌, ◌≤◌, ◌<◌, ℕ, ◌+◌, suc, drop, get_or, length, Bool, true, false, cond, ◌&&◌, is_some, List, [], ◌∷◌, ◌++◌, Option, Some, None, Result, Ok, Err, IfOk, refl, subst, sym, ap, ◌∙◌, append_assoc, append-nil, arith}
use Rattle.std.proofs.Math.Seq.{drop-cons}
use Rattle.std.proofs.Math.ListN.{drop_of_length-le}
use Rattle.std.proofs.lemmas.List.{length-append, length-map}
use Rattle.tac_devices.specs.declared.device.Device.{Device}
use Rattle.tac_devices.specs.declared.device.Place.{Place}
use Rattle.tac_devices.specs.declared.fault.DevicesFault.{DevicesFault}
use Rattle.tac_devices.specs.declared.listing.Asked.{Asked}
use Rattle.tac_devices.specs.declared.listing.ListingEnd.{ListingEnd}
use Rattle.tac_devices.specs.declared.listing.ListingEnd.TheVariants.{Fine, Stranger}
use Rattle.tac_devices.specs.declared.devices.Spot.{Spot as FoundSpot}
use Rattle.std.specs.Option.{option_map}
use Rattle.tac_devices.specs.Devices.{Spot, spot_of, spots, spots_of, prefixes_of, IsFound, IsTable}
use Rattle.tac_devices.specs.Text.{IsText}
use Rattle.tac_devices.specs.Listing.{found_line, Finds, Prints, IsOnlyListing}
use Rattle.tac_devices.proofs.OnlyFacts.{found_once}
use Rattle.tac_devices.proofs.ReadingFacts.{text_once}

-- ---- prefixes are counted

pub counted_one : (device : Device) (devices : List Device) → length (prefixes_of (device ∷ devices)) ≡ length device.places + length (prefixes_of devices)
counted_one device devices =
    length-map (spots_of device ++ spots devices) (λ (s : Spot). s.1.prefix)
    ∙ length-append (spots_of device) (spots devices)
    ∙ ap (λ n. n + length (spots devices)) (length-map device.places (λ (place : Place). (device, place)))
    ∙ ap (λ n. length device.places + n) (sym (length-map (spots devices) (λ (s : Spot). s.1.prefix)))

pub left_at : (items : List Device) (i : ℕ) (x : Device) → i < length items → x ≡ get_or items i x → drop i items ≡ x ∷ drop (i + 1) items
left_at items i x lt is =
    let next : i + 1 ≡ suc i = omega arith in
    rw next (drop-cons items i x lt ∙ ap (λ d. d ∷ drop (suc i) items) (sym is))

-- ---- addresses one after another

abbrev pub GoesOn : List Device → List Asked → List Asked → List ℕ → Bool → Type 0
GoesOn devices asked rest written all = (more : List ℕ) (others : Bool) → Finds devices rest more others → Finds devices asked (written ++ more) (all && others)

and_assoc : (a b c : Bool) → (a && (b && c)) ≡ ((a && b) && c)
and_assoc true b c = refl
and_assoc false b c = refl

and_true : (a : Bool) → (a && true) ≡ a
and_true true = refl
and_true false = refl

finds_more : (devices : List Device) (asked rest : List Asked) (x : Asked) (written : List ℕ) (all : Bool) (found : Option Spot) → IsFound devices x.address found
    → GoesOn devices asked (x ∷ rest) written all → GoesOn devices asked rest (written ++ found_line x found) (all && is_some found)
finds_more devices asked rest x written all found is goes more others h =
    rw (append_assoc written (found_line x found) more, ← and_assoc all (is_some found) others)
    (goes (found_line x found ++ more) (is_some found && others) (found, is, more, others, h, refl, refl))

finds_all : (devices : List Device) (asked : List Asked) (written : List ℕ) (all : Bool) → GoesOn devices asked [] written all → Finds devices asked written all
finds_all devices asked written all goes =
    subst (λ (text : List ℕ). Finds devices asked text all) (append-nil written)
    (subst (λ (t : Bool). Finds devices asked (written ++ []) t) (and_true all) (goes [] true (refl, refl)))

-- what is written so far of the lines of all addresses, and that of the rest
abbrev pub SoFar : List Device → List Asked → ℕ → List ℕ → List ℕ → Bool → Type 0
SoFar devices asked i before out all =
    (written : List ℕ) × (out ≡ before ++ written) × GoesOn devices asked (drop i asked) written all

some_mapped : (found : Option FoundSpot) → is_some (option_map spot_of found) ≡ is_some found
some_mapped None = refl
some_mapped (Some found) = refl

pub found_more : (devices : List Device) (asked : List Asked) (i : ℕ) (x : Asked) (before out next : List ℕ) (all is : Bool) (found : Option FoundSpot)
    → i < length asked → IsFound devices (get_or asked i x).address (option_map spot_of found) → is ≡ is_some found
    → next ≡ out ++ found_line (get_or asked i x) (option_map spot_of found) → SoFar devices asked i before out all → SoFar devices asked (i + 1) before next (all && is)
found_more devices asked i x before out next all is found lt at some text so =
    let one = get_or asked i x in
    let spot = option_map spot_of found in
    let index : i + 1 ≡ suc i = omega arith in
    let left : drop i asked ≡ one ∷ drop (i + 1) asked = rw index (drop-cons asked i x lt) in
    let told : is_some spot ≡ is = some_mapped found ∙ sym some in
    let goes : GoesOn devices asked (one ∷ drop (i + 1) asked) so.0 all = subst (λ (l : List Asked). GoesOn devices asked l so.0 all) left so.2 in (
      so.0 ++ found_line one spot,
      text ∙ ap (λ (l : List ℕ). l ++ found_line one spot) so.1 ∙ append_assoc before so.0 (found_line one spot),
      subst (λ (t : Bool). GoesOn devices asked (drop (i + 1) asked) (so.0 ++ found_line one spot) (all && t)) told
          (finds_more devices asked (drop (i + 1) asked) one so.0 all spot at goes),
    )

pub found_all : (devices : List Device) (asked : List Asked) (i : ℕ) (before out : List ℕ) (all : Bool) → length asked ≤ i → SoFar devices asked i before out all
    → (text : List ℕ) × Finds devices asked text all × (out ≡ before ++ text)
found_all devices asked i before out all past so =
    let none : drop i asked ≡ [] = drop_of_length-le asked past in
    (so.0, finds_all devices asked so.0 all (subst (λ (l : List Asked). GoesOn devices asked l so.0 all) none so.2), so.1)

-- ---- nothing else is so

finds_once : (devices : List Device) (asked : List Asked) (one two : List ℕ) (s t : Bool) → IsTable devices → Finds devices asked one s → Finds devices asked two t → (two ≡ one) × (t ≡ s)
finds_once devices [] one two s t table h k = (k.0 ∙ sym h.0, k.1 ∙ sym h.1)
finds_once devices (x ∷ rest) one two s t table (f, is, more, others, then, text, all) (g, also, more2, others2, then2, text2, all2) =
    let same = found_once devices x.address g f table also is in
    let left = finds_once devices rest more more2 others others2 table then then2 in (
      text2 ∙ ap (λ (found : Option Spot). found_line x found ++ more2) same ∙ ap (λ (l : List ℕ). found_line x f ++ l) left.0 ∙ sym text,
      all2 ∙ ap (λ (found : Option Spot). is_some found && others2) same ∙ ap (λ (b : Bool). is_some f && b) left.1 ∙ sym all,
    )

abbrev IsTableIf : Result (List Device) DevicesFault → Type 0
IsTableIf (Ok devices) = IsTable devices
IsTableIf (Err fault) = Unit {0}

prints_once : (asked : List Asked) (read : Result (List Device) DevicesFault) (one two : List ℕ) (s t : ListingEnd) → IsTableIf read → Prints asked read one s → Prints asked read two t → (two ≡ one) × (t ≡ s)
prints_once asked (Err fault) one two s t table h k = (k.0 ∙ sym h.0, k.1 ∙ sym h.1)
prints_once [] (Ok devices) one two s t table h k = (k.0 ∙ sym h.0, k.1 ∙ sym h.1)
prints_once (x ∷ rest) (Ok devices) one two s t table (all, h, end) (all2, k, end2) =
    let same = finds_once devices (x ∷ rest) one two all all2 table h k in
    (same.0, end2 ∙ ap (λ (b : Bool). cond b Fine Stranger) same.1 ∙ sym end)

pub listing_only : (asked : List Asked) (text : List ℕ) (read : Result (List Device) DevicesFault) (output : List ℕ) (end : ListingEnd) → IsText text read → IsTableIf read → Prints asked read output end
    → IsOnlyListing asked text output end
listing_only asked text read output end is table prints =
    record {
      printed = (read, is, prints);
      only = λ other last h.
          prints_once asked read output other end last table prints
          (subst (λ (r : Result (List Device) DevicesFault). Prints asked r other last) (text_once text h.0 read h.1 is) h.2);
    }

pub ok_from : {E F X : Type 0} {P Q : X → Type 0} (one : Result X E) (two : Result X F) → IfOk one (λ x. two ≡ Ok x) → ((x : X) → P x → Q x) → IfOk two P → IfOk one Q
ok_from (Err e) two is goes h = tt
ok_from {P = P} (Ok x) two is goes h = goes x (subst (λ r. IfOk r P) is h)
