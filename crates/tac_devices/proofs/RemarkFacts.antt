-- What is remarked on devices, one after another.
use Rattle.std.proofs.Common.{◌≡◌, ◌<◌, ◌+◌, ℕ, suc, Bool, true, false, cond, List, [], ◌∷◌, ◌++◌, length, take, drop, get_or, find, Option, Some, None, refl, sym, ap, ◌∙◌, append_assoc, arith}
use Rattle.std.proofs.Math.Seq.{take-suc, drop-cons}
use Rattle.std.specs.Option.{option_map_or, option_and_then}
use Rattle.std.specs.List.{cons_option}
use Rattle.std.specs.Str.{bytes_eq}
use Rattle.tac_devices.specs.declared.device.Device.{Device}
use Rattle.tac_devices.specs.declared.device.Secret.{Secret}
use Rattle.tac_devices.specs.declared.remark.Remark.{Remark}
use Rattle.tac_devices.specs.Remarks.{secrets_of, on_device, remarks_after}

-- ---- the first device with a key

abbrev opens : List ℕ → Secret → Bool
opens key secret = bytes_eq secret.keys.present key

abbrev has_key : List ℕ → Device → Bool
has_key key device = option_map_or (opens key) device.secret false

abbrev pub secret_in : Option Device → Option Secret
secret_in found = option_and_then (λ (device : Device). device.secret) found

pub first_with : (key : List ℕ) (devices : List Device) → secret_in (find (has_key key) devices) ≡ find (opens key) (secrets_of devices)
first_with key [] = refl
first_with key (device ∷ devices) = by device.secret refl (first_with key devices)
  where
    by : (own : Option Secret) → device.secret ≡ own → secret_in (find (has_key key) devices) ≡ find (opens key) (secrets_of devices)
        → secret_in (cond (option_map_or (opens key) own false) (Some device) (find (has_key key) devices)) ≡ find (opens key) (cons_option own (secrets_of devices))
    by None e rest = rest
    by (Some secret) e rest = here (opens key secret)
      where
        here : (t : Bool) → secret_in (cond t (Some device) (find (has_key key) devices)) ≡ cond t (Some secret) (find (opens key) (secrets_of devices))
        here true = e
        here false = rest

-- ---- remarks, one device after another

pub remarks_go : (devices : List Device) (i : ℕ) (device : Device) (found next all : List Remark) → i < length devices → device ≡ get_or devices i device
    → next ≡ found ++ on_device (take i devices) device → found ++ remarks_after (take i devices) (drop i devices) ≡ all
    → next ++ remarks_after (take (i + 1) devices) (drop (i + 1) devices) ≡ all
remarks_go devices i device found next all lt is more so =
    let one : i + 1 ≡ suc i = omega arith in
    let front = take i devices in
    let rest = drop (suc i) devices in
    let past : take (suc i) devices ≡ front ++ device ∷ [] =
    take-suc devices i device lt ∙ ap (λ (d : Device). front ++ d ∷ []) (sym is) in
    let ahead : drop i devices ≡ device ∷ rest = drop-cons devices i device lt ∙ ap (λ (d : Device). d ∷ rest) (sym is) in
    rw (one, past, more)
    (append_assoc found (on_device front device) (remarks_after (front ++ device ∷ []) rest) ∙ ap (λ (l : List Device). found ++ remarks_after front l) (sym ahead) ∙ so)
