-- A text has one reading.
use Rattle.std.proofs.Common.{◌≡◌, ℕ, ◌+◌, Bool, true, false, ◌&&◌, List, [], ◌∷◌, Option, Some, None, Result, Ok, Err, refl, subst, sym, ap, ◌∙◌}
use Rattle.std.specs.Str.{bytes_eq}
use Rattle.std.specs.declared.net.ip_addr.IpAddr.{IpAddr}
use Rattle.basics.specs.Symbol.{is_text}
use Rattle.basics.specs.Lines.{split_at_first, without_leading_spaces, lines_of}
use Rattle.tac_devices.specs.declared.said.Said.{Said}
use Rattle.tac_devices.specs.declared.said.Said.TheVariants.{Nothing, Bad, At}
use Rattle.tac_devices.specs.declared.device.Device.{Device}
use Rattle.tac_devices.specs.declared.draft.Draft.{Draft}
use Rattle.tac_devices.specs.declared.fault.DevicesRefusal.{DevicesRefusal}
use Rattle.tac_devices.specs.declared.fault.DevicesFault.{DevicesFault}
use Rattle.tac_devices.specs.declared.fault.DevicesFault.TheVariants.{Refused, Memory}
use Rattle.tac_devices.specs.Prefix.{Range, Reads}
use Rattle.tac_devices.specs.Line.{Where, SaysWords, SaysParts, SaysTrimmed, Says, is_field, is_blank, said_by}
use Rattle.tac_devices.specs.Text.{◌>>=◌, Makes, Follows, with_said, IsText, UnlessMemory, empty, whole, finished}
use Rattle.tac_devices.proofs.PrefixFacts.{written_once}

same_range : (a b : Range) → a.address ≡ b.address → a.length ≡ b.length → a ≡ b
same_range a b e f = ap (λ (x : IpAddr). range x a.length) e ∙ ap (range b.address) f
  where
    range : IpAddr → ℕ → Range
    range address length = record { address = address; length = length }

pub reads_once : (text : List ℕ) (a b : Option Range) → Reads text a → Reads text b → a ≡ b
reads_once text None None h k = refl
reads_once text None (Some b) h k = absurd (h b k)
reads_once text (Some a) None h k = absurd (k a h)
reads_once text (Some a) (Some b) h k =
    let e = written_once text a.address b.address a.length b.length h.0 k.0 in
    ap (λ (r : Range). Some r) (same_range a b e.0 e.1)

words_once : (word rest : List ℕ) (a b : Said) → SaysWords word rest a → SaysWords word rest b → a ≡ b
words_once word rest a b h k = by (bytes_eq word (codes_at) && is_field rest) h k
  where
    codes_at : List ℕ
    codes_at = 97 ∷ 116 ∷ []

    by : (t : Bool) → Where t ((prefix : Option Range) × Reads rest prefix × (a ≡ At prefix)) (a ≡ said_by word rest)
        → Where t ((prefix : Option Range) × Reads rest prefix × (b ≡ At prefix)) (b ≡ said_by word rest) → a ≡ b
    by true h k = h.2 ∙ ap At (reads_once rest h.0 k.0 h.1 k.1) ∙ sym k.2
    by false h k = h ∙ sym k

parts_once : (line : List ℕ) (parts : Option (List ℕ × List ℕ)) (a b : Said) → SaysParts line parts a → SaysParts line parts b → a ≡ b
parts_once line None a b h k = h ∙ sym k
parts_once line (Some parts) a b h k = words_once parts.0 parts.1 a b h k

pub says_once : (line : List ℕ) (a b : Said) → Says line a → Says line b → a ≡ b
says_once line a b h k = by (is_text line) h k
  where
    trimmed : (line : List ℕ) (t : Bool) → Where t (a ≡ Nothing) (SaysParts line (split_at_first 32 line) a) → Where t (b ≡ Nothing) (SaysParts line (split_at_first 32 line) b) → a ≡ b
    trimmed line true h k = h ∙ sym k
    trimmed line false h k = parts_once line (split_at_first 32 line) a b h k

    by : (t : Bool) → Where t (SaysTrimmed (without_leading_spaces line) a) (a ≡ Bad) → Where t (SaysTrimmed (without_leading_spaces line) b) (b ≡ Bad) → a ≡ b
    by true h k = trimmed (without_leading_spaces line) (is_blank (without_leading_spaces line)) h k
    by false h k = h ∙ sym k

follows_once : (r : Result Draft DevicesRefusal) (number : ℕ) (more : Draft → Result Draft DevicesFault → Type 0) (a b : Result Draft DevicesFault)
    → ((next : Draft) → more next a → more next b → a ≡ b)
    → Follows r number (λ next. more next a) a → Follows r number (λ next. more next b) b → a ≡ b
follows_once (Ok next) number more a b rest h k = rest next h k
follows_once (Err refusal) number more a b rest h k = h ∙ sym k

pub makes_once : (number : ℕ) (lines : List (List ℕ)) (draft : Draft) (a b : Result Draft DevicesFault) → Makes number lines draft a → Makes number lines draft b → a ≡ b
makes_once number [] draft a b h k = h ∙ sym k
makes_once number (line ∷ lines) draft a b h k =
    let same : k.0 ≡ h.0 = says_once line k.0 h.0 k.1 h.1 in
    follows_once (with_said number h.0 draft) number (λ next result. Makes (number + 1) lines next result) a b
    (λ next more also. makes_once (number + 1) lines next a b more also) h.2
    (subst (λ (said : Said). Follows (with_said number said draft) number (λ next. Makes (number + 1) lines next b) b) same k.2)

pub text_once : (text : List ℕ) (a b : Result (List Device) DevicesFault) → IsText text a → IsText text b → a ≡ b
text_once text a b h k =
    h.2 ∙ ap (λ (r : Result Draft DevicesFault). r >>= λ draft. finished (whole draft)) (makes_once 1 (lines_of text) empty h.0 k.0 h.1 k.1) ∙ sym k.2

pub only_that : (text : List ℕ) (result : Result (List Device) DevicesFault) → UnlessMemory (λ (devices : List Device). devices) result (IsText text)
    → (wanted : Result (List Device) DevicesFault) → IsText text wanted → UnlessMemory (λ (devices : List Device). devices) result (λ given. wanted ≡ given)
only_that text (Ok devices) h wanted w = text_once text wanted (Ok devices) w h
only_that text (Err Memory) h wanted w = tt
only_that text (Err (Refused line refusal)) h wanted w = text_once text wanted (Err (Refused line refusal)) w h
