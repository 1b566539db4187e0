-- Which services are the same, and which lines.
use Rattle.std.specs.Prelude.{◌≡◌, ℕ, List, Bool, true, false, ◌&&◌, Option, Some, None, refl}
use Rattle.std.specs.Bool.{Decides}
use Rattle.std.specs.Option.{option_eq}
use Rattle.std.specs.Str.{bytes_eq}
use Rattle.std.proofs.Common.{ap, ◌∙◌}
use Rattle.std.proofs.lemmas.Bool.Decides.{Decides-like, Decides-and}
use Rattle.std.proofs.lemmas.Slice.Eq.{bytes_eq-Decides}
use Rattle.pol_names.specs.declared.service.ServiceId.{ServiceId}
use Rattle.pol_names.specs.declared.service.Says.{Says}
use Rattle.pol_names.specs.declared.service.Says.TheVariants.{Allows, Refuses}
use Rattle.pol_names.specs.declared.service.ServiceLine.{ServiceLine}

abbrev pub same_service : ServiceId → ServiceId → Bool
same_service a b = bytes_eq a.name b.name && option_eq bytes_eq a.protocol b.protocol

abbrev pub same_says : Says → Says → Bool
same_says (Allows a) (Allows b) = option_eq bytes_eq a b
same_says (Allows a) Refuses = false
same_says Refuses (Allows b) = false
same_says Refuses Refuses = true

abbrev pub same_line : ServiceLine → ServiceLine → Bool
same_line a b = same_service a.service b.service && same_says a.says b.says

-- ---- the tests tell

text-Decides : (a b : Option (List ℕ)) → Decides (option_eq bytes_eq a b) (a ≡ b)
text-Decides None None = (λ e. refl, λ e. refl)
text-Decides None (Some y) = (λ e. absurd cc, λ e. absurd cc)
text-Decides (Some x) None = (λ e. absurd cc, λ e. absurd cc)
text-Decides (Some x) (Some y) =
    (λ e. ap Some ((bytes_eq-Decides x y).0 e), λ e. (bytes_eq-Decides x y).1 (cc))

named_so : (a b : ServiceId) → (a.name ≡ b.name) × (a.protocol ≡ b.protocol) → a ≡ b
named_so a b same =
    ap (λ (name : List ℕ). record { name = name; protocol = a.protocol }) same.0
    ∙ ap (λ (protocol : Option (List ℕ)). record { name = b.name; protocol = protocol }) same.1

pub same_service-Decides : (a b : ServiceId) → Decides (same_service a b) (a ≡ b)
same_service-Decides a b =
    Decides-like (same_service a b) (named_so a b)
    (λ (e : a ≡ b). (ap (λ (s : ServiceId). s.name) e, ap (λ (s : ServiceId). s.protocol) e))
    (Decides-and (bytes_eq a.name b.name) (option_eq bytes_eq a.protocol b.protocol)
    (bytes_eq-Decides a.name b.name) (text-Decides a.protocol b.protocol))

pub same_says-Decides : (a b : Says) → Decides (same_says a b) (a ≡ b)
same_says-Decides (Allows a) (Allows b) =
    (λ e. ap Allows ((text-Decides a b).0 e), λ e. (text-Decides a b).1 (cc))
same_says-Decides (Allows a) Refuses = (λ e. absurd cc, λ e. absurd cc)
same_says-Decides Refuses (Allows b) = (λ e. absurd cc, λ e. absurd cc)
same_says-Decides Refuses Refuses = (λ e. refl, λ e. refl)

said_so : (a b : ServiceLine) → (a.service ≡ b.service) × (a.says ≡ b.says) → a ≡ b
said_so a b same =
    ap (λ (service : ServiceId). record { service = service; says = a.says }) same.0
    ∙ ap (λ (says : Says). record { service = b.service; says = says }) same.1

-- it is the same line exactly if it says the same of the same service
pub same_line-Decides : (a b : ServiceLine) → Decides (same_line a b) (a ≡ b)
same_line-Decides a b =
    Decides-like (same_line a b) (said_so a b)
    (λ (e : a ≡ b). (ap (λ (l : ServiceLine). l.service) e, ap (λ (l : ServiceLine). l.says) e))
    (Decides-and (same_service a.service b.service) (same_says a.says b.says)
    (same_service-Decides a.service b.service) (same_says-Decides a.says b.says))

pub same_service-identical : (a b : ServiceId) → same_service a b ≡ true → a ≡ b
same_service-identical a b e = (same_service-Decides a b).0 e

pub same_line-identical : (a b : ServiceLine) → same_line a b ≡ true → a ≡ b
same_line-identical a b e = (same_line-Decides a b).0 e
