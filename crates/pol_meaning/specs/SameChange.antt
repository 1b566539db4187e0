-- Which replies for a service are the same, and which changes of them.
use Rattle.std.specs.Prelude.{◌≡◌, ℕ, List, Bool, true, ◌&&◌, Option, Some, None, refl}
use Rattle.std.specs.Bool.{Decides}
use Rattle.std.specs.Cmp.Lexicographic.{pointwise}
use Rattle.std.specs.Option.{option_eq}
use Rattle.std.specs.Str.{bytes_eq}
use Rattle.std.proofs.Common.{ap, ◌∙◌}
use Rattle.std.proofs.lemmas.Bool.Decides.{Decides-like, Decides-and}
use Rattle.std.proofs.lemmas.Slice.Eq.{bytes_eq-Decides, slice_eq-Decides}
use Rattle.pol_names.specs.SameService.{same_service, same_service-Decides}
use Rattle.pol_names.specs.declared.service.ServiceId.{ServiceId}
use Rattle.pol_meaning.specs.declared.ServiceChange.{ServiceChange}

-- both are refused, or both give the same arguments in the same order
abbrev pub same_reply : Option (List (List ℕ)) → Option (List (List ℕ)) → Bool
same_reply a b = option_eq (pointwise bytes_eq) a b

abbrev pub same_change : ServiceChange → ServiceChange → Bool
same_change a b =
    bytes_eq a.user b.user && (same_service a.service b.service
    && (same_reply a.was b.was && same_reply a.is b.is))

-- ---- the tests tell

pub same_reply-Decides : (a b : Option (List (List ℕ))) → Decides (same_reply a b) (a ≡ b)
same_reply-Decides None None = (λ e. refl, λ e. refl)
same_reply-Decides None (Some y) = (λ e. absurd cc, λ e. absurd cc)
same_reply-Decides (Some x) None = (λ e. absurd cc, λ e. absurd cc)
same_reply-Decides (Some x) (Some y) =
    let texts = slice_eq-Decides bytes_eq-Decides x y (pointwise bytes_eq x y) refl in
    (λ e. ap Some (texts.0 e), λ e. texts.1 (cc))

abbrev AreSame : ServiceChange → ServiceChange → Type 0
AreSame a b =
    (a.user ≡ b.user) × ((a.service ≡ b.service) × ((a.was ≡ b.was) × (a.is ≡ b.is)))

changed_so : (a b : ServiceChange) → AreSame a b → a ≡ b
changed_so a b same =
    ap (λ (user : List ℕ). record a { user = user }) same.0
    ∙ ap (λ (service : ServiceId). record a { user = b.user; service = service }) same.1.0
    ∙ ap (λ (was : Option (List (List ℕ))). record b { was = was; is = a.is }) same.1.1.0
    ∙ ap (λ (is : Option (List (List ℕ))). record b { is = is }) same.1.1.1

-- it is the same change exactly if all of it is the same
pub same_change-Decides : (a b : ServiceChange) → Decides (same_change a b) (a ≡ b)
same_change-Decides a b =
    Decides-like (same_change a b) (changed_so a b)
    (λ (e : a ≡ b). (
      ap (λ (c : ServiceChange). c.user) e,
      (
        ap (λ (c : ServiceChange). c.service) e,
        (ap (λ (c : ServiceChange). c.was) e, ap (λ (c : ServiceChange). c.is) e),
      ),
    ))
    (Decides-and (bytes_eq a.user b.user) (same_service a.service b.service
    && (same_reply a.was b.was && same_reply a.is b.is))
    (bytes_eq-Decides a.user b.user)
    (Decides-and (same_service a.service b.service) (same_reply a.was b.was && same_reply a.is b.is)
    (same_service-Decides a.service b.service)
    (Decides-and (same_reply a.was b.was) (same_reply a.is b.is)
    (same_reply-Decides a.was b.was) (same_reply-Decides a.is b.is))))

pub same_change-identical : (a b : ServiceChange) → same_change a b ≡ true → a ≡ b
same_change-identical a b e = (same_change-Decides a b).0 e
