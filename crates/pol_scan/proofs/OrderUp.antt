-- A word, or one after it.
use Rattle.std.proofs.Common.{ℕ, List, sym, ap, subst, inl, inr}
use Rattle.basics.specs.TextOrder.{IsBefore}
use Rattle.pol_scan.proofs.OrderFacts.{before_irreflexive, before_transitive, before_total, before_push}
use Rattle.pol_scan.specs.Words.{longer}
use Rattle.pol_scan.specs.Discovery.{IsUpTo}

pub up_to_before : (u v w : List ℕ) → IsUpTo u v → IsBefore v w → IsBefore u w
up_to_before u v w (inl e) h = subst (λ t. IsBefore t w) (sym e) h
up_to_before u v w (inr k) h = before_transitive u v w k h

pub before_up_to : (u v w : List ℕ) → IsBefore u v → IsUpTo v w → IsBefore u w
before_up_to u v w h (inl e) = subst (IsBefore u) e h
before_up_to u v w h (inr k) = before_transitive u v w h k

pub up_to_transitive : (u v w : List ℕ) → IsUpTo u v → IsUpTo v w → IsUpTo u w
up_to_transitive u v w (inl e) h = subst (λ t. IsUpTo t w) (sym e) h
up_to_transitive u v w (inr k) h = inr (before_up_to u v w k h)

pub up_to_longer : (u v : List ℕ) (column : ℕ) → IsUpTo u v → IsUpTo (longer u column) (longer v column)
up_to_longer u v column (inl e) = inl (ap (λ t. longer t column) e)
up_to_longer u v column (inr k) = inr (before_push u v column column k)

-- no word is before one that it comes up to
pub up_to_excludes : (u v : List ℕ) → IsUpTo u v → ¬ (IsBefore v u)
up_to_excludes u v h k = before_irreflexive v (before_up_to v u v k h)

pub up_to_from_excluded : (u v : List ℕ) → ¬ (IsBefore v u) → IsUpTo u v
up_to_from_excluded u v h = elim (before_total u v) [ inl k ↦ inr k | inr r ↦ elim r [ inl e ↦ inl e | inr k ↦ absurd (h k) ] ]
