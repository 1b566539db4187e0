-- What a derivative of a term is, by the term's first factor.
use Rattle.std.proofs.Common.{◌≡◌, ◌⊎◌, ℕ, IsTrue, refl, inl, inr}
use Rattle.pol_pattern.specs.Flat.{Class, holds_symbol, class, group, star, Term, empty, put, Terms, join_term}
use Rattle.pol_residual.specs.Derivative.{IsAmong, Derivative, of_class, of_group, of_star, after_star}

pub derivative-empty : {symbol : ℕ} {next : Term} → Derivative symbol empty next → ⊥
derivative-empty h = elim h [ ]

pub derivative-class : {symbol : ℕ} {c : Class} {rest next : Term} → Derivative symbol (put (class c) rest) next → (next ≡ rest) × IsTrue (holds_symbol c symbol)
derivative-class (of_class h) = (refl, h)

pub record OfGroup (symbol : ℕ) (terms : Terms) (rest next : Term) : Type 0 where
  pub alternative : Term
  pub among : IsAmong terms alternative
  pub derivative : Derivative symbol (join_term alternative rest) next

pub derivative-group : {symbol : ℕ} {terms : Terms} {rest next : Term} → Derivative symbol (put (group terms) rest) next → OfGroup symbol terms rest next
derivative-group (of_group alternative among h) = record { alternative = alternative; among = among; derivative = h }

pub record OfStar (symbol : ℕ) (terms : Terms) (rest next : Term) : Type 0 where
  pub alternative : Term
  pub inner : Term
  pub among : IsAmong terms alternative
  pub derivative : Derivative symbol alternative inner
  pub joined : next ≡ join_term inner (put (star terms) rest)

pub derivative-star : {symbol : ℕ} {terms : Terms} {rest next : Term} → Derivative symbol (put (star terms) rest) next → OfStar symbol terms rest next ⊎ Derivative symbol rest next
derivative-star (of_star {alternative} {next} among h) = inl (record { alternative = alternative; inner = next; among = among; derivative = h; joined = refl })
derivative-star (after_star h) = inr h
