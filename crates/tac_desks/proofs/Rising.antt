-- A meter that has risen isn't lower.
use Rattle.std.proofs.Common.{◌≤◌, ℕ, Result, Ok, Err, OnErr}
use Rattle.pol_live.specs.Rise.{most, Rises}
use Rattle.pol_live.proofs.MeterFacts.{not_lowered}

pub risen : {X E : Type 0} (r : Result X E) (by : ℕ → Type 0) (before after : ℕ) → before ≤ most → Rises by before after → OnErr r (before ≤ after)
risen (Ok x) by before after fits h = tt
risen (Err e) by before after fits h = (not_lowered before after h.0 (λ _. h.2) fits).0
