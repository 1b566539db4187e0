-- What is told of no lines.
use Rattle.std.proofs.Common.{◌≡◌, ℕ, List, [], Result, Ok, Err, refl}
use Rattle.tac_review.specs.Tables.{onto}

pub onto_nothing : (rest : Result (List ℕ) ℕ) → onto [] rest ≡ rest
onto_nothing (Ok rest) = refl
onto_nothing (Err number) = refl
