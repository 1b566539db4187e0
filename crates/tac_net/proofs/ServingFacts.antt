-- Workers side by side.
use Rattle.std.proofs.Common.{Result, Ok, Err, IfOk}

pub ok_both : {X E : Type 0} (r : Result X E) {P Q S : X → Type 0} → ((x : X) → P x → Q x → S x) → IfOk r P → IfOk r Q → IfOk r S
ok_both (Ok x) so p q = so x p q
ok_both (Err e) so p q = tt
