-- Names in their 64 bytes.
use Rattle.std.proofs.Common.{◌≡◌, ◌-◌, ◌≤◌, ℕ, List, ◌++◌, length, take, drop, replicate, ap, refl, ◌∙◌}
use Rattle.std.proofs.Math.Seq.{take-append_seam}
use Rattle.std.proofs.lemmas.List.{drop-replicate}
use Rattle.tac_proxy.specs.Name.{filled}

pub padded_is : (text front : List ℕ) → front ≡ text → front ++ drop (length text) (replicate 64 0) ≡ filled text
unfolding filled
padded_is text front e = rw (e, drop-replicate {X = ℕ} (length text) 64 0) refl

pub take-filled : (text bytes : List ℕ) → bytes ≡ filled text → take (length text) bytes ≡ text
unfolding filled
take-filled text bytes e = ap (take (length text)) e ∙ take-append_seam text (replicate (64 - length text) 0)

pub name_made : (text bytes : List ℕ) → bytes ≡ filled text → length text ≤ 64
    → (bytes ≡ filled (take (length text) bytes)) × (length text ≡ length (take (length text) bytes)) × (length (take (length text) bytes) ≤ 64)
name_made text bytes e fits = let text_is = take-filled text bytes e in rw text_is (e, refl, fits)
