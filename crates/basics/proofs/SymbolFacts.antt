-- Texts, a part at a time.
use Rattle.std.proofs.Common.{◌≡◌, ℕ, ◌+◌, ◌-◌, ◌≤◌, ◌&&◌, Bool, true, false, List, take, drop, refl, sym, ap, ◌∙◌, arith}
use Rattle.std.proofs.lemmas.List.{take-append-drop}
use Rattle.std.proofs.lemmas.List.Folds.{list_all-append}
use Rattle.std.proofs.Math.Seq.{take-add}
use Rattle.basics.specs.Symbol.{is_symbol, is_text}

-- bytes are a text exactly if those before a place and those after it are
pub parts : (n : ℕ) (bytes : List ℕ) → (is_text (take n bytes) && is_text (drop n bytes)) ≡ is_text bytes
parts n bytes = sym (list_all-append is_symbol (take n bytes) (drop n bytes)) ∙ ap is_text (take-append-drop n bytes)

-- so many bytes more after a text
pub longer : (n m : ℕ) (bytes : List ℕ) → is_text (take n bytes) ≡ true → is_text (take (n + m) bytes) ≡ is_text (take m (drop n bytes))
longer n m bytes front =
    ap is_text (take-add n m bytes) ∙ list_all-append is_symbol (take n bytes) (take m (drop n bytes)) ∙ ap (λ b. b && is_text (take m (drop n bytes))) front

-- bytes whose beginning is no text are no text
pub no_text : (n : ℕ) (bytes : List ℕ) → is_text (take n bytes) ≡ false → is_text bytes ≡ false
no_text n bytes front = sym (parts n bytes) ∙ ap (λ b. b && is_text (drop n bytes)) front

shorter : (a b : Bool) → (a && b) ≡ true → a ≡ true
shorter true b e = refl
shorter false b e = e

-- where a text reaches beyond a place, the bytes after the place decide for all
pub after : (n m : ℕ) (bytes : List ℕ) → n ≤ m → is_text (take m bytes) ≡ true → is_text (drop n bytes) ≡ is_text bytes
after n m bytes le front =
    let more : n + (m - n) ≡ m = omega (arith, le) in
    let front' = sym (list_all-append is_symbol (take n bytes) (take (m - n) (drop n bytes)))
    ∙ ap is_text (sym (take-add n (m - n) bytes)) ∙ ap (λ k. is_text (take k bytes)) more ∙ front in
    sym (ap (λ b. b && is_text (drop n bytes)) (shorter (is_text (take n bytes)) (is_text (take (m - n) (drop n bytes))) front')) ∙ parts n bytes
