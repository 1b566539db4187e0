-- What a text has that is put together.
use Rattle.std.specs.Prelude.{◌≡◌, Bool, false, ℕ, List, ◌++◌}
use Rattle.posix_expression.specs.declared.text.Text.{Text}

-- the bytes that it has by now
abbrev pub gathered : Text → List ℕ
gathered text = text.bytes.items

-- memory ran out for something that it should have
abbrev pub lacks : Text → Bool
lacks text = text.is_cut

-- it has these bytes more, and else what it had. What lacks something goes on lacking it
abbrev pub Gains : Text → List ℕ → Text → Type 0
Gains before more after =
    lacks after ≡ false → (lacks before ≡ false) × (gathered after ≡ gathered before ++ more)
