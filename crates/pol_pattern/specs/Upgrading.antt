-- The new source of a pattern of version 1: what version 2 spells the same pattern by.
use Rattle.std.specs.Prelude.{◌↔◌, ℕ, ◌==◌, Bool, false, ◌&&◌, ◌||◌, not, List, [], ◌∷◌}
use Rattle.std.specs.Prelude.{if◌then◌else◌}
use Rattle.pol_pattern.specs.Flat.{Terms}
use Rattle.pol_pattern.specs.Spelling.{SpellsBy, HoldsBy, Spells, Holds}
use Rattle.pol_pattern.specs.declared.version.Version.TheVariants.{One}

-- a class begins with a `[` and ends with a `]`, but with none after a `\`
abbrev pub in_class_after : Bool → Bool → ℕ → Bool
in_class_after in_class quoted byte =
    if quoted then in_class else byte == 91 || in_class && not (byte == 93)

-- a `\` quotes the byte after it
abbrev pub quoted_after : Bool → ℕ → Bool
quoted_after quoted byte = not quoted && byte == 92

-- a brace outside classes gets a `\`, unless it has one
abbrev pub needs_mark : Bool → Bool → ℕ → Bool
needs_mark in_class quoted byte = not (in_class || quoted) && (byte == 123 || byte == 125)

abbrev pub with_mark : Bool → Bool → ℕ → List ℕ → List ℕ
with_mark in_class quoted byte rest =
    if needs_mark in_class quoted byte then 92 ∷ byte ∷ rest else byte ∷ rest

-- the bytes from one on that stands in a class or not, and after a `\` or not
unfoldable pub upgraded_from : Bool → Bool → List ℕ → List ℕ
upgraded_from in_class quoted [] = []
upgraded_from in_class quoted (byte ∷ rest) =
    with_mark in_class quoted byte
    (upgraded_from (in_class_after in_class quoted byte) (quoted_after quoted byte) rest)

abbrev pub upgraded : List ℕ → List ℕ
upgraded = upgraded_from false false

-- version 1 spells a pattern by a source, and version 2 the same pattern by the new source; so both
-- sources hold the same texts
pub record UpgradeLaw : Type 0 where
  pub spelled : (source : List ℕ) (flat : Terms) → SpellsBy One source flat
      → Spells (upgraded source) flat
  pub same : (source text : List ℕ) (flat : Terms) → SpellsBy One source flat
      → HoldsBy One source text ↔ Holds (upgraded source) text
