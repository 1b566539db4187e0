-- A key is looked through from blank to blank, and by two digits at a time.
use Rattle.std.proofs.Common.{◌≡◌, ◌≤◌, ℕ, ◌+◌, ◌-◌, ◌%◌, Bool, true, false, cond, ◌&&◌, ◌||◌, ◌==◌, List, [], ◌∷◌, length, take, drop, get_or, Option, Some, None, refl, sym, ap, ◌∙◌, arith}
use Rattle.std.proofs.Math.Seq.{take-length}
use Rattle.std.specs.Prelude.{codes}
use Rattle.std.specs.Option.{option_map}
use Rattle.basics.specs.Lines.{split_at_first}
use Rattle.tac_devices.specs.KeyDoubt.{begins, has_comment, hide_symbol, hide_text}

-- ---- a `#` after a blank

-- it follows the first blank, or one after that
abbrev comment_in : Option (List ℕ × List ℕ) → Bool
comment_in None = false
comment_in (Some parts) = begins parts.1 (codes "#") || has_comment parts.1

by_blanks : (key : List ℕ) → has_comment key ≡ comment_in (split_at_first 32 key)
by_blanks [] = refl
by_blanks (byte ∷ bytes) = here (by_blanks bytes) (byte == 32)
  where
    mapped : (found : Option (List ℕ × List ℕ)) → comment_in (option_map (λ parts. (byte ∷ parts.0, parts.1)) found) ≡ comment_in found
    mapped None = refl
    mapped (Some parts) = refl

    here : has_comment bytes ≡ comment_in (split_at_first 32 bytes) → (t : Bool) → (t && begins bytes (codes "#") || has_comment bytes) ≡ comment_in (cond t (Some ([], bytes)) (option_map (λ parts. (byte ∷ parts.0, parts.1)) (split_at_first 32 bytes)))
    here rest true = refl
    here rest false = rest ∙ sym (mapped (split_at_first 32 bytes))

pub comment_found : (key before after : List ℕ) → Some (before, after) ≡ split_at_first 32 key → true ≡ begins after (codes "#") → true ≡ has_comment key
comment_found key before after split is = sym (by_blanks key ∙ ap comment_in (sym split) ∙ ap (λ t. t || has_comment after) (sym is))

pub comment_past : (key before after : List ℕ) → Some (before, after) ≡ split_at_first 32 key → false ≡ begins after (codes "#") → has_comment after ≡ has_comment key
comment_past key before after split is = sym (by_blanks key ∙ ap comment_in (sym split) ∙ ap (λ t. t || has_comment after) (sym is))

pub comment_none : (key : List ℕ) → None ≡ split_at_first 32 key → false ≡ has_comment key
comment_none key split = sym (by_blanks key ∙ ap comment_in (sym split))

-- ---- hidden symbols

pub symbol_past : (place size : ℕ) (digits : List ℕ) → 2 ≤ length digits → size ≡ length digits - 2 → true ≡ hide_symbol place (get_or digits 0 0) (get_or digits 1 0)
    → hide_text ((place + 1) % 53) (take size (drop 2 digits)) ≡ hide_text place digits
symbol_past place size [] few all is = absurd (omega (arith, few))
symbol_past place size (digit ∷ []) few all is = absurd (omega (arith, few))
symbol_past place size (high ∷ low ∷ digits) few all is =
    let rest : size ≡ length digits = omega (arith, all) in
    ap (hide_text ((place + 1) % 53)) (ap (λ n. take n digits) rest ∙ take-length digits) ∙ ap (λ t. t && hide_text ((place + 1) % 53) digits) is
