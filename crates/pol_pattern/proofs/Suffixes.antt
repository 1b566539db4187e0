-- Suffixes: what one spells is taken as one token, and what is taken is spelled.
use Rattle.std.proofs.Common.{◌≡◌, ℕ, suc, ◌+◌, ◌-◌, ◌*◌, Bool, true, false, not, ◌&&◌, eqb, nat_le, nat_lt, List, [], ◌∷◌, ◌++◌, length, drop, Option, Some, None, Ok, refl, sym, ap, ap₂, subst, ◌∙◌, inl, inr, append_assoc, length-append, arith}
use Rattle.std.specs.Option.{is_some, option_map, option_map_or}
use Rattle.std.specs.List.{list_all}
use Rattle.std.proofs.lemmas.Bool.{and_parts, and_from, eq-eqb, not-true}
use Rattle.std.proofs.lemmas.Bool.Decides.{nat_tests}
use Rattle.std.proofs.lemmas.List.{drop_at}
use Rattle.std.proofs.lemmas.List.Folds.{list_all-append}
use Rattle.basics.specs.Lines.{split_at_first}
use Rattle.basics.specs.Number.{digits_after, number_of}
use Rattle.basics.proofs.LineFacts.{parts_joined}
use Rattle.pol_pattern.specs.declared.token.Repeat.{Repeat}
use Rattle.pol_pattern.specs.declared.token.Repeat.TheVariants.{Counted}
use Rattle.pol_pattern.specs.declared.token.Token.{Token}
use Rattle.pol_pattern.specs.declared.token.Token.TheVariants as tokens
use Rattle.pol_pattern.specs.declared.version.Version.{Version}
use Rattle.pol_pattern.specs.declared.version.Version.TheVariants.{Two}
use Rattle.pol_pattern.specs.declared.fault.PatternFault.TheVariants as faults
use Rattle.pol_pattern.specs.Spelling.{Suffix, asterisk, plus, question, exactly, between, suffix_bytes, counts_of, exact_counts, range_counts, is_right_suffix, counted, suffix_repeat, has_counts}
use Rattle.pol_pattern.specs.Reading.{counts_in, counts_at, counted_at, token_at}
use Rattle.pol_pattern.proofs.Steps.{chosen, refused, some_is, none_is, then_some, map_or_ok}

-- ---- texts without a separator

abbrev pub lacks : ℕ → List ℕ → Bool
lacks separator = list_all (λ byte. not (eqb byte separator))

split_first : (separator : ℕ) (text rest : List ℕ) → lacks separator text ≡ true → split_at_first separator (text ++ separator ∷ rest) ≡ Some (text, rest)
split_first separator [] rest none = rw (eq-eqb separator separator refl) refl
split_first separator (byte ∷ text) rest none =
    let parts = and_parts (not (eqb byte separator)) (lacks separator text) none in
    rw (not-true (eqb byte separator) parts.0, split_first separator text rest parts.1) refl

split_nowhere : (separator : ℕ) (text : List ℕ) → lacks separator text ≡ true → split_at_first separator text ≡ None
split_nowhere separator [] none = refl
split_nowhere separator (byte ∷ text) none =
    let parts = and_parts (not (eqb byte separator)) (lacks separator text) none in
    rw (not-true (eqb byte separator) parts.0, split_nowhere separator text parts.1) refl

-- ---- numbers have digits alone

abbrev is_digit : ℕ → Bool
is_digit byte = nat_le 48 byte && nat_le byte 57

no_digit : (byte separator : ℕ) → is_digit byte ≡ true → is_digit separator ≡ false → not (eqb byte separator) ≡ true
no_digit byte separator digit other = grind (arith, nat_tests)

digits_lack : (separator value : ℕ) (digits : List ℕ) (n : ℕ) → is_digit separator ≡ false → digits_after value digits ≡ Some n → lacks separator digits ≡ true
digits_lack separator value [] n other e = refl
digits_lack separator value (byte ∷ digits) n other e =
    elim (chosen (is_digit byte) (digits_after (value * 10 + (byte - 48)) digits) None (Some n) e) [
      | inl more ↦
          and_from (not (eqb byte separator)) (lacks separator digits) (no_digit byte separator more.0 other)
          (digits_lack separator (value * 10 + (byte - 48)) digits n other more.1)
      | inr none ↦ absurd (none_is n none.1)
    ]

number_lacks : (separator : ℕ) (digits : List ℕ) (n : ℕ) → is_digit separator ≡ false → number_of 2 digits ≡ Some n → lacks separator digits ≡ true
number_lacks separator digits n other e =
    elim (chosen (nat_lt 0 (length digits) && nat_le (length digits) 2) (digits_after 0 digits) None (Some n) e) [
      | inl right ↦ digits_lack separator 0 digits n other right.1
      | inr none ↦ absurd (none_is n none.1)
    ]

-- counts have both numbers
pub both_numbers : (low high : Option ℕ) → is_some (counts_of low high) ≡ true → (l h : ℕ) × (low ≡ Some l) × (high ≡ Some h)
both_numbers None high e = absurd cc
both_numbers (Some low) None e = absurd cc
both_numbers (Some low) (Some high) e = (low, high, refl, refl)

some_counts : {A : Type 0} (o : Option A) → is_some o ≡ true → (x : A) × (o ≡ Some x)
some_counts None e = absurd cc
some_counts (Some x) e = (x, refl)

-- ---- what is spelled is taken

counts_found : (text rest : List ℕ) (counts : ℕ × ℕ) → lacks 125 text ≡ true → counts_in text ≡ Some counts → counts_at (text ++ 125 ∷ rest) ≡ Some (counts, length text + 1)
unfolding counts_at
counts_found text rest counts none e = rw (split_first 125 text rest none, e) refl

exactly_found : (count rest : List ℕ) (counts : ℕ × ℕ) → exact_counts count ≡ Some counts → counts_at (count ++ 125 ∷ rest) ≡ Some (counts, length count + 1)
exactly_found count rest counts e =
    let numbers = both_numbers (number_of 2 count) (number_of 2 count) (ap is_some e) in
    counts_found count rest counts (number_lacks 125 count numbers.0 refl numbers.2)
    (rw (split_nowhere 44 count (number_lacks 44 count numbers.0 refl numbers.2)) e)

between_found : (low high rest : List ℕ) (counts : ℕ × ℕ) → range_counts low high ≡ Some counts
    → counts_at ((low ++ 44 ∷ high) ++ 125 ∷ rest) ≡ Some (counts, length (low ++ 44 ∷ high) + 1)
between_found low high rest counts e =
    let numbers = both_numbers (number_of 2 low) (number_of 2 high) (ap is_some e) in
    let lacking : lacks 125 (low ++ 44 ∷ high) ≡ true =
    list_all-append (λ byte. not (eqb byte 125)) low (44 ∷ high)
    ∙ and_from (lacks 125 low) (lacks 125 high) (number_lacks 125 low numbers.0 refl numbers.2) (number_lacks 125 high numbers.1 refl numbers.3) in
    counts_found (low ++ 44 ∷ high) rest counts lacking
    (rw (split_first 44 low high (number_lacks 44 low numbers.0 refl numbers.2)) e)

-- a suffix as its first byte and the others
abbrev pub suffix_first : Suffix → ℕ
suffix_first asterisk = 42
suffix_first plus = 43
suffix_first question = 63
suffix_first (exactly count) = 123
suffix_first (between low high) = 123

abbrev pub suffix_others : Suffix → List ℕ
suffix_others asterisk = []
suffix_others plus = []
suffix_others question = []
suffix_others (exactly count) = count ++ 125 ∷ []
suffix_others (between low high) = low ++ 44 ∷ (high ++ 125 ∷ [])

pub suffix_split : (suffix : Suffix) → suffix_bytes suffix ≡ suffix_first suffix ∷ suffix_others suffix
suffix_split asterisk = refl
suffix_split plus = refl
suffix_split question = refl
suffix_split (exactly count) = refl
suffix_split (between low high) = refl

counted_token : (version : Version) (place size : ℕ) (rest : List ℕ) (counts : ℕ × ℕ) → has_counts version ≡ true → counts_at rest ≡ Some (counts, size)
    → token_at version true place 123 rest ≡ Ok (tokens.Repeat (Counted counts.0 counts.1), size + 1)
unfolding token_at counted_at
counted_token version place size rest counts right e = rw (right, e) refl

pub suffix_token : (version : Version) (place : ℕ) (suffix : Suffix) (rest : List ℕ) → is_right_suffix version suffix ≡ true
    → token_at version true place (suffix_first suffix) (suffix_others suffix ++ rest) ≡ Ok (tokens.Repeat (suffix_repeat suffix), suc (length (suffix_others suffix)))
unfolding token_at
suffix_token version place asterisk rest right = refl
suffix_token version place plus rest right = refl
suffix_token version place question rest right = refl
suffix_token version place (exactly count) rest right =
    let parts = and_parts (has_counts version) (is_some (exact_counts count)) right in
    let found = some_counts (exact_counts count) parts.1 in
    let whole : (count ++ 125 ∷ []) ++ rest ≡ count ++ 125 ∷ rest = append_assoc count (125 ∷ []) rest in
    let size : length count + 1 + 1 ≡ suc (length (count ++ 125 ∷ [])) = omega (arith, length-append count (125 ∷ [])) in
    ap (token_at version true place 123) whole
    ∙ counted_token version place (length count + 1) (count ++ 125 ∷ rest) found.0 parts.0 (exactly_found count rest found.0 found.1)
    ∙ ap₂ (λ (o : Option (ℕ × ℕ)) (n : ℕ). Ok (tokens.Repeat (counted o), n)) (sym found.1) size
suffix_token version place (between low high) rest right =
    let parts = and_parts (has_counts version) (is_some (range_counts low high)) right in
    let found = some_counts (range_counts low high) parts.1 in
    let whole : (low ++ 44 ∷ (high ++ 125 ∷ [])) ++ rest ≡ (low ++ 44 ∷ high) ++ 125 ∷ rest = simp append_assoc in
    let size : length (low ++ 44 ∷ high) + 1 + 1 ≡ suc (length (low ++ 44 ∷ (high ++ 125 ∷ []))) = simp length-append (omega arith) in
    ap (token_at version true place 123) whole
    ∙ counted_token version place (length (low ++ 44 ∷ high) + 1) ((low ++ 44 ∷ high) ++ 125 ∷ rest) found.0 parts.0 (between_found low high rest found.0 found.1)
    ∙ ap₂ (λ (o : Option (ℕ × ℕ)) (n : ℕ). Ok (tokens.Repeat (counted o), n)) (sym found.1) size

-- ---- what is taken is spelled

-- the suffix of one token; its size says where the bytes after it begin
abbrev pub SuffixSpelled : Version → ℕ → List ℕ → Repeat → ℕ → Type 0
SuffixSpelled version byte rest repeat size =
    (suffix : Suffix) × (is_right_suffix version suffix ≡ true) × (suffix_repeat suffix ≡ repeat) × (byte ∷ rest ≡ suffix_bytes suffix ++ drop (size - 1) rest)

-- the bytes of counts, and what stands after them
pub record CountsSpelled (bytes : List ℕ) (counts : ℕ × ℕ) (size : ℕ) : Type 0 where
  pub suffix : Suffix
  pub right : is_right_suffix Two suffix ≡ true
  pub repeat : suffix_repeat suffix ≡ Counted counts.0 counts.1
  pub whole : 123 ∷ bytes ≡ suffix_bytes suffix ++ drop size bytes

braced_spelled : (text rest bytes : List ℕ) (counts : ℕ × ℕ) (numbers : Option (List ℕ × List ℕ)) → bytes ≡ text ++ 125 ∷ rest → drop (length text + 1) bytes ≡ rest
    → split_at_first 44 text ≡ numbers → option_map_or (λ (parts : List ℕ × List ℕ). range_counts parts.0 parts.1) numbers (exact_counts text) ≡ Some counts
    → CountsSpelled bytes counts (length text + 1)
braced_spelled text rest bytes counts None whole after split e = record {
  suffix = exactly text;
  right = ap is_some e;
  repeat = ap counted e;
  whole =
      ap (λ (b : List ℕ). 123 ∷ b) (whole ∙ sym (append_assoc text (125 ∷ []) rest))
      ∙ ap (λ (b : List ℕ). 123 ∷ ((text ++ 125 ∷ []) ++ b)) (sym after);
}
braced_spelled text rest bytes counts (Some (low, high)) whole after split e =
    let joined : text ≡ low ++ 44 ∷ high = parts_joined 44 text low high split in
    let lined : (low ++ 44 ∷ high) ++ 125 ∷ rest ≡ (low ++ 44 ∷ (high ++ 125 ∷ [])) ++ rest = simp append_assoc in
    record {
      suffix = between low high;
      right = ap is_some e;
      repeat = ap counted e;
      whole =
          ap (λ (b : List ℕ). 123 ∷ b) (whole ∙ ap (λ (t : List ℕ). t ++ 125 ∷ rest) joined ∙ lined)
          ∙ ap (λ (b : List ℕ). 123 ∷ ((low ++ 44 ∷ (high ++ 125 ∷ [])) ++ b)) (sym after);
    }

counts_spelled : (bytes : List ℕ) (counts : ℕ × ℕ) (size : ℕ) → counts_at bytes ≡ Some (counts, size) → CountsSpelled bytes counts size
unfolding counts_at
counts_spelled bytes counts size e =
    let a = then_some (λ (parts : List ℕ × List ℕ). option_map (λ (c : ℕ × ℕ). (c, length parts.0 + 1)) (counts_in parts.0)) (split_at_first 125 bytes) (counts, size) e in
    let text : List ℕ = a.0.0 in
    let b = mapped (counts_in text) (length text + 1) (counts, size) a.2 in
    let whole : bytes ≡ text ++ 125 ∷ a.0.1 = parts_joined 125 bytes text a.0.1 a.1 in
    let lined : text ++ 125 ∷ a.0.1 ≡ (text ++ 125 ∷ []) ++ a.0.1 = sym (append_assoc text (125 ∷ []) a.0.1) in
    let long : length (text ++ 125 ∷ []) ≡ length text + 1 = length-append text (125 ∷ []) in
    let after : drop (length text + 1) bytes ≡ a.0.1 =
    ap (drop (length text + 1)) (whole ∙ lined) ∙ drop_at (text ++ 125 ∷ []) a.0.1 (length text + 1) long in
    subst (λ (n : ℕ). CountsSpelled bytes counts n) b.1
    (braced_spelled text a.0.1 bytes counts (split_at_first 44 text) whole after refl b.0)
  where
    mapped : (o : Option (ℕ × ℕ)) (n : ℕ) (y : (ℕ × ℕ) × ℕ) → option_map (λ (c : ℕ × ℕ). (c, n)) o ≡ Some y → (o ≡ Some y.0) × (n ≡ y.1)
    mapped None n y e = absurd cc
    mapped (Some c) n y e =
        let same = some_is (c, n) y e in
        (ap (λ (p : (ℕ × ℕ) × ℕ). Some p.0) same, ap (λ (p : (ℕ × ℕ) × ℕ). p.1) same)

pub counted_spelled : (flag : Bool) (place : ℕ) (rest : List ℕ) (found : Token × ℕ) → counted_at flag place rest ≡ Ok found
    → (counts : ℕ × ℕ) × (size : ℕ) × (found ≡ (tokens.Repeat (Counted counts.0 counts.1), size + 1)) × CountsSpelled rest counts size
unfolding counted_at
counted_spelled false place rest found e = absurd (refused (faults.NothingToRepeat place) found e)
counted_spelled true place rest found e =
    let a = map_or_ok (λ (f : (ℕ × ℕ) × ℕ). (tokens.Repeat (Counted f.0.0 f.0.1), f.1 + 1)) (counts_at rest) (faults.BadRepeat place) found e in
    (a.0.0, a.0.1, sym a.2, counts_spelled rest a.0.0 a.0.1 a.1)
