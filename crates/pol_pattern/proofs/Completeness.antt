-- What the grammar allows is read.
use Rattle.std.proofs.Common.{◌≡◌, ℕ, suc, ◌+◌, ◌≤◌, Bool, true, false, not, ◌&&◌, ◌||◌, List, [], ◌∷◌, ◌++◌, length, None, Result, Ok, Err, refl, sym, ap, ap₂, ◌∙◌, append_assoc, append-nil, length-append, arith}
use Rattle.std.specs.Prelude.{position}
use Rattle.std.specs.List.{list_all, position_from}
use Rattle.std.proofs.lemmas.Bool.{and_parts, not-true, le-ltb}
use Rattle.std.proofs.lemmas.Iterator.Adapters.{position_from-zero}
use Rattle.basics.specs.Symbol.{is_symbol, is_text}
use Rattle.pol_pattern.specs.declared.version.Version.{Version}
use Rattle.pol_pattern.specs.declared.token.Token.{Token}
use Rattle.pol_pattern.specs.declared.token.Token.TheVariants as tokens
use Rattle.pol_pattern.specs.declared.fault.PatternFault.{PatternFault}
use Rattle.pol_pattern.specs.Flat.{Class, class, group, empty, put, Terms, terms_size}
use Rattle.pol_pattern.specs.Spelling.{Suffix, suffix_bytes, is_right_suffix, suffix_repeat, Item, most_bytes, Alternatives, Sequence, Repetition, Atom, single, or, nothing, next, once, repeated, literal, dot, bracket, parentheses, escaped, item_bytes, items_bytes, negation_bytes, alternatives_bytes, sequence_bytes, repetition_bytes, atom_bytes, is_special, is_right_item, begins_with_caret, is_right_alternatives, is_right_sequence, is_right_repetition, is_right_atom, alternatives_depth, sequence_depth, repetition_depth, atom_depth, only, any_symbol, bracket_class, alternatives_terms, atom_factors, SpellsBy}
use Rattle.pol_pattern.specs.Reading.{◌>>=◌, token_at, tokens_from, Level, fresh, with_atom, with_repeat, with_bar, finished, build, sized, is_unprintable, reading_by}
use Rattle.pol_pattern.proofs.TreeLevels.{repetition_level, sequence_level, alternatives_level, fresh_finished}
use Rattle.pol_pattern.proofs.ReadOn.{context_of, built, read_on, read_atom, read_repeat, read_bar, read_open, read_close, tokens_past}
use Rattle.pol_pattern.proofs.Suffixes.{suffix_first, suffix_others, suffix_split, suffix_token}
use Rattle.pol_pattern.proofs.ClassFacts.{class_taken}
use Rattle.pol_pattern.proofs.TokenFacts.{literal_token, dot_token, escaped_token, bracket_token}
use Rattle.pol_pattern.proofs.TreeTexts.{alternatives_text}

-- ---- atoms of one class

-- an atom of one class, which takes these bytes
leaf_read : (version : Version) (place byte : ℕ) (taken rest opened : List ℕ) (flag : Bool) (level : Level) (outer : List Level) (c : Class) → token_at version flag place byte (taken ++ rest) ≡ Ok (tokens.Atom c, suc (length taken))
    → read_on version place 0 opened flag level outer (byte ∷ taken ++ rest) ≡ read_on version (place + suc (length taken)) 0 opened true (with_atom level (put (class c) empty)) outer rest
leaf_read version place byte taken rest opened flag level outer c e =
    read_atom version place byte (length taken) (taken ++ rest) opened flag level outer c e
    ∙ ap (built (with_atom level (put (class c) empty)) outer) (tokens_past version taken rest (place + 1) (context_of opened true))
    ∙ ap (λ (p : ℕ). read_on version p 0 opened true (with_atom level (put (class c) empty)) outer rest) (omega arith)

bracket_read : (version : Version) (negated : Bool) (first : Item) (others : List Item) (place : ℕ) (rest opened : List ℕ) (flag : Bool) (level : Level) (outer : List Level)
    → list_all is_right_item (first ∷ others) ≡ true → (negated || not (begins_with_caret first)) ≡ true
    → read_on version place 0 opened flag level outer (atom_bytes (bracket negated first others) ++ rest)
    ≡ read_on version (place + length (atom_bytes (bracket negated first others))) 0 opened true (with_atom level (atom_factors (bracket negated first others))) outer rest
bracket_read version negated first others place rest opened flag level outer right caret =
    let taken : List ℕ = negation_bytes negated ++ item_bytes first ++ items_bytes others ++ 93 ∷ [] in
    let whole : taken ++ rest ≡ negation_bytes negated ++ (items_bytes (first ∷ others) ++ 93 ∷ rest) = simp append_assoc in
    let size : length (negation_bytes negated) + length (items_bytes (first ∷ others)) + 1 + 1 ≡ suc (length taken) = simp length-append (omega arith) in
    leaf_read version place 91 taken rest opened flag level outer (bracket_class negated (first ∷ others))
    (ap (token_at version flag place 91) whole
    ∙ bracket_token version flag place _ _ _ (class_taken negated first others rest right caret)
    ∙ ap (λ (n : ℕ). Ok (tokens.Atom (bracket_class negated (first ∷ others)), n)) size)

-- a suffix, after an atom
pub suffix_read : (version : Version) (suffix : Suffix) (place : ℕ) (rest opened : List ℕ) (level : Level) (outer : List Level) → is_right_suffix version suffix ≡ true
    → read_on version place 0 opened true level outer (suffix_bytes suffix ++ rest)
    ≡ read_on version (place + length (suffix_bytes suffix)) 0 opened true (with_repeat level (suffix_repeat suffix)) outer rest
suffix_read version suffix place rest opened level outer right =
    let taken : List ℕ = suffix_others suffix in
    let next : Level = with_repeat level (suffix_repeat suffix) in
    let size : place + 1 + length taken ≡ place + length (suffix_first suffix ∷ taken) = omega arith in
    ap (λ (b : List ℕ). read_on version place 0 opened true level outer (b ++ rest)) (suffix_split suffix)
    ∙ read_repeat version place (suffix_first suffix) (length taken) (taken ++ rest) opened level outer (suffix_repeat suffix) (suffix_token version place suffix rest right)
    ∙ ap (built next outer) (tokens_past version taken rest (place + 1) (context_of opened true))
    ∙ ap (λ (p : ℕ). read_on version p 0 opened true next outer rest) size
    ∙ ap (λ (b : List ℕ). read_on version (place + length b) 0 opened true next outer rest) (sym (suffix_split suffix))

-- ---- trees

abbrev pub flag_after : Bool → Sequence → Bool
flag_after flag nothing = flag
flag_after flag (next first others) = true

still_after : (tree : Sequence) → flag_after true tree ≡ true
still_after nothing = refl
still_after (next first others) = refl

abbrev pub last_flag : Bool → Alternatives → Bool
last_flag flag (single sequence) = flag_after flag sequence
last_flag flag (or sequence others) = last_flag false others

mutual
  pub alternatives_read : (version : Version) (tree : Alternatives) (place : ℕ) (rest opened : List ℕ) (flag : Bool) (level : Level) (outer : List Level) → is_right_alternatives version tree ≡ true → length opened + alternatives_depth tree ≤ 32
      → read_on version place 0 opened flag level outer (alternatives_bytes tree ++ rest) ≡ read_on version (place + length (alternatives_bytes tree)) 0 opened (last_flag flag tree) (alternatives_level level tree) outer rest
  alternatives_read version (single sequence) place rest opened flag level outer right few = sequence_read version sequence place rest opened flag level outer right few
  alternatives_read version (or sequence others) place rest opened flag level outer right few =
      let parts = and_parts (is_right_sequence version sequence) (is_right_alternatives version others) right in
      let level1 : Level = sequence_level level sequence in
      ap (read_on version place 0 opened flag level outer) (append_assoc (sequence_bytes sequence) (124 ∷ alternatives_bytes others) rest)
      ∙ sequence_read version sequence place (124 ∷ alternatives_bytes others ++ rest) opened flag level outer parts.0 (omega arith)
      ∙ read_bar version (place + length (sequence_bytes sequence)) (alternatives_bytes others ++ rest) opened (flag_after flag sequence) level1 outer
      ∙ alternatives_read version others (place + length (sequence_bytes sequence) + 1) rest opened false (with_bar level1) outer parts.1 (omega arith)
      ∙ ap (λ (p : ℕ). read_on version p 0 opened (last_flag false others) (alternatives_level (with_bar level1) others) outer rest)
      (omega (arith, length-append (sequence_bytes sequence) (124 ∷ alternatives_bytes others)))

  pub sequence_read : (version : Version) (tree : Sequence) (place : ℕ) (rest opened : List ℕ) (flag : Bool) (level : Level) (outer : List Level) → is_right_sequence version tree ≡ true → length opened + sequence_depth tree ≤ 32
      → read_on version place 0 opened flag level outer (sequence_bytes tree ++ rest) ≡ read_on version (place + length (sequence_bytes tree)) 0 opened (flag_after flag tree) (sequence_level level tree) outer rest
  sequence_read version nothing place rest opened flag level outer right few = ap (λ (p : ℕ). read_on version p 0 opened flag level outer rest) (omega arith)
  sequence_read version (next first others) place rest opened flag level outer right few =
      let parts = and_parts (is_right_repetition version first) (is_right_sequence version others) right in
      ap (read_on version place 0 opened flag level outer) (append_assoc (repetition_bytes first) (sequence_bytes others) rest)
      ∙ repetition_read version first place (sequence_bytes others ++ rest) opened flag level outer parts.0 (omega arith)
      ∙ sequence_read version others (place + length (repetition_bytes first)) rest opened true (repetition_level level first) outer parts.1 (omega arith)
      ∙ ap₂ (λ (p : ℕ) (f : Bool). read_on version p 0 opened f (sequence_level (repetition_level level first) others) outer rest)
      (omega (arith, length-append (repetition_bytes first) (sequence_bytes others))) (still_after others)

  pub repetition_read : (version : Version) (tree : Repetition) (place : ℕ) (rest opened : List ℕ) (flag : Bool) (level : Level) (outer : List Level) → is_right_repetition version tree ≡ true → length opened + repetition_depth tree ≤ 32
      → read_on version place 0 opened flag level outer (repetition_bytes tree ++ rest) ≡ read_on version (place + length (repetition_bytes tree)) 0 opened true (repetition_level level tree) outer rest
  repetition_read version (once atom) place rest opened flag level outer right few = atom_read version atom place rest opened flag level outer right few
  repetition_read version (repeated inner suffix) place rest opened flag level outer right few =
      let parts = and_parts (is_right_repetition version inner) (is_right_suffix version suffix) right in
      ap (read_on version place 0 opened flag level outer) (append_assoc (repetition_bytes inner) (suffix_bytes suffix) rest)
      ∙ repetition_read version inner place (suffix_bytes suffix ++ rest) opened flag level outer parts.0 few
      ∙ suffix_read version suffix (place + length (repetition_bytes inner)) rest opened (repetition_level level inner) outer parts.1
      ∙ ap (λ (p : ℕ). read_on version p 0 opened true (with_repeat (repetition_level level inner) (suffix_repeat suffix)) outer rest)
      (omega (arith, length-append (repetition_bytes inner) (suffix_bytes suffix)))

  pub atom_read : (version : Version) (tree : Atom) (place : ℕ) (rest opened : List ℕ) (flag : Bool) (level : Level) (outer : List Level) → is_right_atom version tree ≡ true → length opened + atom_depth tree ≤ 32
      → read_on version place 0 opened flag level outer (atom_bytes tree ++ rest) ≡ read_on version (place + length (atom_bytes tree)) 0 opened true (with_atom level (atom_factors tree)) outer rest
  atom_read version (literal symbol) place rest opened flag level outer right few =
      leaf_read version place symbol [] rest opened flag level outer (only symbol)
      (literal_token version flag place symbol rest (not-true (is_special version symbol) (and_parts (is_symbol symbol) (not (is_special version symbol)) right).1))
  atom_read version dot place rest opened flag level outer right few = leaf_read version place 46 [] rest opened flag level outer any_symbol (dot_token version flag place rest)
  atom_read version (bracket negated first others) place rest opened flag level outer right few =
      let parts = and_parts (is_right_item first && list_all is_right_item others) (negated || not (begins_with_caret first)) right in
      bracket_read version negated first others place rest opened flag level outer parts.0 parts.1
  atom_read version (parentheses inner) place rest opened flag level outer right few =
      let around : List Level = level ∷ outer in
      let end : ℕ = place + 1 + length (alternatives_bytes inner) in
      let level1 : Level = alternatives_level fresh inner in
      ap (λ (bytes : List ℕ). read_on version place 0 opened flag level outer (40 ∷ bytes)) (append_assoc (alternatives_bytes inner) (41 ∷ []) rest)
      ∙ read_open version place (alternatives_bytes inner ++ 41 ∷ rest) opened flag level outer (omega arith)
      ∙ alternatives_read version inner (place + 1) (41 ∷ rest) (place ∷ opened) false fresh around right (omega arith)
      ∙ read_close version end place rest opened (last_flag false inner) level1 level outer
      ∙ ap₂ (λ (p : ℕ) (terms : Terms). read_on version p 0 opened true (with_atom level (put (group terms) empty)) outer rest)
      (omega (arith, length-append (alternatives_bytes inner) (41 ∷ []))) (fresh_finished inner)
  atom_read version (escaped symbol) place rest opened flag level outer right few = leaf_read version place 92 (symbol ∷ []) rest opened flag level outer (only symbol) (escaped_token version flag place symbol rest)

-- ---- patterns

pub no_place : (i : ℕ) (bytes : List ℕ) → is_text bytes ≡ true → position_from is_unprintable i bytes ≡ None
no_place i [] text = refl
no_place i (byte ∷ rest) text =
    let parts = and_parts (is_symbol byte) (is_text rest) text in
    rw parts.0 (no_place (i + 1) rest parts.1)

end_read : (version : Version) (place : ℕ) (flag : Bool) (level : Level) → read_on version place 0 [] flag level [] [] ≡ Ok (finished level)
unfolding tokens_from build
end_read version place flag level = refl

pub tree_read : (version : Version) (tree : Alternatives) → is_right_alternatives version tree ≡ true → alternatives_depth tree ≤ 32 → read_on version 0 0 [] false fresh [] (alternatives_bytes tree) ≡ Ok (alternatives_terms tree)
tree_read version tree right few =
    ap (read_on version 0 0 [] false fresh []) (sym (append-nil (alternatives_bytes tree)))
    ∙ alternatives_read version tree 0 [] [] false fresh [] right (omega arith)
    ∙ end_read version (0 + length (alternatives_bytes tree)) (last_flag false tree) (alternatives_level fresh tree)
    ∙ ap (λ (terms : Terms). Ok terms) (fresh_finished tree)

-- a reading is what reading on gives, unless that is too large
pub sized_after : (read : Result (List Token) PatternFault) → (read >>= λ tokens. sized (build fresh [] tokens)) ≡ (built fresh [] read >>= sized)
sized_after (Ok tokens) = refl
sized_after (Err fault) = refl

pub spells_reads : (version : Version) (bytes : List ℕ) (flat : Terms) → SpellsBy version bytes flat → reading_by version bytes ≡ Ok flat
unfolding reading_by
spells_reads version bytes flat h =
    let text : is_text bytes ≡ true = ap is_text (sym h.2) ∙ alternatives_text version h.0 h.1 in
    let printable : position is_unprintable bytes ≡ None = position_from-zero is_unprintable bytes ∙ no_place 0 bytes text in
    let read : read_on version 0 0 [] false fresh [] bytes ≡ Ok flat =
    ap (read_on version 0 0 [] false fresh []) (sym h.2) ∙ tree_read version h.0 h.1 h.5 ∙ ap (λ (terms : Terms). Ok terms) h.3 in
    rw (le-ltb (most_bytes version) (length bytes) h.4, printable)
    (sized_after (tokens_from version 0 0 (context_of [] false) bytes) ∙ ap (λ (r : Result Terms PatternFault). r >>= sized) read
    ∙ rw (le-ltb 400 (terms_size flat) h.6) refl)
