-- Tokens: what a tree's atom spells is taken as one token, and what is taken is spelled.
use Rattle.std.proofs.Common.{◌≡◌, ℕ, ◌+◌, ◌-◌, Bool, true, false, not, ◌&&◌, ◌||◌, cond, eqb, List, [], ◌∷◌, ◌++◌, length, drop, slice_get, Some, Ok, Err, refl, sym, ap, ap₂, subst, ◌∙◌, inl, inr, append_assoc, length-append, true≢false, arith}
use Rattle.std.specs.Option.{option_map_or}
use Rattle.std.specs.List.{list_all}
use Rattle.std.proofs.lemmas.Bool.{and_parts, and_from, eqb-true, ne_eqb}
use Rattle.std.proofs.lemmas.List.{drop_at}
use Rattle.basics.specs.Symbol.{is_symbol, is_text}
use Rattle.pol_pattern.specs.declared.version.Version.{Version}
use Rattle.pol_pattern.specs.declared.version.Version.TheVariants.{One, Two}
use Rattle.pol_pattern.specs.declared.token.Repeat.TheVariants.{Star, Plus, Question}
use Rattle.pol_pattern.specs.declared.token.Token.{Token}
use Rattle.pol_pattern.specs.declared.token.Token.TheVariants as tokens
use Rattle.pol_pattern.specs.declared.fault.PatternFault.TheVariants as faults
use Rattle.pol_pattern.specs.Flat.{Class, class, empty, put}
use Rattle.pol_pattern.specs.Spelling.{Item, asterisk, plus, question, Suffix, is_right_suffix, suffix_repeat, suffix_bytes, has_counts, Atom, literal, dot, bracket, escaped, item_bytes, items_bytes, negation_bytes, atom_bytes, is_special, is_right_item, begins_with_caret, is_right_atom, atom_depth, only, any_symbol, atom_factors}
use Rattle.pol_pattern.specs.Reading.{class_at, counted_at, token_at}
use Rattle.pol_pattern.proofs.Steps.{refused, chosen, ok_is, done, map_or_ok, some_is, none_is}
use Rattle.pol_pattern.proofs.ClassFacts.{class_found}
use Rattle.pol_pattern.proofs.Suffixes.{SuffixSpelled, CountsSpelled, counted_spelled}
use Rattle.pol_pattern.proofs.ClassSpelled.{ClassSpelled, class_spelled}

-- ---- what is spelled is taken

pub not_special : (version : Version) (byte other : ℕ) → is_special version byte ≡ false → is_special version other ≡ true → eqb byte other ≡ false
not_special version byte other ordinary special =
    ne_eqb byte other (λ e. true≢false (sym special ∙ ap (is_special version) (sym e) ∙ ordinary))

pub literal_token : (version : Version) (flag : Bool) (place byte : ℕ) (rest : List ℕ) → is_special version byte ≡ false → token_at version flag place byte rest ≡ Ok (tokens.Atom (only byte), 1)
unfolding token_at
literal_token One flag place byte rest ordinary =
    rw (
      not_special One byte 40 ordinary refl,
      not_special One byte 41 ordinary refl,
      not_special One byte 124 ordinary refl,
      not_special One byte 42 ordinary refl,
      not_special One byte 43 ordinary refl,
      not_special One byte 63 ordinary refl,
      not_special One byte 46 ordinary refl,
      not_special One byte 91 ordinary refl,
      not_special One byte 92 ordinary refl,
    ) refl
literal_token Two flag place byte rest ordinary =
    rw (
      not_special Two byte 40 ordinary refl,
      not_special Two byte 41 ordinary refl,
      not_special Two byte 124 ordinary refl,
      not_special Two byte 42 ordinary refl,
      not_special Two byte 43 ordinary refl,
      not_special Two byte 63 ordinary refl,
      not_special Two byte 46 ordinary refl,
      not_special Two byte 91 ordinary refl,
      not_special Two byte 92 ordinary refl,
      not_special Two byte 123 ordinary refl,
      not_special Two byte 125 ordinary refl,
    ) refl

pub dot_token : (version : Version) (flag : Bool) (place : ℕ) (rest : List ℕ) → token_at version flag place 46 rest ≡ Ok (tokens.Atom any_symbol, 1)
unfolding token_at
dot_token version flag place rest = refl

pub escaped_token : (version : Version) (flag : Bool) (place symbol : ℕ) (rest : List ℕ) → token_at version flag place 92 (symbol ∷ rest) ≡ Ok (tokens.Atom (only symbol), 2)
unfolding token_at
escaped_token version flag place symbol rest = refl

pub bracket_token : (version : Version) (flag : Bool) (place size : ℕ) (rest : List ℕ) (c : Class) → class_at rest ≡ Some (c, size) → token_at version flag place 91 rest ≡ Ok (tokens.Atom c, size + 1)
unfolding token_at
bracket_token version flag place size rest c e = rw e refl

-- ---- what is taken is spelled

-- the tree of one token; its size says where the bytes after it begin
abbrev pub AtomSpelled : Version → ℕ → List ℕ → Class → ℕ → Type 0
AtomSpelled version byte rest c size =
    (tree : Atom) × (is_right_atom version tree ≡ true) × (atom_depth tree ≡ 0) × (atom_factors tree ≡ put (class c) empty) × (byte ∷ rest ≡ atom_bytes tree ++ drop (size - 1) rest)

abbrev pub TokenSpelled : Version → ℕ → List ℕ → Token → ℕ → Type 0
TokenSpelled version byte rest (tokens.Atom c) size = AtomSpelled version byte rest c size
TokenSpelled version byte rest (tokens.Repeat repeat) size = SuffixSpelled version byte rest repeat size
TokenSpelled version byte rest tokens.Bar size = (byte ≡ 124) × (size ≡ 1)
TokenSpelled version byte rest tokens.Open size = (byte ≡ 40) × (size ≡ 1)
TokenSpelled version byte rest tokens.Close size = (byte ≡ 41) × (size ≡ 1)

spelled_by : (version : Version) (byte : ℕ) (rest : List ℕ) (token : Token) (size : ℕ) (found : Token × ℕ) → done (token, size) ≡ Ok found → TokenSpelled version byte rest token size → TokenSpelled version byte rest found.0 found.1
spelled_by version byte rest token size found e h = subst (λ (f : Token × ℕ). TokenSpelled version byte rest f.0 f.1) (ok_is (token, size) found e) h

bracket_size : (negated : Bool) (first : Item) (others : List Item) (rest back : List ℕ) → rest ≡ negation_bytes negated ++ (items_bytes (first ∷ others) ++ 93 ∷ back)
    → drop ((class_found negated first others).1 + 1 - 1) rest ≡ back
bracket_size negated first others rest back whole =
    let taken : List ℕ = negation_bytes negated ++ (items_bytes (first ∷ others) ++ 93 ∷ []) in
    let size : length taken ≡ (class_found negated first others).1 + 1 - 1 = simp length-append (omega arith) in
    let split : rest ≡ taken ++ back = whole ∙ simp append_assoc in
    ap (drop ((class_found negated first others).1 + 1 - 1)) split ∙ drop_at taken back ((class_found negated first others).1 + 1 - 1) size

bracket_spelled : (version : Version) (byte : ℕ) (rest : List ℕ) (found : Class × ℕ) → byte ≡ 91 → ClassSpelled rest found → AtomSpelled version byte rest found.0 (found.1 + 1)
bracket_spelled version byte rest found same (negated, first, others, back, right, caret, is, whole) =
    let after : drop (found.1 + 1 - 1) rest ≡ back = ap (λ (f : Class × ℕ). drop (f.1 + 1 - 1) rest) (sym is) ∙ bracket_size negated first others rest back whole in
    let split : rest ≡ negation_bytes negated ++ item_bytes first ++ items_bytes others ++ 93 ∷ [] ++ back = whole ∙ simp append_assoc in (
      bracket negated first others,
      and_from (list_all is_right_item (first ∷ others)) (negated || not (begins_with_caret first)) right caret,
      refl,
      ap (λ (f : Class × ℕ). put (class f.0) empty) is,
      ap₂ (λ (b : ℕ) (r : List ℕ). b ∷ r) same (split ∙ ap (λ (r : List ℕ). negation_bytes negated ++ item_bytes first ++ items_bytes others ++ 93 ∷ [] ++ r) (sym after)),
    )

escaped_spelled : (version : Version) (byte : ℕ) (rest : List ℕ) (symbol : ℕ) → byte ≡ 92 → is_text rest ≡ true → slice_get rest 0 ≡ Some symbol → AtomSpelled version byte rest (only symbol) 2
escaped_spelled version byte [] symbol same text e = absurd (none_is symbol e)
escaped_spelled version byte (first ∷ rest) symbol same text e =
    let is : first ≡ symbol = some_is first symbol e in
    (escaped symbol, ap is_symbol (sym is) ∙ (and_parts (is_symbol first) (is_text rest) text).0, refl, refl, ap₂ (λ (b s : ℕ). b ∷ s ∷ rest) same is)

sign_spelled : (version : Version) (byte : ℕ) (rest : List ℕ) (found : Token × ℕ) (suffix : Suffix) (sign : ℕ) → is_right_suffix version suffix ≡ true → suffix_bytes suffix ≡ sign ∷ [] → byte ≡ sign
    → done (tokens.Repeat (suffix_repeat suffix), 1) ≡ Ok found → TokenSpelled version byte rest found.0 found.1
sign_spelled version byte rest found suffix sign right one same e =
    spelled_by version byte rest (tokens.Repeat (suffix_repeat suffix)) 1 found e
    (suffix, right, refl, ap (λ (b : ℕ). b ∷ rest) same ∙ ap (λ (b : List ℕ). b ++ rest) (sym one))

pub counts_version : (version : Version) (byte sign : ℕ) → (has_counts version && eqb byte sign) ≡ true → (version ≡ Two) × (byte ≡ sign)
counts_version One byte sign e = absurd cc
counts_version Two byte sign e = (refl, eqb-true byte sign e)

repeat_spelled : (version : Version) (flag : Bool) (place byte : ℕ) (rest : List ℕ) (found : Token × ℕ) → version ≡ Two → byte ≡ 123 → counted_at flag place rest ≡ Ok found → TokenSpelled version byte rest found.0 found.1
repeat_spelled version flag place byte rest found two same e =
    let a = counted_spelled flag place rest found e in
    let h : CountsSpelled rest a.0 a.1 = a.3 in
    let size : a.1 + 1 - 1 ≡ a.1 = omega arith in
    subst (λ (f : Token × ℕ). TokenSpelled version byte rest f.0 f.1) (sym a.2) (
      h.suffix,
      ap (λ (v : Version). is_right_suffix v h.suffix) two ∙ h.right,
      h.repeat,
      ap (λ (b : ℕ). b ∷ rest) same ∙ h.whole ∙ ap (λ (n : ℕ). suffix_bytes h.suffix ++ drop n rest) (sym size),
    )

-- braces that count, and what represents itself
last_spelled : (version : Version) (flag : Bool) (place byte : ℕ) (rest : List ℕ) (found : Token × ℕ) → is_symbol byte ≡ true
    → ((has_counts version && eqb byte 123) ≡ false → (has_counts version && eqb byte 125) ≡ false → is_special version byte ≡ false)
    → cond (has_counts version && eqb byte 123) (counted_at flag place rest)
    (cond (has_counts version && eqb byte 125) (Err (faults.BadRepeat place)) (done (tokens.Atom (only byte), 1)))
    ≡ Ok found
    → TokenSpelled version byte rest found.0 found.1
last_spelled version flag place byte rest found symbol ordinary e =
    elim (chosen (has_counts version && eqb byte 123) (counted_at flag place rest) _ (done found) e) [
      | inl counts ↦
          let two = counts_version version byte 123 counts.0 in
          repeat_spelled version flag place byte rest found two.0 two.1 counts.1
      | inr e1 ↦
          elim (chosen (has_counts version && eqb byte 125) (Err (faults.BadRepeat place)) (done (tokens.Atom (only byte), 1)) (done found) e1.1) [
            | inl ends ↦ absurd (refused (faults.BadRepeat place) found ends.1)
            | inr e2 ↦
                spelled_by version byte rest (tokens.Atom (only byte)) 1 found e2.1
                (literal byte, and_from (is_symbol byte) (not (is_special version byte)) symbol (ap not (ordinary e1.0 e2.0)), refl, refl, refl)
          ]
    ]

-- the last kinds of atoms, and braces
atom_spelled : (version : Version) (flag : Bool) (place byte : ℕ) (rest : List ℕ) (found : Token × ℕ) → is_symbol byte ≡ true → is_text rest ≡ true
    → (eqb byte 91 ≡ false → eqb byte 92 ≡ false → (has_counts version && eqb byte 123) ≡ false → (has_counts version && eqb byte 125) ≡ false → is_special version byte ≡ false)
    → cond (eqb byte 91) (option_map_or (λ (f : Class × ℕ). done (tokens.Atom f.0, f.1 + 1)) (class_at rest) (Err (faults.BadClass place)))
    (cond (eqb byte 92) (option_map_or (λ (symbol : ℕ). done (tokens.Atom (only symbol), 2)) (slice_get rest 0) (Err (faults.BadEscape place)))
    (cond (has_counts version && eqb byte 123) (counted_at flag place rest)
    (cond (has_counts version && eqb byte 125) (Err (faults.BadRepeat place)) (done (tokens.Atom (only byte), 1)))))
    ≡ Ok found
    → TokenSpelled version byte rest found.0 found.1
atom_spelled version flag place byte rest found symbol text ordinary e =
    elim (chosen (eqb byte 91) _ _ (done found) e) [
      | inl opens ↦
          let a = map_or_ok (λ (f : Class × ℕ). (tokens.Atom f.0, f.1 + 1)) (class_at rest) (faults.BadClass place) found opens.1 in
          subst (λ (f : Token × ℕ). TokenSpelled version byte rest f.0 f.1) a.2 (bracket_spelled version byte rest a.0 (eqb-true byte 91 opens.0) (class_spelled rest a.0 text a.1))
      | inr e1 ↦
          elim (chosen (eqb byte 92) _ _ (done found) e1.1) [
            | inl quotes ↦
                let a = map_or_ok (λ (s : ℕ). (tokens.Atom (only s), 2)) (slice_get rest 0) (faults.BadEscape place) found quotes.1 in
                subst (λ (f : Token × ℕ). TokenSpelled version byte rest f.0 f.1) a.2 (escaped_spelled version byte rest a.0 (eqb-true byte 92 quotes.0) text a.1)
            | inr e2 ↦ last_spelled version flag place byte rest found symbol (ordinary e1.0 e2.0) e2.1
          ]
    ]

-- a byte that is none of these
ordinary_by : (version : Version) (byte : ℕ) → eqb byte 40 ≡ false → eqb byte 41 ≡ false → eqb byte 124 ≡ false → eqb byte 42 ≡ false → eqb byte 43 ≡ false → eqb byte 63 ≡ false → eqb byte 46 ≡ false
    → eqb byte 91 ≡ false → eqb byte 92 ≡ false → (has_counts version && eqb byte 123) ≡ false → (has_counts version && eqb byte 125) ≡ false → is_special version byte ≡ false
ordinary_by One byte e1 e2 e3 e4 e5 e6 e7 e8 e9 e10 e11 = rw (e1, e2, e3, e4, e5, e6, e7, e8, e9) refl
ordinary_by Two byte e1 e2 e3 e4 e5 e6 e7 e8 e9 e10 e11 = rw (e1, e2, e3, e4, e5, e6, e7, e8, e9, e10, e11) refl

pub token_spelled : (version : Version) (flag : Bool) (place byte : ℕ) (rest : List ℕ) (found : Token × ℕ) → is_text (byte ∷ rest) ≡ true → token_at version flag place byte rest ≡ Ok found → TokenSpelled version byte rest found.0 found.1
unfolding token_at
token_spelled version flag place byte rest found text e =
    let symbol = and_parts (is_symbol byte) (is_text rest) text in
    elim (chosen (eqb byte 40) (done (tokens.Open, 1)) _ (done found) e) [
      | inl h ↦ spelled_by version byte rest tokens.Open 1 found h.1 (eqb-true byte 40 h.0, refl)
      | inr e1 ↦ elim (chosen (eqb byte 41) (done (tokens.Close, 1)) _ (done found) e1.1) [
        | inl h ↦ spelled_by version byte rest tokens.Close 1 found h.1 (eqb-true byte 41 h.0, refl)
        | inr e2 ↦ elim (chosen (eqb byte 124) (done (tokens.Bar, 1)) _ (done found) e2.1) [
          | inl h ↦ spelled_by version byte rest tokens.Bar 1 found h.1 (eqb-true byte 124 h.0, refl)
          | inr e3 ↦ elim (chosen (eqb byte 42) (done (tokens.Repeat Star, 1)) _ (done found) e3.1) [
            | inl h ↦ sign_spelled version byte rest found asterisk 42 refl refl (eqb-true byte 42 h.0) h.1
            | inr e4 ↦ elim (chosen (eqb byte 43) (done (tokens.Repeat Plus, 1)) _ (done found) e4.1) [
              | inl h ↦ sign_spelled version byte rest found plus 43 refl refl (eqb-true byte 43 h.0) h.1
              | inr e5 ↦ elim (chosen (eqb byte 63) (done (tokens.Repeat Question, 1)) _ (done found) e5.1) [
                | inl h ↦ sign_spelled version byte rest found question 63 refl refl (eqb-true byte 63 h.0) h.1
                | inr e6 ↦ elim (chosen (eqb byte 46) (done (tokens.Atom any_symbol, 1)) _ (done found) e6.1) [
                  | inl h ↦ spelled_by version byte rest (tokens.Atom any_symbol) 1 found h.1 (dot, refl, refl, refl, ap (λ (b : ℕ). b ∷ rest) (eqb-true byte 46 h.0))
                  | inr e7 ↦
                      atom_spelled version flag place byte rest found symbol.0 symbol.1
                      (ordinary_by version byte e1.0 e2.0 e3.0 e4.0 e5.0 e6.0 e7.0) e7.1
                ]
              ]
            ]
          ]
        ]
      ]
    ]
