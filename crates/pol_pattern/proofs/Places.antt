-- What a fault of a reading says of the bytes.
use Rattle.std.proofs.Common.{◌≡◌, ℕ, zero, suc, ◌+◌, ◌-◌, ◌<◌, ◌⊎◌, Bool, true, false, ◌&&◌, ◌||◌, cond, eqb, nat_le, List, [], ◌∷◌, ◌++◌, length, get_or, drop, take, Option, Some, None, Result, Ok, Err, refl, sym, ap, ap₂, subst, ◌∙◌, inl, inr, append_assoc, arith, true≢false}
use Rattle.std.specs.Prelude.{slice_get}
use Rattle.std.specs.Option.{option_map_or}
use Rattle.std.specs.List.{list_all}
use Rattle.std.proofs.lemmas.Bool.{and_parts}
use Rattle.basics.specs.Symbol.{is_symbol, is_text}
use Rattle.pol_pattern.specs.declared.version.Version.{Version}
use Rattle.pol_pattern.specs.declared.version.Version.TheVariants.{One, Two}
use Rattle.pol_pattern.specs.declared.token.Token.{Token}
use Rattle.pol_pattern.specs.declared.token.Token.TheVariants as tokens
use Rattle.pol_pattern.specs.declared.token.Repeat.TheVariants.{Star, Plus, Question, Counted}
use Rattle.pol_pattern.specs.declared.fault.PatternFault.{PatternFault}
use Rattle.pol_pattern.specs.declared.fault.PatternFault.TheVariants as faults
use Rattle.pol_pattern.specs.Flat.{Class}
use Rattle.pol_pattern.specs.Spelling.{Suffix, asterisk, plus, question, exactly, between, negation_bytes, items_bytes, is_right_suffix, is_right_item, has_counts, only, any_symbol}
use Rattle.pol_pattern.specs.Reading.{◌>>=◌, class_at, counts_at, counted_at, token_at, Context, closed, context_after, at_end, tokens_from}
use Rattle.pol_pattern.specs.Places.{StandsAt, repeats, BeginsSequence, BeginsNoClass, BeginsNoSuffix, AreAlternatives, FaultOf}
use Rattle.pol_pattern.proofs.Steps.{chosen, done, ok_is, refused}
use Rattle.pol_pattern.proofs.ClassFacts.{class_taken, class_found}
use Rattle.pol_pattern.proofs.Suffixes.{suffix_first, suffix_others, suffix_split, suffix_token}
use Rattle.pol_pattern.proofs.TokenFacts.{TokenSpelled, token_spelled, counts_version}

-- ---- faults of steps

abbrev pub failing : {A : Type 0} → PatternFault → Result A PatternFault
failing fault = Err fault

pub same_fault : {A : Type 0} (a b : PatternFault) → failing {A = A} a ≡ failing b → a ≡ b
same_fault a b e = cc

pub bind_err : {A B : Type 0} (r : Result A PatternFault) (f : A → Result B PatternFault) (fault : PatternFault) → (r >>= f) ≡ Err fault
    → (r ≡ Err fault) ⊎ ((x : A) × (r ≡ Ok x) × (f x ≡ Err fault))
bind_err (Ok x) f fault e = inr (x, refl, e)
bind_err {A} {B} (Err other) f fault e = inl (ap (λ (f : PatternFault). failing {A = A} f) (same_fault {A = B} other fault e))

map_or_err : {A B : Type 0} (f : A → B) (o : Option A) (other fault : PatternFault) → option_map_or (λ x. done (f x)) o (Err other) ≡ Err fault → (o ≡ None) × (other ≡ fault)
map_or_err {A} {B} f None other fault e = (refl, same_fault {A = B} other fault e)
map_or_err f (Some x) other fault e = absurd (refused fault (f x) (sym e))

-- ---- a byte at its place

pub byte_at : (whole : List ℕ) (place byte : ℕ) (rest : List ℕ) → drop place whole ≡ byte ∷ rest → (place < length whole) × (get_or whole place 0 ≡ byte) × (drop (place + 1) whole ≡ rest)
byte_at [] zero byte rest e = absurd cc
byte_at [] (suc place) byte rest e = absurd cc
byte_at (x ∷ whole) zero byte rest e = (omega arith, cc, cc)
byte_at (x ∷ whole) (suc place) byte rest e =
    let r = byte_at whole place byte rest e in
    let more : suc place + 1 ≡ suc (place + 1) = omega arith in
    (omega (arith, r.0), r.1, ap (λ (n : ℕ). drop n (x ∷ whole)) more ∙ r.2)

stands : (test : ℕ → Bool) (whole : List ℕ) (place byte : ℕ) (rest : List ℕ) → drop place whole ≡ byte ∷ rest → test byte ≡ true → StandsAt test whole place
stands test whole place byte rest e is =
    let r = byte_at whole place byte rest e in
    (r.0, ap test r.1 ∙ is)

last_byte : (whole : List ℕ) (place byte : ℕ) → drop place whole ≡ byte ∷ [] → place + 1 ≡ length whole
last_byte [] zero byte e = absurd cc
last_byte [] (suc place) byte e = absurd cc
last_byte (x ∷ []) zero byte e = refl
last_byte (x ∷ y ∷ whole) zero byte e = absurd cc
last_byte (x ∷ whole) (suc place) byte e = omega (arith, last_byte whole place byte e)

-- ---- the faults of a token

-- the fault before the end of the bytes
abbrev pub Early : Version → List ℕ → PatternFault → Type 0
Early version whole (faults.Unclosed place) = ⊥
Early version whole (faults.Unopened place) = StandsAt (λ byte. eqb byte 41) whole place
Early version whole fault = FaultOf version whole fault

-- the fault of a token by itself
abbrev pub OfToken : Version → List ℕ → PatternFault → Type 0
OfToken version whole (faults.Unopened place) = ⊥
OfToken version whole fault = Early version whole fault

pub early_fault : (version : Version) (whole : List ℕ) (fault : PatternFault) → ((place : ℕ) → fault ≡ faults.Unopened place → AreAlternatives version (take place whole)) → Early version whole fault → FaultOf version whole fault
early_fault version whole faults.TooLong before h = h
early_fault version whole (faults.Unprintable place) before h = h
early_fault version whole (faults.Unclosed place) before h = absurd h
early_fault version whole (faults.Unopened place) before h = (h, before place refl)
early_fault version whole (faults.NothingToRepeat place) before h = h
early_fault version whole (faults.BadClass place) before h = h
early_fault version whole (faults.BadEscape place) before h = h
early_fault version whole faults.TooDeep before h = h
early_fault version whole faults.TooLarge before h = h
early_fault version whole faults.Memory before h = h
early_fault version whole (faults.BadRepeat place) before h = h

pub token_early : (version : Version) (whole : List ℕ) (fault : PatternFault) → OfToken version whole fault → Early version whole fault
token_early version whole faults.TooLong h = h
token_early version whole (faults.Unprintable place) h = h
token_early version whole (faults.Unclosed place) h = absurd h
token_early version whole (faults.Unopened place) h = absurd h
token_early version whole (faults.NothingToRepeat place) h = h
token_early version whole (faults.BadClass place) h = h
token_early version whole (faults.BadEscape place) h = h
token_early version whole faults.TooDeep h = h
token_early version whole faults.TooLarge h = h
token_early version whole faults.Memory h = h
token_early version whole (faults.BadRepeat place) h = h

no_class : (version : Version) (byte : ℕ) (rest : List ℕ) → class_at rest ≡ None → BeginsNoClass version (byte ∷ rest)
no_class version byte rest none negated first others back right e =
    let parts = and_parts (list_all is_right_item (first ∷ others)) _ right in
    let inside : rest ≡ negation_bytes negated ++ (items_bytes (first ∷ others) ++ 93 ∷ back) = tail_of byte 91 rest _ e ∙ simp append_assoc in
    absurd (none_some (class_found negated first others) (sym none ∙ ap class_at inside ∙ class_taken negated first others back parts.0 parts.1))
  where
    tail_of : (a b : ℕ) (x y : List ℕ) → a ∷ x ≡ b ∷ y → x ≡ y
    tail_of a b x y e = cc

    none_some : (found : Class × ℕ) → None ≡ Some found → ⊥
    none_some found e = cc

no_suffix : (version : Version) (place byte : ℕ) (rest : List ℕ) (fault : PatternFault) → token_at version true place byte rest ≡ Err fault → BeginsNoSuffix version (byte ∷ rest)
no_suffix version place byte rest fault e suffix back right is =
    let split : byte ∷ rest ≡ suffix_first suffix ∷ (suffix_others suffix ++ back) = is ∙ ap (λ (b : List ℕ). b ++ back) (suffix_split suffix) in
    let first : byte ≡ suffix_first suffix = heads byte (suffix_first suffix) rest _ split in
    let others : rest ≡ suffix_others suffix ++ back = tails byte (suffix_first suffix) rest _ split in
    refused fault _ (sym e ∙ ap₂ (λ (b : ℕ) (r : List ℕ). token_at version true place b r) first others ∙ suffix_token version place suffix back right)
  where
    heads : (a b : ℕ) (x y : List ℕ) → a ∷ x ≡ b ∷ y → a ≡ b
    heads a b x y e = cc

    tails : (a b : ℕ) (x y : List ℕ) → a ∷ x ≡ b ∷ y → x ≡ y
    tails a b x y e = cc

sign_repeats : (version : Version) (suffix : Suffix) → is_right_suffix version suffix ≡ true → repeats version (suffix_first suffix) ≡ true
sign_repeats version asterisk right = refl
sign_repeats version plus right = refl
sign_repeats version question right = refl
sign_repeats One (exactly count) right = absurd cc
sign_repeats Two (exactly count) right = refl
sign_repeats One (between low high) right = absurd cc
sign_repeats Two (between low high) right = refl

-- a `{` that counts
counted_fault : (version : Version) (flag : Bool) (whole : List ℕ) (place byte : ℕ) (rest : List ℕ) (fault : PatternFault) → drop place whole ≡ byte ∷ rest → (flag ≡ false → BeginsSequence whole place)
    → version ≡ Two → byte ≡ 123 → token_at version flag place byte rest ≡ Err fault → counted_at flag place rest ≡ Err fault → OfToken version whole fault
unfolding counted_at
counted_fault version false whole place byte rest fault here begins two is token e =
    let brace : repeats version byte ≡ true = ap₂ repeats two is in
    subst (OfToken version whole) (same_fault {A = Token × ℕ} (faults.NothingToRepeat place) fault e) (stands (repeats version) whole place byte rest here brace, begins refl)
counted_fault version true whole place byte rest fault here begins two is token e =
    let none = map_or_err (λ (f : (ℕ × ℕ) × ℕ). (tokens.Repeat (Counted f.0.0 f.0.1), f.1 + 1)) (counts_at rest) (faults.BadRepeat place) fault e in
    subst (OfToken version whole) none.1 (
      ap has_counts two,
      inl (
        stands (λ (b : ℕ). eqb b 123) whole place byte rest here (ap (λ (b : ℕ). eqb b 123) is),
        subst (BeginsNoSuffix version) (sym here) (no_suffix version place byte rest fault token),
      ),
    )

-- braces
brace_fault : (version : Version) (flag : Bool) (whole : List ℕ) (place byte : ℕ) (rest : List ℕ) (fault : PatternFault) → drop place whole ≡ byte ∷ rest → (flag ≡ false → BeginsSequence whole place)
    → token_at version flag place byte rest ≡ Err fault
    → cond (has_counts version && eqb byte 123) (counted_at flag place rest)
    (cond (has_counts version && eqb byte 125) (Err (faults.BadRepeat place)) (done (tokens.Atom (only byte), 1)))
    ≡ Err fault
    → OfToken version whole fault
brace_fault version flag whole place byte rest fault here begins token e =
    elim (chosen (has_counts version && eqb byte 123) (counted_at flag place rest) _ (Err fault) e) [
      | inl counts ↦
          let two = counts_version version byte 123 counts.0 in
          counted_fault version flag whole place byte rest fault here begins two.0 two.1 token counts.1
      | inr e1 ↦
          elim (chosen (has_counts version && eqb byte 125) (Err (faults.BadRepeat place)) (done (tokens.Atom (only byte), 1)) (Err fault) e1.1) [
            | inl ends ↦
                let two = counts_version version byte 125 ends.0 in
                subst (OfToken version whole) (same_fault {A = Token × ℕ} (faults.BadRepeat place) fault ends.1)
                (ap has_counts two.0, inr (stands (λ (b : ℕ). eqb b 125) whole place byte rest here (ap (λ (b : ℕ). eqb b 125) two.1)))
            | inr e2 ↦ absurd (refused fault (tokens.Atom (only byte), 1) (sym e2.1))
          ]
    ]

nothing_after : (rest : List ℕ) → slice_get rest 0 ≡ None → rest ≡ []
nothing_after [] e = refl
nothing_after (x ∷ rest) e = absurd cc

pub token_fault : (version : Version) (flag : Bool) (whole : List ℕ) (place byte : ℕ) (rest : List ℕ) (fault : PatternFault) → drop place whole ≡ byte ∷ rest → (flag ≡ false → BeginsSequence whole place)
    → token_at version flag place byte rest ≡ Err fault → OfToken version whole fault
unfolding token_at
token_fault version flag whole place byte rest fault here begins e =
    elim (chosen (eqb byte 40) (done (tokens.Open, 1)) _ (Err fault) e) [
      | inl h ↦ absurd (refused fault (tokens.Open, 1) (sym h.1))
      | inr e1 ↦ elim (chosen (eqb byte 41) (done (tokens.Close, 1)) _ (Err fault) e1.1) [
        | inl h ↦ absurd (refused fault (tokens.Close, 1) (sym h.1))
        | inr e2 ↦ elim (chosen (eqb byte 124) (done (tokens.Bar, 1)) _ (Err fault) e2.1) [
          | inl h ↦ absurd (refused fault (tokens.Bar, 1) (sym h.1))
          | inr e3 ↦ elim (chosen (eqb byte 42) (done (tokens.Repeat Star, 1)) _ (Err fault) e3.1) [
            | inl h ↦ absurd (refused fault (tokens.Repeat Star, 1) (sym h.1))
            | inr e4 ↦ elim (chosen (eqb byte 43) (done (tokens.Repeat Plus, 1)) _ (Err fault) e4.1) [
              | inl h ↦ absurd (refused fault (tokens.Repeat Plus, 1) (sym h.1))
              | inr e5 ↦ elim (chosen (eqb byte 63) (done (tokens.Repeat Question, 1)) _ (Err fault) e5.1) [
                | inl h ↦ absurd (refused fault (tokens.Repeat Question, 1) (sym h.1))
                | inr e6 ↦ elim (chosen (eqb byte 46) (done (tokens.Atom any_symbol, 1)) _ (Err fault) e6.1) [
                  | inl h ↦ absurd (refused fault (tokens.Atom any_symbol, 1) (sym h.1))
                  | inr e7 ↦ elim (chosen (eqb byte 91) _ _ (Err fault) e7.1) [
                    | inl h ↦
                        let none = map_or_err (λ (f : Class × ℕ). (tokens.Atom f.0, f.1 + 1)) (class_at rest) (faults.BadClass place) fault h.1 in
                        subst (OfToken version whole) none.1 (
                          stands (λ (b : ℕ). eqb b 91) whole place byte rest here h.0,
                          subst (BeginsNoClass version) (sym here) (no_class version byte rest none.0),
                        )
                    | inr e8 ↦ elim (chosen (eqb byte 92) _ _ (Err fault) e8.1) [
                      | inl h ↦
                          let none = map_or_err (λ (s : ℕ). (tokens.Atom (only s), 2)) (slice_get rest 0) (faults.BadEscape place) fault h.1 in
                          subst (OfToken version whole) none.1 (
                            stands (λ (b : ℕ). eqb b 92) whole place byte rest here h.0,
                            last_byte whole place byte (here ∙ ap (λ (r : List ℕ). byte ∷ r) (nothing_after rest none.0)),
                          )
                      | inr e9 ↦ brace_fault version flag whole place byte rest fault here begins e e9.1
                    ]
                  ]
                ]
              ]
            ]
          ]
        ]
      ]
    ]

-- ---- the faults of what a token makes of the context

-- the places of the parentheses that are open
abbrev pub Opened : List ℕ → List ℕ → Type 0
Opened whole [] = Unit {0}
Opened whole (last ∷ others) = StandsAt (λ byte. eqb byte 40) whole last × Opened whole others

stray : (version : Version) (whole : List ℕ) (place byte : ℕ) (rest opened : List ℕ) (fault : PatternFault) → drop place whole ≡ byte ∷ rest → byte ≡ 41 → closed place opened ≡ Err fault → Early version whole fault
stray version whole place byte rest [] fault here is e =
    subst (Early version whole) (same_fault {A = Context} (faults.Unopened place) fault e) (stands (λ (b : ℕ). eqb b 41) whole place byte rest here (ap (λ (b : ℕ). eqb b 41) is))
stray version whole place byte rest (last ∷ opened) fault here is e = absurd (refused fault _ (sym e))

pub context_fault : (version : Version) (whole : List ℕ) (place byte : ℕ) (rest : List ℕ) (token : Token) (size : ℕ) (context : Context) (fault : PatternFault) → drop place whole ≡ byte ∷ rest
    → TokenSpelled version byte rest token size → (context.has_atom ≡ false → BeginsSequence whole place) → context_after place token context ≡ Err fault → Early version whole fault
unfolding context_after
context_fault version whole place byte rest (tokens.Atom c) size context fault here spelled begins e = absurd (refused fault _ (sym e))
context_fault version whole place byte rest (tokens.Repeat repeat) size context fault here (suffix, right, same, is) begins e =
    elim (chosen context.has_atom (done context) _ (Err fault) e) [
      | inl atom ↦ absurd (refused fault context (sym atom.1))
      | inr none ↦
          subst (Early version whole) (same_fault {A = Context} (faults.NothingToRepeat place) fault none.1) (
            stands (repeats version) whole place byte rest here
                (ap (repeats version) (first_is byte (suffix_first suffix) rest _ (is ∙ ap (λ (b : List ℕ). b ++ drop (size - 1) rest) (suffix_split suffix))) ∙ sign_repeats version suffix right),
            begins none.0,
          )
    ]
  where
    first_is : (a b : ℕ) (x y : List ℕ) → a ∷ x ≡ b ∷ y → a ≡ b
    first_is a b x y e = cc
context_fault version whole place byte rest tokens.Bar size context fault here spelled begins e = absurd (refused fault _ (sym e))
context_fault version whole place byte rest tokens.Open size context fault here spelled begins e =
    elim (chosen (nat_le 32 (length context.opened)) (Err faults.TooDeep) _ (Err fault) e) [
      | inl deep ↦ subst (Early version whole) (same_fault {A = Context} faults.TooDeep fault deep.1) tt
      | inr room ↦ absurd (refused fault _ (sym room.1))
    ]
context_fault version whole place byte rest tokens.Close size context fault here (is, one) begins e = stray version whole place byte rest context.opened fault here is e

-- what is known of the context at a place, before these many bytes are passed over
pub record Known (whole : List ℕ) (place skip : ℕ) (context : Context) : Type 0 where
  pub opened : Opened whole context.opened
  pub begins : context.has_atom ≡ false → (skip ≡ 0) × BeginsSequence whole place

closed_known : (whole : List ℕ) (place at skip : ℕ) (opened : List ℕ) (next : Context) → Opened whole opened → closed at opened ≡ Ok next → Known whole place skip next
closed_known whole place at skip [] next known e = absurd (refused (faults.Unopened at) next e)
closed_known whole place at skip (last ∷ opened) next known e =
    subst (Known whole place skip) (ok_context (record { opened = opened; has_atom = true }) next e) (record { opened = known.1; begins = λ none. absurd (true≢false none) })
  where
    ok_context : (a b : Context) → done a ≡ done b → a ≡ b
    ok_context a b e = cc

-- a sequence begins after a byte that is a `(` or a `|`
begins_after : (whole : List ℕ) (place byte : ℕ) (rest : List ℕ) → drop place whole ≡ byte ∷ rest → (λ (b : ℕ). eqb b 40 || eqb b 124) byte ≡ true → BeginsSequence whole (place + 1)
begins_after whole place byte rest here is =
    let same : place ≡ place + 1 - 1 = omega arith in
    inr (subst (StandsAt (λ (b : ℕ). eqb b 40 || eqb b 124) whole) same (stands (λ (b : ℕ). eqb b 40 || eqb b 124) whole place byte rest here is))

pub context_known : (version : Version) (whole : List ℕ) (place byte : ℕ) (rest : List ℕ) (token : Token) (size : ℕ) (context next : Context) → drop place whole ≡ byte ∷ rest
    → TokenSpelled version byte rest token size → Known whole place 0 context → context_after place token context ≡ Ok next → Known whole (place + 1) (size - 1) next
unfolding context_after
context_known version whole place byte rest (tokens.Atom c) size context next here spelled known e =
    subst (Known whole (place + 1) (size - 1)) (ok_is (record context { has_atom = true }) next e) (record { opened = known.opened; begins = λ none. absurd (true≢false none) })
context_known version whole place byte rest (tokens.Repeat repeat) size context next here spelled known e =
    elim (chosen context.has_atom (done context) _ (done next) e) [
      | inl atom ↦ subst (Known whole (place + 1) (size - 1)) (ok_is context next atom.1) (record { opened = known.opened; begins = λ none. absurd (true≢false (sym atom.0 ∙ none)) })
      | inr none ↦ absurd (refused (faults.NothingToRepeat place) next none.1)
    ]
context_known version whole place byte rest tokens.Bar size context next here (is, one) known e =
    subst (Known whole (place + 1) (size - 1)) (ok_is (record context { has_atom = false }) next e) (record {
      opened = known.opened;
      begins = λ none. (omega (arith, one), begins_after whole place byte rest here (ap (λ (b : ℕ). eqb b 40 || eqb b 124) is));
    })
context_known version whole place byte rest tokens.Open size context next here (is, one) known e =
    elim (chosen (nat_le 32 (length context.opened)) (Err faults.TooDeep) _ (done next) e) [
      | inl deep ↦ absurd (refused faults.TooDeep next deep.1)
      | inr room ↦
          subst (Known whole (place + 1) (size - 1)) (ok_is (record { opened = place ∷ context.opened; has_atom = false }) next room.1) (record {
            opened = (stands (λ (b : ℕ). eqb b 40) whole place byte rest here (ap (λ (b : ℕ). eqb b 40) is), known.opened);
            begins = λ none. (omega (arith, one), begins_after whole place byte rest here (ap (λ (b : ℕ). eqb b 40 || eqb b 124) is));
          })
    ]
context_known version whole place byte rest tokens.Close size context next here (is, one) known e = closed_known whole (place + 1) place (size - 1) context.opened next known.opened e

-- ---- the faults of all tokens

-- at the end the last parenthesis that is open
end_fault : (whole opened : List ℕ) (fault : PatternFault) → Opened whole opened → at_end opened ≡ Err fault → (last : ℕ) × (fault ≡ faults.Unclosed last) × StandsAt (λ byte. eqb byte 40) whole last
end_fault whole [] fault known e = absurd (refused fault _ (sym e))
end_fault whole (last ∷ others) fault known e = (last, sym (same_fault {A = List Token} (faults.Unclosed last) fault e), known.0)

pub tokens_fault : (version : Version) (whole : List ℕ) (place skip : ℕ) (context : Context) (bytes : List ℕ) (fault : PatternFault) → drop place whole ≡ bytes → is_text bytes ≡ true → Known whole place skip context
    → tokens_from version place skip context bytes ≡ Err fault
    → Early version whole fault ⊎ ((last : ℕ) × (fault ≡ faults.Unclosed last) × StandsAt (λ byte. eqb byte 40) whole last)
unfolding tokens_from
tokens_fault version whole place zero context [] fault here text known e = inr (end_fault whole context.opened fault known.opened e)
tokens_fault version whole place (suc skip) context [] fault here text known e = inr (end_fault whole context.opened fault known.opened e)
tokens_fault version whole place (suc skip) context (byte ∷ rest) fault here text known e =
    tokens_fault version whole (place + 1) skip context rest fault (byte_at whole place byte rest here).2 (and_parts (is_symbol byte) (is_text rest) text).1
    (record { opened = known.opened; begins = λ none. absurd (omega (arith, (known.begins none).0)) }) e
tokens_fault version whole place zero context (byte ∷ rest) fault here text known e =
    elim (bind_err (token_at version context.has_atom place byte rest) _ fault e) [
      | inl read ↦ inl (token_early version whole fault (token_fault version context.has_atom whole place byte rest fault here (λ none. (known.begins none).1) read))
      | inr a ↦
          let spelled = token_spelled version context.has_atom place byte rest a.0 text a.1 in
          elim (bind_err (context_after place a.0.0 context) _ fault a.2) [
            | inl stopped ↦ inl (context_fault version whole place byte rest a.0.0 a.0.1 context fault here spelled (λ none. (known.begins none).1) stopped)
            | inr b ↦
                elim (bind_err (tokens_from version (place + 1) (a.0.1 - 1) b.0 rest) (λ others. done (a.0.0 ∷ others)) fault b.2) [
                  | inl later ↦
                      tokens_fault version whole (place + 1) (a.0.1 - 1) b.0 rest fault (byte_at whole place byte rest here).2 (and_parts (is_symbol byte) (is_text rest) text).1
                      (context_known version whole place byte rest a.0.0 a.0.1 context b.0 here spelled known b.1) later
                  | inr c ↦ absurd (refused fault _ (sym c.2))
                ]
          ]
    ]
