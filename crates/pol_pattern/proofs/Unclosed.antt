-- What follows the last parenthesis that is still open: alternatives, up to the end.
use Rattle.std.proofs.Common.{◌≡◌, ℕ, zero, suc, ◌+◌, ◌-◌, ◌<◌, ◌⊎◌, Bool, true, false, eqb, nat_le, List, [], ◌∷◌, ◌++◌, length, drop, Result, Ok, Err, refl, sym, ap, subst, ◌∙◌, inl, inr, length-append, arith}
use Rattle.std.proofs.lemmas.Bool.{and_parts, leb-false, lt-leb, cases_Bool, eqb-true, eqb-false}
use Rattle.basics.specs.Symbol.{is_symbol, is_text}
use Rattle.pol_pattern.specs.declared.version.Version.{Version}
use Rattle.pol_pattern.specs.declared.token.Token.{Token}
use Rattle.pol_pattern.specs.declared.token.Token.TheVariants as tokens
use Rattle.pol_pattern.specs.declared.fault.PatternFault.{PatternFault}
use Rattle.pol_pattern.specs.declared.fault.PatternFault.TheVariants as faults
use Rattle.pol_pattern.specs.Reading.{token_at, Context, outermost, closed, context_after, at_end, tokens_from}
use Rattle.pol_pattern.specs.Places.{AreAlternatives}
use Rattle.pol_pattern.proofs.Steps.{chosen, done, ok_is, refused}
use Rattle.pol_pattern.proofs.Soundness.{tokens_tree}
use Rattle.pol_pattern.proofs.TokenFacts.{token_spelled}
use Rattle.pol_pattern.proofs.Places.{same_fault, bind_err, byte_at, token_fault, context_fault, Known, context_known}

abbrev context_of : List ℕ → Bool → Context
context_of opened flag = record { opened = opened; has_atom = flag }

-- none of the places is this one
abbrev Apart : ℕ → List ℕ → Type 0
Apart last [] = Unit {0}
Apart last (place ∷ places) = (place ≡ last → ⊥) × Apart last places

-- ---- one token on

abbrev OneOn : Version → List ℕ → ℕ → Context → ℕ → List ℕ → ℕ → Type 0
OneOn version whole place context byte rest last =
    (token : Token) × (size : ℕ) × (next : Context) × (token_at version context.has_atom place byte rest ≡ Ok (token, size)) × (context_after place token context ≡ Ok next)
    × Known whole (place + 1) (size - 1) next × (tokens_from version (place + 1) (size - 1) next rest ≡ Err (faults.Unclosed last))

one_on : (version : Version) (whole : List ℕ) (place : ℕ) (context : Context) (byte : ℕ) (rest : List ℕ) (last : ℕ) → drop place whole ≡ byte ∷ rest → is_text (byte ∷ rest) ≡ true → Known whole place 0 context
    → tokens_from version place 0 context (byte ∷ rest) ≡ Err (faults.Unclosed last) → OneOn version whole place context byte rest last
unfolding tokens_from
one_on version whole place context byte rest last here text known e =
    elim (bind_err (token_at version context.has_atom place byte rest) _ (faults.Unclosed last) e) [
      | inl read ↦ absurd (token_fault version context.has_atom whole place byte rest (faults.Unclosed last) here (λ none. (known.begins none).1) read)
      | inr a ↦
          let spelled = token_spelled version context.has_atom place byte rest a.0 text a.1 in
          elim (bind_err (context_after place a.0.0 context) _ (faults.Unclosed last) a.2) [
            | inl stopped ↦ absurd (context_fault version whole place byte rest a.0.0 a.0.1 context (faults.Unclosed last) here spelled (λ none. (known.begins none).1) stopped)
            | inr b ↦
                elim (bind_err (tokens_from version (place + 1) (a.0.1 - 1) b.0 rest) (λ others. done (a.0.0 ∷ others)) (faults.Unclosed last) b.2) [
                  | inl later ↦ (a.0.0, a.0.1, b.0, a.1, b.1, context_known version whole place byte rest a.0.0 a.0.1 context b.0 here spelled known b.1, later)
                  | inr c ↦ absurd (refused (faults.Unclosed last) _ (sym c.2))
                ]
          ]
    ]

apart_closed : (place last : ℕ) (opened : List ℕ) (next : Context) → Apart last opened → closed place opened ≡ Ok next → Apart last next.opened
apart_closed place last [] next apart e = absurd (refused (faults.Unopened place) next e)
apart_closed place last (first ∷ opened) next apart e = subst (λ (c : Context). Apart last c.opened) (ok_is (context_of opened true) next e) apart.1

apart_after : (place last : ℕ) (token : Token) (context next : Context) → (token ≡ tokens.Open → place ≡ last → ⊥) → Apart last context.opened → context_after place token context ≡ Ok next → Apart last next.opened
unfolding context_after
apart_after place last (tokens.Atom c) context next other apart e = subst (λ (c : Context). Apart last c.opened) (ok_is (record context { has_atom = true }) next e) apart
apart_after place last (tokens.Repeat repeat) context next other apart e =
    elim (chosen context.has_atom (done context) _ (done next) e) [
      | inl atom ↦ subst (λ (c : Context). Apart last c.opened) (ok_is context next atom.1) apart
      | inr none ↦ absurd (refused (faults.NothingToRepeat place) next none.1)
    ]
apart_after place last tokens.Bar context next other apart e = subst (λ (c : Context). Apart last c.opened) (ok_is (record context { has_atom = false }) next e) apart
apart_after place last tokens.Open context next other apart e =
    elim (chosen (nat_le 32 (length context.opened)) (Err faults.TooDeep) _ (done next) e) [
      | inl deep ↦ absurd (refused faults.TooDeep next deep.1)
      | inr room ↦ subst (λ (c : Context). Apart last c.opened) (ok_is (context_of (place ∷ context.opened) false) next room.1) (other refl, apart)
    ]
apart_after place last tokens.Close context next other apart e = apart_closed place last context.opened next apart e

-- ---- bytes that are passed over

skipped : (whole : List ℕ) (place skip : ℕ) (context : Context) → Known whole place (suc skip) context → Known whole (place + 1) skip context
skipped whole place skip context known = record { opened = known.opened; begins = λ none. absurd (omega (arith, (known.begins none).0)) }

unskipped : (version : Version) (place skip : ℕ) (context : Context) (byte : ℕ) (rest : List ℕ) (read : Result (List Token) PatternFault) → tokens_from version place (suc skip) context (byte ∷ rest) ≡ read → tokens_from version (place + 1) skip context rest ≡ read
unfolding tokens_from
unskipped version place skip context byte rest read e = e

reskipped : (version : Version) (place skip : ℕ) (context : Context) (byte : ℕ) (rest : List ℕ) (read : Result (List Token) PatternFault) → tokens_from version (place + 1) skip context rest ≡ read → tokens_from version place (suc skip) context (byte ∷ rest) ≡ read
unfolding tokens_from
reskipped version place skip context byte rest read e = e

at_end_of : (version : Version) (place skip : ℕ) (context : Context) → tokens_from version place skip context [] ≡ at_end context.opened
unfolding tokens_from
at_end_of version place zero context = refl
at_end_of version place (suc skip) context = refl

-- ---- a parenthesis that isn't open any more

ended : (last : ℕ) (opened : List ℕ) → Apart last opened → at_end opened ≡ Err (faults.Unclosed last) → ⊥
ended last [] apart e = refused (faults.Unclosed last) _ (sym e)
ended last (first ∷ others) apart e = apart.0 (places first last (same_fault {A = List Token} (faults.Unclosed first) (faults.Unclosed last) e))
  where
    places : (a b : ℕ) → faults.Unclosed a ≡ faults.Unclosed b → a ≡ b
    places a b e = cc

not_again : (version : Version) (whole : List ℕ) (place skip : ℕ) (context : Context) (bytes : List ℕ) (last : ℕ) → drop place whole ≡ bytes → is_text bytes ≡ true → Known whole place skip context
    → last < place → Apart last context.opened → tokens_from version place skip context bytes ≡ Err (faults.Unclosed last) → ⊥
not_again version whole place skip context [] last here text known past apart e = ended last context.opened apart (sym (at_end_of version place skip context) ∙ e)
not_again version whole place zero context (byte ∷ rest) last here text known past apart e =
    let on = one_on version whole place context byte rest last here text known e in
    not_again version whole (place + 1) (on.1 - 1) on.2 rest last (byte_at whole place byte rest here).2 (and_parts (is_symbol byte) (is_text rest) text).1 on.5 (omega (arith, past))
    (apart_after place last on.0 context on.2 (λ opens same. omega (arith, same, past)) apart on.4) on.6
not_again version whole place (suc skip) context (byte ∷ rest) last here text known past apart e =
    not_again version whole (place + 1) skip context rest last (byte_at whole place byte rest here).2 (and_parts (is_symbol byte) (is_text rest) text).1 (skipped whole place skip context known) (omega (arith, past)) apart
    (unskipped version place skip context byte rest (Err (faults.Unclosed last)) e)

-- ---- a parenthesis that stays open

-- the contexts with it and without those up to it, or it is closed
abbrev StaysOpen : ℕ → ℕ → Token → List ℕ → List ℕ → Bool → Context → Type 0
StaysOpen place last token inner outer flag next =
    (others : List ℕ) × (now : Bool) × (next ≡ context_of (others ++ last ∷ outer) now) × Apart last others × (context_after place token (context_of inner flag) ≡ Ok (context_of others now))

inner_closed : (place last : ℕ) (inner outer : List ℕ) (flag : Bool) (next : Context) → Apart last inner → closed place (inner ++ last ∷ outer) ≡ Ok next → StaysOpen place last tokens.Close inner outer flag next ⊎ (next.opened ≡ outer)
unfolding context_after
inner_closed place last [] outer flag next apart e = inr (ap (λ (c : Context). c.opened) (sym (ok_is (context_of outer true) next e)))
inner_closed place last (first ∷ inner) outer flag next apart e = inl (inner, true, sym (ok_is (context_of (inner ++ last ∷ outer) true) next e), apart.1, refl)

inner_after : (place last : ℕ) (token : Token) (inner outer : List ℕ) (flag : Bool) (next : Context) → (place ≡ last → ⊥) → Apart last inner → context_after place token (context_of (inner ++ last ∷ outer) flag) ≡ Ok next
    → StaysOpen place last token inner outer flag next ⊎ (next.opened ≡ outer)
unfolding context_after
inner_after place last (tokens.Atom c) inner outer flag next other apart e = inl (inner, true, sym (ok_is (context_of (inner ++ last ∷ outer) true) next e), apart, refl)
inner_after place last (tokens.Repeat repeat) inner outer true next other apart e = inl (inner, true, sym (ok_is (context_of (inner ++ last ∷ outer) true) next e), apart, refl)
inner_after place last (tokens.Repeat repeat) inner outer false next other apart e = absurd (refused (faults.NothingToRepeat place) next e)
inner_after place last tokens.Bar inner outer flag next other apart e = inl (inner, false, sym (ok_is (context_of (inner ++ last ∷ outer) false) next e), apart, refl)
inner_after place last tokens.Open inner outer flag next other apart e =
    elim (chosen (nat_le 32 (length (inner ++ last ∷ outer))) (Err faults.TooDeep) _ (done next) e) [
      | inl deep ↦ absurd (refused faults.TooDeep next deep.1)
      | inr room ↦
          let few : length inner < 32 = omega (arith, leb-false 32 (length (inner ++ last ∷ outer)) room.0, length-append inner (last ∷ outer)) in
          inl (place ∷ inner, false, sym (ok_is (context_of (place ∷ (inner ++ last ∷ outer)) false) next room.1), (other, apart), rw (lt-leb 32 (length inner) few) refl)
    ]
inner_after place last tokens.Close inner outer flag next other apart e = inner_closed place last inner outer flag next apart e

-- one token in front of those that are read
in_front : (version : Version) (place byte : ℕ) (rest : List ℕ) (context next : Context) (token : Token) (size : ℕ) (found : List Token) → token_at version context.has_atom place byte rest ≡ Ok (token, size)
    → context_after place token context ≡ Ok next → tokens_from version (place + 1) (size - 1) next rest ≡ Ok found → tokens_from version place 0 context (byte ∷ rest) ≡ Ok (token ∷ found)
unfolding tokens_from
in_front version place byte rest context next token size found read after others = rw (read, after, others) refl

abbrev Inside : Version → ℕ → ℕ → List ℕ → Bool → List ℕ → Type 0
Inside version place skip inner flag bytes = (found : List Token) × (tokens_from version place skip (context_of inner flag) bytes ≡ Ok found)

inside_end : (version : Version) (place skip : ℕ) (inner outer : List ℕ) (flag : Bool) (last : ℕ) → Apart last inner → at_end (inner ++ last ∷ outer) ≡ Err (faults.Unclosed last) → Inside version place skip inner flag []
inside_end version place skip [] outer flag last apart e = ([], at_end_of version place skip (context_of [] flag))
inside_end version place skip (first ∷ inner) outer flag last apart e = absurd (ended last (first ∷ []) (apart.0, tt) e)

-- what is read after the parenthesis is read without it
inside : (version : Version) (whole : List ℕ) (place skip : ℕ) (inner outer : List ℕ) (flag : Bool) (bytes : List ℕ) (last : ℕ) → drop place whole ≡ bytes → is_text bytes ≡ true
    → Known whole place skip (context_of (inner ++ last ∷ outer) flag) → last < place → Apart last inner → Apart last outer
    → tokens_from version place skip (context_of (inner ++ last ∷ outer) flag) bytes ≡ Err (faults.Unclosed last) → Inside version place skip inner flag bytes
inside version whole place skip inner outer flag [] last here text known past apart around e =
    inside_end version place skip inner outer flag last apart (sym (at_end_of version place skip (context_of (inner ++ last ∷ outer) flag)) ∙ e)
inside version whole place zero inner outer flag (byte ∷ rest) last here text known past apart around e =
    let after = (byte_at whole place byte rest here).2 in
    let later = (and_parts (is_symbol byte) (is_text rest) text).1 in
    let on = one_on version whole place (context_of (inner ++ last ∷ outer) flag) byte rest last here text known e in
    elim (inner_after place last on.0 inner outer flag on.2 (λ same. omega (arith, same, past)) apart on.4) [
      | inl stays ↦
          let more = inside version whole (place + 1) (on.1 - 1) stays.0 outer stays.1 rest last after later
          (subst (Known whole (place + 1) (on.1 - 1)) stays.2 on.5) (omega (arith, past)) stays.3 around
          (subst (λ (c : Context). tokens_from version (place + 1) (on.1 - 1) c rest ≡ Err (faults.Unclosed last)) stays.2 on.6) in
          (on.0 ∷ more.0, in_front version place byte rest (context_of inner flag) (context_of stays.0 stays.1) on.0 on.1 more.0 on.3 stays.4 more.1)
      | inr gone ↦
          absurd (not_again version whole (place + 1) (on.1 - 1) on.2 rest last after later on.5 (omega (arith, past)) (subst (Apart last) (sym gone) around) on.6)
    ]
inside version whole place (suc skip) inner outer flag (byte ∷ rest) last here text known past apart around e =
    let more = inside version whole (place + 1) skip inner outer flag rest last (byte_at whole place byte rest here).2 (and_parts (is_symbol byte) (is_text rest) text).1 (skipped whole place skip _ known) (omega (arith, past)) apart around
    (unskipped version place skip (context_of (inner ++ last ∷ outer) flag) byte rest (Err (faults.Unclosed last)) e) in
    (more.0, reskipped version place skip (context_of inner flag) byte rest (Ok more.0) more.1)

opens : (token : Token) → (token ≡ tokens.Open) ⊎ (token ≡ tokens.Open → ⊥)
opens (tokens.Atom c) = inr (λ is. cc)
opens (tokens.Repeat repeat) = inr (λ is. cc)
opens tokens.Bar = inr (λ is. cc)
opens tokens.Open = inl refl
opens tokens.Close = inr (λ is. cc)

opened_next : (place : ℕ) (token : Token) (context next : Context) → token ≡ tokens.Open → context_after place token context ≡ Ok next → next ≡ context_of (place ∷ context.opened) false
unfolding context_after
opened_next place (tokens.Atom c) context next is e = absurd cc
opened_next place (tokens.Repeat repeat) context next is e = absurd cc
opened_next place tokens.Bar context next is e = absurd cc
opened_next place tokens.Open context next is e =
    elim (chosen (nat_le 32 (length context.opened)) (Err faults.TooDeep) _ (done next) e) [
      | inl deep ↦ absurd (refused faults.TooDeep next deep.1)
      | inr room ↦ sym (ok_is (context_of (place ∷ context.opened) false) next room.1)
    ]
opened_next place tokens.Close context next is e = absurd cc

-- the parenthesis is the one that opens at this place
from_here : (version : Version) (whole : List ℕ) (place skip : ℕ) (opened rest : List ℕ) (last : ℕ) → place ≡ last → drop (place + 1) whole ≡ rest → is_text rest ≡ true → Known whole (place + 1) skip (context_of (place ∷ opened) false)
    → Apart last opened → tokens_from version (place + 1) skip (context_of (place ∷ opened) false) rest ≡ Err (faults.Unclosed last) → AreAlternatives version (drop (last + 1) whole)
from_here version whole place skip opened rest last same after text known apart e =
    let known_last = subst (λ (p : ℕ). Known whole (place + 1) skip (context_of (p ∷ opened) false)) same known in
    let read_last = subst (λ (p : ℕ). tokens_from version (place + 1) skip (context_of (p ∷ opened) false) rest ≡ Err (faults.Unclosed last)) same e in
    let found = inside version whole (place + 1) skip [] opened false rest last after text known_last (omega (arith, same)) tt apart read_last in
    let none : skip ≡ 0 = (known.begins refl).0 in
    let of = tokens_tree version rest (place + 1) found.0 text (subst (λ (n : ℕ). tokens_from version (place + 1) n outermost rest ≡ Ok found.0) none found.1) in
    (of.tree, of.right, of.spelled ∙ sym after ∙ ap (λ (p : ℕ). drop (p + 1) whole) same)

pub unclosed : (version : Version) (whole : List ℕ) (place skip : ℕ) (context : Context) (bytes : List ℕ) (last : ℕ) → drop place whole ≡ bytes → is_text bytes ≡ true → Known whole place skip context
    → Apart last context.opened → tokens_from version place skip context bytes ≡ Err (faults.Unclosed last) → AreAlternatives version (drop (last + 1) whole)
unclosed version whole place skip context [] last here text known apart e = absurd (ended last context.opened apart (sym (at_end_of version place skip context) ∙ e))
unclosed version whole place zero context (byte ∷ rest) last here text known apart e =
    let after = (byte_at whole place byte rest here).2 in
    let later = (and_parts (is_symbol byte) (is_text rest) text).1 in
    let on = one_on version whole place context byte rest last here text known e in
    elim (opens on.0) [
      | inr other ↦
          unclosed version whole (place + 1) (on.1 - 1) on.2 rest last after later on.5 (apart_after place last on.0 context on.2 (λ is. absurd (other is)) apart on.4) on.6
      | inl first ↦
          elim (cases_Bool (eqb place last)) [
            | inl same ↦
                let next = opened_next place on.0 context on.2 first on.4 in
                from_here version whole place (on.1 - 1) context.opened rest last (eqb-true place last same) after later
                (subst (Known whole (place + 1) (on.1 - 1)) next on.5) apart
                (subst (λ (c : Context). tokens_from version (place + 1) (on.1 - 1) c rest ≡ Err (faults.Unclosed last)) next on.6)
            | inr other ↦
                unclosed version whole (place + 1) (on.1 - 1) on.2 rest last after later on.5 (apart_after place last on.0 context on.2 (λ is. eqb-false place last other) apart on.4) on.6
          ]
    ]
unclosed version whole place (suc skip) context (byte ∷ rest) last here text known apart e =
    unclosed version whole (place + 1) skip context rest last (byte_at whole place byte rest here).2 (and_parts (is_symbol byte) (is_text rest) text).1 (skipped whole place skip context known) apart
    (unskipped version place skip context byte rest (Err (faults.Unclosed last)) e)
