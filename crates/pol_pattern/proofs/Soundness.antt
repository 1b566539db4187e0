-- What is read the grammar allows.
use Rattle.std.proofs.Common.{◌≡◌, ℕ, zero, suc, ◌+◌, ◌-◌, ◌≤◌, ◌<◌, Bool, true, false, nat_le, nat_lt, List, [], ◌∷◌, ◌++◌, length, drop, Option, Some, None, Result, Ok, Err, refl, sym, ap, subst, ◌∙◌, inl, inr, append_assoc, append-nil, arith, true≢false}
use Rattle.std.specs.Prelude.{position}
use Rattle.std.specs.Option.{option_map_or}
use Rattle.std.specs.List.{position_from}
use Rattle.std.proofs.lemmas.Bool.{and_parts, and_from, not-false, ltb-false, leb-false}
use Rattle.std.proofs.lemmas.Iterator.Adapters.{position_from-zero}
use Rattle.basics.specs.Symbol.{is_symbol, is_text}
use Rattle.pol_pattern.specs.declared.version.Version.{Version}
use Rattle.pol_pattern.specs.declared.token.Repeat.{Repeat}
use Rattle.pol_pattern.specs.declared.token.Token.{Token}
use Rattle.pol_pattern.specs.declared.token.Token.TheVariants as tokens
use Rattle.pol_pattern.specs.declared.fault.PatternFault.{PatternFault}
use Rattle.pol_pattern.specs.declared.fault.PatternFault.TheVariants as faults
use Rattle.pol_pattern.specs.Flat.{Class, class, group, empty, put, Term, Terms, terms_size}
use Rattle.pol_pattern.specs.Spelling.{most_bytes, Suffix, suffix_bytes, is_right_suffix, suffix_repeat, Alternatives, Atom, single, or, nothing, parentheses, alternatives_bytes, atom_bytes, is_right_alternatives, is_right_atom, alternatives_depth, atom_depth, alternatives_terms, atom_factors, SpellsBy}
use Rattle.pol_pattern.specs.Reading.{token_at, Context, outermost, closed, context_after, at_end, tokens_from, Level, fresh, with_atom, with_repeat, with_bar, finished, build, sized, is_unprintable, reading_by}
use Rattle.pol_pattern.proofs.TreeLevels.{alternatives_level, fresh_finished}
use Rattle.pol_pattern.proofs.Steps.{chosen, bind_ok, done, ok_is, refused}
use Rattle.pol_pattern.proofs.TokenFacts.{TokenSpelled, token_spelled}
use Rattle.pol_pattern.proofs.LevelParts.{Part, part_bytes, part_level, repeats_level, suffixes_bytes, are_right_suffixes, atom_part, atom_part_bytes, atom_part_level, atom_part_right, parts_bytes, parts_terms, IsRightPart, IsRightParts}

-- ---- bytes and tokens that are the rest of each level

pub record Rest (version : Version) (context : Context) (bytes : List ℕ) (rest : List Token) : Type 0 where
  pub part : Part
  pub parts : List Part
  -- where no atom stands before, nothing is repeated
  pub unrepeated : context.has_atom ≡ false → part.repeats ≡ []
  pub right : IsRightPart version context.opened part
  pub right_parts : IsRightParts version context.opened parts
  pub spelled : bytes ≡ part_bytes part ++ parts_bytes parts
  pub flat : (level : Level) (outer : List Level) → length outer ≡ length context.opened → build level outer rest ≡ parts_terms (finished (part_level level part)) outer parts

abbrev nothing_left : Part
nothing_left = record { repeats = []; tree = single nothing }

build_end : (level : Level) (outer : List Level) → length outer ≡ 0 → build level outer [] ≡ parts_terms (finished (part_level level nothing_left)) outer []
unfolding build
build_end level [] e = refl
build_end level (around ∷ outer) e = absurd (omega arith)

pub rest_end : (version : Version) (flag : Bool) → Rest version (record { opened = []; has_atom = flag }) [] []
rest_end version flag = record {
  part = nothing_left;
  parts = [];
  unrepeated = λ e. refl;
  right = (refl, omega arith, refl);
  right_parts = tt;
  spelled = refl;
  flat = build_end;
}

-- an atom in front
rest_atom : (version : Version) (opened : List ℕ) (flag : Bool) (bytes : List ℕ) (others : List Token) (c : Class) (tree : Atom) → is_right_atom version tree ≡ true → atom_depth tree ≡ 0 → atom_factors tree ≡ put (class c) empty
    → length opened ≤ 32 → Rest version (record { opened = opened; has_atom = true }) bytes others → Rest version (record { opened = opened; has_atom = flag }) (atom_bytes tree ++ bytes) (tokens.Atom c ∷ others)
unfolding build
rest_atom version opened flag bytes others c tree right depth factors few rest = record {
  part = atom_part tree rest.part;
  parts = rest.parts;
  unrepeated = λ e. refl;
  right = atom_part_right version opened tree rest.part right (omega arith) rest.right;
  right_parts = rest.right_parts;
  spelled =
      ap (λ (b : List ℕ). atom_bytes tree ++ b) rest.spelled ∙ sym (append_assoc (atom_bytes tree) (part_bytes rest.part) (parts_bytes rest.parts))
      ∙ ap (λ (b : List ℕ). b ++ parts_bytes rest.parts) (sym (atom_part_bytes tree rest.part));
  flat = λ level outer long.
      rest.flat (with_atom level (put (class c) empty)) outer long
      ∙ ap (λ (t : Term). parts_terms (finished (part_level (with_atom level t) rest.part)) outer rest.parts) (sym factors)
      ∙ ap (λ (l : Level). parts_terms (finished l) outer rest.parts) (sym (atom_part_level level tree rest.part));
}

rest_repeat : (version : Version) (context : Context) (bytes : List ℕ) (others : List Token) (suffix : Suffix) → context.has_atom ≡ true → is_right_suffix version suffix ≡ true → Rest version context bytes others
    → Rest version context (suffix_bytes suffix ++ bytes) (tokens.Repeat (suffix_repeat suffix) ∷ others)
unfolding build
rest_repeat version context bytes others suffix atom right rest = record {
  part = record { repeats = suffix ∷ rest.part.repeats; tree = rest.part.tree };
  parts = rest.parts;
  unrepeated = λ e. absurd (true≢false (sym atom ∙ e));
  right = (rest.right.0, rest.right.1, and_from (is_right_suffix version suffix) (are_right_suffixes version rest.part.repeats) right rest.right.2);
  right_parts = rest.right_parts;
  spelled = ap (λ (b : List ℕ). suffix_bytes suffix ++ b) rest.spelled ∙ simp append_assoc;
  flat = λ level outer long. rest.flat (with_repeat level (suffix_repeat suffix)) outer long;
}

rest_bar : (version : Version) (opened : List ℕ) (flag : Bool) (bytes : List ℕ) (others : List Token) → Rest version (record { opened = opened; has_atom = false }) bytes others
    → Rest version (record { opened = opened; has_atom = flag }) (124 ∷ bytes) (tokens.Bar ∷ others)
unfolding build
rest_bar version opened flag bytes others rest =
    let none = rest.unrepeated refl in
    record {
      part = record { repeats = []; tree = or nothing rest.part.tree };
      parts = rest.parts;
      unrepeated = λ e. refl;
      right = (rest.right.0, omega (arith, rest.right.1), refl);
      right_parts = rest.right_parts;
      spelled =
          ap (λ (b : List ℕ). 124 ∷ b) rest.spelled
          ∙ ap (λ (r : List Suffix). 124 ∷ (suffixes_bytes r ++ alternatives_bytes rest.part.tree ++ parts_bytes rest.parts)) none;
      flat = λ level outer long.
          rest.flat (with_bar level) outer long
          ∙ ap (λ (r : List Suffix). parts_terms (finished (alternatives_level (repeats_level (with_bar level) r) rest.part.tree)) outer rest.parts) none;
    }

build_close : (version : Version) (opened : List ℕ) (bytes : List ℕ) (others : List Token) (rest : Rest version (record { opened = opened; has_atom = true }) bytes others) (level : Level) (outer : List Level)
    → length outer ≡ suc (length opened) → build level outer (tokens.Close ∷ others) ≡ parts_terms (finished level) outer (rest.part ∷ rest.parts)
unfolding build
build_close version opened bytes others rest level [] long = absurd (omega arith)
build_close version opened bytes others rest level (around ∷ outer) long = rest.flat (with_atom around (put (group (finished level)) empty)) outer (omega arith)

rest_close : (version : Version) (last : ℕ) (opened : List ℕ) (flag : Bool) (bytes : List ℕ) (others : List Token) → length (last ∷ opened) ≤ 32 → Rest version (record { opened = opened; has_atom = true }) bytes others
    → Rest version (record { opened = last ∷ opened; has_atom = flag }) (41 ∷ bytes) (tokens.Close ∷ others)
rest_close version last opened flag bytes others few rest = record {
  part = nothing_left;
  parts = rest.part ∷ rest.parts;
  unrepeated = λ e. refl;
  right = (refl, omega arith, refl);
  right_parts = (rest.right, rest.right_parts);
  spelled = ap (λ (b : List ℕ). 41 ∷ b) rest.spelled;
  flat = build_close version opened bytes others rest;
}

-- a `(` in front, whose part and the part after its `)` become one
open_join : (version : Version) (place : ℕ) (opened : List ℕ) (flag : Bool) (bytes : List ℕ) (others : List Token) → length opened < 32
    → (inner : Part) (parts : List Part) → inner.repeats ≡ [] → IsRightPart version (place ∷ opened) inner → IsRightParts version (place ∷ opened) parts → bytes ≡ part_bytes inner ++ parts_bytes parts
    → ((level : Level) (outer : List Level) → length outer ≡ suc (length opened) → build level outer others ≡ parts_terms (finished (part_level level inner)) outer parts)
    → Rest version (record { opened = opened; has_atom = flag }) (40 ∷ bytes) (tokens.Open ∷ others)
unfolding build
open_join version place opened flag bytes others few inner [] none right impossible spelled flat = absurd impossible
open_join version place opened flag bytes others few inner (part ∷ parts) none right (right_part, right_parts) spelled flat =
    let atom : Atom = parentheses inner.tree in
    let terms : finished (part_level fresh inner) ≡ alternatives_terms inner.tree =
    ap (λ (r : List Suffix). finished (alternatives_level (repeats_level fresh r) inner.tree)) none ∙ fresh_finished inner.tree in
    let inside : bytes ≡ alternatives_bytes inner.tree ++ 41 ∷ (part_bytes part ++ parts_bytes parts) =
    spelled ∙ ap (λ (r : List Suffix). suffixes_bytes r ++ alternatives_bytes inner.tree ++ 41 ∷ (part_bytes part ++ parts_bytes parts)) none in
    let deep : length opened + atom_depth atom ≤ 32 = omega (arith, right.1) in
    record {
      part = atom_part atom part;
      parts = parts;
      unrepeated = λ e. refl;
      right = atom_part_right version opened atom part right.0 deep right_part;
      right_parts = right_parts;
      spelled =
          ap (λ (b : List ℕ). 40 ∷ b) (inside ∙ sym (append_assoc (alternatives_bytes inner.tree) (41 ∷ []) (part_bytes part ++ parts_bytes parts)))
          ∙ sym (append_assoc (atom_bytes atom) (part_bytes part) (parts_bytes parts))
          ∙ ap (λ (b : List ℕ). b ++ parts_bytes parts) (sym (atom_part_bytes atom part));
      flat = λ level outer long.
          let longer : length (level ∷ outer) ≡ suc (length opened) = omega arith in
          flat fresh (level ∷ outer) longer
          ∙ ap (λ (t : Terms). parts_terms (finished (part_level (with_atom level (put (group t) empty)) part)) outer parts) terms
          ∙ ap (λ (l : Level). parts_terms (finished l) outer parts) (sym (atom_part_level level atom part));
    }

rest_open : (version : Version) (place : ℕ) (opened : List ℕ) (flag : Bool) (bytes : List ℕ) (others : List Token) → length opened < 32 → Rest version (record { opened = place ∷ opened; has_atom = false }) bytes others
    → Rest version (record { opened = opened; has_atom = flag }) (40 ∷ bytes) (tokens.Open ∷ others)
rest_open version place opened flag bytes others few rest =
    open_join version place opened flag bytes others few rest.part rest.parts (rest.unrepeated refl) rest.right rest.right_parts rest.spelled rest.flat

-- ---- a token in front

close_in : (version : Version) (place : ℕ) (opened : List ℕ) (flag : Bool) (next : Context) (bytes : List ℕ) (others : List Token) → length opened ≤ 32 → closed place opened ≡ Ok next → Rest version next bytes others
    → Rest version (record { opened = opened; has_atom = flag }) (41 ∷ bytes) (tokens.Close ∷ others)
close_in version place [] flag next bytes others few e rest = absurd (refused (faults.Unopened place) next e)
close_in version place (last ∷ opened) flag next bytes others few e rest =
    rest_close version last opened flag bytes others few (subst (λ (c : Context). Rest version c bytes others) (sym (ok_is (record { opened = opened; has_atom = true }) next e)) rest)

-- what follows one byte, and that byte
by_byte : (version : Version) (context : Context) (byte same : ℕ) (rest : List ℕ) (tokens : List Token) → byte ≡ same → Rest version context (same ∷ rest) tokens → Rest version context (byte ∷ rest) tokens
by_byte version context byte same rest tokens e h = subst (λ (b : ℕ). Rest version context (b ∷ rest) tokens) (sym e) h

after_one : (version : Version) (context : Context) (size : ℕ) (rest : List ℕ) (tokens : List Token) → size ≡ 1 → Rest version context (drop (size - 1) rest) tokens → Rest version context rest tokens
after_one version context size rest tokens e h = subst (λ (n : ℕ). Rest version context (drop (n - 1) rest) tokens) e h

pub token_in : (version : Version) (place byte : ℕ) (rest : List ℕ) (token : Token) (size : ℕ) (context next : Context) (others : List Token) → length context.opened ≤ 32
    → TokenSpelled version byte rest token size → context_after place token context ≡ Ok next → Rest version next (drop (size - 1) rest) others → Rest version context (byte ∷ rest) (token ∷ others)
unfolding context_after
token_in version place byte rest (tokens.Atom c) size context next others few (tree, right, depth, factors, whole) e h =
    subst (λ (b : List ℕ). Rest version context b (tokens.Atom c ∷ others)) (sym whole)
    (rest_atom version context.opened context.has_atom (drop (size - 1) rest) others c tree right depth factors few
    (subst (λ (n : Context). Rest version n (drop (size - 1) rest) others) (sym (ok_is (record context { has_atom = true }) next e)) h))
token_in version place byte rest (tokens.Repeat repeat) size context next others few (suffix, right, same, whole) e h =
    elim (chosen context.has_atom (done context) _ (done next) e) [
      | inl atom ↦
          subst (λ (b : List ℕ). Rest version context b (tokens.Repeat repeat ∷ others)) (sym whole)
          (subst (λ (r : Repeat). Rest version context (suffix_bytes suffix ++ drop (size - 1) rest) (tokens.Repeat r ∷ others)) same
          (rest_repeat version context (drop (size - 1) rest) others suffix atom.0 right
          (subst (λ (n : Context). Rest version n (drop (size - 1) rest) others) (sym (ok_is context next atom.1)) h)))
      | inr none ↦ absurd (refused (faults.NothingToRepeat place) next none.1)
    ]
token_in version place byte rest tokens.Bar size context next others few (same, one) e h =
    by_byte version context byte 124 rest (tokens.Bar ∷ others) same
    (rest_bar version context.opened context.has_atom rest others
    (subst (λ (n : Context). Rest version n rest others) (sym (ok_is (record context { has_atom = false }) next e)) (after_one version next size rest others one h)))
token_in version place byte rest tokens.Open size context next others few (same, one) e h =
    elim (chosen (nat_le 32 (length context.opened)) (Err faults.TooDeep) _ (done next) e) [
      | inl deep ↦ absurd (refused faults.TooDeep next deep.1)
      | inr room ↦
          by_byte version context byte 40 rest (tokens.Open ∷ others) same
          (rest_open version place context.opened context.has_atom rest others (leb-false 32 (length context.opened) room.0)
          (subst (λ (n : Context). Rest version n rest others) (sym (ok_is (record { opened = place ∷ context.opened; has_atom = false }) next room.1)) (after_one version next size rest others one h)))
    ]
token_in version place byte rest tokens.Close size context next others few (same, one) e h =
    by_byte version context byte 41 rest (tokens.Close ∷ others) same
    (close_in version place context.opened context.has_atom next rest others few e (after_one version next size rest others one h))

pub few_opened : (place : ℕ) (token : Token) (context next : Context) → length context.opened ≤ 32 → context_after place token context ≡ Ok next → length next.opened ≤ 32
unfolding context_after
few_opened place (tokens.Atom c) context next few e = subst (λ (n : Context). length n.opened ≤ 32) (ok_is (record context { has_atom = true }) next e) few
few_opened place (tokens.Repeat repeat) context next few e =
    elim (chosen context.has_atom (done context) _ (done next) e) [
      | inl atom ↦ subst (λ (n : Context). length n.opened ≤ 32) (ok_is context next atom.1) few
      | inr none ↦ absurd (refused (faults.NothingToRepeat place) next none.1)
    ]
few_opened place tokens.Bar context next few e = subst (λ (n : Context). length n.opened ≤ 32) (ok_is (record context { has_atom = false }) next e) few
few_opened place tokens.Open context next few e =
    elim (chosen (nat_le 32 (length context.opened)) (Err faults.TooDeep) _ (done next) e) [
      | inl deep ↦ absurd (refused faults.TooDeep next deep.1)
      | inr room ↦ subst (λ (n : Context). length n.opened ≤ 32) (ok_is (record { opened = place ∷ context.opened; has_atom = false }) next room.1) (leb-false 32 (length context.opened) room.0)
    ]
few_opened place tokens.Close context next few e = few_closed place context.opened next few e where
  few_closed : (place : ℕ) (opened : List ℕ) (next : Context) → length opened ≤ 32 → closed place opened ≡ Ok next → length next.opened ≤ 32
  few_closed place [] next few e = absurd (refused (faults.Unopened place) next e)
  few_closed place (last ∷ opened) next few e = subst (λ (n : Context). length n.opened ≤ 32) (ok_is (record { opened = opened; has_atom = true }) next e) (omega arith)

-- ---- all tokens

end_in : (version : Version) (opened : List ℕ) (flag : Bool) (found : List Token) → at_end opened ≡ Ok found → Rest version (record { opened = opened; has_atom = flag }) [] found
end_in version [] flag found e = subst (λ (t : List Token). Rest version (record { opened = []; has_atom = flag }) [] t) (ok_is [] found e) (rest_end version flag)
end_in version (last ∷ opened) flag found e = absurd (refused (faults.Unclosed last) found e)

tokens_rest : (version : Version) (bytes : List ℕ) (place skip : ℕ) (context : Context) (found : List Token) → is_text bytes ≡ true → length context.opened ≤ 32 → tokens_from version place skip context bytes ≡ Ok found → Rest version context (drop skip bytes) found
unfolding tokens_from
tokens_rest version [] place zero context found text few e = end_in version context.opened context.has_atom found e
tokens_rest version [] place (suc skip) context found text few e = end_in version context.opened context.has_atom found e
tokens_rest version (byte ∷ rest) place (suc skip) context found text few e = tokens_rest version rest (place + 1) skip context found (and_parts (is_symbol byte) (is_text rest) text).1 few e
tokens_rest version (byte ∷ rest) place zero context found text few e =
    let a = bind_ok (token_at version context.has_atom place byte rest) _ found e in
    let b = bind_ok (context_after place a.0.0 context) _ found a.2 in
    let c = bind_ok (tokens_from version (place + 1) (a.0.1 - 1) b.0 rest) (λ others. Ok (a.0.0 ∷ others)) found b.2 in
    let more = tokens_rest version rest (place + 1) (a.0.1 - 1) b.0 c.0 (and_parts (is_symbol byte) (is_text rest) text).1 (few_opened place a.0.0 context b.0 few b.1) c.1 in
    subst (Rest version context (byte ∷ rest)) (ok_is (a.0.0 ∷ c.0) found c.2)
    (token_in version place byte rest a.0.0 a.0.1 context b.0 c.0 few (token_spelled version context.has_atom place byte rest a.0 text a.1) b.1 more)

-- ---- patterns

pub printable : (i : ℕ) (bytes : List ℕ) → position_from is_unprintable i bytes ≡ None → is_text bytes ≡ true
printable i [] e = refl
printable i (byte ∷ rest) e =
    elim (chosen (is_unprintable byte) (Some i) _ None e) [
      | inl none ↦ absurd cc
      | inr others ↦ and_from (is_symbol byte) (is_text rest) (not-false (is_symbol byte) others.0) (printable (i + 1) rest others.1)
    ]

not_mapped : {X : Type 0} (place : Option ℕ) (read : Result X PatternFault) (x : X) → option_map_or (λ at. Err (faults.Unprintable at)) place read ≡ Ok x → (place ≡ None) × (read ≡ Ok x)
not_mapped None read x e = (refl, e)
not_mapped (Some at) read x e = absurd cc

-- the tree of the tokens of a whole pattern
pub record TreeOf (version : Version) (bytes : List ℕ) (found : List Token) : Type 0 where
  pub tree : Alternatives
  pub right : is_right_alternatives version tree ≡ true
  pub spelled : alternatives_bytes tree ≡ bytes
  pub few : alternatives_depth tree ≤ 32
  pub flat : alternatives_terms tree ≡ build fresh [] found

whole_tree : (version : Version) (bytes : List ℕ) (found : List Token) (part : Part) (parts : List Part) → part.repeats ≡ [] → IsRightPart version [] part → IsRightParts version [] parts → bytes ≡ part_bytes part ++ parts_bytes parts
    → build fresh [] found ≡ finished (part_level fresh part) → TreeOf version bytes found
whole_tree version bytes found part (other ∷ parts) none right impossible spelled is = absurd impossible
whole_tree version bytes found part [] none right right_parts spelled is = record {
  tree = part.tree;
  right = right.0;
  spelled = sym (spelled ∙ append-nil (part_bytes part) ∙ ap (λ (r : List Suffix). suffixes_bytes r ++ alternatives_bytes part.tree) none);
  few = omega (arith, right.1);
  flat = sym (is ∙ ap (λ (r : List Suffix). finished (alternatives_level (repeats_level fresh r) part.tree)) none ∙ fresh_finished part.tree);
}

pub rest_tree : (version : Version) (bytes : List ℕ) (found : List Token) → Rest version outermost bytes found → TreeOf version bytes found
rest_tree version bytes found rest = whole_tree version bytes found rest.part rest.parts (rest.unrepeated refl) rest.right rest.right_parts rest.spelled (rest.flat fresh [] refl)

pub tokens_tree : (version : Version) (bytes : List ℕ) (place : ℕ) (found : List Token) → is_text bytes ≡ true → tokens_from version place 0 outermost bytes ≡ Ok found → TreeOf version bytes found
tokens_tree version bytes place found text e = rest_tree version bytes found (tokens_rest version bytes place 0 outermost found text (omega arith) e)

pub reading_spells : (version : Version) (bytes : List ℕ) (flat : Terms) → reading_by version bytes ≡ Ok flat → SpellsBy version bytes flat
unfolding reading_by
reading_spells version bytes flat e =
    elim (chosen (nat_lt (most_bytes version) (length bytes)) (Err faults.TooLong) _ (done flat) e) [
      | inl long ↦ absurd (refused faults.TooLong flat long.1)
      | inr short ↦
          let r = not_mapped (position is_unprintable bytes) _ flat short.1 in
          let text = printable 0 bytes (sym (position_from-zero is_unprintable bytes) ∙ r.0) in
          let a = bind_ok (tokens_from version 0 0 outermost bytes) (λ tokens. sized (build fresh [] tokens)) flat r.1 in
          let of = tokens_tree version bytes 0 a.0 text a.1 in
          elim (chosen (nat_lt 400 (terms_size (build fresh [] a.0))) (Err faults.TooLarge) (done (build fresh [] a.0)) (done flat) a.2) [
            | inl large ↦ absurd (refused faults.TooLarge flat large.1)
            | inr small ↦
                let is : build fresh [] a.0 ≡ flat = ok_is (build fresh [] a.0) flat small.1 in (
                  of.tree,
                  of.right,
                  of.spelled,
                  of.flat ∙ is,
                  ltb-false (most_bytes version) (length bytes) short.0,
                  of.few,
                  subst (λ (f : Terms). terms_size f ≤ 400) is (ltb-false 400 (terms_size (build fresh [] a.0)) small.0),
                )
          ]
    ]
