-- What patterns that are put together of patterns hold.
use Rattle.std.proofs.Common.{◌≡◌, ◌↔◌, ◌≤◌, ℕ, true, ◌&&◌, List, [], ◌∷◌, ◌++◌, ◌⊎◌, Ok, refl, sym, ap, ap₂, subst, ◌∙◌, inl, inr, append_assoc, append-nil, arith}
use Rattle.std.specs.List.{AllByRecursion}
use Rattle.std.specs.Option.{is_some}
use Rattle.std.proofs.lemmas.Bool.{and_parts, and_from}
use Rattle.pol_pattern.specs.declared.version.Version.TheVariants.{Two}
use Rattle.pol_pattern.specs.Flat.{Term, empty, put, Terms, none, alt, group, star, join_terms}
use Rattle.pol_pattern.specs.Sets.{InTerm, InTerms, Joins}
use Rattle.pol_pattern.specs.Spelling.{Suffix, asterisk, plus, question, exactly, between, suffix_bytes, suffix_repeat, counted, repeat_factors, is_right_suffix, Alternatives, single, or, nothing, next, once, repeated, parentheses, alternatives_bytes, sequence_bytes, is_right_alternatives, is_right_sequence, alternatives_terms, sequence_factors, Holds}
use Rattle.pol_pattern.specs.Reading.{reading}
use Rattle.pol_pattern.specs.Languages.{IsPattern, Concatenation, Star, Power, Powers, grouped, UnionLaw, ConcatenationLaw, StarLaw, PlusLaw, QuestionLaw, PowerLaw, PowersLaw, GroupLaw}
use Rattle.basics.specs.Number.{number_of}
use Rattle.pol_pattern.specs.declared.token.Repeat.{Repeat}
use Rattle.pol_pattern.specs.declared.token.Repeat.TheVariants.{Counted}
use Rattle.pol_pattern.proofs.Held.{holds_in, in_holds, Pattern, pattern_tree, pattern_by, alone_read, one_in, in_one}
use Rattle.pol_pattern.proofs.Powers.{powers_map, in_counted, counted_in, counts_in_order}

-- ---- p|q

abbrev joined : Alternatives → Alternatives → Alternatives
joined (single sequence) others = or sequence others
joined (or sequence more) others = or sequence (joined more others)

joined_bytes : (a b : Alternatives) → alternatives_bytes (joined a b) ≡ alternatives_bytes a ++ 124 ∷ alternatives_bytes b
joined_bytes (single sequence) b = refl
joined_bytes (or sequence more) b =
    ap (λ (bytes : List ℕ). sequence_bytes sequence ++ 124 ∷ bytes) (joined_bytes more b)
    ∙ sym (append_assoc (sequence_bytes sequence) (124 ∷ alternatives_bytes more) (124 ∷ alternatives_bytes b))

joined_right : (a b : Alternatives) → is_right_alternatives Two a ≡ true → is_right_alternatives Two b ≡ true → is_right_alternatives Two (joined a b) ≡ true
joined_right (single sequence) b first second = and_from (is_right_sequence Two sequence) (is_right_alternatives Two b) first second
joined_right (or sequence more) b first second =
    let parts = and_parts (is_right_sequence Two sequence) (is_right_alternatives Two more) first in
    and_from (is_right_sequence Two sequence) (is_right_alternatives Two (joined more b)) parts.0 (joined_right more b parts.1 second)

joined_terms : (a b : Alternatives) → alternatives_terms (joined a b) ≡ join_terms (alternatives_terms a) (alternatives_terms b)
joined_terms (single sequence) b = refl
joined_terms (or sequence more) b = ap (alt (sequence_factors sequence)) (joined_terms more b)

in_joined : (a b : Terms) (text : List ℕ) → InTerms (join_terms a b) text → InTerms a text ⊎ InTerms b text
in_joined none b text h = inr h
in_joined (alt term a) b text (inl first) = inl (inl first)
in_joined (alt term a) b text (inr more) =
    elim (in_joined a b text more) [
      | inl h ↦ inl (inr h)
      | inr h ↦ inr h
    ]

joined_in : (a b : Terms) (text : List ℕ) → InTerms a text ⊎ InTerms b text → InTerms (join_terms a b) text
joined_in none b text (inl h) = absurd h
joined_in none b text (inr h) = h
joined_in (alt term a) b text (inl (inl h)) = inl h
joined_in (alt term a) b text (inl (inr h)) = inr (joined_in a b text (inl h))
joined_in (alt term a) b text (inr h) = inr (joined_in a b text (inr h))

pub union_law : UnionLaw
union_law p q text hp hq whole =
    let a = pattern_tree p hp in
    let b = pattern_tree q hq in
    let same : alternatives_bytes (joined a.tree b.tree) ≡ p ++ 124 ∷ q =
    joined_bytes a.tree b.tree ∙ ap₂ (λ (x y : List ℕ). x ++ 124 ∷ y) a.spelled b.spelled in
    let read : reading (p ++ 124 ∷ q) ≡ Ok (join_terms (alternatives_terms a.tree) (alternatives_terms b.tree)) =
    pattern_by (p ++ 124 ∷ q) (joined a.tree b.tree) whole (joined_right a.tree b.tree a.right b.right) same ∙ ap (λ (f : Terms). Ok f) (joined_terms a.tree b.tree) in (
      (λ held.
          elim (in_joined (alternatives_terms a.tree) (alternatives_terms b.tree) text (holds_in (p ++ 124 ∷ q) text _ read held)) [
            | inl h ↦ inl (in_holds p text _ a.read h)
            | inr h ↦ inr (in_holds q text _ b.read h)
          ]),
      (λ held.
          in_holds (p ++ 124 ∷ q) text _ read
          (joined_in (alternatives_terms a.tree) (alternatives_terms b.tree) text
          (elim held [
            | inl h ↦ inl (holds_in p text _ a.read h)
            | inr h ↦ inr (holds_in q text _ b.read h)
          ]))),
    )

-- ---- (p)

pub group_law : GroupLaw
group_law p text hp whole =
    let a = pattern_tree p hp in
    let read = alone_read (grouped p) (once (parentheses a.tree)) whole a.right (ap grouped a.spelled) in (
      (λ held. in_holds p text _ a.read (one_in (group (alternatives_terms a.tree)) text (holds_in (grouped p) text _ read held))),
      (λ held. in_holds (grouped p) text _ read (in_one (group (alternatives_terms a.tree)) text (holds_in p text _ a.read held))),
    )

-- ---- (p)(q)

pub concatenation_law : ConcatenationLaw
concatenation_law p q text hp hq whole =
    let a = pattern_tree p hp in
    let b = pattern_tree q hq in
    let tree : Alternatives = single (next (once (parentheses a.tree)) (next (once (parentheses b.tree)) nothing)) in
    let source : List ℕ = grouped p ++ grouped q in
    let same : alternatives_bytes tree ≡ source =
    ap₂ (λ (x y : List ℕ). grouped x ++ y) a.spelled (append-nil (grouped (alternatives_bytes b.tree)) ∙ ap grouped b.spelled) in
    let right : is_right_alternatives Two tree ≡ true =
    and_from (is_right_alternatives Two a.tree) (is_right_alternatives Two b.tree && true) a.right (and_from (is_right_alternatives Two b.tree) true b.right refl) in
    let read = pattern_by source tree whole right same in
    ((λ held. both_in p q text a b (holds_in source text _ read held)), (λ held. in_holds source text _ read (in_both p q text a b held)))
  where
    both_in : (p q text : List ℕ) (a : Pattern p) (b : Pattern q) → InTerms (alt (put (group (alternatives_terms a.tree)) (put (group (alternatives_terms b.tree)) empty)) none) text → Concatenation (Holds p) (Holds q) text
    both_in p q text a b (inr h) = absurd h
    both_in p q text a b (inl (front, back, split, first, after)) =
        (front, back, split, in_holds p front _ a.read first, in_holds q back _ b.read (one_in (group (alternatives_terms b.tree)) back (inl after)))

    in_both : (p q text : List ℕ) (a : Pattern p) (b : Pattern q) → Concatenation (Holds p) (Holds q) text → InTerms (alt (put (group (alternatives_terms a.tree)) (put (group (alternatives_terms b.tree)) empty)) none) text
    in_both p q text a b (front, back, split, first, after) =
        inl (front, back, split, holds_in p front _ a.read first, (back, [], sym (append-nil back), holds_in q back _ b.read after, refl))

-- ---- (p)*

all_map : (P Q : List ℕ → Type 0) → ((text : List ℕ) → P text → Q text) → (texts : List (List ℕ)) → AllByRecursion P texts → AllByRecursion Q texts
all_map P Q h [] all = all
all_map P Q h (text ∷ texts) all = (h text all.0, all_map P Q h texts all.1)

joins_map : (P Q : List ℕ → Type 0) → ((text : List ℕ) → P text → Q text) → (text : List ℕ) → Joins P text → Joins Q text
joins_map P Q h text (parts, all, whole) = (parts, all_map P Q h parts all, whole)

pub star_law : StarLaw
star_law p text hp whole =
    let a = pattern_tree p hp in
    let source : List ℕ = grouped p ++ 42 ∷ [] in
    let terms : Terms = alternatives_terms a.tree in
    let read = alone_read source (repeated (once (parentheses a.tree)) asterisk) whole (and_from (is_right_alternatives Two a.tree) true a.right refl) (ap (λ (b : List ℕ). grouped b ++ 42 ∷ []) a.spelled) in (
      (λ held. joins_map (InTerms terms) (Holds p) (λ t h. in_holds p t terms a.read h) text (one_in (star terms) text (holds_in source text _ read held))),
      (λ held. in_holds source text _ read (in_one (star terms) text (joins_map (Holds p) (InTerms terms) (λ t h. holds_in p t terms a.read h) text held))),
    )

-- ---- (p)+ and (p)?

pub plus_law : PlusLaw
plus_law p text hp whole =
    let a = pattern_tree p hp in
    let source : List ℕ = grouped p ++ 43 ∷ [] in
    let read = alone_read source (repeated (once (parentheses a.tree)) plus) whole (and_from (is_right_alternatives Two a.tree) true a.right refl) (ap (λ (b : List ℕ). grouped b ++ 43 ∷ []) a.spelled) in
    ((λ held. both_in p text a (holds_in source text _ read held)), (λ held. in_holds source text _ read (in_both p text a held)))
  where
    both_in : (p text : List ℕ) (a : Pattern p) → InTerms (alt (put (group (alternatives_terms a.tree)) (put (star (alternatives_terms a.tree)) empty)) none) text → Concatenation (Holds p) (Star (Holds p)) text
    both_in p text a (inr h) = absurd h
    both_in p text a (inl (front, back, split, first, after)) = (
      front,
      back,
      split,
      in_holds p front _ a.read first,
      joins_map (InTerms (alternatives_terms a.tree)) (Holds p) (λ t h. in_holds p t _ a.read h) back (one_in (star (alternatives_terms a.tree)) back (inl after)),
    )

    in_both : (p text : List ℕ) (a : Pattern p) → Concatenation (Holds p) (Star (Holds p)) text → InTerms (alt (put (group (alternatives_terms a.tree)) (put (star (alternatives_terms a.tree)) empty)) none) text
    in_both p text a (front, back, split, first, after) =
        inl (
          front,
          back,
          split,
          holds_in p front _ a.read first,
          (back, [], sym (append-nil back), joins_map (Holds p) (InTerms (alternatives_terms a.tree)) (λ t h. holds_in p t _ a.read h) back after, refl),
        )

pub question_law : QuestionLaw
question_law p text hp whole =
    let a = pattern_tree p hp in
    let source : List ℕ = grouped p ++ 63 ∷ [] in
    let terms : Terms = alternatives_terms a.tree in
    let inner : Terms = alt (put (group terms) empty) (alt empty none) in
    let read = alone_read source (repeated (once (parentheses a.tree)) question) whole (and_from (is_right_alternatives Two a.tree) true a.right refl) (ap (λ (b : List ℕ). grouped b ++ 63 ∷ []) a.spelled) in (
      (λ held.
          elim (one_in (group inner) text (holds_in source text _ read held)) [
            | inl h ↦ inl (in_holds p text terms a.read (one_in (group terms) text (inl h)))
            | inr h ↦ elim h [ inl is_empty ↦ inr is_empty | inr impossible ↦ absurd impossible ]
          ]),
      (λ held.
          in_holds source text _ read
          (in_one (group inner) text
          (elim held [
            | inl h ↦
                inl (text, [], sym (append-nil text), holds_in p text terms a.read h, refl)
            | inr is_empty ↦ inr (inl is_empty)
          ]))),
    )

-- ---- (p){m} and (p){m,n}

counted_law : (p text : List ℕ) (suffix : Suffix) (low high : ℕ) → is_right_suffix Two suffix ≡ true → suffix_repeat suffix ≡ Counted low high → low ≤ high
    → IsPattern p → IsPattern (grouped p ++ suffix_bytes suffix) → Holds (grouped p ++ suffix_bytes suffix) text ↔ Powers (Holds p) low high text
counted_law p text suffix low high right counts le hp whole =
    let a = pattern_tree p hp in
    let source : List ℕ = grouped p ++ suffix_bytes suffix in
    let terms : Terms = alternatives_terms a.tree in
    let unit : Term = put (group terms) empty in
    let read : reading source ≡ Ok (alt (repeat_factors (Counted low high) unit) none) =
    alone_read source (repeated (once (parentheses a.tree)) suffix) whole (and_from (is_right_alternatives Two a.tree) (is_right_suffix Two suffix) a.right right)
    (ap (λ (b : List ℕ). grouped b ++ suffix_bytes suffix) a.spelled)
    ∙ ap (λ (r : Repeat). Ok (alt (repeat_factors r unit) none)) counts in (
      (λ held.
          powers_map (InTerm unit) (Holds p) (λ t h. in_holds p t terms a.read (one_in (group terms) t (inl h))) low high text
          (in_counted low high unit text le (alone_in (repeat_factors (Counted low high) unit) text (holds_in source text _ read held)))),
      (λ held.
          in_holds source text _ read
          (inl
          (counted_in low high unit text
          (powers_map (Holds p) (InTerm unit) (λ t h. unit_in terms t (holds_in p t terms a.read h)) low high text held)))),
    )
  where
    alone_in : (term : Term) (text : List ℕ) → InTerms (alt term none) text → InTerm term text
    alone_in term text (inl h) = h
    alone_in term text (inr h) = absurd h

    unit_in : (terms : Terms) (text : List ℕ) → InTerms terms text → InTerm (put (group terms) empty) text
    unit_in terms text h = (text, [], sym (append-nil text), h, refl)

pub power_law : PowerLaw
power_law p digits text count counts hp whole =
    let law = counted_law p text (exactly digits) count count (ap is_some counts) (ap counted counts) (omega arith) hp whole in (
      (λ held.
          let found = law.0 held in
          let same : found.0 ≡ count = omega (arith, found.1, found.2) in
          subst (λ (n : ℕ). Power (Holds p) n text) same found.3),
      (λ held. law.1 (count, omega arith, omega arith, held)),
    )

pub powers_law : PowersLaw
powers_law p lows highs text low high counts hp whole =
    counted_law p text (between lows highs) low high (ap is_some counts) (ap counted counts) (counts_in_order (number_of 2 lows) (number_of 2 highs) low high counts) hp whole
