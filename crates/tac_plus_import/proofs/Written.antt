-- Rules that are added one after another.
use Rattle.std.proofs.Common.{◌≡◌, ℕ, ◌+◌, ◌-◌, ◌<◌, ◌≤◌, Bool, true, false, ◌||◌, ◌&&◌, List, [], ◌∷◌, ◌++◌, length, take, refl, sym, ap, ◌∙◌, append-nil, append_assoc, arith, nat_lt}
use Rattle.std.proofs.lemmas.List.{take-append-le, take_at, length_push}
use Rattle.std.proofs.lemmas.Bool.{ltb-true, ltb-false, lt-ltb}
use Rattle.posix_expression.specs.Gathered.{gathered}
use Rattle.tac_plus_import.specs.declared.block.PolicyRule.{PolicyRule}
use Rattle.tac_plus_import.specs.declared.draft.Draft.{Draft}
use Rattle.tac_plus_import.specs.Drafts.{rule_text, rules_text, deny_all, is_any, overflows, kept, Adds}

pub rules_text-append : (first second : List PolicyRule) → rules_text (first ++ second) ≡ rules_text first ++ rules_text second
rules_text-append [] second = refl
rules_text-append (rule ∷ rules) second =
    ap (λ (t : List ℕ). rule_text rule ++ t) (rules_text-append rules second) ∙ sym (append_assoc (rule_text rule) (rules_text rules) (rules_text second))

is_any-more : (rules : List PolicyRule) (rule : PolicyRule) → is_any (rules ++ rule ∷ []) ≡ true
is_any-more [] rule = refl
is_any-more (first ∷ rules) rule = refl

-- one more than so many overflows exactly if there are 255
overflows-more : (count : ℕ) (rules : List PolicyRule) (rule : PolicyRule) → overflows count (rules ++ rule ∷ []) ≡ nat_lt 255 (count + length rules + 1)
overflows-more count rules rule =
    ap (λ (b : Bool). b && nat_lt 255 (count + length (rules ++ rule ∷ []))) (is_any-more rules rule)
    ∙ ap (λ (n : ℕ). nat_lt 255 n) (omega (arith, length_push rules rule))

room_is : (count : ℕ) (rules : List PolicyRule) → overflows count rules ≡ false → 255 ≤ count + length rules → 255 - count ≡ length rules
room_is count [] none full = omega arith
room_is count (rule ∷ rules) none full = let le = ltb-false 255 (count + length (rule ∷ rules)) none in omega arith

over_is : (count : ℕ) (rules : List PolicyRule) → overflows count rules ≡ true → 255 < count + length rules
over_is count [] over = absurd cc
over_is count (rule ∷ rules) over = ltb-true 255 (count + length (rule ∷ rules)) over

pub record More (was now : Bool) (count : ℕ) (rules : List PolicyRule) (early late : List ℕ) : Type 0 where
  pub text : early ++ late ≡ rules_text (kept was now count rules)
  pub full : now ≡ (was || overflows count rules)

more : (was mid now : Bool) (count room : ℕ) (rules : List PolicyRule) (rule : PolicyRule)
    → mid ≡ (was || overflows count rules) → now ≡ (mid || overflows room (rule ∷ [])) → (mid ≡ false → room ≡ count + length rules)
    → More was now count (rules ++ rule ∷ []) (rules_text (kept was mid count rules)) (rules_text (kept mid now room (rule ∷ [])))
more true true true count room rules rule m n c = record { text = refl; full = refl }
more true true false count room rules rule m n c = absurd cc
more true false now count room rules rule m n c = absurd cc
more false true false count room rules rule m n c = absurd cc
more false true true count room rules rule m n c =
    let over = over_is count rules (sym m) in
    let fits : 255 - count ≤ length rules = omega arith in
    record {
      text = append-nil (rules_text (take (255 - count) rules ++ deny_all ∷ []))
          ∙ ap (λ (t : List PolicyRule). rules_text (t ++ deny_all ∷ [])) (sym (take-append-le (255 - count) rules (rule ∷ []) fits));
      full = sym (overflows-more count rules rule ∙ lt-ltb 255 (count + length rules + 1) (omega arith));
    }
more false false false count room rules rule m n c =
    let same = c refl in record {
      text = sym (rules_text-append rules (rule ∷ []));
      full = n ∙ ap (λ (k : ℕ). nat_lt 255 k) (omega arith) ∙ sym (overflows-more count rules rule);
    }
more false false true count room rules rule m n c =
    let same = c refl in
    let over = ltb-true 255 (room + 1) (sym n) in
    let none : 255 - room ≡ 0 = omega arith in
    let most : length rules ≡ 255 - count = sym (room_is count rules (sym m) (omega arith)) in
    record {
      text = ap (λ (k : ℕ). rules_text rules ++ rules_text (take k (rule ∷ []) ++ deny_all ∷ [])) none
          ∙ sym (rules_text-append rules (deny_all ∷ []))
          ∙ ap (λ (t : List PolicyRule). rules_text (t ++ deny_all ∷ [])) (sym (take_at rules (rule ∷ []) (255 - count) most));
      full = n ∙ ap (λ (k : ℕ). nat_lt 255 k) (omega arith) ∙ sym (overflows-more count rules rule);
    }

pub adds_more : (before mid after : Draft) (rules : List PolicyRule) (rule : PolicyRule) → Adds before rules mid → Adds mid (rule ∷ []) after → Adds before (rules ++ rule ∷ []) after
adds_more before mid after rules rule one next =
    let both = more before.is_full mid.is_full after.is_full before.rules mid.rules rules rule one.full next.full one.counted in
    record {
      whole = one.whole;
      written = next.written
          ∙ ap (λ (t : List ℕ). t ++ rules_text (kept mid.is_full after.is_full mid.rules (rule ∷ []))) one.written
          ∙ append_assoc (gathered before.policy) (rules_text (kept before.is_full mid.is_full before.rules rules)) (rules_text (kept mid.is_full after.is_full mid.rules (rule ∷ [])))
          ∙ ap (λ (t : List ℕ). gathered before.policy ++ t) both.text;
      full = both.full;
      counted = λ e. by mid.is_full one.counted next.full e;
    }
  where
    by : (full : Bool) → (full ≡ false → mid.rules ≡ before.rules + length rules) → after.is_full ≡ (full || overflows mid.rules (rule ∷ [])) → after.is_full ≡ false
        → after.rules ≡ before.rules + length (rules ++ rule ∷ [])
    by true c f e = absurd cc
    by false c f e =
        let first = c refl in
        let second = next.counted e in
        omega (arith, length_push rules rule)
