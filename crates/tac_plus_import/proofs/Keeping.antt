-- What a subject has of rules that say a block.
use Rattle.std.proofs.Common.{◌≡◌, inl, inr, ℕ, ◌+◌, ◌-◌, Bool, true, false, ◌||◌, List, [], ◌∷◌, ◌++◌, length, take, drop, Option, Some, None, Result, Ok, Err, IsOk, refl, sym, ap, subst, ◌∙◌, append-nil, arith, if◌then◌else◌}
use Rattle.std.proofs.lemmas.List.{take-append-drop}
use Rattle.std.proofs.lemmas.Bool.{ltb-true, lt-ltb}
use Rattle.pol_names.specs.declared.decision.Verdict.{Verdict}
use Rattle.pol_names.specs.declared.decision.Verdict.TheVariants.{Permit, Deny}
use Rattle.pol_pattern.specs.Matching.{matches}
use Rattle.posix_expression.specs.Gathered.{gathered, lacks}
use Rattle.posix_expression.specs.Syntax.{blank}
use Rattle.posix_expression.specs.Writing.{pattern_for}
use Rattle.posix_expression.specs.declared.unsaid.Unsaid.{Unsaid}
use Rattle.tac_plus_file.specs.declared.configuration.Rule.{Rule}
use Rattle.tac_plus_import.specs.declared.block.PolicyRule.{PolicyRule}
use Rattle.tac_plus_import.specs.declared.draft.Draft.{Draft}
use Rattle.tac_plus_import.specs.Blocks.{Answers, cautious}
use Rattle.tac_plus_import.specs.Rules.{decided, closed, Says, PermitsNoMore}
use Rattle.tac_plus_import.specs.Joining.{is_over, AreSoFar, plain, denial}
use Rattle.tac_plus_import.specs.Drafts.{rules_text, deny_all, overflows, kept, Adds, Keeps, KeptLaw}
use Rattle.tac_plus_import.proofs.Deciding.{else_by, decided-append, decided_first}
use Rattle.tac_plus_import.proofs.Answering.{pattern_is, says_plain}

-- ---- nothing more is permitted

permits_first : (name : List ℕ) (block : List Rule) (is_closed : Bool) (rules : List PolicyRule) → Says name block is_closed rules → PermitsNoMore name block rules
permits_first name block is_closed rules says line texts e =
    let here = says.only line Permit texts e in
    let there = says.lines line here.0 texts here.1 in
    (here.0, here.1, subst (λ (a : Option Verdict). Answers name cautious block here.0 a) (by is_closed there.0 (sym there.2 ∙ e)) there.1)
  where
    by : (b : Bool) (answer : Option Verdict) → closed b answer ≡ Some Permit → answer ≡ Some Permit
    by false answer e = e
    by true None e = absurd cc
    by true (Some v) e = e

-- what denies all permits nothing
all_denied : (rules : List PolicyRule) (line : List ℕ) → decided (rules ++ deny_all ∷ []) line ≡ Some Permit → decided rules line ≡ Some Permit
all_denied rules line e = by (decided rules line) (matches deny_all.pattern line) (sym (decided-append rules (deny_all ∷ []) line) ∙ e)
  where
    by : (d : Option Verdict) (test : Bool) → else_by d (if test then Some Deny else None) ≡ Some Permit → d ≡ Some Permit
    by (Some v) test e = e
    by None true e = absurd cc
    by None false e = absurd cc

pub kept_law : KeptLaw
kept_law name block is_closed true is_full count rules says line texts e = absurd cc
kept_law name block is_closed false false count rules says line texts e = permits_first name block is_closed rules says line texts e
kept_law name block is_closed false true count rules says line texts e =
    let n = 255 - count in
    let first = all_denied (take n rules) line e in
    let whole : decided rules line ≡ Some Permit =
    ap (λ (r : List PolicyRule). decided r line) (sym (take-append-drop n rules)) ∙ decided_first (take n rules) (drop n rules) line Permit first in
    permits_first name block is_closed rules says line texts whole

-- ---- rules of which a subject has the same

over_is : (draft : Draft) (rules : List PolicyRule) → is_over draft rules ≡ true → overflows draft.rules rules ≡ true
over_is draft [] over = let more = ltb-true (255 - draft.rules) 0 over in absurd (omega arith)
over_is draft (rule ∷ rules) over =
    let more = ltb-true (255 - draft.rules) (length (rule ∷ rules)) over in
    lt-ltb 255 (draft.rules + length (rule ∷ rules)) (omega arith)

or_true : (was now : Bool) → was ≡ true → now ≡ true → was ≡ (now || was)
or_true true true e f = refl
or_true true false e f = refl
or_true false now e f = absurd cc

full_so : (was now one : Bool) → one ≡ true → now ≡ (was || one) → now ≡ true
full_so true now one e f = f
full_so false now one e f = f ∙ e

kept_same : (was now : Bool) (count : ℕ) (first second : List PolicyRule) → now ≡ true → take (255 - count) first ≡ take (255 - count) second → rules_text (kept was now count first) ≡ rules_text (kept was now count second)
kept_same true now count first second e same = refl
kept_same false true count first second e same = ap (λ (r : List PolicyRule). rules_text (r ++ deny_all ∷ [])) same
kept_same false false count first second e same = absurd cc

pub adds_so_far : (before after : Draft) (first second : List PolicyRule) → Adds before first after → AreSoFar before first second → Adds before second after
adds_so_far before after first second adds (inl same) = subst (λ (r : List PolicyRule). Adds before r after) same adds
adds_so_far before after first second adds (inr (one, other, same)) =
    let full = full_so before.is_full after.is_full (overflows before.rules first) (over_is before first one) adds.full in record {
      whole = adds.whole;
      written = adds.written ∙ ap (λ (t : List ℕ). gathered before.policy ++ t) (kept_same before.is_full after.is_full before.rules first second full same);
      full = adds.full ∙ ap (λ (b : Bool). before.is_full || b) (over_is before first one ∙ sym (over_is before second other));
      counted = λ e. let no : true ≡ false = sym full ∙ e in absurd cc;
    }

-- where something was only told before they were added
pub adds_after : (before mid after : Draft) (rules : List PolicyRule) → Keeps before mid → Adds mid rules after → Adds before rules after
adds_after before mid after rules keeps adds =
    let first = keeps.policy adds.whole in record {
      whole = first.0;
      written = adds.written ∙ ap (λ (t : List ℕ). t ++ rules_text (kept mid.is_full after.is_full mid.rules rules)) first.1
          ∙ ap (λ (b : Bool). gathered before.policy ++ rules_text (kept b after.is_full mid.rules rules)) keeps.full
          ∙ ap (λ (n : ℕ). gathered before.policy ++ rules_text (kept before.is_full after.is_full n rules)) keeps.rules;
      full = adds.full ∙ ap (λ (b : Bool). b || overflows mid.rules rules) keeps.full ∙ ap (λ (n : ℕ). before.is_full || overflows n rules) keeps.rules;
      counted = λ e. adds.counted e ∙ ap (λ (n : ℕ). n + length rules) keeps.rules;
    }

-- ---- a subject that is full

the_pattern : (r : Result (List ℕ) Unsaid) → IsOk r → (pattern : List ℕ) × (r ≡ Ok pattern)
the_pattern (Ok pattern) is = (pattern, refl)
the_pattern (Err why) is = absurd cc

-- any rules are added to it, since none are written
pub full_adds : (draft : Draft) (name : List ℕ) (block : List Rule) (is_closed : Bool) → IsOk (pattern_for name blank) → draft.is_full ≡ true → lacks draft.policy ≡ false
    → (rules : List PolicyRule) × Says name block is_closed rules × Adds draft rules draft
full_adds draft name block is_closed ok full whole =
    let there = the_pattern (pattern_for name blank) ok in (
      plain name there.0 block ++ denial is_closed there.0,
      says_plain name there.0 block is_closed (pattern_is name blank there.0 refl there.1),
      record {
        whole = whole;
        written = sym (append-nil (gathered draft.policy)) ∙ ap (λ (b : Bool). gathered draft.policy ++ rules_text (kept b draft.is_full draft.rules (plain name there.0 block ++ denial is_closed there.0))) (sym full);
        full = full ∙ ap (λ (b : Bool). b || overflows draft.rules (plain name there.0 block ++ denial is_closed there.0)) (sym full);
        counted = λ e. let no : true ≡ false = sym full ∙ e in absurd cc;
      },
    )
