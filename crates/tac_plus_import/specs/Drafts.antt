-- What is written of rules. A subject has at most 255, and then one more that denies the rest.
use Rattle.std.specs.Prelude.{◌≡◌, ℕ, ◌+◌, ◌-◌, ◌<◌, ◌≤◌, nat_lt, Bool, true, false, ◌||◌, ◌&&◌}
use Rattle.std.specs.Prelude.{List, [], ◌∷◌, ◌++◌, length, take, codes}
use Rattle.pol_names.specs.Decision.{verdict_word}
use Rattle.pol_names.specs.declared.decision.Verdict.TheVariants.{Deny}
use Rattle.posix_expression.specs.Gathered.{gathered, lacks}
use Rattle.tac_plus_file.specs.declared.configuration.Rule.{Rule}
use Rattle.tac_plus_import.specs.declared.block.PolicyRule.{PolicyRule}
use Rattle.tac_plus_import.specs.declared.draft.Draft.{Draft}
use Rattle.tac_plus_import.specs.Rules.{Says, PermitsNoMore}

abbrev pub rule_text : PolicyRule → List ℕ
rule_text rule = verdict_word rule.verdict ++ (rule.pattern ++ 10 ∷ [])

-- a line for each rule, in their order
abbrev pub rules_text : List PolicyRule → List ℕ
rules_text [] = []
rules_text (rule ∷ rules) = rule_text rule ++ rules_text rules

-- denies all that nothing before it decides
abbrev pub deny_all : PolicyRule
deny_all = record { verdict = Deny; pattern = codes ".*" }

abbrev pub is_any : List PolicyRule → Bool
is_any [] = false
is_any (rule ∷ rules) = true

-- there are more than a subject may have, which has so many
abbrev pub overflows : ℕ → List PolicyRule → Bool
overflows count rules = is_any rules && nat_lt 255 (count + length rules)

-- What is written of rules for a subject that has so many, by whether it is full before and after
-- that: all, or as many as it may have, and then that the rest is denied. Nothing comes after that.
abbrev pub kept : Bool → Bool → ℕ → List PolicyRule → List PolicyRule
kept true is_full count rules = []
kept false true count rules = take (255 - count) rules ++ deny_all ∷ []
kept false false count rules = rules

-- what a subject has of rules that say a block permits nothing that the block doesn't
abbrev pub KeptLaw : Type 0
KeptLaw =
    (name : List ℕ) (block : List Rule) (is_closed was_full is_full : Bool) (count : ℕ)
    (rules : List PolicyRule) → Says name block is_closed rules
    → PermitsNoMore name block (kept was_full is_full count rules)

-- the rules were added to the subject that is written
pub record Adds (before : Draft) (rules : List PolicyRule) (after : Draft) : Type 0 where
  pub whole : lacks before.policy ≡ false
  pub written : gathered after.policy
      ≡ gathered before.policy ++ rules_text (kept before.is_full after.is_full before.rules rules)
  pub full : after.is_full ≡ (before.is_full || overflows before.rules rules)
  pub counted : after.is_full ≡ false → after.rules ≡ before.rules + length rules

-- denies the rest, unless that is full anyway
abbrev pub ending : Bool → List PolicyRule
ending true = []
ending false = deny_all ∷ []

-- the rest was denied
pub record Ends (before after : Draft) : Type 0 where
  pub whole : lacks before.policy ≡ false
  pub written : gathered after.policy
      ≡ gathered before.policy ++ rules_text (ending before.is_full)
  pub full : after.is_full ≡ true

-- how much was told
abbrev pub told : Draft → ℕ
told draft = length draft.remarks.items

-- at most something was told
pub record Keeps (before after : Draft) : Type 0 where
  pub policy : lacks after.policy ≡ false
      → (lacks before.policy ≡ false) × (gathered after.policy ≡ gathered before.policy)
  pub rules : after.rules ≡ before.rules
  pub full : after.is_full ≡ before.is_full
  pub quiet : after.is_quiet ≡ before.is_quiet
  pub remarks : told before ≤ told after

-- something was told, unless nothing is to be told, or memory ran out
abbrev pub Tells : Draft → Draft → Type 0
Tells before after =
    before.is_quiet ≡ false → lacks after.policy ≡ false → told before < told after
