-- Which line reaches which rule, by the automaton and by the policy.
use Rattle.std.proofs.Common.{Result, Ok, Err, IfOk, ◌≡◌, ◌⊎◌, ◌<◌, ◌+◌, ℕ, zero, suc, Bool, true, false, List, [], ◌∷◌, ◌++◌, length, map, Option, Some, None, IfSome, refl, sym, ap, subst, ◌∙◌, inl, inr, arith, slice_get, get_or, length-append}
use Rattle.std.specs.Prelude.{IfNone}
use Rattle.std.specs.Option.{option_map}
use Rattle.pol_pattern.specs.Matching.{matches, MatchLaw}
use Rattle.pol_pattern.specs.Spelling.{Holds}
use Rattle.pol_names.specs.declared.subject_id.SubjectId.{SubjectId}
use Rattle.pol_text.specs.Policy.{Entry}
use Rattle.pol_automaton.specs.Decision.{entry_at, IsFirstMatch, Decides, IsReachText}
use Rattle.pol_live.specs.declared.along.ChainRule.{ChainRule}
use Rattle.pol_meaning.specs.Along.{patterns_of}
use Rattle.pol_live.specs.ChainRules.{chain_rule}
use Rattle.pol_meaning.specs.Reach.{IsDecidedAt, IsLeastIfAny, IsReached, AreReached}
use Rattle.pol_meaning.specs.declared.Reached.{Reached}
use Rattle.pol_report.proofs.Leasts.{least_same, if_any_unique, get_push, get_within, has_at, same_places}

module _ (law : MatchLaw) where
  pub not_matched : (source line : List ℕ) → ¬ (Holds source line) → matches source line ≡ false
  not_matched source line not = by (matches source line) (λ e. not ((law.same source line).0 e))
    where
      by : (b : Bool) → (b ≡ true → ⊥) → b ≡ false
      by true h = absurd (h refl)
      by false h = refl

  pub not_held : (source line : List ℕ) → matches source line ≡ false → ¬ (Holds source line)
  not_held source line e h = let yes = (law.same source line).1 h in absurd cc

  pub first_decided : (along : List Entry) (line : List ℕ) (i : ℕ) → IsFirstMatch (patterns_of along) line (Some i) → IsDecidedAt along i line
  first_decided [] line i h = let lt = h.0 in absurd (omega arith)
  first_decided (e ∷ along) line zero h = (law.same e.rule.pattern line).1 h.1
  first_decided (e ∷ along) line (suc i) h =
      let lt = h.0 in
      let later : i < length (patterns_of along) = omega arith in
      (not_matched e.rule.pattern line (h.2 0 (omega arith)), first_decided along line i (later, h.1, λ k less. h.2 (suc k) (omega arith)))

  pub decided_first : (along : List Entry) (line : List ℕ) (i : ℕ) → IsDecidedAt along i line → IsFirstMatch (patterns_of along) line (Some i)
  decided_first [] line i h = absurd h
  decided_first (e ∷ along) line zero h = (omega arith, (law.same e.rule.pattern line).0 h, λ k less. absurd (omega arith))
  decided_first (e ∷ along) line (suc i) h =
      let later = decided_first along line i h.1 in
      let lt = later.0 in
      (omega arith, later.1, earlier later.2)
    where
      earlier : ((k : ℕ) → k < i → ¬ (Holds (entry_at (patterns_of along) k) line)) → (k : ℕ) → k < suc i → ¬ (Holds (entry_at (e.rule.pattern ∷ patterns_of along) k) line)
      earlier before zero less = not_held e.rule.pattern line h.0
      earlier before (suc k) less = before k (omega arith)

  decides_decided : (along : List Entry) (i : ℕ) (line : List ℕ) → Decides (patterns_of along) i line → IsDecidedAt along i line
  decides_decided along i line h = first_decided along line i h.1

  decided_decides : (along : List Entry) (i : ℕ) (line : List ℕ) → IsDecidedAt along i line → Decides (patterns_of along) i line
  decided_decides along i line h = let first = decided_first along line i h in (law.texts _ line first.1, first)

  -- what the automaton finds is the least line, or that there is none
  pub reached_text : {V : Type 0} (f : V → List ℕ) (along : List Entry) (i : ℕ) (found : Option V) → IfSome found (λ v. IsReachText (patterns_of along) i (f v))
      → IfNone found ((t : List ℕ) → ¬ (Decides (patterns_of along) i t)) → IsLeastIfAny (IsDecidedAt along i) (option_map f found)
  reached_text f along i None some none = λ line h. none line (decided_decides along i line h)
  reached_text f along i (Some text) some none = least_same (Decides (patterns_of along) i) (IsDecidedAt along i) (decides_decided along i) (decided_decides along i) (f text) some

-- ---- rows, one after another

-- those of the first places
pub record AreReachedTo (along : List Entry) (count : ℕ) (rows : List Reached) : Type 0 where
  pub many : length rows ≡ count
  pub each : (place : ℕ) (entry : Entry) (reached : Reached) → slice_get along place ≡ Some entry → slice_get rows place ≡ Some reached
      → IsReached along place entry reached

pub no_rows : (along : List Entry) → AreReachedTo along 0 []
no_rows along = record { many = refl; each = λ place entry reached h k. absurd cc }

rule_at : (along : List Entry) (i : ℕ) (entry : Entry) (rule : ChainRule) → slice_get along i ≡ Some entry → get_or (map chain_rule along) i rule ≡ rule → rule ≡ chain_rule entry
rule_at [] i entry rule at same = absurd cc
rule_at (e ∷ along) zero entry rule at same = let is : e ≡ entry = cc in sym same ∙ ap chain_rule is
rule_at (e ∷ along) (suc i) entry rule at same = rule_at along i entry rule at same

abbrev row_of : ChainRule → Option (List ℕ) → Reached
row_of rule text = record { owner = rule.owner; number = rule.number; text = text }

pub more_rows : (along : List Entry) (i : ℕ) (rows : List Reached) (rule : ChainRule) (text : Option (List ℕ)) → get_or (map chain_rule along) i rule ≡ rule
    → AreReachedTo along i rows → IsLeastIfAny (IsDecidedAt along i) text
    → AreReachedTo along (i + 1) (rows ++ record { owner = rule.owner; number = rule.number; text = text } ∷ [])
more_rows along i rows rule text at so_far least =
    let many = so_far.many in
    record {
      many = length-append rows _ ∙ ap (λ n. n + 1) many;
      each = λ place entry reached h k. by place entry reached h (get_push rows (row_of rule text) place reached k);
    }
  where
    here : (entry : Entry) → slice_get along i ≡ Some entry → IsReached along i entry (row_of rule text)
    here entry h = let is = rule_at along i entry rule h at in record { owner = ap (λ r. r.owner) is; number = ap (λ r. r.number) is; text = least }

    by : (place : ℕ) (entry : Entry) (reached : Reached) → slice_get along place ≡ Some entry → (slice_get rows place ≡ Some reached) ⊎ ((place ≡ length rows) × (row_of rule text ≡ reached))
        → IsReached along place entry reached
    by place entry reached h (inl k) = so_far.each place entry reached h k
    by place entry reached h (inr k) =
        let at_i : place ≡ i = k.0 ∙ so_far.many in
        subst (λ (r : Reached). IsReached along place entry r) k.1
        (subst (λ (p : ℕ). IsReached along p entry (row_of rule text)) (sym at_i) (here entry (subst (λ (p : ℕ). slice_get along p ≡ Some entry) at_i h)))

pub all_rows : (along : List Entry) (rows : List Reached) (count : ℕ) → count ≡ length along → AreReachedTo along count rows → AreReached along rows
all_rows along rows count e h = record { many = h.many ∙ e; each = h.each }

-- there is one report
pub only_reached : (along : List Entry) (a b : List Reached) → AreReached along a → AreReached along b → a ≡ b
only_reached along a b h k = same_places a b (h.many ∙ sym k.many) (λ place x y at there. by place x y at there (has_at along place (let lt = get_within a place x at in let n = h.many in omega arith)))
  where
    same_row : (place : ℕ) (entry : Entry) (x y : Reached) → IsReached along place entry x → IsReached along place entry y → x ≡ y
    same_row place entry x y p q =
        ap (λ (o : SubjectId). record x { owner = o }) (p.owner ∙ sym q.owner)
        ∙ ap (λ (n : ℕ). record { owner = y.owner; number = n; text = x.text }) (p.number ∙ sym q.number)
        ∙ ap (λ (t : Option (List ℕ)). record { owner = y.owner; number = y.number; text = t }) (if_any_unique (IsDecidedAt along place) x.text y.text p.text q.text)

    by : (place : ℕ) (x y : Reached) → slice_get a place ≡ Some x → slice_get b place ≡ Some y → (entry : Entry) × (slice_get along place ≡ Some entry) → x ≡ y
    by place x y at there e = same_row place e.0 x y (h.each place e.0 x e.1 at) (k.each place e.0 y e.1 there)

-- ---- answers

pub if_ok_so : {X E : Type 0} {P Q : X → Type 0} (r : Result X E) → ((x : X) → P x → Q x) → IfOk r P → IfOk r Q
if_ok_so (Ok x) so h = so x h
if_ok_so (Err e) so h = tt

pub if_ok_both : {X E : Type 0} {A B C : X → Type 0} (r : Result X E) → ((x : X) → A x → B x → C x) → IfOk r A → IfOk r B → IfOk r C
if_ok_both (Ok x) so a b = so x a b
if_ok_both (Err e) so a b = tt
