-- The sum of the tallies of a group's users, one more subject on.
use Rattle.std.proofs.Common.{◌≡◌, ℕ, ◌+◌, ◌*◌, ◌^◌, Bool, true, false, ◌&&◌, cond, List, [], ◌∷◌, ◌++◌, map, filter, fold, refl, sym, ap, ◌∙◌, arith}
use Rattle.std.specs.List.{list_any}
use Rattle.std.proofs.lemmas.Bool.{cond-true}
use Rattle.std.proofs.lemmas.List.{map-append}
use Rattle.std.proofs.lemmas.List.Elements.{filter-append}
use Rattle.std.proofs.lemmas.List.Sums.{fold-append}
use Rattle.pol_names.specs.SubjectId.{same_kind, same_id, group_id}
use Rattle.pol_text.specs.Policy.{id_of, chain_ids}
use Rattle.pol_names.specs.declared.subject_id.Kind.TheVariants.{User}
use Rattle.pol_text.specs.declared.subject.Subject.{Subject}
use Rattle.pol_names.specs.declared.subject_id.SubjectId.{SubjectId}
use Rattle.tac_tally.specs.Book.{Entry}
use Rattle.tac_tally.specs.Tally.{tally_of, is_user_below, plus, no_tally, IsBelow}
use Rattle.tac_tally.specs.declared.tally.Tally.{Tally}

-- the sum over those of the subjects that are users whose chain holds the group
abbrev pub sum_over : List Subject → List ℕ → List Entry → List Subject → Tally
sum_over policy group entries subjects = fold plus no_tally (map (λ user. tally_of user.name entries) (filter (is_user_below policy group) subjects))

one_more : (name : Subject → Tally) (s : Subject) (total : Tally) (below : Bool) → fold plus total (map name (cond below (s ∷ []) [])) ≡ cond below (plus total (name s)) total
one_more name s total true = refl
one_more name s total false = refl

sum_over-push : (policy : List Subject) (group : List ℕ) (entries : List Entry) (subjects : List Subject) (s : Subject)
    → sum_over policy group entries (subjects ++ s ∷ [])
    ≡ cond (is_user_below policy group s) (plus (sum_over policy group entries subjects) (tally_of s.name entries)) (sum_over policy group entries subjects)
sum_over-push policy group entries subjects s =
    let test = is_user_below policy group in
    let name : Subject → Tally = λ user. tally_of user.name entries in
    ap (λ l. fold plus no_tally (map name l)) (filter-append test subjects (s ∷ []))
    ∙ ap (fold plus no_tally) (map-append name (filter test subjects) (cond (test s) (s ∷ []) []))
    ∙ fold-append plus no_tally (map name (filter test subjects)) (map name (cond (test s) (s ∷ []) []))
    ∙ one_more name s (sum_over policy group entries subjects) (test s)

-- the sum over those of the n subjects seen that are users of the group, and that it fits
pub record Sums (policy : List Subject) (group : List ℕ) (entries : List Entry) (seen : List Subject) (n : ℕ) (total : Tally) : Type 0 where
  pub sum : total ≡ sum_over policy group entries seen
  pub small : IsBelow (n * 2 ^ 96 + 1) total

pub sums-user : (policy : List Subject) (group : List ℕ) (entries : List Entry) (seen : List Subject) (n : ℕ) (total total' tally : Tally) (s : Subject)
    → is_user_below policy group s ≡ true → tally ≡ tally_of s.name entries → IsBelow (2 ^ 96) tally → total' ≡ plus total tally
    → Sums policy group entries seen n total → Sums policy group entries (seen ++ s ∷ []) (n + 1) total'
sums-user policy group entries seen n total total' tally s below is small is' h = record {
  sum = is' ∙ ap (λ t. plus t tally) h.sum ∙ ap (plus (sum_over policy group entries seen)) is
      ∙ sym (sum_over-push policy group entries seen s ∙ cond-true _ _ _ below);
  small = rw is' (record {
    starts = omega (arith, h.small.starts, small.starts);
    stops = omega (arith, h.small.stops, small.stops);
    watchdogs = omega (arith, h.small.watchdogs, small.watchdogs);
    updates = omega (arith, h.small.updates, small.updates);
    open_tasks = omega (arith, h.small.open_tasks, small.open_tasks);
    elapsed = omega (arith, h.small.elapsed, small.elapsed);
    drift = omega (arith, h.small.drift, small.drift);
  });
}

-- a search of the chain finds the group
pub chain_holds : (policy : List Subject) (group : List ℕ) (s : Subject) (ids chain : List SubjectId) (id holder : SubjectId) (answer : Bool)
    → answer ≡ list_any (λ y. same_id y holder) ids → ids ≡ chain → chain ≡ chain_ids policy id → id ≡ id_of s → holder ≡ group_id group → s.kind ≡ User
    → answer ≡ is_user_below policy group s
chain_holds policy group s ids chain id holder answer found same is of at user =
    let chain_is = same ∙ is ∙ ap (chain_ids policy) of in
    found ∙ ap (λ h. list_any (λ y. same_id y h) ids) at ∙ ap (list_any (λ y. same_id y (group_id group))) chain_is
    ∙ ap (λ k. same_kind k User && list_any (λ y. same_id y (group_id group)) (chain_ids policy (id_of s))) (sym user)
