-- What edits leave as it was: rules and groups of all subjects that they don't touch, and so the
-- rules along most chains.
use Rattle.std.proofs.Common.{◌≡◌, ℕ, zero, suc, ◌+◌, ◌-◌, ◌<◌, ◌≤◌, Bool, true, false, true≢false, cond, not, ◌&&◌, ◌||◌, List, [], ◌∷◌, ◌++◌, map, Option, None, Some, refl, sym, ap, subst, ◌∙◌, is_some, slice_get, nat_lt, length, IsTrue, if◌then◌else◌}
use Rattle.std.specs.Option.{option_map, option_map_or, option_and_then}
use Rattle.std.specs.List.{list_any, list_all}
use Rattle.std.proofs.lemmas.Bool.{and_parts, or_parts, or_right}
use Rattle.std.proofs.lemmas.Option.{same_Some, none-some, slice_get_within}
use Rattle.pol_names.specs.declared.subject_id.SubjectId.{SubjectId}
use Rattle.pol_names.specs.SubjectId.{same_id, same_id-Decides, group_id}
use Rattle.pol_automaton.specs.Automaton.{Automaton}
use Rattle.pol_text.specs.declared.subject.Rule.{Rule}
use Rattle.pol_text.specs.declared.subject.Subject.{Subject}
use Rattle.pol_text.specs.Policy.{id_of, find_subject, parent_of, has_parent, all_of, all_distinct, chain_within, Entry, entries_along, entries, own_entries, numbered, WellFormed}
use Rattle.pol_meaning.specs.Along.{patterns_of, patterns_along}
use Rattle.pol_live.specs.declared.parts.Parts.{Parts}
use Rattle.pol_live.specs.declared.touching.Touched.{Touched}
use Rattle.pol_live.specs.Kept.{IsFit, AreParts, AreAll, HaveKeepers, slot, own_patterns, has_rules, is_keeper}
use Rattle.pol_live.specs.Renewing.{is_among, renews_own, renews_chain, LeavesOthers, IsAlike, IsKept, AreKept}
use Rattle.pol_live.proofs.AlongFacts.{chain_step, chain_none}

-- ---- kinds and names

pub same_id_is : (a b : SubjectId) → same_id a b ≡ true → a ≡ b
same_id_is a b e = (same_id-Decides a b).0 e

pub same_id_self : (a : SubjectId) → same_id a a ≡ true
same_id_self a = (same_id-Decides a a).1 refl

-- ---- subjects that are found

pub found_id : (id : SubjectId) (p : List Subject) (s : Subject) → find_subject id p ≡ Some s → id ≡ id_of s
found_id id [] s e = cc
found_id id (x ∷ p) s e = by (same_id id (id_of x)) refl e (found_id id p s)
  where
    by : (b : Bool) → same_id id (id_of x) ≡ b → cond b (Some x) (find_subject id p) ≡ Some s → (find_subject id p ≡ Some s → id ≡ id_of s) → id ≡ id_of s
    by true h e later = same_id_is id (id_of x) h ∙ ap id_of (same_Some x s e)
    by false h e later = later e

found_passes : (test : Subject → Bool) (id : SubjectId) (p : List Subject) (s : Subject) → list_all test p ≡ true → find_subject id p ≡ Some s → test s ≡ true
found_passes test id [] s all e = cc
found_passes test id (x ∷ p) s all e = by (same_id id (id_of x)) e (found_passes test id p s (and_parts (test x) (list_all test p) all).1)
  where
    by : (b : Bool) → cond b (Some x) (find_subject id p) ≡ Some s → (find_subject id p ≡ Some s → test s ≡ true) → test s ≡ true
    by true h later = subst (λ t. test t ≡ true) (same_Some x s h) (and_parts (test x) (list_all test p) all).0
    by false h later = later h

-- ---- the rules along a chain that no touched subject is on

module _ (touched : Touched) (old new : List Subject) (alike : IsAlike touched old new) (parents : list_all (has_parent new) new ≡ true) where
  -- of a subject that was there with the same rules and in the same group
  abbrev Same : ℕ → Type 0
  Same most = (id : SubjectId) (s o : Subject) → find_subject id new ≡ Some s → id_of o ≡ id_of s → o.rules ≡ s.rules → o.parent ≡ s.parent
      → list_any (is_among touched.all) (chain_within most new s) ≡ false → entries_along (chain_within most old o) ≡ entries_along (chain_within most new s)

  -- of a group
  same_above : (most : ℕ) (name : List ℕ) (g : Option Subject) → Same most → find_subject (group_id name) new ≡ g → is_some g ≡ true
      → list_any (is_among touched.all) (option_map_or (chain_within most new) g []) ≡ false
      → entries_along (option_map_or (chain_within most old) (find_subject (group_id name) old) []) ≡ entries_along (option_map_or (chain_within most new) g [])
  unfolding chain_within
  same_above most name None same at there none = absurd cc
  same_above zero name (Some g) same at there none = nothing (find_subject (group_id name) old)
    where
      nothing : (o : Option Subject) → entries_along (option_map_or (chain_within zero old) o []) ≡ entries_along (chain_within zero new g)
      nothing None = refl
      nothing (Some x) = refl
  same_above (suc most) name (Some g) same at there none =
      let was = alike.untouched (group_id name) g at (not_head most g none) in
      ap (λ (x : Option Subject). entries_along (option_map_or (chain_within (suc most) old) x [])) was.1
      ∙ same (group_id name) g was.0 at (sym (found_id (group_id name) old was.0 was.1) ∙ found_id (group_id name) new g at) was.2 was.3 none
    where
      not_head : (most : ℕ) (g : Subject) → list_any (is_among touched.all) (chain_within (suc most) new g) ≡ false → is_among touched.all g ≡ false
      not_head most g none = (or_parts (is_among touched.all g) _ none).0

  same_entries : (most : ℕ) → Same most
  unfolding chain_within
  same_entries zero id s o found ids rules parent none = refl
  same_entries (suc most) id s o found ids rules parent none =
      let own : own_entries o ≡ own_entries s = λ i. numbered (ids i) 1 (rules i) in
      let there = found_passes (has_parent new) id new s parents found in
      let later = above s.parent there (or_parts (is_among touched.all s) _ none).1 (same_entries most) in
      ap (λ (p : Option (List ℕ)). own_entries o ++ entries_along (option_map_or (chain_within most old) (option_and_then (λ name. find_subject (group_id name) old) p) [])) parent
      ∙ (λ i. own i ++ later i)
    where
      above : (p : Option (List ℕ)) → all_of (λ name. is_some (find_subject (group_id name) new)) p ≡ true
          → list_any (is_among touched.all) (option_map_or (chain_within most new) (option_and_then (λ name. find_subject (group_id name) new) p) []) ≡ false → Same most
          → entries_along (option_map_or (chain_within most old) (option_and_then (λ name. find_subject (group_id name) old) p) [])
          ≡ entries_along (option_map_or (chain_within most new) (option_and_then (λ name. find_subject (group_id name) new) p) [])
      above None there none same = refl
      above (Some name) there none same = same_above most name (find_subject (group_id name) new) same refl there none

-- whose chain has no touched subject
pub leaves_others : (touched : Touched) (old new : List Subject) → IsAlike touched old new → list_all (has_parent new) new ≡ true → LeavesOthers touched.all old new
unfolding chain_within
leaves_others touched old new alike parents id s found other =
    let was = alike.untouched id s found (or_parts (is_among touched.all s) _ other).0 in
    let same = same_entries touched old new alike parents 8 id s was.0 found (sym (found_id id old was.0 was.1) ∙ found_id id new s found) was.2 was.3 other in
    ap (option_map (entries old)) was.1 ∙ ap Some same

-- ---- whether a touched subject is on a chain, a subject at a time

pub any_step : (test : Subject → Bool) (policy : List Subject) (subject : Subject) (i : ℕ) (parent : Option Subject) → i < 8 → parent_of policy subject ≡ parent
    → list_any test (chain_within (8 - i) policy subject) ≡ (test subject || list_any test (option_map_or (chain_within (8 - (i + 1)) policy) parent []))
any_step test policy subject i parent lt e = ap (list_any test) (chain_step policy subject i parent lt e)

pub any_none : (test : Subject → Bool) (policy : List Subject) (subject : Subject) (i : ℕ) → 8 ≤ i → list_any test (chain_within (8 - i) policy subject) ≡ false
any_none test policy subject i past = ap (list_any test) (chain_none policy subject i past)

-- ---- automata that are kept

any_at : (a : SubjectId) (p : List Subject) (i : ℕ) (s : Subject) → slice_get p i ≡ Some s → same_id a (id_of s) ≡ true → list_any (same_id a) (map id_of p) ≡ true
any_at a [] i s at same = cc
any_at a (x ∷ p) zero s at same =
    let e : x ≡ s = same_Some x s at in
    ap (λ (t : Subject). same_id a (id_of t) || list_any (same_id a) (map id_of p)) e ∙ ap (λ (t : Bool). t || list_any (same_id a) (map id_of p)) same
any_at a (x ∷ p) (suc i) s at same = or_right (same_id a (id_of x)) (list_any (same_id a) (map id_of p)) (any_at a p i s at same)

-- a subject is found by its kind and name
pub find_at : (p : List Subject) (k : ℕ) (s : Subject) → all_distinct (map id_of p) ≡ true → slice_get p k ≡ Some s → find_subject (id_of s) p ≡ Some s
find_at [] k s d at = cc
find_at (x ∷ p) zero s d at =
    let e : x ≡ s = same_Some x s at in
    ap (λ (b : Bool). if b then Some x else find_subject (id_of s) p) (ap (λ (t : Subject). same_id (id_of s) (id_of t)) e ∙ same_id_self (id_of s)) ∙ ap Some e
find_at (x ∷ p) (suc k) s d at =
    let parts = and_parts (not (list_any (same_id (id_of x)) (map id_of p))) (all_distinct (map id_of p)) d in
    by (same_id (id_of s) (id_of x)) refl parts.0 (find_at p k s parts.1 at)
  where
    by : (b : Bool) → same_id (id_of s) (id_of x) ≡ b → not (list_any (same_id (id_of x)) (map id_of p)) ≡ true → find_subject (id_of s) p ≡ Some s
        → (if b then Some x else find_subject (id_of s) p) ≡ Some s
    by true h none later =
        let same = any_at (id_of x) p k s at (ap (λ (t : SubjectId). same_id (id_of x) t) (same_id_is (id_of s) (id_of x) h) ∙ same_id_self (id_of x)) in
        absurd (true≢false (sym none ∙ ap not same))
    by false h none later = later

-- what was kept for a subject was that of the subject before
kept_was : (old : List Subject) (slots : List (Option Automaton)) (s o : Subject) (kept : Option Automaton) (d : Automaton) → IsKept false old slots s kept → kept ≡ Some d
    → find_subject (id_of s) old ≡ Some o → (j : ℕ) × (slice_get old j ≡ Some o) × (slot slots j ≡ Some d)
kept_was old slots s o kept d (None, found, is) e was = absurd (none-some o (sym found ∙ was))
kept_was old slots s o kept d (Some j, found, is) e was = (j, sym found ∙ was, sym is ∙ e)

kept_cases : (b : Bool) (old : List Subject) (slots : List (Option Automaton)) (s : Subject) (kept : Option Automaton) (d : Automaton) → IsKept b old slots s kept → kept ≡ Some d
    → (b ≡ false) × IsKept false old slots s kept
kept_cases true old slots s kept d h e = absurd (none-some d (sym h ∙ e))
kept_cases false old slots s kept d h e = (refl, h)

module _ (touched : Touched) (old new : List Subject) (alike : IsAlike touched old new) (well : WellFormed new) (parts : Parts) (right : AreParts old parts) where
  -- whose own automaton isn't made anew had these rules, and is a keeper where it was one
  had_rules : (s : Subject) → find_subject (id_of s) new ≡ Some s → renews_own touched s ≡ false
      → (o : Subject) × (find_subject (id_of s) old ≡ Some o) × (o.rules ≡ s.rules) × (is_keeper o ≡ is_keeper s)
  had_rules s found keeps =
      let parts = or_parts (is_among touched.rewritten s) _ keeps in
      by (is_among touched.all s) (has_rules s) refl refl parts.0 parts.1
    where
      by : (t r : Bool) → is_among touched.all s ≡ t → has_rules s ≡ r → is_among touched.rewritten s ≡ false → (t && not r) ≡ false
          → (o : Subject) × (find_subject (id_of s) old ≡ Some o) × (o.rules ≡ s.rules) × (is_keeper o ≡ is_keeper s)
      by false r h l k e =
          let was = alike.untouched (id_of s) s found h in
          (was.0, was.1, was.2, λ i. nat_lt 0 (length (was.2 i)) || not (is_some (was.3 i)))
      by true true h l k e =
          let was = alike.unwritten (id_of s) s found k in
          let its : has_rules was.0 ≡ true = ap (λ (rules : List Rule). nat_lt 0 (length rules)) was.2 ∙ l in
          (was.0, was.1, was.2, ap (λ (b : Bool). b || not (is_some was.0.parent)) its ∙ sym (ap (λ (b : Bool). b || not (is_some s.parent)) l))
      by true false h l k e = absurd (true≢false e)

  pub owns_right : (kept : List (Option Automaton)) → AreKept (renews_own touched) old parts.owns new kept → (k : ℕ) (s : Subject) (d : Automaton) → slice_get new k ≡ Some s
      → slot kept k ≡ Some d → IsFit (own_patterns s) d × (is_keeper s ≡ true)
  owns_right kept all k s d here there =
      let found = find_at new k s well.distinct here in
      let keeps = kept_cases (renews_own touched s) old parts.owns s (slot kept k) d (all.1 k s here) there in
      let had = had_rules s found keeps.0 in
      let was = kept_was old parts.owns s had.0 (slot kept k) d keeps.1 there had.1 in
      let right_there = right.owns was.0 had.0 d was.1 was.2 in
      (subst (λ (rules : List Rule). IsFit (map (λ rule. rule.pattern) rules) d) had.2 right_there.0, sym had.3 ∙ right_there.1)

  pub wholes_right : (kept : List (Option Automaton)) → AreKept (renews_chain touched new) old parts.wholes new kept → (k : ℕ) (s : Subject) (d : Automaton) → slice_get new k ≡ Some s
      → slot kept k ≡ Some d → IsFit (patterns_along new s) d
  unfolding chain_within
  wholes_right kept all k s d here there =
      let found = find_at new k s well.distinct here in
      let keeps = kept_cases (renews_chain touched new s) old parts.wholes s (slot kept k) d (all.1 k s here) there in
      let had = alike.untouched (id_of s) s found (or_parts (is_among touched.all s) _ keeps.0).0 in
      let was = kept_was old parts.wholes s had.0 (slot kept k) d keeps.1 there had.1 in
      let same = same_entries touched old new alike well.parents 8 (id_of s) s had.0 found (sym (found_id (id_of s) old had.0 had.1)) had.2 had.3 keeps.0 in
      subst (λ (es : List Entry). IsFit (patterns_of es) d) same (right.wholes was.0 had.0 d was.1 was.2)

  -- what is kept for a subject that was at a place, and had an automaton there
  still_some : (b : Bool) (slots : List (Option Automaton)) (s o : Subject) (kept : Option Automaton) → b ≡ false → IsKept b old slots s kept → find_subject (id_of s) old ≡ Some o
      → ((j : ℕ) → slice_get old j ≡ Some o → IsTrue (is_some (slot slots j))) → IsTrue (is_some kept)
  still_some true slots s o kept e h was there = absurd (true≢false e)
  still_some false slots s o kept e (None, found, is) was there = absurd (none-some o (sym found ∙ was))
  still_some false slots s o kept e (Some j, found, is) was there = ap is_some is ∙ there j (sym found ∙ was)

  pub owns_kept : (kept : List (Option Automaton)) → HaveKeepers old parts → AreKept (renews_own touched) old parts.owns new kept → (k : ℕ) (s : Subject) → slice_get new k ≡ Some s
      → (renews_own touched s ≡ true → slot kept k ≡ None) × (renews_own touched s ≡ false → is_keeper s ≡ true → IsTrue (is_some (slot kept k)))
  owns_kept kept keepers all k s here = (
    λ renewed. none (renews_own touched s) renewed (all.1 k s here),
    λ keeps keeper.
        let had = had_rules s (find_at new k s well.distinct here) keeps in
        still_some (renews_own touched s) parts.owns s had.0 (slot kept k) keeps (all.1 k s here) had.1 (λ j at. keepers j had.0 at (had.3 ∙ keeper)),
  )
    where
      none : (b : Bool) → b ≡ true → IsKept b old parts.owns s (slot kept k) → slot kept k ≡ None
      none true e h = h
      none false e h = absurd (true≢false (sym e))

  pub wholes_kept : (kept : List (Option Automaton)) → AreAll old parts → AreKept (renews_chain touched new) old parts.wholes new kept → (k : ℕ) (s : Subject) → slice_get new k ≡ Some s
      → (renews_chain touched new s ≡ true → slot kept k ≡ None) × (renews_chain touched new s ≡ false → IsTrue (is_some (slot kept k)))
  unfolding chain_within
  wholes_kept kept each all k s here = (
    λ renewed. none (renews_chain touched new s) renewed (all.1 k s here),
    λ keeps.
        let had = alike.untouched (id_of s) s (find_at new k s well.distinct here) (or_parts (is_among touched.all s) _ keeps).0 in
        still_some (renews_chain touched new s) parts.wholes s had.0 (slot kept k) keeps (all.1 k s here) had.1 (λ j at. each j (slice_get_within old j had.0 at)),
  )
    where
      none : (b : Bool) → b ≡ true → IsKept b old parts.wholes s (slot kept k) → slot kept k ≡ None
      none true e h = h
      none false e h = absurd (true≢false (sym e))
