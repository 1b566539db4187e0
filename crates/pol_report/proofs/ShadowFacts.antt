-- Rules that no line reaches, a subject at a time.
use Rattle.std.proofs.Common.{◌≡◌, ◌<◌, ◌+◌, ℕ, zero, suc, Option, None, Some, Bool, true, false, not, cond, is_some, List, [], ◌∷◌, ◌++◌, length, map, filter, take, refl, sym, ap, subst, ◌∙◌, arith, get_or, append_assoc, append-nil}
use Rattle.pol_names.specs.declared.subject_id.SubjectId.{SubjectId}
use Rattle.pol_text.specs.declared.subject.Subject.{Subject}
use Rattle.std.specs.Option.{option_map, option_map_or}
use Rattle.pol_text.specs.Policy.{id_of, find_subject, Entry, entries}
use Rattle.pol_meaning.specs.Along.{entries_of}
use Rattle.pol_meaning.specs.Reach.{AreReached, shadowed_row, unreached, ShadowsOf}
use Rattle.pol_report.specs.Sharing.{along, along_at, told_for, AreTold, AreUnreached}
use Rattle.pol_meaning.specs.declared.Reached.{Reached}
use Rattle.pol_meaning.specs.declared.Shadowed.{Shadowed}
use Rattle.pol_report.proofs.ReachFacts.{only_reached}

-- one more row
pub more_unreached : (subject : SubjectId) (rows : List Reached) (i : ℕ) (row : Reached) → i < length rows → get_or rows i row ≡ row
    → unreached subject (take (suc i) rows) ≡ unreached subject (take i rows) ++ cond (is_some row.text) [] (shadowed_row subject row ∷ [])
more_unreached subject [] i row lt at = absurd (omega arith)
more_unreached subject (r ∷ rows) zero row lt at = subst (λ (r : Reached). unreached subject (r ∷ []) ≡ cond (is_some row.text) [] (shadowed_row subject row ∷ [])) (sym at) (by (is_some row.text))
  where
    by : (b : Bool) → map (shadowed_row subject) (cond (not b) (row ∷ []) []) ≡ cond b [] (shadowed_row subject row ∷ [])
    by true = refl
    by false = refl
more_unreached subject (r ∷ rows) (suc i) row lt at = by (is_some r.text) (more_unreached subject rows i row (omega arith) at)
  where
    tail : List Shadowed
    tail = cond (is_some row.text) [] (shadowed_row subject row ∷ [])

    by : (b : Bool) → unreached subject (take (suc i) rows) ≡ unreached subject (take i rows) ++ tail
        → map (shadowed_row subject) (cond (not b) (r ∷ filter (λ row. not (is_some row.text)) (take (suc i) rows)) (filter (λ row. not (is_some row.text)) (take (suc i) rows)))
        ≡ map (shadowed_row subject) (cond (not b) (r ∷ filter (λ row. not (is_some row.text)) (take i rows)) (filter (λ row. not (is_some row.text)) (take i rows))) ++ tail
    by true h = h
    by false h = ap (λ (rest : List Shadowed). shadowed_row subject r ∷ rest) h

module _ (policy : List Subject) where
  -- one more subject
  pub more_shadows : (subjects : List Subject) (i : ℕ) (subject : Subject) (shadows : List Shadowed) (rows : List Reached) → i < length subjects → get_or subjects i subject ≡ subject
      → ShadowsOf policy (take i subjects) shadows → AreReached (entries_of policy (id_of subject)) rows
      → ShadowsOf policy (take (suc i) subjects) (shadows ++ unreached (id_of subject) rows)
  more_shadows [] i subject shadows rows lt at so_far reached = absurd (omega arith)
  more_shadows (s ∷ rest) zero subject shadows rows lt at so_far reached =
      subst (λ (s : Subject). ShadowsOf policy (s ∷ []) (shadows ++ unreached (id_of subject) rows)) (sym at)
      (rows, [], reached, refl, ap (λ (front : List Shadowed). front ++ unreached (id_of subject) rows) so_far ∙ sym (append-nil (unreached (id_of subject) rows)))
  more_shadows (s ∷ rest) (suc i) subject shadows rows lt at so_far reached = (
    so_far.0,
    so_far.1 ++ unreached (id_of subject) rows,
    so_far.2,
    more_shadows rest i subject so_far.1 rows (omega arith) at so_far.3 reached,
    ap (λ (front : List Shadowed). front ++ unreached (id_of subject) rows) so_far.4 ∙ append_assoc (unreached (id_of s) so_far.0) so_far.1 (unreached (id_of subject) rows),
  )

  pub only_shadows : (subjects : List Subject) (a b : List Shadowed) → ShadowsOf policy subjects a → ShadowsOf policy subjects b → a ≡ b
  only_shadows [] a b h k = h ∙ sym k
  only_shadows (s ∷ rest) a b h k =
      let rows = only_reached (entries_of policy (id_of s)) h.0 k.0 h.2 k.2 in
      let later = only_shadows rest h.1 k.1 h.3 k.3 in
      h.4 ∙ ap (λ (rows : List Reached). unreached (id_of s) rows ++ h.1) rows ∙ ap (λ (back : List Shadowed). unreached (id_of s) k.0 ++ back) later ∙ sym k.4

  pub told_shadows : (subjects : List Subject) (i : ℕ) (subject : Subject) (old new : List Shadowed) → i < length subjects → get_or subjects i subject ≡ subject
      → ShadowsOf policy (take i subjects) old → AreTold (entries_of policy (id_of subject)) (id_of subject) old new → ShadowsOf policy (take (i + 1) subjects) new
  told_shadows subjects i subject old new lt at so_far told =
      let longer : suc i ≡ i + 1 = omega arith in
      subst (λ (n : ℕ). ShadowsOf policy (take n subjects) new) longer
      (subst (λ (s : List Shadowed). ShadowsOf policy (take (suc i) subjects) s) (sym told.told) (more_shadows subjects i subject old told.rows lt at so_far told.reached))

-- ---- for whom rules are told

retell : (id other : SubjectId) (rows : List Reached) → map (told_for id) (unreached other rows) ≡ unreached id rows
retell id other [] = refl
retell id other (row ∷ rows) = by (is_some row.text) (retell id other rows)
  where
    later : List Reached
    later = filter (λ row. not (is_some row.text)) rows

    by : (b : Bool) → map (told_for id) (map (shadowed_row other) later) ≡ map (shadowed_row id) later
        → map (told_for id) (map (shadowed_row other) (cond (not b) (row ∷ later) later)) ≡ map (shadowed_row id) (cond (not b) (row ∷ later) later)
    by true h = h
    by false h = ap (λ (rest : List Shadowed). shadowed_row id row ∷ rest) h

pub are_told : (rules : List Entry) (id : SubjectId) (found old new : List Shadowed) → AreUnreached rules found → new ≡ old ++ map (told_for id) found → AreTold rules id old new
are_told rules id found old new h told = record {
  rows = h.rows;
  reached = h.reached;
  told = told ∙ ap (λ (more : List Shadowed). old ++ more) (ap (map (told_for id)) h.listed ∙ retell id h.subject h.rows);
}

-- the rules of the keeper are those of the subject
pub rules_of : (policy : List Subject) (id : SubjectId) (place : Option ℕ) → along_at policy place ≡ along policy id
    → option_map_or (λ rules. rules) (along_at policy place) [] ≡ entries_of policy id
rules_of policy id place same = ap (λ (rules : Option (List Entry)). option_map_or (λ rules. rules) rules []) same ∙ by (find_subject id policy)
  where
    by : (found : Option Subject) → option_map_or (λ rules. rules) (option_map (entries policy) found) [] ≡ option_map_or (entries policy) found []
    by None = refl
    by (Some s) = refl

-- nobody has no rules
pub told_nobody : (policy : List Subject) (id : SubjectId) (shadows : List Shadowed) → is_some (find_subject id policy) ≡ false → AreTold (entries_of policy id) id shadows shadows
told_nobody policy id shadows absent = by (find_subject id policy) absent
  where
    by : (found : Option Subject) → is_some found ≡ false → AreTold (option_map_or (entries policy) found []) id shadows shadows
    by None none = record { rows = []; reached = record { many = refl; each = λ place entry reached h k. absurd cc }; told = sym (append-nil shadows) }
    by (Some s) none = absurd cc
