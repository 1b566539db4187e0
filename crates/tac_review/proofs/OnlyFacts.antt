-- One output alone is right.
use Rattle.std.proofs.Common.{◌≡◌, ℕ, List, Result, Ok, Err, IfOk, sym, ap, subst, ◌∙◌}
use Rattle.pol_text.specs.declared.subject.Subject.{Subject}
use Rattle.pol_meaning.specs.Changes.{AreChanges}
use Rattle.pol_meaning.specs.declared.Changes.{Changes}
use Rattle.pol_secrets.specs.Altering.{secret_changes}
use Rattle.pol_secrets.specs.declared.secret_change.SecretChange.{SecretChange}
use Rattle.pol_live.specs.Judging.{Judges, IsOnlyJudged}
use Rattle.pol_live.specs.declared.judging.TextRefusal.{TextRefusal}
use Rattle.tac_review.specs.Judged.{ByJudged, IsOnly}
use Rattle.tac_review.specs.Review.{IsRight, Diffs, ChangesTo, ListsEdits, Continues, changes_text, changes_end}
use Rattle.tac_review.specs.declared.task.Review.{Review}
use Rattle.tac_review.specs.declared.task.Review.TheVariants.{Diff, Edits}
use Rattle.tac_review.specs.declared.task.ReviewEnd.{ReviewEnd}

pub ok_so : {X E : Type 0} (r : Result X E) {P Q : X → Type 0} → ((x : X) → P x → Q x) → IfOk r P → IfOk r Q
ok_so (Ok x) so h = so x h
ok_so (Err e) so h = tt

-- what is equal to one value alone
pub equal_only : {End : Type 0} (line output : List ℕ) (last end : End) → output ≡ line → end ≡ last → IsOnly (λ other at. (other ≡ line) × (at ≡ last)) output end
equal_only line output last end p q = record { wanted = (p, q); only = λ other at w. (w.0 ∙ sym p, w.1 ∙ sym q) }

-- what goes on from a judgement
pub judged_only : {End : Type 0} (text : List ℕ) (judged : Result (List Subject) TextRefusal) (by : Result (List Subject) TextRefusal → List ℕ → End → Type 0) (output : List ℕ) (end : End)
    → Judges text judged → IsOnlyJudged text judged → IsOnly (by judged) output end → IsOnly (ByJudged by text) output end
judged_only text judged by output end judges one only = record {
  wanted = (judged, judges, only.wanted);
  only = λ other last w. only.only other last (subst (λ (found : Result (List Subject) TextRefusal). by found other last) (sym (one w.0 w.1)) w.2);
}

-- the changes between two policies
pub changes_only : (old new : List Subject) (changes : Changes) (secrets : List SecretChange) (output : List ℕ) (end : ReviewEnd) → AreChanges old new changes
    → ((other : Changes) → AreChanges old new other → changes ≡ other) → secrets ≡ secret_changes old new → output ≡ changes_text changes secrets → end ≡ changes_end changes secrets
    → IsOnly (ChangesTo old new) output end
changes_only old new changes secrets output end are one became p q =
    let told = p ∙ ap (changes_text changes) became in
    let ended = q ∙ ap (changes_end changes) became in
    record {
      wanted = (changes, are, told, ended);
      only = λ other last w.
          let same = one w.0 w.1 in (
            w.2 ∙ ap (λ (it : Changes). changes_text it (secret_changes old new)) (sym same) ∙ sym told,
            w.3 ∙ ap (λ (it : Changes). changes_end it (secret_changes old new)) (sym same) ∙ sym ended,
          );
    }

pub diff_continues : (review : Review) (name text : List ℕ) (policy : List Subject) (output : List ℕ) (end : ReviewEnd) → review ≡ Diff → IsOnly (Diffs name text policy) output end
    → IsRight review (Continues review name text policy) output end
diff_continues review name text policy output end is only =
    subst (λ (r : Review). IsRight r (Continues r name text policy) output end) (sym is) (record { wanted = only.wanted; only = λ other last w. only.only other last w })

pub edits_continue : (review : Review) (name text : List ℕ) (policy : List Subject) (output : List ℕ) (end : ReviewEnd) → review ≡ Edits → ListsEdits name text policy output end
    → IsRight review (Continues review name text policy) output end
edits_continue review name text policy output end is lists = subst (λ (r : Review). IsRight r (Continues r name text policy) output end) (sym is) lists
