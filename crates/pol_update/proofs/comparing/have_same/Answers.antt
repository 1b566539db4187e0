use Rattle.std.proofs.Common.{◌≡◌, true, sym, ◌∙◌, true≢false}
use Rattle.std.specs.List.{list_all}
use Rattle.pol_update.specs.Update.{HaveSame, has_subject}
use Rattle.pol_update.proofs.Same.{same_from, all_of_same}
use Rattle.pol_update.proofs.comparing.have_same.Goals as goal

pub returns-then-has_all : goal.returns-then-has_all
returns-then-has_all c =
    let one = c.args.one.now in
    let other = c.args.other.now in
    let back : list_all (has_subject one) other ≡ true = rw (← c.subjects.ensures.subjects) (sym c.has_all.ensures ∙ c.if-has_all.true) in
    let there : c.has_all-then-has_all.result ≡ list_all (has_subject other) one = rw (← c.subjects-then-has_all.ensures.subjects) c.has_all-then-has_all.ensures in (
      λ yes. same_from one other back (sym there ∙ yes),
      λ (same : HaveSame one other). there ∙ all_of_same other one c.subjects-then-has_all.ensures.well_formed.distinct (λ id. sym (same id)),
    )

pub returns-else-has_all : goal.returns-else-has_all
returns-else-has_all c =
    let one = c.args.one.now in
    let other = c.args.other.now in
    let back : c.has_all.result ≡ list_all (has_subject one) other = rw (← c.subjects.ensures.subjects) c.has_all.ensures in (
      λ yes. absurd (true≢false (sym yes ∙ c.if-has_all.false)),
      λ (same : HaveSame one other). back ∙ all_of_same one other c.subjects.ensures.well_formed.distinct same,
    )
