use Rattle.std.proofs.Common.{◌≡◌, ◌++◌, List, Result, Ok, Err, IfOk, sym, subst, ◌∙◌, inl, inr}
use Rattle.std.proofs.lemmas.List.{take-append-drop}
use Rattle.pol_edit.specs.declared.edit.Edit.{Edit}
use Rattle.tac_review.specs.Loading.{IsBatch}
use Rattle.tac_review.proofs.LoadingFacts.{Printed, none_printed, one_more, all_printed, one_refused, fits_batch, full_batch, none_left}
use Rattle.tac_review.proofs.loading.printed.Goals as goal

pub batches-init : goal.batches-init
batches-init c = rw c.new-text.ensures.items (none_printed c.args.old c.args.edits.now)

pub batches-preserved : goal.batches-preserved
batches-preserved c =
    let rest = c.batches.rest.now in
    let batch = c.split_at.result.0.now in
    let after = c.split_at.result.1.now in
    let whole : batch ++ after ≡ rest = rw (c.split_at.ensures.front, c.split_at.ensures.back) (take-append-drop c.min.result rest) in
    let was : Printed c.args.old c.batches.live c.args.edits.now (batch ++ after) c.batches.text.items c.batches.batches =
    subst (λ (r : List Edit). Printed c.args.old c.batches.live c.args.edits.now r c.batches.text.items c.batches.batches) (sym whole) c.batches.invariant in
    let made = rw c.in-Ok-Ok.field-0-is at c.in-Ok-Ok.ensures.made in
    let fits : IsBatch batch = fits_batch rest batch c.min.result (sym c.is_empty.ensures ∙ c.batches-test.true) c.min.ensures c.split_at.ensures.front_len in
    one_more c.args.old c.batches.live c.make.new.live c.args.edits.now batch after c.batches.text.items c.add_batch.new.text.items c.batches.batches
    was fits made.0 made.1 c.in_ok-add_batch.ensures.text (full_batch rest batch after c.min.result whole c.min.ensures c.split_at.ensures.front_len) c.in_ok-add_batch.ensures.spelled

pub returns : goal.returns
returns c = λ new update nothing.
    let none = none_left c.batches.rest.now (sym c.is_empty.ensures ∙ c.batches-test.false) in
    inl (all_printed c.args.old c.batches.live new c.args.edits.now c.batches.rest.now c.batches.text.items c.batches.batches c.end_of.result c.batches.invariant none update nothing c.end_of.ensures)

pub returns-in-Ok-Err : goal.returns-in-Ok-Err
returns-in-Ok-Err c = λ new update nothing.
    let rest = c.batches.rest.now in
    let batch = c.split_at.result.0.now in
    let after = c.split_at.result.1.now in
    let whole : batch ++ after ≡ rest = rw (c.split_at.ensures.front, c.split_at.ensures.back) (take-append-drop c.min.result rest) in
    let was : Printed c.args.old c.batches.live c.args.edits.now (batch ++ after) c.batches.text.items c.batches.batches =
    subst (λ (r : List Edit). Printed c.args.old c.batches.live c.args.edits.now r c.batches.text.items c.batches.batches) (sym whole) c.batches.invariant in
    let too_large = rw c.in-Ok-Err.field-0-is at c.in-Ok-Err.ensures.refused in
    let fits : IsBatch batch = fits_batch rest batch c.min.result (sym c.is_empty.ensures ∙ c.batches-test.true) c.min.ensures c.split_at.ensures.front_len in
    ok_so c.refused.result
    (λ output told. inr (one_refused c.args.old c.batches.live new c.args.edits.now batch after c.batches.text.items output.0.items c.batches.batches c.in-Ok-Err.fault output.1 was update nothing fits (full_batch rest batch after c.min.result whole c.min.ensures c.split_at.ensures.front_len) too_large told.0 told.1))
    c.refused.ensures
  where
    ok_so : {X E : Type 0} (r : Result X E) {P Q : X → Type 0} → ((x : X) → P x → Q x) → IfOk r P → IfOk r Q
    ok_so (Ok x) so h = so x h
    ok_so (Err e) so h = tt
