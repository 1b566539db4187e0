use Rattle.std.proofs.Common.{◌≡◌, sym, ap, ◌∙◌, List, [], ◌∷◌, ℕ, Bool, cond, get_or, ◌++◌}
use Rattle.pol_pattern.specs.Upgrading.{needs_mark, upgraded}
use Rattle.pol_pattern.proofs.Upgraded.{byte_step, bytes_end}
use Rattle.pol_pattern.proofs.upgrading.upgraded.Goals.{then-needs_mark+in_ok-push, else-needs_mark}
use Rattle.pol_pattern.proofs.upgrading.upgraded.Goals as goal

pub bytes-init : goal.bytes-init
bytes-init c = ap (λ (s : List ℕ). s ++ upgraded c.args.bytes.now) c.new-source.ensures

pub bytes-preserved : goal.bytes-preserved
bytes-preserved c =
    let old = c.bytes.source in
    let byte : ℕ = get_or c.args.bytes.now c.bytes.byte-index 0 in
    let marked : c.if-needs_mark.source ≡ cond (needs_mark c.bytes.in_class c.bytes.quoted byte) (old ++ 92 ∷ []) old =
    elim c.if-needs_mark.branch [
      | then-needs_mark+in_ok-push w ↦
          w.source-is ∙ w.in_ok-push.ensures.ok ∙ ap (λ (b : Bool). cond b (old ++ 92 ∷ []) old) (sym w.if-needs_mark.true ∙ c.needs_mark.ensures)
      | else-needs_mark w ↦ w.source-is ∙ ap (λ (b : Bool). cond b (old ++ 92 ∷ []) old) (sym w.if-needs_mark.false ∙ c.needs_mark.ensures)
    ] in
    byte_step old c.if-needs_mark.source c.push-in-bytes.new.self c.bytes.in_class c.bytes.quoted c.in_class_after-in_class.result c.quoted_after-quoted.result c.args.bytes.now c.bytes.byte-index
    (upgraded c.args.bytes.now) c.bytes-test.true c.in_class_after-in_class.ensures c.quoted_after-quoted.ensures marked c.in_ok-push-2.ensures.ok c.bytes.invariant

pub returns : goal.returns
returns c = bytes_end c.bytes.source c.bytes.in_class c.bytes.quoted c.args.bytes.now c.bytes.byte-index (upgraded c.args.bytes.now) c.bytes-test.false c.bytes.invariant
