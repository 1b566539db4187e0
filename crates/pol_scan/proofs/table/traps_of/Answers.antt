use Rattle.std.proofs.Common.{◌≡◌, ◌↔◌, ◌<◌, ◌+◌, ◌*◌, ℕ, List, IsTrue, length-append, [], ◌∷◌, sym, subst, arith}
use Rattle.std.specs.List.{slice_index}
use Rattle.pol_scan.proofs.Trapping.{mark_push}
use Rattle.pol_scan.proofs.table.traps_of.Goals as goal

abbrev leads_back : ℕ → List ℕ → ℕ → Type 0
leads_back width cells state = (column : ℕ) → column < width → slice_index cells (state * width + column) ≡ state

pub loop-state-preserved : goal.loop-state-preserved
loop-state-preserved c =
    let each = c.loop-state.invariant.each in
    let all = mark_push (leads_back c.args.width c.args.cells.now) c.loop-state.traps.items c.is_trap.result
    (λ k h. c.loop-state.invariant.right k (omega (arith, h, each)))
    (subst (λ n. IsTrue c.is_trap.result ↔ leads_back c.args.width c.args.cells.now n) (sym each) c.is_trap.ensures) in
    record {
      each = rw c.in_ok-push.ensures.items (omega (arith, length-append c.loop-state.traps.items (c.is_trap.result ∷ []), each));
      right = λ k h. rw c.in_ok-push.ensures.items (all k (omega (arith, h, each)));
    }
