-- From a word to its parent, and at the end the first, which is empty.
use Rattle.std.proofs.Common.{◌≡◌, ◌++◌, sym, ap, ◌∙◌, arith, reverse, []}
use Rattle.pol_scan.specs.Words.{word_at}
use Rattle.pol_scan.proofs.WordFacts.{branch_of, length-words_along, word_at-first, longer_back}
use Rattle.pol_scan.proofs.words.Words.word_of.Goals as goal

pub index-branch-requires : goal.index-branch-requires
index-branch-requires c =
    omega (arith, length-words_along c.self.inside.branches.items _ c.self.view_is, c.self.inside.branches.ok.0, c.loop-at.invariant.0)

pub loop-at-smaller : goal.loop-at-smaller
loop-at-smaller c =
    let b = c.index-branch.result.now in
    (branch_of _ _ c.loop-at.at b c.self.view_is c.self.invariant c.loop-at-test.true c.loop-at.invariant.0 c.index-branch.ensures).0

pub loop-at-preserved : goal.loop-at-preserved
loop-at-preserved c =
    let b = c.index-branch.result.now in
    let s = branch_of _ _ c.loop-at.at b c.self.view_is c.self.invariant c.loop-at-test.true c.loop-at.invariant.0 c.index-branch.ensures in (
      omega (arith, s.0, c.loop-at.invariant.0),
      rw c.in_ok-push.ensures.items (longer_back _ (word_at c.args.self.now b.parent) c.loop-at.word.items b.column (c.loop-at.invariant.1 ∙ ap (λ w. w ++ reverse c.loop-at.word.items) s.1)),
    )

pub returns : goal.returns
returns c =
    let first : word_at c.args.self.now c.loop-at.at ≡ [] = ap (word_at c.args.self.now) (omega arith) ∙ sym (ap (λ ws. word_at ws 0) c.self.view_is) ∙ word_at-first c.self.inside.branches.items in
    c.reverse.ensures.items ∙ sym (c.loop-at.invariant.1 ∙ ap (λ w. w ++ reverse c.loop-at.word.items) first)
