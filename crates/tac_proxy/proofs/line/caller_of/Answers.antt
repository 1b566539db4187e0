use Rattle.std.proofs.Common.{sym, ◌∙◌}
use Rattle.tac_proxy.specs.Words.{seen}
use Rattle.tac_proxy.proofs.WordFacts.{other_family, other_target, differ}
use Rattle.tac_proxy.proofs.line.caller_of.Goals as goal

pub returns-then-ne-2-clause-none : goal.returns-then-ne-2-clause-none
returns-then-ne-2-clause-none c =
    other_family (seen c.args.words.now) c.in-Ok.source c.in-Ok.ensures (λ same. differ _ _ c.if-ne-2.ensures (same ∙ sym c.family_word.ensures))

pub returns-then-ne-3-clause-none : goal.returns-then-ne-3-clause-none
returns-then-ne-3-clause-none c =
    other_target (seen c.args.words.now) c.in-Ok-parse_ascii.target c.in-Ok-parse_ascii.ensures (λ same. differ _ _ c.if-ne-3.ensures (same ∙ sym c.family_word-2.ensures))
