use Rattle.std.proofs.Common.{sym, ap, ap₂, ◌∙◌}
use Rattle.pol_pattern.specs.Flat.{term_value, join_term}
use Rattle.pol_pattern.proofs.Values.{term_value-append}
use Rattle.pol_pattern.proofs.Copies.{copies-none, copies-one_more}
use Rattle.pol_pattern.proofs.building.copies.Goals as goal

pub copies-init : goal.copies-init
copies-init c = ap term_value c.new-term.ensures.items ∙ sym (copies-none (term_value c.args.factors.now))

pub copies-preserved : goal.copies-preserved
copies-preserved c =
    ap term_value c.in_ok-append.ensures.items ∙ term_value-append c.copies.term.items c.in_ok-copy.copy.items
    ∙ ap₂ join_term c.copies.invariant c.in_ok-copy.ensures ∙ copies-one_more c.copies._made (term_value c.args.factors.now)
