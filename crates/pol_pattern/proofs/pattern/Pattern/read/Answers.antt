use Rattle.std.proofs.lemmas.Result.{err_from_is_err_and}
use Rattle.pol_pattern.specs.declared.version.Version.TheVariants.{Two}
use Rattle.pol_pattern.specs.Flat.{terms_value}
use Rattle.pol_pattern.proofs.Front.{pattern_is, pattern_fails}
use Rattle.pol_pattern.proofs.Soundness.{reading_spells}
use Rattle.pol_pattern.proofs.Laws.{refused_for_memory}
use Rattle.pol_pattern.proofs.FaultsSaid.{fault_said}
use Rattle.pol_pattern.proofs.pattern.Pattern.read.Goals as goal

pub returns-in_err-terms-clause-exact : goal.returns-in_err-terms-clause-exact
returns-in_err-terms-clause-exact c =
    let p = err_from_is_err_and c.from_residual.result c.from_residual.ensures.1 in
    rw (p.1, p.2) (pattern_fails c.in_err-terms.field-0.0 c.args.bytes.now c.in_err-terms.ensures.exact)

pub returns-in_err-terms-clause-only : goal.returns-in_err-terms-clause-only
returns-in_err-terms-clause-only c = λ flat spelled.
    let p = err_from_is_err_and c.from_residual.result c.from_residual.ensures.1 in
    rw (p.1, p.2) (refused_for_memory c.in_err-terms.field-0.0 c.args.bytes.now flat spelled c.in_err-terms.ensures.exact)

pub returns-clause-exact : goal.returns-clause-exact
returns-clause-exact c =
    rw (c.in_ok-whole.ensures.ok, c.in_ok-source.ensures) (pattern_is c.args.bytes.now (terms_value c.in_ok-terms.terms.items) c.in_ok-terms.ensures.exact)

pub returns-clause-found : goal.returns-clause-found
returns-clause-found c =
    (terms_value c.in_ok-terms.terms.items, rw (c.in_ok-whole.ensures.ok, c.in_ok-source.ensures) (reading_spells Two c.args.bytes.now (terms_value c.in_ok-terms.terms.items) c.in_ok-terms.ensures.exact))

pub returns-in_err-terms-clause-place : goal.returns-in_err-terms-clause-place
returns-in_err-terms-clause-place c =
    let p = err_from_is_err_and c.from_residual.result c.from_residual.ensures.1 in
    rw (p.1, p.2) (fault_said Two c.args.bytes.now c.in_err-terms.field-0.0 c.in_err-terms.ensures.exact)
