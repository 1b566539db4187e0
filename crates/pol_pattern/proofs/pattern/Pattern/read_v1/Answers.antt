use Rattle.std.proofs.lemmas.Result.{err_from_is_err_and}
use Rattle.pol_pattern.specs.Flat.{terms_value}
use Rattle.pol_pattern.proofs.Upgraded.{upgrade_law}
use Rattle.pol_pattern.proofs.OldPatterns.{old_reads, old_is, old_fails, old_refused_for_memory, old_found}
use Rattle.pol_pattern.specs.declared.version.Version.TheVariants.{One}
use Rattle.pol_pattern.proofs.FaultsSaid.{fault_said}
use Rattle.pol_pattern.proofs.pattern.Pattern.read_v1.Goals as goal

pub returns-in_err-terms-clause-exact : goal.returns-in_err-terms-clause-exact
returns-in_err-terms-clause-exact c =
    let p = err_from_is_err_and c.from_residual.result c.from_residual.ensures.1 in
    rw (p.1, p.2) (old_fails c.in_err-terms.field-0.0 c.args.bytes.now c.in_err-terms.ensures.exact)

pub returns-in_err-terms-clause-only : goal.returns-in_err-terms-clause-only
returns-in_err-terms-clause-only c = λ flat spelled.
    let p = err_from_is_err_and c.from_residual.result c.from_residual.ensures.1 in
    rw (p.1, p.2) (old_refused_for_memory c.in_err-terms.field-0.0 c.args.bytes.now flat spelled c.in_err-terms.ensures.exact)

pub returns-in_err-terms-clause-law : goal.returns-in_err-terms-clause-law
returns-in_err-terms-clause-law c = upgrade_law

pub returns-in_err-source-clause-law : goal.returns-in_err-source-clause-law
returns-in_err-source-clause-law c = upgrade_law

pub returns-in_err-whole-clause-law : goal.returns-in_err-whole-clause-law
returns-in_err-whole-clause-law c = upgrade_law

pub invariant_of-result : goal.invariant_of-result
invariant_of-result c =
    rw (c.in_ok-whole.ensures.ok, c.in_ok-source.ensures) (old_reads c.args.bytes.now (terms_value c.in_ok-terms.terms.items) c.in_ok-terms.ensures.exact)

pub returns-clause-exact : goal.returns-clause-exact
returns-clause-exact c =
    rw (c.in_ok-whole.ensures.ok, c.in_ok-source.ensures) (old_is c.args.bytes.now (terms_value c.in_ok-terms.terms.items) c.in_ok-terms.ensures.exact)

pub returns-clause-found : goal.returns-clause-found
returns-clause-found c =
    rw (c.in_ok-whole.ensures.ok, c.in_ok-source.ensures) (old_found c.args.bytes.now (terms_value c.in_ok-terms.terms.items) c.in_ok-terms.ensures.exact)

pub returns-clause-law : goal.returns-clause-law
returns-clause-law c = upgrade_law

pub returns-in_err-terms-clause-place : goal.returns-in_err-terms-clause-place
returns-in_err-terms-clause-place c =
    let p = err_from_is_err_and c.from_residual.result c.from_residual.ensures.1 in
    rw (p.1, p.2) (fault_said One c.args.bytes.now c.in_err-terms.field-0.0 c.in_err-terms.ensures.exact)
