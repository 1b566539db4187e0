use Rattle.std.proofs.Common.{ap, ◌∙◌, arith}
use Rattle.pol_pattern.specs.Flat.{term_size, term_value}
use Rattle.pol_pattern.proofs.Written.{repeat_written, repeat_fits}
use Rattle.pol_pattern.proofs.building.Level.with_repeat.Goals as goal

pub repeated-requires : goal.repeated-requires
repeated-requires c =
    let same = c.requires.1 in
    repeat_fits c.args.repeat c.requires.0 (term_value c.args.self.last.items) c.with_repeat-sizes.result (c.with_repeat-sizes.ensures c.requires.0 same.sizes)
    (omega (arith, c.last.ensures, c.if-last-gt-FACTORS.false)) same.last

pub returns : goal.returns
returns c = λ level same.
    let sizes = c.with_repeat-sizes.ensures level same.sizes in
    record {
      sizes = sizes;
      done = same.done;
      before = same.before;
      last = λ fits. c.in_ok-last.ensures ∙ repeat_written c.args.repeat level.last (term_value c.args.self.last.items) same.last fits;
      written = omega (
        arith,
        ap term_size c.in_ok-last.ensures,
        repeat_fits c.args.repeat level (term_value c.args.self.last.items) c.with_repeat-sizes.result sizes (omega (arith, c.last.ensures, c.if-last-gt-FACTORS.false)) same.last,
      );
    }
