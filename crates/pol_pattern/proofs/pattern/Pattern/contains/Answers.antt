use Rattle.std.proofs.Common.{◌≤◌, sym, arith}
use Rattle.std.specs.Arc.{arc_value}
use Rattle.pol_pattern.specs.declared.version.Version.TheVariants.{Two}
use Rattle.pol_pattern.specs.Flat.{terms_value, terms_size}
use Rattle.pol_pattern.proofs.Soundness.{reading_spells}
use Rattle.pol_pattern.proofs.Languages.{union_law, concatenation_law, star_law, plus_law, question_law, power_law, powers_law, group_law}
use Rattle.pol_pattern.proofs.Symbols.{empty_law, literal_law, escaped_law, dot_law, class_law}
use Rattle.pol_pattern.proofs.Laws.{matches_is, holds_text, test_is_set}
use Rattle.pol_pattern.proofs.HeldTexts.{held_text}
use Rattle.pol_pattern.proofs.Marks.{matches_holds, terms_positions-le_size}
use Rattle.pol_pattern.proofs.pattern.Pattern.contains.Goals as goal

pub holds-requires : goal.holds-requires
holds-requires c =
    let whole = arc_value c.self.inside.whole in
    let flat = terms_value whole.terms.items in
    let spelled = reading_spells Two whole.source flat c.self.invariant in
    let small : terms_size flat ≤ 400 = spelled.6 in
    rw (c.deref-2.ensures.value, c.deref.ensures) (omega (arith, small, terms_positions-le_size flat))

pub returns-clause-set : goal.returns-clause-set
returns-clause-set c =
    let whole = arc_value c.self.inside.whole in
    rw (c.holds.ensures, c.deref-2.ensures.value, c.deref.ensures, ← c.self.view_is)
    (holds_text matches_holds whole.source (terms_value whole.terms.items) c.args.text.now c.self.invariant)

pub returns-clause-test : goal.returns-clause-test
returns-clause-test c =
    let whole = arc_value c.self.inside.whole in
    rw (c.holds.ensures, c.deref-2.ensures.value, c.deref.ensures, ← c.self.view_is)
    (sym (matches_is whole.source (terms_value whole.terms.items) c.args.text.now c.self.invariant))

pub returns-clause-law : goal.returns-clause-law
returns-clause-law c = test_is_set matches_holds

pub returns-clause-texts : goal.returns-clause-texts
returns-clause-texts c = held_text

pub returns-clause-languages : goal.returns-clause-languages
returns-clause-languages c = record {
  union = union_law;
  concatenation = concatenation_law;
  star = star_law;
  plus = plus_law;
  question = question_law;
  power = power_law;
  powers = powers_law;
  group = group_law;
  empty = empty_law;
  literal = literal_law;
  escaped = escaped_law;
  dot = dot_law;
  class = class_law;
}
