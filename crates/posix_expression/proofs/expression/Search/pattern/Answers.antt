use Rattle.std.proofs.Common.{◌≡◌, ℕ, true, false, not, List, ◌++◌, Err, refl, sym, ap, subst, ◌∙◌}
use Rattle.std.proofs.lemmas.Bool.{and_parts, not-true}
use Rattle.basics.specs.Memory.{Except}
use Rattle.basics.specs.Symbol.{is_text}
use Rattle.posix_expression.specs.Memory.{is_memory}
use Rattle.pol_pattern.specs.Reading.{pattern_of}
use Rattle.posix_expression.specs.Syntax.{Expression}
use Rattle.posix_expression.specs.Trees.{expression_of}
use Rattle.posix_expression.specs.Writing.{is_everything, doubles, line_written, unless_refused, refusal_of, pattern_for}
use Rattle.posix_expression.proofs.Lines.{pattern_lines}
use Rattle.posix_expression.proofs.Long.{long_refused, refused_so}
use Rattle.posix_expression.proofs.expression.Search.pattern.Goals as goal

pub returns-then-not-is_text-clause-exact : goal.returns-then-not-is_text-clause-exact
unfolding pattern_for
returns-then-not-is_text-clause-exact c =
    let none : is_text c.args.name.now ≡ false = sym c.is_text.ensures ∙ c.if-not-is_text.true in
    rw none refl

pub returns-then-is_long-clause-exact : goal.returns-then-is_long-clause-exact
unfolding pattern_for
returns-then-is_long-clause-exact c =
    let e : Expression = expression_of c.args.self.now.tree in
    let named : is_text c.args.name.now ≡ true = sym c.is_text.ensures ∙ c.if-not-is_text.false in
    let parts = and_parts (not (is_everything e)) (doubles 8 e) (sym c.is_long.ensures ∙ c.if-is_long.true) in
    rw named (long_refused c.args.name.now e (not-true (is_everything e) parts.0) parts.1)

pub returns-in-Ok-clause-exact : goal.returns-in-Ok-clause-exact
unfolding pattern_for
returns-in-Ok-clause-exact c =
    let e : Expression = expression_of c.args.self.now.tree in
    let named : is_text c.args.name.now ≡ true = sym c.is_text.ensures ∙ c.if-not-is_text.false in
    let source : c.deref.result.now ≡ line_written c.args.name.now e =
    c.deref.ensures.value ∙ c.in_ok-write_line.ensures ∙ ap (λ (t : List ℕ). t ++ line_written c.args.name.now e) c.new-source.ensures.items in
    rw named (ap unless_refused (ap pattern_of (sym source) ∙ c.in-Ok.ensures.exact))

pub returns-in-Ok-clause-lines : goal.returns-in-Ok-clause-lines
returns-in-Ok-clause-lines c =
    let e : Expression = expression_of c.args.self.now.tree in
    let named : is_text c.args.name.now ≡ true = sym c.is_text.ensures ∙ c.if-not-is_text.false in
    let source : c.deref.result.now ≡ line_written c.args.name.now e =
    c.deref.ensures.value ∙ c.in_ok-write_line.ensures ∙ ap (λ (t : List ℕ). t ++ line_written c.args.name.now e) c.new-source.ensures.items in
    λ line texts. pattern_lines c.args.name.now e c.deref.result.now c.in-Ok.pattern named c.args.self.now.said source c.in-Ok.ensures.exact line texts

pub returns-clause-exact : goal.returns-clause-exact
unfolding pattern_for
returns-clause-exact c =
    let e : Expression = expression_of c.args.self.now.tree in
    let named : is_text c.args.name.now ≡ true = sym c.is_text.ensures ∙ c.if-not-is_text.false in
    let source : c.deref.result.now ≡ line_written c.args.name.now e =
    c.deref.ensures.value ∙ c.in_ok-write_line.ensures ∙ ap (λ (t : List ℕ). t ++ line_written c.args.name.now e) c.new-source.ensures.items in
    rw (c.refusal.ensures, named)
    (subst (λ (s : List ℕ). Except (is_memory (refusal_of c.in-Err.fault)) (unless_refused (pattern_of s) ≡ Err (refusal_of c.in-Err.fault))) source
    (refused_so c.in-Err.fault c.deref.result.now c.in-Err.ensures.exact))
