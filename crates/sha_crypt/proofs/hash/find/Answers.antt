use Rattle.std.proofs.Common.{rules, sym, ap, ◌∙◌, true, false, List, ℕ}
use Rattle.std.specs.Str.{bytes_eq}
use Rattle.sha_crypt.proofs.TextFacts.{read_is}
use Rattle.sha_crypt.proofs.hash.find.Goals as goal

pub returns-then-eq : goal.returns-then-eq
returns-then-eq c =
    read_is c.args.text.now c.in_ok-parts.parts c.in_ok-hash.hash (search rules) (search rules) true
    (sym c.if-eq.true ∙ c.eq.ensures ∙ ap (λ (t : List ℕ). bytes_eq t c.args.text.now) (c.as_slice.ensures.value ∙ c.spelled.ensures.text))

pub returns-else-eq : goal.returns-else-eq
returns-else-eq c =
    read_is c.args.text.now c.in_ok-parts.parts c.in_ok-hash.hash (search rules) (search rules) false
    (sym c.if-eq.false ∙ c.eq.ensures ∙ ap (λ (t : List ℕ). bytes_eq t c.args.text.now) (c.as_slice.ensures.value ∙ c.spelled.ensures.text))
