use Rattle.std.proofs.Common.{◌≡◌, min, List, [], ◌∷◌, ◌++◌, drop, refl, sym, ap, ◌∙◌, arith}
use Rattle.std.specs.Global.{Vec}
use Rattle.pol_pattern.specs.Flat.{Terms, put, class, group, empty, terms_size}
use Rattle.pol_pattern.specs.Reading.{Level, fresh, build, with_atom, with_repeat, with_bar, finished}
use Rattle.pol_pattern.specs.Sizes.{size_of}
use Rattle.pol_pattern.specs.declared.sizes.Sizes.{Sizes}
use Rattle.pol_pattern.proofs.Levels.{atom_step, repeat_step, bar_step, open_step, close_step, stray_close, at_end_of_tokens, popped, none_around, stacked}
use Rattle.pol_pattern.proofs.Units.{nothing_left}
use Rattle.pol_pattern.proofs.sizes.size.Goals as goal
use Rattle.pol_pattern.proofs.sizes.size.Goals.{in-Atom, in-Repeat, in-Bar, in-Open+in_ok-push-in-Open, in-Close+in-Some}

pub tokens-init : goal.tokens-init
tokens-init c = record {
  level = fresh;
  outer = [];
  size = c.fresh-level.ensures;
  stack = c.new-outer.ensures.items;
  so_far = refl;
}

pub returns-in_default : goal.returns-in_default
returns-in_default c =
    let inv = c.tokens.invariant in
    let list = c.args.tokens.now in
    let total = build fresh [] list in
    let empty_stack : c.tokens.outer.items ≡ [] = nothing_left c.tokens.outer.items (sym c.tokens.outer.ok.0 ∙ c.in_default.ensures.cases.0) in
    let alone : inv.outer ≡ [] = none_around size_of inv.outer (sym empty_stack ∙ inv.stack) in
    let rest : build inv.level [] (drop c.tokens.token-index list) ≡ total =
    ap (λ (outer : List Level). build inv.level outer (drop c.tokens.token-index list)) (sym alone) ∙ inv.so_far in
    c.finished-inner.ensures inv.level inv.size
    ∙ ap (λ (t : Terms). min 401 (terms_size t)) (stray_close inv.level list c.tokens.token-index c.token-item.result total c.tokens-test.true (sym c.token-item.is ∙ c.in-Close.is) rest)

pub tokens-preserved : goal.tokens-preserved
tokens-preserved c =
    let inv = c.tokens.invariant in
    let list = c.args.tokens.now in
    let i = c.tokens.token-index in
    let total = build fresh [] list in
    elim c.match-token.branch [
      | in-Atom w ↦ record {
        level = with_atom inv.level (put (class w.in-Atom.field-0) empty);
        outer = inv.outer;
        size = w.level-is ∙ w.with_factor-level.ensures inv.level (put (class w.in-Atom.field-0) empty) inv.size refl refl;
        stack = ap (λ (v : Vec Sizes). v.items) w.outer-is ∙ inv.stack;
        so_far = atom_step inv.level inv.outer list i c.token-item.result w.in-Atom.field-0 total c.tokens-test.true (sym c.token-item.is ∙ w.in-Atom.is) inv.so_far;
      }
      | in-Repeat w ↦ record {
        level = with_repeat inv.level w.in-Repeat.repeat;
        outer = inv.outer;
        size = w.level-is ∙ w.with_repeat-level.ensures inv.level inv.size;
        stack = ap (λ (v : Vec Sizes). v.items) w.outer-is ∙ inv.stack;
        so_far = repeat_step inv.level inv.outer list i c.token-item.result w.in-Repeat.repeat total c.tokens-test.true (sym c.token-item.is ∙ w.in-Repeat.is) inv.so_far;
      }
      | in-Bar w ↦ record {
        level = with_bar inv.level;
        outer = inv.outer;
        size = w.level-is ∙ w.with_bar-level.ensures inv.level inv.size;
        stack = ap (λ (v : Vec Sizes). v.items) w.outer-is ∙ inv.stack;
        so_far = bar_step inv.level inv.outer list i c.token-item.result total c.tokens-test.true (sym c.token-item.is ∙ w.in-Bar.is) inv.so_far;
      }
      | in-Open+in_ok-push-in-Open w ↦ record {
        level = fresh;
        outer = inv.level ∷ inv.outer;
        size = w.level-is ∙ w.fresh-level-in-Open.ensures;
        stack = ap (λ (v : Vec Sizes). v.items) w.outer-is ∙ w.in_ok-push-in-Open.ensures.items
            ∙ ap (λ (l : List Sizes). l ++ c.tokens.level ∷ []) inv.stack ∙ ap (λ (s : Sizes). stacked size_of inv.outer ++ s ∷ []) inv.size;
        so_far = open_step inv.level inv.outer list i c.token-item.result total c.tokens-test.true (sym c.token-item.is ∙ w.in-Open.is) inv.so_far;
      }
      | in-Close+in-Some w ↦
          let p = popped size_of inv.outer w.pop.new.self.items w.in-Some.around (sym w.in-Some.ensures.items ∙ inv.stack) in
          let rest : build inv.level (p.0 ∷ p.1) (drop i list) ≡ total = ap (λ (outer : List Level). build inv.level outer (drop i list)) (sym p.2) ∙ inv.so_far in
          record {
            level = with_atom p.0 (put (group (finished inv.level)) empty);
            outer = p.1;
            size = w.level-is ∙ w.with_factor-level-in-Close.ensures p.0 (put (group (finished inv.level)) empty) p.3
                (omega (arith, w.capped_sum.ensures, w.finished-inner.ensures inv.level inv.size)) refl;
            stack = ap (λ (v : Vec Sizes). v.items) w.outer-is ∙ p.4;
            so_far = close_step inv.level p.0 p.1 list i c.token-item.result total c.tokens-test.true (sym c.token-item.is ∙ w.in-Close.is) rest;
          }
    ]

pub returns : goal.returns
returns c =
    let inv = c.tokens.invariant in
    let list = c.args.tokens.now in
    let total = build fresh [] list in
    c.finished.ensures inv.level inv.size
    ∙ ap (λ (t : Terms). min 401 (terms_size t)) (at_end_of_tokens inv.level inv.outer list c.tokens.token-index total c.tokens-test.false inv.so_far)
