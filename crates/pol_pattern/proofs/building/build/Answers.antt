use Rattle.std.proofs.Common.{◌≡◌, ◌≤◌, List, [], ◌∷◌, drop, refl, sym, ap, ◌∙◌, arith}
use Rattle.std.specs.Global.{Vec}
use Rattle.pol_pattern.specs.Flat.{put, class, group, empty, terms_size}
use Rattle.pol_pattern.specs.Reading.{Level, fresh, build, with_atom, with_repeat, with_bar, finished}
use Rattle.pol_pattern.specs.declared.building.Level.{Level as LevelValue}
use Rattle.pol_pattern.proofs.Levels.{atom_step, repeat_step, bar_step, open_step, close_step, stray_close, at_end_of_tokens}
use Rattle.std.proofs.lemmas.Result.{IfOk-weaker, IfOk-at_ok}
use Rattle.pol_pattern.specs.Values.{value_class}
use Rattle.pol_pattern.proofs.Units.{nothing_left}
use Rattle.pol_pattern.proofs.Written.{stacked_at, taken, none_stacked}
use Rattle.pol_pattern.specs.Levels.{Represents}
use Rattle.pol_pattern.proofs.building.build.Goals as goal
use Rattle.pol_pattern.proofs.building.build.Goals.{in-Atom, in-Repeat, in-Bar, in-Open+in_ok-push-in-Open, in-Close+in-Some}

pub tokens-init : goal.tokens-init
tokens-init c = record {
  level = fresh;
  outer = [];
  same = c.fresh-level.ensures;
  stack = c.new-outer.ensures.items;
  so_far = refl;
}

pub returns-in_default : goal.returns-in_default
returns-in_default c =
    let inv = c.tokens.invariant in
    let list = c.args.tokens.now in
    let total = build fresh [] list in
    let empty_stack : c.tokens.outer.items ≡ [] = nothing_left c.tokens.outer.items (sym c.tokens.outer.ok.0 ∙ c.in_default.ensures.cases.0) in
    let alone : inv.outer ≡ [] = none_stacked c.tokens.outer.items inv.outer inv.stack empty_stack in
    let rest : build inv.level [] (drop c.tokens.token-index list) ≡ total =
    ap (λ (outer : List Level). build inv.level outer (drop c.tokens.token-index list)) (sym alone) ∙ inv.so_far in
    let whole : finished inv.level ≡ total = stray_close inv.level list c.tokens.token-index c.token-item.result total c.tokens-test.true (sym c.token-item.is ∙ c.in-Close.is) rest in
    let fits : terms_size (finished inv.level) ≤ 400 = omega (arith, c.requires, ap terms_size whole) in
    IfOk-weaker c.finished.result _ _ (λ terms is. is fits ∙ whole) (c.finished.ensures inv.level inv.same)

pub tokens-preserved : goal.tokens-preserved
tokens-preserved c =
    let inv = c.tokens.invariant in
    let list = c.args.tokens.now in
    let i = c.tokens.token-index in
    let total = build fresh [] list in
    elim c.match-token.branch [
      | in-Atom w ↦ record {
        level = with_atom inv.level (put (class w.in-Atom.class) empty);
        outer = inv.outer;
        same = IfOk-at_ok (λ next. Represents next _) (sym w.next-is ∙ c.in_ok-level.was) (w.with_factor-next.ensures inv.level (class w.in-Atom.class) inv.same refl refl (λ _. value_class w.in-Atom.class));
        stack = stacked_at _ _ inv.outer (ap (λ (v : Vec LevelValue). v.items) w.outer-is) inv.stack;
        so_far = atom_step inv.level inv.outer list i c.token-item.result w.in-Atom.class total c.tokens-test.true (sym c.token-item.is ∙ w.in-Atom.is) inv.so_far;
      }
      | in-Repeat w ↦ record {
        level = with_repeat inv.level w.in-Repeat.repeat;
        outer = inv.outer;
        same = IfOk-at_ok (λ next. Represents next _) (sym w.next-is ∙ c.in_ok-level.was) (w.with_repeat-next.ensures inv.level inv.same);
        stack = stacked_at _ _ inv.outer (ap (λ (v : Vec LevelValue). v.items) w.outer-is) inv.stack;
        so_far = repeat_step inv.level inv.outer list i c.token-item.result w.in-Repeat.repeat total c.tokens-test.true (sym c.token-item.is ∙ w.in-Repeat.is) inv.so_far;
      }
      | in-Bar w ↦ record {
        level = with_bar inv.level;
        outer = inv.outer;
        same = IfOk-at_ok (λ next. Represents next _) (sym w.next-is ∙ c.in_ok-level.was) (w.with_bar-next.ensures inv.level inv.same);
        stack = stacked_at _ _ inv.outer (ap (λ (v : Vec LevelValue). v.items) w.outer-is) inv.stack;
        so_far = bar_step inv.level inv.outer list i c.token-item.result total c.tokens-test.true (sym c.token-item.is ∙ w.in-Bar.is) inv.so_far;
      }
      | in-Open+in_ok-push-in-Open w ↦ record {
        level = fresh;
        outer = inv.level ∷ inv.outer;
        same = IfOk-at_ok (λ next. Represents next _) (sym w.next-is ∙ c.in_ok-level.was) w.fresh.ensures;
        stack = stacked_at _ _ (inv.level ∷ inv.outer) (ap (λ (v : Vec LevelValue). v.items) w.outer-is ∙ w.in_ok-push-in-Open.ensures.items)
            (c.tokens.outer.items, c.tokens.level, refl, inv.same, inv.stack);
        so_far = open_step inv.level inv.outer list i c.token-item.result total c.tokens-test.true (sym c.token-item.is ∙ w.in-Open.is) inv.so_far;
      }
      | in-Close+in-Some w ↦
          let p = taken c.tokens.outer.items w.pop.new.self.items w.in-Some.around inv.outer inv.stack w.in-Some.ensures.items in
          let rest : build inv.level (p.0 ∷ p.1) (drop i list) ≡ total = ap (λ (outer : List Level). build inv.level outer (drop i list)) (sym p.2) ∙ inv.so_far in
          record {
            level = with_atom p.0 (put (group (finished inv.level)) empty);
            outer = p.1;
            same = IfOk-at_ok (λ next. Represents next _) (sym w.next-is ∙ c.in_ok-level.was) (w.with_group-next.ensures p.0 inv.level p.3 inv.same);
            stack = stacked_at _ _ p.1 (ap (λ (v : Vec LevelValue). v.items) w.outer-is) p.4;
            so_far = close_step inv.level p.0 p.1 list i c.token-item.result total c.tokens-test.true (sym c.token-item.is ∙ w.in-Close.is) rest;
          }
    ]

pub returns : goal.returns
returns c =
    let inv = c.tokens.invariant in
    let total = build fresh [] c.args.tokens.now in
    let whole : finished inv.level ≡ total = at_end_of_tokens inv.level inv.outer c.args.tokens.now c.tokens.token-index total c.tokens-test.false inv.so_far in
    let fits : terms_size (finished inv.level) ≤ 400 = omega (arith, c.requires, ap terms_size whole) in
    IfOk-weaker c.finished-2.result _ _ (λ terms is. is fits ∙ whole) (c.finished-2.ensures inv.level inv.same)
