use Rattle.std.proofs.Common.{◌≡◌, ◌≤◌, ◌∙◌, sym, ap, ◌+◌, ◌-◌, length, take, drop, arith}
use Rattle.basics.specs.Symbol.{is_text as text_test}
use Rattle.basics.proofs.SymbolFacts.{longer, no_text, after}
use Rattle.basics.proofs.symbol.is_text.Goals as goal

pub returns-then-not-are_symbols : goal.returns-then-not-are_symbols
returns-then-not-are_symbols c =
    let bytes = c.args.bytes.now in
    let start = c.rest.start in
    let many : start + 16 - start ≡ 16 = omega arith in
    let block = c.if-not-are_symbols.ensures ∙ ap (λ k. text_test (take k (drop start bytes))) many in
    sym (no_text (start + 16) bytes (longer start 16 bytes c.rest.invariant.front ∙ sym block))

pub rest-preserved : goal.rest-preserved
rest-preserved c =
    let bytes = c.args.bytes.now in
    let start = c.rest.start in
    let many : start + 16 - start ≡ 16 = omega arith in
    let block = c.if-not-are_symbols.ensures ∙ ap (λ k. text_test (take k (drop start bytes))) many in
    record {
      within = omega (arith, c.rest-test.true);
      front = longer start 16 bytes c.rest.invariant.front ∙ sym block;
    }

pub returns : goal.returns
returns c =
    let bytes = c.args.bytes.now in
    let from : length bytes - 16 ≤ c.rest.start = omega (arith, c.rest-test.false) in
    c.are_symbols-2.ensures ∙ ap text_test c.in-Some.ensures.cases.1.same
    ∙ after (length bytes - 16) c.rest.start bytes from c.rest.invariant.front
