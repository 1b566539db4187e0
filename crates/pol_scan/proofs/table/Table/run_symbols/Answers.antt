use Rattle.std.proofs.Common.{◌≡◌, ◌∙◌, sym, ap, subst, drop, length, false, ◌+◌, ◌<◌, ◌∷◌, get_or, IsTrue}
use Rattle.std.specs.List.{fold}
use Rattle.std.proofs.lemmas.List.{drop_more, get_or_default}
use Rattle.basics.specs.Symbol.{is_symbol, is_text}
use Rattle.pol_scan.specs.Words.{IsWord}
use Rattle.pol_scan.specs.Alphabet.{word_of}
use Rattle.pol_scan.specs.Table.{Table, count, next, IsTrap}
use Rattle.pol_scan.proofs.AlphabetFacts.{both, is_word-word_of}
use Rattle.pol_scan.proofs.Trapping.{stays}
use Rattle.pol_scan.proofs.table.Table.run_symbols.Goals as goal

pub returns-then-index-clause-value : goal.returns-then-index-clause-value
returns-then-index-clause-value c =
    let table = c.args.self.now in
    let alphabet = c.args.alphabet.now in
    let text = c.args.text.now in
    let place = c.symbols.symbol-index in
    let symbol = get_or text place 0 in
    let rest = drop (place + 1) text in
    let split : drop place text ≡ symbol ∷ rest = drop_more text place 0 c.symbols-test.true in
    let symbols = subst (λ t. IsTrue (is_text t)) split c.symbols.invariant.text in
    let within = is_word-word_of alphabet c.column_of.ensures.alphabet rest (both (is_symbol symbol) (is_text rest) symbols).1 in
    let inside = subst (λ (t : Table). c.next-state.result < count t) (sym c.self.view_is) c.next-state.ensures.within in
    let marks = c.self.inside.traps.items in
    let there : c.next-state.result < length marks = rw c.self.invariant.1.each inside in
    let marked = get_or_default marks c.next-state.result false c.index.result.now there ∙ sym c.index.ensures ∙ c.if-index.true in
    let trap : IsTrap table c.next-state.result = rw (← c.self.view_is) ((c.self.invariant.1.right c.next-state.result inside).0 marked) in
    sym (stays table c.next-state.result trap (word_of alphabet rest) (subst (λ w. IsWord w (word_of alphabet rest)) c.requires.alphabet within))
    ∙ ap (λ k. fold (next table) k (word_of alphabet rest)) (c.next-state.ensures.value ∙ ap (next table c.symbols.state) c.column_of.ensures.value)
    ∙ sym (ap (λ t. fold (next table) c.symbols.state (word_of alphabet t)) split) ∙ c.symbols.invariant.value
