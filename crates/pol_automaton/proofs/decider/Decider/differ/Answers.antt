use Rattle.pol_scan.specs.Alphabet.{text_of}
use Rattle.pol_automaton.specs.Pairs.{comparison_of, changes}
use Rattle.pol_automaton.proofs.Joined.{first_refined, second_refined}
use Rattle.pol_automaton.proofs.Comparing.{pair_numbers, least_change, no_change}
use Rattle.pol_automaton.proofs.decider.Decider.differ.Goals as goal

pub search-requires : goal.search-requires
search-requires c =
    rw (c.size.ensures.value, c.size-2.ensures.value)
    (pair_numbers c.join-alphabet.result c.join-alphabet.ensures.alphabet c.args.old.now c.args.new.now c.size.ensures.whole c.size-2.ensures.whole)

pub returns-in_default-clause-none : goal.returns-in_default-clause-none
returns-in_default-clause-none c = λ before after d e.
    let letters = c.join-alphabet in
    let both = rw (c.alphabet.ensures, c.alphabet-2.ensures) at letters.ensures.classes in
    let was = first_refined letters.result c.args.old.now.alphabet c.args.new.now.alphabet both in
    let is = second_refined letters.result c.args.old.now.alphabet c.args.new.now.alphabet both in
    no_change c.args.old.now c.args.old_verdicts.now c.args.new.now c.args.new_verdicts.now c.args.way before after d e letters.result letters.ensures.alphabet was is
    (rw c.in_default.is at c.in_ok-word.ensures.none)

pub returns-clause-least : goal.returns-clause-least
returns-clause-least c = λ before after d e.
    let letters = c.join-alphabet in
    let both = rw (c.alphabet.ensures, c.alphabet-2.ensures) at letters.ensures.classes in
    let was = first_refined letters.result c.args.old.now.alphabet c.args.new.now.alphabet both in
    let is = second_refined letters.result c.args.old.now.alphabet c.args.new.now.alphabet both in
    let least = rw c.in-Some.is at c.in_ok-word.ensures.least in
    least_change c.args.old.now c.args.old_verdicts.now c.args.new.now c.args.new_verdicts.now c.args.way before after d e letters.result letters.ensures.alphabet was is c.text_of.result.items
    (c.text_of.ensures.least (λ word. changes (comparison_of c.args.old.now c.args.old_verdicts.now c.args.new.now c.args.new_verdicts.now c.args.way) (text_of letters.result word)) least)
