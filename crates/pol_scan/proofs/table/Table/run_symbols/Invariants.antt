use Rattle.std.proofs.Common.{◌≡◌, ◌<◌, drop, IsTrue}
use Rattle.std.specs.List.{fold}
use Rattle.basics.specs.Symbol.{is_text}
use Rattle.pol_scan.specs.Alphabet.{word_of}
use Rattle.pol_scan.specs.Table.{count, next, walk}
use Rattle.pol_scan.proofs.table.Table.run_symbols.Given as goal

-- the rest of the text leads from the state to where the whole text does
abbrev pub invariant-symbols : goal.invariant-symbols
invariant-symbols l = record {
  within : l.state < count l.self;
  text : IsTrue (is_text (drop l.symbol-index l.text));
  value : fold (next l.self) l.state (word_of l.alphabet (drop l.symbol-index l.text)) ≡ walk l.self (word_of l.alphabet l.text);
}
