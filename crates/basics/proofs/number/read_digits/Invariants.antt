use Rattle.std.proofs.Common.{◌≡◌, ◌<◌, ◌^◌, drop}
use Rattle.basics.specs.Number.{digits_after}
use Rattle.basics.proofs.number.read_digits.Given as goal

abbrev pub invariant-digits : goal.invariant-digits
invariant-digits l = record {
  below : l.value < 10 ^ l.byte-index;
  told : digits_after l.value (drop l.byte-index l.text) ≡ digits_after 0 l.text;
}
