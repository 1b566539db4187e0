-- A text that wasn't sent whole.
use Rattle.std.proofs.Common.{ℕ, ◌<◌, List, length, take, drop, length-drop, Option, sym, arith}
use Rattle.std.proofs.lemmas.List.{take-append-drop}
use Rattle.std.specs.Io.KnownBytes.{Appends}
use Rattle.tac_hall_console.specs.Operated.{WritesBeginning}

pub sent_in_part : (text : List ℕ) (sent : ℕ) (old new : Option (List ℕ)) → Appends old new (take sent text) → sent < length text → WritesBeginning text old new
sent_in_part text sent old new taken some_left = record {
  first = take sent text;
  others = drop sent text;
  parts = sym (take-append-drop sent text);
  some_left = omega (arith, some_left, length-drop sent text);
  written = taken;
}
