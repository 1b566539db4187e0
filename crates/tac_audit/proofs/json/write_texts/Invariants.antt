use Rattle.std.proofs.Common.{◌≡◌, ◌++◌, drop}
use Rattle.tac_audit.specs.Json.{texts_json, more_json}
use Rattle.tac_audit.proofs.json.write_texts.Given as goal

-- what is added, and the other texts of the array, are the array
abbrev pub invariant-texts : goal.invariant-texts
invariant-texts l = l.out.items ++ more_json (drop l.text-index l.more) ≡ l.fn.out.items ++ texts_json l.fn.texts
