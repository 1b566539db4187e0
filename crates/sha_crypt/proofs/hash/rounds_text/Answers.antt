use Rattle.std.proofs.Common.{rules, arith, ◌≤◌, length}
use Rattle.std.specs.Fmt.{decimal}
use Rattle.std.proofs.lemmas.Grind.{common_steps}
use Rattle.sha_crypt.proofs.TextFacts.{short}
use Rattle.sha_crypt.proofs.hash.rounds_text.Goals as goal

pub unwrap-requires-in-Some : goal.unwrap-requires-in-Some
unwrap-requires-in-Some c =
    let few : length (decimal c.in-Some.rounds) ≤ 6 = short c.args.rounds c.in-Some.rounds c.requires (search rules) in
    grind (arith, common_steps)

pub push-requires : goal.push-requires
push-requires c =
    let few : length (decimal c.in-Some.rounds) ≤ 6 = short c.args.rounds c.in-Some.rounds c.requires (search rules) in
    grind (arith, common_steps)
