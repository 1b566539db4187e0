use Rattle.std.proofs.Common.{rules, ◌≡◌, ◌↔◌, ◌⊎◌, ℕ, List}
use Rattle.posix_expression.specs.Finding.{Finds}
use Rattle.posix_expression.specs.Searched.{searched}
use Rattle.tac_plus_import.proofs.Joined.{joined_rules}
use Rattle.tac_plus_import.proofs.block.Sought.joined.Goals as goal

pub returns-in-Ok-clause-alike : goal.returns-in-Ok-clause-alike
returns-in-Ok-clause-alike c =
    let one = c.args.self.now in
    let other = c.args.next.now in
    let both = searched c.in-Some.search in
    let same : one.rule.verdict ≡ other.rule.verdict = search rules in
    let law : (arguments : List ℕ) → Finds both arguments ↔ (Finds (searched one.search) arguments ⊎ Finds (searched other.search) arguments) =
    rw c.in-Some.is at c.in_ok-search.ensures.found in
    joined_rules c.args.name.now both (searched one.search) (searched other.search) c.in-Ok.pattern one.rule other.rule same law (c.in-Some.search.said, c.in-Ok.ensures.exact) c.requires.here c.requires.there
