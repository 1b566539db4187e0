use Rattle.std.proofs.Common.{ℕ, List, Result, Ok, Err, IfOk, subst}
use Rattle.pol_text.specs.declared.subject.Subject.{Subject}
use Rattle.pol_text.specs.declared.fault.PolicyFault.{PolicyFault}
use Rattle.pol_text.specs.Text.{IsUnlessMemory, policy_of}
use Rattle.pol_text.specs.Spelling.{Spells}
use Rattle.pol_text.proofs.SpelledSo.{spelled_so}
use Rattle.pol_text.proofs.ReadBack.{read_back}
use Rattle.pol_text.proofs.DepthFacts.{tells_endless}
use Rattle.pol_text.proofs.RefusalLines.{refused_line}
use Rattle.pol_text.proofs.policy.Policy.read.Goals as goal

pub returns-clause-place : goal.returns-clause-place
returns-clause-place c = λ line refusal e. refused_line c.args.text.now line refusal c.read_policy.result c.read_policy.ensures.exact e

pub returns-clause-endless : goal.returns-clause-endless
returns-clause-endless c = tells_endless

found : (text : List ℕ) (r : Result (List Subject) PolicyFault) → IsUnlessMemory (λ policy. policy) r (policy_of text) → IfOk r (λ policy. Spells text policy)
found text (Ok policy) h = spelled_so text policy h
found text (Err fault) h = tt

pub returns-clause-found : goal.returns-clause-found
returns-clause-found c = found c.args.text.now c.read_policy.result c.read_policy.ensures.exact

pub returns-clause-only : goal.returns-clause-only
returns-clause-only c = λ policy h. subst (IsUnlessMemory (λ (policy : List Subject). policy) c.read_policy.result) (read_back c.args.text.now policy h) c.read_policy.ensures.exact
