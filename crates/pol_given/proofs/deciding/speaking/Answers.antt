use Rattle.std.proofs.Common.{◌≡◌, ◌≤◌, List, [], ◌∷◌, ℕ, length, true, sym}
use Rattle.std.specs.Prelude.{All}
use Rattle.pol_names.specs.Service.{refusing}
use Rattle.pol_text.specs.Policy.{max_services}
use Rattle.pol_text.specs.declared.subject.Subject.{Subject}
use Rattle.pol_text.proofs.ChainFacts.{found_inside}
use Rattle.pol_given.specs.Given.{said_of, refuses, attributes_of}
use Rattle.pol_given.proofs.GivenFacts.{inside_says}
use Rattle.pol_given.proofs.deciding.speaking.Goals as goal

pub nearest-requires : goal.nearest-requires
nearest-requires c = found_inside c.user.result c.args.policy.now c.in-Some.subject.now (sym c.in-Some.ensures.found)

pub returns-in-Some-clause-few : goal.returns-in-Some-clause-few
returns-in-Some-clause-few c =
    inside_says c.args.service.now c.args.policy.now c.in-Some.ensures.well_formed
    (λ (s : Subject). length (attributes_of c.args.service.now s) ≤ max_services) (λ s says. says.few) c.nearest.result c.nearest.ensures.there

pub returns-in-Some-clause-short : goal.returns-in-Some-clause-short
returns-in-Some-clause-short c =
    inside_says c.args.service.now c.args.policy.now c.in-Some.ensures.well_formed
    (λ (s : Subject). All (λ (text : List ℕ). length text ≤ 255) (attributes_of c.args.service.now s)) (λ s says. says.short) c.nearest.result c.nearest.ensures.there

pub returns-in-Some-clause-alone : goal.returns-in-Some-clause-alone
returns-in-Some-clause-alone c =
    inside_says c.args.service.now c.args.policy.now c.in-Some.ensures.well_formed
    (λ (s : Subject). refuses c.args.service.now s ≡ true → said_of c.args.service.now s ≡ refusing c.args.service.now ∷ []) (λ s says. says.alone) c.nearest.result c.nearest.ensures.there
