use Rattle.std.proofs.Common.{◌≡◌, ◌+◌, ◌-◌, ◌<◌, ◌||◌, ℕ, Bool, true, false, List, length, Option, Some, sym, ap, ◌∙◌, arith}
use Rattle.pol_names.specs.SubjectId.{same_id, group_id}
use Rattle.pol_names.specs.declared.subject_id.SubjectId.{SubjectId}
use Rattle.pol_faults.specs.Chains.{comes_to, parent_of}
use Rattle.pol_faults.specs.declared.chains.Heading.{Heading}
use Rattle.pol_faults.proofs.ChainFacts.{without_parent, one_step, no_steps}
use Rattle.pol_faults.proofs.chains.comes_to.Goals as goal

-- a step to a parent, which is the goal or isn't
stepped : (most done : ℕ) (headings : List Heading) (goal : SubjectId) (parent : Option (List ℕ)) (name : List ℕ) (same : Bool) → done < most → parent ≡ Some name → same ≡ same_id (group_id name) goal
    → comes_to (most - done) headings goal parent ≡ (same || comes_to (most - (done + 1)) headings goal (parent_of headings name))
stepped most done headings goal parent name same lt is e =
    ap (comes_to (most - done) headings goal) is ∙ one_step most done headings goal name lt
    ∙ ap (λ (b : Bool). b || comes_to (most - (done + 1)) headings goal (parent_of headings name)) (sym e)

pub returns-in_default : goal.returns-in_default
returns-in_default c =
    let left = length c.args.headings.now - c.steps.counter in
    let none = c.in_default.is in
    sym (c.steps.invariant ∙ ap (comes_to left c.args.headings.now c.args.goal.now) none ∙ without_parent left c.args.headings.now c.args.goal.now)

pub returns-then-eq : goal.returns-then-eq
returns-then-eq c =
    let same = sym c.if-eq.true ∙ c.eq.ensures.eq ∙ ap (λ (group : SubjectId). same_id group c.args.goal.now) c.group.ensures in
    sym (c.steps.invariant
    ∙ stepped (length c.args.headings.now) c.steps.counter c.args.headings.now c.args.goal.now c.steps.parent c.in-Some.name true (omega arith) c.in-Some.is same)

pub steps-preserved : goal.steps-preserved
steps-preserved c =
    let same = sym c.if-eq.false ∙ c.eq.ensures.eq ∙ ap (λ (group : SubjectId). same_id group c.args.goal.now) c.group.ensures in
    let left = length c.args.headings.now - (c.steps.counter + 1) in
    c.steps.invariant
    ∙ stepped (length c.args.headings.now) c.steps.counter c.args.headings.now c.args.goal.now c.steps.parent c.in-Some.name false (omega arith) c.in-Some.is same
    ∙ ap (comes_to left c.args.headings.now c.args.goal.now) (sym c.parent_of-parent.ensures)

pub returns : goal.returns
returns c =
    sym (c.steps.invariant ∙ no_steps (length c.args.headings.now) c.steps.counter c.args.headings.now c.args.goal.now c.steps.parent (omega arith))
