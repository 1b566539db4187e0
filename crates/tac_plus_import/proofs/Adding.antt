-- Rules that are added to a block, one after another.
use Rattle.std.proofs.Common.{◌≡◌, ◌+◌, ◌-◌, ◌<◌, inl, inr, ℕ, Bool, true, false, ◌&&◌, not, List, [], ◌∷◌, ◌++◌, length, drop, get_or, Option, Some, None, IfSome, refl, sym, ap, subst, ◌∙◌, append_assoc, append-nil, length-append, arith}
use Rattle.std.proofs.lemmas.Bool.{ltb-true, lt-ltb}
use Rattle.std.proofs.lemmas.List.{drop_more, take-append-le}
use Rattle.std.specs.Option.{IsSome}
use Rattle.basics.specs.Memory.{Except}
use Rattle.pol_names.specs.declared.decision.Verdict.{Verdict}
use Rattle.pol_names.specs.declared.decision.Verdict.TheVariants.{Permit, Deny}
use Rattle.pol_pattern.specs.Matching.{matches}
use Rattle.posix_expression.specs.Gathered.{lacks}
use Rattle.posix_expression.specs.Memory.{is_memory}
use Rattle.posix_expression.specs.declared.unsaid.Unsaid.{Unsaid}
use Rattle.posix_expression.specs.Syntax.{Expression, blank}
use Rattle.posix_expression.specs.Finding.{Finds}
use Rattle.tac_plus_file.specs.declared.configuration.Rule.{Rule}
use Rattle.tac_plus_import.specs.declared.block.PolicyRule.{PolicyRule}
use Rattle.tac_plus_import.specs.declared.block.Block.{Block}
use Rattle.tac_plus_import.specs.declared.draft.Draft.{Draft}
use Rattle.tac_plus_import.specs.Blocks.{said, IsSure}
use Rattle.tac_plus_import.specs.Drafts.{Keeps, Tells, told}
use Rattle.tac_plus_import.specs.Lines.{IsPatternOf}
use Rattle.tac_plus_import.specs.Rules.{decided, Says}
use Rattle.tac_plus_import.specs.Joining.{DecideAlike, DecideAll, of_verdict, plain_rule, plain, listed, last_of, denial, is_over, IsAbout, AreSoFar, AreAdded}
use Rattle.tac_plus_import.proofs.Deciding.{else_by, decided-append, alike_before, all_alike, holds_true}
use Rattle.tac_plus_import.proofs.Answering.{plain_only, said_is, here_finds, blank_finds, says_open, says_closed, says_whole}
use Rattle.tac_plus_import.proofs.Sureness.{sure_more, sure_all}

-- ---- lists of rules

pub alike_same : (first second third : List PolicyRule) → first ≡ second → DecideAlike second third → DecideAlike first third
alike_same first second third same alike = subst (λ (r : List PolicyRule). DecideAlike r third) (sym same) alike

pub alike_through : (first second third : List PolicyRule) → DecideAlike first second → DecideAlike second third → DecideAlike first third
alike_through first second third one other line texts = one line texts ∙ other line texts

-- what was taken from the front of the rest was added
pub alike_step : (early now taken rest whole : List PolicyRule) → DecideAlike now (early ++ taken) → DecideAlike (early ++ (taken ++ rest)) whole → DecideAlike (now ++ rest) whole
alike_step early now taken rest whole step alike =
    alike_through (now ++ rest) ((early ++ taken) ++ rest) whole (alike_before now (early ++ taken) rest step)
    (alike_same ((early ++ taken) ++ rest) (early ++ (taken ++ rest)) whole (append_assoc early taken rest) alike)

-- a last rule of which each line of the command is one leaves none undecided
pub last_decides : (name : List ℕ) (rules : List PolicyRule) (verdict : Verdict) (expression : Expression) (pattern : List ℕ) → IsPatternOf name expression pattern
    → ((arguments : List ℕ) → Finds expression arguments) → DecideAll name (rules ++ of_verdict verdict pattern ∷ [])
last_decides name rules verdict expression pattern is all line arguments texts here =
    let held : matches pattern line ≡ true = holds_true pattern line ((is line texts).1 (here_finds name arguments line expression here (all arguments))) in
    let found = by (decided rules line) in
    (found.0, decided-append rules (of_verdict verdict pattern ∷ []) line ∙ rw held found.1)
  where
    by : (d : Option Verdict) → (v : Verdict) × (else_by d (Some verdict) ≡ Some v)
    by None = (verdict, refl)
    by (Some v) = (v, refl)

pub decides_alike : (name : List ℕ) (first second : List PolicyRule) → DecideAlike first second → DecideAll name second → DecideAll name first
decides_alike name first second alike all line arguments texts here = let there = all line arguments texts here in (there.0, alike line texts ∙ there.1)

-- ---- the loop

-- what is so once the rules before the rest were taken
pub record Taking (was now : Draft) (early late : Block) (rest whole : List Rule) : Type 0 where
  pub about : IsAbout early late
  pub keeps : Keeps was now
  pub alike : DecideAlike (listed late ++ plain early.name early.any_line rest) (listed early ++ plain early.name early.any_line whole)
  pub sure : was.is_quiet ≡ false → lacks now.policy ≡ false → told now ≡ told was → IsSure early.name rest → IsSure early.name whole

pub keeps_more : (was mid now : Draft) → Keeps was mid → Keeps mid now → Keeps was now
keeps_more was mid now one next = record {
  policy = λ whole. let late = next.policy whole in let early = one.policy late.0 in (early.0, late.1 ∙ early.1);
  rules = next.rules ∙ one.rules;
  full = next.full ∙ one.full;
  quiet = next.quiet ∙ one.quiet;
  remarks = let a = one.remarks in let b = next.remarks in omega arith;
}

about_more : (early mid late : Block) → IsAbout early mid → IsAbout mid late → IsAbout early late
about_more early mid late one next = (next.0 ∙ one.0, next.1 ∙ one.1)

-- a rule that can be said was taken
pub taking_said : (was now after : Draft) (early mid late : Block) (rule : Rule) (rest whole : List Rule) (found : Expression × List ℕ)
    → Taking was now early mid (rule ∷ rest) whole → Keeps now after → IsAbout mid late → said mid.name rule.expression ≡ Some found
    → DecideAlike (listed late) (listed mid ++ of_verdict rule.verdict found.1 ∷ []) → Taking was after early late rest whole
taking_said was now after early mid late rule rest whole found so keeps about is step = record {
  about = about_more early mid late so.about about;
  keeps = keeps_more was now after so.keeps keeps;
  alike = alike_step (listed mid) (listed late) (of_verdict rule.verdict found.1 ∷ []) (plain early.name early.any_line rest) (listed early ++ plain early.name early.any_line whole) step
      (subst (λ (o : Option (Expression × List ℕ)). DecideAlike (listed mid ++ (plain_rule o early.any_line rule.verdict ++ plain early.name early.any_line rest)) (listed early ++ plain early.name early.any_line whole)) here so.alike);
  sure = λ quiet cut same later.
      let before = keeps.policy cut in
      let a = keeps.remarks in
      let b = so.keeps.remarks in
      so.sure quiet before.0 (omega arith) (sure_more early.name rule rest found here later);
}
  where
    here : said early.name rule.expression ≡ Some found
    here = subst (λ (n : List ℕ). said n rule.expression ≡ Some found) so.about.0 is

-- one that can't be said and permits was left out
pub taking_permit : (was now after : Draft) (early mid : Block) (rule : Rule) (rest whole : List Rule)
    → Taking was now early mid (rule ∷ rest) whole → Keeps now after → Tells now after → said mid.name rule.expression ≡ None → rule.verdict ≡ Permit → Taking was after early mid rest whole
taking_permit was now after early mid rule rest whole so keeps tells none permits = record {
  about = so.about;
  keeps = keeps_more was now after so.keeps keeps;
  alike = subst (λ (r : List PolicyRule). DecideAlike (listed mid ++ (r ++ plain early.name early.any_line rest)) (listed early ++ plain early.name early.any_line whole)) left so.alike;
  sure = λ quiet cut same later.
      let more = tells (so.keeps.quiet ∙ quiet) cut in
      let b = so.keeps.remarks in
      absurd (omega arith);
}
  where
    left : plain_rule (said early.name rule.expression) early.any_line rule.verdict ≡ []
    left = rw ((subst (λ (n : List ℕ). said n rule.expression ≡ None) so.about.0 none), permits) refl

-- one that can't be said and denies had the command denied
pub taking_deny : (was now after : Draft) (early mid late : Block) (rule : Rule) (rest whole : List Rule)
    → Taking was now early mid (rule ∷ rest) whole → Keeps now after → Tells now after → IsAbout mid late → said mid.name rule.expression ≡ None → rule.verdict ≡ Deny
    → listed late ≡ listed mid ++ of_verdict Deny mid.any_line ∷ [] → Taking was after early late rest whole
taking_deny was now after early mid late rule rest whole so keeps tells about none denies step = record {
  about = about_more early mid late so.about about;
  keeps = keeps_more was now after so.keeps keeps;
  alike = alike_step (listed mid) (listed late) (of_verdict Deny early.any_line ∷ []) (plain early.name early.any_line rest) (listed early ++ plain early.name early.any_line whole)
      (λ line texts. ap (λ (r : List PolicyRule). decided r line) (step ∙ ap (λ (p : List ℕ). listed mid ++ of_verdict Deny p ∷ []) so.about.1))
      (subst (λ (r : List PolicyRule). DecideAlike (listed mid ++ (r ++ plain early.name early.any_line rest)) (listed early ++ plain early.name early.any_line whole)) left so.alike);
  sure = λ quiet cut same later.
      let more = tells (so.keeps.quiet ∙ quiet) cut in
      let b = so.keeps.remarks in
      absurd (omega arith);
}
  where
    left : plain_rule (said early.name rule.expression) early.any_line rule.verdict ≡ of_verdict Deny early.any_line ∷ []
    left = rw ((subst (λ (n : List ℕ). said n rule.expression ≡ None) so.about.0 none), denies) refl

-- ---- the end

-- once all lines are decided, the rest changes nothing
pub taken_all : (was now : Draft) (early late : Block) (rest whole : List Rule) → Taking was now early late rest whole → IsPatternOf early.name blank early.any_line → DecideAll early.name (listed late)
    → DecideAlike (listed late) (listed early ++ plain early.name early.any_line whole)
taken_all was now early late rest whole so any all =
    alike_through (listed late) (listed late ++ plain early.name early.any_line rest) (listed early ++ plain early.name early.any_line whole)
    (all_alike early.name (listed late) (plain early.name early.any_line rest) (plain_only early.name early.any_line rest any) all) so.alike

-- ---- what was added, at each end of the loop

part_of : (was now : Draft) (early late : Block) (rest whole : List Rule) → Taking was now early late rest whole
    → (missing : List PolicyRule) × DecideAlike (listed late ++ missing) (listed early ++ plain early.name early.any_line whole)
part_of was now early late rest whole so = (plain early.name early.any_line rest, so.alike)

pub added_over : (was now : Draft) (early late : Block) (rest whole : List Rule) → Taking was now early late rest whole → is_over was late.rules.items ≡ true → AreAdded was now early late whole false
added_over was now early late rest whole so over = record {
  about = so.about;
  keeps = so.keeps;
  part = part_of was now early late rest whole so;
  all = λ e. let e : false ≡ true = e in absurd cc;
  exact = λ e. let e : true ≡ false = sym over ∙ e in absurd cc;
  sure = λ e. let e : true ≡ false = sym over ∙ e in absurd cc;
}

-- a rule that finds something everywhere was taken
pub added_all : (was now after : Draft) (early mid late : Block) (rule : Rule) (rest whole : List Rule) (found : Expression × List ℕ)
    → Taking was now early mid (rule ∷ rest) whole → Keeps now after → IsAbout mid late → said mid.name rule.expression ≡ Some found → IsPatternOf early.name blank early.any_line
    → DecideAlike (listed late) (listed mid ++ of_verdict rule.verdict found.1 ∷ []) → ((arguments : List ℕ) → Finds found.0 arguments) → AreAdded was after early late whole true
added_all was now after early mid late rule rest whole found so keeps about is any step finds = record {
  about = next.about;
  keeps = next.keeps;
  part = part_of was after early late rest whole next;
  all = λ e. all;
  exact = λ e. taken_all was after early late rest whole next any all;
  sure = λ e quiet cut same.
      let before = keeps.policy cut in
      let a = keeps.remarks in
      let b = so.keeps.remarks in
      so.sure quiet before.0 (omega arith) (sure_all early.name rule rest found here finds);
}
  where
    next : Taking was after early late rest whole
    next = taking_said was now after early mid late rule rest whole found so keeps about is step

    here : said early.name rule.expression ≡ Some found
    here = subst (λ (n : List ℕ). said n rule.expression ≡ Some found) so.about.0 is

    all : DecideAll early.name (listed late)
    all =
        decides_alike early.name (listed late) (listed mid ++ of_verdict rule.verdict found.1 ∷ []) step
        (last_decides early.name (listed mid) rule.verdict found.0 found.1 (said_is early.name rule.expression found here) finds)

-- one that denies and can't be said had the command denied
pub added_deny : (was now after : Draft) (early mid late : Block) (rule : Rule) (rest whole : List Rule)
    → Taking was now early mid (rule ∷ rest) whole → Keeps now after → Tells now after → IsAbout mid late → said mid.name rule.expression ≡ None → rule.verdict ≡ Deny
    → IsPatternOf early.name blank early.any_line → listed late ≡ listed mid ++ of_verdict Deny mid.any_line ∷ [] → AreAdded was after early late whole true
added_deny was now after early mid late rule rest whole so keeps tells about none denies any step = record {
  about = next.about;
  keeps = next.keeps;
  part = part_of was after early late rest whole next;
  all = λ e. all;
  exact = λ e. taken_all was after early late rest whole next any all;
  sure = λ e quiet cut same.
      let more = tells (so.keeps.quiet ∙ quiet) cut in
      let b = so.keeps.remarks in
      absurd (omega arith);
}
  where
    next : Taking was after early late rest whole
    next = taking_deny was now after early mid late rule rest whole so keeps tells about none denies step

    all : DecideAll early.name (listed late)
    all =
        subst (λ (r : List PolicyRule). DecideAll early.name r) (sym (step ∙ ap (λ (p : List ℕ). listed mid ++ of_verdict Deny p ∷ []) so.about.1))
        (last_decides early.name (listed mid) Deny blank early.any_line any blank_finds)

-- ---- what the rules say then

pub says_added : (was now : Draft) (early late : Block) (block : List Rule) (is_closed all : Bool) (rules : List PolicyRule) → listed early ≡ [] → IsPatternOf early.name blank early.any_line
    → AreAdded was now early late block all → is_over was late.rules.items ≡ false → rules ≡ listed late ++ denial (is_closed && not all) early.any_line → Says early.name block is_closed rules
says_added was now early late block is_closed all rules none any added fits same =
    subst (λ (r : List PolicyRule). Says early.name block is_closed r) (sym same) (by is_closed all added.all)
  where
    alike : DecideAlike (listed late) (plain early.name early.any_line block)
    alike = subst (λ (r : List PolicyRule). DecideAlike (listed late) (r ++ plain early.name early.any_line block)) none (added.exact fits)

    open_alike : DecideAlike (listed late ++ []) (plain early.name early.any_line block)
    open_alike = alike_same (listed late ++ []) (listed late) (plain early.name early.any_line block) (append-nil (listed late)) alike

    by : (closed all : Bool) → (all ≡ true → DecideAll early.name (listed late)) → Says early.name block closed (listed late ++ denial (closed && not all) early.any_line)
    by false all decide = says_open early.name early.any_line block (listed late ++ []) any open_alike
    by true true decide =
        says_whole early.name early.any_line block (listed late ++ []) true any open_alike
        (subst (λ (r : List PolicyRule). DecideAll early.name r) (sym (append-nil (listed late))) (decide refl))
    by true false decide =
        says_closed early.name early.any_line block (listed late ++ of_verdict Deny early.any_line ∷ []) any
        (alike_before (listed late) (plain early.name early.any_line block) (of_verdict Deny early.any_line ∷ []) alike)

-- whichever were added, with those that are missing they say the block
says_part : (was now : Draft) (early late : Block) (block : List Rule) (is_closed all : Bool) → listed early ≡ [] → IsPatternOf early.name blank early.any_line → (added : AreAdded was now early late block all)
    → Says early.name block is_closed ((listed late ++ added.part.0) ++ denial is_closed early.any_line)
says_part was now early late block is_closed all none any added = by is_closed
  where
    alike : DecideAlike (listed late ++ added.part.0) (plain early.name early.any_line block)
    alike = subst (λ (r : List PolicyRule). DecideAlike (listed late ++ added.part.0) (r ++ plain early.name early.any_line block)) none added.part.1

    by : (closed : Bool) → Says early.name block closed ((listed late ++ added.part.0) ++ denial closed early.any_line)
    by false =
        says_open early.name early.any_line block ((listed late ++ added.part.0) ++ []) any
        (alike_same ((listed late ++ added.part.0) ++ []) (listed late ++ added.part.0) (plain early.name early.any_line block) (append-nil (listed late ++ added.part.0)) alike)
    by true =
        says_closed early.name early.any_line block ((listed late ++ added.part.0) ++ of_verdict Deny early.any_line ∷ []) any
        (alike_before (listed late ++ added.part.0) (plain early.name early.any_line block) (of_verdict Deny early.any_line ∷ []) alike)

-- two lists that begin with more than the subject may have
so_far : (was : Draft) (early first second : List PolicyRule) → is_over was early ≡ true → AreSoFar was (early ++ first) (early ++ second)
so_far was early first second over =
    let more = ltb-true (255 - was.rules) (length early) over in
    inr (
      lt-ltb (255 - was.rules) (length (early ++ first)) (omega (arith, length-append early first)),
      lt-ltb (255 - was.rules) (length (early ++ second)) (omega (arith, length-append early second)),
      take-append-le (255 - was.rules) early first (omega arith) ∙ sym (take-append-le (255 - was.rules) early second (omega arith)),
    )

pub said_added : (was now : Draft) (early late : Block) (block : List Rule) (is_closed all : Bool) (rules : List PolicyRule) → listed early ≡ [] → IsPatternOf early.name blank early.any_line
    → AreAdded was now early late block all → rules ≡ listed late ++ denial (is_closed && not all) early.any_line
    → (wanted : List PolicyRule) × Says early.name block is_closed wanted × AreSoFar was rules wanted
said_added was now early late block is_closed all rules none any added same = by (is_over was late.rules.items) refl
  where
    -- both begin with the rules before the last
    front : rules ≡ late.rules.items ++ (last_of late.last ++ denial (is_closed && not all) early.any_line)
    front = same ∙ append_assoc late.rules.items (last_of late.last) (denial (is_closed && not all) early.any_line)

    wanted : (listed late ++ added.part.0) ++ denial is_closed early.any_line ≡ late.rules.items ++ ((last_of late.last ++ added.part.0) ++ denial is_closed early.any_line)
    wanted =
        ap (λ (r : List PolicyRule). r ++ denial is_closed early.any_line) (append_assoc late.rules.items (last_of late.last) added.part.0)
        ∙ append_assoc late.rules.items (last_of late.last ++ added.part.0) (denial is_closed early.any_line)

    by : (over : Bool) → is_over was late.rules.items ≡ over → (wanted : List PolicyRule) × Says early.name block is_closed wanted × AreSoFar was rules wanted
    by false fits = (rules, says_added was now early late block is_closed all rules none any added fits same, inl refl)
    by true over = (
      (listed late ++ added.part.0) ++ denial is_closed early.any_line,
      says_part was now early late block is_closed all none any added,
      subst (λ (r : List PolicyRule). AreSoFar was r ((listed late ++ added.part.0) ++ denial is_closed early.any_line)) (sym front)
          (subst (λ (r : List PolicyRule). AreSoFar was (late.rules.items ++ (last_of late.last ++ denial (is_closed && not all) early.any_line)) r) (sym wanted)
          (so_far was late.rules.items (last_of late.last ++ denial (is_closed && not all) early.any_line) ((last_of late.last ++ added.part.0) ++ denial is_closed early.any_line) over)),
    )

-- ---- one element of a list, and what a clause says of it

pub front_is : (rules : List Rule) (at : ℕ) (rule : Rule) → at < length rules → rule ≡ get_or rules at rule → drop at rules ≡ rule ∷ drop (at + 1) rules
front_is rules at rule within is = drop_more rules at rule within ∙ ap (λ (r : Rule). r ∷ drop (at + 1) rules) (sym is)

pub the_said : (o : Option (Expression × List ℕ)) → IsSome o → (found : Expression × List ℕ) × (o ≡ Some found)
the_said (Some found) is = (found, refl)
the_said None is = absurd cc

pub at_some : (o : Option (Expression × List ℕ)) (P : Expression × List ℕ → Type 0) (found : Expression × List ℕ) → o ≡ Some found → IfSome o P → P found
at_some o P found e h = subst (λ (o : Option (Expression × List ℕ)). IfSome o P) e h

pub tells_more : (was mid now : Draft) → Keeps was mid → Tells mid now → Tells was now
tells_more was mid now one next quiet cut =
    let more = next (one.quiet ∙ quiet) cut in
    let a = one.remarks in
    omega arith

pub not_deny : (verdict : Verdict) → (verdict ≡ Deny → ⊥) → verdict ≡ Permit
not_deny Permit h = refl
not_deny Deny h = absurd (h refl)

-- what is so unless memory ran out, where it didn't
pub unless_out : (o : Option (Expression × List ℕ)) (mid late : Block) (why : Unsaid) → is_memory why ≡ false → Except (is_memory why) ((o ≡ None) × (late ≡ mid)) → (o ≡ None) × (late ≡ mid)
unless_out o mid late why e h = subst (λ (b : Bool). Except b ((o ≡ None) × (late ≡ mid))) e h
