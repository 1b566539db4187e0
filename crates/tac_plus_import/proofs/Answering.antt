-- What the rules of a block answer, and what its plain rules decide.
use Rattle.std.proofs.Common.{◌≡◌, ◌↔◌, ◌⊎◌, inl, inr, ℕ, Bool, true, false, IsTrue, List, [], ◌∷◌, ◌++◌, length, Option, Some, None, Result, Ok, Err, refl, sym, ap, subst, ◌∙◌, if◌then◌else◌, arith, length-append, append-nil}
use Rattle.std.proofs.lemmas.List.{append_cancel_left}
use Rattle.basics.specs.Symbol.{is_text}
use Rattle.pol_names.specs.declared.decision.Verdict.{Verdict}
use Rattle.pol_names.specs.declared.decision.Verdict.TheVariants.{Permit, Deny}
use Rattle.pol_pattern.specs.Matching.{matches}
use Rattle.pol_pattern.specs.Spelling.{Holds}
use Rattle.pol_pattern.specs.Reading.{pattern_of}
use Rattle.pol_pattern.specs.declared.fault.PatternFault.{PatternFault}
use Rattle.pol_pattern.proofs.HeldTexts.{match_law}
use Rattle.posix_expression.specs.Syntax.{Expression, blank, is_said}
use Rattle.posix_expression.specs.Finding.{Finds, FindsInLine}
use Rattle.posix_expression.specs.Reading.{reading}
use Rattle.posix_expression.specs.Writing.{pattern_for, unless_refused, line_written}
use Rattle.posix_expression.specs.declared.unsaid.Unsaid.{Unsaid}
use Rattle.posix_expression.specs.declared.unsaid.Unsaid.TheVariants as why
use Rattle.posix_expression.proofs.Sound.{reading_spells}
use Rattle.posix_expression.proofs.Lines.{pattern_lines}
use Rattle.tac_plus_file.specs.declared.configuration.Rule.{Rule}
use Rattle.tac_plus_import.specs.declared.block.PolicyRule.{PolicyRule}
use Rattle.tac_plus_import.specs.Blocks.{said, said_in, with_pattern, FoundBy, Answers, Permits, cautious, is_deny, CautiousLaw}
use Rattle.tac_plus_import.specs.Lines.{IsLine, IsPatternOf}
use Rattle.tac_plus_import.specs.Rules.{decided, closed, Says}
use Rattle.tac_plus_import.specs.Joining.{DecideAlike, DecideAll, of_verdict, plain_rule, plain, denial}
use Rattle.tac_plus_import.proofs.Deciding.{else_by, decided-append, holds_true, true_holds, line_of}

-- ---- the pattern of what is said

-- what unless_refused gives, it got
got : (read : Result (List ℕ) PatternFault) (pattern : List ℕ) → unless_refused read ≡ Ok pattern → read ≡ Ok pattern
got (Ok source) pattern e = let same : source ≡ pattern = cc in ap (λ (s : List ℕ). Ok s) same
got (Err fault) pattern e = absurd cc

pub pattern_is : (name : List ℕ) (expression : Expression) (pattern : List ℕ) → IsTrue (is_said expression) → pattern_for name expression ≡ Ok pattern → IsPatternOf name expression pattern
unfolding pattern_for
pattern_is name expression pattern formed e = by (is_text name) refl e
  where
    by : (b : Bool) → is_text name ≡ b → (if b then unless_refused (pattern_of (line_written name expression)) else Err why.NotSymbol) ≡ Ok pattern → IsPatternOf name expression pattern
    by true named e line texts = pattern_lines name expression (line_written name expression) pattern named formed refl (got (pattern_of (line_written name expression)) pattern e) line texts
    by false named e line texts = absurd cc

-- what a text says is an expression of these lines
said_pattern : (name : List ℕ) (expression : Expression) (r : Result (List ℕ) Unsaid) (found : Expression × List ℕ) → pattern_for name expression ≡ r → with_pattern expression r ≡ Some found
    → (expression ≡ found.0) × (pattern_for name found.0 ≡ Ok found.1)
said_pattern name expression (Err why) found is e = absurd cc
said_pattern name expression (Ok pattern) found is e =
    let same : (expression, pattern) ≡ found = cc in
    subst (λ (f : Expression × List ℕ). (expression ≡ f.0) × (pattern_for name f.0 ≡ Ok f.1)) same (refl, is)

said_parts : (name : List ℕ) (read : Result Expression Unsaid) (found : Expression × List ℕ) → said_in name read ≡ Some found → (read ≡ Ok found.0) × (pattern_for name found.0 ≡ Ok found.1)
said_parts name (Err why) found e = absurd cc
said_parts name (Ok expression) found e =
    let parts = said_pattern name expression (pattern_for name expression) found refl e in
    (ap (λ (x : Expression). Ok x) parts.0, parts.1)

pub said_is : (name text : List ℕ) (found : Expression × List ℕ) → said name text ≡ Some found → IsPatternOf name found.0 found.1
said_is name text found e =
    let parts = said_parts name (reading text) found e in
    pattern_is name found.0 found.1 (reading_spells text found.0 parts.0).0 parts.1

-- ---- lines and arguments

-- a line has the arguments that it has
alone_or_more : (name arguments : List ℕ) → name ≡ name ++ 32 ∷ arguments → ⊥
alone_or_more name arguments e = omega (arith, ap length e, length-append name (32 ∷ arguments))

pub finds_here : (name arguments line : List ℕ) (expression : Expression) → IsLine name arguments line → FindsInLine name expression line → Finds expression arguments
finds_here name arguments line expression (inl is) (inl alone) = subst (λ (a : List ℕ). Finds expression a) (sym is.1) alone.1
finds_here name arguments line expression (inl is) (inr more) = absurd (alone_or_more name more.0 (sym is.0 ∙ more.1))
finds_here name arguments line expression (inr is) (inl alone) = absurd (alone_or_more name arguments (sym alone.0 ∙ is))
finds_here name arguments line expression (inr is) (inr more) =
    let same : 32 ∷ more.0 ≡ 32 ∷ arguments = append_cancel_left name (32 ∷ more.0) (32 ∷ arguments) (sym more.1 ∙ is) in
    let rest : more.0 ≡ arguments = cc in
    subst (λ (a : List ℕ). Finds expression a) rest more.2

pub here_finds : (name arguments line : List ℕ) (expression : Expression) → IsLine name arguments line → Finds expression arguments → FindsInLine name expression line
here_finds name arguments line expression (inl is) found = inl (is.0, subst (λ (a : List ℕ). Finds expression a) is.1 found)
here_finds name arguments line expression (inr is) found = inr (arguments, is, found)

-- nothing is found anywhere
pub blank_finds : (arguments : List ℕ) → Finds blank arguments
blank_finds arguments = ([], [], arguments, refl, refl)

pub any_holds : (name arguments line any_line : List ℕ) → IsPatternOf name blank any_line → IsTrue (is_text line) → IsLine name arguments line → matches any_line line ≡ true
any_holds name arguments line any_line is texts here = holds_true any_line line ((is line texts).1 (here_finds name arguments line blank here (blank_finds arguments)))

-- ---- plain rules answer what the block does

pub plain_answers : (name any_line : List ℕ) (block : List Rule) (line arguments : List ℕ) → IsPatternOf name blank any_line → IsTrue (is_text line) → IsLine name arguments line
    → Answers name cautious block arguments (decided (plain name any_line block) line)
plain_answers name any_line [] line arguments any texts here = refl
plain_answers name any_line (rule ∷ rules) line arguments any texts here = by (said name rule.expression) refl rule.verdict (plain_answers name any_line rules line arguments any texts here)
  where
    by : (found : Option (Expression × List ℕ)) → said name rule.expression ≡ found → (verdict : Verdict)
        → Answers name cautious rules arguments (decided (plain name any_line rules) line)
        → (FoundBy found (is_deny verdict) arguments × (decided (plain_rule found any_line verdict ++ plain name any_line rules) line ≡ Some verdict))
        ⊎ ((FoundBy found (is_deny verdict) arguments → ⊥) × Answers name cautious rules arguments (decided (plain_rule found any_line verdict ++ plain name any_line rules) line))
    by (Some found) is verdict rest = one (matches found.1 line) (match_law.same found.1 line)
      where
        one : (test : Bool) → (IsTrue test ↔ Holds found.1 line)
            → (Finds found.0 arguments × ((if test then Some verdict else decided (plain name any_line rules) line) ≡ Some verdict))
            ⊎ ((Finds found.0 arguments → ⊥) × Answers name cautious rules arguments (if test then Some verdict else decided (plain name any_line rules) line))
        one true law = inl (finds_here name arguments line found.0 here ((said_is name rule.expression found is line texts).0 (law.0 refl)), refl)
        one false law = inr (
          (λ it. let e : false ≡ true = law.1 ((said_is name rule.expression found is line texts).1 (here_finds name arguments line found.0 here it)) in absurd cc),
          rest,
        )
    by None is Permit rest = inr ((λ it. let e : false ≡ true = it in absurd cc), rest)
    by None is Deny rest = inl (refl, rw (any_holds name arguments line any_line any texts here) refl)

-- and of other lines they decide nothing
only_here : (name : List ℕ) (expression : Expression) (pattern line : List ℕ) → IsPatternOf name expression pattern → IsTrue (is_text line) → matches pattern line ≡ true
    → (arguments : List ℕ) × IsLine name arguments line
only_here name expression pattern line is texts e = line_of name line expression ((is line texts).0 (true_holds pattern line e))

abbrev pub Only : List ℕ → List PolicyRule → Type 0
Only name rules = (line : List ℕ) (verdict : Verdict) → IsTrue (is_text line) → decided rules line ≡ Some verdict → (arguments : List ℕ) × IsLine name arguments line

pub only_more : (name : List ℕ) (expression : Expression) (verdict : Verdict) (pattern : List ℕ) (rules : List PolicyRule) → IsPatternOf name expression pattern → Only name rules
    → Only name (of_verdict verdict pattern ∷ rules)
only_more name expression verdict pattern rules is only line found texts e = by (matches pattern line) refl e
  where
    by : (test : Bool) → matches pattern line ≡ test → (if test then Some verdict else decided rules line) ≡ Some found → (arguments : List ℕ) × IsLine name arguments line
    by true held e = only_here name expression pattern line is texts held
    by false held e = only line found texts e

pub none_only : (name : List ℕ) → Only name []
none_only name line verdict texts e = absurd cc

pub plain_only : (name any_line : List ℕ) (block : List Rule) → IsPatternOf name blank any_line → Only name (plain name any_line block)
plain_only name any_line [] any = none_only name
plain_only name any_line (rule ∷ rules) any = by (said name rule.expression) refl rule.verdict (plain_only name any_line rules any)
  where
    by : (found : Option (Expression × List ℕ)) → said name rule.expression ≡ found → (verdict : Verdict) → Only name (plain name any_line rules)
        → Only name (plain_rule found any_line verdict ++ plain name any_line rules)
    by (Some found) is verdict rest = only_more name found.0 verdict found.1 (plain name any_line rules) (said_is name rule.expression found is) rest
    by None is Permit rest = rest
    by None is Deny rest = only_more name blank Deny any_line (plain name any_line rules) any rest

pub only_append : (name : List ℕ) (first second : List PolicyRule) → Only name first → Only name second → Only name (first ++ second)
only_append name first second one other line verdict texts e = by (decided first line) refl (sym (decided-append first second line) ∙ e)
  where
    by : (d : Option Verdict) → decided first line ≡ d → else_by d (decided second line) ≡ Some verdict → (arguments : List ℕ) × IsLine name arguments line
    by None is e = other line verdict texts e
    by (Some v) is e = one line v texts is

pub only_alike : (name : List ℕ) (first second : List PolicyRule) → DecideAlike first second → Only name second → Only name first
only_alike name first second alike only line verdict texts e = only line verdict texts (sym (alike line texts) ∙ e)

-- ---- what a block's rules say

pub says_open : (name any_line : List ℕ) (block : List Rule) (rules : List PolicyRule) → IsPatternOf name blank any_line → DecideAlike rules (plain name any_line block) → Says name block false rules
says_open name any_line block rules any alike = record {
  lines = λ line arguments texts here. (decided (plain name any_line block) line, plain_answers name any_line block line arguments any texts here, alike line texts);
  only = only_alike name rules (plain name any_line block) alike (plain_only name any_line block any);
}

-- where a last rule denies all lines, they are closed
pub says_closed : (name any_line : List ℕ) (block : List Rule) (rules : List PolicyRule) → IsPatternOf name blank any_line
    → DecideAlike rules (plain name any_line block ++ of_verdict Deny any_line ∷ []) → Says name block true rules
says_closed name any_line block rules any alike = record {
  lines = λ line arguments texts here. (
    decided (plain name any_line block) line,
    plain_answers name any_line block line arguments any texts here,
    alike line texts ∙ decided-append (plain name any_line block) (of_verdict Deny any_line ∷ []) line
        ∙ rw (any_holds name arguments line any_line any texts here) (ended (decided (plain name any_line block) line)),
  );
  only = only_alike name rules (plain name any_line block ++ of_verdict Deny any_line ∷ []) alike
      (only_append name (plain name any_line block) (of_verdict Deny any_line ∷ []) (plain_only name any_line block any) (only_more name blank Deny any_line [] any (none_only name)));
}
  where
    ended : (answer : Option Verdict) → else_by answer (Some Deny) ≡ closed true answer
    ended None = refl
    ended (Some verdict) = refl

-- where its own rules decide all lines, they are closed anyway
pub says_whole : (name any_line : List ℕ) (block : List Rule) (rules : List PolicyRule) (is_closed : Bool) → IsPatternOf name blank any_line → DecideAlike rules (plain name any_line block) → DecideAll name rules
    → Says name block is_closed rules
says_whole name any_line block rules is_closed any alike all = record {
  lines = λ line arguments texts here.
      let there = all line arguments texts here in (
        decided (plain name any_line block) line,
        plain_answers name any_line block line arguments any texts here,
        alike line texts ∙ by is_closed (decided (plain name any_line block) line) there.0 (sym (alike line texts) ∙ there.1),
      );
  only = only_alike name rules (plain name any_line block) alike (plain_only name any_line block any);
}
  where
    by : (b : Bool) (answer : Option Verdict) (verdict : Verdict) → answer ≡ Some verdict → answer ≡ closed b answer
    by false answer verdict e = refl
    by true None verdict e = absurd cc
    by true (Some v) verdict e = refl

-- and the plain rules say it
pub says_plain : (name any_line : List ℕ) (block : List Rule) (is_closed : Bool) → IsPatternOf name blank any_line → Says name block is_closed (plain name any_line block ++ denial is_closed any_line)
says_plain name any_line block false any = says_open name any_line block (plain name any_line block ++ []) any (λ line texts. ap (λ (r : List PolicyRule). decided r line) (append-nil (plain name any_line block)))
says_plain name any_line block true any = says_closed name any_line block (plain name any_line block ++ of_verdict Deny any_line ∷ []) any (λ line texts. refl)

-- ---- the cautious guess

pub cautious_law : CautiousLaw
cautious_law name guess [] arguments h = h
cautious_law name guess (rule ∷ rules) arguments h = by (said name rule.expression) rule.verdict (guess rule arguments) (cautious_law name guess rules arguments) h
  where
    by : (found : Option (Expression × List ℕ)) (verdict : Verdict) (test : Bool) → (Permits name cautious rules arguments → Permits name guess rules arguments)
        → ((FoundBy found (is_deny verdict) arguments × (Some Permit ≡ Some verdict)) ⊎ ((FoundBy found (is_deny verdict) arguments → ⊥) × Permits name cautious rules arguments))
        → (FoundBy found test arguments × (Some Permit ≡ Some verdict)) ⊎ ((FoundBy found test arguments → ⊥) × Permits name guess rules arguments)
    by (Some found) verdict test rest (inl here) = inl here
    by (Some found) verdict test rest (inr later) = inr (later.0, rest later.1)
    by None Permit true rest h = inl (refl, refl)
    by None Permit false rest (inl here) = let e : false ≡ true = here.0 in absurd cc
    by None Permit false rest (inr later) = inr ((λ it. let e : false ≡ true = it in absurd cc), rest later.1)
    by None Deny test rest (inl here) = let e : Some Permit ≡ Some Deny = here.1 in absurd cc
    by None Deny test rest (inr later) = absurd (later.0 refl)
