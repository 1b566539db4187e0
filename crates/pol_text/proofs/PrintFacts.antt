-- Lines printed one after another.
use Rattle.std.proofs.Common.{◌≡◌, ℕ, ◌+◌, ◌<◌, List, [], ◌∷◌, ◌++◌, length, map, take, get_or, refl, sym, ap, ◌∙◌, append_assoc}
use Rattle.std.proofs.lemmas.List.{take_more, map-append}
use Rattle.pol_text.specs.declared.subject.Rule.{Rule}
use Rattle.pol_text.specs.declared.subject.Subject.{Subject}
use Rattle.pol_names.specs.Decision.{verdict_word}
use Rattle.pol_names.specs.Service.{line_text}
use Rattle.pol_names.specs.declared.service.ServiceLine.{ServiceLine}
use Rattle.pol_text.specs.Text.{text_of_lines, policy_lines, subject_lines, rule_line}

pub text_of_lines-append : (a b : List (List ℕ)) → text_of_lines (a ++ b) ≡ text_of_lines a ++ text_of_lines b
text_of_lines-append [] b = refl
text_of_lines-append (line ∷ a) b =
    ap (λ (text : List ℕ). line ++ 10 ∷ text) (text_of_lines-append a b) ∙ sym (append_assoc line (10 ∷ text_of_lines a) (text_of_lines b))

pub policy_lines-append : (a b : List Subject) → policy_lines (a ++ b) ≡ policy_lines a ++ policy_lines b
policy_lines-append [] b = refl
policy_lines-append (subject ∷ a) b =
    ap (λ (lines : List (List ℕ)). subject_lines subject ++ lines) (policy_lines-append a b) ∙ sym (append_assoc (subject_lines subject) (policy_lines a) (policy_lines b))

-- one more line after what was printed
line_more : (start text next : List ℕ) (lines more : List (List ℕ)) → text ≡ start ++ text_of_lines lines → next ≡ text ++ text_of_lines more → next ≡ start ++ text_of_lines (lines ++ more)
line_more start text next lines more was told =
    told ∙ ap (λ (t : List ℕ). t ++ text_of_lines more) was ∙ append_assoc start (text_of_lines lines) (text_of_lines more) ∙ ap (λ (t : List ℕ). start ++ t) (sym (text_of_lines-append lines more))

pub services_more : (start text next : List ℕ) (lines : List ServiceLine) (i : ℕ) (line : ServiceLine) → i < length lines → line ≡ get_or lines i line
    → text ≡ start ++ text_of_lines (map line_text (take i lines)) → next ≡ text ++ text_of_lines (line_text line ∷ [])
    → next ≡ start ++ text_of_lines (map line_text (take (i + 1) lines))
services_more start text next lines i line lt is was told =
    let step : take (i + 1) lines ≡ take i lines ++ line ∷ [] = take_more lines i line lt ∙ ap (λ (l : ServiceLine). take i lines ++ l ∷ []) (sym is) in
    rw (step, map-append line_text (take i lines) (line ∷ [])) (line_more start text next (map line_text (take i lines)) (line_text line ∷ []) was told)

pub rules_more : (start text next front back : List ℕ) (rules : List Rule) (i : ℕ) (rule : Rule) → i < length rules → rule ≡ get_or rules i rule
    → text ≡ start ++ text_of_lines (map rule_line (take i rules)) → next ≡ text ++ text_of_lines ((front ++ back) ∷ []) → front ≡ verdict_word rule.verdict → back ≡ rule.pattern
    → next ≡ start ++ text_of_lines (map rule_line (take (i + 1) rules))
rules_more start text next front back rules i rule lt is was told f b =
    let line : next ≡ text ++ text_of_lines (rule_line rule ∷ []) = rw (← f, ← b) told in
    let step : take (i + 1) rules ≡ take i rules ++ rule ∷ [] = take_more rules i rule lt ∙ ap (λ (r : Rule). take i rules ++ r ∷ []) (sym is) in
    rw (step, map-append rule_line (take i rules) (rule ∷ [])) (line_more start text next (map rule_line (take i rules)) (rule_line rule ∷ []) was line)

pub subjects_more : (first text next : List ℕ) (subjects : List Subject) (i : ℕ) (subject : Subject) → i < length subjects → subject ≡ get_or subjects i subject
    → text ≡ text_of_lines (first ∷ policy_lines (take i subjects)) → next ≡ text ++ text_of_lines (subject_lines subject)
    → next ≡ text_of_lines (first ∷ policy_lines (take (i + 1) subjects))
subjects_more first text next subjects i subject lt is was told =
    let step : take (i + 1) subjects ≡ take i subjects ++ subject ∷ [] = take_more subjects i subject lt ∙ ap (λ (s : Subject). take i subjects ++ s ∷ []) (sym is) in
    let last : policy_lines (subject ∷ []) ≡ subject_lines subject = simp append_nil_lines in
    rw (step, policy_lines-append (take i subjects) (subject ∷ []), last) (line_more [] text next (first ∷ policy_lines (take i subjects)) (subject_lines subject) was told)
  where
    append_nil_lines : (lines : List (List ℕ)) → lines ++ [] ≡ lines
    append_nil_lines [] = refl
    append_nil_lines (line ∷ lines) = ap (λ (rest : List (List ℕ)). line ∷ rest) (append_nil_lines lines)

pub subject_text : (t0 t1 t2 t3 t4 t5 t6 heading : List ℕ) (login enable level services rules : List (List ℕ)) → t1 ≡ t0 ++ text_of_lines (heading ∷ []) → t2 ≡ t1 ++ text_of_lines login → t3 ≡ t2 ++ text_of_lines enable
    → t4 ≡ t3 ++ text_of_lines level → t5 ≡ t4 ++ text_of_lines services → t6 ≡ t5 ++ text_of_lines rules → t6 ≡ t0 ++ text_of_lines (heading ∷ (login ++ enable ++ level ++ services ++ rules))
subject_text t0 t1 t2 t3 t4 t5 t6 heading login enable level services rules e1 e2 e3 e4 e5 e6 =
    line_more t0 t5 t6 (heading ∷ (login ++ enable ++ level ++ services)) rules
    (line_more t0 t4 t5 (heading ∷ (login ++ enable ++ level)) services
    (line_more t0 t3 t4 (heading ∷ (login ++ enable)) level
    (line_more t0 t2 t3 (heading ∷ login) enable
    (line_more t0 t1 t2 (heading ∷ []) login e1 e2) e3) e4) e5) e6
