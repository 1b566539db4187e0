use Rattle.std.proofs.Common.{◌≡◌, ℕ, List, [], ◌∷◌, ◌++◌, length, codes, ap, ◌∙◌, append_assoc}
use Rattle.std.specs.Fmt.{decimal}
use Rattle.tac_review.specs.Check.{count_rules, count_lines, lines_text}
use Rattle.tac_review.proofs.check_output.write_counts.Goals as goal

joined : (out sizes lines back : List ℕ) → ((out ++ sizes) ++ lines) ++ back ≡ out ++ ((sizes ++ lines) ++ back)
joined out sizes lines back = ap (λ (t : List ℕ). t ++ back) (append_assoc out sizes lines) ∙ append_assoc out (sizes ++ lines) back

pub returns : goal.returns
returns c =
    let policy = c.args.policy.now in
    let sizes : List ℕ = codes "policy ok: " ++ decimal (length policy) ++ codes " subjects, " ++ decimal (count_rules policy) ++ codes " rules" in
    rw (c.in_ok-push.ensures.items, c.in_ok-write_lines.ensures, c.in_ok-write_sizes.ensures, c.len.ensures, c.count_rules.ensures, c.count_lines.ensures)
    (joined c.args.out.now.items sizes (lines_text (count_lines policy)) (10 ∷ []))
