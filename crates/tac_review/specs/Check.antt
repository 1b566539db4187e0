-- What the check of a policy's text prints, and how it ends (docs/POLICY.md, "Checking a policy").
use Rattle.std.specs.Prelude.{◌≡◌, ℕ, ◌==◌, List, [], ◌∷◌, ◌++◌, length, codes, Result, Ok, Err}
use Rattle.std.specs.Prelude.{if◌then◌else◌}
use Rattle.std.specs.List.{sum_by}
use Rattle.std.specs.Fmt.{decimal}
use Rattle.pol_text.specs.declared.subject.Subject.{Subject}
use Rattle.pol_meaning.specs.Reach.{Shadows}
use Rattle.pol_meaning.specs.declared.Shadowed.{Shadowed}
use Rattle.pol_live.specs.declared.judging.TextRefusal.{TextRefusal}
use Rattle.tac_console.specs.Reports.{shadows_text}
use Rattle.tac_review.specs.Judged.{refusal_line, ByJudged, IsOnly}
use Rattle.tac_review.specs.declared.checking.CheckEnd.{CheckEnd}
use Rattle.tac_review.specs.declared.checking.CheckEnd.TheVariants.{Sound, Refused}

-- the rules of all subjects
abbrev pub count_rules : List Subject → ℕ
count_rules policy = sum_by (λ subject. length subject.rules) policy

-- and their lines about services
abbrev pub count_lines : List Subject → ℕ
count_lines policy = sum_by (λ subject. length subject.services) policy

-- `, N service lines`, where there are any
abbrev pub lines_text : ℕ → List ℕ
lines_text lines = if lines == 0 then [] else codes ", " ++ decimal lines ++ codes " service lines"

-- `policy ok: S subjects, R rules`, and what services there are
abbrev pub ok_line : List Subject → List ℕ
ok_line policy =
    codes "policy ok: " ++ decimal (length policy) ++ codes " subjects, "
    ++ decimal (count_rules policy) ++ codes " rules" ++ lines_text (count_lines policy) ++ 10 ∷ []

-- the counts, and then the rules that decide nothing
abbrev pub Reports : List Subject → List ℕ → Type 0
Reports policy output =
    (rows : List Shadowed) × Shadows policy rows × (output ≡ ok_line policy ++ shadows_text rows)

-- a policy that may stand is reported on; else it is told why the text is refused
abbrev pub Prints : Result (List Subject) TextRefusal → List ℕ → CheckEnd → Type 0
Prints (Ok policy) output end = Reports policy output × (end ≡ Sound)
Prints (Err refusal) output end = (output ≡ refusal_line refusal) × (end ≡ Refused)

-- the check of a text prints this, and ends so
abbrev pub IsCheck : List ℕ → List ℕ → CheckEnd → Type 0
IsCheck text output end = ByJudged Prints text output end

-- a check was worked out, and no other is right
abbrev pub IsOnlyCheck : List ℕ → List ℕ → CheckEnd → Type 0
IsOnlyCheck text output end = IsOnly (IsCheck text) output end
