-- What is decided of a command line.
use Rattle.std.specs.Prelude.{ℕ, List, ◌++◌, codes}
use Rattle.std.specs.Fmt.{decimal}
use Rattle.pol_names.specs.SubjectId.{subject_text}
use Rattle.pol_names.specs.declared.decision.By.{By}
use Rattle.pol_names.specs.declared.decision.By.TheVariants.{Rule, Default}
use Rattle.pol_names.specs.declared.decision.Verdict.{Verdict}
use Rattle.pol_names.specs.declared.decision.Verdict.TheVariants.{Permit, Deny}

-- what a rule of this verdict begins with wherever it is written
abbrev pub verdict_word : Verdict → List ℕ
verdict_word Permit = codes "permit "
verdict_word Deny = codes "deny "

-- what is said of a line that a decision of this verdict was made for
abbrev pub verdict_text : Verdict → List ℕ
verdict_text Permit = codes "permitted by "
verdict_text Deny = codes "denied by "

-- what decided: `group NAME rule N`, `user NAME rule N` or `default`
abbrev pub by_text : By → List ℕ
by_text (Rule owner number) = subject_text owner ++ codes " rule " ++ decimal number
by_text Default = codes "default"
