-- What is defined of a finding. Which word is near to another isn't, nor what is wrong with a name
-- or a value: of these a finding says that the line is refused as BadName or BadValue. At which
-- byte of a line the name is told isn't defined either.
use Rattle.std.specs.Prelude.{◌≡◌, ℕ, List, map}
use Rattle.pol_text.specs.declared.fault.PolicyRefusal.TheVariants.{BadName, BadValue}
use Rattle.pol_words.specs.declared.reason.LineReason.{LineReason}
use Rattle.pol_words.specs.declared.reason.LineReason.TheVariants.{Misspelt, Unknown}
use Rattle.pol_words.specs.declared.finding.Finding.{Finding}
use Rattle.pol_words.specs.declared.finding.Finding.TheVariants.{Refused}
use Rattle.pol_words.specs.declared.finding.Finding.TheVariants as findings
use Rattle.pol_words.specs.declared.remark.Found.{Found}
use Rattle.pol_words.specs.declared.remark.Remark.{Remark}

abbrev pub plain_reason : LineReason → LineReason
plain_reason (Misspelt word) = Unknown
plain_reason reason = reason

abbrev pub plain_finding : Finding → Finding
plain_finding (findings.BadLine reason) = findings.BadLine (plain_reason reason)
plain_finding (findings.BadName reason) = Refused BadName
plain_finding (findings.BadValue reason) = Refused BadValue
plain_finding finding = finding

-- any column stands for that of a name
abbrev pub plain_column : Finding → ℕ → ℕ
plain_column (Refused BadName) column = 1
plain_column finding column = column

abbrev pub plain_found : Found → Found
plain_found found = record {
  column = plain_column (plain_finding found.finding) found.column;
  finding = plain_finding found.finding;
}

abbrev pub plain : Remark → Remark
plain remark = record {
  line = remark.line;
  column = plain_column (plain_finding remark.finding) remark.column;
  finding = plain_finding remark.finding;
}

-- the same remarks, as far as they are defined
abbrev pub Alike : List Remark → List Remark → Type 0
Alike remarks wanted = map plain remarks ≡ map plain wanted
