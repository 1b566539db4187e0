-- How a finding is told (docs/LINT.md).
use Rattle.std.specs.Prelude.{ℕ, List, [], ◌++◌, codes}
use Rattle.pol_text.specs.FaultText.{refusal_text}
use Rattle.pol_words.specs.declared.near.Word.{Word}
use Rattle.pol_words.specs.declared.near.Word.TheVariants as words
use Rattle.pol_words.specs.declared.names.NameReason.{NameReason}
use Rattle.pol_words.specs.declared.names.NameReason.TheVariants as names
use Rattle.pol_words.specs.declared.values.ValueReason.{ValueReason}
use Rattle.pol_words.specs.declared.values.ValueReason.TheVariants as values
use Rattle.pol_words.specs.declared.reason.LineReason.{LineReason}
use Rattle.pol_words.specs.declared.reason.LineReason.TheVariants as reasons
use Rattle.pol_words.specs.declared.finding.Finding.{Finding}
use Rattle.pol_words.specs.declared.finding.Finding.TheVariants as findings

abbrev pub word_text : Word → List ℕ
word_text words.Group = codes "group"
word_text words.User = codes "user"
word_text words.Login = codes "login"
word_text words.Enable = codes "enable"
word_text words.LoginHash = codes "login-hash"
word_text words.EnableHash = codes "enable-hash"
word_text words.Priv = codes "priv"
word_text words.Service = codes "service"
word_text words.Refuse = codes "refuse"
word_text words.Permit = codes "permit"
word_text words.Deny = codes "deny"
word_text words.Policy = codes "policy"

abbrev pub name_text : NameReason → List ℕ
name_text names.Missing = codes "a name is missing: words are set apart by one space"
name_text names.Byte = codes "this byte may not stand in a name: A-Z a-z 0-9 _ - . @ may"
name_text names.Service = codes "a service is NAME or NAME/PROTOCOL, and 'shell' has no protocol"
name_text names.Long = codes "a name has at most 32 bytes"

abbrev pub value_text : ValueReason → List ℕ
value_text values.Secret = codes "a password has 1 to 128 symbols"
value_text values.Hash =
    codes "only a hash that 'openssl passwd -6' makes is taken, without quotes"
value_text values.Level = codes "a level is a number from 0 to 15"
value_text values.ShellRefused = codes "a shell is refused by a rule, as by 'deny ()'"
value_text values.ShellLevel = codes "the level of a shell is set by 'priv N'"
value_text values.Attribute =
    codes "an attribute is NAME=VALUE or NAME*VALUE, of at most 255 symbols"

-- what is told of the word that is near
abbrev pub near_text : LineReason → List ℕ
near_text (reasons.Misspelt word) = word_text word ++ codes "' meant?"
near_text _ = []

abbrev pub reason_text : LineReason → List ℕ
reason_text reasons.OtherProgram =
    codes "this is a line of another program's file, such as tac_plus's"
reason_text reasons.Version =
    codes "only the first line of a text says a version, as 'policy 2' or 'policy 3' exactly"
reason_text reasons.Unknown = codes "no line of a policy begins with this word"
reason_text (reasons.Misspelt word) =
    codes "no line of a policy begins with this word: is '" ++ word_text word ++ codes "' meant?"
reason_text reasons.OfVersion3 =
    codes "such lines are of version 3: is 'policy 3' meant as the first line?"
reason_text reasons.NoValue = codes "a value is missing at its end"
reason_text reasons.OfUsers = codes "this is a setting of users, and it stands under a group"
reason_text reasons.BlankAtEnd = codes "it ends with a space"
reason_text reasons.TwoBlanks = codes "two spaces in a row, where words are set apart by one"
reason_text reasons.Heading = codes "after the name nothing may follow but 'in PARENT'"
reason_text reasons.Refused = codes "after 'refuse' one service may follow, and nothing else"
reason_text reasons.Level = codes "after 'priv' one number may follow, and nothing else"

-- what a finding says of its reason or of a name
abbrev pub detail_text : Finding → List ℕ
detail_text (findings.BadLine reason) = reason_text reason
detail_text (findings.BadName reason) = name_text reason
detail_text (findings.BadValue reason) = value_text reason
detail_text (findings.Refused refusal) = refusal_text refusal
detail_text (findings.NoParent name) = name
detail_text _ = []

abbrev pub finding_text : Finding → List ℕ
finding_text findings.CarriageReturn = codes "a carriage return: lines end in LF alone"
finding_text findings.Tab = codes "a tab: words are set apart by spaces"
finding_text findings.ByteOrderMark = codes "a byte order mark: a policy is printable ASCII"
finding_text findings.NotUtf8 = codes "a byte that isn't UTF-8: a policy is printable ASCII"
finding_text findings.NotSymbol = codes "a byte that is no symbol: a policy is printable ASCII"
finding_text findings.Capitals = codes "a keyword in capitals: keywords are in lower case"
finding_text (findings.BadLine reason) = codes "refused: 1 BadLine: " ++ reason_text reason
finding_text (findings.BadName reason) = codes "refused: 2 BadName: " ++ name_text reason
finding_text (findings.BadValue reason) = codes "refused: 6 BadValue: " ++ value_text reason
finding_text findings.NoSubject =
    codes "refused: 4 NoSubject: no line 'group NAME' or 'user NAME' stands before it"
finding_text (findings.Refused refusal) = codes "refused: " ++ refusal_text refusal
finding_text (findings.NoParent name) = codes "the policy has no group " ++ name
finding_text findings.Cycle = codes "the chain of parents comes back to this group"
finding_text findings.TooManyStates =
    codes "refused: TooManyStates: the rules along this chain have over 16384 states"
finding_text findings.AfterSearch =
    codes "a dot after a '.*' may double the states: '.*(vlan|arp).*' takes fewer than two rules"
