-- Why a line isn't one of a policy, where it is refused as BadLine (docs/LINT.md). Of several
-- reasons the first of this order is told: it is another program's; no line begins with its first
-- word; it is a hash or is about a service, in a text of version 1 or 2; nothing follows its first
-- word; it is a secret, which stands under a group; it ends with a space; it has two spaces in a
-- row; its fields are wrong.
use Rattle.std.specs.Prelude.{ℕ, List, [], ◌∷◌, ◌==◌, length, codes, Bool, is_some}
use Rattle.std.specs.Prelude.{◌&&◌, ◌||◌, if◌then◌else◌}
use Rattle.std.specs.Str.{bytes_eq}
use Rattle.basics.specs.Lines.{split_at_first, without_leading_spaces}
use Rattle.pol_text.specs.declared.version.TextVersion.{TextVersion}
use Rattle.pol_text.specs.Versions.{has_hashes, has_services}
use Rattle.pol_words.specs.Words.{begins, ends, words_of, keyword_of}
use Rattle.pol_words.specs.Places.{found_at}
use Rattle.pol_words.specs.declared.finding.Finding.TheVariants.{BadLine}
use Rattle.pol_words.specs.declared.remark.Found.{Found}
use Rattle.pol_words.specs.declared.words.Keyword.{Keyword}
use Rattle.pol_words.specs.declared.words.Keyword.TheVariants.{Opens, Secret, Hash, Service}
use Rattle.pol_words.specs.declared.words.Keyword.TheVariants.{Nothing}
use Rattle.pol_words.specs.declared.reason.LineReason.{LineReason}
use Rattle.pol_words.specs.declared.reason.LineReason.TheVariants as reasons

-- ---- lines of another program's file, as tac_plus has them

abbrev pub is_equals : List ℕ → Bool
is_equals word = bytes_eq word (codes "=")

-- `KEY=..`, `KEY = ..`, `DEFAULT KEY = ..`, `NAME {` or `}`
abbrev pub is_of_other_program : List ℕ → Bool
is_of_other_program line =
    is_some (split_at_first 61 (words_of line).0)
    || is_equals (words_of (words_of line).1).0
    || is_equals (words_of (words_of (words_of line).1).1).0
    || begins line (codes "}") || ends line (codes " {")

-- ---- lines that begin with no word of a policy's, or with `policy`

-- which word is near to it isn't defined
abbrev pub unknown_reason : List ℕ → LineReason
unknown_reason word =
    if bytes_eq word (codes "policy") then reasons.Version else reasons.Unknown

-- ---- lines that begin with one

-- from its first two spaces in a row on
abbrev pub from_two_blanks : List ℕ → List ℕ
from_two_blanks [] = []
from_two_blanks (byte ∷ rest) =
    if byte == 32 && begins rest (codes " ") then byte ∷ rest else from_two_blanks rest

-- `in` without a parent, or too many fields
abbrev pub form_reason : Keyword → List ℕ → LineReason
form_reason (Opens kind) rest =
    if bytes_eq (words_of rest).1 (codes "in") then reasons.NoValue else reasons.Heading
form_reason Service rest = reasons.Refused
form_reason _ rest = reasons.Level

abbrev pub fields_reason : List ℕ → Keyword → List ℕ → LineReason
fields_reason line says rest =
    if ends line (codes " ") then reasons.BlankAtEnd
    else if length (from_two_blanks line) == 0 then form_reason says rest
    else reasons.TwoBlanks

abbrev pub value_reason : List ℕ → Keyword → List ℕ → LineReason
value_reason line Secret rest = reasons.OfUsers
value_reason line Hash rest = reasons.OfUsers
value_reason line says rest = fields_reason line says rest

abbrev pub known_reason : List ℕ → Keyword → List ℕ → LineReason
known_reason line says rest =
    if is_some (split_at_first 32 line) then value_reason line says rest else reasons.NoValue

-- ---- any line

abbrev pub reason_by : TextVersion → List ℕ → Keyword → List ℕ × List ℕ → LineReason
reason_by version line Nothing words = unknown_reason words.0
reason_by version line Hash words =
    if has_hashes version then known_reason line Hash words.1 else reasons.OfVersion3
reason_by version line Service words =
    if has_services version then known_reason line Service words.1 else reasons.OfVersion3
reason_by version line says words = known_reason line says words.1

-- of a line without the spaces that it begins with, in a text of this version
abbrev pub line_reason : TextVersion → List ℕ → LineReason
line_reason version line =
    if is_of_other_program line then reasons.OtherProgram
    else reason_by version line (keyword_of (words_of line).0) (words_of line)

-- the line's end at which it is told: the last space, two of them, or from the first word on
abbrev pub reason_end : List ℕ → LineReason → List ℕ
reason_end line reasons.BlankAtEnd = codes " "
reason_end line reasons.TwoBlanks = from_two_blanks (without_leading_spaces line)
reason_end line _ = without_leading_spaces line

abbrev pub reason_found : List ℕ → LineReason → Found
reason_found line reason = found_at line (reason_end line reason) (BadLine reason)
