-- What keeps the lines of a text from being a policy's (docs/LINT.md). Each line is judged by
-- itself, in a text of the same version: as the only one, or after one that begins a subject.
use Rattle.std.specs.Prelude.{ℕ, ◌+◌, List, [], ◌∷◌, ◌++◌, ◌==◌, length, drop, map, codes, Bool}
use Rattle.std.specs.Prelude.{true, false}
use Rattle.std.specs.Prelude.{nat_lt, not, ◌&&◌, Option, Some, None, option_map, Result, Ok, Err}
use Rattle.std.specs.Prelude.{if◌then◌else◌}
use Rattle.std.specs.Char.{to_ascii_lowercase}
use Rattle.std.specs.Str.{is_utf8}
use Rattle.basics.specs.Symbol.{is_symbol, is_text}
use Rattle.basics.specs.Lines.{without_leading_spaces}
use Rattle.pol_names.specs.declared.subject_id.Kind.{Kind}
use Rattle.pol_names.specs.declared.subject_id.Kind.TheVariants.{Group, User}
use Rattle.pol_pattern.specs.declared.fault.PatternFault.{PatternFault}
use Rattle.pol_pattern.specs.declared.fault.PatternFault.TheVariants as patterns
use Rattle.pol_text.specs.declared.subject.Subject.{Subject}
use Rattle.pol_text.specs.declared.version.TextVersion.{TextVersion}
use Rattle.pol_text.specs.declared.version.TextVersion.TheVariants.{One, Two, Three}
use Rattle.pol_text.specs.declared.fault.PolicyFault.{PolicyFault}
use Rattle.pol_text.specs.declared.fault.PolicyFault.TheVariants as policies
use Rattle.pol_text.specs.declared.fault.PolicyRefusal.{PolicyRefusal}
use Rattle.pol_text.specs.declared.fault.PolicyRefusal.TheVariants.{BadLine, BadName, BadPattern}
use Rattle.pol_text.specs.declared.fault.PolicyRefusal.TheVariants.{BadValue, NoSuchParent, Cycle}
use Rattle.pol_text.specs.declared.fault.PolicyRefusal.TheVariants.{NoSubject}
use Rattle.pol_text.specs.Text.{policy_of, version_line, third_line, Body}
use Rattle.pol_words.specs.Words.{begins, words_of, words_in, keyword_of}
use Rattle.pol_words.specs.Places.{found_at, noted}
use Rattle.pol_words.specs.Reasons.{line_reason, reason_found}
use Rattle.pol_words.specs.declared.words.Keyword.{Keyword}
use Rattle.pol_words.specs.declared.words.Keyword.TheVariants.{Opens, Service, Nothing}
use Rattle.pol_words.specs.declared.finding.Finding.{Finding}
use Rattle.pol_words.specs.declared.finding.Finding.TheVariants.{CarriageReturn, Tab, ByteOrderMark}
use Rattle.pol_words.specs.declared.finding.Finding.TheVariants.{NotUtf8, NotSymbol, Capitals}
use Rattle.pol_words.specs.declared.finding.Finding.TheVariants.{Refused}
use Rattle.pol_words.specs.declared.finding.Finding.TheVariants as findings
use Rattle.pol_words.specs.declared.remark.Found.{Found}
use Rattle.pol_words.specs.declared.remark.Remark.{Remark}

-- ---- bytes that are no symbols

-- a line from its first byte on that is no symbol
abbrev pub from_odd : List ℕ → List ℕ
from_odd [] = []
from_odd (byte ∷ bytes) = if is_symbol byte then from_odd bytes else byte ∷ bytes

-- what such a byte is, in the line of this number: a byte order mark begins a text
abbrev pub odd_byte : ℕ → List ℕ → ℕ → Finding
odd_byte number line byte =
    if byte == 13 then CarriageReturn
    else if byte == 9 then Tab
    else if number == 1 && begins line (0xEF ∷ 0xBB ∷ 0xBF ∷ []) then ByteOrderMark
    else if is_utf8 line then NotSymbol else NotUtf8

abbrev pub odd_found : ℕ → List ℕ → List ℕ → Option Found
odd_found number line [] = None
odd_found number line (byte ∷ bytes) =
    Some (found_at line (byte ∷ bytes) (odd_byte number line byte))

-- ---- keywords

-- what a line says if its first word is read in lower case
abbrev pub meant : List ℕ → Keyword
meant line = keyword_of (map to_ascii_lowercase (words_in line).0)

abbrev pub is_nothing : Keyword → Bool
is_nothing Nothing = true
is_nothing _ = false

-- the first word is a keyword but for its capitals
abbrev pub has_capitals : List ℕ → Bool
has_capitals line = is_nothing (keyword_of (words_in line).0) && not (is_nothing (meant line))

-- ---- the subject that a line is said of

-- after one more line: one with odd bytes may begin a user, who may have whatever a line sets
abbrev pub kind_by : Option Kind → Bool → Keyword → Option Kind
kind_by present readable (Opens kind) = Some kind
kind_by present readable _ = if readable then present else Some User

abbrev pub kind_after : Option Kind → List ℕ → Option Kind
kind_after present line = kind_by present (is_text line) (meant line)

-- a line that begins such a subject; a line that begins one itself needs none before it
abbrev pub opening_of : Option Kind → List ℕ
opening_of None = []
opening_of (Some Group) = codes "group x" ++ 10 ∷ []
opening_of (Some User) = codes "user x" ++ 10 ∷ []

abbrev pub opening_for : Option Kind → Keyword → List ℕ
opening_for present (Opens kind) = []
opening_for present _ = opening_of present

-- the line before these: one that says version 2 or 3, or an empty one
abbrev pub first_line : TextVersion → List ℕ
first_line One = 10 ∷ []
first_line Two = version_line ++ 10 ∷ []
first_line Three = third_line ++ 10 ∷ []

-- ---- a line by itself

-- a refusal for what a line says; which parents there are is no matter of one line
abbrev pub own_refusal : PolicyRefusal → Option PolicyRefusal
own_refusal NoSuchParent = None
own_refusal Cycle = None
own_refusal refusal = Some refusal

abbrev pub refusal_in : Result (List Subject) PolicyFault → Option PolicyRefusal
refusal_in (Ok policy) = None
refusal_in (Err policies.Memory) = None
refusal_in (Err (policies.Refused line refusal)) = own_refusal refusal

abbrev pub refusal_of : TextVersion → Option Kind → List ℕ → Option PolicyRefusal
refusal_of version present line =
    refusal_in (policy_of (first_line version
    ++ opening_for present (keyword_of (words_in line).0) ++ line))

-- how many symbols of a pattern stand before what is wrong with it
abbrev pub place_in : PatternFault → ℕ
place_in (patterns.Unprintable place) = place
place_in (patterns.Unclosed place) = place
place_in (patterns.Unopened place) = place
place_in (patterns.NothingToRepeat place) = place
place_in (patterns.BadClass place) = place
place_in (patterns.BadEscape place) = place
place_in (patterns.BadRepeat place) = place
place_in _ = 0

-- a value that is wrong: an attribute, or else all that comes after the first word
abbrev pub value_end : Keyword → List ℕ → List ℕ
value_end Service rest = if nat_lt 0 (length (words_of rest).1) then (words_of rest).1 else rest
value_end _ rest = rest

abbrev pub value_found : List ℕ → Keyword → List ℕ → Found
value_found line says rest = found_at line (value_end says rest) (Refused BadValue)

-- how a refusal of a line that has the form of one is told: in the pattern, at the value, or at the
-- first word. Of a name any place stands here, since where it is told isn't defined
abbrev pub other_found : List ℕ → PolicyRefusal → Found
other_found line (BadPattern fault) =
    found_at line (drop (place_in fault) (words_in line).1) (Refused (BadPattern fault))
other_found line BadName = found_at line (words_in line).1 (Refused BadName)
other_found line BadValue = value_found line (keyword_of (words_in line).0) (words_in line).1
other_found line NoSubject = found_at line (without_leading_spaces line) findings.NoSubject
other_found line refusal = found_at line (without_leading_spaces line) (Refused refusal)

-- of a line that isn't one of a policy, why
abbrev pub refusal_found : TextVersion → List ℕ → PolicyRefusal → Found
refusal_found version line BadLine =
    reason_found line (line_reason version (without_leading_spaces line))
refusal_found version line refusal = other_found line refusal

-- of a line of symbols
abbrev pub text_found : TextVersion → Option Kind → List ℕ → Option Found
text_found version present line =
    if has_capitals line then Some (found_at line (without_leading_spaces line) Capitals)
    else option_map (refusal_found version line) (refusal_of version present line)

-- of a line of a text, said of a subject of this kind, if of any
abbrev pub line_found : TextVersion → Option Kind → ℕ → List ℕ → Option Found
line_found version present number line =
    if is_text line then text_found version present line
    else odd_found number line (from_odd line)

-- of these lines, of which the first has this number
abbrev pub lines_faults : TextVersion → Option Kind → ℕ → List (List ℕ) → List Remark
lines_faults version present number [] = []
lines_faults version present number (line ∷ lines) =
    noted number (line_found version present number line)
    ++ lines_faults version (kind_after present line) (number + 1) lines

-- of a text, but for the line that says its version
abbrev pub body_faults : Body → List Remark
body_faults body = lines_faults body.version None body.number body.lines
