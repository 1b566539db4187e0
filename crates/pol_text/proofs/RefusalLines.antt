-- A refusal is at a line of the text.
use Rattle.std.proofs.Common.{◌≡◌, ℕ, ◌+◌, ◌<◌, ◌≤◌, Bool, true, false, not, List, [], ◌∷◌, ◌++◌, length, find, Option, None, Some, Result, Ok, Err, ok_or, eqb, refl, subst, arith}
use Rattle.std.specs.Bool.{if◌then◌else◌}
use Rattle.std.specs.Option.{option_map_or}
use Rattle.std.specs.Str.{bytes_eq}
use Rattle.basics.specs.Symbol.{is_text}
use Rattle.basics.specs.Lines.{lines_of, onto_first, split_at_first, without_leading_spaces}
use Rattle.pol_text.specs.Policy.{has_parent, ends_within}
use Rattle.pol_text.specs.Text.{◌>>=◌, Draft, subjects_of, heading, is_blank, new_subject, with_subject, split_last, after_first, with_present, with_login, with_enable, with_login_hash, with_enable_hash, with_priv, with_service, allowed_by, refused_by, with_rule, with_words, with_trimmed, with_line, with_lines, at_line, checked, with_right_chains, policy_of, IsUnlessMemory, version_line, third_line, Body, body_of, with_body}
use Rattle.pol_text.specs.declared.version.TextVersion.{TextVersion as Version}
use Rattle.pol_text.specs.declared.version.TextVersion.TheVariants.{One, Two, Three}
use Rattle.pol_names.specs.declared.subject_id.Kind.{Kind}
use Rattle.pol_names.specs.declared.subject_id.Kind.TheVariants.{Group, User}
use Rattle.pol_names.specs.declared.decision.Verdict.TheVariants.{Permit, Deny}
use Rattle.pol_text.specs.declared.subject.Subject.{Subject}
use Rattle.pol_text.specs.declared.fault.PolicyRefusal.{PolicyRefusal}
use Rattle.pol_text.specs.declared.fault.PolicyRefusal.TheVariants.{BadLine, NoSubject, NoSuchParent, Cycle, TooDeep}
use Rattle.pol_text.specs.declared.fault.PolicyFault.{PolicyFault}
use Rattle.pol_text.specs.declared.fault.PolicyFault.TheVariants.{Refused, Memory}

-- ---- every subject of the draft begins before this line

abbrev AllBefore : ℕ → Draft → Type 0
AllBefore n [] = Unit {0}
AllBefore n (entry ∷ rest) = (entry.0 < n) × AllBefore n rest

before_more : (n : ℕ) (draft : Draft) → AllBefore n draft → AllBefore (n + 1) draft
before_more n [] h = tt
before_more n (entry ∷ rest) h = (omega (arith, h.0), before_more n rest h.1)

before_push : (n : ℕ) (draft : Draft) (entry : ℕ × Subject) → AllBefore n draft → entry.0 < n → AllBefore n (draft ++ entry ∷ [])
before_push n [] entry h lt = (lt, tt)
before_push n (first ∷ rest) entry h lt = (h.0, before_push n rest entry h.1 lt)

abbrev PartsBefore : ℕ → Option (Draft × (ℕ × Subject)) → Type 0
PartsBefore n None = Unit {0}
PartsBefore n (Some parts) = AllBefore n parts.0 × (parts.1.0 < n)

after_before : (n : ℕ) (entry : ℕ × Subject) (parts : Option (Draft × (ℕ × Subject))) → entry.0 < n → PartsBefore n parts → PartsBefore n (after_first entry parts)
after_before n entry None lt h = (tt, lt)
after_before n entry (Some parts) lt h = ((lt, h.0), h.1)

split_before : (n : ℕ) (draft : Draft) → AllBefore n draft → PartsBefore n (split_last draft)
split_before n [] h = tt
split_before n (entry ∷ rest) h = after_before n entry (split_last rest) h.0 (split_before n rest h.1)

-- ---- what a line makes of a draft

abbrev Keeps : ℕ → Result Draft PolicyRefusal → Type 0
Keeps n (Ok draft) = AllBefore n draft
Keeps n (Err refusal) = Unit {0}

keeps_if : (n : ℕ) (b : Bool) (x y : Result Draft PolicyRefusal) → Keeps n x → Keeps n y → Keeps n (if b then x else y)
keeps_if n true x y hx hy = hx
keeps_if n false x y hx hy = hy

keeps_then : (n : ℕ) {A : Type 0} (r : Result A PolicyRefusal) (f : A → Result Draft PolicyRefusal) → ((a : A) → Keeps n (f a)) → Keeps n (r >>= f)
keeps_then n (Ok a) f h = h a
keeps_then n (Err refusal) f h = tt

subject_keeps : (n : ℕ) (kind : Kind) (name : List ℕ) (parent : Option (List ℕ)) (draft : Draft) → AllBefore (n + 1) draft → Keeps (n + 1) (with_subject n kind name parent draft)
unfolding with_subject
subject_keeps n kind name parent draft h =
    let pushed : Keeps (n + 1) (Ok (draft ++ (n, new_subject kind name parent) ∷ [])) = before_push (n + 1) draft (n, new_subject kind name parent) h (omega arith) in
    search (keeps_if, pushed)

parts_keep : (n : ℕ) (change : Subject → Result Subject PolicyRefusal) (parts : Option (Draft × (ℕ × Subject))) → PartsBefore n parts
    → Keeps n (ok_or parts NoSubject >>= λ parts. change parts.1.1 >>= λ subject. Ok (parts.0 ++ (parts.1.0, subject) ∷ []))
parts_keep n change None h = tt
parts_keep n change (Some parts) h = keeps_then n (change parts.1.1) _ (λ subject. before_push n parts.0 (parts.1.0, subject) h.0 h.1)

present_keeps : (n : ℕ) (change : Subject → Result Subject PolicyRefusal) (draft : Draft) → AllBefore n draft → Keeps n (with_present change draft)
unfolding with_present
present_keeps n change draft h = parts_keep n change (split_last draft) (split_before n draft h)

words_keep : (version : Version) (n : ℕ) (word rest : List ℕ) (draft : Draft) → AllBefore (n + 1) draft → Keeps (n + 1) (with_words version n word rest draft)
unfolding with_words
words_keep version n word rest draft h =
    let group = keeps_then (n + 1) (heading rest (split_at_first 32 rest)) (λ ids. with_subject n Group ids.0 ids.1 draft) (λ ids. subject_keeps n Group ids.0 ids.1 draft h) in
    let user = keeps_then (n + 1) (heading rest (split_at_first 32 rest)) (λ ids. with_subject n User ids.0 ids.1 draft) (λ ids. subject_keeps n User ids.0 ids.1 draft h) in
    let login = present_keeps (n + 1) (with_login rest) draft h in
    let enable = present_keeps (n + 1) (with_enable rest) draft h in
    let login_hash = present_keeps (n + 1) (with_login_hash rest) draft h in
    let enable_hash = present_keeps (n + 1) (with_enable_hash rest) draft h in
    let service = keeps_then (n + 1) (allowed_by rest) (λ line. with_present (with_service line) draft) (λ line. present_keeps (n + 1) (with_service line) draft h) in
    let refuse = keeps_then (n + 1) (refused_by rest) (λ line. with_present (with_service line) draft) (λ line. present_keeps (n + 1) (with_service line) draft h) in
    let level = present_keeps (n + 1) (with_priv rest) draft h in
    let permit = present_keeps (n + 1) (with_rule version Permit rest) draft h in
    let deny = present_keeps (n + 1) (with_rule version Deny rest) draft h in
    search (keeps_if, group, user, login, enable, login_hash, enable_hash, service, refuse, level, permit, deny) depth 20

trimmed_keeps : (version : Version) (n : ℕ) (line : List ℕ) (draft : Draft) → AllBefore (n + 1) draft → Keeps (n + 1) (with_trimmed version n line draft)
unfolding with_trimmed
trimmed_keeps version n line draft h =
    keeps_if (n + 1) (is_blank line) (Ok draft) (ok_or (split_at_first 32 line) BadLine >>= λ parts. with_words version n parts.0 parts.1 draft) h
    (keeps_then (n + 1) (ok_or (split_at_first 32 line) BadLine) (λ parts. with_words version n parts.0 parts.1 draft) (λ parts. words_keep version n parts.0 parts.1 draft h))

line_keeps : (version : Version) (n : ℕ) (line : List ℕ) (draft : Draft) → AllBefore (n + 1) draft → Keeps (n + 1) (with_line version n line draft)
unfolding with_line
line_keeps version n line draft h = keeps_if (n + 1) (is_text line) (with_trimmed version n (without_leading_spaces line) draft) (Err BadLine) (trimmed_keeps version n (without_leading_spaces line) draft h) tt

-- ---- whole texts

abbrev Bounded : {A : Type 0} → (A → Type 0) → ℕ → Result A PolicyFault → Type 0
Bounded P n (Ok x) = P x
Bounded P n (Err (Refused line refusal)) = line < n
Bounded P n (Err Memory) = Unit {0}

line_bounded : (version : Version) (number n : ℕ) (lines : List (List ℕ)) (made : Result Draft PolicyRefusal) → number < n → Keeps (number + 1) made
    → ((next : Draft) → AllBefore (number + 1) next → Bounded (AllBefore n) n (with_lines version (number + 1) lines next))
    → Bounded (AllBefore n) n (at_line number made >>= λ next. with_lines version (number + 1) lines next)
line_bounded version number n lines (Ok next) lt h go_on = go_on next h
line_bounded version number n lines (Err refusal) lt h go_on = lt

before_at : (n m : ℕ) (draft : Draft) → n ≡ m → AllBefore n draft → AllBefore m draft
before_at n m draft e h = let P : ℕ → Type 0 = λ k. AllBefore k draft in subst P e h

lines_bounded : (version : Version) (number n : ℕ) (lines : List (List ℕ)) (draft : Draft) → number + length lines ≡ n → AllBefore number draft → Bounded (AllBefore n) n (with_lines version number lines draft)
unfolding with_lines
lines_bounded version number n [] draft e h = before_at number n draft (omega arith) h
lines_bounded version number n (line ∷ lines) draft e h =
    line_bounded version number n lines (with_line version number line draft) (omega arith) (line_keeps version number line draft (before_more number draft h))
    (λ next below. lines_bounded version (number + 1) n lines next (omega arith) below)

abbrev FoundBefore : ℕ → Option (ℕ × Subject) → Type 0
FoundBefore n None = Unit {0}
FoundBefore n (Some entry) = entry.0 < n

found_if : (n : ℕ) (b : Bool) (x y : Option (ℕ × Subject)) → FoundBefore n x → FoundBefore n y → FoundBefore n (if b then x else y)
found_if n true x y hx hy = hx
found_if n false x y hx hy = hy

found_before : (n : ℕ) (test : ℕ × Subject → Bool) (draft : Draft) → AllBefore n draft → FoundBefore n (find test draft)
found_before n test [] h = tt
found_before n test (entry ∷ rest) h = found_if n (test entry) (Some entry) (find test rest) h.0 (found_before n test rest h.1)

fault_bounded : (n : ℕ) (refusal : PolicyRefusal) (draft : Draft) (found : Option (ℕ × Subject)) → AllBefore n draft → FoundBefore n found
    → Bounded (AllBefore n) n (option_map_or (λ entry. Err (Refused entry.0 refusal)) found (Ok draft))
fault_bounded n refusal draft None all h = all
fault_bounded n refusal draft (Some entry) all h = h

checked_bounded : (n : ℕ) (test : Subject → Bool) (refusal : PolicyRefusal) (draft : Draft) → AllBefore n draft → Bounded (AllBefore n) n (checked test refusal draft)
unfolding checked
checked_bounded n test refusal draft h =
    fault_bounded n refusal draft (find (λ entry. not (test entry.1)) draft) h (found_before n (λ entry. not (test entry.1)) draft h)

then_bounded : {A B : Type 0} (P : A → Type 0) (Q : B → Type 0) (n : ℕ) (r : Result A PolicyFault) (f : A → Result B PolicyFault) → Bounded P n r → ((x : A) → P x → Bounded Q n (f x)) → Bounded Q n (r >>= f)
then_bounded P Q n (Ok x) f h go_on = go_on x h
then_bounded P Q n (Err (Refused line refusal)) f h go_on = h
then_bounded P Q n (Err Memory) f h go_on = tt

abbrev Any : List Subject → Type 0
Any policy = Unit {0}

chains_bounded : (n : ℕ) (draft : Draft) → AllBefore n draft → Bounded Any n (with_right_chains draft)
unfolding with_right_chains
chains_bounded n draft h =
    then_bounded (AllBefore n) Any n _ _
    (then_bounded (AllBefore n) (AllBefore n) n _ _
    (then_bounded (AllBefore n) (AllBefore n) n _ _
    (checked_bounded n (has_parent (subjects_of draft)) NoSuchParent draft h)
    (λ d all. checked_bounded n (ends_within (length draft) (subjects_of draft)) Cycle d all))
    (λ d all. checked_bounded n (ends_within 8 (subjects_of draft)) TooDeep d all))
    (λ d all. tt)

-- a text has no more lines than bytes
onto_first_long : (byte : ℕ) (lines : List (List ℕ)) → length (onto_first byte lines) ≤ length lines + 1
onto_first_long byte [] = omega arith
onto_first_long byte (line ∷ lines) = omega arith

lines_few : (b : Bool) (byte n : ℕ) (lines : List (List ℕ)) → length lines ≤ n → length (if b then [] ∷ lines else onto_first byte lines) ≤ n + 1
lines_few true byte n lines h = omega (arith, h)
lines_few false byte n lines h = omega (arith, h, onto_first_long byte lines)

few_lines : (text : List ℕ) → length (lines_of text) ≤ length text
few_lines [] = omega arith
few_lines (byte ∷ bytes) = omega (arith, lines_few (eqb byte 10) byte (length bytes) (lines_of bytes) (few_lines bytes))

-- a line that says the version counts
body_if : (b c : Bool) (line : List ℕ) (lines : List (List ℕ)) (body : Body)
    → body ≡ (if b then record { version = Two; number = 2; lines = lines } else if c then record { version = Three; number = 2; lines = lines } else record { version = One; number = 1; lines = line ∷ lines })
    → body.number + length body.lines ≡ 1 + length (line ∷ lines)
body_if true c line lines body e = rw e (omega arith)
body_if false true line lines body e = rw e (omega arith)
body_if false false line lines body e = rw e refl

body_long : (lines : List (List ℕ)) → (body_of lines).number + length (body_of lines).lines ≡ 1 + length lines
body_long [] = refl
body_long (line ∷ lines) = body_if (bytes_eq line version_line) (bytes_eq line third_line) line lines (body_of (line ∷ lines)) refl

policy_bounded : (text : List ℕ) → Bounded Any (1 + length (lines_of text)) (policy_of text)
unfolding policy_of
policy_bounded text =
    let body = body_of (lines_of text) in
    let n = 1 + length (lines_of text) in
    then_bounded (AllBefore n) Any n (with_body body) with_right_chains
    (lines_bounded body.version body.number n body.lines [] (body_long (lines_of text)) tt) (λ d all. chains_bounded n d all)

refused_at : (n line : ℕ) (refusal : PolicyRefusal) (r : Result (List Subject) PolicyFault) → r ≡ Err (Refused line refusal) → Bounded Any n r → line < n
refused_at n line refusal r e h = let P : Result (List Subject) PolicyFault → Type 0 = Bounded Any n in subst P e h

-- the line of a refusal is one of the text's
pub is_at_line : (text : List ℕ) (line : ℕ) (refusal : PolicyRefusal) → policy_of text ≡ Err (Refused line refusal) → line ≤ length text
is_at_line text line refusal e =
    omega (arith, refused_at (1 + length (lines_of text)) line refusal (policy_of text) e (policy_bounded text), few_lines text)

-- and so is that of what reading it returned
pub refused_line : (text : List ℕ) (line : ℕ) (refusal : PolicyRefusal) (read : Result (List Subject) PolicyFault) → IsUnlessMemory (λ policy. policy) read (policy_of text)
    → read ≡ Err (Refused line refusal) → line ≤ length text
refused_line text line refusal read h e =
    let P : Result (List Subject) PolicyFault → Type 0 = λ r. IsUnlessMemory (λ policy. policy) r (policy_of text) in
    is_at_line text line refusal (subst P e h)
