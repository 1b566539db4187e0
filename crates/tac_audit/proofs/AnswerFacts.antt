-- What is told of an answer: how its front is made, and that a short one is told whole.
use Rattle.std.proofs.Common.{◌≡◌, ◌≤◌, inl, inr, ℕ, zero, suc, ◌+◌, ◌-◌, not, eqb, if◌then◌else◌, Bool, true, false, List, [], ◌∷◌, ◌++◌, length, map, Option, Some, None, take_all, length-append, append_assoc, codes, nat_lt, refl, sym, ap, ◌∙◌, arith}
use Rattle.std.specs.Prelude.{take}
use Rattle.std.specs.List.{list_all}
use Rattle.std.specs.Option.{option_map_or}
use Rattle.std.proofs.lemmas.Bool.{and_parts, and_from}
use Rattle.std.proofs.lemmas.Bool.Decides.{nat_tests}
use Rattle.basics.specs.Lines.{lines_of, onto_first, split_at_first}
use Rattle.tac_audit.specs.declared.event.Typist.{Typist}
use Rattle.tac_audit.specs.declared.event.Typed.{Typed}
use Rattle.tac_audit.specs.Masking.{masked, masked_answer, masked_setting, is_setting, text_of, masked_text, most_told, size_told, typed_of, IsSetting, IsToldWhole}
use Rattle.tac_audit.proofs.MaskingFacts.{setting_is}

-- ---- the front

pub front_all : (n : ℕ) (front piece : List ℕ) → length front ≤ n → length piece ≤ n - length front → front ++ piece ≡ take n (front ++ piece)
front_all n front piece h k =
    let long = length-append front piece in
    sym (take_all n (front ++ piece) (omega arith))

front_at : (front piece : List ℕ) (n k : ℕ) → n ≡ length front + k → front ++ take k piece ≡ take n (front ++ piece)
front_at [] piece n k h = let e : k ≡ n = omega arith in ap (λ (m : ℕ). take m piece) e
front_at (byte ∷ front) piece zero k h = absurd (omega arith)
front_at (byte ∷ front) piece (suc n) k h = ap (λ (l : List ℕ). byte ∷ l) (front_at front piece n k (omega arith))

pub front_more : (n : ℕ) (front piece : List ℕ) → length front ≤ n → front ++ take (n - length front) piece ≡ take n (front ++ piece)
front_more n front piece h = front_at front piece n (n - length front) (omega arith)

taken_on : (n : ℕ) (xs rest : List ℕ) → take n (take n xs ++ rest) ≡ take n (xs ++ rest)
taken_on zero xs rest = refl
taken_on (suc n) [] rest = refl
taken_on (suc n) (x ∷ xs) rest = ap (λ (l : List ℕ). x ∷ l) (taken_on n xs rest)

-- after a line's text
pub step_front : (n : ℕ) (front piece rest whole : List ℕ) → take n (front ++ (piece ++ rest)) ≡ whole → take n (take n (front ++ piece) ++ rest) ≡ whole
step_front n front piece rest whole h = taken_on n (front ++ piece) rest ∙ ap (take n) (append_assoc front piece rest) ∙ h

pub step_size : (size whole : ℕ) (piece rest : List ℕ) → size + length (piece ++ rest) ≡ whole → size + length piece + length rest ≡ whole
step_size size whole piece rest h = let long = length-append piece rest in omega arith

pub taken_within : (n : ℕ) (xs : List ℕ) → length (take n xs) ≤ n
taken_within zero xs = omega arith
taken_within (suc n) [] = omega arith
taken_within (suc n) (x ∷ xs) = let h = taken_within n xs in omega arith

nil_end : (xs : List ℕ) → xs ++ [] ≡ xs
nil_end [] = refl
nil_end (x ∷ xs) = ap (λ (l : List ℕ). x ∷ l) (nil_end xs)

-- once no line is left
pub last_front : (n : ℕ) (front whole : List ℕ) → length front ≤ n → take n (front ++ []) ≡ whole → front ≡ whole
last_front n front whole h e = sym (take_all n front h) ∙ ap (take n) (sym (nil_end front)) ∙ e

-- ---- lines without LF

abbrev pub no_end : List ℕ → Bool
no_end line = list_all (λ byte. not (eqb byte 10)) line

abbrev pub are_lines : List (List ℕ) → Bool
are_lines lines = list_all no_end lines

not_end : (byte : ℕ) → not (eqb byte 10) ≡ true → eqb byte 10 ≡ false
not_end byte h = grind (arith, nat_tests)

onto_lines : (byte : ℕ) (lines : List (List ℕ)) → eqb byte 10 ≡ false → are_lines lines ≡ true → are_lines (onto_first byte lines) ≡ true
onto_lines byte [] e h = rw e refl
onto_lines byte (line ∷ lines) e h = rw e h

line_case : (byte : ℕ) (bytes : List ℕ) (b : Bool) → eqb byte 10 ≡ b → are_lines (lines_of bytes) ≡ true
    → are_lines (if b then [] ∷ lines_of bytes else onto_first byte (lines_of bytes)) ≡ true
line_case byte bytes true e h = h
line_case byte bytes false e h = onto_lines byte (lines_of bytes) e h

lines_are : (bytes : List ℕ) → are_lines (lines_of bytes) ≡ true
lines_are [] = refl
lines_are (byte ∷ bytes) = line_case byte bytes (eqb byte 10) refl (lines_are bytes)

word_case : (word : List ℕ) → IsSetting word → no_end (word ++ codes " *") ≡ true
word_case word (inl (inl is)) = rw is refl
word_case word (inl (inr is)) = rw is refl
word_case word (inr (inl is)) = rw is refl
word_case word (inr (inr is)) = rw is refl

setting_case : (line word : List ℕ) (b : Bool) → is_setting word ≡ b → no_end line ≡ true → no_end (if b then word ++ codes " *" else line) ≡ true
setting_case line word false e h = h
setting_case line word true e h = word_case word (setting_is word e)

answer_case : (line : List ℕ) (parts : Option (List ℕ × List ℕ)) → no_end line ≡ true → no_end (option_map_or (masked_setting line) parts line) ≡ true
answer_case line None h = h
answer_case line (Some parts) h = setting_case line parts.0 (is_setting parts.0) refl h

answer_kept : (line : List ℕ) → no_end line ≡ true → no_end (masked_answer line) ≡ true
unfolding masked_answer
answer_kept line h = answer_case line (split_at_first 32 line) h

masked_are : (lines : List (List ℕ)) → are_lines lines ≡ true → are_lines (map masked_answer lines) ≡ true
masked_are [] h = refl
masked_are (line ∷ lines) h =
    let parts = and_parts (no_end line) (are_lines lines) h in
    and_from (no_end (masked_answer line)) (are_lines (map masked_answer lines)) (answer_kept line parts.0) (masked_are lines parts.1)

line_first : (line rest : List ℕ) → no_end line ≡ true → lines_of (line ++ 10 ∷ rest) ≡ line ∷ lines_of rest
line_first [] rest h = refl
line_first (byte ∷ line) rest h =
    let parts = and_parts (not (eqb byte 10)) (no_end line) h in
    rw (not_end byte parts.0) (ap (onto_first byte) (line_first line rest parts.1))

-- lines are read back from their text
lines_again : (lines : List (List ℕ)) → are_lines lines ≡ true → lines_of (text_of lines) ≡ lines
lines_again [] h = refl
lines_again (line ∷ lines) h =
    let parts = and_parts (no_end line) (are_lines lines) h in
    ap lines_of (append_assoc line (10 ∷ []) (text_of lines)) ∙ line_first line (text_of lines) parts.0
    ∙ ap (λ (rest : List (List ℕ)). line ∷ rest) (lines_again lines parts.1)

-- ---- a short answer

not_over : (n size : ℕ) → size ≤ n → nat_lt n size ≡ false
not_over n size h = grind (arith, nat_tests)

size_none : (size : ℕ) → size ≤ most_told → size_told size ≡ None
size_none size h = rw (not_over most_told size h) refl

typed_with : List ℕ → Typist → List ℕ → Option ℕ → List (List ℕ) → Typed
typed_with time typist console size answer = record { time = time; typist = typist; console = console; answer_bytes = size; answer = answer }

pub told_whole : (time : List ℕ) (typist : Typist) (line answer : List ℕ) → IsToldWhole time typist line answer
unfolding typed_of typed_with
told_whole time typist line answer short =
    let size : size_told (length (masked_text answer)) ≡ None = size_none (length (masked_text answer)) short in
    let lines : lines_of (take most_told (masked_text answer)) ≡ map masked_answer (lines_of answer) =
    ap lines_of (take_all most_told (masked_text answer) short) ∙ lines_again (map masked_answer (lines_of answer)) (masked_are (lines_of answer) (lines_are answer)) in
    ap (λ (x : Option ℕ). typed_with time typist (masked line) x (lines_of (take most_told (masked_text answer)))) size
    ∙ ap (λ (x : List (List ℕ)). typed_with time typist (masked line) None x) lines
