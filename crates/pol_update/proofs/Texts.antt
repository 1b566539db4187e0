-- Parts of a line are texts.
use Rattle.std.proofs.Common.{◌≡◌, ℕ, ◌+◌, ◌%◌, ◌^◌, ◌<◌, ◌≤◌, true, List, [], ◌∷◌, ◌++◌, Option, Some, None, refl, arith}
use Rattle.std.specs.List.{list_all}
use Rattle.std.specs.Fmt.{decimal}
use Rattle.std.proofs.lemmas.Bool.{and_parts, and_from}
use Rattle.std.proofs.lemmas.Bool.Decides.{nat_tests}
use Rattle.std.proofs.lemmas.List.Folds.{list_all-append}
use Rattle.std.proofs.lemmas.Fmt.{decimal_by_steps, length-decimal-le}
use Rattle.basics.specs.Symbol.{is_symbol, is_text}
use Rattle.basics.specs.Number.{number_of}
use Rattle.basics.proofs.NumberFacts.{number_of-decimal}
use Rattle.pol_names.specs.Name.{is_name, is_name_byte}
use Rattle.pol_names.specs.SubjectId.{subject_text}
use Rattle.pol_names.specs.Decision.{verdict_word}
use Rattle.pol_names.specs.declared.decision.Verdict.{Verdict}
use Rattle.pol_names.specs.declared.decision.Verdict.TheVariants.{Permit, Deny}
use Rattle.pol_names.specs.declared.subject_id.Kind.{Kind}
use Rattle.pol_names.specs.declared.subject_id.Kind.TheVariants.{Group, User}
use Rattle.pol_names.specs.declared.subject_id.SubjectId.{SubjectId}
use Rattle.pol_names.specs.SubjectId.{kind_word}
use Rattle.pol_text.specs.Policy.{all_of}
use Rattle.pol_edit.specs.Spelling.{parent_text}

pub both : (a b : List ℕ) → is_text a ≡ true → is_text b ≡ true → is_text (a ++ b) ≡ true
both a b p q = rw (list_all-append is_symbol a b) (and_from (is_text a) (is_text b) p q)

name_symbol : (byte : ℕ) → is_name_byte byte ≡ true → is_symbol byte ≡ true
unfolding is_name_byte
name_symbol byte h = grind (arith, nat_tests)

symbols : (name : List ℕ) → list_all is_name_byte name ≡ true → is_text name ≡ true
symbols [] h = refl
symbols (byte ∷ name) h =
    let parts = and_parts (is_name_byte byte) (list_all is_name_byte name) h in
    and_from (is_symbol byte) (is_text name) (name_symbol byte parts.0) (symbols name parts.1)

pub name_text : (name : List ℕ) → is_name name ≡ true → is_text name ≡ true
name_text name h = symbols name (and_parts _ (list_all is_name_byte name) h).1

kind_text : (kind : Kind) → is_text (kind_word kind) ≡ true
kind_text Group = refl
kind_text User = refl

pub id_text : (id : SubjectId) → is_name id.name ≡ true → is_text (subject_text id) ≡ true
id_text id h = both (kind_word id.kind) id.name (kind_text id.kind) (name_text id.name h)

pub below_text : (parent : Option (List ℕ)) (none : List ℕ) → all_of is_name parent ≡ true → is_text none ≡ true → is_text (parent_text parent none) ≡ true
below_text None none h k = k
below_text (Some name) none h k = name_text name h

pub verdict_text : (verdict : Verdict) → is_text (verdict_word verdict) ≡ true
verdict_text Permit = refl
verdict_text Deny = refl

-- ---- numbers

one_digit : (n : ℕ) → n < 10 → is_text ((48 + n) ∷ []) ≡ true
one_digit n small = grind (arith, nat_tests)

more_digits : (n : ℕ) (digits : List ℕ) → is_text digits ≡ true → is_text (digits ++ (48 + n % 10) ∷ []) ≡ true
more_digits n digits h = both digits ((48 + n % 10) ∷ []) h (one_digit (n % 10) (omega arith))

pub number_text : (n : ℕ) → n < 2 ^ 64 → is_text (decimal n) ≡ true
number_text = decimal_by_steps (λ n digits. is_text digits ≡ true) one_digit (λ n digits more h. more_digits n digits h)

-- as many rules as a subject has, and one more, have four digits at most
pub number_again : (n : ℕ) → n ≤ 257 → number_of 4 (decimal n) ≡ Some n
number_again n few = number_of-decimal 4 n (omega arith) (length-decimal-le 4 n (omega arith) (omega arith) (omega arith))
