-- What a right subject says of a service.
use Rattle.std.proofs.Common.{◌≡◌, ℕ, ◌≤◌, Bool, true, false, not, cond, ◌&&◌, ◌||◌, List, [], ◌∷◌, length, Option, None, Some, refl, sym, ap, subst, ◌∙◌, arith, nat_le, inl, inr}
use Rattle.std.specs.Prelude.{All, Contains, IfSome, filter, filter_map}
use Rattle.std.specs.Borrow.{Bor}
use Rattle.std.specs.List.{list_any, list_all, cons_option}
use Rattle.std.proofs.lemmas.Bool.{and_parts, and_from, or_parts, or_cases, or_left, or_right, not-true, not_from_false, leb-true, both_ways}
use Rattle.std.proofs.lemmas.List.Elements.{All-cons, All-nil}
use Rattle.pol_names.specs.Service as services
use Rattle.pol_names.specs.Service.{is_right_line, is_service, may_say, is_attribute, is_shell, is_level, has_attribute_name, clash, give_others, refusing}
use Rattle.pol_names.specs.SameService.{same_service, same_service-Decides}
use Rattle.pol_names.specs.declared.service.Says.{Says}
use Rattle.pol_names.specs.declared.service.Says.TheVariants.{Allows, Refuses}
use Rattle.pol_names.specs.declared.service.ServiceId.{ServiceId}
use Rattle.pol_names.specs.declared.service.ServiceLine.{ServiceLine}
use Rattle.pol_text.specs.declared.subject.Subject.{Subject}
use Rattle.pol_text.specs.Policy.{max_services, none_clash, is_right_subject, WellFormed}
use Rattle.pol_text.proofs.RightSubject.{right_parts}
use Rattle.pol_text.proofs.ServiceLines.{lines_parts}
use Rattle.pol_text.proofs.SubjectFacts.{list_all_here}
use Rattle.basics.specs.Symbol.{is_text}
use Rattle.pol_given.specs.Given.{is_about, said_of, is_refusal, is_refusal_of, refuses, attribute_in, attributes_of}

-- ---- few attributes, and short ones

few_given : (service : ServiceId) (lines : List ServiceLine) → length (filter_map (attribute_in service) lines) ≤ length lines
few_given service [] = omega arith
few_given service (line ∷ rest) = by (attribute_in service line) (few_given service rest)
  where
    by : (given : Option (List ℕ)) → length (filter_map (attribute_in service) rest) ≤ length rest → length (cons_option given (filter_map (attribute_in service) rest)) ≤ length (line ∷ rest)
    by None le = omega arith
    by (Some text) le = omega arith

short_attribute : (text : List ℕ) → is_attribute text ≡ true → length text ≤ 255
short_attribute text h =
    let front = and_parts (is_text text && nat_le (length text) 255) (has_attribute_name text) h in
    let long = and_parts (is_text text) (nat_le (length text) 255) front.0 in
    leb-true (length text) 255 long.1

short_in : (service : ServiceId) (about : Bool) (says : Says) (text : List ℕ) → may_say service says ≡ true → cond about (services.attribute_in says) None ≡ Some text → length text ≤ 255
short_in service false says text h e = absurd cc
short_in service true (Allows (Some given)) text h e =
    let parts = and_parts (is_attribute given) (not (is_shell service.name && is_level given)) h in
    let same : given ≡ text = cc in
    subst (λ (t : List ℕ). length t ≤ 255) same (short_attribute given parts.0)
short_in service true (Allows None) text h e = absurd cc
short_in service true Refuses text h e = absurd cc

short_given : (service : ServiceId) (lines : List ServiceLine) → list_all is_right_line lines ≡ true → All (λ text. length text ≤ 255) (filter_map (attribute_in service) lines)
short_given service [] h = All-nil (λ (text : List ℕ). length text ≤ 255)
short_given service (line ∷ rest) h =
    let parts = and_parts (is_right_line line) (list_all is_right_line rest) h in
    let said = and_parts (is_service line.service) (may_say line.service line.says) parts.0 in
    by (attribute_in service line) (λ text e. short_in line.service (is_about service line) line.says text said.1 e) (short_given service rest parts.1)
  where
    by : (given : Option (List ℕ)) → ((text : List ℕ) → given ≡ Some text → length text ≤ 255) → All (λ text. length text ≤ 255) (filter_map (attribute_in service) rest)
        → All (λ text. length text ≤ 255) (cons_option given (filter_map (attribute_in service) rest))
    by None here later = later
    by (Some text) here later = All-cons (λ (t : List ℕ). length t ≤ 255) text (filter_map (attribute_in service) rest) (here text refl) later

-- ---- a refusal stands alone

-- two lines about one service clash unless they give two attributes
clash_about : (service : ServiceId) (a b : ServiceLine) → is_about service a ≡ true → is_about service b ≡ true → give_others a.says b.says ≡ false → clash a b ≡ true
clash_about service a b one two alike =
    let same : same_service a.service b.service ≡ true = ap (λ (s : ServiceId). same_service s b.service) (sym ((same_service-Decides service a.service).0 one)) ∙ two in
    and_from (same_service a.service b.service) (not (give_others a.says b.says)) same (not_from_false (give_others a.says b.says) alike)

refusal_is : (says : Says) → is_refusal says ≡ true → says ≡ Refuses
refusal_is (Allows attribute) e = absurd cc
refusal_is Refuses e = refl

-- a refusal gives no attribute
gives_none : (a b : Says) → is_refusal a ≡ true → give_others a b ≡ false
gives_none (Allows attribute) b e = absurd cc
gives_none Refuses b e = refl

beside_refusal : (a b : Says) → is_refusal b ≡ true → give_others a b ≡ false
beside_refusal (Allows (Some text)) (Allows attribute) e = absurd cc
beside_refusal (Allows (Some text)) Refuses e = refl
beside_refusal (Allows None) b e = refl
beside_refusal Refuses b e = refl

-- no line after a refusal is about the same service
none_after : (service : ServiceId) (line : ServiceLine) (rest : List ServiceLine) → is_about service line ≡ true → is_refusal line.says ≡ true → list_any (clash line) rest ≡ false
    → filter (is_about service) rest ≡ []
none_after service line [] about refusal none = refl
none_after service line (x ∷ rest) about refusal none =
    let parts = or_parts (clash line x) (list_any (clash line) rest) none in
    by parts.0 (is_about service x) refl (none_after service line rest about refusal parts.1)
  where
    by : clash line x ≡ false → (b : Bool) → is_about service x ≡ b → filter (is_about service) rest ≡ [] → cond b (x ∷ filter (is_about service) rest) (filter (is_about service) rest) ≡ []
    by apart true e later = absurd (both_ways (clash line x) apart (clash_about service line x about e (gives_none line.says x.says refusal)))
    by apart false e later = later

-- a line about a service clashes with a refusal of it
clashes_after : (service : ServiceId) (line : ServiceLine) (rest : List ServiceLine) → is_about service line ≡ true → list_any (is_refusal_of service) rest ≡ true
    → list_any (clash line) rest ≡ true
clashes_after service line [] about some = absurd cc
clashes_after service line (x ∷ rest) about some =
    elim (or_cases (is_refusal_of service x) (list_any (is_refusal_of service) rest) some) [
      | inl here ↦
          let parts = and_parts (is_about service x) (is_refusal x.says) here in
          or_left (clash line x) (list_any (clash line) rest) (clash_about service line x about parts.0 (beside_refusal line.says x.says parts.1))
      | inr later ↦ or_right (clash line x) (list_any (clash line) rest) (clashes_after service line rest about later)
    ]

alone : (service : ServiceId) (lines : List ServiceLine) → none_clash lines ≡ true → list_any (is_refusal_of service) lines ≡ true → filter (is_about service) lines ≡ refusing service ∷ []
alone service [] apart some = absurd cc
alone service (line ∷ rest) apart some =
    let parts = and_parts (not (list_any (clash line) rest)) (none_clash rest) apart in
    let none : list_any (clash line) rest ≡ false = not-true (list_any (clash line) rest) parts.0 in
    by none (is_about service line) refl (is_refusal line.says) refl some (alone service rest parts.1)
  where
    by : list_any (clash line) rest ≡ false → (about : Bool) → is_about service line ≡ about → (refusal : Bool) → is_refusal line.says ≡ refusal
        → ((about && refusal) || list_any (is_refusal_of service) rest) ≡ true
        → (list_any (is_refusal_of service) rest ≡ true → filter (is_about service) rest ≡ refusing service ∷ [])
        → cond about (line ∷ filter (is_about service) rest) (filter (is_about service) rest) ≡ refusing service ∷ []
    by none true e true f h later =
        ap (λ (s : ServiceId). record { service = s; says = line.says } ∷ filter (is_about service) rest) (sym ((same_service-Decides service line.service).0 e))
        ∙ ap (λ (s : Says). record { service = service; says = s } ∷ filter (is_about service) rest) (refusal_is line.says f)
        ∙ ap (λ (others : List ServiceLine). refusing service ∷ others) (none_after service line rest e f none)
    by none true e false f h later = absurd (both_ways (list_any (clash line) rest) none (clashes_after service line rest e h))
    by none false e refusal f h later = later h

-- ---- what a right subject says

pub record SaysRight (service : ServiceId) (subject : Subject) : Type 0 where
  pub few : length (attributes_of service subject) ≤ max_services
  pub short : All (λ text. length text ≤ 255) (attributes_of service subject)
  pub alone : refuses service subject ≡ true → said_of service subject ≡ refusing service ∷ []

pub right_says : (service : ServiceId) (subject : Subject) → is_right_subject subject ≡ true → SaysRight service subject
right_says service subject right =
    let lines = lines_parts subject.services (right_parts subject right).services in
    record {
      few = let fewer = few_given service subject.services in let few = lines.few in omega arith;
      short = short_given service subject.services lines.each;
      alone = alone service subject.services lines.apart;
    }

-- who is in a well-formed policy is right
right_inside : (policy : List Subject) → WellFormed policy → (s : Subject) → Contains policy s → is_right_subject s ≡ true
right_inside policy well s (k, within, here) = sym (ap is_right_subject here) ∙ list_all_here is_right_subject policy k s within well.right

pub inside_says : (service : ServiceId) (policy : List Subject) → WellFormed policy → (P : Subject → Type 0) → ((s : Subject) → SaysRight service s → P s) → (r : Option (Bor Subject))
    → IfSome r (λ s. Contains policy s.now) → IfSome r (λ s. P s.now)
inside_says service policy well P from None h = tt
inside_says service policy well P from (Some s) h = from s.now (right_says service s.now (right_inside policy well s.now h))
