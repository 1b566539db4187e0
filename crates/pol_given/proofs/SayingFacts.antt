-- What is said along two chains, and what is given by it.
use Rattle.std.proofs.Common.{◌≡◌, ℕ, ◌-◌, ◌+◌, ◌<◌, Bool, true, false, cond, List, [], ◌∷◌, ◌++◌, Option, None, Some, refl, sym, ap, ◌∙◌}
use Rattle.std.specs.Option.{option_and_then, option_map_or, option_or}
use Rattle.std.specs.List.{list_any}
use Rattle.pol_names.specs.SubjectId.{user_id}
use Rattle.pol_names.specs.declared.service.ServiceId.{ServiceId}
use Rattle.pol_names.specs.declared.service.ServiceLine.{ServiceLine}
use Rattle.pol_text.specs.declared.subject.Subject.{Subject}
use Rattle.pol_text.specs.Policy.{parent_of, find_subject, chain, chain_within, first_level, level_of}
use Rattle.pol_text.proofs.ChainFacts.{chain_within_step}
use Rattle.pol_given.specs.Given.{is_about, speaks_of, first_speaking, given_by, attributes_of, the_shell, speaking, service_arguments, level_arguments, shell_attributes, shell_arguments}
use Rattle.pol_given.specs.Saying.{Said, said, said_along}

-- ---- chains

pub said_step : (policy : List Subject) (subject : Subject) (i : ℕ) (parent : Option Subject) → i < 8 → parent_of policy subject ≡ parent
    → said_along (chain_within (8 - i) policy subject) ≡ said subject ∷ said_along (option_map_or (chain_within (8 - (i + 1)) policy) parent [])
said_step policy subject i parent lt e = ap said_along (chain_within_step policy subject 8 i parent lt e)

pub said_so : (a b : Subject) → a.priv_lvl ≡ b.priv_lvl → a.services ≡ b.services → said a ≡ said b
said_so a b level services =
    ap (λ (lines : List ServiceLine). record { services = lines; level = a.priv_lvl }) services
    ∙ ap (λ (level : Option ℕ). record { services = b.services; level = level }) level

-- what is left of two chains is alike: here, and behind
pub alike_step : (old new : List Subject) (a b : Subject) (i : ℕ) (p q : Option Subject) → i < 8 → parent_of old a ≡ p → parent_of new b ≡ q → said a ≡ said b
    → said_along (option_map_or (chain_within (8 - (i + 1)) old) p []) ≡ said_along (option_map_or (chain_within (8 - (i + 1)) new) q [])
    → said_along (chain_within (8 - i) old a) ≡ said_along (chain_within (8 - i) new b)
alike_step old new a b i p q lt e f here behind =
    said_step old a i p lt e
    ∙ ap (λ (first : Said). first ∷ said_along (option_map_or (chain_within (8 - (i + 1)) old) p [])) here
    ∙ ap (λ (rest : List Said). said b ∷ rest) behind
    ∙ sym (said_step new b i q lt f)

-- ---- what is given

abbrev first_said : Said → List Said → Said
first_said default [] = default
first_said default (x ∷ xs) = x

abbrev rest_said : List Said → List Said
rest_said [] = []
rest_said (x ∷ xs) = xs

same_head : (a b : Subject) (c d : List Subject) → said_along (a ∷ c) ≡ said_along (b ∷ d) → said a ≡ said b
same_head a b c d e = ap (first_said (said a)) e

same_rest : (a b : Subject) (c d : List Subject) → said_along (a ∷ c) ≡ said_along (b ∷ d) → said_along c ≡ said_along d
same_rest a b c d e = ap rest_said e

level_along : (c d : List Subject) → said_along c ≡ said_along d → first_level c ≡ first_level d
level_along [] [] e = refl
level_along [] (b ∷ d) e = absurd cc
level_along (a ∷ c) [] e = absurd cc
level_along (a ∷ c) (b ∷ d) e =
    ap (λ (s : Said). option_or s.level (first_level c)) (same_head a b c d e)
    ∙ ap (λ (later : Option ℕ). option_or b.priv_lvl later) (level_along c d (same_rest a b c d e))

-- what is made of who decides is the same, where it is made of that subject's lines
module _ {A : Type 0} (service : ServiceId) (by : List ServiceLine → Option A) where
  abbrev made : Option Subject → Option A
  made owner = option_and_then (λ (s : Subject). by s.services) owner

  given_along : (c d : List Subject) → said_along c ≡ said_along d → made (first_speaking service c) ≡ made (first_speaking service d)
  given_along [] [] e = refl
  given_along [] (b ∷ d) e = absurd cc
  given_along (a ∷ c) [] e = absurd cc
  given_along (a ∷ c) (b ∷ d) e =
      let same : a.services ≡ b.services = ap (λ (s : Said). s.services) (same_head a b c d e) in
      here (speaks_of service a) (speaks_of service b) (ap (λ (lines : List ServiceLine). list_any (is_about service) lines) same) same (given_along c d (same_rest a b c d e))
    where
      here : (speaks other : Bool) → speaks ≡ other → a.services ≡ b.services → made (first_speaking service c) ≡ made (first_speaking service d)
          → made (cond speaks (Some a) (first_speaking service c)) ≡ made (cond other (Some b) (first_speaking service d))
      here true true is same later = ap by same
      here true false is same later = absurd cc
      here false true is same later = absurd cc
      here false false is same later = later

-- two users who are there, and along whose chains the same is said
module _ (old new : List Subject) (name : List ℕ) (a b : Subject) (was : find_subject (user_id name) old ≡ Some a) (is : find_subject (user_id name) new ≡ Some b)
    (same : said_along (chain old a) ≡ said_along (chain new b)) where
  speaking_old : (service : ServiceId) → speaking old name service ≡ first_speaking service (chain old a)
  speaking_old service = ap (option_and_then (λ user. first_speaking service (chain old user))) was

  speaking_new : (service : ServiceId) → speaking new name service ≡ first_speaking service (chain new b)
  speaking_new service = ap (option_and_then (λ user. first_speaking service (chain new user))) is

  pub same_services : (service : ServiceId) → service_arguments old name service ≡ service_arguments new name service
  same_services service =
      ap (option_and_then (given_by service)) (speaking_old service)
      ∙ given_along service (λ lines. given_by service (record a { services = lines })) (chain old a) (chain new b) same
      ∙ sym (ap (option_and_then (given_by service)) (speaking_new service))

  abbrev some_or_none : Option (List (List ℕ)) → List (List ℕ)
  some_or_none attributes = option_map_or (λ list. list) attributes []

  attributes_by : (owner : Option Subject) → option_map_or (attributes_of the_shell) owner [] ≡ some_or_none (option_and_then (λ s. Some (attributes_of the_shell s)) owner)
  attributes_by None = refl
  attributes_by (Some s) = refl

  same_attributes : shell_attributes old name ≡ shell_attributes new name
  same_attributes =
      ap (λ (owner : Option Subject). option_map_or (attributes_of the_shell) owner []) (speaking_old the_shell)
      ∙ attributes_by (first_speaking the_shell (chain old a))
      ∙ ap some_or_none (given_along the_shell (λ lines. Some (attributes_of the_shell (record a { services = lines }))) (chain old a) (chain new b) same)
      ∙ sym (attributes_by (first_speaking the_shell (chain new b)))
      ∙ sym (ap (λ (owner : Option Subject). option_map_or (attributes_of the_shell) owner []) (speaking_new the_shell))

  same_level : level_of old (user_id name) ≡ level_of new (user_id name)
  same_level =
      ap (option_and_then (λ subject. first_level (chain old subject))) was
      ∙ level_along (chain old a) (chain new b) same
      ∙ sym (ap (option_and_then (λ subject. first_level (chain new subject))) is)

  pub same_shell : shell_arguments old name ≡ shell_arguments new name
  same_shell =
      ap (λ (level : Option ℕ). level_arguments level ++ shell_attributes old name) same_level
      ∙ ap (λ (attributes : List (List ℕ)). level_arguments (level_of new (user_id name)) ++ attributes) same_attributes
