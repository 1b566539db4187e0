-- Policies of which all subjects are the same but for their secrets and rules.
use Rattle.std.proofs.Common.{◌≡◌, ℕ, zero, suc, ◌+◌, ◌<◌, ◌≤◌, arith, Bool, true, false, cond, List, [], ◌∷◌, length, drop, drop-cons, get_or, add-one, Option, None, Some, refl, sym, ap, ◌∙◌}
use Rattle.std.specs.Option.{option_and_then, option_map, option_map_or}
use Rattle.pol_names.specs.SubjectId.{same_id, user_id, group_id}
use Rattle.pol_names.specs.declared.subject_id.SubjectId.{SubjectId}
use Rattle.pol_names.specs.declared.service.ServiceId.{ServiceId}
use Rattle.pol_text.specs.declared.subject.Subject.{Subject}
use Rattle.pol_text.specs.Policy.{id_of, find_subject, parent_of, chain, chain_within}
use Rattle.pol_given.specs.Given.{service_arguments, shell_arguments}
use Rattle.pol_given.specs.Saying.{Said, said, said_along}
use Rattle.pol_given.proofs.SayingFacts.{same_services, same_shell}
use Rattle.pol_report.specs.Saying.{Stand, stand, stands}

abbrev first_stand : Stand → List Stand → Stand
first_stand default [] = default
first_stand default (x ∷ xs) = x

abbrev rest_stands : List Stand → List Stand
rest_stands [] = []
rest_stands (x ∷ xs) = xs

same_first : (a b : Subject) (c d : List Subject) → stands (a ∷ c) ≡ stands (b ∷ d) → stand a ≡ stand b
same_first a b c d e = ap (first_stand (stand a)) e

same_rest : (a b : Subject) (c d : List Subject) → stands (a ∷ c) ≡ stands (b ∷ d) → stands c ≡ stands d
same_rest a b c d e = ap rest_stands e

-- who is found under an id
abbrev found : SubjectId → List Subject → Option Stand
found id policy = option_map stand (find_subject id policy)

same_found : (id : SubjectId) (old new : List Subject) → stands old ≡ stands new → found id old ≡ found id new
same_found id [] [] e = refl
same_found id [] (b ∷ new) e = absurd cc
same_found id (a ∷ old) [] e = absurd cc
same_found id (a ∷ old) (b ∷ new) e =
    let here : stand a ≡ stand b = same_first a b old new e in
    by (same_id id (id_of a)) (same_id id (id_of b)) (ap (λ (s : Stand). same_id id s.id) here) here (same_found id old new (same_rest a b old new e))
  where
    by : (p q : Bool) → p ≡ q → stand a ≡ stand b → found id old ≡ found id new
        → option_map stand (cond p (Some a) (find_subject id old)) ≡ option_map stand (cond q (Some b) (find_subject id new))
    by true true is here later = ap Some here
    by true false is here later = absurd cc
    by false true is here later = absurd cc
    by false false is here later = later

module _ (old new : List Subject) (same : stands old ≡ stands new) where
  abbrev parent_in : List Subject → Option (List ℕ) → Option Stand
  parent_in policy name = option_map stand (option_and_then (λ name. find_subject (group_id name) policy) name)

  same_parent : (name : Option (List ℕ)) → parent_in old name ≡ parent_in new name
  same_parent None = refl
  same_parent (Some name) = same_found (group_id name) old new same

  above : (n : ℕ) → ((c d : Subject) → stand c ≡ stand d → said_along (chain_within n old c) ≡ said_along (chain_within n new d)) → (p q : Option Subject) → option_map stand p ≡ option_map stand q
      → said_along (option_map_or (chain_within n old) p []) ≡ said_along (option_map_or (chain_within n new) q [])
  above n chains None None e = refl
  above n chains None (Some d) e = absurd cc
  above n chains (Some c) None e = absurd cc
  above n chains (Some c) (Some d) e = chains c d (cc)

  along : (n : ℕ) (a b : Subject) → stand a ≡ stand b → said_along (chain_within n old a) ≡ said_along (chain_within n new b)
  unfolding chain_within
  along zero a b here = refl
  along (suc n) a b here =
      let parents : option_map stand (parent_of old a) ≡ option_map stand (parent_of new b) =
      ap (λ (s : Stand). parent_in old s.parent) here ∙ same_parent b.parent in
      ap (λ (s : Stand). s.said ∷ said_along (option_map_or (chain_within n old) (parent_of old a) [])) here
      ∙ ap (λ (rest : List Said). said b ∷ rest) (above n (along n) (parent_of old a) (parent_of new b) parents)

  both : (c d : Subject) → option_map stand (Some c) ≡ option_map stand (Some d) → said_along (chain old c) ≡ said_along (chain new d)
  both c d e = along 8 c d (cc)

  -- so the same is given
  pub alike_services : (name : List ℕ) (service : ServiceId) → service_arguments old name service ≡ service_arguments new name service
  alike_services name service = by (find_subject (user_id name) old) refl (find_subject (user_id name) new) refl (same_found (user_id name) old new same)
    where
      by : (p : Option Subject) → find_subject (user_id name) old ≡ p → (q : Option Subject) → find_subject (user_id name) new ≡ q → option_map stand p ≡ option_map stand q
          → service_arguments old name service ≡ service_arguments new name service
      by None was None is e = rw (was, is) refl
      by None was (Some d) is e = absurd cc
      by (Some c) was None is e = absurd cc
      by (Some c) was (Some d) is e = same_services old new name c d was is (both c d e) service

  pub alike_shell : (name : List ℕ) → shell_arguments old name ≡ shell_arguments new name
  alike_shell name = by (find_subject (user_id name) old) refl (find_subject (user_id name) new) refl (same_found (user_id name) old new same)
    where
      by : (p : Option Subject) → find_subject (user_id name) old ≡ p → (q : Option Subject) → find_subject (user_id name) new ≡ q → option_map stand p ≡ option_map stand q
          → shell_arguments old name ≡ shell_arguments new name
      by None was None is e = rw (was, is) refl
      by None was (Some d) is e = absurd cc
      by (Some c) was None is e = absurd cc
      by (Some c) was (Some d) is e = same_shell old new name c d was is (both c d e)

-- ---- one subject after another

-- those from a place on are alike if this one is, and those after it are
pub alike_at : (old new : List Subject) (i : ℕ) (a b : Subject) → i < length old → i < length new → get_or old i a ≡ a → get_or new i b ≡ b → stand a ≡ stand b
    → stands (drop (i + 1) old) ≡ stands (drop (i + 1) new) → stands (drop i old) ≡ stands (drop i new)
alike_at old new i a b lt less at is here later =
    ap stands (front old i a lt at) ∙ ap (λ (s : Stand). s ∷ stands (drop (i + 1) old)) here ∙ ap (λ (rest : List Stand). stand b ∷ rest) later ∙ sym (ap stands (front new i b less is))
  where
    front : (subjects : List Subject) (i : ℕ) (s : Subject) → i < length subjects → get_or subjects i s ≡ s → drop i subjects ≡ s ∷ drop (i + 1) subjects
    front subjects i s lt at = drop-cons subjects i s lt ∙ ap (λ (x : Subject). x ∷ drop (suc i) subjects) at ∙ ap (λ (n : ℕ). s ∷ drop n subjects) (sym (add-one i))

pub none_left : (old new : List Subject) (i : ℕ) → length old ≤ i → length new ≤ i → stands (drop i old) ≡ stands (drop i new)
none_left old new i past over = ap stands (past_end old i past ∙ sym (past_end new i over))
  where
    past_end : (subjects : List Subject) (i : ℕ) → length subjects ≤ i → drop i subjects ≡ []
    past_end [] zero le = refl
    past_end [] (suc i) le = refl
    past_end (x ∷ subjects) zero le = absurd (omega arith)
    past_end (x ∷ subjects) (suc i) le = past_end subjects i (omega arith)
