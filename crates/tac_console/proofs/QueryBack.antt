-- A question that is spelled so is read.
use Rattle.std.proofs.Common.{◌≡◌, ℕ, List, [], ◌∷◌, ◌++◌, Some, None, codes, append_assoc, inl, inr, refl, ap, ◌∙◌}
use Rattle.std.specs.Option.{option_map}
use Rattle.pol_names.specs.Name.{name_of}
use Rattle.pol_names.specs.declared.subject_id.Kind.{Kind}
use Rattle.pol_names.specs.declared.subject_id.Kind.TheVariants.{Group, User}
use Rattle.pol_edit.specs.EditText.{parted, subject_of}
use Rattle.pol_names.specs.SubjectId.{subject_text}
use Rattle.pol_names.specs.Service.{service_text}
use Rattle.pol_names.specs.declared.service.ServiceId.{ServiceId}
use Rattle.pol_names.proofs.ServiceFacts.{again}
use Rattle.pol_edit.specs.Spelling.{IsName, IsService}
use Rattle.tac_desk.specs.declared.query.Query.{Query}
use Rattle.tac_desk.specs.declared.query.Query.TheVariants.{Policy, Shadow, Reach, Tally, Why, Given, Records}
use Rattle.tac_console.specs.ConsoleText.{query_in, query_of}
use Rattle.tac_console.specs.Spelling.{SpellsWords, SpellsQuery}
use Rattle.tac_console.proofs.Spaces.{split_whole, split_front, name_spaceless}

named : (name : List ℕ) → IsName name → name_of name ≡ Some name
named name right = rw right refl

name_whole : (name : List ℕ) → IsName name → parted name ≡ None
name_whole name right = split_whole 32 name (name_spaceless name right)

name_front : (name rest : List ℕ) → IsName name → parted (name ++ 32 ∷ rest) ≡ Some (name, rest)
name_front name rest right = split_front 32 name rest (name_spaceless name right)

subject_back : (kind : Kind) (name : List ℕ) → IsName name
    → subject_of (subject_text (record { kind = kind; name = name })) ≡ Some (record { kind = kind; name = name })
unfolding subject_of
subject_back Group name right = rw (named name right) refl
subject_back User name right = rw (named name right) refl

why_back : (user text : List ℕ) → IsName user → query_in (codes "why " ++ (user ++ 32 ∷ text)) ≡ Some (Why user text)
why_back user text right = rw (name_front user text right, named user right) refl

joined : (user text : List ℕ) → codes "why " ++ user ++ codes " " ++ text ≡ codes "why " ++ (user ++ 32 ∷ text)
joined user text = simp append_assoc

why_alone : (user : List ℕ) → IsName user → query_in (codes "why " ++ user) ≡ Some (Why user [])
why_alone user right = rw (name_whole user right, named user right) refl

given_back : (user : List ℕ) (service : ServiceId) → IsName user → IsService service
    → query_in (codes "given " ++ (user ++ 32 ∷ service_text service)) ≡ Some (Given user service)
given_back user service right may = rw (name_front user (service_text service) right, named user right, again service may) refl

given_joined : (user text : List ℕ) → codes "given " ++ user ++ codes " " ++ text ≡ codes "given " ++ (user ++ 32 ∷ text)
given_joined user text = simp append_assoc

words_back : (line : List ℕ) (query : Query) → SpellsWords line query → query_in line ≡ Some query
words_back line Policy h = rw h refl
words_back line Shadow h = rw h refl
words_back line (Reach subject) h = rw h.0 (ap (option_map Reach) (subject_back subject.kind subject.name h.1))
words_back line (Tally subject) h = rw h.0 (ap (option_map Tally) (subject_back subject.kind subject.name h.1))
words_back line (Why user text) h = elim h.0 [
  | inl spaced ↦ ap query_in (spaced ∙ joined user text) ∙ why_back user text h.1
  | inr alone ↦ ap query_in alone.0 ∙ why_alone user h.1 ∙ ap (λ (t : List ℕ). Some (Why user t)) (rw alone.1 refl)
]
words_back line (Given user service) h = ap query_in (h.0 ∙ given_joined user (service_text service)) ∙ given_back user service h.1 h.2
words_back line Records h = rw h refl

pub query_back : (line : List ℕ) (query : Query) → SpellsQuery line query → query_of line ≡ Some query
unfolding query_of
query_back line query h = rw h.0 (words_back line query h.1)
