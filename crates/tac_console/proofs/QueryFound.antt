-- A question that is read is spelled so.
use Rattle.std.proofs.Common.{◌≡◌, ℕ, Bool, true, false, cond, List, [], ◌∷◌, ◌++◌, Option, Some, None, codes, append_assoc, inl, inr, refl, sym, ap, ◌∙◌, subst}
use Rattle.std.specs.Option.{option_map, option_and_then}
use Rattle.std.specs.Str.{bytes_eq}
use Rattle.std.proofs.lemmas.Slice.Eq.{bytes_eq-Decides}
use Rattle.basics.specs.Symbol.{is_text}
use Rattle.pol_names.specs.Name.{is_name, name_of}
use Rattle.pol_names.specs.SubjectId.{kind_word}
use Rattle.pol_names.specs.Service.{service_of, service_text}
use Rattle.pol_names.proofs.ServiceFacts as services
use Rattle.pol_names.specs.declared.subject_id.Kind.{Kind}
use Rattle.pol_names.specs.declared.subject_id.Kind.TheVariants.{Group, User}
use Rattle.pol_names.specs.declared.subject_id.SubjectId.{SubjectId}
use Rattle.pol_edit.specs.EditText.{◌>>=◌, parted, kind_of, subject_of}
use Rattle.pol_names.specs.SubjectId.{subject_text}
use Rattle.pol_edit.specs.Spelling.{IsName}
use Rattle.tac_desk.specs.declared.query.Query.{Query}
use Rattle.tac_desk.specs.declared.query.Query.TheVariants.{Policy, Shadow, Reach, Tally, Why, Given, Records}
use Rattle.tac_console.specs.ConsoleText.{why, given, query_by, by_word, query_in, query_of}
use Rattle.tac_console.specs.Spelling.{SpellsWords, SpellsQuery}
use Rattle.tac_console.proofs.Spaces.{parts_joined}

-- ---- steps

abbrev pub done : {A : Type 0} → A → Option A
done x = Some x

pub done_is : {A : Type 0} (x y : A) → done x ≡ done y → x ≡ y
done_is x y e = cc

-- the value of a step that was made
bound : {A B : Type 0} (o : Option A) (f : A → Option B) (y : B) → (o >>= f) ≡ Some y → (x : A) × (o ≡ Some x) × (f x ≡ Some y)
bound (Some x) f y e = (x, refl, e)
bound None f y e = absurd cc

chained : {A B : Type 0} (o : Option A) (f : A → Option B) (y : B) → option_and_then f o ≡ Some y → (x : A) × (o ≡ Some x) × (f x ≡ Some y)
chained (Some x) f y e = (x, refl, e)
chained None f y e = absurd cc

mapped : {A B : Type 0} (o : Option A) (f : A → B) (y : B) → option_map f o ≡ Some y → (x : A) × (o ≡ Some x) × (f x ≡ y)
mapped (Some x) f y e = (x, refl, done_is (f x) y e)
mapped None f y e = absurd cc

-- a test decides
pub choice : {A : Type 0} (G : Type 0) (b : Bool) (x y z : A) → cond b x y ≡ z → (b ≡ true → x ≡ z → G) → (y ≡ z → G) → G
choice G true x y z e here next = here refl e
choice G false x y z e here next = next e

pub word_is : (word wanted : List ℕ) → bytes_eq word wanted ≡ true → word ≡ wanted
word_is word wanted e = (bytes_eq-Decides word wanted).0 e

-- ---- fields

name_found : (text name : List ℕ) → name_of text ≡ Some name → (text ≡ name) × IsName name
name_found text name e =
    choice _ (is_name text) (done text) None (done name) e
    (λ right made. let same = done_is text name made in (same, subst IsName same right))
    (λ none. absurd cc)

kind_found : (word rest : List ℕ) (kind : Kind) → kind_of word ≡ Some kind → word ++ 32 ∷ rest ≡ kind_word kind ++ rest
kind_found word rest kind e =
    choice _ (bytes_eq word (codes "group")) (done Group) _ (done kind) e
    (λ is made. ap (λ (w : List ℕ). w ++ 32 ∷ rest) (word_is word (codes "group") is) ∙ ap (λ (k : Kind). kind_word k ++ rest) (done_is Group kind made))
    (λ other. choice _ (bytes_eq word (codes "user")) (done User) None (done kind) other
    (λ is made. ap (λ (w : List ℕ). w ++ 32 ∷ rest) (word_is word (codes "user") is) ∙ ap (λ (k : Kind). kind_word k ++ rest) (done_is User kind made))
    (λ none. absurd cc))

subject_found : (text : List ℕ) (subject : SubjectId) → subject_of text ≡ Some subject → (text ≡ subject_text subject) × IsName subject.name
unfolding subject_of
subject_found text subject e =
    let parts = bound (parted text) _ subject e in
    let kind = bound (kind_of parts.0.0) _ subject parts.2 in
    let name = bound (name_of parts.0.1) _ subject kind.2 in
    let named = name_found parts.0.1 name.0 name.1 in
    let made : SubjectId = record { kind = kind.0; name = name.0 } in
    let same : made ≡ subject = done_is made subject name.2 in
    let line : text ≡ subject_text made =
    parts_joined text parts.0.0 parts.0.1 parts.1 ∙ kind_found parts.0.0 parts.0.1 kind.0 kind.1 ∙ ap (λ (t : List ℕ). kind_word kind.0 ++ t) named.0 in
    (line ∙ ap subject_text same, subst (λ (s : SubjectId). IsName s.name) same named.1)

-- ---- questions

-- the line is the one that spells the question which was made
respelled : (line spelled : List ℕ) (query made : Query) → line ≡ spelled → made ≡ query → SpellsWords spelled made → SpellsWords line query
respelled line spelled query made same is h =
    subst (λ (q : Query). SpellsWords line q) is (subst (λ (l : List ℕ). SpellsWords l made) (sym same) h)

why_found : (rest : List ℕ) (parts : Option (List ℕ × List ℕ)) (query : Query) → parted rest ≡ parts → why rest parts ≡ Some query
    → SpellsWords (codes "why " ++ rest) query
why_found rest None query split e =
    let user = mapped (name_of rest) (λ user. Why user []) query e in
    let named = name_found rest user.0 user.1 in
    respelled _ (codes "why " ++ user.0) query (Why user.0 []) (ap (λ (t : List ℕ). codes "why " ++ t) named.0) user.2 (inr (refl, refl), named.1)
why_found rest (Some parts) query split e =
    let user = mapped (name_of parts.0) (λ user. Why user parts.1) query e in
    let named = name_found parts.0 user.0 user.1 in
    let spaced : codes "why " ++ (user.0 ++ 32 ∷ parts.1) ≡ codes "why " ++ user.0 ++ codes " " ++ parts.1 = simp append_assoc in
    respelled _ (codes "why " ++ user.0 ++ codes " " ++ parts.1) query (Why user.0 parts.1)
    (ap (λ (t : List ℕ). codes "why " ++ t) (parts_joined rest parts.0 parts.1 split ∙ ap (λ (n : List ℕ). n ++ 32 ∷ parts.1) named.0) ∙ spaced)
    user.2 (inl refl, named.1)

given_found : (rest : List ℕ) (parts : Option (List ℕ × List ℕ)) (query : Query) → parted rest ≡ parts → given parts ≡ Some query
    → SpellsWords (codes "given " ++ rest) query
given_found rest None query split e = absurd cc
given_found rest (Some parts) query split e =
    let user = chained (name_of parts.0) (λ user. option_map (Given user) (service_of parts.1)) query e in
    let service = mapped (service_of parts.1) (Given user.0) query user.2 in
    let named = name_found parts.0 user.0 user.1 in
    let may = services.found parts.1 service.0 service.1 in
    let spaced : codes "given " ++ (user.0 ++ 32 ∷ service_text service.0) ≡ codes "given " ++ user.0 ++ codes " " ++ service_text service.0 = simp append_assoc in
    respelled _ (codes "given " ++ user.0 ++ codes " " ++ service_text service.0) query (Given user.0 service.0)
    (ap (λ (t : List ℕ). codes "given " ++ t) (parts_joined rest parts.0 parts.1 split ∙ ap (λ (n : List ℕ). n ++ 32 ∷ parts.1) named.0 ∙ ap (λ (t : List ℕ). user.0 ++ 32 ∷ t) may.1) ∙ spaced)
    service.2 (refl, named.1, may.0)

by_found : (word rest : List ℕ) (query : Query) → query_by word rest ≡ Some query → SpellsWords (word ++ 32 ∷ rest) query
by_found word rest query e =
    choice _ (bytes_eq word (codes "tally")) (option_map Tally (subject_of rest)) _ (done query) e
    (λ is made.
    let subject = mapped (subject_of rest) Tally query made in
    let named = subject_found rest subject.0 subject.1 in
    respelled _ (codes "tally " ++ subject_text subject.0) query (Tally subject.0)
    (ap (λ (w : List ℕ). w ++ 32 ∷ rest) (word_is word (codes "tally") is) ∙ ap (λ (t : List ℕ). codes "tally " ++ t) named.0) subject.2 (refl, named.1))
    (λ other. choice _ (bytes_eq word (codes "reach")) (option_map Reach (subject_of rest)) _ (done query) other
    (λ is made.
    let subject = mapped (subject_of rest) Reach query made in
    let named = subject_found rest subject.0 subject.1 in
    respelled _ (codes "reach " ++ subject_text subject.0) query (Reach subject.0)
    (ap (λ (w : List ℕ). w ++ 32 ∷ rest) (word_is word (codes "reach") is) ∙ ap (λ (t : List ℕ). codes "reach " ++ t) named.0) subject.2 (refl, named.1))
    (λ other. choice _ (bytes_eq word (codes "why")) (why rest (parted rest)) _ (done query) other
    (λ is made. subst (λ (w : List ℕ). SpellsWords (w ++ 32 ∷ rest) query) (sym (word_is word (codes "why") is)) (why_found rest (parted rest) query refl made))
    (λ other. choice _ (bytes_eq word (codes "given")) (given (parted rest)) None (done query) other
    (λ is made. subst (λ (w : List ℕ). SpellsWords (w ++ 32 ∷ rest) query) (sym (word_is word (codes "given") is)) (given_found rest (parted rest) query refl made))
    (λ none. absurd cc))))

word_found : (line : List ℕ) (parts : Option (List ℕ × List ℕ)) (query : Query) → parted line ≡ parts → by_word parts ≡ Some query → SpellsWords line query
word_found line None query split e = absurd cc
word_found line (Some parts) query split e =
    subst (λ (l : List ℕ). SpellsWords l query) (sym (parts_joined line parts.0 parts.1 split)) (by_found parts.0 parts.1 query e)

words_found : (line : List ℕ) (query : Query) → query_in line ≡ Some query → SpellsWords line query
words_found line query e =
    choice _ (bytes_eq line (codes "policy")) (done Policy) _ (done query) e
    (λ is made. respelled line (codes "policy") query Policy (word_is line (codes "policy") is) (done_is Policy query made) refl)
    (λ other. choice _ (bytes_eq line (codes "shadow")) (done Shadow) _ (done query) other
    (λ is made. respelled line (codes "shadow") query Shadow (word_is line (codes "shadow") is) (done_is Shadow query made) refl)
    (λ other. choice _ (bytes_eq line (codes "records")) (done Records) _ (done query) other
    (λ is made. respelled line (codes "records") query Records (word_is line (codes "records") is) (done_is Records query made) refl)
    (word_found line (parted line) query refl)))

pub query_found : (line : List ℕ) (query : Query) → query_of line ≡ Some query → SpellsQuery line query
unfolding query_of
query_found line query e =
    choice _ (is_text line) (query_in line) None (done query) e
    (λ symbols made. (symbols, words_found line query made))
    (λ none. absurd cc)
