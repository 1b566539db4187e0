-- What is read is spelled so.
use Rattle.std.proofs.Common.{◌≡◌, ℕ, Bool, true, false, cond, List, [], ◌∷◌, ◌++◌, Option, Some, None, codes, append-nil, append_assoc, refl, sym, ap, ◌∙◌, subst}
use Rattle.std.specs.Option.{option_map}
use Rattle.std.specs.Str.{bytes_eq}
use Rattle.std.proofs.lemmas.Slice.Eq.{bytes_eq-Decides}
use Rattle.basics.specs.Symbol.{is_text}
use Rattle.pol_names.specs.Name.{is_name, name_of}
use Rattle.pol_names.specs.SubjectId.{kind_word, subject_text}
use Rattle.pol_names.specs.Decision.{verdict_word}
use Rattle.pol_names.specs.Secret.{hash_word}
use Rattle.pol_names.specs.Service.{service_of, service_text, attributed_of, attributed_text, allowing, refusing}
use Rattle.pol_names.proofs.ServiceFacts.{found as service_found, attributed_found}
use Rattle.pol_names.specs.declared.secret.Credential.{Credential}
use Rattle.pol_names.specs.declared.secret.Credential.TheVariants.{Login, Enable}
use Rattle.pol_names.specs.declared.subject_id.Kind.{Kind}
use Rattle.pol_names.specs.declared.subject_id.Kind.TheVariants.{Group, User}
use Rattle.pol_names.specs.declared.decision.Verdict.{Verdict}
use Rattle.pol_names.specs.declared.decision.Verdict.TheVariants.{Permit, Deny}
use Rattle.pol_names.specs.declared.subject_id.SubjectId.{SubjectId}
use Rattle.pol_edit.specs.declared.edit.Edit.{Edit}
use Rattle.pol_edit.specs.declared.edit.Edit.TheVariants.{Remove, SetParent, SetLogin, SetEnable, SetHash, SetPriv, AddService, ClearService, InsertRule, RemoveRule, MoveRule}
use Rattle.pol_edit.specs.EditText.{◌>>=◌, parted, kind_of, verdict_of, count_of, subject_of, subject_before, parent_of_text, add_edit, added, add_of, move_of, secret_for, hash_for, service_allowed, service_refused, service_cleared, setting_cleared, clear_of, priv_of, insert_of, drop_of, shift_of, edit_by, edit_of}
use Rattle.pol_edit.specs.Spelling.{IsName, IsParent, parent_text, SpellsWords, Spells}
use Rattle.pol_edit.proofs.Spaces.{joined_4, joined_6, joined_7, parts_joined}

-- ---- steps

abbrev done : {A : Type 0} → A → Option A
done x = Some x

done_is : {A : Type 0} (x y : A) → done x ≡ done y → x ≡ y
done_is x y e = cc

-- the value of a step that was made
bound : {A B : Type 0} (o : Option A) (f : A → Option B) (y : B) → (o >>= f) ≡ Some y → (x : A) × (o ≡ Some x) × (f x ≡ Some y)
bound (Some x) f y e = (x, refl, e)
bound None f y e = absurd cc

mapped : {A B : Type 0} (o : Option A) (f : A → B) (y : B) → option_map f o ≡ Some y → (x : A) × (o ≡ Some x) × (f x ≡ y)
mapped (Some x) f y e = (x, refl, done_is (f x) y e)
mapped None f y e = absurd cc

-- a word decides
choice : {A : Type 0} (G : Type 0) (b : Bool) (x y z : A) → cond b x y ≡ z → (b ≡ true → x ≡ z → G) → (y ≡ z → G) → G
choice G true x y z e here next = here refl e
choice G false x y z e here next = next e

word_is : (word wanted : List ℕ) → bytes_eq word wanted ≡ true → word ≡ wanted
word_is word wanted e = (bytes_eq-Decides word wanted).0 e

respell : (line spelled : List ℕ) (edit made : Edit) → line ≡ spelled → made ≡ edit → SpellsWords spelled made → SpellsWords line edit
respell line spelled edit made same is h =
    subst (λ (e : Edit). SpellsWords line e) is (subst (λ (l : List ℕ). SpellsWords l made) (sym same) h)

-- ---- fields

parted_at : (text : List ℕ) (parts : List ℕ × List ℕ) → parted text ≡ Some parts → text ≡ parts.0 ++ 32 ∷ parts.1
parted_at text parts e = parts_joined text parts.0 parts.1 e

name_found : (text name : List ℕ) → name_of text ≡ Some name → (text ≡ name) × IsName name
name_found text name e =
    choice _ (is_name text) (done text) None (done name) e
    (λ right made. let same = done_is text name made in (same, subst IsName same right))
    (λ none. absurd cc)

kind_found : (word rest : List ℕ) (kind : Kind) → kind_of word ≡ Some kind → word ++ 32 ∷ rest ≡ kind_word kind ++ rest
kind_found word rest kind e =
    choice _ (bytes_eq word (codes "group")) (done Group) _ (done kind) e
    (λ is made. ap (λ (w : List ℕ). w ++ 32 ∷ rest) (word_is word (codes "group") is) ∙ ap (λ (k : Kind). kind_word k ++ rest) (done_is Group kind made))
    (λ other. choice _ (bytes_eq word (codes "user")) (done User) None (done kind) other
    (λ is made. ap (λ (w : List ℕ). w ++ 32 ∷ rest) (word_is word (codes "user") is) ∙ ap (λ (k : Kind). kind_word k ++ rest) (done_is User kind made))
    (λ none. absurd cc))

verdict_found : (word rest : List ℕ) (verdict : Verdict) → verdict_of word ≡ Some verdict → word ++ 32 ∷ rest ≡ verdict_word verdict ++ rest
verdict_found word rest verdict e =
    choice _ (bytes_eq word (codes "permit")) (done Permit) _ (done verdict) e
    (λ is made. ap (λ (w : List ℕ). w ++ 32 ∷ rest) (word_is word (codes "permit") is) ∙ ap (λ (v : Verdict). verdict_word v ++ rest) (done_is Permit verdict made))
    (λ other. choice _ (bytes_eq word (codes "deny")) (done Deny) None (done verdict) other
    (λ is made. ap (λ (w : List ℕ). w ++ 32 ∷ rest) (word_is word (codes "deny") is) ∙ ap (λ (v : Verdict). verdict_word v ++ rest) (done_is Deny verdict made))
    (λ none. absurd cc))

subject_found : (text : List ℕ) (subject : SubjectId) → subject_of text ≡ Some subject → (text ≡ subject_text subject) × IsName subject.name
unfolding subject_of
subject_found text subject e =
    let parts = bound (parted text) _ subject e in
    let kind = bound (kind_of parts.0.0) _ subject parts.2 in
    let name = bound (name_of parts.0.1) _ subject kind.2 in
    let named = name_found parts.0.1 name.0 name.1 in
    let made : SubjectId = record { kind = kind.0; name = name.0 } in
    let same : made ≡ subject = done_is made subject name.2 in
    let line : text ≡ subject_text made =
    parted_at text parts.0 parts.1 ∙ kind_found parts.0.0 parts.0.1 kind.0 kind.1 ∙ ap (λ (t : List ℕ). kind_word kind.0 ++ t) named.0 in
    (line ∙ ap subject_text same, subst (λ (s : SubjectId). IsName s.name) same named.1)

front_found : (text : List ℕ) (front : SubjectId × List ℕ) → subject_before text ≡ Some front → (text ≡ subject_text front.0 ++ 32 ∷ front.1) × IsName front.0.name
unfolding subject_before
front_found text front e =
    let parts = bound (parted text) _ front e in
    let kind = bound (kind_of parts.0.0) _ front parts.2 in
    let ends = bound (parted parts.0.1) _ front kind.2 in
    let name = bound (name_of ends.0.0) _ front ends.2 in
    let named = name_found ends.0.0 name.0 name.1 in
    let made : SubjectId × List ℕ = (record { kind = kind.0; name = name.0 }, ends.0.1) in
    let same : made ≡ front = done_is made front name.2 in
    let line : text ≡ subject_text made.0 ++ 32 ∷ made.1 =
    parted_at text parts.0 parts.1 ∙ kind_found parts.0.0 parts.0.1 kind.0 kind.1
    ∙ ap (λ (t : List ℕ). kind_word kind.0 ++ t) (parted_at parts.0.1 ends.0 ends.1 ∙ ap (λ (n : List ℕ). n ++ 32 ∷ ends.0.1) named.0)
    ∙ sym (append_assoc (kind_word kind.0) name.0 (32 ∷ ends.0.1)) in
    (line ∙ ap (λ (f : SubjectId × List ℕ). subject_text f.0 ++ 32 ∷ f.1) same, subst (λ (f : SubjectId × List ℕ). IsName f.0.name) same named.1)

parent_found : (text parent : List ℕ) → parent_of_text text ≡ Some parent → (text ≡ codes "in " ++ parent) × IsName parent
unfolding parent_of_text
parent_found text parent e =
    let parts = bound (parted text) _ parent e in
    choice _ (bytes_eq parts.0.0 (codes "in")) (name_of parts.0.1) None (done parent) parts.2
    (λ is made.
    let named = name_found parts.0.1 parent made in
    (parted_at text parts.0 parts.1 ∙ ap (λ (w : List ℕ). w ++ 32 ∷ parts.0.1) (word_is parts.0.0 (codes "in") is) ∙ ap (λ (t : List ℕ). codes "in " ++ t) named.0, named.1))
    (λ none. absurd cc)

-- ---- after the first word

add_spells : (kind : Kind) (name : List ℕ) (parent : Option (List ℕ)) → IsName name → IsParent parent
    → SpellsWords (codes "add " ++ (kind_word kind ++ (name ++ parent_text parent []))) (add_edit kind name parent)
add_spells Group name parent right below = (refl, right, below)
add_spells User name parent right below = (refl, right, below)

added_found : (kind : Kind) (text : List ℕ) (parts : Option (List ℕ × List ℕ)) (edit : Edit) → parted text ≡ parts → added kind text parts ≡ Some edit
    → SpellsWords (codes "add " ++ (kind_word kind ++ text)) edit
added_found kind text None edit whole e =
    let name = mapped (name_of text) (λ name. add_edit kind name None) edit e in
    let named = name_found text name.0 name.1 in
    respell _ (codes "add " ++ (kind_word kind ++ (name.0 ++ []))) edit (add_edit kind name.0 None)
    (ap (λ (t : List ℕ). codes "add " ++ (kind_word kind ++ t)) (named.0 ∙ sym (append-nil name.0))) name.2
    (add_spells kind name.0 None named.1 refl)
added_found kind text (Some parts) edit split e =
    let name = bound (name_of parts.0) _ edit e in
    let parent = mapped (parent_of_text parts.1) (λ parent. add_edit kind name.0 (Some parent)) edit name.2 in
    let named = name_found parts.0 name.0 name.1 in
    let below = parent_found parts.1 parent.0 parent.1 in
    respell _ (codes "add " ++ (kind_word kind ++ (name.0 ++ (codes " in " ++ parent.0)))) edit (add_edit kind name.0 (Some parent.0))
    (ap (λ (t : List ℕ). codes "add " ++ (kind_word kind ++ t)) (parted_at text parts split ∙ ap (λ (n : List ℕ). n ++ 32 ∷ parts.1) named.0 ∙ ap (λ (t : List ℕ). name.0 ++ 32 ∷ t) below.0)) parent.2
    (add_spells kind name.0 (Some parent.0) named.1 below.1)

add_found : (rest : List ℕ) (edit : Edit) → add_of rest ≡ Some edit → SpellsWords (codes "add " ++ rest) edit
unfolding add_of
add_found rest edit e =
    let parts = bound (parted rest) _ edit e in
    let kind = bound (kind_of parts.0.0) _ edit parts.2 in
    respell _ (codes "add " ++ (kind_word kind.0 ++ parts.0.1)) edit edit
    (ap (λ (t : List ℕ). codes "add " ++ t) (parted_at rest parts.0 parts.1 ∙ kind_found parts.0.0 parts.0.1 kind.0 kind.1)) refl
    (added_found kind.0 parts.0.1 (parted parts.0.1) edit refl kind.2)

remove_found : (rest : List ℕ) (edit : Edit) → option_map Remove (subject_of rest) ≡ Some edit → SpellsWords (codes "remove " ++ rest) edit
remove_found rest edit e =
    let subject = mapped (subject_of rest) Remove edit e in
    let named = subject_found rest subject.0 subject.1 in
    respell _ (codes "remove " ++ subject_text subject.0) edit (Remove subject.0) (ap (λ (t : List ℕ). codes "remove " ++ t) named.0) subject.2 (refl, named.1)

move_found : (rest : List ℕ) (edit : Edit) → move_of rest ≡ Some edit → SpellsWords (codes "move " ++ rest) edit
unfolding move_of
move_found rest edit e =
    let front = bound (subject_before rest) _ edit e in
    let named = front_found rest front.0 front.1 in
    choice _ (bytes_eq front.0.1 (codes "out")) (done (SetParent front.0.0 None)) _ (done edit) front.2
    (λ is made. respell _ (codes "move " ++ (subject_text front.0.0 ++ codes " out")) edit (SetParent front.0.0 None)
    (ap (λ (t : List ℕ). codes "move " ++ t) (named.0 ∙ ap (λ (w : List ℕ). subject_text front.0.0 ++ 32 ∷ w) (word_is front.0.1 (codes "out") is)))
    (done_is (SetParent front.0.0 None) edit made) (refl, named.1, refl))
    (λ below.
    let parent = mapped (parent_of_text front.0.1) (λ parent. SetParent front.0.0 (Some parent)) edit below in
    let there = parent_found front.0.1 parent.0 parent.1 in
    respell _ (codes "move " ++ (subject_text front.0.0 ++ (codes " in " ++ parent.0))) edit (SetParent front.0.0 (Some parent.0))
    (ap (λ (t : List ℕ). codes "move " ++ t) (named.0 ∙ ap (λ (w : List ℕ). subject_text front.0.0 ++ 32 ∷ w) there.0))
    parent.2 (refl, named.1, there.1))

secret_found : (setting : List ℕ → Option (List ℕ) → Edit) (rest : List ℕ) (edit : Edit) → secret_for setting rest ≡ Some edit
    → (user text : List ℕ) × (rest ≡ user ++ codes " " ++ text) × IsName user × (setting user (Some text) ≡ edit)
unfolding secret_for
secret_found setting rest edit e =
    let parts = bound (parted rest) _ edit e in
    let user = mapped (name_of parts.0.0) (λ user. setting user (Some parts.0.1)) edit parts.2 in
    let named = name_found parts.0.0 user.0 user.1 in
    (user.0, parts.0.1, parted_at rest parts.0 parts.1 ∙ ap (λ (n : List ℕ). n ++ 32 ∷ parts.0.1) named.0 ∙ sym (append_assoc user.0 (codes " ") parts.0.1), named.1, user.2)

login_found : (rest : List ℕ) (edit : Edit) → secret_for SetLogin rest ≡ Some edit → SpellsWords (codes "login " ++ rest) edit
login_found rest edit e =
    let found = secret_found SetLogin rest edit e in
    respell _ (codes "login " ++ (found.0 ++ codes " " ++ found.1)) edit (SetLogin found.0 (Some found.1)) (ap (λ (t : List ℕ). codes "login " ++ t) found.2) found.4 (refl, found.3)

enable_found : (rest : List ℕ) (edit : Edit) → secret_for SetEnable rest ≡ Some edit → SpellsWords (codes "enable " ++ rest) edit
enable_found rest edit e =
    let found = secret_found SetEnable rest edit e in
    respell _ (codes "enable " ++ (found.0 ++ codes " " ++ found.1)) edit (SetEnable found.0 (Some found.1)) (ap (λ (t : List ℕ). codes "enable " ++ t) found.2) found.4 (refl, found.3)

hash_found : (credential : Credential) (rest : List ℕ) (edit : Edit) → hash_for credential rest ≡ Some edit → SpellsWords (hash_word credential ++ rest) edit
unfolding hash_for
hash_found credential rest edit e =
    let parts = bound (parted rest) _ edit e in
    let joined = parted_at rest parts.0 parts.1 in
    let user = mapped (name_of parts.0.0) (λ user. SetHash user credential parts.0.1) edit parts.2 in
    let named = name_found parts.0.0 user.0 user.1 in
    respell _ (hash_word credential ++ (user.0 ++ 32 ∷ parts.0.1)) edit (SetHash user.0 credential parts.0.1)
    (ap (λ (t : List ℕ). hash_word credential ++ t) (joined ∙ ap (λ (w : List ℕ). w ++ 32 ∷ parts.0.1) named.0))
    user.2 (sym (joined_4 (hash_word credential) user.0 (codes " ") parts.0.1), named.1)

allow_found : (rest : List ℕ) (edit : Edit) → service_allowed rest ≡ Some edit → SpellsWords (codes "service " ++ rest) edit
unfolding service_allowed
allow_found rest edit e =
    let front = bound (subject_before rest) _ edit e in
    let named = front_found rest front.0 front.1 in
    let read = bound (attributed_of front.0.1) _ edit front.2 in
    let spelled = attributed_found front.0.1 read.0 read.1 in
    let made : Edit = AddService front.0.0 (allowing read.0.0 read.0.1) in
    respell _ (codes "service " ++ (subject_text front.0.0 ++ 32 ∷ attributed_text read.0.0 read.0.1)) edit made
    (ap (λ (t : List ℕ). codes "service " ++ t) (named.0 ∙ ap (λ (t : List ℕ). subject_text front.0.0 ++ 32 ∷ t) spelled.1)) (done_is made edit read.2)
    (sym (joined_4 (codes "service ") (subject_text front.0.0) (codes " ") (attributed_text read.0.0 read.0.1)), named.1, spelled.0)

refuse_found : (rest : List ℕ) (edit : Edit) → service_refused rest ≡ Some edit → SpellsWords (codes "refuse " ++ rest) edit
unfolding service_refused
refuse_found rest edit e =
    let front = bound (subject_before rest) _ edit e in
    let named = front_found rest front.0 front.1 in
    let service = mapped (service_of front.0.1) (λ service. AddService front.0.0 (refusing service)) edit front.2 in
    let spelled = service_found front.0.1 service.0 service.1 in
    let whole : front.0.1 ≡ attributed_text service.0 None = spelled.1 ∙ sym (append-nil (service_text service.0)) in
    respell _ (codes "refuse " ++ (subject_text front.0.0 ++ 32 ∷ attributed_text service.0 None)) edit (AddService front.0.0 (refusing service.0))
    (ap (λ (t : List ℕ). codes "refuse " ++ t) (named.0 ∙ ap (λ (t : List ℕ). subject_text front.0.0 ++ 32 ∷ t) whole)) service.2
    (sym (joined_4 (codes "refuse ") (subject_text front.0.0) (codes " ") (attributed_text service.0 None)), named.1, spelled.0)

unsay_found : (rest : List ℕ) (edit : Edit) → service_cleared rest ≡ Some edit → SpellsWords (codes "clear service " ++ rest) edit
unfolding service_cleared
unsay_found rest edit e =
    let front = bound (subject_before rest) _ edit e in
    let named = front_found rest front.0 front.1 in
    let read = bound (attributed_of front.0.1) _ edit front.2 in
    let spelled = attributed_found front.0.1 read.0 read.1 in
    let made : Edit = ClearService front.0.0 read.0.0 read.0.1 in
    respell _ (codes "clear service " ++ (subject_text front.0.0 ++ 32 ∷ attributed_text read.0.0 read.0.1)) edit made
    (ap (λ (t : List ℕ). codes "clear service " ++ t) (named.0 ∙ ap (λ (t : List ℕ). subject_text front.0.0 ++ 32 ∷ t) spelled.1)) (done_is made edit read.2)
    (sym (joined_4 (codes "clear service ") (subject_text front.0.0) (codes " ") (attributed_text read.0.0 read.0.1)), named.1, spelled.0)

clear_found : (rest : List ℕ) (edit : Edit) → clear_of rest ≡ Some edit → SpellsWords (codes "clear " ++ rest) edit
unfolding clear_of
clear_found rest edit e =
    let parts = bound (parted rest) _ edit e in
    let joined = parted_at rest parts.0 parts.1 in
    choice _ (bytes_eq parts.0.0 (codes "service")) (service_cleared parts.0.1) _ (done edit) parts.2
    (λ is made.
    respell _ (codes "clear service " ++ parts.0.1) edit edit
    (ap (λ (t : List ℕ). codes "clear " ++ t) (joined ∙ ap (λ (w : List ℕ). w ++ 32 ∷ parts.0.1) (word_is parts.0.0 (codes "service") is))) refl
    (unsay_found parts.0.1 edit made))
    (λ more. choice _ (bytes_eq parts.0.0 (codes "login")) (option_map (λ user. SetLogin user None) (name_of parts.0.1)) _ (done edit) more
    (λ is made.
    let user = mapped (name_of parts.0.1) (λ user. SetLogin user None) edit made in
    let named = name_found parts.0.1 user.0 user.1 in
    respell _ (codes "clear login " ++ user.0) edit (SetLogin user.0 None)
    (ap (λ (t : List ℕ). codes "clear " ++ t) (joined ∙ ap (λ (w : List ℕ). w ++ 32 ∷ parts.0.1) (word_is parts.0.0 (codes "login") is) ∙ ap (λ (t : List ℕ). codes "login " ++ t) named.0))
    user.2 (refl, named.1))
    (λ other. choice _ (bytes_eq parts.0.0 (codes "enable")) (option_map (λ user. SetEnable user None) (name_of parts.0.1)) _ (done edit) other
    (λ is made.
    let user = mapped (name_of parts.0.1) (λ user. SetEnable user None) edit made in
    let named = name_found parts.0.1 user.0 user.1 in
    respell _ (codes "clear enable " ++ user.0) edit (SetEnable user.0 None)
    (ap (λ (t : List ℕ). codes "clear " ++ t) (joined ∙ ap (λ (w : List ℕ). w ++ 32 ∷ parts.0.1) (word_is parts.0.0 (codes "enable") is) ∙ ap (λ (t : List ℕ). codes "enable " ++ t) named.0))
    user.2 (refl, named.1))
    (λ other. choice _ (bytes_eq parts.0.0 (codes "priv")) (option_map (λ subject. SetPriv subject None) (subject_of parts.0.1)) None (done edit) other
    (λ is made.
    let subject = mapped (subject_of parts.0.1) (λ subject. SetPriv subject None) edit made in
    let named = subject_found parts.0.1 subject.0 subject.1 in
    respell _ (codes "clear priv " ++ subject_text subject.0) edit (SetPriv subject.0 None)
    (ap (λ (t : List ℕ). codes "clear " ++ t) (joined ∙ ap (λ (w : List ℕ). w ++ 32 ∷ parts.0.1) (word_is parts.0.0 (codes "priv") is) ∙ ap (λ (t : List ℕ). codes "priv " ++ t) named.0))
    subject.2 (refl, named.1))
    (λ none. absurd cc))))

priv_found : (rest : List ℕ) (edit : Edit) → priv_of rest ≡ Some edit → SpellsWords (codes "priv " ++ rest) edit
unfolding priv_of
priv_found rest edit e =
    let front = bound (subject_before rest) _ edit e in
    let named = front_found rest front.0 front.1 in
    let level = mapped (count_of front.0.1) (λ level. SetPriv front.0.0 (Some level)) edit front.2 in
    respell _ (codes "priv " ++ (subject_text front.0.0 ++ 32 ∷ front.0.1)) edit (SetPriv front.0.0 (Some level.0)) (ap (λ (t : List ℕ). codes "priv " ++ t) named.0) level.2
    (front.0.1, sym (joined_4 (codes "priv ") (subject_text front.0.0) (codes " ") front.0.1), named.1, level.1)

drop_found : (rest : List ℕ) (edit : Edit) → drop_of rest ≡ Some edit → SpellsWords (codes "drop " ++ rest) edit
unfolding drop_of
drop_found rest edit e =
    let front = bound (subject_before rest) _ edit e in
    let named = front_found rest front.0 front.1 in
    let at = mapped (count_of front.0.1) (λ at. RemoveRule front.0.0 at) edit front.2 in
    respell _ (codes "drop " ++ (subject_text front.0.0 ++ 32 ∷ front.0.1)) edit (RemoveRule front.0.0 at.0) (ap (λ (t : List ℕ). codes "drop " ++ t) named.0) at.2
    (front.0.1, sym (joined_4 (codes "drop ") (subject_text front.0.0) (codes " ") front.0.1), named.1, at.1)

insert_found : (rest : List ℕ) (edit : Edit) → insert_of rest ≡ Some edit → SpellsWords (codes "insert " ++ rest) edit
unfolding insert_of
insert_found rest edit e =
    let front = bound (subject_before rest) _ edit e in
    let named = front_found rest front.0 front.1 in
    let placed = bound (parted front.0.1) _ edit front.2 in
    let at = bound (count_of placed.0.0) _ edit placed.2 in
    let ruled = bound (parted placed.0.1) _ edit at.2 in
    let verdict = bound (verdict_of ruled.0.0) _ edit ruled.2 in
    let made : Edit = InsertRule front.0.0 at.0 verdict.0 ruled.0.1 in
    let subject : List ℕ = subject_text front.0.0 in
    let rule : placed.0.1 ≡ verdict_word verdict.0 ++ ruled.0.1 = parted_at placed.0.1 ruled.0 ruled.1 ∙ verdict_found ruled.0.0 ruled.0.1 verdict.0 verdict.1 in
    let after : front.0.1 ≡ placed.0.0 ++ 32 ∷ (verdict_word verdict.0 ++ ruled.0.1) =
    parted_at front.0.1 placed.0 placed.1 ∙ ap (λ (t : List ℕ). placed.0.0 ++ 32 ∷ t) rule in
    respell _ (codes "insert " ++ (subject ++ 32 ∷ (placed.0.0 ++ 32 ∷ (verdict_word verdict.0 ++ ruled.0.1)))) edit made
    (ap (λ (t : List ℕ). codes "insert " ++ t) (named.0 ∙ ap (λ (t : List ℕ). subject ++ 32 ∷ t) after)) (done_is made edit verdict.2)
    (placed.0.0, sym (joined_7 (codes "insert ") subject (codes " ") placed.0.0 (codes " ") (verdict_word verdict.0) ruled.0.1), named.1, at.1)

shift_found : (rest : List ℕ) (edit : Edit) → shift_of rest ≡ Some edit → SpellsWords (codes "shift " ++ rest) edit
unfolding shift_of
shift_found rest edit e =
    let front = bound (subject_before rest) _ edit e in
    let named = front_found rest front.0 front.1 in
    let places = bound (parted front.0.1) _ edit front.2 in
    let from = bound (count_of places.0.0) _ edit places.2 in
    let to = bound (count_of places.0.1) _ edit from.2 in
    let made : Edit = MoveRule front.0.0 from.0 to.0 in
    let subject : List ℕ = subject_text front.0.0 in
    respell _ (codes "shift " ++ (subject ++ 32 ∷ (places.0.0 ++ 32 ∷ places.0.1))) edit made
    (ap (λ (t : List ℕ). codes "shift " ++ t) (named.0 ∙ ap (λ (t : List ℕ). subject ++ 32 ∷ t) (parted_at front.0.1 places.0 places.1))) (done_is made edit to.2)
    (places.0.0, places.0.1, sym (joined_6 (codes "shift ") subject (codes " ") places.0.0 (codes " ") places.0.1), named.1, from.1, to.1)

-- ---- whole lines

words_found : (word rest : List ℕ) (edit : Edit) → edit_by word rest ≡ Some edit → SpellsWords (word ++ 32 ∷ rest) edit
unfolding edit_by
words_found word rest edit e =
    on (codes "add") (add_of rest) _ e (add_found rest edit)
    (λ e. on (codes "remove") (option_map Remove (subject_of rest)) _ e (remove_found rest edit)
    (λ e. on (codes "move") (move_of rest) _ e (move_found rest edit)
    (λ e. on (codes "login") (secret_for SetLogin rest) _ e (login_found rest edit)
    (λ e. on (codes "enable") (secret_for SetEnable rest) _ e (enable_found rest edit)
    (λ e. on (codes "login-hash") (hash_for Login rest) _ e (hash_found Login rest edit)
    (λ e. on (codes "enable-hash") (hash_for Enable rest) _ e (hash_found Enable rest edit)
    (λ e. on (codes "service") (service_allowed rest) _ e (allow_found rest edit)
    (λ e. on (codes "refuse") (service_refused rest) _ e (refuse_found rest edit)
    (λ e. on (codes "clear") (clear_of rest) _ e (clear_found rest edit)
    (λ e. on (codes "priv") (priv_of rest) _ e (priv_found rest edit)
    (λ e. on (codes "insert") (insert_of rest) _ e (insert_found rest edit)
    (λ e. on (codes "drop") (drop_of rest) _ e (drop_found rest edit)
    (λ e. on (codes "shift") (shift_of rest) None e (shift_found rest edit)
    (λ none. absurd cc))))))))))))))
  where
    on : (wanted : List ℕ) (x y : Option Edit) → cond (bytes_eq word wanted) x y ≡ Some edit
        → (x ≡ Some edit → SpellsWords (wanted ++ 32 ∷ rest) edit) → (y ≡ Some edit → SpellsWords (word ++ 32 ∷ rest) edit) → SpellsWords (word ++ 32 ∷ rest) edit
    on wanted x y e here next =
        choice _ (bytes_eq word wanted) x y (done edit) e
        (λ is made. subst (λ (w : List ℕ). SpellsWords (w ++ 32 ∷ rest) edit) (sym (word_is word wanted is)) (here made))
        next

-- what is read is spelled so
pub spelled_so : (line : List ℕ) (edit : Edit) → edit_of line ≡ Some edit → Spells line edit
unfolding edit_of
spelled_so line edit e =
    choice _ (is_text line) (parted line >>= λ parts. edit_by parts.0 parts.1) None (done edit) e
    (λ symbols made.
    let parts = bound (parted line) _ edit made in
    (symbols, subst (λ (l : List ℕ). SpellsWords l edit) (sym (parted_at line parts.0 parts.1)) (words_found parts.0.0 parts.0.1 edit parts.2)))
    (λ none. absurd cc)
