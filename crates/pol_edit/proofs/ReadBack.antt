-- What is spelled so is read.
use Rattle.std.proofs.Common.{◌≡◌, ℕ, List, [], ◌∷◌, ◌++◌, Option, Some, None, codes, append-nil, append_assoc, refl, ap, ◌∙◌}
use Rattle.std.specs.Option.{option_map}
use Rattle.pol_names.specs.Name.{name_of}
use Rattle.pol_names.specs.Decision.{verdict_word}
use Rattle.pol_names.specs.declared.secret.Credential.{Credential}
use Rattle.pol_names.specs.declared.secret.Credential.TheVariants.{Login, Enable}
use Rattle.pol_names.specs.declared.subject_id.Kind.{Kind}
use Rattle.pol_names.specs.declared.subject_id.Kind.TheVariants.{Group, User}
use Rattle.pol_names.specs.declared.decision.Verdict.{Verdict}
use Rattle.pol_names.specs.declared.decision.Verdict.TheVariants.{Permit, Deny}
use Rattle.pol_names.specs.declared.subject_id.SubjectId.{SubjectId}
use Rattle.pol_edit.specs.declared.edit.Edit.{Edit}
use Rattle.pol_edit.specs.declared.edit.Edit.TheVariants.{AddGroup, AddUser, Remove, SetParent, SetLogin, SetEnable, SetHash, SetPriv, AddService, ClearService, InsertRule, RemoveRule, MoveRule}
use Rattle.pol_edit.specs.EditText.{◌>>=◌, parted, subject_of, subject_before, parent_of_text, add_edit, add_of, move_of, secret_for, hash_for, service_allowed, service_refused, service_cleared, clear_of, priv_of, insert_of, drop_of, shift_of, edit_by, edit_of}
use Rattle.pol_names.specs.SubjectId.{subject_text}
use Rattle.pol_names.specs.Service.{service_text, attributed_text, attribute_in, says_word, allowing, refusing}
use Rattle.pol_names.specs.declared.service.ServiceId.{ServiceId}
use Rattle.pol_names.specs.declared.service.Says.{Says}
use Rattle.pol_names.specs.declared.service.Says.TheVariants.{Allows, Refuses}
use Rattle.pol_names.proofs.ServiceFacts.{again as service_again, attributed_again}
use Rattle.pol_edit.specs.Spelling.{IsName, IsParent, IsService, SpellsNumber, parent_text, SpellsWords, Spells}
use Rattle.pol_edit.proofs.Spaces.{joined_4, joined_6, joined_7, split_whole, split_front, name_spaceless, number_spaceless}

name_whole : (name : List ℕ) → IsName name → parted name ≡ None
name_whole name right = split_whole name (name_spaceless name right)

name_front : (name rest : List ℕ) → IsName name → parted (name ++ 32 ∷ rest) ≡ Some (name, rest)
name_front name rest right = split_front name rest (name_spaceless name right)

number_front : (digits rest : List ℕ) (n : ℕ) → SpellsNumber digits n → parted (digits ++ 32 ∷ rest) ≡ Some (digits, rest)
number_front digits rest n right = split_front digits rest (number_spaceless digits n right)

named : (name : List ℕ) → IsName name → name_of name ≡ Some name
named name right = rw right refl

subject_whole : (kind : Kind) (name : List ℕ) → IsName name
    → subject_of (subject_text (record { kind = kind; name = name })) ≡ Some (record { kind = kind; name = name })
unfolding subject_of
subject_whole Group name right = rw (named name right) refl
subject_whole User name right = rw (named name right) refl

subject_front : (kind : Kind) (name rest : List ℕ) → IsName name
    → subject_before (subject_text (record { kind = kind; name = name }) ++ 32 ∷ rest) ≡ Some (record { kind = kind; name = name }, rest)
unfolding subject_before
subject_front Group name rest right = rw (name_front name rest right, named name right) refl
subject_front User name rest right = rw (name_front name rest right, named name right) refl

parent_named : (parent : List ℕ) → IsName parent → parent_of_text (codes "in " ++ parent) ≡ Some parent
unfolding parent_of_text
parent_named parent right = named parent right

-- ---- after the first word

add_back : (kind : Kind) (name : List ℕ) (parent : Option (List ℕ)) → IsName name → IsParent parent
    → add_of (subject_text (record { kind = kind; name = name }) ++ parent_text parent []) ≡ Some (add_edit kind name parent)
unfolding add_of
add_back Group name None right below = rw (append-nil name, name_whole name right, named name right) refl
add_back User name None right below = rw (append-nil name, name_whole name right, named name right) refl
add_back Group name (Some parent) right below = rw (name_front name (codes "in " ++ parent) right, named name right, parent_named parent below) refl
add_back User name (Some parent) right below = rw (name_front name (codes "in " ++ parent) right, named name right, parent_named parent below) refl

move_back : (subject : SubjectId) (parent : Option (List ℕ)) → IsName subject.name → IsParent parent
    → move_of (subject_text subject ++ parent_text parent (codes " out")) ≡ Some (SetParent subject parent)
unfolding move_of
move_back subject None right below = rw (subject_front subject.kind subject.name (codes "out") right) refl
move_back subject (Some parent) right below =
    rw (subject_front subject.kind subject.name (codes "in " ++ parent) right, parent_named parent below) refl

secret_back : (setting : List ℕ → Option (List ℕ) → Edit) (user text : List ℕ) → IsName user → secret_for setting (user ++ codes " " ++ text) ≡ Some (setting user (Some text))
unfolding secret_for
secret_back setting user text right = rw (append_assoc user (codes " ") text, name_front user text right, named user right) refl

hash_back : (credential : Credential) (user text : List ℕ) → IsName user → hash_for credential (user ++ 32 ∷ text) ≡ Some (SetHash user credential text)
unfolding hash_for
hash_back credential user text right = rw (name_front user text right, named user right) refl

clear_login : (user : List ℕ) → IsName user → clear_of (codes "login " ++ user) ≡ Some (SetLogin user None)
unfolding clear_of
clear_login user right = rw (named user right) refl

clear_enable : (user : List ℕ) → IsName user → clear_of (codes "enable " ++ user) ≡ Some (SetEnable user None)
unfolding clear_of
clear_enable user right = rw (named user right) refl

clear_priv : (subject : SubjectId) → IsName subject.name → clear_of (codes "priv " ++ subject_text subject) ≡ Some (SetPriv subject None)
unfolding clear_of
clear_priv subject right = rw (subject_whole subject.kind subject.name right) refl

allow_back : (subject : SubjectId) (service : ServiceId) (attribute : Option (List ℕ)) → IsName subject.name → IsService service
    → service_allowed (subject_text subject ++ 32 ∷ attributed_text service attribute) ≡ Some (AddService subject (allowing service attribute))
unfolding service_allowed
allow_back subject service attribute right known =
    rw (subject_front subject.kind subject.name (attributed_text service attribute) right, attributed_again service attribute known) refl

refuse_back : (subject : SubjectId) (service : ServiceId) → IsName subject.name → IsService service
    → service_refused (subject_text subject ++ 32 ∷ attributed_text service None) ≡ Some (AddService subject (refusing service))
unfolding service_refused
refuse_back subject service right known =
    rw (append-nil (service_text service), subject_front subject.kind subject.name (service_text service) right, service_again service known) refl

unsay_back : (subject : SubjectId) (service : ServiceId) (attribute : Option (List ℕ)) → IsName subject.name → IsService service
    → clear_of (codes "service " ++ (subject_text subject ++ 32 ∷ attributed_text service attribute)) ≡ Some (ClearService subject service attribute)
unfolding clear_of service_cleared
unsay_back subject service attribute right known =
    rw (subject_front subject.kind subject.name (attributed_text service attribute) right, attributed_again service attribute known) refl

priv_back : (subject : SubjectId) (digits : List ℕ) (level : ℕ) → IsName subject.name → SpellsNumber digits level
    → priv_of (subject_text subject ++ 32 ∷ digits) ≡ Some (SetPriv subject (Some level))
unfolding priv_of
priv_back subject digits level right number = rw (subject_front subject.kind subject.name digits right, number) refl

insert_back : (subject : SubjectId) (digits : List ℕ) (at : ℕ) (verdict : Verdict) (pattern : List ℕ) → IsName subject.name → SpellsNumber digits at
    → insert_of (subject_text subject ++ 32 ∷ (digits ++ 32 ∷ (verdict_word verdict ++ pattern))) ≡ Some (InsertRule subject at verdict pattern)
unfolding insert_of
insert_back subject digits at Permit pattern right number =
    rw (subject_front subject.kind subject.name _ right, number_front digits _ at number, number) refl
insert_back subject digits at Deny pattern right number =
    rw (subject_front subject.kind subject.name _ right, number_front digits _ at number, number) refl

drop_back : (subject : SubjectId) (digits : List ℕ) (at : ℕ) → IsName subject.name → SpellsNumber digits at
    → drop_of (subject_text subject ++ 32 ∷ digits) ≡ Some (RemoveRule subject at)
unfolding drop_of
drop_back subject digits at right number = rw (subject_front subject.kind subject.name digits right, number) refl

shift_back : (subject : SubjectId) (here there : List ℕ) (from to : ℕ) → IsName subject.name → SpellsNumber here from → SpellsNumber there to
    → shift_of (subject_text subject ++ 32 ∷ (here ++ 32 ∷ there)) ≡ Some (MoveRule subject from to)
unfolding shift_of
shift_back subject here there from to right first second =
    rw (subject_front subject.kind subject.name _ right, number_front here there from first, first, second) refl

-- ---- whole lines

abbrev by_words : List ℕ → Option Edit
by_words line = parted line >>= λ parts. edit_by parts.0 parts.1

said_back : (line : List ℕ) (subject : SubjectId) (service : ServiceId) (says : Says) → line ≡ says_word says ++ subject_text subject ++ codes " " ++ attributed_text service (attribute_in says)
    → IsName subject.name → IsService service → by_words line ≡ Some (AddService subject (record { service = service; says = says }))
unfolding edit_by
said_back line subject service (Allows attribute) e right known =
    ap by_words (e ∙ joined_4 (codes "service ") (subject_text subject) (codes " ") (attributed_text service attribute)) ∙ allow_back subject service attribute right known
said_back line subject service Refuses e right known =
    ap by_words (e ∙ joined_4 (codes "refuse ") (subject_text subject) (codes " ") (attributed_text service None)) ∙ refuse_back subject service right known

words_back : (line : List ℕ) (edit : Edit) → SpellsWords line edit → by_words line ≡ Some edit
unfolding edit_by
words_back line (AddGroup name parent) h = ap by_words (h.0 ∙ append_assoc (codes "add group ") name (parent_text parent [])) ∙ add_back Group name parent h.1 h.2
words_back line (AddUser name parent) h = ap by_words (h.0 ∙ append_assoc (codes "add user ") name (parent_text parent [])) ∙ add_back User name parent h.1 h.2
words_back line (Remove subject) h = rw h.0 (ap (option_map Remove) (subject_whole subject.kind subject.name h.1))
words_back line (SetParent subject parent) h =
    ap by_words (h.0 ∙ append_assoc (codes "move ") (subject_text subject) (parent_text parent (codes " out"))) ∙ move_back subject parent h.1 h.2
words_back line (SetLogin user (Some text)) h = rw h.0 (secret_back SetLogin user text h.1)
words_back line (SetLogin user None) h = rw h.0 (clear_login user h.1)
words_back line (SetEnable user (Some text)) h = rw h.0 (secret_back SetEnable user text h.1)
words_back line (SetEnable user None) h = rw h.0 (clear_enable user h.1)
words_back line (SetHash user Login text) h =
    ap by_words (h.0 ∙ joined_4 (codes "login-hash ") user (codes " ") text) ∙ hash_back Login user text h.1
words_back line (SetHash user Enable text) h =
    ap by_words (h.0 ∙ joined_4 (codes "enable-hash ") user (codes " ") text) ∙ hash_back Enable user text h.1
words_back line (SetPriv subject (Some level)) h =
    ap by_words (h.1 ∙ joined_4 (codes "priv ") (subject_text subject) (codes " ") h.0) ∙ priv_back subject h.0 level h.2 h.3
words_back line (SetPriv subject None) h = rw h.0 (clear_priv subject h.1)
words_back line (AddService subject said) h = said_back line subject said.service said.says h.0 h.1 h.2
words_back line (ClearService subject service attribute) h =
    ap by_words (h.0 ∙ joined_4 (codes "clear service ") (subject_text subject) (codes " ") (attributed_text service attribute)) ∙ unsay_back subject service attribute h.1 h.2
words_back line (InsertRule subject at verdict pattern) h =
    ap by_words (h.1 ∙ joined_7 (codes "insert ") (subject_text subject) (codes " ") h.0 (codes " ") (verdict_word verdict) pattern)
    ∙ insert_back subject h.0 at verdict pattern h.2 h.3
words_back line (RemoveRule subject at) h =
    ap by_words (h.1 ∙ joined_4 (codes "drop ") (subject_text subject) (codes " ") h.0) ∙ drop_back subject h.0 at h.2 h.3
words_back line (MoveRule subject from to) h =
    ap by_words (h.2 ∙ joined_6 (codes "shift ") (subject_text subject) (codes " ") h.0 (codes " ") h.1) ∙ shift_back subject h.0 h.1 from to h.3 h.4 h.5

-- what is spelled so is read
pub read_back : (line : List ℕ) (edit : Edit) → Spells line edit → edit_of line ≡ Some edit
unfolding edit_of
read_back line edit h = rw h.0 (words_back line edit h.1)
