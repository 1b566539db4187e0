-- A line is an edit, a question, a word of a batch, or none of them, in one way.
use Rattle.std.proofs.Common.{◌≡◌, ℕ, Bool, true, false, List, [], ◌∷◌, ◌++◌, Some, None, Result, Ok, Err, ◌⊎◌, codes, nat_eq, inl, inr, refl, sym, ◌∙◌, subst}
use Rattle.std.specs.List.{list_any, starts_with}
use Rattle.std.specs.Str.{bytes_eq}
use Rattle.pol_names.specs.SubjectId.{subject_text}
use Rattle.pol_names.specs.Service.{says_word, attributed_text, attribute_in}
use Rattle.pol_names.specs.declared.subject_id.SubjectId.{SubjectId}
use Rattle.pol_names.specs.declared.service.ServiceId.{ServiceId}
use Rattle.pol_names.specs.declared.service.Says.{Says}
use Rattle.pol_names.specs.declared.service.Says.TheVariants.{Allows, Refuses}
use Rattle.pol_names.specs.declared.secret.Credential.TheVariants.{Login, Enable}
use Rattle.pol_edit.specs.Spelling.{SpellsWords as SpellsEditWords, Spells as SpellsEdit}
use Rattle.pol_edit.specs.declared.edit.Edit.{Edit}
use Rattle.pol_edit.specs.declared.edit.Edit.TheVariants.{AddGroup, AddUser, Remove, SetParent, SetLogin, SetEnable, SetHash, SetPriv, AddService, ClearService, InsertRule, RemoveRule, MoveRule}
use Rattle.pol_edit.specs.declared.fault.EditFault.{EditFault}
use Rattle.pol_edit.specs.declared.fault.EditFault.TheVariants.{BadEdit, Memory}
use Rattle.tac_desk.specs.declared.query.Query.{Query}
use Rattle.tac_desk.specs.declared.query.Query.TheVariants.{Policy, Shadow, Reach, Tally, Why, Given, Records}
use Rattle.tac_console.specs.ConsoleText.{query_of, batch_word}
use Rattle.tac_console.specs.Spelling.{SpellsWords, SpellsQuery, IsBatchWord, Spells}
use Rattle.tac_console.specs.declared.asked.Asked.{Asked}
use Rattle.tac_console.specs.declared.asked.Asked.TheVariants as asks
use Rattle.tac_console.proofs.QueryFound as found
use Rattle.tac_console.proofs.QueryFound.{choice, word_is, done, done_is}
use Rattle.tac_console.proofs.QueryBack as back

-- whether a line begins as an edit does
abbrev begins_edit : List ℕ → Bool
begins_edit line =
    list_any (starts_with nat_eq line)
    (codes "add" ∷ codes "rem" ∷ codes "mov" ∷ codes "log" ∷ codes "ena" ∷ codes "ser" ∷ codes "ref" ∷ codes "cle" ∷ codes "pri" ∷ codes "ins" ∷ codes "dro" ∷ codes "shi" ∷ [])

said_begins : (line : List ℕ) (subject : SubjectId) (service : ServiceId) (says : Says) → line ≡ says_word says ++ subject_text subject ++ codes " " ++ attributed_text service (attribute_in says) → begins_edit line ≡ true
said_begins line subject service (Allows attribute) h = rw h refl
said_begins line subject service Refuses h = rw h refl

edits_begin : (line : List ℕ) (edit : Edit) → SpellsEditWords line edit → begins_edit line ≡ true
edits_begin line (AddGroup name parent) h = rw h.0 refl
edits_begin line (AddUser name parent) h = rw h.0 refl
edits_begin line (Remove subject) h = rw h.0 refl
edits_begin line (SetParent subject parent) h = rw h.0 refl
edits_begin line (SetLogin user (Some text)) h = rw h.0 refl
edits_begin line (SetLogin user None) h = rw h.0 refl
edits_begin line (SetEnable user (Some text)) h = rw h.0 refl
edits_begin line (SetEnable user None) h = rw h.0 refl
edits_begin line (SetHash user Login text) h = rw h.0 refl
edits_begin line (SetHash user Enable text) h = rw h.0 refl
edits_begin line (SetPriv subject (Some level)) h = rw h.1 refl
edits_begin line (SetPriv subject None) h = rw h.0 refl
edits_begin line (AddService subject said) h = said_begins line subject said.service said.says h.0
edits_begin line (ClearService subject service attribute) h = rw h.0 refl
edits_begin line (InsertRule subject at verdict pattern) h = rw h.1 refl
edits_begin line (RemoveRule subject at) h = rw h.1 refl
edits_begin line (MoveRule subject from to) h = rw h.2 refl

queries_begin : (line : List ℕ) (query : Query) → SpellsWords line query → begins_edit line ≡ false
queries_begin line Policy h = rw h refl
queries_begin line Shadow h = rw h refl
queries_begin line (Reach subject) h = rw h.0 refl
queries_begin line (Tally subject) h = rw h.0 refl
queries_begin line (Why user text) h = elim h.0 [ inl spaced ↦ rw spaced refl | inr alone ↦ rw alone.0 refl ]
queries_begin line (Given user service) h = rw h.0 refl
queries_begin line Records h = rw h refl

pub apart : (line : List ℕ) (edit : Edit) (query : Query) → SpellsEdit line edit → SpellsQuery line query → ⊥
apart line edit query h k =
    let yes : begins_edit line ≡ true = edits_begin line edit h.1 in
    let no : begins_edit line ≡ false = queries_begin line query k.1 in
    cc

pub query_found : (line : List ℕ) (query : Query) → query_of line ≡ Some query → SpellsQuery line query
query_found = found.query_found

-- ---- the words of a batch

no_begin : (line : List ℕ) → IsBatchWord line → begins_edit line ≡ false
no_begin line h = elim h [ inl is ↦ rw is refl | inr other ↦ elim other [ inl is ↦ rw is refl | inr is ↦ rw is refl ] ]

no_batch_query : (line : List ℕ) → IsBatchWord line → query_of line ≡ None
unfolding query_of
no_batch_query line h = elim h [ inl is ↦ rw is refl | inr other ↦ elim other [ inl is ↦ rw is refl | inr is ↦ rw is refl ] ]

-- the word that is read is the line
words_are : (line : List ℕ) (word : Asked) → batch_word line ≡ Some word → IsBatchWord line × Spells line word
words_are line word e =
    choice _ (bytes_eq line (codes "begin")) (done asks.Begin) _ (done word) e
    (λ is made. let line_is = word_is line (codes "begin") is in (inl line_is, subst (Spells line) (done_is asks.Begin word made) line_is))
    (λ other. choice _ (bytes_eq line (codes "commit")) (done asks.Commit) _ (done word) other
    (λ is made. let line_is = word_is line (codes "commit") is in (inr (inl line_is), subst (Spells line) (done_is asks.Commit word made) line_is))
    (λ other. choice _ (bytes_eq line (codes "abandon")) (done asks.Abandon) None (done word) other
    (λ is made. let line_is = word_is line (codes "abandon") is in (inr (inr line_is), subst (Spells line) (done_is asks.Abandon word made) line_is))
    (λ none. absurd cc)))

words_back : (line : List ℕ) (word : Asked) → Spells line word → IsBatchWord line → batch_word line ≡ Some word
words_back line (asks.Edit edit) h is = absurd (let yes = edits_begin line edit h.1 in let no = no_begin line is in cc)
words_back line (asks.Query query) h is = absurd (let some = back.query_back line query h in let none = no_batch_query line is in cc)
words_back line asks.Begin h is = rw h refl
words_back line asks.Commit h is = rw h refl
words_back line asks.Abandon h is = rw h refl
words_back line asks.Neither h is = absurd (h.2 is)

pub word_found : (line : List ℕ) (word : Asked) → batch_word line ≡ Some word → Spells line word
word_found line word e = (words_are line word e).1

-- where a word is read, the line spells nothing else
pub word_only : (line : List ℕ) (word : Asked) → batch_word line ≡ Some word → (asked : Asked) → Spells line asked → word ≡ asked
word_only line word e asked h = done_is word asked (sym e ∙ words_back line asked h (words_are line word e).0)

-- where none is read, the line spells none
pub no_word : (line : List ℕ) → batch_word line ≡ None → IsBatchWord line → ⊥
no_word line none h = elim h [
  | inl is ↦ let some = words_back line asks.Begin is (inl is) in cc
  | inr other ↦ elim other [
    | inl is ↦ let some = words_back line asks.Commit is (inr (inl is)) in cc
    | inr is ↦ let some = words_back line asks.Abandon is (inr (inr is)) in cc
  ]
]

-- ---- edits and questions

same_query : (query other : Query) → Some query ≡ Some other → asks.Query query ≡ asks.Query other
same_query query other e = cc

asks_other : (line : List ℕ) (query : Query) → query_of line ≡ Some query → IsBatchWord line → ⊥
asks_other line query e h = let none = no_batch_query line h in cc

-- where a question is read, the line spells nothing else
pub query_only : (line : List ℕ) (query : Query) → query_of line ≡ Some query → (asked : Asked) → Spells line asked → asks.Query query ≡ asked
query_only line query e (asks.Edit edit) h = absurd (apart line edit query h (query_found line query e))
query_only line query e (asks.Query other) h = same_query query other (sym e ∙ back.query_back line other h)
query_only line query e asks.Begin h = absurd (asks_other line query e (inl h))
query_only line query e asks.Commit h = absurd (asks_other line query e (inr (inl h)))
query_only line query e asks.Abandon h = absurd (asks_other line query e (inr (inr h)))
query_only line query e asks.Neither h = absurd (h.1 query (query_found line query e))

-- where none is read, the line spells none
pub no_query : (line : List ℕ) → query_of line ≡ None → (query : Query) → SpellsQuery line query → ⊥
no_query line none query h = let some = back.query_back line query h in cc

refusals_differ : BadEdit ≡ Memory → ⊥
refusals_differ e = cc

-- where no edit is read, the line spells none
pub no_edit : (line : List ℕ) (fault : EditFault) → fault ≡ BadEdit
    → ((edit : Edit) → SpellsEdit line edit → (◌≡◌ {A = Result Edit EditFault} (Err fault) (Ok edit)) ⊎ (◌≡◌ {A = Result Edit EditFault} (Err fault) (Err Memory)))
    → (edit : Edit) → SpellsEdit line edit → ⊥
no_edit line fault is read edit h = elim (read edit h) [ inl made ↦ absurd cc | inr refused ↦ refusals_differ (sym is ∙ cc) ]

-- where nothing is read, the line spells nothing
pub neither_only : (line : List ℕ) → ((edit : Edit) → SpellsEdit line edit → ⊥) → ((query : Query) → SpellsQuery line query → ⊥)
    → (IsBatchWord line → ⊥) → (asked : Asked) → Spells line asked → asks.Neither ≡ asked
neither_only line edits queries words (asks.Edit edit) h = absurd (edits edit h)
neither_only line edits queries words (asks.Query query) h = absurd (queries query h)
neither_only line edits queries words asks.Begin h = absurd (words (inl h))
neither_only line edits queries words asks.Commit h = absurd (words (inr (inl h)))
neither_only line edits queries words asks.Abandon h = absurd (words (inr (inr h)))
neither_only line edits queries words asks.Neither h = refl
