-- Which line of a console spells what, by cases (docs/CONSOLE.md).
--
--   line    = edit | query | "begin" | "commit" | "abandon"
--   query   = "policy" | "shadow" | "reach " subject | "tally " subject
--           | "why " name [ " " text ] | "given " name " " service | "records"
use Rattle.std.specs.Prelude.{◌≡◌, ◌⊎◌, ℕ, List, [], ◌++◌, codes, IsTrue}
use Rattle.basics.specs.Symbol.{is_text}
use Rattle.pol_names.specs.SubjectId.{subject_text}
use Rattle.pol_names.specs.Service.{service_text}
use Rattle.pol_edit.specs.Spelling.{IsName, IsService, Spells as SpellsEdit}
use Rattle.pol_edit.specs.declared.edit.Edit.{Edit}
use Rattle.tac_desk.specs.declared.query.Query.{Query}
use Rattle.tac_desk.specs.declared.query.Query.TheVariants.{Policy, Shadow, Reach, Tally, Why}
use Rattle.tac_desk.specs.declared.query.Query.TheVariants.{Given, Records}
use Rattle.tac_console.specs.declared.asked.Asked.{Asked}
use Rattle.tac_console.specs.declared.asked.Asked.TheVariants as asks

-- the words of each question
abbrev pub SpellsWords : List ℕ → Query → Type 0
SpellsWords line Policy = line ≡ codes "policy"
SpellsWords line Shadow = line ≡ codes "shadow"
SpellsWords line (Reach subject) =
    (line ≡ codes "reach " ++ subject_text subject) × IsName subject.name
SpellsWords line (Tally subject) =
    (line ≡ codes "tally " ++ subject_text subject) × IsName subject.name
SpellsWords line (Why user text) =
    ((line ≡ codes "why " ++ user ++ codes " " ++ text)
    ⊎ ((line ≡ codes "why " ++ user) × (text ≡ []))) × IsName user
SpellsWords line (Given user service) =
    (line ≡ codes "given " ++ user ++ codes " " ++ service_text service) × IsName user
    × IsService service
SpellsWords line Records = line ≡ codes "records"

-- all of the line are symbols
abbrev pub SpellsQuery : List ℕ → Query → Type 0
SpellsQuery line query = IsTrue (is_text line) × SpellsWords line query

-- the lines round the edits of a batch
abbrev pub IsBatchWord : List ℕ → Type 0
IsBatchWord line = (line ≡ codes "begin") ⊎ (line ≡ codes "commit") ⊎ (line ≡ codes "abandon")

abbrev pub Spells : List ℕ → Asked → Type 0
Spells line (asks.Edit edit) = SpellsEdit line edit
Spells line (asks.Query query) = SpellsQuery line query
Spells line asks.Begin = line ≡ codes "begin"
Spells line asks.Commit = line ≡ codes "commit"
Spells line asks.Abandon = line ≡ codes "abandon"
Spells line asks.Neither =
    ((edit : Edit) → ¬ SpellsEdit line edit) × ((query : Query) → ¬ SpellsQuery line query)
    × ¬ IsBatchWord line
