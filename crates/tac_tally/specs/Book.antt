-- A book of accounting records.
use Rattle.std.specs.Prelude.{◌≡◌, ℕ, ◌+◌, ◌≤◌, Bool, IsTrue, List, [], ◌∷◌, length, map, drop}
use Rattle.tac_request.specs.declared.record.Record.{Record}
use Rattle.tac_tally.specs.Keeping.{goes, is_full, kept}
use Rattle.tac_tally.specs.declared.limit.RecordLimit.{RecordLimit}

-- a record as it is stored, and its mark: whether the present policy denies its line
pub record Entry : Type 0 where
  pub item : Record
  pub denied : Bool

-- what a book holds: its entries in the order in which they came, their limit, and how many it has
-- forgotten
pub record Contents : Type 0 where
  pub entries : List Entry
  pub limit : RecordLimit
  pub forgotten : ℕ

-- a book without records
abbrev pub empty : RecordLimit → Contents
empty limit = record { entries = []; limit = limit; forgotten = 0 }

-- the records alone
abbrev pub items : List Entry → List Record
items entries = map (λ entry. entry.item) entries

-- of all these entries, in the order in which they came, the book keeps those that it hasn't forgotten
pub record AreLast (book : Contents) (all : List Entry) : Type 0 where
  pub kept : book.entries ≡ drop book.forgotten all
  pub many : book.forgotten ≤ length all

-- no further record is stored
abbrev pub IsFull : Contents → Type 0
IsFull book = IsTrue (is_full book.limit book.forgotten (length book.entries))

-- the book with one more entry, after those that it keeps
abbrev pub with_entry : Record → Bool → Contents → Contents
with_entry item denied book = record {
  entries = kept book.limit book.entries (record { item = item; denied = denied });
  limit = book.limit;
  forgotten = book.forgotten + goes book.limit (length book.entries);
}

-- records, and beside each its mark
abbrev pub beside : List Record → List Bool → List Entry
beside [] marks = []
beside (item ∷ rest) [] = []
beside (item ∷ rest) (denied ∷ marks) = record { item = item; denied = denied } ∷ beside rest marks
