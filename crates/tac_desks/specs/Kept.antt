-- What a desk that searches and counts each time keeps, and what that represents.
use Rattle.std.specs.Prelude.{List}
use Rattle.pol_text.specs.declared.subject.Subject.{Subject}
use Rattle.tac_tally.specs.Book.{Entry, Contents, items}
use Rattle.tac_desk.specs.Meaning.{Meaning}
use Rattle.tac_desk.specs.Reporting.{entries}

-- the records count, and not their marks
abbrev pub meaning_of : List Subject → Contents → Meaning
meaning_of policy book = record {
  policy = policy;
  records = items book.entries;
  limit = book.limit;
  forgotten = book.forgotten;
}

-- the records of the book, with the marks that this policy gives
abbrev pub entries_by : List Subject → Contents → List Entry
entries_by policy book = entries (meaning_of policy book)
