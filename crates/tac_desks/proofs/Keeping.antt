-- Records that a book keeps, and those of the desk that has it.
use Rattle.std.proofs.Common.{◌≡◌, ℕ, ◌+◌, suc, ◌<◌, Bool, false, List, [], ◌∷◌, ◌++◌, length, take, drop, get_or, refl, sym, ap, ◌∙◌, arith}
use Rattle.std.proofs.lemmas.Bool.{false_from_ne_true}
use Rattle.std.proofs.lemmas.List.{drop-map, length-map, map-append, take_more, length-take-le}
use Rattle.pol_text.specs.declared.subject.Subject.{Subject}
use Rattle.tac_request.specs.declared.record.Record.{Record}
use Rattle.tac_tally.specs.Book.{Entry, Contents, IsFull, items, with_entry}
use Rattle.tac_tally.specs.Keeping.{goes, kept}
use Rattle.tac_tally.specs.Keeping as keeping
use Rattle.tac_tally.specs.Recount.{marked, is_denied}
use Rattle.tac_tally.specs.declared.limit.RecordLimit.{RecordLimit}
use Rattle.tac_desk.specs.Asking.{is_full, stored}
use Rattle.tac_desk.specs.Reporting.{numbered_after}
use Rattle.tac_desk.specs.declared.numbered.Numbered.{Numbered}
use Rattle.tac_desks.specs.Kept.{meaning_of}
use Rattle.tac_desks.proofs.Unchanged.{marks_pushed_so}

-- ---- one record more

items_kept : (limit : RecordLimit) (entries : List Entry) (entry : Entry) → items (kept limit entries entry) ≡ kept limit (items entries) entry.item
items_kept limit entries entry =
    let gone = goes limit (length entries) in
    let same : length (items entries) ≡ length entries = length-map entries (λ (e : Entry). e.item) in
    rw same (
    map-append (λ (e : Entry). e.item) (drop gone entries) (entry ∷ [])
    ∙ ap (λ l. l ++ entry.item ∷ []) (sym (drop-map (λ (e : Entry). e.item) gone entries))
    )

-- what a book stores, its desk does
pub stored_by_book : (policy : List Subject) (book : Contents) (item : Record) (mark : Bool) → (IsFull book → ⊥)
    → meaning_of policy (with_entry item mark book) ≡ (stored (meaning_of policy book) item).meaning
stored_by_book policy book item mark room =
    let same : length (items book.entries) ≡ length book.entries = length-map book.entries (λ (e : Entry). e.item) in
    let full : is_full (meaning_of policy book) ≡ false = ap (keeping.is_full book.limit book.forgotten) same ∙ false_from_ne_true _ room in
    rw (full, items_kept book.limit book.entries (record { item = item; denied = mark }), same) refl

-- ---- marks

-- those of the records that stay, and that of one more
pub marks_kept : (denied : List ℕ → List ℕ → Bool) (limit : RecordLimit) (entries : List Entry) (item : Record) (mark : Bool) → mark ≡ is_denied denied item
    → entries ≡ marked denied (items entries)
    → kept limit entries (record { item = item; denied = mark }) ≡ marked denied (items (kept limit entries (record { item = item; denied = mark })))
marks_kept denied limit entries item mark is right =
    let gone = goes limit (length entries) in
    marks_pushed_so denied (drop gone entries) item mark is (
    ap (drop gone) right
    ∙ drop-map (λ (i : Record). record { item = i; denied = is_denied denied i }) gone (items entries)
    ∙ ap (marked denied) (drop-map (λ (e : Entry). e.item) gone entries)
    )

-- ---- numbers

numbered_push : (before : ℕ) (records : List Record) (item : Record)
    → numbered_after before (records ++ item ∷ []) ≡ numbered_after before records ++ record { number = before + (length records + 1); item = item } ∷ []
numbered_push before [] item = refl
numbered_push before (first ∷ rest) item =
    let same : (before + 1) + (length rest + 1) ≡ before + (suc (length rest) + 1) = omega arith in
    ap (λ (l : List Numbered). record { number = before + 1; item = first } ∷ l)
    (numbered_push (before + 1) rest item ∙ ap (λ n. numbered_after (before + 1) rest ++ record { number = n; item = item } ∷ []) same)

-- one record more of the first ones
pub numbered_more : (before : ℕ) (records : List Record) (i : ℕ) (item default : Record) → i < length records → item ≡ get_or records i default
    → numbered_after before (take (i + 1) records) ≡ numbered_after before (take i records) ++ record { number = before + (i + 1); item = item } ∷ []
numbered_more before records i item default lt is =
    let many = length-take-le i records (omega (arith, lt)) in
    rw (take_more records i default lt, is) (
    numbered_push before (take i records) (get_or records i default)
    ∙ ap (λ n. numbered_after before (take i records) ++ record { number = before + (n + 1); item = get_or records i default } ∷ []) many
    )
