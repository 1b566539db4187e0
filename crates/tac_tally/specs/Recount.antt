-- Marks that are worked out anew.
use Rattle.std.specs.Prelude.{◌≡◌, ℕ, Bool, false, List, [], ◌∷◌, map, set, replicate, slice_get}
use Rattle.std.specs.Prelude.{Option, Some, None, unwrap_or, Result, IfOk, if◌then◌else◌}
use Rattle.std.specs.Option.{option_map_or}
use Rattle.std.specs.List.{list_any, fold}
use Rattle.std.specs.Str.{bytes_eq}
use Rattle.std.specs.Borrow.{Bor}
use Rattle.std.specs.Fn.{Mut, AlwaysReturns}
use Rattle.std.specs.declared.alloc.AllocError.{AllocError}
use Rattle.tac_request.specs.declared.record.Record.{Record}
use Rattle.tac_tally.specs.Book.{Entry}
use Rattle.tac_tally.specs.Accounts.{with_mark_at}
use Rattle.tac_tally.specs.declared.recount.Mark.{Mark}

-- whether the line of a record is denied; a record without a line isn't
abbrev pub is_denied : (List ℕ → List ℕ → Bool) → Record → Bool
is_denied denies item = option_map_or (denies item.user) item.line false

-- whether the text is one of these
abbrev pub is_one_of : List (List ℕ) → List ℕ → Bool
is_one_of texts text = list_any (bytes_eq text) texts

-- the mark of a record anew, if it is of one of these users
abbrev pub mark_of : (List ℕ → List ℕ → Bool) → List (List ℕ) → Record → Option Bool
mark_of denies users item = if is_one_of users item.user then Some (is_denied denies item) else None

-- for each record of one of these users its mark anew, and nothing for the others
abbrev pub recount_of : (List ℕ → List ℕ → Bool) → List (List ℕ) → List Record → List (Option Bool)
recount_of denies users records = map (mark_of denies users) records

-- the entries with their marks anew, where there is one, and else as they were
abbrev pub settled : List (Option Bool) → List Entry → List Entry
settled [] entries = entries
settled (mark ∷ marks) [] = []
settled (mark ∷ marks) (entry ∷ rest) =
    record entry { denied = unwrap_or mark entry.denied } ∷ settled marks rest

-- the entry with its mark anew, if it is of one of these users
abbrev pub with_mark : (List ℕ → List ℕ → Bool) → List (List ℕ) → Entry → Entry
with_mark denies users entry =
    if is_one_of users entry.item.user then record entry { denied = is_denied denies entry.item }
    else entry

-- the entries of these users with their marks anew, and the others as they were
abbrev pub remarked : (List ℕ → List ℕ → Bool) → List (List ℕ) → List Entry → List Entry
remarked denies users entries = map (with_mark denies users) entries

-- the records, and beside each its mark
abbrev pub marked : (List ℕ → List ℕ → Bool) → List Record → List Entry
marked denies records = map (λ item. record { item = item; denied = is_denied denies item }) records

-- each call from f on, at a user and a line, that doesn't run out of memory answers
-- what denies gives
abbrev pub Computes : {F : Type 0}
    → Mut F (Bor (List ℕ) × (Bor (List ℕ) × Unit {0})) (Result Bool AllocError)
    → (List ℕ → List ℕ → Bool) → F → Type 0
Computes g denies = AlwaysReturns g (λ a r. IfOk r (λ denied. denied ≡ denies a.0.now a.1.0.now))

-- ---- what is kept of a recount: marks, each with the place of its record

-- for each of so many records the last mark that is kept for its place, if there is one
abbrev pub spread : ℕ → List Mark → List (Option Bool)
spread size marks =
    fold (λ all mark. set all mark.place (Some mark.denied)) (replicate size None) marks

-- the entries once the marks are put in, one after another
abbrev pub with_marks : List Mark → List Entry → List Entry
with_marks marks entries = fold (λ all mark. with_mark_at mark.place mark.denied all) entries marks

-- the mark anew of the record at a place
abbrev pub mark_at : (List ℕ → List ℕ → Bool) → List Record → ℕ → Mark
mark_at denies records place =
    record {
      place = place;
      denied = option_map_or (is_denied denies) (slice_get records place) false;
    }

-- these marks anew
abbrev pub marks_at : (List ℕ → List ℕ → Bool) → List Record → List ℕ → List Mark
marks_at denies records places = map (mark_at denies records) places
