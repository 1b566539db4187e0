-- Marks that a closure decides, one place after another.
use Rattle.std.proofs.Common.{◌≡◌, ℕ, Bool, false, List, [], ◌∷◌, ◌++◌, Some, None, Result, Ok, refl, sym, ap, ◌∙◌, Bor}
use Rattle.std.specs.Prelude.{slice_get}
use Rattle.std.specs.Fn.{Mut, Called}
use Rattle.std.specs.declared.alloc.AllocError.{AllocError}
use Rattle.std.proofs.lemmas.List.{map_push}
use Rattle.tac_request.specs.declared.record.Record.{Record}
use Rattle.tac_tally.specs.Recount.{is_denied, mark_at, marks_at, Computes}
use Rattle.tac_tally.specs.declared.recount.Mark.{Mark}

module _ {F : Type 0} (g : Mut F (Bor (List ℕ) × (Bor (List ℕ) × Unit {0})) (Result Bool AllocError)) where
  -- the marks at the places seen, which a closure decided that began as f0 and is f now
  abbrev pub Marks : F → F → List Record → List ℕ → List Mark → Type 0
  Marks f0 f records seen marks = (denies : List ℕ → List ℕ → Bool) → Computes g denies f0 → Computes g denies f × (marks ≡ marks_at denies records seen)

  one_more : (denies : List ℕ → List ℕ → Bool) (records : List Record) (seen : List ℕ) (marks : List Mark) (place : ℕ) (item : Record) (denied : Bool)
      → slice_get records place ≡ Some item → denied ≡ is_denied denies item → marks ≡ marks_at denies records seen
      → marks ++ record { place = place; denied = denied } ∷ [] ≡ marks_at denies records (seen ++ place ∷ [])
  one_more denies records seen marks place item denied at is h =
      let mark : ◌≡◌ {A = Mark} (record { place = place; denied = denied }) (mark_at denies records place) = rw (at, is) refl in
      ap (λ l. l ++ record { place = place; denied = denied } ∷ []) h ∙ ap (λ m. marks_at denies records seen ++ m ∷ []) mark ∙ sym (map_push (mark_at denies records) seen place)

  -- a record without a line, of which nothing is asked
  pub marks-plain : (f0 f : F) (records : List Record) (seen : List ℕ) (marks : List Mark) (place : ℕ) (item : Record) → slice_get records place ≡ Some item → item.line ≡ None
      → Marks f0 f records seen marks → Marks f0 f records (seen ++ place ∷ []) (marks ++ record { place = place; denied = false } ∷ [])
  marks-plain f0 f records seen marks place item at none h denies c =
      let d = h denies c in
      (d.0, one_more denies records seen marks place item false at (rw none refl) d.1)

  -- a record whose line is decided
  pub marks-asked : (f0 f f' : F) (records : List Record) (seen : List ℕ) (marks : List Mark) (place : ℕ) (item : Record) (user text : Bor (List ℕ)) (line : List ℕ) (denied : Bool) (r : Result Bool AllocError)
      → slice_get records place ≡ Some item → item.line ≡ Some line → user.now ≡ item.user → text.now ≡ line → Called g f (user, (text, tt)) r f' → r ≡ Ok denied
      → Marks f0 f records seen marks → Marks f0 f' records (seen ++ place ∷ []) (marks ++ record { place = place; denied = denied } ∷ [])
  marks-asked f0 f f' records seen marks place item user text line denied r at has_line user_is text_is call ok h denies c =
      let d = h denies c in
      let goes : Computes g denies f' = record { at = λ xs. (d.0.at ((user, (text, tt)) ∷ xs) r f' call).1 } in
      let told = (d.0.at ((user, (text, tt)) ∷ []) r f' call).0 in
      let value : denied ≡ denies user.now text.now = rw ok at told in
      let mark : denied ≡ is_denied denies item = rw (has_line, value, user_is, text_is) refl in
      (goes, one_more denies records seen marks place item denied at mark d.1)
