-- Calls that a seat of a shared desk makes for a connection.
use Rattle.std.proofs.Common.{◌≡◌, ℕ, List, [], ◌∷◌, ◌++◌, map, sym, ap, subst, ◌∙◌, append_assoc, append-nil}
use Rattle.tac_hall.specs.History.{view_of, rotations_of}
use Rattle.tac_hall.specs.Room.{Opening}
use Rattle.tac_hall.specs.Seat.{Seated, CatchesUp}
use Rattle.tac_hall.specs.View.{Made}
use Rattle.tac_worker.specs.Worked.{Exchange, in_view, AreMade, AreAllMade}
use Rattle.tac_worker.specs.AtHall.{MakesOne}

module _ (opening : Opening) where
  -- ---- one call after another

  number_made : (was : Seated) (made : List Exchange) (now : Seated) → AreMade (MakesOne opening) was made now → now.number ≡ was.number
  number_made was [] now m = ap (λ (seat : Seated). seat.number) m
  number_made was (exchange ∷ made) now m = number_made m.0 made now m.2 ∙ m.1.number

  view_made : (was : Seated) (made : List Exchange) (now : Seated) → AreMade (MakesOne opening) was made now
      → view_of was.number now.seen ≡ view_of was.number was.seen ++ map in_view made
  view_made was [] now m = ap (λ (seat : Seated). view_of was.number seat.seen) m ∙ sym (append-nil (view_of was.number was.seen))
  view_made was (exchange ∷ made) now m =
      subst (λ (n : ℕ). view_of n now.seen ≡ view_of n m.0.seen ++ map in_view made) m.1.number (view_made m.0 made now m.2)
      ∙ ap (λ (l : List Made). l ++ map in_view made) m.1.view ∙ append_assoc (view_of was.number was.seen) (in_view exchange ∷ []) (map in_view made)

  rotations_made : (was : Seated) (made : List Exchange) (now : Seated) → AreMade (MakesOne opening) was made now
      → rotations_of was.number now.seen ≡ rotations_of was.number was.seen
  rotations_made was [] now m = ap (λ (seat : Seated). rotations_of was.number seat.seen) m
  rotations_made was (exchange ∷ made) now m =
      subst (λ (n : ℕ). rotations_of n now.seen ≡ rotations_of n m.0.seen) m.1.number (rotations_made m.0 made now m.2) ∙ m.1.rotations

  -- ---- and then it caught up

  pub number_after : (was : Seated) (made : List Exchange) (now : Seated) → AreAllMade (MakesOne opening) CatchesUp was made now → now.number ≡ was.number
  number_after was made now m = m.2.number ∙ number_made was made m.0 m.1

  pub view_after : (was : Seated) (made : List Exchange) (now : Seated) → AreAllMade (MakesOne opening) CatchesUp was made now
      → view_of was.number now.seen ≡ view_of was.number was.seen ++ map in_view made
  view_after was made now m =
      subst (λ (n : ℕ). view_of n now.seen ≡ view_of n m.0.seen) (number_made was made m.0 m.1) m.2.view ∙ view_made was made m.0 m.1

  pub rotations_after : (was : Seated) (made : List Exchange) (now : Seated) → AreAllMade (MakesOne opening) CatchesUp was made now
      → rotations_of was.number now.seen ≡ rotations_of was.number was.seen
  rotations_after was made now m =
      subst (λ (n : ℕ). rotations_of n now.seen ≡ rotations_of n m.0.seen) (number_made was made m.0 m.1) m.2.rotations ∙ rotations_made was made m.0 m.1
