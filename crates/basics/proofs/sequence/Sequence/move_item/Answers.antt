-- The room that the taken element leaves takes it again.
use Rattle.std.proofs.Common.{◌≡◌, ◌<◌, ℕ, List, Bool, true, length, insert, remove, slice_get, slice_index_or, is_ok, Some, refl, ◌∙◌, ap, if◌then◌else◌, arith}
use Rattle.std.specs.Option.{option_map_or}
use Rattle.std.specs.Result.{IsOk}
use Rattle.std.proofs.lemmas.Option.{slice_get_read}
use Rattle.basics.proofs.sequence.Sequence.move_item.Goals as goal

moved : {X : Type 0} (inside old mid new : List X) (from to : ℕ) (item : X) (ok : Bool) → inside ≡ old → from < length old → item ≡ slice_index_or inside from item
    → mid ≡ remove inside from → ok ≡ true → new ≡ (if ok then insert mid to item else mid)
    → new ≡ option_map_or (insert (remove old from) to) (slice_get old from) old
moved inside old mid new from to item ok view within read taken o put =
    let e : slice_get old from ≡ Some item = slice_get_read old (length old) from item refl within (read ∙ ap (λ l. slice_index_or l from item) view) in
    rw e (put ∙ rw (o, taken, view) refl)

pub returns : goal.returns
returns g c =
    let ok : IsOk c.insert.result = c.insert.ensures.succeeds (omega (arith, c.self.inside.items.ok)) in
    moved c.self.inside.items.items c.args.self.now c.remove-item.new.self.items c.insert.new.self.items c.args.from c.args.to c.remove-item.result (is_ok c.insert.result)
    c.self.view_is c.requires.from_in_bounds c.remove-item.ensures.value c.remove-item.ensures.items ok c.insert.ensures.items
