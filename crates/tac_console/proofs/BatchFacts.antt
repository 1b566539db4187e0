-- A batch has the first edits since `begin`.
use Rattle.std.proofs.Common.{◌≡◌, ◌<◌, ◌≤◌, ◌+◌, Bool, true, false, cond, List, [], ◌∷◌, ◌++◌, length, take, Some, append-nil, append_assoc, lit≤, refl, sym, ap, ◌∙◌, arith}
use Rattle.std.specs.List.{list_all}
use Rattle.std.proofs.lemmas.List.{length-append, take-append-le, take_all}
use Rattle.std.proofs.lemmas.Bool.Decides.{nat_tests}
use Rattle.pol_edit.specs.declared.edit.Edit.{Edit}
use Rattle.tac_console.specs.declared.asked.Asked.{Asked}
use Rattle.tac_console.specs.declared.asked.Asked.TheVariants as asks
use Rattle.tac_console.specs.Batching.{most, has_room, batch_after_lines, edits_in, goes_on, HasFirst}

-- a batch after these lines, whatever it had kept before
HasThen : List Asked → Type 0
HasThen lines = (kept : List Edit) → length kept ≤ most → batch_after_lines (Some kept) lines ≡ Some (take most (kept ++ edits_in lines))

room_is : (kept : List Edit) → has_room kept ≡ true → length kept < most
room_is kept room = grind (arith, nat_tests)

full_is : (kept : List Edit) → has_room kept ≡ false → most ≤ length kept
full_is kept full = grind (arith, nat_tests)

-- an edit more is kept if there is room
edit_then : (room : Bool) (edit : Edit) (rest : List Asked) (kept : List Edit) → has_room kept ≡ room → length kept ≤ most → HasThen rest
    → batch_after_lines (Some (cond room (kept ++ edit ∷ []) kept)) rest ≡ Some (take most (kept ++ edit ∷ edits_in rest))
unfolding HasThen
edit_then true edit rest kept room fits later =
    let one : length (kept ++ edit ∷ []) ≡ length kept + 1 = length-append kept (edit ∷ []) in
    let longer : length (kept ++ edit ∷ []) ≤ most = omega (arith, one, room_is kept room) in
    later (kept ++ edit ∷ []) longer ∙ ap (λ (all : List Edit). Some (take most all)) (append_assoc kept (edit ∷ []) (edits_in rest))
edit_then false edit rest kept room fits later =
    let full = full_is kept room in
    later kept fits
    ∙ ap (λ (all : List Edit). Some all) (take-append-le most kept (edits_in rest) full ∙ sym (take-append-le most kept (edit ∷ edits_in rest) full))

has_then : (lines : List Asked) → list_all goes_on lines ≡ true → HasThen lines
unfolding HasThen
has_then [] on kept fits = ap (λ (all : List Edit). Some all) (sym (ap (take most) (append-nil kept) ∙ take_all most kept fits))
has_then (asks.Edit edit ∷ rest) on kept fits = edit_then (has_room kept) edit rest kept refl fits (has_then rest on)
has_then (asks.Query query ∷ rest) on kept fits = has_then rest on kept fits
has_then (asks.Begin ∷ rest) on kept fits = has_then rest on kept fits
has_then (asks.Commit ∷ rest) on kept fits = absurd cc
has_then (asks.Abandon ∷ rest) on kept fits = absurd cc
has_then (asks.Neither ∷ rest) on kept fits = has_then rest on kept fits

pub has_first : (lines : List Asked) → HasFirst lines
unfolding HasThen
has_first lines on = has_then lines on [] (lit≤ tt)
