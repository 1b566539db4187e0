-- Where remarks on the lines of a text stand, and that a text without a line isn't refused.
use Rattle.std.proofs.Common.{◌≡◌, ◌≢◌, ◌∷◌, ◌++◌, [], ℕ, ◌+◌, ◌-◌, ◌<◌, ◌≤◌, ◌==◌, Bool, true, false, List, length, get_or, drop, All, Option, Some, None, IfSome, Result, Ok, Err, refl, sym, ap, subst, ◌∙◌, arith, get_or-drop, drop-drop, length-drop, if◌then◌else◌}
use Rattle.std.proofs.lemmas.List.Elements.{All-nil, All-cons, All-append, All-weaker}
use Rattle.basics.specs.Lines.{lines_of, onto_first, Unread}
use Rattle.tac_devices.specs.Text.{◌>>=◌, IsText, empty, finished, whole}
use Rattle.tac_devices.specs.declared.draft.Draft.{Draft}
use Rattle.tac_devices.specs.declared.fault.DevicesFault.{DevicesFault}
use Rattle.tac_devices_lint.specs.Places.{InLine, IsPlaced, IsOfLine, line_of, noted}
use Rattle.tac_devices_lint.specs.declared.remark.Found.{Found}
use Rattle.tac_devices_lint.specs.declared.remark.Remark.{Remark}

-- the lines from one of a number on
pub record From (text : List ℕ) (number : ℕ) (lines : List (List ℕ)) : Type 0 where
  pub begun : 1 ≤ number
  pub rest : drop (number - 1) (lines_of text) ≡ lines

pub first : (text : List ℕ) → From text 1 (lines_of text)
first text = record { begun = omega arith; rest = refl }

within : (n : ℕ) (xs : List (List ℕ)) (y : List ℕ) (ys : List (List ℕ)) → drop n xs ≡ y ∷ ys → n < length xs
within n xs y ys at = omega (arith, sym (length-drop n xs) ∙ ap length at)

head : (n : ℕ) (xs : List (List ℕ)) (y : List ℕ) (ys : List (List ℕ)) → drop n xs ≡ y ∷ ys → get_or xs n [] ≡ y
head n xs y ys at = ap (λ k. get_or xs k []) (omega arith) ∙ sym (get_or-drop n xs 0 []) ∙ ap (λ zs. get_or zs 0 []) at

tail : (n : ℕ) (xs : List (List ℕ)) (y : List ℕ) (ys : List (List ℕ)) → drop n xs ≡ y ∷ ys → drop (n + 1) xs ≡ ys
tail n xs y ys at = sym (drop-drop 1 n xs) ∙ ap (λ zs. drop 1 zs) at

pub later : (text : List ℕ) (number : ℕ) (line : List ℕ) (lines : List (List ℕ)) → From text number (line ∷ lines) → From text (number + 1) lines
later text number line lines from = record {
  begun = omega arith;
  rest = ap (λ k. drop k (lines_of text)) (omega (arith, from.begun)) ∙ tail (number - 1) (lines_of text) line lines from.rest;
}

-- the lines before and after one was taken
pub taken : (text : List ℕ) (old new : Unread) (number : ℕ) (line : List ℕ) → From text old.number old.lines → number ≡ old.number → old.lines ≡ line ∷ new.lines → new.number ≡ old.number + 1 → From text number (line ∷ new.lines) × From text new.number new.lines
taken text old new number line from at lines more =
    let here : From text number (line ∷ new.lines) = record {
      begun = omega (arith, at, from.begun);
      rest = ap (λ (k : ℕ). drop (k - 1) (lines_of text)) at ∙ from.rest ∙ lines;
    } in
    let next : From text (number + 1) new.lines = later text number line new.lines here in
    (here, subst (λ (k : ℕ). From text k new.lines) (ap (λ (k : ℕ). k + 1) at ∙ sym more) next)

one_placed : (text : List ℕ) (number : ℕ) (line : List ℕ) (lines : List (List ℕ)) → From text number (line ∷ lines) → (remark : Remark) → IsOfLine number line remark → IsPlaced text remark
one_placed text number line lines from remark (at, inside) =
    let h : number - 1 < length (lines_of text) = within (number - 1) (lines_of text) line lines from.rest in
    let e : line ≡ line_of text remark.line = sym (ap (line_of text) at ∙ head (number - 1) (lines_of text) line lines from.rest) in
    ((omega (arith, at, from.begun), omega (arith, at, from.begun, h)), subst (λ (l : List ℕ). InLine l remark.column) e inside)

pub all_placed : (text : List ℕ) (number : ℕ) (line : List ℕ) (lines : List (List ℕ)) → From text number (line ∷ lines) → (old told : List Remark) → All (IsOfLine number line) told → All (IsPlaced text) old → All (IsPlaced text) (old ++ told)
all_placed text number line lines from old told of_line placed =
    All-append (IsPlaced text) old told placed (All-weaker (IsOfLine number line) (IsPlaced text) (one_placed text number line lines from) told of_line)

pub noted_of_line : (number : ℕ) (line : List ℕ) (found : Option Found) → IfSome found (λ f. InLine line f.column) → All (IsOfLine number line) (noted number found)
noted_of_line number line None inside = All-nil (IsOfLine number line)
noted_of_line number line (Some f) inside = All-cons (IsOfLine number line) _ [] (refl, inside) (All-nil (IsOfLine number line))

-- ---- a text of no byte is that of no device, and any other has a line

no_fault : (fault : DevicesFault) (draft : Result Draft DevicesFault) → draft ≡ Ok empty → Err fault ≡ (draft >>= λ draft. finished (whole draft)) → ⊥
no_fault fault draft made is =
    let e : Err fault ≡ Ok [] = subst (λ (d : Result Draft DevicesFault). Err fault ≡ (d >>= λ draft. finished (whole draft))) made is in
    cc

pub some_text : (text : List ℕ) (fault : DevicesFault) → IsText text (Err fault) → text ≢ []
some_text text fault so none =
    let h : IsText [] (Err fault) = subst (λ (t : List ℕ). IsText t (Err fault)) none so in
    no_fault fault h.0 h.1 h.2

onto_some : (byte : ℕ) (lines : List (List ℕ)) → 1 ≤ length (onto_first byte lines)
onto_some byte [] = omega arith
onto_some byte (line ∷ lines) = omega arith

either_some : (test : Bool) (one other : List (List ℕ)) → 1 ≤ length one → 1 ≤ length other → 1 ≤ length (if test then one else other)
either_some true one other p q = p
either_some false one other p q = q

pub some_line : (text : List ℕ) → text ≢ [] → 1 ≤ length (lines_of text)
some_line [] some = absurd (some refl)
some_line (byte ∷ bytes) some =
    either_some (byte == 10) ([] ∷ lines_of bytes) (onto_first byte (lines_of bytes)) (omega arith) (onto_some byte (lines_of bytes))
