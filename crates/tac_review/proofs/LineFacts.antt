-- The lines of batches spell what they ask of a console.
use Rattle.std.proofs.Common.{◌≡◌, ℕ, suc, ◌+◌, ◌<◌, true, false, List, [], ◌∷◌, ◌++◌, ◌==◌, length, take, get_or, map, codes, refl, sym, ap, subst, ◌∙◌, append_assoc, append-nil, arith}
use Rattle.std.proofs.Math.Seq.{take-suc}
use Rattle.std.proofs.lemmas.List.Concat.{flat_map-append}
use Rattle.std.specs.List.{flat_map}
use Rattle.std.proofs.lemmas.Bool.{and_parts}
use Rattle.std.proofs.lemmas.Bool.Decides.{nat_tests}
use Rattle.basics.specs.Symbol.{is_symbol, is_text}
use Rattle.basics.specs.Lines.{lines_of}
use Rattle.pol_text.specs.declared.subject.Subject.{Subject}
use Rattle.pol_edit.specs.Spelling.{Spells}
use Rattle.pol_edit.specs.declared.edit.Edit.{Edit}
use Rattle.pol_update.specs.Line.{edit_line}
use Rattle.pol_update.specs.Update.{AreSteps}
use Rattle.tac_console.specs.Spelling.{Spells as SpellsLine}
use Rattle.tac_console.specs.declared.asked.Asked.{Asked}
use Rattle.tac_console.specs.declared.asked.Asked.TheVariants as asks
use Rattle.tac_review.specs.Loading.{edit_lines, batch_text, batch_asks, Ask, IsSpelled, AreSpelled}

-- ---- lines of symbols

no_end : (byte : ℕ) → is_symbol byte ≡ true → (byte == 10) ≡ false
no_end byte symbol = grind (arith, nat_tests)

first_line : (line rest : List ℕ) → is_text line ≡ true → lines_of (line ++ 10 ∷ rest) ≡ line ∷ lines_of rest
first_line [] rest text = refl
first_line (byte ∷ line) rest text =
    let parts = and_parts (is_symbol byte) (is_text line) text in
    rw (no_end byte parts.0, first_line line rest parts.1) refl

line_asks : (line rest : List ℕ) (asked : Asked) (more : List Asked) → is_text line ≡ true → SpellsLine line asked → Ask (lines_of rest) more → Ask (lines_of (line ++ 10 ∷ rest)) (asked ∷ more)
line_asks line rest asked more text spells later = rw (first_line line rest text) (spells, later)

-- ---- edits that are spelled

abbrev pub AllSpelled : List Edit → Type 0
AllSpelled [] = Unit {0}
AllSpelled (edit ∷ edits) = Spells (edit_line edit) edit × AllSpelled edits

pub more_spelled : (edits more : List Edit) → AreSpelled edits → AreSpelled more → AreSpelled (edits ++ more)
more_spelled [] more first later = later
more_spelled (edit ∷ edits) more first later = (first.0, more_spelled edits more first.1 later)

pub steps_spelled : (old new policy made : List Subject) (edits : List Edit) → AreSteps old new policy edits made → AreSpelled edits → AllSpelled edits
steps_spelled old new policy made [] steps spelled = tt
steps_spelled old new policy made (edit ∷ edits) steps spelled =
    (spelled.0 policy steps.0 steps.1.well_formed steps.1.makes, steps_spelled old new steps.0 made edits steps.2 spelled.1)

front : (edits more : List Edit) → AllSpelled (edits ++ more) → AllSpelled edits
front [] more all = tt
front (edit ∷ edits) more all = (all.0, front edits more all.1)

back : (edits more : List Edit) → AllSpelled (edits ++ more) → AllSpelled more
back [] more all = all
back (edit ∷ edits) more all = back edits more all.1

-- ---- batches

edits_ask : (edits : List Edit) (rest : List ℕ) (more : List Asked) → AllSpelled edits → Ask (lines_of rest) more → Ask (lines_of (edit_lines edits ++ rest)) (map (λ edit. asks.Edit edit) edits ++ more)
edits_ask [] rest more all later = later
edits_ask (edit ∷ edits) rest more all later =
    let line = edit_line edit in
    let text : is_text line ≡ true = all.0.0 in
    let apart : edit_lines (edit ∷ edits) ++ rest ≡ line ++ 10 ∷ (edit_lines edits ++ rest) = append_assoc (line ++ 10 ∷ []) (edit_lines edits) rest ∙ append_assoc line (10 ∷ []) (edit_lines edits ++ rest) in
    rw apart (line_asks line (edit_lines edits ++ rest) (asks.Edit edit) (map (λ edit. asks.Edit edit) edits ++ more) text all.0 (edits_ask edits rest more all.1 later))

batch_asks_so : (batch : List Edit) (rest : List ℕ) (more : List Asked) → AllSpelled batch → Ask (lines_of rest) more → Ask (lines_of (batch_text batch ++ rest)) (batch_asks batch ++ more)
batch_asks_so batch rest more all later =
    let close : List ℕ = codes "commit" ++ 10 ∷ [] in
    let begun : List ℕ = codes "begin" ++ 10 ∷ edit_lines batch in
    let middle : List Asked = map (λ edit. asks.Edit edit) batch in
    let last : Ask (lines_of (close ++ rest)) (asks.Commit ∷ more) = line_asks (codes "commit") rest asks.Commit more refl refl later in
    let inner : Ask (lines_of (edit_lines batch ++ (close ++ rest))) (middle ++ asks.Commit ∷ more) = edits_ask batch (close ++ rest) (asks.Commit ∷ more) all last in
    let whole : Ask (lines_of (begun ++ (close ++ rest))) (asks.Begin ∷ (middle ++ asks.Commit ∷ more)) =
    line_asks (codes "begin") (edit_lines batch ++ (close ++ rest)) asks.Begin (middle ++ asks.Commit ∷ more) refl refl inner in
    let text : batch_text batch ++ rest ≡ begun ++ (close ++ rest) = ap (λ (t : List ℕ). t ++ rest) (append_assoc begun (codes "commit") (10 ∷ [])) ∙ append_assoc begun close rest in
    let asked : batch_asks batch ++ more ≡ asks.Begin ∷ (middle ++ asks.Commit ∷ more) = ap (λ (l : List Asked). asks.Begin ∷ l) (append_assoc middle (asks.Commit ∷ []) more) in
    subst (λ (t : List ℕ). Ask (lines_of t) (batch_asks batch ++ more)) (sym text) (subst (λ (l : List Asked). Ask (lines_of (begun ++ (close ++ rest))) l) (sym asked) whole)

pub all_ask : (batches : List (List Edit)) → AllSpelled (flat_map (λ edits. edits) batches) → Ask (lines_of (flat_map batch_text batches)) (flat_map batch_asks batches)
all_ask [] all = tt
all_ask (batch ∷ batches) all =
    let later = flat_map (λ (edits : List Edit). edits) batches in
    batch_asks_so batch (flat_map batch_text batches) (flat_map batch_asks batches) (front batch later all) (all_ask batches (back batch later all))

-- ---- one edit more

taken_more : (edits : List Edit) (i : ℕ) (edit : Edit) → i < length edits → edit ≡ get_or edits i edit → take (i + 1) edits ≡ take i edits ++ edit ∷ []
taken_more edits i edit lt item =
    let next : i + 1 ≡ suc i = omega arith in
    rw next (take-suc edits i edit lt ∙ ap (λ (e : Edit). take i edits ++ e ∷ []) (sym item))

pub lines_more : (edits : List Edit) (i : ℕ) (edit : Edit) (base before after : List ℕ) → i < length edits → edit ≡ get_or edits i edit → before ≡ base ++ edit_lines (take i edits)
    → after ≡ before ++ (edit_line edit ++ 10 ∷ []) → after ≡ base ++ edit_lines (take (i + 1) edits)
lines_more edits i edit base before after lt item so_far added =
    let line : List ℕ = edit_line edit ++ 10 ∷ [] in
    let more : edit_lines (take (i + 1) edits) ≡ edit_lines (take i edits) ++ line =
    ap edit_lines (taken_more edits i edit lt item) ∙ flat_map-append (λ (e : Edit). edit_line e ++ 10 ∷ []) (take i edits) (edit ∷ []) ∙ ap (λ (l : List ℕ). edit_lines (take i edits) ++ l) (append-nil line) in
    added ∙ ap (λ (t : List ℕ). t ++ line) so_far ∙ append_assoc base (edit_lines (take i edits)) line ∙ ap (λ (l : List ℕ). base ++ l) (sym more)

pub spelled_next : (edits : List Edit) (i : ℕ) (edit : Edit) → i < length edits → edit ≡ get_or edits i edit → AreSpelled (take i edits) → IsSpelled edit → AreSpelled (take (i + 1) edits)
spelled_next edits i edit lt item so_far spelled = rw (taken_more edits i edit lt item) (more_spelled (take i edits) (edit ∷ []) so_far (spelled, tt))
