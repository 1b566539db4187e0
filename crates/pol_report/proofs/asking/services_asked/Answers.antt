use Rattle.std.proofs.Common.{◌≡◌, ◌∙◌, Bool, List, length, drop, slice_get, sym, ap, take_at, rules}
use Rattle.pol_report.proofs.asking.services_asked.Goals as goal

pub returns-clause-asked : goal.returns-clause-asked
returns-clause-asked c = λ service place at none.
    let marks = c.mark_asked.new.marks in
    let full : length marks ≡ c.in_ok-marks.marks.len = search rules in
    c.mark_asked.ensures.asked service place at
    (sym (ap (λ (kept : List Bool). slice_get kept place) (take_at marks (drop (length marks) c.in_ok-marks.marks.items) c.in_ok-marks.marks.len full)) ∙ none)
