-- One step of a count: what one more record of a user changes, and another mark of one.
use Rattle.std.specs.Prelude.{◌≡◌, ℕ, ◌+◌, ◌-◌, Bool, false, not, ◌&&◌, ◌||◌, is_some, List, []}
use Rattle.std.specs.Prelude.{◌∷◌, if◌then◌else◌}
use Rattle.std.specs.Global.{Vec}
use Rattle.std.specs.List.{list_any}
use Rattle.std.specs.Str.{bytes_eq}
use Rattle.std.specs.Ordering.{nat_cmp}
use Rattle.std.specs.Cmp.Lexicographic.{slice_cmp}
use Rattle.std.specs.BTreeSet.{BTreeSet, contains_by, btree_set_len}
use Rattle.tac_request.specs.declared.record.AcctKind.TheVariants.{Begin, Stop, Watch, Update}
use Rattle.tac_request.specs.declared.record.Record.{Record}
use Rattle.tac_tally.specs.Book.{Entry}
use Rattle.tac_tally.specs.Tally.{same_acct, is_of, turns, open_tasks}
use Rattle.tac_tally.specs.declared.tally.Tally.{Tally}

-- the tally with one more record, except for its open tasks
abbrev pub counted : Record → Bool → Tally → Tally
counted item denied tally = record tally {
  starts = tally.starts + (if same_acct item.kind Begin then 1 else 0);
  stops = tally.stops + (if same_acct item.kind Stop then 1 else 0);
  watchdogs = tally.watchdogs + (if same_acct item.kind Watch then 1 else 0);
  updates = tally.updates + (if same_acct item.kind Update then 1 else 0);
  elapsed = tally.elapsed + (if same_acct item.kind Stop then item.elapsed else 0);
  drift = tally.drift + (if same_acct item.kind Stop && is_some item.line && denied then 1 else 0);
}

-- what a record with this mark adds to the drift
abbrev pub drift_of : Record → Bool → ℕ
drift_of item denied = if same_acct item.kind Stop && is_some item.line && denied then 1 else 0

-- the tally where the record's mark was the one, and is the other
abbrev pub recounted : Record → Bool → Bool → Tally → Tally
recounted item was denied tally =
    record tally { drift = tally.drift + drift_of item denied - drift_of item was }

-- whether a task of the user is open: a record that begins it has no later one that
-- begins or stops it
abbrev pub is_open : List ℕ → List ℕ → List Entry → Bool
is_open user task [] = false
is_open user task (entry ∷ later) =
    (is_of user Begin entry && bytes_eq entry.item.task task
    && not (list_any (turns user task) later)) || is_open user task later

-- whether the set has the text
abbrev pub has_text : BTreeSet (Vec ℕ) → List ℕ → Bool
has_text set text = contains_by (λ key. slice_cmp nat_cmp text key.items) set

-- the set holds the open tasks of the user
pub record HoldsOpen (user : List ℕ) (entries : List Entry) (set : BTreeSet (Vec ℕ)) : Type 0 where
  pub has : (task : List ℕ) → has_text set task ≡ is_open user task entries
  pub many : btree_set_len set ≡ open_tasks user entries
