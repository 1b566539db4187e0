-- What a tally counts (RFC 8907, section 7), over all entries, also of a user that is in no policy.
use Rattle.std.specs.Prelude.{ℕ, ◌+◌, ◌<◌, Bool, true, false, not, ◌&&◌, ◌||◌, is_some, List, []}
use Rattle.std.specs.Prelude.{◌∷◌, map, filter, fold, count_by, sum_by, if◌then◌else◌}
use Rattle.std.specs.List.{list_any}
use Rattle.std.specs.Str.{bytes_eq}
use Rattle.tac_request.specs.declared.record.AcctKind.{AcctKind}
use Rattle.tac_request.specs.declared.record.AcctKind.TheVariants.{Begin, Stop, Watch, Update}
use Rattle.pol_text.specs.declared.subject.Subject.{Subject}
use Rattle.pol_names.specs.declared.subject_id.Kind.TheVariants.{User}
use Rattle.pol_names.specs.SubjectId.{same_kind, same_id, group_id}
use Rattle.pol_text.specs.Policy.{id_of, chain_ids}
use Rattle.tac_tally.specs.Book.{Entry}
use Rattle.tac_tally.specs.declared.tally.Tally.{Tally}

-- ---- the tally of a user

abbrev pub same_acct : AcctKind → AcctKind → Bool
same_acct Begin Begin = true
same_acct Stop Stop = true
same_acct Watch Watch = true
same_acct Update Update = true
same_acct _ _ = false

-- whether the entry is a record of this user and of this kind
abbrev pub is_of : List ℕ → AcctKind → Entry → Bool
is_of user kind entry = bytes_eq entry.item.user user && same_acct entry.item.kind kind

-- whether the entry begins or stops this task of the user
abbrev pub turns : List ℕ → List ℕ → Entry → Bool
turns user task entry =
    (is_of user Begin entry || is_of user Stop entry) && bytes_eq entry.item.task task

-- how many records that begin a task of the user have no later one that begins or stops it: so each
-- task that the user's last such record begins is counted once
abbrev pub open_tasks : List ℕ → List Entry → ℕ
open_tasks user [] = 0
open_tasks user (entry ∷ later) =
    (if is_of user Begin entry && not (list_any (turns user entry.item.task) later) then 1
    else 0) + open_tasks user later

-- the seconds that the user's stops tell
abbrev pub elapsed_of : List ℕ → List Entry → ℕ
elapsed_of user entries = sum_by (λ entry. entry.item.elapsed) (filter (is_of user Stop) entries)

-- whether the entry is a stop of the user's, of a line that the present policy denies
abbrev pub drifts : List ℕ → Entry → Bool
drifts user entry = is_of user Stop entry && is_some entry.item.line && entry.denied

abbrev pub tally_of : List ℕ → List Entry → Tally
tally_of user entries = record {
  starts = count_by (is_of user Begin) entries;
  stops = count_by (is_of user Stop) entries;
  watchdogs = count_by (is_of user Watch) entries;
  updates = count_by (is_of user Update) entries;
  open_tasks = open_tasks user entries;
  elapsed = elapsed_of user entries;
  drift = count_by (drifts user) entries;
}

-- ---- the tally of a group

-- whether the subject is a user whose chain holds the group
abbrev pub is_user_below : List Subject → List ℕ → Subject → Bool
is_user_below policy group subject =
    same_kind subject.kind User
    && list_any (λ id. same_id id (group_id group)) (chain_ids policy (id_of subject))

abbrev pub no_tally : Tally
no_tally =
    record {
      starts = 0;
      stops = 0;
      watchdogs = 0;
      updates = 0;
      open_tasks = 0;
      elapsed = 0;
      drift = 0;
    }

abbrev pub plus : Tally → Tally → Tally
plus a b = record {
  starts = a.starts + b.starts;
  stops = a.stops + b.stops;
  watchdogs = a.watchdogs + b.watchdogs;
  updates = a.updates + b.updates;
  open_tasks = a.open_tasks + b.open_tasks;
  elapsed = a.elapsed + b.elapsed;
  drift = a.drift + b.drift;
}

-- the sum of the tallies of the policy's users whose chain holds the group
abbrev pub group_tally_of : List Subject → List ℕ → List Entry → Tally
group_tally_of policy group entries =
    fold plus no_tally
    (map (λ user. tally_of user.name entries) (filter (is_user_below policy group) policy))

-- each number of the tally is below n
pub record IsBelow (n : ℕ) (tally : Tally) : Type 0 where
  pub starts : tally.starts < n
  pub stops : tally.stops < n
  pub watchdogs : tally.watchdogs < n
  pub updates : tally.updates < n
  pub open_tasks : tally.open_tasks < n
  pub elapsed : tally.elapsed < n
  pub drift : tally.drift < n
