-- Passwords that are on their way: they wait, are worked out just now, or wait to be collected.
use Rattle.std.specs.Prelude.{◌≡◌, ℕ, suc, ◌+◌, List, [], ◌∷◌, ◌++◌, length}
use Rattle.std.specs.Prelude.{nat_lt, zero, Option, Some, None, ◌==◌, if◌then◌else◌}
use Rattle.std.specs.Prelude.{slice_index_or}
use Rattle.std.specs.List.{position, remove}
use Rattle.tac_digests.specs.declared.job.Job.{Job}
use Rattle.tac_digests.specs.declared.job.Done.{Done}

pub record OnTheirWay : Type 0 where
  pub waiting : List Job
  -- how many are worked out just now
  pub at_work : ℕ
  pub done : List Done

abbrev pub none : OnTheirWay
none = record { waiting = []; at_work = 0; done = [] }

abbrev pub count : OnTheirWay → ℕ
count all = length all.waiting + all.at_work + length all.done

-- one more waits, unless there are as many as may be
abbrev pub added : Job → OnTheirWay → OnTheirWay
added job all =
    if nat_lt (count all) 256 then record all { waiting = all.waiting ++ job ∷ [] } else all

-- the first that waits is worked out from now on
abbrev pub Takes : Option Job → OnTheirWay → OnTheirWay → Type 0
Takes None was now = (was.waiting ≡ []) × (now ≡ was)
Takes (Some job) was now =
    (was.waiting ≡ job ∷ now.waiting)
    × (now ≡ record was { waiting = now.waiting; at_work = suc was.at_work })

-- one that was taken is worked out
abbrev pub finished_by : ℕ → Done → OnTheirWay → OnTheirWay
finished_by zero done all = all
finished_by (suc n) done all = record all { at_work = n; done = all.done ++ done ∷ [] }

abbrev pub finished : Done → OnTheirWay → OnTheirWay
finished done all = finished_by all.at_work done all

-- where the first of these stands that was worked out for this worker
abbrev pub first_for : ℕ → List Done → Option ℕ
first_for worker all = position (λ done. done.ticket.worker == worker) all

-- the first that was worked out for this worker isn't on its way any more, and no other was
-- touched; or there is none
abbrev pub Collects : ℕ → Option Done → OnTheirWay → OnTheirWay → Type 0
Collects worker None was now = (first_for worker was.done ≡ None) × (now ≡ was)
Collects worker (Some done) was now =
    (i : ℕ) × (first_for worker was.done ≡ Some i)
    × (done ≡ slice_index_or was.done i done)
    × (now ≡ record was { done = remove was.done i })
