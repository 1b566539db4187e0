use Rattle.serve_tests.proofs.work.support.runs.Given as goal

-- the run that begins here
abbrev pub ghosts-runs_at : goal.ghosts-runs_at
ghosts-runs_at g a = record { roll = a.history; opening = record { meaning = g.D.Desk.meaning a.desk; limits = a.limits } }
