use Rattle.serve_tests.proofs.hall.shared.shares.Given as goal

-- the run that begins here
abbrev pub ghosts-holds : goal.ghosts-holds
ghosts-holds g a = record { roll = a.history; opening = record { meaning = g.D.Desk.meaning a.desk; limits = a.talk.limits } }
