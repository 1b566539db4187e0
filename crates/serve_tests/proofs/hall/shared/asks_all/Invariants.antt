use Rattle.serve_tests.proofs.hall.shared.asks_all.Given as goal

-- the run that begins here
abbrev pub ghosts-asks_at_once : goal.ghosts-asks_at_once
ghosts-asks_at_once g a = record { roll = a.history; opening = record { meaning = g.D.Desk.meaning a.desk; limits = a.talk.limits } }
