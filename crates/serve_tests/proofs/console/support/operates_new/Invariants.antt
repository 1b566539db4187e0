use Rattle.serve_tests.proofs.console.support.operates_new.Given as goal

-- the run that begins here
abbrev pub ghosts-operates_of : goal.ghosts-operates_of
ghosts-operates_of g a = record { roll = a.history; opening = record { meaning = g.D.Desk.meaning a.desk; limits = a.course.limits } }
