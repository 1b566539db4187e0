use Rattle.tac_net.proofs.program.serve.Given as goal

abbrev pub ghosts-serve_run : goal.ghosts-serve_run
ghosts-serve_run g a = record { roll = a.desk.history; opening = record { meaning = g.D.Desk.meaning a.desk.desk; limits = a.settings.now.limits } }
