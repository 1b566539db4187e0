use Rattle.pol_update.proofs.Spelled.{spelled}
use Rattle.pol_update.proofs.writing.write_edit.Goals as goal

pub returns-clause-spelled : goal.returns-clause-spelled
returns-clause-spelled c = λ policy made w h. spelled policy made c.args.edit.now c.in_ok-write_words.ensures.names w h
