use Rattle.tac_console_client.proofs.HearingFacts.{hears}
use Rattle.tac_console_client.proofs.heard.Listening.new.Goals as goal

pub returns-clause-whole : goal.returns-clause-whole
returns-clause-whole c = hears
