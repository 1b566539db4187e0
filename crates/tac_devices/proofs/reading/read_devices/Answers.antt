use Rattle.tac_devices.proofs.ReadingFacts.{only_that}
use Rattle.tac_devices.proofs.TableFacts.{table_unless, few_unless}
use Rattle.tac_devices.proofs.reading.read_devices.Goals as goal

pub returns-clause-only : goal.returns-clause-only
returns-clause-only c = only_that c.args.text.now c.read_text.result c.read_text.ensures

pub returns-clause-table : goal.returns-clause-table
returns-clause-table c = table_unless c.args.text.now c.read_text.result c.read_text.ensures

pub returns-clause-few : goal.returns-clause-few
returns-clause-few c = few_unless c.args.text.now c.read_text.result c.read_text.ensures
