use Rattle.tac_proxy.proofs.ProxyLaws.{reads_once, reads_stay, reads_whole, need_short, line_read}
use Rattle.tac_proxy.proofs.VectorFacts.{vectors_law}
use Rattle.tac_proxy.proofs.WrittenFacts.{call_read}
use Rattle.tac_proxy.proofs.reading.read_proxy.Goals as goal

pub returns-clause-only : goal.returns-clause-only
returns-clause-only c = λ other read. reads_once c.args.bytes.now other c.read_front.result read c.read_front.ensures

pub returns-clause-stays : goal.returns-clause-stays
returns-clause-stays c = λ decided more. reads_stay c.args.bytes.now more c.read_front.result decided c.read_front.ensures

pub returns-clause-whole : goal.returns-clause-whole
returns-clause-whole c = reads_whole c.args.bytes.now c.read_front.result c.read_front.ensures

pub returns-clause-few : goal.returns-clause-few
returns-clause-few c = need_short c.args.bytes.now c.read_front.result c.read_front.ensures

pub returns-clause-line : goal.returns-clause-line
returns-clause-line c = line_read c.args.bytes.now c.read_front.result c.read_front.ensures

pub returns-clause-vectors : goal.returns-clause-vectors
returns-clause-vectors c = vectors_law

pub returns-clause-call : goal.returns-clause-call
returns-clause-call c = call_read c.args.bytes.now c.read_front.result c.read_front.ensures
