use Rattle.std.proofs.Common.{sym}
use Rattle.tac_server.proofs.EventFacts.{fields_of-split, fields_of-whole}
use Rattle.tac_server.proofs.event.first_field.Goals as goal

pub returns-in-Some-clause-fields : goal.returns-in-Some-clause-fields
returns-in-Some-clause-fields c = fields_of-split c.args.text.now c.in-Some.field.now c.in-Some.rest.now (sym c.in-Some.ensures.parts)

pub returns-in-None-clause-fields : goal.returns-in-None-clause-fields
returns-in-None-clause-fields c = fields_of-whole c.args.text.now (sym c.in-None.ensures.parts)
