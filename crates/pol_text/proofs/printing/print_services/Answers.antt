use Rattle.pol_text.proofs.PrintFacts.{services_more}
use Rattle.pol_text.proofs.printing.print_services.Goals as goal

pub lines-preserved : goal.lines-preserved
lines-preserved c =
    services_more c.args.text.now c.lines.text c.print_service.new.text c.args.lines.now c.lines.line-index c.line-item.result
    c.lines-test.true c.line-item.is c.lines.invariant c.in_ok-print_service.ensures
