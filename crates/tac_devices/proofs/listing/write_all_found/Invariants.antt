use Rattle.tac_devices.proofs.ListingFacts.{SoFar}
use Rattle.tac_devices.proofs.listing.write_all_found.Given as goal

-- what is written so far, and then the rest's lines, are the lines of all
abbrev pub invariant-asked : goal.invariant-asked
invariant-asked l = SoFar l.devices l.asked l.one-index l.fn.out.items l.out.items l.all
