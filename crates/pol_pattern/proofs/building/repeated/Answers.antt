use Rattle.std.proofs.Common.{refl}
use Rattle.pol_pattern.proofs.Values.{term_value-append}
use Rattle.pol_pattern.proofs.building.repeated.Goals as goal

pub returns-in_ok-push-in-Plus : goal.returns-in_ok-push-in-Plus
returns-in_ok-push-in-Plus c = rw (c.in_ok-push-in-Plus.ensures.items, term_value-append, c.in_ok-star-in-Plus.ensures, c.in_ok-copy-in-Plus.ensures, c.deref.ensures.value, c.in-Plus.is) refl
