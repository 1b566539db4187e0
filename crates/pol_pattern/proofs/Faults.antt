-- Faults against the wanted answer, where memory may have run out.
use Rattle.std.proofs.Common.{◌≡◌, Bool, true, false, Result, Err, ap}
use Rattle.basics.specs.Memory.{Except}
use Rattle.pol_pattern.specs.declared.fault.PatternFault.{PatternFault}
use Rattle.pol_pattern.specs.Memory.{is_memory}
use Rattle.pol_pattern.specs.Reading.{◌>>=◌}

pub except_from : {P : Type 0} (b : Bool) → P → Except b P
except_from true p = tt
except_from false p = p

pub except_map : {P Q : Type 0} (b : Bool) → (P → Q) → Except b P → Except b Q
except_map true f h = tt
except_map false f h = f h

-- a fault that the reading gives
pub fails_as : {Y : Type 0} (fault : PatternFault) (read : Result Y PatternFault) → read ≡ Err fault → Except (is_memory fault) (read ≡ Err fault)
fails_as fault read is = except_from (is_memory fault) is

-- a fault stays where more would be read
pub fails_after : {X Y : Type 0} (fault : PatternFault) (read : Result X PatternFault) (f : X → Result Y PatternFault) → Except (is_memory fault) (read ≡ Err fault)
    → Except (is_memory fault) ((read >>= f) ≡ Err fault)
fails_after fault read f = except_map (is_memory fault) (ap (λ r. r >>= f))
