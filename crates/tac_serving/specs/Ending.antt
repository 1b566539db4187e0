-- With which status a server ends.
use Rattle.std.specs.Prelude.{Result, Ok, Err}
use Rattle.tac_net.specs.declared.fault.ServeFault.{ServeFault}
use Rattle.tac_net.specs.declared.fault.ServeFault.TheVariants as serving
use Rattle.tac_run.specs.declared.status.Status.{Status}
use Rattle.tac_run.specs.declared.status.Status.TheVariants.{OutOfMemory, Failed}

-- a thread that can't be made counts as memory does: the machine has too little for the workers
abbrev pub status_of_serving : ServeFault → Status
status_of_serving serving.Memory = OutOfMemory
status_of_serving serving.Threads = OutOfMemory
status_of_serving serving.Descriptors = OutOfMemory
status_of_serving serving.ReadFault = Failed
status_of_serving serving.WriteFault = Failed
status_of_serving serving.CloseRefused = Failed

-- how a server ends that was stopped at its console, or wasn't
abbrev pub end_of_serving : Result (Unit {0}) ServeFault → Result (Unit {0}) Status
end_of_serving (Ok stopped) = Ok stopped
end_of_serving (Err fault) = Err (status_of_serving fault)
