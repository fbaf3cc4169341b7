use Rattle.std.proofs.Common.{refl}
use Rattle.bench_cycles.proofs.run.run_cycles.Goals as goal

pub loop-cycle-init : goal.loop-cycle-init
loop-cycle-init c = record { network = refl; streams = λ stream law. c.requires.streams stream }
