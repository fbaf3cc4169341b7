use Rattle.net_ir.specs.States.{zeros}
use Rattle.net_ir.proofs.Steps.{IsLawful-run, IsLawful-zeros}
use Rattle.net_ir.proofs.laws.runs_are_lawful.Goals as goal

pub returns : goal.returns
returns c = λ net firings ms end run. IsLawful-run net firings ms (zeros net) end (IsLawful-zeros net firings) run
