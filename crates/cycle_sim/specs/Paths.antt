-- What clauses see of the modules of a run.
use Rattle.soda_ir.specs.Program.{plain}
use Rattle.cycle_sim.specs.Settings.{Settings}
use Rattle.cycle_sim.specs.declared.path.FilePath.{FilePath}

-- what the run is about
abbrev pub settings : {U : Type 0} → FilePath U → Settings
settings d = record {
  program = plain d.program;
  delays = d.delays.items;
  rows = d.rows;
  params = d.params.items;
  form = d.form;
  run = d.run;
}
