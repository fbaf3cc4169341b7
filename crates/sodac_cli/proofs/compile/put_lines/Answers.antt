use Rattle.sodac_cli.proofs.Compiled.{made_done, made_memory, made_unprinted}
use Rattle.sodac_cli.proofs.compile.put_lines.Goals as goal

pub returns-in-Ok-clause-runs : goal.returns-in-Ok-clause-runs
returns-in-Ok-clause-runs g c = λ first begun a p given now text is_text m. made_done first begun a p given now text is_text m

pub returns-in-Err-Failed-clause-runs : goal.returns-in-Err-Failed-clause-runs
returns-in-Err-Failed-clause-runs g c = λ first begun a p given now text is_text m. made_unprinted first begun a p given now text is_text m

pub returns-in-Err-Memory-clause-runs : goal.returns-in-Err-Memory-clause-runs
returns-in-Err-Memory-clause-runs g c = λ first begun a p given now text is_text m. made_memory first begun a p given now text is_text m
