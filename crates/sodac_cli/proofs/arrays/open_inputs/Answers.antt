use Rattle.job_files.specs.Files.{names_of}
use Rattle.sodac_cli.specs.Work.{input_names, text_count}
use Rattle.sodac_cli.proofs.Numbered.{asks_inputs}
use Rattle.sodac_cli.proofs.Opened.{inputs_fault, inputs_memory, inputs_opened}
use Rattle.sodac_cli.proofs.arrays.open_inputs.Goals as goal

pub returns-in-Ok-clause-goes : goal.returns-in-Ok-clause-goes
returns-in-Ok-clause-goes g c = λ told first begun a p values same s.
    inputs_opened first begun a p values _ _ s _ _ (c.in-Ok.ensures.bytes told) c.in-Ok.ids
    (c.in-Ok.ensures.journal told first begun _ (text_count a) s.asked.places _ (asks_inputs (names_of c.args.names.now) (input_names a p) same) s.asked.progress)
    (names_of c.args.names.now) same (c.in-Ok.ensures.there told)

pub returns-in-Err-Failed-clause-ends : goal.returns-in-Err-Failed-clause-ends
returns-in-Err-Failed-clause-ends g c = λ told first begun a p values same s.
    inputs_fault first begun a p values _ _ s _ _ (c.in-Err-Failed.ensures.bytes told) c.in-Err-Failed.field-0 c.in-Err-Failed.number c.in-Err-Failed.field-0-is
    (c.in-Err-Failed.ensures.journal told first begun _ (text_count a) s.asked.places _ (asks_inputs (names_of c.args.names.now) (input_names a p) same)
    s.asked.progress)

pub returns-in-Err-Memory-clause-ends : goal.returns-in-Err-Memory-clause-ends
returns-in-Err-Memory-clause-ends g c = λ told first begun a p values same s.
    inputs_memory first begun a p values _ _ s _ _ (c.in-Err-Memory.ensures.bytes told) c.in-Err-Memory.field-0 c.in-Err-Memory.field-0-is
    (c.in-Err-Memory.ensures.journal told first begun _ (text_count a) s.asked.places _ (asks_inputs (names_of c.args.names.now) (input_names a p) same)
    s.asked.progress)
