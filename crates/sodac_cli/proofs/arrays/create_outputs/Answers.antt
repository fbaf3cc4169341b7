use Rattle.std.proofs.Common.{[]}
use Rattle.job_files.specs.Files.{names_of}
use Rattle.sodac_cli.specs.Work.{output_names, text_count}
use Rattle.sodac_cli.proofs.Emptied.{names_apart, none_yet, outputs_fault, outputs_memory, outputs_ready}
use Rattle.sodac_cli.proofs.Numbered.{asks_outputs}
use Rattle.sodac_cli.proofs.arrays.create_outputs.Goals as goal

pub returns-in-Ok-clause-goes : goal.returns-in-Ok-clause-goes
returns-in-Ok-clause-goes g c = λ told first begun a p values same o.
    let names = c.args.names.now in
    let m = c.in-Ok.ensures.emptied told begun.bytes [] (none_yet first begun a p values _ _ o names same) (names_apart first begun a p values _ _ o names same) in
    outputs_ready first begun a p values _ _ o names same _ _ m.0 m.1 m.2 m.3 c.in-Ok.ids c.in-Ok.ensures.given
    (c.in-Ok.ensures.journal told first begun _ (text_count a) o.asked.places _ (asks_outputs (names_of names) (output_names a p) same) o.asked.progress)

pub returns-in-Err-Failed-clause-ends : goal.returns-in-Err-Failed-clause-ends
returns-in-Err-Failed-clause-ends g c = λ told first begun a p values same o.
    let names = c.args.names.now in
    let m = c.in-Err-Failed.ensures.emptied told begun.bytes [] (none_yet first begun a p values _ _ o names same) (names_apart first begun a p values _ _ o names same) in
    outputs_fault first begun a p values _ _ o names same _ _ m.0 m.1 m.2 m.3 c.in-Err-Failed.field-0 c.in-Err-Failed.number c.in-Err-Failed.field-0-is
    c.in-Err-Failed.ensures.given_failed
    (c.in-Err-Failed.ensures.journal told first begun _ (text_count a) o.asked.places _ (asks_outputs (names_of names) (output_names a p) same) o.asked.progress)

pub returns-in-Err-Memory-clause-ends : goal.returns-in-Err-Memory-clause-ends
returns-in-Err-Memory-clause-ends g c = λ told first begun a p values same o.
    let names = c.args.names.now in
    let m = c.in-Err-Memory.ensures.emptied told begun.bytes [] (none_yet first begun a p values _ _ o names same) (names_apart first begun a p values _ _ o names same) in
    outputs_memory first begun a p values _ _ o names same _ _ m.0 m.1 m.2 m.3 c.in-Err-Memory.field-0 c.in-Err-Memory.field-0-is
    (c.in-Err-Memory.ensures.journal told first begun _ (text_count a) o.asked.places _ (asks_outputs (names_of names) (output_names a p) same) o.asked.progress)
