use Rattle.std.proofs.Common.{[], refl}
use Rattle.job_files.proofs.CallerLemmas.{begin}
use Rattle.sodac_cli.specs.Work.{params_file}
use Rattle.sodac_cli.proofs.ParamsRead.{lines_ends, lines_goes, unopened_fault, unopened_memory}
use Rattle.sodac_cli.proofs.Reading.{text_opened}
use Rattle.sodac_cli.proofs.params.read_lines.Goals as goal

pub read_next-requires-clause-opened : goal.read_next-requires-clause-opened
read_next-requires-clause-opened g c = λ told.
    let first = g.F.Files.given c.args.files.now in
    let begun = g.F.Files.store c.args.files.now in
    text_opened first begun c.args.name.now _ _ c.in-Ok.id (λ f e. c.in-Ok.ensures.journal told first begun [] 0 (λ n. 0) f e (begin first begun))

pub returns-in-Ok-clause-goes : goal.returns-in-Ok-clause-goes
returns-in-Ok-clause-goes g c = λ told.
    lines_goes c.args.name.now (g.F.Files.given c.args.files.now) (g.F.Files.store c.args.files.now) _ _ c.in-Ok.id (c.in-Ok.ensures.journal told)
    (c.in-Ok.ensures.bytes told) (c.in-Ok.ensures.there told) _ _ (c.read_next.ensures.bytes told) c.read_next.result
    (c.read_next.ensures.journal told) (c.read_next.ensures.whole told) c.read_next.ensures.short

pub returns-in-Ok-clause-ends : goal.returns-in-Ok-clause-ends
returns-in-Ok-clause-ends g c = λ told.
    lines_ends c.args.name.now (g.F.Files.given c.args.files.now) (g.F.Files.store c.args.files.now) _ _ c.in-Ok.id (c.in-Ok.ensures.journal told)
    (c.in-Ok.ensures.bytes told) (c.in-Ok.ensures.there told) _ _ (c.read_next.ensures.bytes told) c.read_next.result
    (c.read_next.ensures.journal told) (c.read_next.ensures.too_long told)

pub returns-in-Err-Failed-clause-ends : goal.returns-in-Err-Failed-clause-ends
returns-in-Err-Failed-clause-ends g c = λ told first begun a p named judged w.
    unopened_fault first begun a p c.args.name.now named judged _ _ w _ _ (c.in-Err-Failed.ensures.bytes told) c.in-Err-Failed.field-0
    (c.in-Err-Failed.ensures.journal told first begun _ 1 w.asked.places (params_file c.args.name.now) refl w.asked.progress) c.in-Err-Failed.field-0-is

pub returns-in-Err-Memory-clause-ends : goal.returns-in-Err-Memory-clause-ends
returns-in-Err-Memory-clause-ends g c = λ told first begun a p named judged w.
    unopened_memory first begun a p c.args.name.now named judged _ _ w _ _ (c.in-Err-Memory.ensures.bytes told) c.in-Err-Memory.field-0
    (c.in-Err-Memory.ensures.journal told first begun _ 1 w.asked.places (params_file c.args.name.now) refl w.asked.progress) c.in-Err-Memory.field-0-is
