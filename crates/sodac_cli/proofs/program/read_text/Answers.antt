use Rattle.std.proofs.Common.{[]}
use Rattle.job_files.proofs.CallerLemmas.{begin}
use Rattle.sodac_cli.proofs.Reading.{text_ends, text_goes, text_opened, unopened_fault, unopened_memory}
use Rattle.sodac_cli.proofs.program.read_text.Goals as goal

pub read_next-requires-clause-opened : goal.read_next-requires-clause-opened
read_next-requires-clause-opened g c = λ told.
    let first = g.F.Files.given c.args.files.now in
    let begun = g.F.Files.store c.args.files.now in
    text_opened first begun c.args.name.now _ _ c.in-Ok.id (λ f e. c.in-Ok.ensures.journal told first begun [] 0 (λ n. 0) f e (begin first begun))

pub returns-in-Ok-clause-goes : goal.returns-in-Ok-clause-goes
returns-in-Ok-clause-goes g c = λ told.
    let first = g.F.Files.given c.args.files.now in
    let begun = g.F.Files.store c.args.files.now in
    text_goes first begun c.args.name.now _ _ c.in-Ok.id (λ f e. c.in-Ok.ensures.journal told first begun [] 0 (λ n. 0) f e (begin first begun))
    (c.in-Ok.ensures.bytes told) (c.in-Ok.ensures.there told) _ _ (c.read_next.ensures.bytes told) c.read_next.result
    (c.read_next.ensures.journal told first begun) (c.read_next.ensures.whole told) c.read_next.ensures.short

pub returns-in-Ok-clause-ends : goal.returns-in-Ok-clause-ends
returns-in-Ok-clause-ends g c = λ told.
    let first = g.F.Files.given c.args.files.now in
    let begun = g.F.Files.store c.args.files.now in
    text_ends first begun c.args.name.now _ _ c.in-Ok.id (λ f e. c.in-Ok.ensures.journal told first begun [] 0 (λ n. 0) f e (begin first begun))
    (c.in-Ok.ensures.bytes told) (c.in-Ok.ensures.there told) _ _ (c.read_next.ensures.bytes told) c.read_next.result
    (c.read_next.ensures.journal told first begun) (c.read_next.ensures.too_long told)

pub returns-in-Err-Failed-clause-ends : goal.returns-in-Err-Failed-clause-ends
returns-in-Err-Failed-clause-ends g c = λ told a named built.
    let first = g.F.Files.given c.args.files.now in
    let begun = g.F.Files.store c.args.files.now in
    unopened_fault first begun c.args.name.now _ _ (c.in-Err-Failed.ensures.bytes told) c.in-Err-Failed.field-0
    (λ f e. c.in-Err-Failed.ensures.journal told first begun [] 0 (λ n. 0) f e (begin first begun)) a named built c.in-Err-Failed.field-0-is

pub returns-in-Err-Memory-clause-ends : goal.returns-in-Err-Memory-clause-ends
returns-in-Err-Memory-clause-ends g c = λ told a named built.
    let first = g.F.Files.given c.args.files.now in
    let begun = g.F.Files.store c.args.files.now in
    unopened_memory first begun c.args.name.now _ _ (c.in-Err-Memory.ensures.bytes told) c.in-Err-Memory.field-0
    (λ f e. c.in-Err-Memory.ensures.journal told first begun [] 0 (λ n. 0) f e (begin first begun)) a named built c.in-Err-Memory.field-0-is
