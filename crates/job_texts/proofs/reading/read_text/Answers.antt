use Rattle.job_texts.proofs.OneText.{text_long, text_opened, text_read, text_whole, unopened_fault, unopened_memory}
use Rattle.job_texts.proofs.reading.read_text.Goals as goal

pub read_next-requires-clause-opened : goal.read_next-requires-clause-opened
read_next-requires-clause-opened g c = λ told. text_opened c.args.name.now _ _ _ _ c.in-Ok.id (c.in-Ok.ensures.journal told)

pub returns-in-Ok-clause-whole : goal.returns-in-Ok-clause-whole
returns-in-Ok-clause-whole g c = λ told.
    text_whole c.args.name.now _ _ _ _ c.in-Ok.id (c.in-Ok.ensures.journal told) (c.in-Ok.ensures.bytes told) (c.in-Ok.ensures.there told)
    c.read_next.result (c.read_next.ensures.whole told)

pub returns-in-Ok-clause-too_long : goal.returns-in-Ok-clause-too_long
returns-in-Ok-clause-too_long g c = λ told.
    text_long c.args.name.now _ _ _ _ c.in-Ok.id (c.in-Ok.ensures.journal told) (c.in-Ok.ensures.bytes told) (c.in-Ok.ensures.there told)
    c.args.most c.read_next.result (c.read_next.ensures.too_long told)

pub returns-in-Ok-clause-journal : goal.returns-in-Ok-clause-journal
returns-in-Ok-clause-journal g c = λ told first begun files places f is p.
    text_read c.args.name.now _ _ _ _ c.in-Ok.id (c.in-Ok.ensures.journal told) c.args.most _ _ c.read_next.result (c.read_next.ensures.journal told)
    first begun files places f is p

pub returns-in-Err-Failed-clause-journal : goal.returns-in-Err-Failed-clause-journal
returns-in-Err-Failed-clause-journal g c = λ told first begun files places f is p.
    unopened_fault first begun files places _ _ f p c.args.most _ _ c.in-Err-Failed.field-0
    (c.in-Err-Failed.ensures.journal told first begun files _ places f is p) c.in-Err-Failed.field-0-is

pub returns-in-Err-Memory-clause-journal : goal.returns-in-Err-Memory-clause-journal
returns-in-Err-Memory-clause-journal g c = λ told first begun files places f is p.
    unopened_memory first begun files places _ _ f p c.args.most _ _ c.in-Err-Memory.field-0
    (c.in-Err-Memory.ensures.journal told first begun files _ places f is p) c.in-Err-Memory.field-0-is
