use Rattle.sodac_cli.proofs.Written.{empty_output, here, named_output, output_created, output_next, write_fault, write_memory, wrote}
use Rattle.sodac_cli.specs.Work.{input_count, text_count}
use Rattle.std.proofs.Common.{◌+◌}
use Rattle.sodac_cli.proofs.delivering.write_output.Goals as goal

pub write_array-requires-clause-created : goal.write_array-requires-clause-created
write_array-requires-clause-created g c = λ told.
    let r = c.requires.ready told in
    output_created r.0 r.1 r.2 r.3 r.4 r.5 c.args.number c.args.id c.args.ty c.args.layout c.args.cells.now _ _ r.6

pub returns-in-Ok-clause-goes : goal.returns-in-Ok-clause-goes
returns-in-Ok-clause-goes g c = λ told first begun a p values inputs w.
    let e = c.in-Ok.ensures in
    let x = here first begun a p values inputs c.args.number c.args.id c.args.ty c.args.layout c.args.cells.now _ _ w in
    let named = named_output first begun a p values inputs c.args.number c.args.id c.args.ty c.args.layout c.args.cells.now _ _ w in
    let empty = empty_output first begun a p values inputs c.args.number c.args.id c.args.ty c.args.layout c.args.cells.now _ _ w in
    let next = output_next first begun a p values inputs c.args.number c.args.id c.args.ty c.args.layout c.args.cells.now _ _ w in
    let puts = e.puts told begun.bytes x.front x.back _ named empty in
    wrote first begun a p values inputs c.args.number c.args.id c.args.ty c.args.layout c.args.cells.now _ _ w _ _ e.given _ puts puts.puts.all
    (e.journal told first begun _ _ w.writing.asked.places (text_count a + input_count p + c.args.number) w.id_is next w.writing.asked.progress)

pub returns-in-Err-Failed-clause-ends : goal.returns-in-Err-Failed-clause-ends
returns-in-Err-Failed-clause-ends g c = λ told first begun a p values inputs w.
    let e = c.in-Err-Failed.ensures in
    let x = here first begun a p values inputs c.args.number c.args.id c.args.ty c.args.layout c.args.cells.now _ _ w in
    let named = named_output first begun a p values inputs c.args.number c.args.id c.args.ty c.args.layout c.args.cells.now _ _ w in
    let empty = empty_output first begun a p values inputs c.args.number c.args.id c.args.ty c.args.layout c.args.cells.now _ _ w in
    let next = output_next first begun a p values inputs c.args.number c.args.id c.args.ty c.args.layout c.args.cells.now _ _ w in
    let puts = e.puts told begun.bytes x.front x.back _ named empty in
    write_fault first begun a p values inputs c.args.number c.args.id c.args.ty c.args.layout c.args.cells.now _ _ w _ _ e.given _ puts
    c.in-Err-Failed.field-0 c.in-Err-Failed.field-0-is
    (e.journal told first begun _ _ w.writing.asked.places (text_count a + input_count p + c.args.number) w.id_is next w.writing.asked.progress)

pub returns-in-Err-Memory-clause-ends : goal.returns-in-Err-Memory-clause-ends
returns-in-Err-Memory-clause-ends g c = λ told first begun a p values inputs w.
    let e = c.in-Err-Memory.ensures in
    let x = here first begun a p values inputs c.args.number c.args.id c.args.ty c.args.layout c.args.cells.now _ _ w in
    let named = named_output first begun a p values inputs c.args.number c.args.id c.args.ty c.args.layout c.args.cells.now _ _ w in
    let empty = empty_output first begun a p values inputs c.args.number c.args.id c.args.ty c.args.layout c.args.cells.now _ _ w in
    let next = output_next first begun a p values inputs c.args.number c.args.id c.args.ty c.args.layout c.args.cells.now _ _ w in
    let puts = e.puts told begun.bytes x.front x.back _ named empty in
    write_memory first begun a p values inputs c.args.number c.args.id c.args.ty c.args.layout c.args.cells.now _ _ w _ _ e.given _ puts
    c.in-Err-Memory.field-0 c.in-Err-Memory.field-0-is
    (e.journal told first begun _ _ w.writing.asked.places (text_count a + input_count p + c.args.number) w.id_is next w.writing.asked.progress)
