use Rattle.std.proofs.Common.{rules}
use Rattle.soda_io.specs.Mem.{mem_store}
use Rattle.bursts.specs.Readers.{kind}
use Rattle.cell_rows.proofs.Standing.{stands_by, stands_by_equal}
use Rattle.cell_rows.proofs.tests.reading.+read_blocks.Goals as goal

pub read_blocks-requires : goal.read_blocks-requires
read_blocks-requires t c =
    let stands = stands_by c.next_block.new.self (mem_store c.next_block.new.files) (kind c.args.reader.now) c.next_block.ensures.kind (c.next_block.ensures.stands tt) in
    (search rules, (c.requires.some, (search rules, (search rules, (stands, (c.in-Ok.ensures.fault, search rules))))))

pub returns-in-Ok-clause-stands : goal.returns-in-Ok-clause-stands
returns-in-Ok-clause-stands t c =
    stands_by_equal c.read_blocks.new.reader (mem_store c.read_blocks.new.files) (kind c.args.reader.now) (kind c.next_block.new.self) c.next_block.ensures.kind c.read_blocks.ensures.stands
