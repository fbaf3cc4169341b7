use Rattle.std.proofs.Common.{◌≡◌, ◌+◌, ◌-◌, ◌≤◌, ◌++◌, length, take, ◌∙◌, arith}
use Rattle.std.proofs.lemmas.List.{with_items_is}
use Rattle.bursts.specs.Readers.{kind}
use borrow.Rule.Slice.PartMut.{post_of}
use Rattle.file_modules.proofs.Fired.{blanked, holds_lanes, holds_range, put_size, wanted_at}
use Rattle.file_modules.proofs.Lanes.{part_size}
use Rattle.file_modules.proofs.source.SourceModule.fire.Goals as goal

pub returns-clause-sent : goal.returns-clause-sent
returns-clause-sent g c = λ told fine.
    let m = c.args.self.now in
    let a = c.first_lane-first.result in
    let n = c.cell_count-count.result in
    let xs = c.deref_mut.result.now in
    let room : a + n ≤ length xs = omega (arith, c.deref_mut.ensures.len, c.fill.ensures.len, c.cell_count-count.ensures.within) in
    let block = c.next_block.new.out in
    let size : length block ≡ n = c.next_block.auto.out ∙ part_size xs a n room in
    let blank = blanked xs _ _ m.unroll c.deref_mut.ensures.value (c.fill.ensures.items (λ y h. h)) m.whole in
    let ws = take a xs ++ (block ++ post_of a (a + n - a) xs) in
    let held = with_items_is c.fill.new.self ws (put_size xs block a n room size ∙ c.deref_mut.ensures.len) in
    holds_lanes m.unroll a (a + n - a) xs block _ blank held (kind m.reader) _ m.cells m.delay c.args.firing _ n m.of_reader c.first_lane-first.ensures
    c.cell_count-count.ensures.value c.cell_count-count.ensures.behind size (omega arith) (c.requires.count fine) c.next_block.result
    (c.next_block.ensures.block told fine)

pub returns-clause-range : goal.returns-clause-range
returns-clause-range g c =
    let m = c.args.self.now in
    let a = c.first_lane-first.result in
    let n = c.cell_count-count.result in
    let xs = c.deref_mut.result.now in
    let room : a + n ≤ length xs = omega (arith, c.deref_mut.ensures.len, c.fill.ensures.len, c.cell_count-count.ensures.within) in
    let block = c.next_block.new.out in
    let size : length block ≡ n = c.next_block.auto.out ∙ part_size xs a n room in
    let blank = blanked xs _ _ m.unroll c.deref_mut.ensures.value (c.fill.ensures.items (λ y h. h)) m.whole in
    let ws = take a xs ++ (block ++ post_of a (a + n - a) xs) in
    let held = with_items_is c.fill.new.self ws (put_size xs block a n room size ∙ c.deref_mut.ensures.len) in
    holds_range m.unroll a (a + n - a) xs block _ blank held _ c.next_block.result c.next_block.ensures.range

pub returns-clause-store : goal.returns-clause-store
returns-clause-store g c = λ told.
    let a = c.first_lane-first.result in
    let n = c.cell_count-count.result in
    let xs = c.deref_mut.result.now in
    let room : a + n ≤ length xs = omega (arith, c.deref_mut.ensures.len, c.fill.ensures.len, c.cell_count-count.ensures.within) in
    wanted_at _ _ _ _ _ _ _ _ _ _ _ _ (λ fine. omega (arith, c.requires.count fine, part_size xs a n room, c.cell_count-count.ensures.behind))
    (c.next_block.ensures.quiet told) (c.next_block.ensures.store told)
