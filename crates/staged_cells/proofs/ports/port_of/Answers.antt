use Rattle.std.proofs.Common.{◌≡◌, ◌&&◌, ◌==◌, true, false, take, get_or, sym, ◌∙◌, ap, subst, arith, pos, to_z, of_z}
use Rattle.std.specs.Int.{w128}
use Rattle.std.specs.List.{list_any}
use Rattle.std.specs.Ordering.{int_eq}
use Rattle.std.proofs.lemmas.Bool.{and_parts}
use Rattle.std.proofs.lemmas.Int.{to_z-of_z}
use Rattle.std.proofs.lemmas.List.{get_or_default}
use Rattle.delay_net.specs.declared.net.Read.{Read}
use Rattle.staged_cells.specs.Cells.{reads_by}
use Rattle.staged_cells.proofs.Places.{is_it, port_here, port_none}
use Rattle.staged_cells.proofs.ports.port_of.Goals as goal

pub returns-then-is_mine-is_read : goal.returns-then-is_mine-is_read
returns-then-is_mine-is_read c =
    let d : Read = record { reader = 0; of = 0; offset = pos 0 } in
    let i = c.loop-read.read-index in
    let r : Read = get_or c.args.reads.now i d in
    let same : to_z w128 (of_z w128 c.args.offset) ≡ c.args.offset = to_z-of_z w128 c.args.offset c.ranges.offset in
    let both = and_parts (r.reader == c.args.reader) c.is_read.result c.if-is_mine-is_read.true in
    let here : is_it c.args.of c.args.offset r ≡ true = sym (c.is_read.ensures ∙ ap (λ z. r.of == c.args.of && int_eq r.offset z) same) ∙ both.1 in
    let none : list_any (is_it c.args.of c.args.offset) (reads_by (take i c.args.reads.now) c.args.reader) ≡ false =
    subst (λ z. list_any (is_it c.args.of z) (reads_by (take i c.args.reads.now) c.args.reader) ≡ false) same c.loop-read.invariant.none in
    port_here c.args.reads.now c.args.reader c.args.of c.args.offset i c.loop-read.port r c.loop-read-test.true
    (get_or_default c.args.reads.now i d r c.loop-read-test.true) c.loop-read.invariant.port none both.0 here

pub returns : goal.returns
returns c =
    let i = c.loop-read.read-index in
    let same : to_z w128 (of_z w128 c.args.offset) ≡ c.args.offset = to_z-of_z w128 c.args.offset c.ranges.offset in
    let none : list_any (is_it c.args.of c.args.offset) (reads_by (take i c.args.reads.now) c.args.reader) ≡ false =
    subst (λ z. list_any (is_it c.args.of z) (reads_by (take i c.args.reads.now) c.args.reader) ≡ false) same c.loop-read.invariant.none in
    port_none c.args.reads.now c.args.reader c.args.of c.args.offset i c.loop-read.port (omega arith) c.loop-read.invariant.port none
