use Rattle.std.proofs.Common.{arith, rules, pos, slice_index_or}
use Rattle.int_types.specs.Ranges.{InRange}
use Rattle.run_rows.proofs.Fronts.{values_more}
use Rattle.run_rows.proofs.tests.fit.+behind_values.Goals as goal

pub returns-then-in_range : goal.returns-then-in_range
returns-then-in_range t c =
    let fits : InRange c.args.ty (slice_index_or c.args.values.now 0 (pos 0)) = search rules in
    values_more c.args.ty c.args.count c.args.values.now c.behind_values.result (omega (arith, c.if-count-eq0.false)) (omega (arith, c.in-len1-up.len_at_least)) fits c.behind_values.ensures
