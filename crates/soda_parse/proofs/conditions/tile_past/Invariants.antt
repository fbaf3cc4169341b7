use Rattle.std.proofs.Common.{◌≡◌, ◌≤◌, drop}
use Rattle.soda_parse.specs.ProgramConditions.{first_past, partial_products}
use Rattle.soda_parse.proofs.conditions.tile_past.Given as goal

abbrev pub invariant-loop-extent : goal.invariant-loop-extent
invariant-loop-extent l =
    (l.product ≤ 16777216) × (first_past 16777216 (partial_products l.product (drop l.extent-index l.extents)) ≡
    first_past 16777216 (partial_products 1 l.extents))
