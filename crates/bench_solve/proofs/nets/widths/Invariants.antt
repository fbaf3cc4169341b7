use Rattle.std.proofs.Common.{◌≡◌, ◌<◌, ◌^◌, length}
use Rattle.std.specs.List.{All}
use Rattle.delay_net.specs.Shape.{IsWidth}
use Rattle.bench_solve.proofs.nets.widths.Given as goal

-- widths alone so far
abbrev pub invariant-loop : goal.invariant-loop
invariant-loop l = record {
  seed : l.seed < 2 ^ 31;
  count : length l.widths.items ≡ l.counter;
  widths : All IsWidth l.widths.items;
}
