use Rattle.std.proofs.Common.{◌≡◌, take, map, vec_len}
use Rattle.int_types.specs.Ranges.{wrapped}
use Rattle.file_modules.proofs.sink.wrap_all.Given as goal

abbrev pub invariant-loop-i : goal.invariant-loop-i
invariant-loop-i l = record {
  front : take l.i l.block.items ≡ map (wrapped l.ty) (take l.i l.values);
  size : vec_len l.block ≡ vec_len l.initial.block;
}
