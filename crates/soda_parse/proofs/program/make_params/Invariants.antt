use Rattle.std.proofs.Common.{◌≡◌, map, take}
use Rattle.soda_ir.specs.Program.{plain_param}
use Rattle.soda_parse.specs.Meaning.{param_of}
use Rattle.soda_parse.proofs.program.make_params.Given as goal

abbrev pub invariant-loop-line : goal.invariant-loop-line
invariant-loop-line l = map plain_param l.params ≡ map param_of (take l.line-index l.lines)
