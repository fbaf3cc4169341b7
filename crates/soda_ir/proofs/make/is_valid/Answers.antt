use Rattle.soda_ir.specs.Program.{plain}
use Rattle.soda_ir.proofs.Groups.{countable}
use Rattle.soda_ir.proofs.make.is_valid.Goals as goal

pub tally-requires : goal.tally-requires
tally-requires c = countable (plain c.args.parts.now) (c.in_ok-is_sound.ensures.0 c.if-not-branch.false)
