use Rattle.std.proofs.Common.{length}
use Rattle.soda_eval.specs.Runs.{stencil_of}
use Rattle.soda_eval.proofs.Depth.{depth_means, one_cell, one_region}
use Rattle.soda_eval.proofs.Ranked.{rank, ranks, ranks_below}
use Rattle.soda_eval.proofs.laws.programs_have_meaning.Goals as goal

pub returns-clause-defined : goal.returns-clause-defined
returns-clause-defined c =
    λ p rows g params sound. depth_means (stencil_of p rows) g params (rank p) (ranks p sound rows) (length p.tensors) (ranks_below p sound)

pub returns-clause-one : goal.returns-clause-one
returns-clause-one c =
    λ p rows g params region value sound m x q. (one_region (stencil_of p rows) g params (rank p) (ranks p sound rows) region value m (length p.tensors) x q (ranks_below p sound x), one_cell (stencil_of p rows) g params (rank p) (ranks p sound rows) region value m (length p.tensors) x q (ranks_below p sound x))
