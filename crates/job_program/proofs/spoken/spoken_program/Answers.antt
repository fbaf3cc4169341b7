use Rattle.std.proofs.Common.{refl}
use Rattle.soda_ir.specs.Program.{plain}
use Rattle.job_program.proofs.Shared.{all_arrays, arrays_of_text, refused_of_text}
use Rattle.job_program.proofs.spoken.spoken_program.Goals as goal

pub returns-then-share-clause-arrays : goal.returns-then-share-clause-arrays
returns-then-share-clause-arrays c =
    all_arrays c.args.most c.args.text.now (plain c.in-Ok.program) c.in-Ok.ensures.only (λ q. plain q) c.shared_program.result c.shared_program.ensures.arrays

pub returns-then-share-clause-refused : goal.returns-then-share-clause-refused
returns-then-share-clause-refused c =
    refused_of_text c.args.most c.args.share c.args.text.now (plain c.in-Ok.program) c.if-share.true c.in-Ok.ensures.accepted c.shared_program.result
    c.shared_program.ensures.refused

pub returns-else-share-clause-arrays : goal.returns-else-share-clause-arrays
returns-else-share-clause-arrays c =
    arrays_of_text c.args.most c.args.text.now (plain c.in-Ok.program) c.in-Ok.ensures.only (plain c.in-Ok.program) (λ rows params inputs. refl)
