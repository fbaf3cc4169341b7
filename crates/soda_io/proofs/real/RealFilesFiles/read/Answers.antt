use Rattle.soda_io.proofs.real.RealFilesFiles.read.Goals as goal

pub returns-in-Some-clause-store : goal.returns-in-Some-clause-store
returns-in-Some-clause-store g c = λ no. absurd no

pub returns-in-None-clause-store : goal.returns-in-None-clause-store
returns-in-None-clause-store g c = λ no. absurd no
