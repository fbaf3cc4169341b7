use Rattle.soda_io.proofs.real.RealFilesFiles.open.Goals as goal

pub returns-in_err-make_room-clause-store : goal.returns-in_err-make_room-clause-store
returns-in_err-make_room-clause-store g c = λ no. absurd no

pub returns-clause-store : goal.returns-clause-store
returns-clause-store g c = λ no. absurd no
