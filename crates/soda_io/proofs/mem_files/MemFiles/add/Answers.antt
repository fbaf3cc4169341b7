use Rattle.soda_io.proofs.mem_files.MemFiles.add.Goals as goal

pub invariant_of-self-clause-held : goal.invariant_of-self-clause-held
invariant_of-self-clause-held c = λ k lt. c.put.ensures.none_lost _ (c.args.self.now.held k lt)
