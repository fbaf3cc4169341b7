use Rattle.flow_solve.proofs.walks.zeros.Goals as goal

pub returns : goal.returns
returns c = c.in_ok-lengths.ensures.items_if_clones_equal (λ y same. same)
