-- The search for a compound that is shift-equal to another.
use Rattle.std.specs.Prelude.{Bool, List, [], ◌∷◌, Option, Some, None, nat_le, if◌then◌else◌}
use Rattle.soda_ir.specs.Formula.{Formula}
use Rattle.soda_ir.specs.Program.{PlainTensor}
use Rattle.share_shape.specs.Compounds.{Site}
use Rattle.share_shape.specs.Counts.{tensor_hits, total}

-- the formula stands in these tensors at least twice
abbrev pub is_twice : List PlainTensor → Formula → Bool
is_twice ts c = nat_le 2 (total (tensor_hits c) ts)

-- the first of these that passes
abbrev pub first_passing : (Formula → Bool) → List Formula → Option Formula
first_passing test [] = None
first_passing test (f ∷ fs) = if test f then Some f else first_passing test fs

-- the first of these compounds that passes
abbrev pub site_passing : (Formula → Bool) → List Site → Option Site
site_passing test [] = None
site_passing test (s ∷ ss) = if test s.compound then Some s else site_passing test ss
