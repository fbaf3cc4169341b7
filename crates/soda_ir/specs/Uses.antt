-- What a formula names: cells of tensors, and values of params.
use Rattle.std.specs.Prelude.{ℕ, suc, Bool, true, false, ◌&&◌, ◌==◌, nat_le, nat_lt, List, length, Some, None, slice_get, ℤ, unsigned_abs}
use Rattle.std.specs.List.{list_all}
use Rattle.soda_words.specs.Limits.{most_offset}
use Rattle.soda_ir.specs.Formula.{Formula, number, read, param, unary, binary, choice, cast}
use Rattle.soda_ir.specs.Points.{size}
use Rattle.soda_ir.specs.Program.{PlainProgram, PlainTensor}

-- a test of each cell of a tensor, and one of each param's value, in a formula
abbrev pub each_use : (ℕ → List ℤ → Bool) → (ℕ → ℕ → Bool) → Formula → Bool
each_use cells values (number n) = true
each_use cells values (read t o) = cells t o
each_use cells values (param k i) = values k i
each_use cells values (unary op a) = each_use cells values a
each_use cells values (binary op a b) = each_use cells values a && each_use cells values b
each_use cells values (choice c a b) = each_use cells values c && each_use cells values a && each_use cells values b
each_use cells values (cast t a) = each_use cells values a

-- no component is greater in magnitude than the limit of offsets
abbrev pub is_near : List ℤ → Bool
is_near o = list_all (λ d. nat_le (unsigned_abs d) most_offset) o

-- the tensor is there, and there is a component for each dimension, none of them too far
abbrev pub is_good_cell : PlainProgram → ℕ → List ℤ → Bool
is_good_cell p t o = nat_lt t (length p.tensors) && length o == suc (length p.extents) && is_near o

-- the param is there, and the place is one of its values
abbrev pub is_good_place : PlainProgram → ℕ → ℕ → Bool
is_good_place p k i = elim (slice_get p.params k) [ None ↦ false | Some q ↦ nat_lt i (size q.sizes) ]

-- a test of a tensor's formula, if it has one
abbrev pub formula_is : (Formula → Bool) → PlainTensor → Bool
formula_is test t = elim t.formula [ None ↦ true | Some f ↦ test f ]
