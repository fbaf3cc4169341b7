-- What the bytes of a simulation's inputs say of its arrays: their good cells, and the arrays that go on from them.
use Rattle.std.specs.Prelude.{◌≡◌, ℕ, List, [], ◌∷◌, length, take, slice_index_or, ℤ}
use Rattle.soda_words.specs.IntType.{IntType}
use Rattle.soda_eval.specs.Runs.{HasArrays}
use Rattle.array_bytes.specs.Arrays.{good_cells}
use Rattle.array_bytes.specs.declared.form.Form.{Form}

-- the good cells of inputs of these types, each of n cells in one form, in order
abbrev pub goods_of : Form → ℕ → List IntType → (contents : List (List ℕ)) → List (List ℤ)
goods_of form n [] contents = []
goods_of form n (ty ∷ types) [] = []
goods_of form n (ty ∷ types) (bytes ∷ contents) = good_cells form ty n bytes ∷ goods_of form n types contents

-- how many they are, by the input's number
abbrev pub good_count : List (List ℤ) → (input : ℕ) → ℕ
good_count goods input = length (slice_index_or goods input [])

-- each array begins with the cells in its place
abbrev pub BeginWith : (goods arrays : List (List ℤ)) → Type 0
BeginWith [] arrays = Unit {0}
BeginWith (good ∷ goods) [] = ⊥
BeginWith (good ∷ goods) (cells ∷ arrays) = (take (length good) cells ≡ good) × BeginWith goods arrays

-- arrays of n cells in range for these types, each of which goes on from the good cells in its place
pub record GoOn (n : ℕ) (types : List IntType) (goods arrays : List (List ℤ)) : Type 0 where
  pub arrays_are : HasArrays n types arrays
  pub begin : BeginWith goods arrays

-- a prefix of a text
pub record IsFrontOf (bytes text : List ℕ) : Type 0 where
  pub count : ℕ
  pub is : bytes ≡ take count text
