-- The definitions at small files, by computation.
use Rattle.std.proofs.Common.{◌≡◌, [], ◌∷◌, Some, None, pos, negsuc, codes, refl, true, false}
use Rattle.std.specs.Fmt.{digits}
use Rattle.soda_words.specs.IntType.{IntType}
use Rattle.array_bytes.specs.Sizes.{cell_size}
use Rattle.array_bytes.specs.Runs.{runs, ended_runs, open_run, whole_cells}
use Rattle.array_bytes.specs.Values.{is_cell, text_value, raw_value, is_of}
use Rattle.array_bytes.specs.Arrays.{first_fault, good_cells, raw_shown, text_shown}
use Rattle.array_bytes.specs.Written.{array_bytes, begun, raw_bytes}
use Rattle.array_bytes.specs.declared.form.Form.TheVariants.{Text, Raw}
use Rattle.array_bytes.specs.declared.fault.CellFault.TheVariants.{BadCell, CellRange, TooFew, TooMany, TooLong}

uint8 : IntType
uint8 = record { signed = false; bits = 8 }

int16 : IntType
int16 = record { signed = true; bits = 16 }

-- without a final line feed, too few, too many, out of range, bad
whole : (good_cells Text uint8 3 (codes "1 2 4") ≡ pos 1 ∷ pos 2 ∷ pos 4 ∷ []) × (first_fault Text uint8 3 (codes "1 2 4") ≡ None)
unfolding uint8 good_cells first_fault text_shown runs ended_runs text_value is_cell is_of
whole = (refl, refl)

faults : (first_fault Text uint8 3 (codes "1 2\n") ≡ Some (TooFew 2)) × (first_fault Text uint8 3 (codes "1 2 4 8") ≡ Some TooMany)
    × (first_fault Text uint8 3 (codes "1 256 4") ≡ Some (CellRange 1)) × (first_fault Text uint8 3 (codes "1 x 4") ≡ Some (BadCell 1))
    × (first_fault Text uint8 1 (codes "-") ≡ Some (BadCell 0)) × (first_fault Text uint8 0 (codes "x") ≡ Some TooMany)
unfolding uint8 first_fault text_shown runs ended_runs text_value is_cell is_of
faults = (refl, refl, refl, refl, refl, refl)

raw_faults : (first_fault Raw uint8 5 (1 ∷ 2 ∷ 4 ∷ []) ≡ Some (TooFew 3)) × (good_cells Raw int16 1 (254 ∷ 255 ∷ []) ≡ negsuc 1 ∷ [])
    × (first_fault Raw int16 1 (254 ∷ 255 ∷ 0 ∷ []) ≡ Some TooMany)
unfolding uint8 int16 first_fault good_cells raw_shown whole_cells cell_size raw_value is_of
raw_faults = (refl, refl, refl)

lines : (array_bytes Text uint8 3 (pos 0 ∷ pos 4 ∷ pos 0 ∷ pos 0 ∷ pos 10 ∷ pos 0 ∷ []) ≡ codes "0 4 0\n0 10 0\n")
    × (array_bytes Text int16 1 (negsuc 9 ∷ negsuc 13 ∷ []) ≡ codes "-10\n-14\n") × (array_bytes Text uint8 3 [] ≡ [])
    × (array_bytes Raw int16 1 (negsuc 1 ∷ pos 258 ∷ []) ≡ 254 ∷ 255 ∷ 2 ∷ 1 ∷ [])
unfolding uint8 int16 array_bytes begun raw_bytes cell_size digits
lines = (refl, refl, refl, refl)
