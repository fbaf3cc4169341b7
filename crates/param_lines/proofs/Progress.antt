-- Reading the lines of a file in turn.
use Rattle.std.proofs.Common.{◌≡◌, ℕ, ◌+◌, ◌<◌, ◌≤◌, true, false, List, [], ◌∷◌, ◌++◌, map, length, take, drop, slice_index_or, Option, ℤ, refl, sym, ◌∙◌, ap, arith, ⊎_elim, length-drop}
use Rattle.std.proofs.lemmas.Bool.{cases_lt}
use Rattle.std.proofs.lemmas.List.{drop_more, take_all, take_more}
use Rattle.array_bytes.specs.Runs.{runs}
use Rattle.soda_ir.specs.Program.{PlainParam}
use Rattle.param_lines.specs.Lines.{lines, rows_of}
use Rattle.param_lines.specs.Params.{AreAllFine, IsFirstWrong, is_fine, is_fine_at, values_at}
use Rattle.param_lines.specs.pieces.Slots.{are_apart, are_taken, slots_with}
use Rattle.param_lines.proofs.Named.{slots_read, taken_fine}

-- so many lines are read, all fine, and the slots have what they give
pub record AreRowsRead (ps : List PlainParam) (bytes rest : List ℕ) (number : ℕ) (slots : List (Option (List ℤ))) : Type 0 where
  pub few : number + length rest ≤ length bytes
  pub others : drop number (rows_of bytes) ≡ rows_of rest
  pub fine : (j : ℕ) → j < number → is_fine_at ps (rows_of bytes) j ≡ true
  pub kept : slots ≡ map (values_at (take number (rows_of bytes))) ps

pub none_read : (ps : List PlainParam) (bytes : List ℕ) (slots : List (Option (List ℤ))) → slots ≡ map (values_at []) ps → AreRowsRead ps bytes bytes 0 slots
none_read ps bytes slots e =
    record { few = omega arith; others = refl; fine = λ j l. absurd (omega arith); kept = e }

-- the next line
record IsNext (ps : List PlainParam) (bytes line after : List ℕ) (number : ℕ) : Type 0 where
  within : number < length (rows_of bytes)
  row : slice_index_or (rows_of bytes) number [] ≡ runs line
  others : drop (number + 1) (rows_of bytes) ≡ rows_of after

next : (ps : List PlainParam) (bytes rest line after : List ℕ) (number : ℕ) (slots : List (Option (List ℤ))) → AreRowsRead ps bytes rest number slots → lines rest ≡ line ∷ lines after → IsNext ps bytes line after number
next ps bytes rest line after number slots read cut =
    let here : drop number (rows_of bytes) ≡ runs line ∷ rows_of after = read.others ∙ ap (λ ls. map runs ls) cut in
    let lt : number < length (rows_of bytes) = omega (arith, length-drop number (rows_of bytes), ap length here) in
    let at = drop_more (rows_of bytes) number [] lt in
    record { within = lt; row = cc; others = cc }

same_row : (ps : List PlainParam) (bytes rest line after : List ℕ) (number : ℕ) (slots : List (Option (List ℤ))) → AreRowsRead ps bytes rest number slots → are_apart ps ≡ true → IsNext ps bytes line after number → are_taken ps slots (runs line) ≡ is_fine_at ps (rows_of bytes) number
same_row ps bytes rest line after number slots read apart is =
    ap (λ ss. are_taken ps ss (runs line)) read.kept
    ∙ (taken_fine ps (take number (rows_of bytes)) (runs line) apart
    ∙ ap (is_fine ps (take number (rows_of bytes))) (sym is.row))

-- one line more
pub row_more : (ps : List PlainParam) (bytes rest line after : List ℕ) (number : ℕ) (slots more : List (Option (List ℤ))) → AreRowsRead ps bytes rest number slots → are_apart ps ≡ true → lines rest ≡ line ∷ lines after → length after < length rest → are_taken ps slots (runs line) ≡ true → more ≡ slots_with ps slots (runs line) → AreRowsRead ps bytes after (number + 1) more
row_more ps bytes rest line after number slots more read apart cut short taken with =
    let is = next ps bytes rest line after number slots read cut in
    let here : is_fine_at ps (rows_of bytes) number ≡ true = sym (same_row ps bytes rest line after number slots read apart is) ∙ taken in
    let fine : is_fine ps (take number (rows_of bytes)) (runs line) ≡ true = ap (is_fine ps (take number (rows_of bytes))) (sym is.row) ∙ here in
    let longer : take (number + 1) (rows_of bytes) ≡ take number (rows_of bytes) ++ runs line ∷ [] = take_more (rows_of bytes) number [] is.within ∙ ap (λ r. take number (rows_of bytes) ++ r ∷ []) is.row in
    record {
      few = omega (arith, read.few);
      others = is.others;
      fine = λ j l. ⊎_elim (λ (k : j < number). read.fine j k) (λ (k : number ≤ j). let same : j ≡ number = omega arith in ap (is_fine_at ps (rows_of bytes)) same ∙ here) (cases_lt j number);
      kept = with ∙ (ap (λ ss. slots_with ps ss (runs line)) read.kept ∙ (slots_read ps (take number (rows_of bytes)) (runs line) apart fine ∙ ap (λ rows. map (values_at rows) ps) (sym longer)));
    }

-- a line that isn't fine
pub row_wrong : (ps : List PlainParam) (bytes rest line after : List ℕ) (number : ℕ) (slots : List (Option (List ℤ))) → AreRowsRead ps bytes rest number slots → are_apart ps ≡ true → lines rest ≡ line ∷ lines after → are_taken ps slots (runs line) ≡ false → IsFirstWrong ps (rows_of bytes) (number + 1)
row_wrong ps bytes rest line after number slots read apart cut refused =
    let is = next ps bytes rest line after number slots read cut in
    record {
      place = number;
      number = omega arith;
      within = is.within;
      wrong = sym (same_row ps bytes rest line after number slots read apart is) ∙ refused;
      fine_before = read.fine;
    }

-- all lines are read
pub record AreAll (ps : List PlainParam) (bytes : List ℕ) (slots : List (Option (List ℤ))) : Type 0 where
  pub fine : AreAllFine ps (rows_of bytes)
  pub kept : slots ≡ map (values_at (rows_of bytes)) ps

pub rows_ended : (ps : List PlainParam) (bytes rest : List ℕ) (number : ℕ) (slots : List (Option (List ℤ))) → AreRowsRead ps bytes rest number slots → length rest ≤ 0 → AreAll ps bytes slots
rows_ended ps bytes [] number slots read h =
    let many : length (rows_of bytes) ≤ number = omega (arith, length-drop number (rows_of bytes), ap length read.others) in
    record {
      fine = record { each = λ i l. read.fine i (omega arith) };
      kept = read.kept ∙ ap (λ rows. map (values_at rows) ps) (take_all number (rows_of bytes) many);
    }
rows_ended ps bytes (b ∷ rest) number slots read h = absurd (omega arith)
