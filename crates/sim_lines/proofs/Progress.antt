-- Reading the lines of a stall file in turn.
use Rattle.std.proofs.Common.{◌≡◌, ℕ, ◌+◌, ◌<◌, ◌≤◌, suc, true, false, List, [], ◌∷◌, ◌++◌, map, length, Option, Some, None, option_map, refl, sym, ◌∙◌, ap, arith, append-nil, append_assoc, if◌then◌else◌}
use Rattle.std.specs.List.{filter_map}
use Rattle.std.proofs.lemmas.List.Elements.{filter_map-append}
use Rattle.array_bytes.specs.Runs.{runs}
use Rattle.soda_ir.specs.Program.{PlainProgram}
use Rattle.param_lines.specs.Lines.{lines, rows_of}
use Rattle.sim_lines.specs.declared.stall.Stall.{Stall}
use Rattle.sim_lines.specs.Stalls.{first_wrong, is_fine, stall_of}

-- a number, if there is one, with so many more
abbrev pub behind : ℕ → Option ℕ → Option ℕ
behind n o = option_map (λ k. k + n) o

-- so many lines are read, all fine, and the stalls that they list are there
pub record AreRead (p : PlainProgram) (bytes rest : List ℕ) (number : ℕ) (old now : List Stall) : Type 0 where
  pub few : number + length rest ≤ length bytes
  pub wrong : first_wrong p (rows_of bytes) ≡ behind number (first_wrong p (rows_of rest))
  pub listed : now ++ filter_map (stall_of p) (rows_of rest) ≡ old ++ filter_map (stall_of p) (rows_of bytes)

behind_none : (o : Option ℕ) → o ≡ behind 0 o
behind_none None = refl
behind_none (Some k) = ap (λ n. Some n) (omega arith)

pub none_read : (p : PlainProgram) (bytes : List ℕ) (old : List Stall) → AreRead p bytes bytes 0 old old
none_read p bytes old = record { few = omega arith; wrong = behind_none (first_wrong p (rows_of bytes)); listed = refl }

behind_more : (n : ℕ) (o : Option ℕ) → behind n (option_map suc o) ≡ behind (n + 1) o
behind_more n None = refl
behind_more n (Some k) = ap (λ n. Some n) (omega arith)

fine_passed : (p : PlainProgram) (n : ℕ) (row : List (List ℕ)) (rows : List (List (List ℕ))) → is_fine p row ≡ true → behind n (first_wrong p (row ∷ rows)) ≡ behind (n + 1) (first_wrong p rows)
fine_passed p n row rows h =
    ap (λ b. behind n (if b then option_map suc (first_wrong p rows) else Some 1)) h ∙ behind_more n (first_wrong p rows)

wrong_found : (p : PlainProgram) (n : ℕ) (row : List (List ℕ)) (rows : List (List (List ℕ))) → is_fine p row ≡ false → behind n (first_wrong p (row ∷ rows)) ≡ Some (n + 1)
wrong_found p n row rows h =
    ap (λ b. behind n (if b then option_map suc (first_wrong p rows) else Some 1)) h ∙ ap (λ n. Some n) (omega arith)

-- one line more
pub line_more : (p : PlainProgram) (bytes rest line after : List ℕ) (number : ℕ) (old now more : List Stall) → AreRead p bytes rest number old now → lines rest ≡ line ∷ lines after → length after < length rest → is_fine p (runs line) ≡ true → more ≡ now ++ filter_map (stall_of p) (runs line ∷ []) → AreRead p bytes after (number + 1) old more
line_more p bytes rest line after number old now more read cut short fine with =
    let rows : rows_of rest ≡ runs line ∷ rows_of after = ap (λ ls. map runs ls) cut in
    let listed = filter_map (stall_of p) in
    record {
      few = omega (arith, read.few);
      wrong = read.wrong ∙ ap (λ rs. behind number (first_wrong p rs)) rows ∙ fine_passed p number (runs line) (rows_of after) fine;
      listed =
          ap (λ ss. ss ++ listed (rows_of after)) with
          ∙ (append_assoc now (listed (runs line ∷ [])) (listed (rows_of after))
          ∙ (ap (λ ss. now ++ ss) (sym (filter_map-append (stall_of p) (runs line ∷ []) (rows_of after)) ∙ ap listed (sym rows))
          ∙ read.listed));
    }

-- a line that isn't fine
pub line_wrong : (p : PlainProgram) (bytes rest line after : List ℕ) (number : ℕ) (old now : List Stall) → AreRead p bytes rest number old now → lines rest ≡ line ∷ lines after → is_fine p (runs line) ≡ false → first_wrong p (rows_of bytes) ≡ Some (number + 1)
line_wrong p bytes rest line after number old now read cut refused =
    let rows : rows_of rest ≡ runs line ∷ rows_of after = ap (λ ls. map runs ls) cut in
    read.wrong ∙ ap (λ rs. behind number (first_wrong p rs)) rows ∙ wrong_found p number (runs line) (rows_of after) refused

-- all lines are read
pub record AreAll (p : PlainProgram) (bytes : List ℕ) (old now : List Stall) : Type 0 where
  pub fine : first_wrong p (rows_of bytes) ≡ None
  pub listed : now ≡ old ++ filter_map (stall_of p) (rows_of bytes)

pub all_read : (p : PlainProgram) (bytes rest : List ℕ) (number : ℕ) (old now : List Stall) → AreRead p bytes rest number old now → length rest ≤ 0 → AreAll p bytes old now
all_read p bytes [] number old now read h = record { fine = read.wrong; listed = sym (append-nil now) ∙ read.listed }
all_read p bytes (b ∷ rest) number old now read h = absurd (omega arith)
