-- The steps of a writer: what more cells add, and what of them is in the file.
use Rattle.std.proofs.Common.{◌≡◌, ℕ, zero, suc, ◌+◌, ◌*◌, ◌/◌, ◌%◌, ◌==◌, ◌<◌, ◌≤◌, nat_le, nat_lt, Bool, true, false, if◌then◌else◌, List, [], ◌∷◌, ◌++◌, length, take, drop, get_or, vec_len, Option, Some, None, Result, Ok, Err, ℤ, pos, ◌⊎◌, inl, inr, refl, sym, ap, subst, ◌∙◌, arith, append_assoc, length-append, length-drop}
use Rattle.std.specs.Fmt.{signed_decimal}
use Rattle.std.proofs.lemmas.Bool.{cases_lt, le-leb, lt-leb, lt-ltb, ne_eqb}
use Rattle.std.proofs.lemmas.List.{append-nil, append_cancel_left, take-append-drop, take-append-le, take_all, take_more}
use Rattle.std.proofs.Math.Nat.{suc-mod, mod-eq_of_lt, mod_self, zero-mod, mul-lt-mul_of_pos_right}
use Rattle.std.proofs.lemmas.Nat.{div-add-mod', mod_below}
use Rattle.soda_words.specs.IntType.{IntType}
use Rattle.soda_io.specs.Store.{Store}
use Rattle.soda_io.specs.declared.error.IoErr.{IoErr}
use Rattle.whole_files.specs.Writing.{WritesWhole}
use Rattle.array_bytes.specs.Written.{array_bytes, begun, ending, parting, raw_bytes, raw_cells, text_from}
use Rattle.array_bytes.proofs.CallerLemmas.{length_little, size_some}
use Rattle.array_bytes.specs.Sizes.{cell_size, text_block}
use Rattle.array_bytes.specs.Machine.Lines.{parting_at}
use Rattle.array_bytes.specs.declared.form.Form.{Form}
use Rattle.array_bytes.specs.declared.form.Form.TheVariants.{Text, Raw}
use Rattle.bursts.specs.Machine.Buffers.{kept, sent}
use Rattle.bursts.specs.Writers.{Finishes, HasPut, IsLate, IsPrefix, Lags, LineIs, Output, Puts, block_of, output}
use Rattle.bursts.specs.declared.writer.CellWriter.{CellWriter}

-- the bytes of cells behind others
text_both : (run i : ℕ) (xs ys : List ℤ) → text_from run i (xs ++ ys) ≡ text_from run i xs ++ text_from run (i + length xs) ys
text_both run i [] ys = ap (λ (k : ℕ). text_from run k ys) (omega arith)
text_both run i (x ∷ xs) ys =
    let front : List ℕ = parting run i ++ signed_decimal x in
    let n : i + 1 + length xs ≡ i + suc (length xs) = omega arith in
    ap (λ (b : List ℕ). front ++ b) (text_both run (i + 1) xs ys ∙ ap (λ (k : ℕ). text_from run (i + 1) xs ++ text_from run k ys) n)
    ∙ sym (append_assoc front (text_from run (i + 1) xs) (text_from run (i + suc (length xs)) ys))

raw_both : (t : IntType) (xs ys : List ℤ) → raw_cells t (xs ++ ys) ≡ raw_cells t xs ++ raw_cells t ys
raw_both t [] ys = refl
raw_both t (x ∷ xs) ys = ap (λ (b : List ℕ). raw_bytes t x ++ b) (raw_both t xs ys) ∙ sym (append_assoc (raw_bytes t x) (raw_cells t xs) (raw_cells t ys))

-- what more cells add behind some
abbrev pub added : Form → IntType → ℕ → List ℤ → List ℤ → List ℕ
added Text t run xs ys = text_from run (length xs) ys
added Raw t run xs ys = raw_cells t ys

pub begun_both : (f : Form) (t : IntType) (run : ℕ) (xs ys : List ℤ) → begun f t run (xs ++ ys) ≡ begun f t run xs ++ added f t run xs ys
unfolding begun
begun_both Text t run xs ys = text_both run 0 xs ys ∙ ap (λ (k : ℕ). text_from run 0 xs ++ text_from run k ys) (omega arith)
begun_both Raw t run xs ys = raw_both t xs ys

-- a prefix of the bytes of some cells is one of those of more
pub prefix_on : (f : Form) (t : IntType) (run : ℕ) (xs ys : List ℤ) (bytes : List ℕ) → IsPrefix bytes (begun f t run xs)
    → IsPrefix bytes (begun f t run (xs ++ ys))
prefix_on f t run xs ys bytes p = record {
  rest = p.rest ++ added f t run xs ys;
  same = begun_both f t run xs ys ∙ ap (λ (b : List ℕ). b ++ added f t run xs ys) p.same ∙ append_assoc bytes p.rest (added f t run xs ys);
}

-- what was written and what was kept
pub sent_kept : (full : ℕ) (bytes : List ℕ) → sent full bytes ++ kept full bytes ≡ bytes
sent_kept full bytes = elim (nat_le full (length bytes)) as (λ b. (if b then bytes else []) ++ (if b then [] else bytes) ≡ bytes) [
  | true ↦ append-nil bytes
  | false ↦ refl
]

-- a prefix of what was written is one of all
pub prefix_sent : (full count : ℕ) (bytes buffer all : List ℕ) → bytes ++ buffer ≡ all → IsPrefix (bytes ++ take count (sent full buffer)) all
prefix_sent full count bytes buffer all e =
    let s : List ℕ = sent full buffer in
    let split : take count s ++ (drop count s ++ kept full buffer) ≡ buffer =
    sym (append_assoc (take count s) (drop count s) (kept full buffer)) ∙ ap (λ (b : List ℕ). b ++ kept full buffer) (take-append-drop count s)
    ∙ sent_kept full buffer in
    record {
      rest = drop count s ++ kept full buffer;
      same = sym e ∙ ap (λ (b : List ℕ). bytes ++ b) (sym split) ∙ sym (append_assoc bytes (take count s) (drop count s ++ kept full buffer));
    }

-- what the file holds after a write
pub holds_ok : (given : ℕ) (a b : Store) (id : ℕ) (bytes xs : List ℕ) (u : Unit {0}) → id < given → WritesWhole given a b id bytes (Ok u)
    → a.bytes (a.name id) ≡ Some xs → b.bytes (b.name id) ≡ Some (xs ++ bytes)
holds_ok given a b id bytes xs u lt w there =
    let whole : take w.count bytes ≡ bytes = take_all w.count bytes (omega (arith, w.all)) in
    ap (λ (n : List ℕ). b.bytes n) (w.ids.name id lt) ∙ w.own xs there ∙ ap (λ (b : List ℕ). Some (xs ++ b)) whole

pub holds_err : (given : ℕ) (a b : Store) (id : ℕ) (bytes xs : List ℕ) (r : Result (Unit {0}) IoErr) → id < given → (w : WritesWhole given a b id bytes r)
    → a.bytes (a.name id) ≡ Some xs → b.bytes (b.name id) ≡ Some (xs ++ take w.count bytes)
holds_err given a b id bytes xs r lt w there = ap (λ (n : List ℕ). b.bytes n) (w.ids.name id lt) ∙ w.own xs there

-- the next number of a line, and of the next line
mod_up : (i b : ℕ) → i % b + 1 < b → (i + 1) % b ≡ i % b + 1
mod_up i b lt =
    let e : suc (i % b) % b ≡ suc (i % b) = mod-eq_of_lt (omega arith) in
    let s : i + 1 ≡ suc i = omega arith in
    let z : suc (i % b) ≡ i % b + 1 = omega arith in
    ap (λ (n : ℕ). n % b) s ∙ suc-mod i b ∙ e ∙ z

mod_over : (i b : ℕ) → i % b + 1 ≡ b → (i + 1) % b ≡ 0
mod_over i b e =
    let s : i + 1 ≡ suc i = omega arith in
    let z : suc (i % b) ≡ b = omega arith in
    ap (λ (n : ℕ). n % b) s ∙ suc-mod i b ∙ ap (λ (n : ℕ). n % b) z ∙ mod_self b

-- what isn't written yet is that of the cells that are late
pub behind : (o : Output) (cells : List ℤ) (bytes buffer : List ℕ) (l : Lags o cells bytes) → bytes ++ buffer ≡ begun o.form o.ty o.run cells
    → buffer ≡ added o.form o.ty o.run (take l.there cells) (drop l.there cells)
behind o cells bytes buffer l e =
    let ts : List ℤ = take l.there cells in
    let ds : List ℤ = drop l.there cells in
    append_cancel_left bytes buffer (added o.form o.ty o.run ts ds)
    (e ∙ ap (λ (xs : List ℤ). begun o.form o.ty o.run xs) (sym (take-append-drop l.there cells)) ∙ begun_both o.form o.ty o.run ts ds
    ∙ ap (λ (b : List ℕ). b ++ added o.form o.ty o.run ts ds) (sym l.written))

-- what stands before a cell of a text that isn't the first
abbrev line_or_blank : Bool → List ℕ
line_or_blank b = if b then 10 ∷ [] else 32 ∷ []

part_behind : (run i : ℕ) → 0 < i → parting run i ≡ (if i % run == 0 then 10 ∷ [] else 32 ∷ [])
part_behind run i lt = ap (λ (b : Bool). if b then [] else (if i % run == 0 then 10 ∷ [] else 32 ∷ [])) (ne_eqb i 0 (λ e. omega arith))

part_some : (run i : ℕ) → 0 < i → length (parting run i) ≡ 1
part_some run i lt = ap length (part_behind run i lt) ∙ elim (i % run == 0) as (λ b. length (line_or_blank b) ≡ 1) [ true ↦ refl | false ↦ refl ]

-- each cell of a text but the first has bytes
some_each : (run i : ℕ) (cells : List ℤ) → 0 < i → length cells ≤ length (text_from run i cells)
some_each run i [] lt = omega arith
some_each run i (c ∷ cs) lt =
    omega (
      arith,
      some_each run (i + 1) cs (omega arith),
      part_some run i lt,
      length-append (parting run i) (signed_decimal c),
      length-append
          (parting run i ++ signed_decimal c) (text_from run (i + 1) cs),
    )

few_late : (run i : ℕ) (cells : List ℤ) → length cells ≤ length (text_from run i cells) + 1
few_late run i [] = omega arith
few_late run i (c ∷ cs) = omega (arith, some_each run (i + 1) cs (omega arith), length-append (parting run i ++ signed_decimal c) (text_from run (i + 1) cs))

raw_length : (t : IntType) → ((c : ℤ) → length (raw_bytes t c) ≡ cell_size t) → (cells : List ℤ) → length (raw_cells t cells) ≡ length cells * cell_size t
raw_length t one [] = omega arith
raw_length t one (c ∷ cs) = omega (arith, one c, raw_length t one cs, length-append (raw_bytes t c) (raw_cells t cs))

-- what stands before a cell, by its place in its line
parting_is : (run : ℕ) (cells : List ℤ) → parting_at (nat_lt 0 (length cells)) (length cells % run) ≡ parting run (length cells)
parting_is run [] = refl
parting_is run (c ∷ cs) =
    let n : ℕ = suc (length cs) in
    ap (λ (b : Bool). parting_at b (n % run)) (lt-ltb 0 n (omega arith)) ∙ sym (part_behind run n (omega arith))

-- what a writer was made for, were its form another
abbrev pub output_in : CellWriter → Form → Output
output_in w f = record { form = f; ty = w.ty; run = w.run; block = block_of f w.ty w.full; id = w.id }

-- the first of more cells
front : (xs ys : List ℤ) → take (length xs) (xs ++ ys) ≡ xs
front xs ys = take-append-le (length xs) xs ys (omega arith) ∙ take_all (length xs) xs (omega arith)

-- a full buffer is written whole, and another not at all
sent_all : (full : ℕ) (bytes : List ℕ) → full ≤ length bytes → sent full bytes ≡ bytes
sent_all full bytes le = ap (λ (b : Bool). if b then bytes else []) (le-leb full (length bytes) le)

sent_none : (full : ℕ) (bytes : List ℕ) → length bytes < full → sent full bytes ≡ []
sent_none full bytes lt = ap (λ (b : Bool). if b then bytes else []) (lt-leb full (length bytes) lt)

-- one more cell, behind what was kept
kept_more : (full : ℕ) (bytes buffer more all : List ℕ) → bytes ++ buffer ≡ all → (bytes ++ sent full buffer) ++ (kept full buffer ++ more) ≡ all ++ more
kept_more full bytes buffer more all e =
    let s : List ℕ = sent full buffer in
    let k : List ℕ = kept full buffer in
    append_assoc bytes s (k ++ more) ∙ ap (λ (b : List ℕ). bytes ++ b) (sym (append_assoc s k more) ∙ ap (λ (b : List ℕ). b ++ more) (sent_kept full buffer))
    ∙ sym (append_assoc bytes buffer more) ∙ ap (λ (b : List ℕ). b ++ more) e

-- where the buffer of a text has no room for the longest cell
abbrev pub nearly_full : ℕ
nearly_full = 4055

-- one more cell of a text, which isn't in the file yet
module _ (t : IntType) (run block id : ℕ) (block_is : block ≡ text_block) (cells : List ℤ) (v : ℤ) (bytes buffer : List ℕ) where
  abbrev made : Output
  made = record { form = Text; ty = t; run = run; block = block; id = id }

  text_lags : Lags made cells bytes → bytes ++ buffer ≡ begun Text t run cells → Lags made (cells ++ v ∷ []) (bytes ++ sent nearly_full buffer)
  text_lags l e = by (cases_lt (length buffer) nearly_full)
    where
      by : (length buffer < nearly_full) ⊎ (nearly_full ≤ length buffer) → Lags made (cells ++ v ∷ []) (bytes ++ sent nearly_full buffer)
      by (inr le) = record {
        there = length cells;
        late = 1;
        all = sym (length-append cells (v ∷ []));
        written = ap (λ (b : List ℕ). bytes ++ b) (sent_all nearly_full buffer le) ∙ e
            ∙ ap (λ (xs : List ℤ). begun Text t run xs) (sym (front cells (v ∷ [])));
        few = omega (arith, block_is);
      }
      by (inl lt) =
          let ts : List ℤ = take l.there cells in
          let ds : List ℤ = drop l.there cells in
          let size : length buffer ≡ length (text_from run (length ts) ds) = ap length (behind made cells bytes buffer l e) in
          let late : length ds ≡ l.late = omega (arith, length-drop l.there cells, l.all) in
          record {
            there = l.there;
            late = l.late + 1;
            all = omega (arith, length-append cells (v ∷ []), l.all);
            written = ap (λ (b : List ℕ). bytes ++ b) (sent_none nearly_full buffer lt) ∙ append-nil bytes ∙ l.written
                ∙ ap (λ (xs : List ℤ). begun Text t run xs) (sym (take-append-le l.there cells (v ∷ []) (omega (arith, l.all))));
            few = omega (arith, block_is, few_late run (length ts) ds, size, late, lt);
          }

-- the bytes of one more cell of a text
text_one : (t : IntType) (run : ℕ) (cells : List ℤ) (v : ℤ)
    → begun Text t run (cells ++ v ∷ []) ≡ begun Text t run cells ++ (parting run (length cells) ++ signed_decimal v)
text_one t run cells v = begun_both Text t run cells (v ∷ [])
    ∙ ap (λ (b : List ℕ). begun Text t run cells ++ b) (append-nil (parting run (length cells) ++ signed_decimal v))

some_more : (cells : List ℤ) (v : ℤ) → true ≡ nat_lt 0 (length (cells ++ v ∷ []))
some_more cells v = sym (lt-ltb 0 (length (cells ++ v ∷ [])) (omega (arith, length-append cells (v ∷ []))))

-- a writer that put one more cell, from what it was made for
module _ (w z : CellWriter) (f : Form) (form : w.form ≡ f) (same : output z ≡ output w) where
  has_put : (cells : List ℤ) (bytes : List ℕ) → Lags (output_in w f) cells bytes → bytes ++ z.buffer.items ≡ begun f w.ty w.run cells → LineIs f z cells
      → HasPut z cells bytes
  has_put cells bytes lags buffered line = record {
    lags =
        let P : Output → Type 0 = λ o. Lags o cells bytes in
        let Q : Form → Type 0 = λ g. Lags (output_in w g) cells bytes in
        subst P (sym same) (subst Q (sym form) lags);
    buffered =
        let P : Output → Type 0 = λ o. bytes ++ z.buffer.items ≡ begun o.form o.ty o.run cells in
        let Q : Form → Type 0 = λ g. bytes ++ z.buffer.items ≡ begun g w.ty w.run cells in
        subst P (sym same) (subst Q (sym form) buffered);
    line = let P : Form → Type 0 = λ g. LineIs g z cells in subst P (sym (ap (λ (o : Output). o.form) same ∙ form)) line;
  }

  lags_in : (cells : List ℤ) (bytes : List ℕ) → HasPut w cells bytes → Lags (output_in w f) cells bytes
  lags_in cells bytes h = let Q : Form → Type 0 = λ g. Lags (output_in w g) cells bytes in subst Q form h.lags

  line_in : (cells : List ℤ) (bytes : List ℕ) → HasPut w cells bytes → LineIs f w cells
  line_in cells bytes h = let Q : Form → Type 0 = λ g. LineIs g w cells in subst Q form h.line

  buffered_in : (cells : List ℤ) (bytes : List ℕ) → HasPut w cells bytes → bytes ++ w.buffer.items ≡ begun f w.ty w.run cells
  buffered_in cells bytes h = let Q : Form → Type 0 = λ g. bytes ++ w.buffer.items ≡ begun g w.ty w.run cells in subst Q form h.buffered

  -- after an error
  failed_put : (cells more : List ℤ) (bytes : List ℕ) → IsPrefix bytes (begun f w.ty w.run (cells ++ more))
      → IsPrefix bytes (begun z.form z.ty z.run (cells ++ more))
  failed_put cells more bytes p =
      let P : Output → Type 0 = λ o. IsPrefix bytes (begun o.form o.ty o.run (cells ++ more)) in
      let Q : Form → Type 0 = λ g. IsPrefix bytes (begun g w.ty w.run (cells ++ more)) in
      subst P (sym same) (subst Q (sym form) p)

-- raw cells, of which those behind the last whole word aren't in the file yet
raw_one : (t : IntType) (c : ℤ) → length (raw_bytes t c) ≡ cell_size t
unfolding raw_bytes
raw_one t c = length_little (cell_size t) _

some_block : (block size full : ℕ) → full ≡ block * size → 0 < full → 0 < block
some_block zero size full e lt = absurd (omega arith)
some_block (suc b) size full e lt = omega arith

raw_late : (t : IntType) (run full id : ℕ) (cells : List ℤ) (v : ℤ) (bytes buffer mid : List ℕ) → 0 < full → full % cell_size t ≡ 0
    → (let o : Output = record { form = Raw; ty = t; run = run; block = full / cell_size t; id = id } in
    Lags o cells bytes → bytes ++ buffer ≡ begun Raw t run cells → mid ≡ buffer ++ raw_bytes t v → bytes ++ mid ≡ begun Raw t run (cells ++ v ∷ [])
    → Lags o (cells ++ v ∷ []) (bytes ++ sent full mid))
raw_late t run full id cells v bytes buffer mid some whole l e mid_is all = by (cases_lt (l.late + 1) block)
  where
    size : ℕ
    size = cell_size t

    block : ℕ
    block = full / size

    o : Output
    o = record { form = Raw; ty = t; run = run; block = block; id = id }

    cs : List ℤ
    cs = cells ++ v ∷ []

    full_is : full ≡ block * size
    full_is = omega (arith, div-add-mod' full size, whole)

    count : length cs ≡ length cells + 1
    count = length-append cells (v ∷ [])

    late : length (drop l.there cells) ≡ l.late
    late = omega (arith, length-drop l.there cells, l.all)

    held : length buffer ≡ l.late * size
    held = ap length (behind o cells bytes buffer l e) ∙ raw_length t (raw_one t) (drop l.there cells) ∙ ap (λ (n : ℕ). n * size) late

    mid_size : length mid ≡ (l.late + 1) * size
    mid_size = omega (arith, ap length mid_is, length-append buffer (raw_bytes t v), raw_one t v, held)

    below : l.late < block
    below = omega (arith, l.few, mod_below (length cells) block (some_block block size full full_is some))

    by : (l.late + 1 < block) ⊎ (block ≤ l.late + 1) → Lags o cs (bytes ++ sent full mid)
    by (inl lt) =
        let few : (l.late + 1) * size < block * size = mul-lt-mul_of_pos_right lt ((size_some t).0) in
        let next : (length cells + 1) % block ≡ length cells % block + 1 = mod_up (length cells) block (omega (arith, l.few, lt)) in
        record {
          there = l.there;
          late = l.late + 1;
          all = omega (arith, count, l.all);
          written = ap (λ (b : List ℕ). bytes ++ b) (sent_none full mid (omega (arith, few, mid_size, full_is))) ∙ append-nil bytes ∙ l.written
              ∙ ap (λ (xs : List ℤ). begun Raw t run xs) (sym (take-append-le l.there cells (v ∷ []) (omega (arith, l.all))));
          few = ap (λ (n : ℕ). n + 1) l.few ∙ sym next ∙ ap (λ (n : ℕ). n % block) (sym count);
        }
    by (inr le) =
        let same : l.late + 1 ≡ block = omega (arith, le, below) in
        let enough : full ≡ length mid = full_is ∙ ap (λ (n : ℕ). n * size) (sym same) ∙ sym mid_size in
        let next : (length cells + 1) % block ≡ 0 = mod_over (length cells) block (omega (arith, l.few, same)) in
        record {
          there = length cs;
          late = 0;
          all = omega arith;
          written = ap (λ (b : List ℕ). bytes ++ b) (sent_all full mid (omega (arith, enough))) ∙ all
              ∙ ap (λ (xs : List ℤ). begun Raw t run xs) (sym (take_all (length cs) cs (omega arith)));
          few = sym next ∙ ap (λ (n : ℕ). n % block) (sym count);
        }

-- the file of a writer that puts one more cell
module _ (given : ℕ) (a b : Store) (w z : CellWriter) (v : ℤ) (same : output z ≡ output w) (lt : w.id < given) (cells : List ℤ) (bytes : List ℕ)
    (there : a.bytes (a.name w.id) ≡ Some bytes) (h : HasPut w cells bytes) where
  pub text_puts : (u : Unit {0}) → w.form ≡ Text → WritesWhole given a b w.id (sent nearly_full w.buffer.items) (Ok u)
      → z.buffer.items ≡ kept nearly_full w.buffer.items ++ (parting_at w.begun w.column ++ signed_decimal v) → z.begun ≡ true
      → ((w.column + 1 ≡ w.run) × (z.column ≡ 0)) ⊎ ((w.column + 1 < w.run) × (z.column ≡ w.column + 1)) → vec_len z.buffer < text_block
      → Puts z cells (v ∷ []) (b.bytes (b.name w.id)) (Ok u)
  text_puts u form wrote buffer some step small =
      let s : List ℕ = sent nearly_full w.buffer.items in
      let n : ℕ = length cells in
      let cs : List ℤ = cells ++ v ∷ [] in
      let line = line_in w z Text form same cells bytes h in
      let e = buffered_in w z Text form same cells bytes h in
      let P : Option (List ℕ) → Type 0 = λ o. Puts z cells (v ∷ []) o (Ok u) in
      let part : parting_at w.begun w.column ≡ parting w.run n =
      ap (λ (c : Bool). parting_at c w.column) line.0 ∙ ap (λ (c : ℕ). parting_at (nat_lt 0 n) c) line.1 ∙ parting_is w.run cells in
      let column : z.column ≡ (n + 1) % w.run = elim step as (λ k. z.column ≡ (n + 1) % w.run) [
        | inl over ↦ over.1 ∙ sym (mod_over n w.run (ap (λ (c : ℕ). c + 1) (sym line.1) ∙ over.0))
        | inr up ↦ up.1 ∙ ap (λ (c : ℕ). c + 1) line.1 ∙ sym (mod_up n w.run (omega (arith, up.0, line.1)))
      ] in
      let run : z.run ≡ w.run = ap (λ (o : Output). o.run) same in
      let column_in : z.column ≡ length cs % z.run = column ∙ ap (λ (k : ℕ). k % w.run) (sym (length-append cells (v ∷ [])))
      ∙ ap (λ (r : ℕ). length cs % r) (sym run) in
      subst P (sym (holds_ok given a b w.id s bytes u lt wrote there))
      (has_put w z Text form same cs (bytes ++ s)
      (text_lags w.ty w.run text_block w.id refl cells v bytes w.buffer.items (lags_in w z Text form same cells bytes h) e)
      (ap (λ (x : List ℕ). (bytes ++ s) ++ x) buffer
      ∙ kept_more nearly_full bytes w.buffer.items (parting_at w.begun w.column ++ signed_decimal v) (begun Text w.ty w.run cells) e
      ∙ ap (λ (p : List ℕ). begun Text w.ty w.run cells ++ (p ++ signed_decimal v)) part ∙ sym (text_one w.ty w.run cells v))
      (some ∙ some_more cells v, column_in, small))

  pub text_fails : (x : IoErr) → w.form ≡ Text → WritesWhole given a b w.id (sent nearly_full w.buffer.items) (Err x)
      → Puts z cells (v ∷ []) (b.bytes (b.name w.id)) (Err x)
  text_fails x form wrote =
      let P : Option (List ℕ) → Type 0 = λ o. Puts z cells (v ∷ []) o (Err x) in
      let now : List ℕ = bytes ++ take wrote.count (sent nearly_full w.buffer.items) in
      subst P (sym (holds_err given a b w.id (sent nearly_full w.buffer.items) bytes (Err x) lt wrote there))
      (failed_put w z Text form same cells (v ∷ []) now
      (prefix_on Text w.ty w.run cells (v ∷ []) now
      (prefix_sent nearly_full wrote.count bytes w.buffer.items (begun Text w.ty w.run cells) (buffered_in w z Text form same cells bytes h))))

  -- of raw cells, where `mid` is what is in the buffer before it is written
  module _ (form : w.form ≡ Raw) (some : 0 < w.full) (whole : w.full % cell_size w.ty ≡ 0) (mid : List ℕ)
      (mid_is : mid ≡ w.buffer.items ++ raw_bytes w.ty v) where
    raw_all : bytes ++ mid ≡ begun Raw w.ty w.run (cells ++ v ∷ [])
    raw_all =
        let e = buffered_in w z Raw form same cells bytes h in
        ap (λ (x : List ℕ). bytes ++ x) mid_is ∙ sym (append_assoc bytes w.buffer.items (raw_bytes w.ty v)) ∙ ap (λ (x : List ℕ). x ++ raw_bytes w.ty v) e
        ∙ ap (λ (x : List ℕ). begun Raw w.ty w.run cells ++ x) (sym (append-nil (raw_bytes w.ty v))) ∙ sym (begun_both Raw w.ty w.run cells (v ∷ []))

    raw_lags : Lags (output_in w Raw) (cells ++ v ∷ []) (bytes ++ sent w.full mid)
    raw_lags = raw_late w.ty w.run w.full w.id cells v bytes w.buffer.items mid some whole (lags_in w z Raw form same cells bytes h)
        (buffered_in w z Raw form same cells bytes h) mid_is raw_all

    pub raw_puts : (r : Result (Unit {0}) IoErr) → WritesWhole given a b w.id (sent w.full mid) r → z.buffer.items ≡ kept w.full mid → z.begun ≡ w.begun
        → Puts z cells (v ∷ []) (b.bytes (b.name w.id)) r
    raw_puts (Ok u) wrote buffer same_begun =
        let P : Option (List ℕ) → Type 0 = λ o. Puts z cells (v ∷ []) o (Ok u) in
        let s : List ℕ = sent w.full mid in
        subst P (sym (holds_ok given a b w.id s bytes u lt wrote there))
        (has_put w z Raw form same (cells ++ v ∷ []) (bytes ++ s) raw_lags
        (append_assoc bytes s z.buffer.items ∙ ap (λ (x : List ℕ). bytes ++ (s ++ x)) buffer ∙ ap (λ (x : List ℕ). bytes ++ x) (sent_kept w.full mid)
        ∙ raw_all)
        (same_begun ∙ line_in w z Raw form same cells bytes h))
    raw_puts (Err x) wrote buffer same_begun =
        let P : Option (List ℕ) → Type 0 = λ o. Puts z cells (v ∷ []) o (Err x) in
        let now : List ℕ = bytes ++ take wrote.count (sent w.full mid) in
        subst P (sym (holds_err given a b w.id (sent w.full mid) bytes (Err x) lt wrote there))
        (failed_put w z Raw form same cells (v ∷ []) now
        (prefix_sent w.full wrote.count bytes mid (begun Raw w.ty w.run (cells ++ v ∷ [])) raw_all))

-- what ends an array
ends_by : (f : Form) (w : CellWriter) (cells : List ℤ) → LineIs f w cells → (if w.begun then 10 ∷ [] else []) ≡ ending f cells
ends_by Text w [] line = ap (λ (b : Bool). if b then 10 ∷ [] else []) line.0
ends_by Text w (c ∷ cs) line = ap (λ (b : Bool). if b then 10 ∷ [] else []) (line.0 ∙ lt-ltb 0 (suc (length cs)) (omega arith))
ends_by Raw w cells line = ap (λ (b : Bool). if b then 10 ∷ [] else []) line

array_is : (f : Form) (t : IntType) (run : ℕ) (cells : List ℤ) → begun f t run cells ++ ending f cells ≡ array_bytes f t run cells
unfolding array_bytes
array_is f t run cells = refl

-- the end
pub finishes : (given : ℕ) (a b : Store) (w : CellWriter) (mid : List ℕ) (r : Result (Unit {0}) IoErr) → w.id < given
    → WritesWhole given a b w.id (sent 0 mid) r
    → mid ≡ w.buffer.items ++ (if w.begun then 10 ∷ [] else []) → (cells : List ℤ) (bytes : List ℕ) → a.bytes (a.name w.id) ≡ Some bytes
    → HasPut w cells bytes
    → Finishes (output w) cells (b.bytes (b.name w.id)) r
finishes given a b w mid r lt wrote mid_is cells bytes there h = by r wrote
  where
    last : List ℕ
    last = if w.begun then 10 ∷ [] else []

    all : bytes ++ mid ≡ array_bytes w.form w.ty w.run cells
    all = ap (λ (x : List ℕ). bytes ++ x) mid_is ∙ sym (append_assoc bytes w.buffer.items last) ∙ ap (λ (x : List ℕ). x ++ last) h.buffered
        ∙ ap (λ (x : List ℕ). begun w.form w.ty w.run cells ++ x) (ends_by w.form w cells h.line) ∙ array_is w.form w.ty w.run cells

    by : (r : Result (Unit {0}) IoErr) → WritesWhole given a b w.id (sent 0 mid) r → Finishes (output w) cells (b.bytes (b.name w.id)) r
    by (Ok u) q =
        let P : Option (List ℕ) → Type 0 = λ o. Finishes (output w) cells o (Ok u) in
        subst P (sym (holds_ok given a b w.id (sent 0 mid) bytes u lt q there)) (ap (λ (x : List ℕ). bytes ++ x) (sent_all 0 mid (omega arith)) ∙ all)
    by (Err x) q =
        let P : Option (List ℕ) → Type 0 = λ o. Finishes (output w) cells o (Err x) in
        subst P (sym (holds_err given a b w.id (sent 0 mid) bytes (Err x) lt q there))
        (prefix_sent 0 q.count bytes mid (array_bytes w.form w.ty w.run cells) all)

-- a new writer
begun_none : (f : Form) (t : IntType) (run : ℕ) → [] ≡ begun f t run []
unfolding begun
begun_none Text t run = refl
begun_none Raw t run = refl

late_none : (f : Form) (t : IntType) (full : ℕ) → IsLate f (block_of f t full) 0 0
late_none Text t full = omega arith
late_none Raw t full = sym (zero-mod (full / cell_size t))

line_none : (f : Form) (w : CellWriter) → w.begun ≡ false → w.column ≡ 0 → vec_len w.buffer ≡ 0 → LineIs f w []
line_none Text w begun column size = (begun, column ∙ sym (zero-mod w.run), omega arith)
line_none Raw w begun column size = begun

pub new_put : (w : CellWriter) → w.begun ≡ false → w.column ≡ 0 → vec_len w.buffer ≡ 0 → w.buffer.items ≡ [] → HasPut w [] []
new_put w begun column size none = record {
  lags = record { there = 0; late = 0; all = refl; written = begun_none w.form w.ty w.run; few = late_none w.form w.ty w.full };
  buffered = none ∙ begun_none w.form w.ty w.run;
  line = line_none w.form w begun column size;
}

-- more cells behind those that were put
puts_at : (z : CellWriter) (before xs ys : List ℤ) (o : Option (List ℕ)) (r : Result (Unit {0}) IoErr) → Puts z (before ++ xs) ys o r
    → Puts z before (xs ++ ys) o r
puts_at z before xs ys None r p = absurd p
puts_at z before xs ys (Some bytes) (Ok u) p = let P : List ℤ → Type 0 = λ cs. HasPut z cs bytes in subst P (append_assoc before xs ys) p
puts_at z before xs ys (Some bytes) (Err e) p = let P : List ℤ → Type 0 = λ cs. IsPrefix bytes (begun z.form z.ty z.run cs) in subst P
    (append_assoc before xs ys) p

pub puts_then : (m z : CellWriter) (before xs ys : List ℤ) (o p : Option (List ℕ)) (u : Unit {0}) (r : Result (Unit {0}) IoErr) → Puts m before xs o (Ok u)
    → ((cs : List ℤ) → (bytes : List ℕ) → o ≡ Some bytes → HasPut m cs bytes → Puts z cs ys p r) → Puts z before (xs ++ ys) p r
puts_then m z before xs ys None p u r q step = absurd q
puts_then m z before xs ys (Some bytes) p u r q step = puts_at z before xs ys p r (step (before ++ xs) bytes refl q)

-- after an error fewer cells were put than were given
pub puts_fewer : (z : CellWriter) (before xs ys : List ℤ) (o : Option (List ℕ)) (e : IoErr) → Puts z before xs o (Err e) → Puts z before (xs ++ ys) o (Err e)
puts_fewer z before xs ys None e p = absurd p
puts_fewer z before xs ys (Some bytes) e p = puts_at z before xs ys (Some bytes) (Err e) (prefix_on z.form z.ty z.run (before ++ xs) ys bytes p)

-- before any
pub puts_none : (z : CellWriter) (before : List ℤ) (o : Option (List ℕ)) (bytes : List ℕ) (u : Unit {0}) → o ≡ Some bytes → HasPut z before bytes
    → Puts z before [] o (Ok u)
puts_none z before o bytes u e h =
    let P : Option (List ℕ) → Type 0 = λ p. Puts z before [] p (Ok u) in
    let Q : List ℤ → Type 0 = λ cs. HasPut z cs bytes in
    subst P (sym e) (subst Q (sym (append-nil before)) h)

-- one more of the cells that are given
pub put_more : (m z : CellWriter) (before cells : List ℤ) (i : ℕ) (v : ℤ) (a b : Store) (id : ℕ) (u : Unit {0}) (r : Result (Unit {0}) IoErr) → m.id ≡ id
    → i < length cells
    → v ≡ get_or cells i (pos 0) → Puts m before (take i cells) (a.bytes (a.name id)) (Ok u)
    → ((cs : List ℤ) → (bytes : List ℕ) → a.bytes (a.name m.id) ≡ Some bytes → HasPut m cs bytes → Puts z cs (v ∷ []) (b.bytes (b.name m.id)) r)
    → Puts z before (take (i + 1) cells) (b.bytes (b.name id)) r
put_more m z before cells i v a b id u r same lt is =
    let P : ℕ → Type 0 = λ k. Puts m before (take i cells) (a.bytes (a.name k)) (Ok u)
    → ((cs : List ℤ) → (bytes : List ℕ) → a.bytes (a.name m.id) ≡ Some bytes → HasPut m cs bytes → Puts z cs (v ∷ []) (b.bytes (b.name m.id)) r)
    → Puts z before (take (i + 1) cells) (b.bytes (b.name k)) r in
    let Q : List ℤ → Type 0 = λ cs. Puts z before cs (b.bytes (b.name m.id)) r in
    let e : take i cells ++ v ∷ [] ≡ take (i + 1) cells = ap (λ (w : ℤ). take i cells ++ w ∷ []) is ∙ sym (take_more cells i (pos 0) lt) in
    subst P same (λ p step. subst Q e (puts_then m z before (take i cells) (v ∷ []) (a.bytes (a.name m.id)) (b.bytes (b.name m.id)) u r p step))

-- after an error, were all of them put
pub put_failed : (z : CellWriter) (before cells : List ℤ) (i : ℕ) (o : Option (List ℕ)) (e : IoErr) → Puts z before (take (i + 1) cells) o (Err e)
    → Puts z before cells o (Err e)
put_failed z before cells i o e p =
    let Q : List ℤ → Type 0 = λ cs. Puts z before cs o (Err e) in
    subst Q (take-append-drop (i + 1) cells) (puts_fewer z before (take (i + 1) cells) (drop (i + 1) cells) o e p)
