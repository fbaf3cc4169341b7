-- Lines along the first dimension, and lists that are written cell by cell.
use Rattle.std.proofs.Common.{◌≡◌, ℕ, zero, suc, ◌+◌, ◌*◌, ◌/◌, ◌<◌, ◌≤◌, ◌==◌, Bool, true, false, not, ◌&&◌, List, [], ◌∷◌, ◌++◌, ℤ, pos, ◌+ℤ◌, int_le, int_lt, length, drop, slice_index_or, refl, sym, ◌∙◌, ap, arith, mul-le-mul_left, eqb}
use Rattle.std.specs.List.{list_all}
use Rattle.std.proofs.lemmas.Bool.{and_parts}
use Rattle.std.proofs.lemmas.List.{ext_get_or}
use Rattle.std.proofs.lemmas.Nat.{div-mul-add, mod-mul-add}
use Rattle.soda_ir.specs.Points.{listed, size}
use Rattle.soda_ir.specs.Program.{PlainProgram, extents_at}
use Rattle.soda_eval.specs.Points.{point}
use Rattle.soda_ir.proofs.CallerLemmas.{nonzero, reach_behind}
use Rattle.time_stages.specs.declared.margins.Margins.{Margins}
use Rattle.time_stages.specs.Margins.{keeps_away}
use Rattle.soda_run.specs.pieces.Filled.{is_kept, is_within}

and_shifted : (a b c : Bool) → ((a && b) && c) ≡ (a && (b && c))
and_shifted true b c = refl
and_shifted false b c = refl

-- whether a cell of a line keeps the margins
pub line_kept : (ns ls hs : List ℕ) (line c : ℕ) → 0 < length ns → 0 < length ls → 0 < length hs → c < slice_index_or ns 0 0 → (is_within (slice_index_or ns 0 0) (slice_index_or ls 0 0) (slice_index_or hs 0 0) c && keeps_away (drop 1 ns) (drop 1 ls) (drop 1 hs) (point (drop 1 ns) line)) ≡ keeps_away ns ls hs (point ns (line * slice_index_or ns 0 0 + c))
line_kept [] ls hs line c a b d h = absurd (omega arith)
line_kept (n ∷ ns) [] hs line c a b d h = absurd (omega arith)
line_kept (n ∷ ns) (l ∷ ls) [] line c a b d h = absurd (omega arith)
line_kept (n ∷ ns) (l ∷ ls) (m ∷ ms) line c a b d h =
    and_shifted (int_le (pos l) (pos c)) (int_lt (pos c +ℤ pos m) (pos n)) (keeps_away ns ls ms (point ns line))
    ∙ ap (λ i. int_le (pos l) (pos c) && (int_lt (pos c +ℤ pos m) (pos n) && keeps_away ns ls ms (point ns i))) (sym (div-mul-add line n c h))
    ∙ ap (λ k. int_le (pos l) (pos k) && (int_lt (pos k +ℤ pos m) (pos n) && keeps_away ns ls ms (point ns ((line * n + c) / n)))) (sym (mod-mul-add line n c h))

-- the same of what the code has at hand
pub line_is_kept : (p : PlainProgram) (rows : ℕ) (m : Margins) (ext low high rest lows highs : List ℕ) (n l h line c : ℕ) (inside : Bool) → ext ≡ extents_at p rows → low ≡ m.low → high ≡ m.high → 0 < length ext → 0 < length low → 0 < length high
    → n ≡ slice_index_or ext 0 0 → l ≡ slice_index_or low 0 0 → h ≡ slice_index_or high 0 0 → rest ≡ drop 1 ext → lows ≡ drop 1 low → highs ≡ drop 1 high → inside ≡ keeps_away rest lows highs (point rest line) → c < n
    → (is_within n l h c && inside) ≡ is_kept p rows m (line * n + c)
unfolding is_kept
line_is_kept p rows m ext low high rest lows highs n l h line c inside e el eh a b d en ell ehh er erl erh ei lt =
    ap (λ i. is_within n l h c && i) (ei ∙ ap (λ xs. keeps_away xs lows highs (point xs line)) er ∙ ap (λ xs. keeps_away (drop 1 ext) xs highs (point (drop 1 ext) line)) erl ∙ ap (λ xs. keeps_away (drop 1 ext) (drop 1 low) xs (point (drop 1 ext) line)) erh)
    ∙ ap (λ k. is_within k l h c && keeps_away (drop 1 ext) (drop 1 low) (drop 1 high) (point (drop 1 ext) line)) en
    ∙ ap (λ k. is_within (slice_index_or ext 0 0) k h c && keeps_away (drop 1 ext) (drop 1 low) (drop 1 high) (point (drop 1 ext) line)) ell
    ∙ ap (λ k. is_within (slice_index_or ext 0 0) (slice_index_or low 0 0) k c && keeps_away (drop 1 ext) (drop 1 low) (drop 1 high) (point (drop 1 ext) line)) ehh
    ∙ line_kept ext low high line c a b d (omega arith)
    ∙ ap (λ k. keeps_away ext low high (point ext (line * k + c))) (sym en)
    ∙ ap (λ xs. keeps_away xs low high (point xs (line * n + c))) e
    ∙ ap (λ xs. keeps_away (extents_at p rows) xs high (point (extents_at p rows) (line * n + c))) el
    ∙ ap (λ xs. keeps_away (extents_at p rows) m.low xs (point (extents_at p rows) (line * n + c))) eh

-- as many cells as the lines have together
pub lines_size : (ns : List ℕ) → 0 < length ns → size ns ≡ slice_index_or ns 0 0 * size (drop 1 ns)
lines_size [] h = absurd (omega arith)
lines_size (n ∷ ns) h = refl

pub line_room : (line lines n cells : ℕ) → line < lines → cells ≡ n * lines → line * n + n ≤ cells
line_room line lines n cells h e =
    let m : n * suc line ≤ n * lines = mul-le-mul_left n h in omega (arith, m, e)

-- there are no more lines than cells
pub lines_few : (ns : List ℕ) (rows most : ℕ) → list_all (λ n. not (n == 0)) ns ≡ true → 1 ≤ most → size (ns ++ rows ∷ []) ≤ most → size (drop 1 (ns ++ rows ∷ [])) ≤ most
lines_few [] rows most e o h = o
lines_few (n ∷ ns) rows most e o h =
    let some : 0 < n = nonzero n (and_parts (not (eqb n 0)) (list_all (λ m. not (m == 0)) ns) e).0 in
    omega (arith, reach_behind n (size (ns ++ rows ∷ [])) some, h)
