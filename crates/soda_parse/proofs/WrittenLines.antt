-- The lines of the canonical text are the statements of the program.
use Rattle.std.proofs.Common.{◌≡◌, ℕ, zero, suc, ◌≤◌, ◌&&◌, Bool, true, false, not, nat_le, inl, inr, List, [], ◌∷◌, ◌++◌, length, map, Some, refl, sym, ap, ◌∙◌, arith, append_assoc, codes, subst, pos}
use Rattle.std.specs.Prelude.{slice_get, if◌then◌else◌}
use Rattle.std.specs.Fmt.{decimal}
use Rattle.std.specs.List.{list_all}
use Rattle.soda_words.specs.IntType.{IntType}
use Rattle.soda_formula.specs.Grammar.{symbol_on, name_on, IsComponent, ahead, AreOffsets, InRound, AreParted}
use Rattle.soda_ir.specs.Formula.{Formula}
use Rattle.soda_ir.specs.Program.{PlainParam, PlainProgram, PlainTensor}
use Rattle.soda_ir.specs.Uses.{each_use, is_good_cell, is_good_place}
use Rattle.soda_ir.specs.Written.{most_open, token_count}
use Rattle.soda_ir.specs.Valid.{IsValid, has_good_uses, is_good_param, is_small}
use Rattle.soda_ir.specs.declared.program.Border.{Border}
use Rattle.soda_ir.specs.declared.program.Border.TheVariants.{Ignore, Preserve}
use Rattle.soda_print.specs.Canonical.{border_word, role_word, tensor_name, type_text}
use Rattle.soda_print.specs.Sized.{AreSizedTensors, IsSized, IsSizedProgram}
use Rattle.soda_print.proofs.CallerLemmas.{canonical_tokens, formula_tokens, index_tokens, left_tokens, listed_tokens, param_tokens, placed_lines, tensor_tokens, tile_tokens}
use Rattle.soda_syntax.specs.Grammar.{IsExtent, a_number, a_star, AreSizes, no_size, size_before, no_bank, MayBeType, a_tile, IsLeftSide, IsLocalHead, IsOutputHead, IsStatement, a_kernel, a_burst_width, an_unroll_factor, an_iterate, ignored_border, preserved_border, a_param, an_input as an_input_line, a_local as a_local_line, an_output as an_output_line}
use Rattle.soda_syntax.proofs.CallerLemmas.{AreSmallStatements, none_small, small_before, IsSmallFormula, IsSmallLine, formula_small, plain_small, small_syntax}
use Rattle.soda_syntax.specs.SyntaxError.{IsHead, IsSyntax}
use Rattle.soda_formula.specs.Statements.{border, param, input, local, output}
use Rattle.soda_formula.specs.declared.statement.Extent.TheVariants.{Fixed, Open}
use Rattle.soda_words.specs.Names.{is_name, is_reserved, is_word}
use Rattle.soda_words.specs.declared.symbol.Symbol.TheVariants.{Star, Colon, EqualSign}
use Rattle.soda_words.specs.declared.token.Placed.{Placed}
use Rattle.soda_words.specs.declared.token.Token.{Token}
use Rattle.soda_words.specs.declared.token.Token.TheVariants.{Name, Number, Sign}
use Rattle.soda_parse.proofs.Lookups.{Fresh, fresh_back, fresh_front, there_mapped}
use Rattle.soda_parse.proofs.ReadBack.{sizes_on}
use Rattle.soda_parse.proofs.ReadProgram.{names_fresh, tensor_there, tensors_ordered}
use Rattle.soda_parse.proofs.SameTypes.{both_of}
use Rattle.soda_parse.proofs.SmallFormulas.{small_tokens}
use Rattle.soda_parse.proofs.Statements.{AreDefined, none_defined, a_local, an_output, AreOrdered, no_input, an_input, declared_from, formula_on, input_on, param_on, statements_of, tensors_from, word, zeros}
use Rattle.soda_parse.proofs.WrittenFormulas.{AreItems, IsFree, in_round, is_formula, on, on_both}
use Rattle.std.proofs.lemmas.Bool.{not-true, leb-true}
use Rattle.std.proofs.lemmas.Option.{same_Some}

not_dram : (s : Bool) (n : ℕ) → is_word (codes "dram") ((if s then codes "int" else codes "uint") ++ decimal n) ≡ false
not_dram true n = refl
not_dram false n = refl

-- the word of a type is not `dram`
pub may_be_type : (line : ℕ) (t : IntType) → MayBeType (word line (type_text t))
unfolding type_text
may_be_type line t = not_dram t.signed t.bits

are_sizes : (line : ℕ) (ns : List ℕ) → AreSizes (on line (index_tokens ns)) (sizes_on line ns)
are_sizes line [] = no_size
are_sizes line (n ∷ ns) = size_before line line n line (are_sizes line ns)

length_sizes : (line : ℕ) (ns : List ℕ) → length (sizes_on line ns) ≡ length ns
length_sizes line [] = refl
length_sizes line (n ∷ ns) = ap suc (length_sizes line ns)

-- the line of a param
param_line_is : (line : ℕ) (q : PlainParam) → is_good_param q ≡ true → IsStatement (on line (param_tokens q)) (param (param_on line q))
param_line_is line q g =
    let few : length q.sizes ≤ 2 = leb-true (length q.sizes) 2 (both_of (nat_le (length q.sizes) 2) _ g).0 in
    a_param line line (word line (type_text q.ty)) (word line q.name) (may_be_type line q.ty) (are_sizes line q.sizes) (omega (
      arith,
      length_sizes line q.sizes,
    ))

extents_rest : (line : ℕ) (ns : List ℕ) → AreItems IsExtent line (tile_tokens ns) (map (λ n. Fixed n) ns ++ Open ∷ [])
extents_rest line [] = (a_star line, tt)
extents_rest line (n ∷ ns) = (a_number line n, extents_rest line ns)

extents_are : (line : ℕ) (ns : List ℕ) → InRound (AreParted IsExtent) (on line (listed_tokens (tile_tokens ns))) (map (λ n. Fixed n) ns ++ Open ∷ [])
extents_are line [] = in_round IsExtent line (Sign Star ∷ []) [] Open [] (a_star line) tt
extents_are line (n ∷ ns) =
    in_round IsExtent line (Number n ∷ []) (tile_tokens ns) (Fixed n) (map (λ n. Fixed n) ns ++ Open ∷ []) (a_number line n) (extents_rest line ns)

zeros_rest : (line : ℕ) (ns : List ℕ) → AreItems IsComponent line (left_tokens ns) (map (λ n. pos 0) ns ++ pos 0 ∷ [])
zeros_rest line [] = (ahead line 0, tt)
zeros_rest line (n ∷ ns) = (ahead line 0, zeros_rest line ns)

zeros_are : (line : ℕ) (ns : List ℕ) → AreOffsets (on line (listed_tokens (left_tokens ns))) (map (λ n. pos 0) ns ++ pos 0 ∷ [])
zeros_are line [] = in_round IsComponent line (Number 0 ∷ []) [] (pos 0) [] (ahead line 0) tt
zeros_are line (n ∷ ns) =
    in_round IsComponent line (Number 0 ∷ []) (left_tokens ns) (pos 0) (map (λ n. pos 0) ns ++ pos 0 ∷ []) (ahead line 0) (zeros_rest line ns)

-- the left side of a formula
abbrev side : PlainProgram → ℕ → IntType → List ℕ → List Placed
side p line ty name =
    name_on line (type_text ty) ∷ symbol_on line Colon ∷ name_on line name ∷ (on line (listed_tokens (left_tokens p.extents)) ++ symbol_on line EqualSign ∷ [])

side_is : (p : PlainProgram) (line : ℕ) (ty : IntType) (name : List ℕ) → IsLeftSide (side p line ty name) (word line (type_text ty)) (word line name) (zeros p)
side_is p line ty name = record {
  colon = line;
  equals = line;
  offsets = on line (listed_tokens (left_tokens p.extents));
  is = refl;
  typed = may_be_type line ty;
  at = zeros_are line p.extents;
}

-- the tokens behind the first word of a line with a formula
abbrev sided : PlainProgram → IntType → List ℕ → Formula → List Token
sided p ty name f =
    Name (type_text ty) ∷ Sign Colon ∷ Name name ∷ (listed_tokens (left_tokens p.extents) ++ (Sign EqualSign ∷ formula_tokens p f))

split_side : (p : PlainProgram) (line : ℕ) (ty : IntType) (name : List ℕ) (f : Formula) →
    on line (sided p ty name f) ≡ side p line ty name ++ on line (formula_tokens p f)
split_side p line ty name f =
    let left : List Token = listed_tokens (left_tokens p.extents) in
    ap (λ (ps : List Placed). name_on line (type_text ty) ∷ symbol_on line Colon ∷ name_on line name ∷ ps)
    (on_both line left (Sign EqualSign ∷ formula_tokens p f) ∙ sym (append_assoc (on line left) (symbol_on line EqualSign ∷ [])
    (on line (formula_tokens p f))))

local_line_is : (p : PlainProgram) (line : ℕ) (name : List ℕ) (ty : IntType) (f : Formula) → IsFree p →
    each_use (is_good_cell p) (is_good_place p) f ≡ true → IsSized f →
    IsStatement (on line (Name (codes "local") ∷ sided p ty name f)) (local (formula_on p line ty name f))
local_line_is p line name ty f h u s =
    let head : IsLocalHead (name_on line (codes "local") ∷ side p line ty name) (word line (type_text ty)) (word line name) (zeros p) =
    record { line = line; rest = side p line ty name; is = refl; side = side_is p line ty name } in
    subst (λ (ps : List Placed). IsStatement (name_on line (codes "local") ∷ ps) (local (formula_on p line ty name f))) (sym (split_side p line ty name f))
    (a_local_line (word line (type_text ty)) (word line name) head (is_formula p line f h u s))

output_line_is : (p : PlainProgram) (line : ℕ) (name : List ℕ) (ty : IntType) (f : Formula) → IsFree p →
    each_use (is_good_cell p) (is_good_place p) f ≡ true → IsSized f →
    IsStatement (on line (Name (codes "output") ∷ sided p ty name f)) (output (formula_on p line ty name f))
output_line_is p line name ty f h u s =
    let head : IsOutputHead (name_on line (codes "output") ∷ side p line ty name) (word line (type_text ty)) (word line name) (zeros p) =
    record { line = line; bank = []; rest = side p line ty name; is = refl; banked = no_bank; side = side_is p line ty name } in
    subst (λ (ps : List Placed). IsStatement (name_on line (codes "output") ∷ ps) (output (formula_on p line ty name f)))
    (sym (split_side p line ty name f)) (an_output_line (word line (type_text ty)) (word line name) head (is_formula p line f h u s))

-- the formula of a line is small
small_side : (p : PlainProgram) (line : ℕ) (word : List ℕ) (ty : IntType) (name : List ℕ) (f : Formula) → IsHead (name_on line word ∷ side p line ty name) →
    IsSmallFormula (on line (formula_tokens p f)) → IsSmallLine (on line (Name word ∷ sided p ty name f))
small_side p line w ty name f head small =
    subst (λ (ps : List Placed). IsSmallLine (name_on line w ∷ ps)) (sym (split_side p line ty name f))
    (formula_small (name_on line w ∷ side p line ty name) (on line (formula_tokens p f)) head small)

local_head : (p : PlainProgram) (line : ℕ) (ty : IntType) (name : List ℕ) → IsHead (name_on line (codes "local") ∷ side p line ty name)
local_head p line ty name =
    (word line (type_text ty), word line name, zeros p, inl (record { line = line; rest = side p line ty name; is = refl; side = side_is p line ty name }))

output_head : (p : PlainProgram) (line : ℕ) (ty : IntType) (name : List ℕ) → IsHead (name_on line (codes "output") ∷ side p line ty name)
output_head p line ty name = (
  word line (type_text ty),
  word line name,
  zeros p,
  inr (record {
    line = line;
    bank = [];
    rest = side p line ty name;
    is = refl;
    banked =
        no_bank;
    side = side_is p line ty name;
  }),
)

defined_lines : (p : PlainProgram) (line : ℕ) {ts : List PlainTensor} → IsFree p → AreDefined ts → list_all (has_good_uses p) ts ≡ true →
    list_all (is_small p) ts ≡ true → AreSizedTensors ts → AreSmallStatements (placed_lines line (map (tensor_tokens p) ts)) (tensors_from p line ts)
unfolding role_word
defined_lines p line h none_defined u m s = none_small
defined_lines p line h (a_local {ts} n ty f more) u m s =
    let both = both_of (each_use (is_good_cell p) (is_good_place p) f) (list_all (has_good_uses p) ts) u in
    let few = both_of (nat_le (token_count p f) 1500 && nat_le (most_open p f) 64) (list_all (is_small p) ts) m in
    small_before (local_line_is p line n ty f h both.0 s.0.1) (small_side p line (codes "local") ty n f (local_head p line ty n)
    (small_tokens p line f h both.0 s.0.1 few.0)) (defined_lines p (suc line) h more both.1 few.1 s.1)
defined_lines p line h (an_output {ts} n ty f more) u m s =
    let both = both_of (each_use (is_good_cell p) (is_good_place p) f) (list_all (has_good_uses p) ts) u in
    let few = both_of (nat_le (token_count p f) 1500 && nat_le (most_open p f) 64) (list_all (is_small p) ts) m in
    small_before (output_line_is p line n ty f h both.0 s.0.1) (small_side p line (codes "output") ty n f (output_head p line ty n)
    (small_tokens p line f h both.0 s.0.1 few.0)) (defined_lines p (suc line) h more both.1 few.1 s.1)

input_line_is : (p : PlainProgram) (line : ℕ) (name : List ℕ) (ty : IntType) →
    IsStatement (name_on line (codes "input") ∷ name_on line (type_text ty) ∷ symbol_on line Colon ∷ name_on line name ∷ on line
    (listed_tokens (tile_tokens p.extents))) (input (input_on p line ty name))
input_line_is p line name ty =
    an_input_line line line (word line (type_text ty)) (word line name) no_bank (may_be_type line ty) (a_tile (extents_are line p.extents))

tensor_lines : (p : PlainProgram) (line : ℕ) {ts : List PlainTensor} → IsFree p → AreOrdered ts → list_all (has_good_uses p) ts ≡ true →
    list_all (is_small p) ts ≡ true → AreSizedTensors ts → AreSmallStatements (placed_lines line (map (tensor_tokens p) ts)) (tensors_from p line ts)
unfolding role_word
tensor_lines p line h (no_input d) u m s = defined_lines p line h d u m s
tensor_lines p line h (an_input {ts} n ty more) u m s =
    small_before (input_line_is p line n ty) (plain_small (input_line_is p line n ty) refl) (tensor_lines p (suc line) h more u m s.1)

declared_lines : (p : PlainProgram) (line : ℕ) (qs : List PlainParam) {ts : List PlainTensor} → IsFree p → AreOrdered ts →
    list_all is_good_param qs ≡ true → list_all (has_good_uses p) ts ≡ true → list_all (is_small p) ts ≡ true → AreSizedTensors ts →
    AreSmallStatements (placed_lines line (map param_tokens qs ++ map (tensor_tokens p) ts)) (declared_from p line qs ts)
declared_lines p line [] h d g u m s = tensor_lines p line h d u m s
declared_lines p line (q ∷ qs) h d g u m s =
    let both = both_of (is_good_param q) (list_all is_good_param qs) g in
    small_before (param_line_is line q both.0) (plain_small (param_line_is line q both.0) refl) (declared_lines p (suc line) qs h d both.1 u m s)

border_is : (line : ℕ) (b : Border) →
    IsStatement (on line (Name (codes "border") ∷ Sign Colon ∷ Name (border_word b) ∷ []))
    (border line (elim b as (λ v. Bool) [ Ignore ↦ false | Preserve ↦ true ]))
unfolding border_word
border_is line Ignore = ignored_border line line line
border_is line Preserve = preserved_border line line line

free_there : (ws : List (List ℕ)) (k : ℕ) (w : List ℕ) → Fresh ws → slice_get ws k ≡ Some w → is_reserved w ≡ false
free_there [] k w f e = cc
free_there (v ∷ ws) zero w f e =
    let free = both_of (is_name v) (not (is_reserved v)) f.0 in
    ap is_reserved (sym (same_Some v w e)) ∙ not-true (is_reserved v) free.1
free_there (v ∷ ws) (suc k) w f e = free_there ws k w f.2 e

-- the names of a valid program are free
pub are_free : (p : PlainProgram) → IsValid p → IsFree p
are_free p v =
    let qs : List (List ℕ) = map (λ (q : PlainParam). q.name) p.params in
    let ts : List (List ℕ) = map (λ (t : PlainTensor). t.name) p.tensors in
    let f : Fresh (qs ++ ts) = names_fresh p v in
    record {
      tensors = λ k h. free_there ts k (tensor_name p k) (fresh_back qs ts f) (tensor_there p k h);
      params = λ k q e. free_there qs k q.name (fresh_front qs ts f) (there_mapped (λ (r : PlainParam). r.name) p.params k q e);
    }

-- the tokens of the canonical text are the statements of the program, and no formula is too large
pub written_lines : (p : PlainProgram) → IsValid p → IsSizedProgram p → IsSyntax (placed_lines 1 (canonical_tokens p)) (statements_of p)
unfolding statements_of
written_lines p v s =
    let rest = declared_lines p 6 p.params (are_free p v) (tensors_ordered p v) v.sound.parts.params v.sound.parts.uses v.sound.parts.small s.tensors in
    small_syntax
    (small_before (a_kernel 1 1 1 p.kernel) (plain_small (a_kernel 1 1 1 p.kernel) refl)
    (small_before (a_burst_width 2 2 2 2 p.burst) (plain_small (a_burst_width 2 2 2 2 p.burst) refl)
    (small_before (an_unroll_factor 3 3 3 3 p.unroll) (plain_small (an_unroll_factor 3 3 3 3 p.unroll) refl)
    (small_before (an_iterate 4 4 4 p.iterate) (plain_small (an_iterate 4 4 4 p.iterate) refl)
    (small_before (border_is 5 p.border) (plain_small (border_is 5 p.border) refl) rest)))))
