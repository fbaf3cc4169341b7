-- What a computing module sends, from what its ports are in the code.
use Rattle.std.proofs.Common.{◌≡◌, ℕ, Bool, true, false, ◌&&◌, List, Some, None, ℤ, pos, negsuc, nat_lt, slice_index_or, refl, sym, ◌∙◌, ap, if◌then◌else◌}
use Rattle.int_types.specs.Ranges.{wrapped}
use Rattle.delay_net.specs.declared.net.Read.{Read}
use Rattle.soda_ir.specs.declared.program.Parts.{Parts}
use Rattle.soda_ir.specs.Counts.{formula_in, is_output, output_number}
use Rattle.soda_ir.specs.Formula.{by_formula}
use Rattle.soda_ir.specs.Points.{linear}
use Rattle.soda_ir.specs.Program.{PlainProgram, extents_at, plain, preserves}
use Rattle.soda_eval.specs.Points.{point}
use Rattle.soda_eval.specs.Runs.{cells_at, scope_of}
use Rattle.soda_eval.specs.Values.{valued}
use Rattle.time_stages.specs.declared.staging.StagedTensor.{StagedTensor}
use Rattle.time_stages.specs.Margins.{keeps_away}
use Rattle.time_stages.specs.Staged.{number_read, staged_reads, staged_tensors, type_of}
use Rattle.staged_cells.specs.declared.ports.Ports.{Ports}
use Rattle.staged_cells.specs.Cells.{defined_cell, held, inner_cell, outer_cell, port_of, sent_cell}
use Rattle.staged_cells.specs.pieces.Ports.{place_in, port_value, sent_at}

pub some_same : {A : Type 0} (a b : A) → Some a ≡ Some b → a ≡ b
some_same a b e = cc

-- what a port holds, by the parts that say it
abbrev served : Parts → List StagedTensor → List Read → (number turn : ℕ) → List ℤ → ℕ → List ℤ → ℤ
served q ts rs v turn vals y o =
    slice_index_or vals (port_of rs v (number_read (plain q) ts turn y) (linear (extents_at (plain q) 1) o)) (pos 0)

pub port_value_is : (R : Ports) (q : Parts) (v : ℕ) (s : StagedTensor) (values : List ℤ) → R.parts.now ≡ q → R.tensors.now ≡ staged_tensors (plain q)
    → R.reads.now ≡ staged_reads (plain q) → R.number ≡ v → R.turn ≡ s.turn → R.values.now ≡ values
    → port_value R ≡ held (plain q) v s values
port_value_is R q v s values a b c d e f =
    ap (λ (z : Parts). served z R.tensors.now R.reads.now R.number R.turn R.values.now) a
    ∙ ap (λ (z : List StagedTensor). served q z R.reads.now R.number R.turn R.values.now) b
    ∙ ap (λ (z : List Read). served q (staged_tensors (plain q)) z R.number R.turn R.values.now) c
    ∙ ap (λ (z : ℕ). served q (staged_tensors (plain q)) (staged_reads (plain q)) z R.turn R.values.now) d
    ∙ ap (λ (z : ℕ). served q (staged_tensors (plain q)) (staged_reads (plain q)) v z R.values.now) e
    ∙ ap (λ (z : List ℤ). served q (staged_tensors (plain q)) (staged_reads (plain q)) v s.turn z) f

-- what a border is, by the parts that say it
abbrev pub bordered : Parts → List StagedTensor → List Read → (number turn : ℕ) → List ℤ → ℕ → ℤ
bordered q ts rs v turn vals x =
    if preserves (plain q) && is_output (plain q) x then slice_index_or vals
    (port_of rs v (number_read (plain q) ts turn (output_number (plain q) x)) (pos 0)) (pos 0) else pos 0

pub border_is_outer : (R : Ports) (r q : Parts) (v : ℕ) (s : StagedTensor) (values : List ℤ) → r ≡ q → R.tensors.now ≡ staged_tensors (plain q)
    → R.reads.now ≡ staged_reads (plain q) → R.number ≡ v → R.turn ≡ s.turn → R.values.now ≡ values
    → bordered r R.tensors.now R.reads.now R.number R.turn R.values.now s.tensor ≡ outer_cell (plain q) v s values
unfolding outer_cell
border_is_outer R r q v s values a b c d e f =
    ap (λ (z : Parts). bordered z R.tensors.now R.reads.now R.number R.turn R.values.now s.tensor) a
    ∙ ap (λ (z : List StagedTensor). bordered q z R.reads.now R.number R.turn R.values.now s.tensor) b
    ∙ ap (λ (z : List Read). bordered q (staged_tensors (plain q)) z R.number R.turn R.values.now s.tensor) c
    ∙ ap (λ (z : ℕ). bordered q (staged_tensors (plain q)) (staged_reads (plain q)) z R.turn R.values.now s.tensor) d
    ∙ ap (λ (z : ℕ). bordered q (staged_tensors (plain q)) (staged_reads (plain q)) v z R.values.now s.tensor) e
    ∙ ap (λ (z : List ℤ). bordered q (staged_tensors (plain q)) (staged_reads (plain q)) v s.turn z s.tensor) f

pub inner_is : (p : PlainProgram) (params : List ℤ) (v : ℕ) (s : StagedTensor) (values : List ℤ) (h : ℕ → List ℤ → ℤ) → h ≡ held p v s values
    → wrapped (type_of p s.tensor) (by_formula (formula_in p s.tensor) (pos 0) (valued (scope_of p) h params)) ≡ inner_cell p params v s values
unfolding inner_cell
inner_is p params v s values h e =
    ap (λ (k : ℕ → List ℤ → ℤ). wrapped (type_of p s.tensor) (by_formula (formula_in p s.tensor) (pos 0) (valued (scope_of p) k params))) e

pub sent_inside : (p : PlainProgram) (rows : ℕ) (params : List ℤ) (v : ℕ) (s : StagedTensor) (values : List ℤ) (i : ℕ)
    → keeps_away (extents_at p rows) s.low s.high (point (extents_at p rows) i) ≡ true → inner_cell p params v s values ≡ sent_at p rows params v s values i
unfolding sent_at
sent_inside p rows params v s values i e =
    sym (ap (λ b. if b then inner_cell p params v s values else outer_cell p v s values) e)

pub sent_outside : (p : PlainProgram) (rows : ℕ) (params : List ℤ) (v : ℕ) (s : StagedTensor) (values : List ℤ) (i : ℕ)
    → keeps_away (extents_at p rows) s.low s.high (point (extents_at p rows) i) ≡ false → outer_cell p v s values ≡ sent_at p rows params v s values i
unfolding sent_at
sent_outside p rows params v s values i e =
    sym (ap (λ b. if b then inner_cell p params v s values else outer_cell p v s values) e)

-- a cell that is there, and one that isn't
there_by : (b : Bool) (i k : ℕ) (F : ℕ → ℤ) → Some k ≡ (if b then Some i else None) → F k ≡ (if b then F i else pos 0)
there_by true i k F e = ap F (some_same k i e)
there_by false i k F e = cc

pub sent_there : (p : PlainProgram) (rows : ℕ) (params : List ℤ) (v : ℕ) (s : StagedTensor) (values : List ℤ) (z : ℤ) (k : ℕ)
    → Some k ≡ place_in (cells_at p rows) z → sent_at p rows params v s values k ≡ sent_cell p rows params v s values z
unfolding sent_cell sent_at
sent_there p rows params v s values (pos i) k e =
    there_by (nat_lt i (cells_at p rows)) i k
    (λ j. if keeps_away (extents_at p rows) s.low s.high (point (extents_at p rows) j) then inner_cell p params v s values else outer_cell p v s values) e
sent_there p rows params v s values (negsuc i) k e = cc

none_by : (b : Bool) (i : ℕ) (w : ℤ) → None ≡ (if b then Some i else None) → pos 0 ≡ (if b then w else pos 0)
none_by true i w e = cc
none_by false i w e = refl

pub sent_nowhere : (p : PlainProgram) (rows : ℕ) (params : List ℤ) (v : ℕ) (s : StagedTensor) (values : List ℤ) (z : ℤ) → None ≡ place_in (cells_at p rows) z
    → pos 0 ≡ sent_cell p rows params v s values z
unfolding sent_cell
sent_nowhere p rows params v s values (pos i) e = none_by (nat_lt i (cells_at p rows)) i _ e
sent_nowhere p rows params v s values (negsuc i) e = refl

pub defined_nowhere : (p : PlainProgram) (rows : ℕ) (params : List ℤ) (inputs : List (List ℤ)) (s : StagedTensor) (z : ℤ)
    → None ≡ place_in (cells_at p rows) z → pos 0 ≡ defined_cell p rows params inputs s z
unfolding defined_cell
defined_nowhere p rows params inputs s (pos i) e = none_by (nat_lt i (cells_at p rows)) i _ e
defined_nowhere p rows params inputs s (negsuc i) e = refl
