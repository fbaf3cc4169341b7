-- What a computing module sends is the defined cell, where its ports hold the defined cells of what is read.
use Rattle.std.proofs.Common.{◌≡◌, ℕ, zero, suc, ◌+◌, ◌-◌, ◌<◌, ◌≢◌, Bool, true, false, not, ◌&&◌, ◌||◌, ◌==◌, List, [], ◌∷◌, ◌++◌, length, map, get_or, Option, Some, None, slice_get, slice_index_or, nat_lt, refl, sym, ◌∙◌, ap, subst, arith, ⊎_elim, if◌then◌else◌, eq-eqb, ℤ, pos, negsuc, ◌+ℤ◌, unsigned_abs}
use Rattle.std.specs.List.{list_any, position_or_len}
use Rattle.std.specs.Ordering.{int_eq}
use Rattle.std.proofs.lemmas.Bool.{and_from, and_parts, eqb-true, false≢true, lt-ltb, ltb-true, or_cases, or_left, or_right, true≢false}
use Rattle.std.proofs.lemmas.Bool.Decides.{Decides-int_eq}
use Rattle.std.proofs.lemmas.Int.{ints}
use Rattle.std.proofs.lemmas.List.{get_or-map, get_or_default, length-map}
use Rattle.std.proofs.lemmas.List.Folds.{list_any-append}
use Rattle.std.proofs.lemmas.List.Sums.{passes_at_first}
use Rattle.soda_words.specs.IntType.{IntType, int32}
use Rattle.int_types.specs.Ranges.{InRange, wrapped}
use Rattle.delay_net.specs.declared.net.Read.{Read}
use Rattle.soda_ir.specs.declared.reads.Read.{Read as Reading}
use Rattle.soda_ir.specs.declared.program.Border.{Border}
use Rattle.soda_ir.specs.declared.program.Border.TheVariants.{Ignore, Preserve}
use Rattle.soda_ir.specs.declared.program.Role.{Role}
use Rattle.soda_ir.specs.declared.program.Role.TheVariants.{Input, Local, Output}
use Rattle.soda_ir.specs.Counts.{border_reads, count_below, does_read, formula_in, formula_reads, is_input, is_input_role, is_output, is_output_role, output_number, tensor_reads}
use Rattle.soda_ir.specs.Formula.{Formula, number, read, param, unary, binary, choice, cast, by_formula, every}
use Rattle.soda_ir.specs.Points.{linear}
use Rattle.soda_ir.specs.Program.{PlainProgram, PlainTensor, extents_at, input_types, outputs_of, preserves}
use Rattle.soda_ir.specs.Uses.{is_good_cell}
use Rattle.soda_ir.specs.Valid.{IsSound}
use Rattle.soda_eval.specs.Arrays.{Each, Given, IsMeaning, Stencil, cell, in_region, outside_cell, type_at}
use Rattle.soda_eval.specs.Points.{in_box, moved, point}
use Rattle.soda_eval.specs.Runs.{HasValues, borders_from, borders_of, cells_at, run_of, scope_of, stencil_of}
use Rattle.soda_eval.specs.Values.{valued}
use Rattle.soda_ir.proofs.CallerLemmas.{IsInput, IsOutput, bare_input, countable, every_both, every_weaker, good_length, good_there, input_bare, input_there, output_at, reads_good, type_in}
use Rattle.soda_eval.proofs.CallerLemmas.{depth_means, each_from, number_back, rank, ranks, ranks_below, read_number, valued_same}
use Rattle.time_stages.specs.declared.staging.StagedTensor.{StagedTensor}
use Rattle.time_stages.specs.Margins.{keeps_away}
use Rattle.time_stages.specs.Staged.{number_read, read_by, reads_of, source_of, staged_reads, staged_tensor, staged_tensors, type_of}
use Rattle.time_stages.proofs.CallerLemmas.{border_is_input, count_first, each_staged, get_at, own_margins, own_turn, place_in, place_within, reads_by_it, same_as, source_staged, true_or_not}
use Rattle.region_margins.proofs.CallerLemmas.{region_margins}
use Rattle.staged_cells.specs.Cells.{IsNumber, PortsHold, border_port, cell_at, cell_port, defined_cell, held, inner_cell, outer_cell, port_of, port_types, reads_by, sent_cell, type_at as staged_type}

-- ---- lists

any_mapped : {A B : Type 0} (f : B → Bool) (g : A → B) (xs : List A) → list_any f (map g xs) ≡ list_any (λ x. f (g x)) xs
any_mapped f g [] = refl
any_mapped f g (x ∷ xs) = ap (λ b. f (g x) || b) (any_mapped f g xs)

any_weaker : {A : Type 0} (f g : A → Bool) → ((x : A) → f x ≡ true → g x ≡ true) → (xs : List A) → list_any f xs ≡ true → list_any g xs ≡ true
any_weaker f g h [] e = e
any_weaker f g h (x ∷ xs) e =
    ⊎_elim (λ l. or_left (g x) (list_any g xs) (h x l)) (λ r. or_right (g x) (list_any g xs) (any_weaker f g h xs r)) (or_cases (f x) (list_any f xs) e)

-- ---- each cell that a formula names is among its reads

abbrev is_read_in : List ℕ → List Reading → ℕ → List ℤ → Bool
is_read_in ns rs y o = list_any (same_as y (linear ns o)) rs

in_first : (ns : List ℕ) (xs zs : List Reading) (y : ℕ) (o : List ℤ) → is_read_in ns xs y o ≡ true → is_read_in ns (xs ++ zs) y o ≡ true
in_first ns xs zs y o e =
    list_any-append (same_as y (linear ns o)) xs zs ∙ or_left (is_read_in ns xs y o) (is_read_in ns zs y o) e

in_second : (ns : List ℕ) (xs zs : List Reading) (y : ℕ) (o : List ℤ) → is_read_in ns zs y o ≡ true → is_read_in ns (xs ++ zs) y o ≡ true
in_second ns xs zs y o e =
    list_any-append (same_as y (linear ns o)) xs zs ∙ or_right (is_read_in ns xs y o) (is_read_in ns zs y o) e

itself : (y : ℕ) (d : ℤ) → (y == y && int_eq d d) ≡ true
itself y d = and_from (y == y) (int_eq d d) (eq-eqb y y refl) ((Decides-int_eq d d).1 refl)

own_reads : (ns : List ℕ) (f : Formula) → every (is_read_in ns (formula_reads ns f)) f ≡ true
own_reads ns (number n) = refl
own_reads ns (read t o) =
    or_left (t == t && int_eq (linear ns o) (linear ns o)) false (itself t (linear ns o))
own_reads ns (param p k) = refl
own_reads ns (unary op a) = own_reads ns a
own_reads ns (binary op a b) =
    let x = formula_reads ns a in
    let y = formula_reads ns b in
    and_from (every (is_read_in ns (x ++ y)) a) (every (is_read_in ns (x ++ y)) b)
    (every_weaker (is_read_in ns x) (is_read_in ns (x ++ y)) (in_first ns x y) a (own_reads ns a))
    (every_weaker (is_read_in ns y) (is_read_in ns (x ++ y)) (in_second ns x y) b (own_reads ns b))
own_reads ns (choice c a b) =
    let z = formula_reads ns c in
    let x = formula_reads ns a in
    let y = formula_reads ns b in
    let all = z ++ (x ++ y) in
    let test = is_read_in ns all in
    and_from (every test c && every test a) (every test b)
    (and_from (every test c) (every test a) (every_weaker (is_read_in ns z) test (in_first ns z (x ++ y)) c (own_reads ns c))
    (every_weaker (is_read_in ns x) test (λ t o h. in_second ns z (x ++ y) t o (in_first ns x y t o h)) a (own_reads ns a)))
    (every_weaker (is_read_in ns y) test (λ t o h. in_second ns z (x ++ y) t o (in_second ns x y t o h)) b (own_reads ns b))
own_reads ns (cast t a) = own_reads ns a

-- ---- the borders

abbrev output_in : List PlainTensor → ℕ → Bool
output_in ts x = elim (slice_get ts x) [ None ↦ false | Some t ↦ is_output_role t.role ]

abbrev bit : Bool → ℕ
bit b = if b then 1 else 0

abbrev with_border : Role → ℕ → List PlainTensor → List (Option ℕ)
with_border r k ts =
    elim r [ Input ↦ None ∷ borders_from k ts | Local ↦ None ∷ borders_from k ts | Output ↦ Some k ∷ borders_from (suc k) ts ]

-- what stands for a tensor: the number of an output, and nothing for any other
border_first : (r : Role) (k : ℕ) (ts : List PlainTensor) → slice_index_or (with_border r k ts) 0 None ≡ (if is_output_role r then Some k else None)
border_first Input k ts = refl
border_first Local k ts = refl
border_first Output k ts = refl

border_next : (r : Role) (k x : ℕ) (ts : List PlainTensor)
    → slice_index_or (with_border r k ts) (suc x) None ≡ slice_index_or (borders_from (k + bit (is_output_role r)) ts) x None
border_next Input k x ts = ap (λ j. slice_index_or (borders_from j ts) x None) (let e : k ≡ k + 0 = omega arith in e)
border_next Local k x ts = ap (λ j. slice_index_or (borders_from j ts) x None) (let e : k ≡ k + 0 = omega arith in e)
border_next Output k x ts = ap (λ j. slice_index_or (borders_from j ts) x None) (let e : suc k ≡ k + 1 = omega arith in e)

border_number : (k : ℕ) (ts : List PlainTensor) (x : ℕ)
    → slice_index_or (borders_from k ts) x None ≡ (if output_in ts x then Some (k + count_below (output_in ts) x) else None)
border_number k [] x = refl
border_number k (t ∷ ts) zero =
    border_first t.role k ts ∙ ap (λ j. if is_output_role t.role then Some j else None) (let e : k ≡ k + 0 = omega arith in e)
border_number k (t ∷ ts) (suc x) =
    border_next t.role k x ts
    ∙ border_number (k + bit (is_output_role t.role)) ts x
    ∙ ap (λ j. if output_in ts x then Some j else None)
    (let e : (k + bit (is_output_role t.role)) + count_below (output_in ts) x ≡ k + count_below (output_in (t ∷ ts)) (suc x) = omega
    (arith, count_first (output_in (t ∷ ts)) x) in e)

border_by : (b : Border) (ts : List PlainTensor) (x : ℕ) → slice_index_or (elim b [ Ignore ↦ [] | Preserve ↦ borders_from 0 ts ]) x None
    ≡ (if elim b [ Ignore ↦ false | Preserve ↦ true ] && output_in ts x then Some (count_below (output_in ts) x) else None)
border_by Ignore ts x = refl
border_by Preserve ts x =
    border_number 0 ts x ∙ ap (λ j. if output_in ts x then Some j else None)
    (let e : 0 + count_below (output_in ts) x ≡ count_below (output_in ts) x = omega arith in e)

border_is : (p : PlainProgram) (x : ℕ) → slice_index_or (borders_of p) x None ≡ (if preserves p && is_output p x then Some (output_number p x) else None)
border_is p x = border_by p.border p.tensors x

border_read : (b : Bool) (j : ℕ) → b ≡ true → list_any (same_as j (pos 0)) (if b then record { of = j; offset = pos 0 } ∷ [] else []) ≡ true
border_read true j e = or_left (j == j && int_eq (pos 0) (pos 0)) false (itself j (pos 0))
border_read false j e = absurd (false≢true e)

-- an input is there
input_below : (ts : List PlainTensor) (y : ℕ) → (elim (slice_get ts y) [ None ↦ false | Some t ↦ is_input_role t.role ]) ≡ true → y < length ts
input_below [] y h = absurd (false≢true h)
input_below (t ∷ ts) zero h = omega arith
input_below (t ∷ ts) (suc y) h = omega (arith, input_below ts y h)

-- a value at its place is of its type
pub value_at_place : (types : List IntType) (vs : List ℤ) (j : ℕ) → HasValues types vs → j < length types
    → InRange (slice_index_or types j int32) (slice_index_or vs j (pos 0))
value_at_place [] [] j h l = absurd (omega arith)
value_at_place [] (w ∷ ws) j h l = absurd h
value_at_place (t ∷ ts) [] j h l = absurd h
value_at_place (t ∷ ts) (w ∷ ws) zero h l = h.0
value_at_place (t ∷ ts) (w ∷ ws) (suc j) h l = value_at_place ts ws j h.1 (omega arith)

some_read : Read
some_read = record { reader = 0; of = 0; offset = pos 0 }

module _ (p : PlainProgram) (sound : IsSound p) (rows : ℕ) (params : List ℤ) (inputs : List (List ℤ)) (v : ℕ) (s : StagedTensor)
    (e : slice_get (staged_tensors p) v ≡ Some s) where
  abbrev ts : List StagedTensor
  ts = staged_tensors p

  abbrev box : List ℕ
  box = extents_at p rows

  abbrev g : Given
  g = run_of p rows params inputs (s.turn - 1)

  abbrev stencil : Stencil
  stencil = stencil_of p rows

  abbrev region : ℕ → List ℤ → Bool
  region y q = in_region stencil g (length p.tensors) y q

  abbrev value : ℕ → List ℤ → ℤ
  value y q = cell stencil g params (length p.tensors) y q

  means : (h : Given) → IsMeaning stencil h params (in_region stencil h (length p.tensors)) (cell stencil h params (length p.tensors))
  means h = depth_means stencil h params (rank p) (ranks p sound rows) (length p.tensors) (ranks_below p sound)

  -- the margins say the region
  pub region_is : (q : List ℤ) → region s.tensor q ≡ keeps_away box s.low s.high q
  region_is q =
      let turn = own_turn p v s sound e in
      region_margins p sound rows params inputs (s.turn - 1) s.tensor q turn.2
      ∙ ap (λ (u : StagedTensor). keeps_away box u.low u.high q) (sym (own_margins p v s e))

  -- the cells of an input are those that its iteration begins with
  pub input_cell : (h : Given) (j : ℕ) (q : List ℤ) → is_input p j ≡ true → cell stencil h params (length p.tensors) j q ≡ h.cell j q
  input_cell h j q i =
      (means h).cells j q
      ∙ ap (λ o. by_formula o (h.cell j q) (λ f. if in_region stencil h (length p.tensors) j q then wrapped (type_at stencil j)
      (valued stencil.scope (λ y o. cell stencil h params (length p.tensors) y (moved q o)) params f) else outside_cell stencil h j q))
      (input_bare p.tensors j sound.parts.formulas i)

  -- the cell of what is read, as a staged tensor
  source_cell : (y : ℕ) (q : List ℤ) → cell_at p rows params inputs (source_of p s.turn y) q ≡ value y q
  source_cell y q =
      let turn = own_turn p v s sound e in
      let o = slice_index_or (outputs_of p) y 0 in
      let c = is_input p y && not (s.turn == 1) in
      ⊎_elim (λ (h : c ≡ true).
      let both = and_parts (is_input p y) (not (s.turn == 1)) h in
      let k = s.turn - 2 in
      let many : length p.tensors ≡ length (map (λ (u : PlainTensor). u.formula) p.tensors) = sym (length-map p.tensors (λ (u : PlainTensor). u.formula)) in
      let later : s.turn ≡ 1 → ⊥ = λ i. false≢true (sym (ap not (eq-eqb s.turn 1 i)) ∙ both.1) in
      let before : suc k - 1 ≡ k = omega arith in
      let here : suc k ≡ s.turn - 1 = omega (arith, turn.0) in
      ap (λ b. cell_at p rows params inputs (if b then staged_tensor p k o else staged_tensor p (s.turn - 1) y) q) h
      ∙ ap (λ j. cell stencil (run_of p rows params inputs j) params (length p.tensors) o q) before
      ∙ ap (λ m. cell stencil (run_of p rows params inputs k) params m o q) many
      ∙ ap (λ j. (run_of p rows params inputs j).cell y q) here
      ∙ sym (input_cell g y q both.0))
      (λ (h : c ≡ false).
      let same : suc (s.turn - 1) - 1 ≡ s.turn - 1 = omega arith in
      ap (λ b. cell_at p rows params inputs (if b then staged_tensor p (s.turn - 2) o else staged_tensor p (s.turn - 1) y) q) h
      ∙ ap (λ j. cell stencil (run_of p rows params inputs j) params (length p.tensors) y q) same)
      (true_or_not c)

  pub defined_there : (u : StagedTensor) (k : ℕ) → k < cells_at p rows
      → defined_cell p rows params inputs u (pos k) ≡ cell_at p rows params inputs u (point box k)
  unfolding defined_cell
  defined_there u k l =
      ap (λ b. if b then cell_at p rows params inputs u (point box k) else pos 0) (lt-ltb k (cells_at p rows) l)

  number_there : (z : ℤ) (k : ℕ) → z ≡ pos k → k < cells_at p rows → IsNumber p rows z
  number_there z k is l = (omega (arith, ints), omega (arith, ints))

  -- a read, by its number and offset
  read_is : (n : ℕ) (d : ℤ) (r : Read) → (r.of == n && int_eq r.offset d) ≡ true → (r.of ≡ n) × (r.offset ≡ d)
  read_is n d r h =
      let both = and_parts (r.of == n) (int_eq r.offset d) h in
      (eqb-true r.of n both.0, (Decides-int_eq r.offset d).0 both.1)

  -- the port of a read whose cell is there holds the cell
  port_holds : (i : ℕ) (ports : List ℤ) → PortsHold p rows params inputs v (pos i) ports → (y : ℕ) (d : ℤ) (k : ℕ)
      → list_any (same_as y d) (tensor_reads p s.tensor) ≡ true → k < cells_at p rows → (pos i +ℤ d) ≡ pos k
      → slice_index_or ports (port_of (staged_reads p) v (number_read p ts s.turn y) d) (pos 0) ≡ value y (point box k)
  port_holds i ports hold y d k occurs l is =
      let n = number_read p ts s.turn y in
      let reads : does_read p s.tensor y ≡ true =
      any_weaker (same_as y d) (λ (r : Reading). r.of == y) (λ r h. (and_parts (r.of == y) (int_eq r.offset d) h).0) (tensor_reads p s.tensor) occurs in
      let source = source_staged p v s y sound e reads in
      let f : Read → Bool = λ r. r.of == n && int_eq r.offset d in
      let list = reads_by (staged_reads p) v in
      let there : list_any f list ≡ true = ap (list_any f) (reads_by_it p v s e) ∙ any_mapped f (read_by v) (reads_of p ts s) ∙ each_staged p s y d occurs in
      let j = position_or_len f list in
      let within : j < length list = place_within f list there in
      let r = get_or list j some_read in
      let is_it = read_is n d r (passes_at_first f list some_read within) in
      let at : (pos i +ℤ r.offset) ≡ pos k = ap (λ z. pos i +ℤ z) is_it.1 ∙ is in
      hold j r (source_of p s.turn y) (get_at list j some_read within) (ap (slice_get ts) is_it.0 ∙ source.1) (number_there (pos i +ℤ r.offset) k at l)
      ∙ ap (defined_cell p rows params inputs (source_of p s.turn y)) at
      ∙ defined_there (source_of p s.turn y) k l
      ∙ source_cell y (point box k)

  -- inside the region
  region_parts : (f : Formula) (q : List ℤ) → formula_in p s.tensor ≡ Some f → region s.tensor q ≡ true → every (λ y o. region y (moved q o)) f ≡ true
  region_parts f q d r =
      (and_parts (in_box box q) (every (λ y o. region y (moved q o)) f)
      (sym (ap (λ h. in_box box q && by_formula h (g.region s.tensor q) (every (λ y o. region y (moved q o)))) d) ∙ sym ((means g).regions s.tensor q) ∙ r)).1

  region_boxed : (y : ℕ) (q : List ℤ) → region y q ≡ true → in_box box q ≡ true
  region_boxed y q r =
      (and_parts (in_box box q) (by_formula (formula_in p y) (g.region y q) (every (λ z o. region z (moved q o)))) (sym ((means g).regions y q) ∙ r)).0

  -- the value of a cell, by its formula
  by_region : (f : Formula) (q : List ℤ) (b : Bool) → formula_in p s.tensor ≡ Some f → region s.tensor q ≡ b
      → value s.tensor q ≡ (if b then wrapped (type_at stencil s.tensor)
      (valued stencil.scope (λ y o. value y (moved q o)) params f) else outside_cell stencil g s.tensor q)
  by_region f q b d r =
      (means g).cells s.tensor q
      ∙ ap (λ h. by_formula h (g.cell s.tensor q)
      (λ k. if region s.tensor q then wrapped (type_at stencil s.tensor)
      (valued stencil.scope (λ y o. value y (moved q o)) params k) else outside_cell stencil g s.tensor q)) d
      ∙ ap (λ c. if c then wrapped (type_at stencil s.tensor)
      (valued stencil.scope (λ y o. value y (moved q o)) params f) else outside_cell stencil g s.tensor q) r

  -- each cell that a formula names is among the reads of its tensor
  all_read : (f : Formula) → formula_in p s.tensor ≡ Some f → every (is_read_in (extents_at p 1) (tensor_reads p s.tensor)) f ≡ true
  all_read f d =
      let ns = extents_at p 1 in
      every_weaker (is_read_in ns (formula_reads ns f)) (is_read_in ns (tensor_reads p s.tensor)) (λ y o h.
      ap (λ rs. is_read_in ns (rs ++ border_reads p s.tensor) y o) (ap (λ k. by_formula k [] (formula_reads ns)) d)
      ∙ in_first ns (formula_reads ns f) (border_reads p s.tensor) y o h) f (own_reads ns f)

  -- under preserve an output reads the input of its number
  border_occurs : (preserves p && is_output p s.tensor) ≡ true → list_any (same_as (output_number p s.tensor) (pos 0)) (tensor_reads p s.tensor) ≡ true
  border_occurs h =
      let j = output_number p s.tensor in
      let own = by_formula (formula_in p s.tensor) [] (formula_reads (extents_at p 1)) in
      list_any-append (same_as j (pos 0)) own (border_reads p s.tensor)
      ∙ or_right (list_any (same_as j (pos 0)) own) (list_any (same_as j (pos 0)) (border_reads p s.tensor)) (border_read (preserves p && is_output p s.tensor) j h)

  module _ (i : ℕ) (there : i < cells_at p rows) (ports : List ℤ) (hold : PortsHold p rows params inputs v (pos i) ports) (f : Formula)
      (d : formula_in p s.tensor ≡ Some f) where
    abbrev q : List ℤ
    q = point box i

    -- the cells that the formula names
    abbrev test : ℕ → List ℤ → Bool
    test y o = (is_good_cell p y o && region y (moved q o)) && is_read_in (extents_at p 1) (tensor_reads p s.tensor) y o

    held_same : (y : ℕ) (o : List ℤ) → test y o ≡ true → held p v s ports y o ≡ value y (moved q o)
    held_same y o h =
        let both = and_parts (is_good_cell p y o && region y (moved q o)) (is_read_in (extents_at p 1) (tensor_reads p s.tensor) y o) h in
        let first = and_parts (is_good_cell p y o) (region y (moved q o)) both.0 in
        let inside = region_boxed y (moved q o) first.1 in
        let back = number_back box (moved q o) inside in
        let k = unsigned_abs (linear box (moved q o)) in
        port_holds i ports hold y (linear (extents_at p 1) o) k both.1 back.1 (read_number p.extents rows i o there (good_length p y o first.0) inside)
        ∙ ap (value y) back.2

    inner_is : region s.tensor q ≡ true → inner_cell p params v s ports ≡ value s.tensor q
    unfolding inner_cell
    inner_is r =
        ap (λ h. wrapped (type_of p s.tensor) (by_formula h (pos 0) (valued (scope_of p) (held p v s ports) params))) d
        ∙ ap (wrapped (type_of p s.tensor)) (valued_same test (scope_of p) params (held p v s ports) (λ y o. value y (moved q o)) held_same f
        (every_both (λ y o. is_good_cell p y o && region y (moved q o)) (is_read_in (extents_at p 1) (tensor_reads p s.tensor)) f
        (every_both (is_good_cell p) (λ y o. region y (moved q o)) f (reads_good p s.tensor f (countable p sound) d) (region_parts f q d r)) (all_read f d)))
        ∙ sym (by_region f q true d r)

    -- outside it
    border_held : (b : Bool) → (preserves p && is_output p s.tensor) ≡ b
        → (if b then slice_index_or ports (port_of (staged_reads p) v (number_read p ts s.turn (output_number p s.tensor)) (pos 0)) (pos 0) else pos 0) ≡ elim
        (if b then Some (output_number p s.tensor) else None) [ None ↦ pos 0 | Some j ↦ g.cell j q ]
    border_held false h = refl
    border_held true h =
        let j = output_number p s.tensor in
        let turn = own_turn p v s sound e in
        let both = and_parts (preserves p) (is_output p s.tensor) h in
        let at : (pos i +ℤ pos 0) ≡ pos i = ap pos (let k : i + 0 ≡ i = omega arith in k) in
        port_holds i ports hold j (pos 0) i (border_occurs h) there at
        ∙ input_cell g j q (border_is_input p sound both.0 s.tensor turn.2 both.1)

    outer_is : region s.tensor q ≡ false → outer_cell p v s ports ≡ value s.tensor q
    unfolding outer_cell
    outer_is r =
        border_held (preserves p && is_output p s.tensor) refl
        ∙ ap (λ (o : Option ℕ). elim o [ None ↦ pos 0 | Some j ↦ g.cell j q ]) (sym (border_is p s.tensor))
        ∙ sym (by_region f q false d r)

    either : (b : Bool) → region s.tensor q ≡ b → (if b then inner_cell p params v s ports else outer_cell p v s ports) ≡ value s.tensor q
    either true r = inner_is r
    either false r = outer_is r

    sent_inside : (if keeps_away box s.low s.high q then inner_cell p params v s ports else outer_cell p v s ports) ≡ value s.tensor q
    sent_inside =
        ap (λ b. if b then inner_cell p params v s ports else outer_cell p v s ports) (sym (region_is q)) ∙ either (region s.tensor q) refl

  -- the ports of the cells that its formula names are in range
  type_of_source : (y : ℕ) → y < length p.tensors → type_of p (source_of p s.turn y).tensor ≡ type_of p y
  type_of_source y l =
      let turn = own_turn p v s sound e in
      let o = slice_index_or (outputs_of p) y 0 in
      let c = is_input p y && not (s.turn == 1) in
      ⊎_elim (λ (h : c ≡ true).
      let both = and_parts (is_input p y) (not (s.turn == 1)) h in
      let iterated : p.iterate ≢ 1 = λ i. false≢true (sym (ap not (eq-eqb s.turn 1 (omega (arith, turn.0, turn.1)))) ∙ both.1) in
      let same = sound.fits.iterated iterated in
      let i : IsInput (input_types p.tensors) y (type_in p.tensors y) = input_there p.tensors y sound.ends.inputs_first both.0 in
      let out : IsOutput 0 p.tensors y o = output_at 0 p.tensors y (omega (arith, i.there, ap length same)) in
      let at : o ≡ out.place = omega (arith, out.is) in
      ap (λ b. type_of p (if b then staged_tensor p (s.turn - 2) o else staged_tensor p (s.turn - 1) y).tensor) h
      ∙ ap (type_of p) at ∙ out.type ∙ sym (ap (λ ts. slice_index_or ts y int32) same) ∙ i.type)
      (λ (h : c ≡ false). ap (λ b. type_of p (if b then staged_tensor p (s.turn - 2) o else staged_tensor p (s.turn - 1) y).tensor) h)
      (true_or_not c)

  -- the port that serves a read has the type of what is read
  port_typed : (y : ℕ) (d : ℤ) → y < length p.tensors → list_any (same_as y d) (tensor_reads p s.tensor) ≡ true
      → slice_get (port_types p v) (port_of (staged_reads p) v (number_read p ts s.turn y) d) ≡ Some (type_of p y)
  port_typed y d l occurs =
      let n = number_read p ts s.turn y in
      let u = source_of p s.turn y in
      let reads : does_read p s.tensor y ≡ true =
      any_weaker (same_as y d) (λ (r : Reading). r.of == y) (λ r h. (and_parts (r.of == y) (int_eq r.offset d) h).0) (tensor_reads p s.tensor) occurs in
      let source = source_staged p v s y sound e reads in
      let f : Read → Bool = λ r. r.of == n && int_eq r.offset d in
      let list = reads_by (staged_reads p) v in
      let there : list_any f list ≡ true = ap (list_any f) (reads_by_it p v s e) ∙ any_mapped f (read_by v) (reads_of p ts s) ∙ each_staged p s y d occurs in
      let j = position_or_len f list in
      let within : j < length list = place_within f list there in
      let r = get_or list j some_read in
      let is_it = read_is n d r (passes_at_first f list some_read within) in
      let at = place_in ts n u source.1 in
      let type : slice_index_or (port_types p v) j int32 ≡ type_of p y = get_or-map (λ (q : Read). staged_type p q.of) list j some_read int32 within
      ∙ ap (staged_type p) is_it.0
      ∙ get_or-map (λ (w : StagedTensor). type_of p w.tensor) ts n u int32 at.0
      ∙ ap (λ (w : StagedTensor). type_of p w.tensor) at.1
      ∙ type_of_source y l in
      get_at (port_types p v) j int32 (omega (arith, within, length-map list (λ (q : Read). staged_type p q.of))) ∙ ap Some type

  held_in_range : (ports : List ℤ) → HasValues (port_types p v) ports → (y : ℕ) (d : ℤ) → y < length p.tensors
      → list_any (same_as y d) (tensor_reads p s.tensor) ≡ true
      → InRange (type_of p y) (slice_index_or ports (port_of (staged_reads p) v (number_read p ts s.turn y) d) (pos 0))
  held_in_range ports have y d l occurs =
      let j = port_of (staged_reads p) v (number_read p ts s.turn y) d in
      let at = place_in (port_types p v) j (type_of p y) (port_typed y d l occurs) in
      let type : slice_index_or (port_types p v) j int32 ≡ type_of p y = get_or_default (port_types p v) j int32 (type_of p y) at.0 ∙ at.1 in
      subst (λ t. InRange t (slice_index_or ports j (pos 0))) type (value_at_place (port_types p v) ports j have at.0)

  -- a fact of each cell that its formula names
  each_read : (A : ℕ → List ℤ → Type 0)
      → ((y : ℕ) (o : List ℤ) → y < length p.tensors → is_read_in (extents_at p 1) (tensor_reads p s.tensor) y o ≡ true → A y o)
      → (f : Formula) → formula_in p s.tensor ≡ Some f → Each A f
  each_read A h f d =
      let ns = extents_at p 1 in
      each_from (λ y o. is_good_cell p y o && is_read_in ns (tensor_reads p s.tensor) y o) A
      (λ y o k. let both = and_parts (is_good_cell p y o) (is_read_in ns (tensor_reads p s.tensor) y o) k in h y o (good_there p y o both.0) both.1)
      f (every_both (is_good_cell p) (is_read_in ns (tensor_reads p s.tensor)) f (reads_good p s.tensor f (countable p sound) d) (all_read f d))

  pub formula_typed : (f : Formula) → formula_in p s.tensor ≡ Some f
      → Each (λ y o. slice_get (port_types p v) (cell_port p v s y o) ≡ Some (type_of p y)) f
  formula_typed = each_read (λ y o. slice_get (port_types p v) (cell_port p v s y o) ≡ Some (type_of p y)) (λ y o. port_typed y (linear (extents_at p 1) o))

  pub border_typed : (preserves p && is_output p s.tensor) ≡ true
      → slice_get (port_types p v) (border_port p v s) ≡ Some (type_of p (output_number p s.tensor))
  border_typed h =
      let both = and_parts (preserves p) (is_output p s.tensor) h in
      let input = border_is_input p sound both.0 s.tensor (own_turn p v s sound e).2 both.1 in
      port_typed (output_number p s.tensor) (pos 0) (input_below p.tensors (output_number p s.tensor) input) (border_occurs h)

  pub formula_in_range : (ports : List ℤ) → HasValues (port_types p v) ports → (f : Formula) → formula_in p s.tensor ≡ Some f
      → Each (λ y o. InRange (slice_index_or (scope_of p).tensors y int32) (held p v s ports y o)) f
  formula_in_range ports have =
      each_read (λ y o. InRange (slice_index_or (scope_of p).tensors y int32) (held p v s ports y o))
      (λ y o. held_in_range ports have y (linear (extents_at p 1) o))

  -- a staged tensor that is no input has a formula
  pub formula_there : is_input p s.tensor ≡ false → (o : Option Formula) → formula_in p s.tensor ≡ o → (f : Formula) × (formula_in p s.tensor ≡ Some f)
  formula_there h None d =
      absurd (true≢false (sym (bare_input p.tensors s.tensor sound.parts.formulas (own_turn p v s sound e).2 d) ∙ h))
  formula_there h (Some f) d = (f, d)

  sent_by : (i : ℕ) (ports : List ℤ) → PortsHold p rows params inputs v (pos i) ports → is_input p s.tensor ≡ false → (b : Bool)
      → nat_lt i (cells_at p rows) ≡ b
      → (if b then (if keeps_away box s.low s.high (point box i) then inner_cell p params v s ports else outer_cell p v s ports) else pos 0) ≡
      (if b then cell_at p rows params inputs s (point box i) else pos 0)
  sent_by i ports hold local false h = refl
  sent_by i ports hold local true h =
      let f = formula_there local (formula_in p s.tensor) refl in
      sent_inside i (ltb-true i (cells_at p rows) h) ports hold f.0 f.1

  pub sent_is : (z : ℤ) (ports : List ℤ) → PortsHold p rows params inputs v z ports → is_input p s.tensor ≡ false
      → sent_cell p rows params v s ports z ≡ defined_cell p rows params inputs s z
  unfolding sent_cell defined_cell
  sent_is (pos i) ports hold local = sent_by i ports hold local (nat_lt i (cells_at p rows)) refl
  sent_is (negsuc i) ports hold local = refl
