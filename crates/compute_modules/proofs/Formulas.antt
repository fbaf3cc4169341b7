-- What a formula's code gives over what is at its taps.
use Rattle.std.proofs.Common.{◌≡◌, ℕ, zero, suc, ◌<◌, ◌&&◌, Bool, true, false, List, [], ◌∷◌, length, map, Some, None, Option, slice_get, slice_index_or, refl, sym, ◌∙◌, ap, subst, arith, ℤ, pos, if◌then◌else◌}
use Rattle.std.proofs.lemmas.Option.{slice_get_within}
use Rattle.std.proofs.lemmas.List.{get_or_default}
use Rattle.soda_words.specs.IntType.{IntType, int32}
use Rattle.int_types.specs.Ranges.{InRange, wrapped}
use Rattle.int_types.specs.Operators.{unary_value, binary_value, select_value}
use Rattle.int_types.proofs.CallerLemmas.{wrapped_in_range}
use Rattle.soda_ir.specs.Counts.{formula_in, is_output, output_number}
use Rattle.soda_ir.specs.Formula.{Formula, number, read, param, unary, binary, choice, cast, by_formula}
use Rattle.soda_ir.specs.Points.{linear, listed}
use Rattle.soda_ir.specs.Program.{PlainProgram, extents_at, preserves}
use Rattle.soda_ir.proofs.CallerLemmas.{get-listed}
use Rattle.soda_eval.specs.Arrays.{Each}
use Rattle.soda_eval.specs.Runs.{scope_of}
use Rattle.soda_eval.specs.Values.{IsReadable, Scope, Values, typed, valued}
use Rattle.soda_eval.proofs.CallerLemmas.{each_more}
use Rattle.time_stages.specs.declared.staging.StagedTensor.{StagedTensor}
use Rattle.time_stages.specs.Staged.{type_of}
use Rattle.time_stages.proofs.CallerLemmas.{place_in}
use Rattle.lane_code.specs.declared.code.CellRead.{CellRead}
use Rattle.lane_code.specs.Lanes.{at, top}
use Rattle.lane_code.specs.Reads.{Agree, PlainRead, plain_read}
use Rattle.formula_code.specs.Codes.{IsCode}
use Rattle.formula_code.specs.declared.code.Code.{Code}
use Rattle.staged_cells.specs.Cells.{border_port, cell_port, held, inner_cell, outer_cell, port_types}
use Rattle.staged_cells.specs.Sends.{wrapped_ports}
use Rattle.compute_modules.specs.declared.tap.Tap.{Tap}
use Rattle.compute_modules.specs.pieces.Formulas.{HasFormula, code_value}
use Rattle.compute_modules.specs.pieces.Taps.{border_taken, read_tap, tap_at, taken}

-- the value of the formula that it is the code of
pub value_is : (code : Code) (taps : List Tap) (ports words : List ℤ) (r : ℤ) → words ≡ map (taken ports) taps → HasFormula code taps
    → ((s : Scope) (params : List ℤ) (f : Formula) (cells : Values) → IsCode s params f code → Agree (map plain_read code.wide.reads) (at words) cells
    → IsReadable s cells params f → r ≡ valued s cells params f)
    → r ≡ code_value code taps ports
value_is code taps ports words r are h run =
    run h.scope h.params h.formula (h.cells ports) h.compiled
    (subst (λ (ws : List ℤ). Agree (map plain_read code.wide.reads) (at ws) (h.cells ports)) (sym are) (h.agree ports)) (h.readable ports)
    ∙ sym (ap top (h.compiled.value (at (map (taken ports) taps)) (h.cells ports) (h.agree ports) (h.readable ports)))

-- cells that are the same where the formula reads them
valued_each : (s : Scope) (params : List ℤ) (a b : Values) (f : Formula) → Each (λ y o. a y o ≡ b y o) f → valued s a params f ≡ valued s b params f
valued_each s params a b (number n) e = refl
valued_each s params a b (read t o) e = e
valued_each s params a b (param p k) e = refl
valued_each s params a b (unary op x) e = ap (unary_value op (typed s x)) (valued_each s params a b x e)
valued_each s params a b (binary op x y) e =
    ap (λ v. binary_value op (typed s x) v (typed s y) (valued s a params y)) (valued_each s params a b x e.0)
    ∙ ap (λ v. binary_value op (typed s x) (valued s b params x) (typed s y) v) (valued_each s params a b y e.1)
valued_each s params a b (choice c x y) e =
    ap (λ v. select_value v (typed s x) (valued s a params x) (typed s y) (valued s a params y)) (valued_each s params a b c e.0)
    ∙ ap (λ v. select_value (valued s b params c) (typed s x) v (typed s y) (valued s a params y)) (valued_each s params a b x e.1)
    ∙ ap (λ v. select_value (valued s b params c) (typed s x) (valued s b params x) (typed s y) v) (valued_each s params a b y e.2)
valued_each s params a b (cast t x) e = ap (wrapped t) (valued_each s params a b x e)

-- what is at the tap of a read
agree_at : (g : PlainRead → Tap) (ports : List ℤ) (rs : List CellRead) (k : ℕ) (r : PlainRead) → slice_get (map plain_read rs) k ≡ Some r
    → slice_index_or (map (taken ports) (map (λ (q : CellRead). g (plain_read q)) rs)) k (pos 0) ≡ taken ports (g r)
agree_at g ports [] k r e = absurd (let l : k < 0 = slice_get_within (map plain_read []) k r e in omega (arith, l))
agree_at g ports (q ∷ rs) zero r e = ap (λ (o : Option PlainRead). elim o [ None ↦ taken ports (g (plain_read q)) | Some z ↦ taken ports (g z) ]) e
agree_at g ports (q ∷ rs) (suc k) r e = agree_at g ports rs k r e

-- what is at a port of a type, where each port is wrapped to its type
at_port : (types : List IntType) (ports : List ℤ) (j : ℕ) (t : IntType) → slice_get types j ≡ Some t
    → slice_index_or (listed (λ i. wrapped (slice_index_or types i int32) (slice_index_or ports i (pos 0))) (length types)) j (pos 0)
    ≡ wrapped t (slice_index_or ports j (pos 0))
at_port types ports j t e =
    let there = place_in types j t e in
    get-listed (λ i. wrapped (slice_index_or types i int32) (slice_index_or ports i (pos 0))) (length types) j (pos 0) there.0
    ∙ ap (λ u. wrapped u (slice_index_or ports j (pos 0))) (get_or_default types j int32 t there.0 ∙ there.1)

module _ (p : PlainProgram) (params : List ℤ) (v : ℕ) (s : StagedTensor) where
  -- the cells that the formula has at its taps
  abbrev tapped : (ports : List ℤ) → Values
  tapped ports y o = taken ports (tap_at p v s.turn y (linear (extents_at p 1) o))

  module _ (f : Formula) (d : formula_in p s.tensor ≡ Some f)
      (readable : (cells : ℕ → List ℤ → ℤ) → ((y : ℕ) (o : List ℤ) → y < length p.tensors → InRange (slice_index_or (scope_of p).tensors y int32) (cells y o))
      → IsReadable (scope_of p) cells params f)
      (code : Code) (taps : List Tap) (is : IsCode (scope_of p) params f code)
      (are : taps ≡ map (λ (r : CellRead). read_tap p v s.turn (plain_read r)) code.wide.reads) where
    agree : (ports : List ℤ) → Agree (map plain_read code.wide.reads) (at (map (taken ports) taps)) (tapped ports)
    agree ports k r e =
        ap (λ (ts : List Tap). slice_index_or (map (taken ports) ts) k (pos 0)) are
        ∙ agree_at (read_tap p v s.turn) ports code.wide.reads k r e

    can_read : (ports : List ℤ) → IsReadable (scope_of p) (tapped ports) params f
    can_read ports = readable (tapped ports) (λ y o l. wrapped_in_range (type_of p y) _)

    pub has_formula : HasFormula code taps
    has_formula = record {
      scope = scope_of p;
      params = params;
      formula = f;
      compiled = is;
      cells = tapped;
      agree = agree;
      readable = can_read;
    }

    pub inner_is : Each (λ y o. slice_get (port_types p v) (cell_port p v s y o) ≡ Some (type_of p y)) f → (ports : List ℤ)
        → wrapped (type_of p s.tensor) (code_value code taps ports) ≡ inner_cell p params v s (wrapped_ports p v ports)
    unfolding inner_cell
    inner_is typed ports =
        ap (λ x. wrapped (type_of p s.tensor) x) (ap top (is.value (at (map (taken ports) taps)) (tapped ports) (agree ports) (can_read ports))
        ∙ valued_each (scope_of p) params (tapped ports) (held p v s (wrapped_ports p v ports)) f
        (each_more (λ y o. slice_get (port_types p v) (cell_port p v s y o) ≡ Some (type_of p y))
        (λ y o. tapped ports y o ≡ held p v s (wrapped_ports p v ports) y o)
        (λ y o e. sym (at_port (port_types p v) ports (cell_port p v s y o) (type_of p y) e)) f typed))
        ∙ sym (ap (λ h. wrapped (type_of p s.tensor) (by_formula h (pos 0) (valued (scope_of p) (held p v s (wrapped_ports p v ports)) params))) d)

  outer_by : (b : Bool) → (preserves p && is_output p s.tensor) ≡ b
      → ((preserves p && is_output p s.tensor) ≡ true → slice_get (port_types p v) (border_port p v s) ≡ Some (type_of p (output_number p s.tensor)))
      → (ports : List ℤ)
      → border_taken (if b then Some (tap_at p v s.turn (output_number p s.tensor) (pos 0)) else None) ports
      ≡ (if b then slice_index_or (wrapped_ports p v ports) (border_port p v s) (pos 0) else pos 0)
  outer_by false h typed ports = refl
  outer_by true h typed ports = sym (at_port (port_types p v) ports (border_port p v s) (type_of p (output_number p s.tensor)) (typed h))

  pub outer_is : ((preserves p && is_output p s.tensor) ≡ true → slice_get (port_types p v) (border_port p v s) ≡ Some (type_of p (output_number p s.tensor)))
      → (ports : List ℤ)
      → border_taken (if preserves p && is_output p s.tensor then Some (tap_at p v s.turn (output_number p s.tensor) (pos 0)) else None) ports
      ≡ outer_cell p v s (wrapped_ports p v ports)
  unfolding outer_cell
  outer_is typed ports = outer_by (preserves p && is_output p s.tensor) refl typed ports
