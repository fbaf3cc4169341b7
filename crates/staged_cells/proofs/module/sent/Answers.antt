use Rattle.std.proofs.Common.{◌≡◌, ℕ, ℤ, List, [], Some, length, get_or, slice_get, slice_index_or, pos, sym, ◌∙◌, ap, subst, arith, rules, FitsSigned}
use Rattle.std.specs.Int.{w128}
use Rattle.std.proofs.lemmas.Int.{to_z-of_z}
use Rattle.std.proofs.lemmas.List.{length-map}
use Rattle.soda_words.specs.IntType.{IntType, int32}
use Rattle.int_types.specs.Ranges.{InRange, wrapped}
use Rattle.soda_ir.specs.declared.program.Parts.{Parts}
use Rattle.soda_ir.specs.Counts.{formula_in}
use Rattle.soda_ir.specs.Formula.{by_formula}
use Rattle.soda_ir.specs.Program.{extents_at, plain, plain_tensor}
use Rattle.soda_eval.specs.Arrays.{Each}
use Rattle.soda_eval.specs.Points.{point}
use Rattle.soda_eval.specs.Runs.{scope_of}
use Rattle.soda_eval.specs.Values.{valued}
use Rattle.time_stages.specs.declared.staging.Staged.{Staged}
use Rattle.time_stages.specs.declared.staging.StagedTensor.{StagedTensor}
use Rattle.time_stages.specs.Margins.{keeps_away}
use Rattle.time_stages.specs.Staged.{staged_tensors, type_of}
use Rattle.time_stages.proofs.CallerLemmas.{get_at, own_turn}
use Rattle.staged_cells.specs.pieces.Ports.{port_value, sent_at}
use Rattle.staged_cells.proofs.Held.{border_is_outer, inner_is, port_value_is, sent_inside, sent_outside, some_same}
use Rattle.staged_cells.proofs.Sent.{formula_in_range}
use Rattle.staged_cells.proofs.module.sent.Goals as goal

pub formula_value-value-requires-clause-ports : goal.formula_value-value-requires-clause-ports
formula_value-value-requires-clause-ports c = λ f d.
    let p = plain c.args.program.now in
    let v = c.args.tensor in
    let here = c.index-as_slice-tensor.result in
    let lent : c.as_slice.result.now ≡ staged_tensors p = c.as_slice.ensures ∙ ap (λ (s : Staged). s.tensors) c.requires.staging in
    let at : slice_get (staged_tensors p) v ≡ Some here = get_at (staged_tensors p) v here c.requires.tensor
    ∙ ap Some (sym (c.index-as_slice-tensor.is ∙ ap (λ (xs : List StagedTensor). get_or xs v here) lent)) in
    let e = c.ports_of-ports.ensures in
    let same = port_value_is c.ports_of-ports.result c.args.program.now v here c.args.values.now e.parts e.tensors e.reads e.number e.turn e.values in
    subst (λ (h : ℕ → List ℤ → ℤ). Each (λ y o. InRange (slice_index_or (scope_of p).tensors y int32) (h y o)) f) (sym same)
    (formula_in_range p c.parts-parts.ensures.valid.sound c.args.rows c.args.params.now [] v here at c.args.values.now c.requires.ports f d)

pub tensor_type-requires : goal.tensor_type-requires
tensor_type-requires c =
    let p = plain c.args.program.now in
    let v = c.args.tensor in
    let here = c.index-as_slice-tensor.result in
    let lent : c.as_slice.result.now ≡ staged_tensors p = c.as_slice.ensures ∙ ap (λ (s : Staged). s.tensors) c.requires.staging in
    let at : slice_get (staged_tensors p) v ≡ Some here = get_at (staged_tensors p) v here c.requires.tensor
    ∙ ap Some (sym (c.index-as_slice-tensor.is ∙ ap (λ (xs : List StagedTensor). get_or xs v here) lent)) in
    let turn = own_turn p v here c.parts-parts.ensures.valid.sound at in
    omega (arith, turn.2, length-map c.args.program.now.tensors plain_tensor, ap (λ (q : Parts). length q.tensors) c.parts-parts.ensures.value)

pub returns-then-is_kept : goal.returns-then-is_kept
returns-then-is_kept c = λ s k.
    let q = c.args.program.now in
    let p = plain q in
    let v = c.args.tensor in
    let here = c.index-as_slice-tensor.result in
    let lent : c.as_slice.result.now ≡ staged_tensors p = c.as_slice.ensures ∙ ap (λ (z : Staged). z.tensors) c.requires.staging in
    let at : slice_get (staged_tensors p) v ≡ Some here = get_at (staged_tensors p) v here c.requires.tensor
    ∙ ap Some (sym (c.index-as_slice-tensor.is ∙ ap (λ (xs : List StagedTensor). get_or xs v here) lent)) in
    let e = c.ports_of-ports.ensures in
    let same = port_value_is c.ports_of-ports.result q v here c.args.values.now e.parts e.tensors e.reads e.number e.turn e.values in
    let kept = subst (λ (r : Parts). (z : StagedTensor) → slice_get (staged_tensors (plain r)) v ≡ Some z → c.is_kept.result ≡ keeps_away
    (extents_at (plain r) c.args.rows) z.low z.high (point (extents_at (plain r) c.args.rows) c.args.place)) c.parts-parts.ensures.value c.is_kept.ensures in
    let wraps : FitsSigned w128 c.wrap.result = search rules in
    let fits : FitsSigned w128 c.formula_value-value.result = search rules in
    let type : c.tensor_type.result ≡ type_of p here.tensor = c.tensor_type.ensures
    ∙ ap (λ (r : Parts). type_of (plain r) here.tensor) c.parts-parts.ensures.value in
    let value = by_formula (formula_in p here.tensor) (pos 0) (valued (scope_of p) (port_value c.ports_of-ports.result) c.args.params.now) in
    to_z-of_z w128 c.wrap.result wraps
    ∙ c.wrap.ensures.value
    ∙ ap (wrapped c.tensor_type.result) (to_z-of_z w128 c.formula_value-value.result fits ∙ c.formula_value-value.ensures)
    ∙ ap (λ (t : IntType). wrapped t value) type
    ∙ inner_is p c.args.params.now v here c.args.values.now (port_value c.ports_of-ports.result) same
    ∙ sent_inside p c.args.rows c.args.params.now v here c.args.values.now c.args.place (sym (kept here at) ∙ c.if-is_kept.true)
    ∙ ap (λ (z : StagedTensor). sent_at p c.args.rows c.args.params.now v z c.args.values.now c.args.place) (some_same here s (sym at ∙ k))

pub returns-else-is_kept : goal.returns-else-is_kept
returns-else-is_kept c = λ s k.
    let q = c.args.program.now in
    let p = plain q in
    let v = c.args.tensor in
    let here = c.index-as_slice-tensor.result in
    let lent : c.as_slice.result.now ≡ staged_tensors p = c.as_slice.ensures ∙ ap (λ (z : Staged). z.tensors) c.requires.staging in
    let at : slice_get (staged_tensors p) v ≡ Some here = get_at (staged_tensors p) v here c.requires.tensor
    ∙ ap Some (sym (c.index-as_slice-tensor.is ∙ ap (λ (xs : List StagedTensor). get_or xs v here) lent)) in
    let e = c.ports_of-ports.ensures in
    let kept = subst (λ (r : Parts). (z : StagedTensor) → slice_get (staged_tensors (plain r)) v ≡ Some z → c.is_kept.result ≡ keeps_away
    (extents_at (plain r) c.args.rows) z.low z.high (point (extents_at (plain r) c.args.rows) c.args.place)) c.parts-parts.ensures.value c.is_kept.ensures in
    let fits : FitsSigned w128 c.border_value.result = search rules in
    to_z-of_z w128 c.border_value.result fits
    ∙ c.border_value.ensures
    ∙ border_is_outer c.ports_of-ports.result c.parts-parts.result.now q v here c.args.values.now c.parts-parts.ensures.value e.tensors e.reads e.number e.turn
    e.values
    ∙ sent_outside p c.args.rows c.args.params.now v here c.args.values.now c.args.place (sym (kept here at) ∙ c.if-is_kept.false)
    ∙ ap (λ (z : StagedTensor). sent_at p c.args.rows c.args.params.now v z c.args.values.now c.args.place) (some_same here s (sym at ∙ k))
