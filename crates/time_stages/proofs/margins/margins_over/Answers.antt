use Rattle.std.proofs.Common.{◌≡◌, ℕ, suc, ◌+◌, [], ◌^◌, ◌<◌, ◌≤◌, ◌++◌, ◌∷◌, List, length, get_or, take, drop, set, slice_index_or, sym, ◌∙◌, ap, subst, arith, add-one}
use Rattle.std.proofs.Math.Seq.{drop-cons}
use Rattle.std.proofs.lemmas.List.{length-map, length-take-le, take-append-drop, take_all, take_more}
use Rattle.soda_ir.specs.declared.program.Parts.{Parts}
use Rattle.soda_ir.specs.Counts.{formula_in}
use Rattle.soda_ir.specs.Formula.{by_formula}
use Rattle.soda_ir.specs.Points.{listed}
use Rattle.soda_ir.specs.Program.{plain, plain_tensor}
use Rattle.time_stages.specs.declared.margins.Margins.{Margins}
use Rattle.time_stages.specs.Margins.{dims_of, margins_over, no_margins}
use Rattle.time_stages.specs.Placing.{placing_order}
use Rattle.time_stages.specs.pieces.Numbers.{margins_made, side_of}
use Rattle.time_stages.proofs.Made.{IsMade, made_first, made_last, made_more, made_most}
use Rattle.time_stages.proofs.Order.{order_below, placed_length}
use Rattle.time_stages.proofs.margins.margins_over.Goals as goal

-- the number at a place of a list
split_at : (xs ys : List ℕ) (i : ℕ) → xs ≡ ys → i < length xs → ys ≡ take i xs ++ get_or xs i 0 ∷ drop (i + 1) xs
split_at xs ys i e l =
    sym e ∙ sym (take-append-drop i xs) ∙ ap (λ zs. take i xs ++ zs) (drop-cons xs i 0 l ∙ ap (λ k. get_or xs i 0 ∷ drop k xs) (sym (add-one i)))

-- as many dimensions and tensors as the code counts
dims_are : (q r : Parts) (n : ℕ) → n ≡ length r.extents → r ≡ q → n + 1 ≡ dims_of (plain q)
dims_are q r n e s = add-one n ∙ ap suc (e ∙ ap (λ (z : Parts). length z.extents) s)

tensors_are : (q r : Parts) (n : ℕ) → n ≡ length r.tensors → r ≡ q → n ≡ length (plain q).tensors
tensors_are q r n e s = e ∙ ap (λ (z : Parts). length z.tensors) s ∙ sym (length-map q.tensors plain_tensor)

pub loop-tensor-init : goal.loop-tensor-init
loop-tensor-init c =
    let q = c.args.program.now in
    let p = plain q in
    let inputs : ℕ → Margins = λ j. slice_index_or c.args.inputs.now j (no_margins (dims_of p)) in
    let dims : c.len-dims.result + 1 ≡ dims_of p = dims_are q c.parts-parts.result.now c.len-dims.result c.len-dims.ensures c.parts-parts.ensures.value in
    let tensors : c.len.result ≡ length p.tensors = tensors_are q c.parts-parts.result.now c.len.result c.len.ensures c.parts-parts.ensures.value in
    let items : c.in_ok-made.made.items ≡ listed inputs (length p.tensors) = c.in_ok-made.ensures ∙ ap (λ d. listed (λ x. slice_index_or c.args.inputs.now x (no_margins d)) c.len.result) dims ∙ ap (listed inputs) tensors in
    subst (IsMade p inputs []) (sym items) (made_first p inputs (2 ^ 39) c.parts-parts.ensures.valid.sound c.requires.inputs)

pub tensor_margins-requires : goal.tensor_margins-requires
tensor_margins-requires c =
    let p = plain c.args.program.now in
    let few = c.parts-parts.ensures.valid.sound.limits.few_tensors in
    let i = c.loop-tensor.tensor-index in
    let taken = length-take-le i c.args.order.now (omega arith) in
    let long : length c.args.order.now ≤ 512 = omega (arith, ap length c.requires.order, placed_length p (length p.tensors), few) in
    λ side y d. omega (arith, long, taken, ap (λ ms. slice_index_or (side_of side (slice_index_or ms y (no_margins 0))) d 0) c.deref.ensures.value, c.loop-tensor.invariant.most (2 ^ 39) c.requires.inputs side y d)

pub index_mut-requires : goal.index_mut-requires
index_mut-requires c =
    let q = c.args.program.now in
    let p = plain q in
    let i = c.loop-tensor.tensor-index in
    let order = c.args.order.now in
    let within : i < length order = omega arith in
    let below = order_below p (length p.tensors) (take i order) (drop (i + 1) order) (get_or order i 0) (split_at order (placing_order p) i c.requires.order within) in
    omega (arith, below, c.loop-tensor.invariant.long, c.deref.ensures.len, ap length c.deref.ensures.value)

pub loop-tensor-preserved : goal.loop-tensor-preserved
loop-tensor-preserved c =
    let q = c.args.program.now in
    let p = plain q in
    let i = c.loop-tensor.tensor-index in
    let order = c.args.order.now in
    let x = get_or order i 0 in
    let made = c.loop-tensor.made.items in
    let inputs : ℕ → Margins = λ j. slice_index_or c.args.inputs.now j (no_margins (dims_of p)) in
    let within : i < length order = omega arith in
    let split = split_at order (placing_order p) i c.requires.order within in
    let dims : c.len-dims.result + 1 ≡ dims_of p = dims_are q c.parts-parts.result.now c.len-dims.result c.len-dims.ensures c.parts-parts.ensures.value in
    let is : c.in_ok-margins.margins ≡ by_formula (formula_in p x) (inputs x) (margins_made made (dims_of p)) = c.in_ok-margins.ensures
    ∙ ap (λ (r : Parts). by_formula (formula_in (plain r) x) (slice_index_or c.args.inputs.now x (no_margins (c.len-dims.result + 1))) (margins_made c.deref.result.now (c.len-dims.result + 1))) c.parts-parts.ensures.value
    ∙ ap (λ d. by_formula (formula_in p x) (slice_index_or c.args.inputs.now x (no_margins d)) (margins_made c.deref.result.now d)) dims
    ∙ ap (λ ms. by_formula (formula_in p x) (inputs x) (margins_made ms (dims_of p))) c.deref.ensures.value in
    subst (λ xs. IsMade p inputs xs (set made x c.in_ok-margins.margins)) (sym (take_more order i 0 within)) (made_more p inputs (take i order) (drop (i + 1) order) x (2 ^ 39) made c.in_ok-margins.margins c.parts-parts.ensures.valid.sound c.requires.inputs split (order_below p (length p.tensors) (take i order) (drop (i + 1) order) x split) c.loop-tensor.invariant is)

pub returns-clause-value : goal.returns-clause-value
returns-clause-value c =
    let q = c.args.program.now in
    let p = plain q in
    let inputs : ℕ → Margins = λ j. slice_index_or c.args.inputs.now j (no_margins (dims_of p)) in
    let whole = take_all c.loop-tensor.tensor-index c.args.order.now (omega arith) ∙ c.requires.order in
    made_last p inputs c.loop-tensor.made.items c.parts-parts.ensures.valid.sound (subst (λ xs. IsMade p inputs xs c.loop-tensor.made.items) whole c.loop-tensor.invariant)
    ∙ ap (λ n. listed (margins_over p inputs n) n) (length-map q.tensors plain_tensor)

pub returns-clause-most : goal.returns-clause-most
returns-clause-most c =
    let p = plain c.args.program.now in
    let inputs : ℕ → Margins = λ j. slice_index_or c.args.inputs.now j (no_margins (dims_of p)) in
    let whole = take_all c.loop-tensor.tensor-index c.args.order.now (omega arith) ∙ c.requires.order in
    made_most p inputs c.loop-tensor.made.items c.parts-parts.ensures.valid.sound (subst (λ xs. IsMade p inputs xs c.loop-tensor.made.items) whole c.loop-tensor.invariant)
