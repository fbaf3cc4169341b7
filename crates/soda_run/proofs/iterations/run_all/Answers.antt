use Rattle.std.proofs.Common.{add-one, ◌+◌, ◌-◌, ◌≡◌, ◌<◌, ◌≤◌, ◌≢◌, ℕ, suc, List, length, slice_index_or, sym, ap, ◌∙◌, subst, arith}
use Rattle.std.proofs.lemmas.Result.{IfOk-from_err}
use Rattle.soda_ir.specs.declared.program.Parts.{Parts}
use Rattle.soda_ir.specs.Program.{outputs_of, plain}
use Rattle.soda_eval.specs.Runs.{run_of}
use Rattle.time_stages.specs.Margins.{AreMade}
use Rattle.time_stages.specs.Placing.{placing_order}
use Rattle.soda_run.specs.pieces.Filled.{AreFilled}
use Rattle.soda_run.proofs.Begun.{begins_from, exchanged_begins}
use Rattle.time_stages.proofs.CallerLemmas.{outputs_below}
use Rattle.soda_run.proofs.Outputs.{outputs_apart, outputs_behind, outputs_few}
use Rattle.soda_run.proofs.iterations.run_all.Goals as goal

pub returns-in_err-margins : goal.returns-in_err-margins
returns-in_err-margins c =
    let P : Type 0 = AreFilled (plain c.args.program.now) c.args.rows (run_of (plain c.args.program.now) c.args.rows c.args.params.now c.args.inputs.now (c.args.program.now.iterate - 1)) c.args.params.now (placing_order (plain c.args.program.now)) c.args.arrays.now in
    IfOk-from_err c.from_residual.result (λ u. P) c.from_residual.ensures.0

pub returns-in_err-last : goal.returns-in_err-last
returns-in_err-last c =
    let P : Type 0 = AreFilled (plain c.args.program.now) c.args.rows (run_of (plain c.args.program.now) c.args.rows c.args.params.now c.args.inputs.now (c.args.program.now.iterate - 1)) c.args.params.now (placing_order (plain c.args.program.now)) c.exchange.new.arrays in
    IfOk-from_err c.from_residual-in_err-last.result (λ u. P) c.from_residual-in_err-last.ensures.0

pub fill_all-requires-clause-begun : goal.fill_all-requires-clause-begun
fill_all-requires-clause-begun c =
    let p = plain c.args.program.now in
    let sound = c.requires.plan.sound in
    (run_of p c.args.rows c.args.params.now c.args.inputs.now 0, begins_from p sound c.args.rows c.args.params.now c.args.inputs.now c.requires.inputs 0 c.deref.result.now c.in_ok-margins.margins.items c.deref.ensures.value (omega (arith, sound.limits.some_iterations)) c.in_ok-margins.ensures, c.requires.begun)

pub loop-done-init : goal.loop-done-init
loop-done-init c =
    let p = plain c.args.program.now in
    let sound = c.requires.plan.sound in
    let begins = begins_from p sound c.args.rows c.args.params.now c.args.inputs.now c.requires.inputs 0 c.deref.result.now c.in_ok-margins.margins.items c.deref.ensures.value (omega (arith, sound.limits.some_iterations)) c.in_ok-margins.ensures in
    record { margins = c.in_ok-margins.ensures; filled = c.fill_all.ensures (run_of p c.args.rows c.args.params.now c.args.inputs.now 0) begins c.requires.begun }

pub exchange-requires-clause-few : goal.exchange-requires-clause-few
exchange-requires-clause-few c =
    let p = plain c.args.program.now in
    let numbers : c.as_slice-outputs.result.now ≡ outputs_of p = c.as_slice-outputs.ensures ∙ c.requires.plan.outputs in
    let more : suc c.loop-done.done < p.iterate = omega (arith, c.loop-done-test.true, ap (λ (q : Parts). q.iterate) c.parts.ensures.value) in
    omega (arith, ap length numbers, outputs_few p c.requires.plan.sound (λ z. omega arith), c.loop-done.invariant.filled.many)

pub exchange-requires-clause-there : goal.exchange-requires-clause-there
exchange-requires-clause-there c =
    let p = plain c.args.program.now in
    let numbers : c.as_slice-outputs.result.now ≡ outputs_of p = c.as_slice-outputs.ensures ∙ c.requires.plan.outputs in
    subst (λ (xs : List ℕ). (j : ℕ) → j < length xs → slice_index_or xs j 0 < length c.loop-done.arrays) (sym numbers) (λ j l. omega (arith, outputs_below p j l, c.loop-done.invariant.filled.many))

pub exchange-requires-clause-behind : goal.exchange-requires-clause-behind
exchange-requires-clause-behind c =
    let p = plain c.args.program.now in
    let numbers : c.as_slice-outputs.result.now ≡ outputs_of p = c.as_slice-outputs.ensures ∙ c.requires.plan.outputs in
    let more : suc c.loop-done.done < p.iterate = omega (arith, c.loop-done-test.true, ap (λ (q : Parts). q.iterate) c.parts.ensures.value) in
    subst (λ (xs : List ℕ). (j : ℕ) → j < length xs → length xs ≤ slice_index_or xs j 0) (sym numbers) (outputs_behind p c.requires.plan.sound (λ z. omega arith))

pub exchange-requires-clause-apart : goal.exchange-requires-clause-apart
exchange-requires-clause-apart c =
    let p = plain c.args.program.now in
    let numbers : c.as_slice-outputs.result.now ≡ outputs_of p = c.as_slice-outputs.ensures ∙ c.requires.plan.outputs in
    subst (λ (xs : List ℕ). (i j : ℕ) → i < j → j < length xs → slice_index_or xs i 0 ≢ slice_index_or xs j 0) (sym numbers) (outputs_apart p)

pub fill_all-requires-in-loop-done-clause-begun : goal.fill_all-requires-in-loop-done-clause-begun
fill_all-requires-in-loop-done-clause-begun c =
    let p = plain c.args.program.now in
    let sound = c.requires.plan.sound in
    let t = c.loop-done.done in
    let more : suc t < p.iterate = omega (arith, c.loop-done-test.true, ap (λ (q : Parts). q.iterate) c.parts.ensures.value) in
    let made : AreMade p (suc t) c.in_ok-last.last.items = c.in_ok-last.ensures t (subst (AreMade p t) (sym c.deref-in-loop-done.ensures.value) c.loop-done.invariant.margins) in
    let begins = begins_from p sound c.args.rows c.args.params.now c.args.inputs.now c.requires.inputs (suc t) c.deref-in-loop-done-2.result.now c.in_ok-last.last.items c.deref-in-loop-done-2.ensures.value more made in
    let begun = exchanged_begins p sound c.args.rows c.args.params.now c.args.inputs.now t c.as_slice-outputs.result.now c.loop-done.arrays c.exchange.new.arrays (c.as_slice-outputs.ensures ∙ c.requires.plan.outputs) more c.loop-done.invariant.filled c.exchange.ensures.many c.exchange.ensures.inputs c.exchange.ensures.whole in
    (run_of p c.args.rows c.args.params.now c.args.inputs.now (suc t), begins, begun)

pub loop-done-preserved : goal.loop-done-preserved
loop-done-preserved c =
    let p = plain c.args.program.now in
    let sound = c.requires.plan.sound in
    let t = c.loop-done.done in
    let more : suc t < p.iterate = omega (arith, c.loop-done-test.true, ap (λ (q : Parts). q.iterate) c.parts.ensures.value) in
    let made : AreMade p (suc t) c.in_ok-last.last.items = c.in_ok-last.ensures t (subst (AreMade p t) (sym c.deref-in-loop-done.ensures.value) c.loop-done.invariant.margins) in
    let begins = begins_from p sound c.args.rows c.args.params.now c.args.inputs.now c.requires.inputs (suc t) c.deref-in-loop-done-2.result.now c.in_ok-last.last.items c.deref-in-loop-done-2.ensures.value more made in
    let begun = exchanged_begins p sound c.args.rows c.args.params.now c.args.inputs.now t c.as_slice-outputs.result.now c.loop-done.arrays c.exchange.new.arrays (c.as_slice-outputs.ensures ∙ c.requires.plan.outputs) more c.loop-done.invariant.filled c.exchange.ensures.many c.exchange.ensures.inputs c.exchange.ensures.whole in
    let filled = c.fill_all-in-loop-done.ensures (run_of p c.args.rows c.args.params.now c.args.inputs.now (suc t)) begins begun in
    let next : suc t ≡ t + 1 = sym (add-one t) in
    record {
      margins = subst (λ (n : ℕ). AreMade p n c.in_ok-last.last.items) next made;
      filled = subst (λ (n : ℕ). AreFilled p c.args.rows (run_of p c.args.rows c.args.params.now c.args.inputs.now n) c.args.params.now (placing_order p) c.fill_all-in-loop-done.new.arrays) next filled;
    }

pub returns : goal.returns
returns c =
    let p = plain c.args.program.now in
    let last : c.loop-done.done ≡ c.args.program.now.iterate - 1 = omega (arith, c.loop-done-test.false, c.loop-done.auto.done-end, ap (λ (q : Parts). q.iterate) c.parts.ensures.value) in
    subst (λ (n : ℕ). AreFilled p c.args.rows (run_of p c.args.rows c.args.params.now c.args.inputs.now n) c.args.params.now (placing_order p) c.loop-done.arrays) last c.loop-done.invariant.filled
