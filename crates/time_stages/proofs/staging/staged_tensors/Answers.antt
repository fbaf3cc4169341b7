use Rattle.std.proofs.Common.{◌≡◌, suc, ◌+◌, ◌++◌, map, length, sym, ◌∙◌, ap, subst, arith, add-one}
use Rattle.soda_ir.specs.declared.program.Parts.{Parts}
use Rattle.soda_ir.specs.Program.{plain}
use Rattle.time_stages.specs.Margins.{AreMade}
use Rattle.time_stages.specs.Staged.{inputs_of, staged_statements, staged_tensor}
use Rattle.time_stages.proofs.StagedCounts.{tensors_counted}
use Rattle.time_stages.proofs.StagedLists.{first_iteration, next_iteration, tensors_are}
use Rattle.time_stages.proofs.staging.staged_tensors.Goals as goal

pub loop-earlier-init : goal.loop-earlier-init
loop-earlier-init c =
    let p = plain c.args.program.now in
    record {
      made = c.in_ok-margins.ensures;
      tensors = first_iteration p (plain c.parts-parts.result.now) c.new-tensors.result.items c.add_inputs.new.tensors.items c.add_iteration.new.tensors.items (ap plain c.parts-parts.ensures.value) c.new-tensors.ensures.items c.in_ok-add_inputs.ensures c.in_ok-add_iteration.ensures;
    }

pub loop-earlier-preserved : goal.loop-earlier-preserved
loop-earlier-preserved c =
    let p = plain c.args.program.now in
    let t = c.loop-earlier.earlier in
    let inv = c.loop-earlier.invariant in
    record {
      made = subst (λ k. AreMade p k c.in_ok-margins-2.margins.items) (sym (add-one t)) (c.in_ok-margins-2.ensures t (subst (AreMade p t) (sym c.deref-in-loop-earlier.ensures.value) inv.made));
      tensors = next_iteration p t (t + 1) c.loop-earlier.tensors.items c.add_iteration-in-loop-earlier.new.tensors.items (add-one t) (inv.tensors ∙ ap (λ k. map (staged_tensor p 0) (inputs_of p) ++ staged_statements p k) (sym (add-one t))) c.in_ok-add_iteration-2.ensures;
    }

pub returns-clause-value : goal.returns-clause-value
returns-clause-value c =
    let p = plain c.args.program.now in
    let some = c.parts-parts.ensures.valid.sound.limits.some_iterations in
    let end : suc c.loop-earlier.earlier ≡ p.iterate = omega (arith, some, ap (λ (q : Parts). q.iterate) c.parts-parts.ensures.value) in
    c.loop-earlier.invariant.tensors ∙ ap (λ k. map (staged_tensor p 0) (inputs_of p) ++ staged_statements p k) end ∙ sym (tensors_are p)

pub returns-clause-few : goal.returns-clause-few
returns-clause-few c =
    let valid = c.parts-parts.ensures.valid in
    omega (arith, ap length (returns-clause-value c), tensors_counted (plain c.args.program.now) valid.sound, valid.few_live)
