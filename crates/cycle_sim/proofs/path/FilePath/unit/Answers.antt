use Rattle.std.proofs.Common.{◌≡◌, ◌∙◌, ◌<◌, ◌*◌, ◌+◌, ℕ, List, length, slice_index, ℤ, pos, ◌-ℤ◌, sym, ap, subst, arith, rules}
use Rattle.std.proofs.lemmas.Int.{ints, to_z-of_z}
use mir.Syntax.{w64}
use mir.Val.{SFits}
use Rattle.soda_ir.specs.Program.{plain}
use Rattle.net_ir.specs.Nets.{Net}
use Rattle.staged_cells.specs.Sends.{computed}
use Rattle.staged_cells.specs.Streams.{module_at}
use Rattle.cycle_sim.specs.Paths.{settings}
use Rattle.cycle_sim.proofs.path.FilePath.unit.Goals as goal

pub make-requires-clause-tensor : goal.make-requires-clause-tensor
make-requires-clause-tensor g c =
    let known = subst (λ (n : Net). c.args.number < length n.modules) c.requires.network c.requires.known in
    let kind = ap (λ n. module_at n c.args.number) (sym c.requires.network) ∙ c.requires.kind in
    (c.modules_of_a_run_have_ends.ensures.compute (settings c.args.self.now) c.args.number c.args.tensor c.args.lane c.requires.settings known kind).1

pub returns-in-Ok : goal.returns-in-Ok
returns-in-Ok g c =
    let known = subst (λ (n : Net). c.args.number < length n.modules) c.requires.network c.requires.known in
    let kind = ap (λ n. module_at n c.args.number) (sym c.requires.network) ∙ c.requires.kind in
    let law = c.modules_of_a_run_have_ends.ensures.compute (settings c.args.self.now) c.args.number c.args.tensor c.args.lane c.requires.settings known kind in
    let u : ℕ = (plain c.args.self.now.program).unroll in
    let delay : ℕ = slice_index c.args.self.now.delays.items c.args.tensor in
    let is : c.delay_of-delay.result ≡ delay = c.delay_of-delay.ensures.value ∙ ap (λ (xs : List ℕ). slice_index xs c.args.tensor) c.deref.ensures.value in
    let fits : SFits w64 c.first_place-first.result = search rules in
    let zero : u * 0 ≡ 0 = omega arith in
    let number : (pos c.args.lane -ℤ pos c.delay_of-delay.result) ≡ (pos (u * 0 + c.args.lane) -ℤ pos delay) = omega (arith, ints, is, zero) in
    record {
      within = law.0;
      value = λ ports z many. c.in-Ok.ensures.value ports z
          ∙ ap (λ (ps : List ℤ). computed (plain c.args.self.now.program) c.args.self.now.rows ps c.args.tensor ports z) c.deref-2.ensures.value;
      place = c.in-Ok.ensures.place ∙ to_z-of_z w64 c.first_place-first.result fits ∙ c.first_place-first.ensures ∙ number;
      step = c.in-Ok.ensures.step ∙ c.unroll-unroll.ensures.value;
      count = c.in-Ok.ensures.count ∙ sym law.2;
    }
