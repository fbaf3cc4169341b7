use Rattle.std.proofs.Common.{◌∙◌, ◌<◌, ℕ, List, [], length, slice_index, sym, ap, subst, arith}
use Rattle.soda_ir.specs.Program.{plain}
use Rattle.soda_ir.specs.declared.program.Parts.{Parts}
use Rattle.net_ir.specs.Nets.{Net}
use Rattle.bursts.specs.Writers.{HasPut, Output}
use Rattle.file_modules.specs.Modules.{Sink}
use Rattle.staged_cells.specs.Cells.{type_at}
use Rattle.staged_cells.specs.Streams.{module_at}
use Rattle.cycle_sim.specs.Ends.{AreWhole}
use Rattle.cycle_sim.specs.Paths.{settings}
use Rattle.cycle_sim.proofs.path.FilePath.sink.Goals as goal

pub bounds-outputs-output : goal.bounds-outputs-output
bounds-outputs-output g c =
    let known = subst (λ (n : Net). c.args.number < length n.modules) c.requires.network c.requires.known in
    let kind = ap (λ n. module_at n c.args.number) (sym c.requires.network) ∙ c.requires.kind in
    omega (
      arith,
      (c.modules_of_a_run_have_ends.ensures.sink (settings c.args.self.now) c.args.number c.args.tensor c.requires.settings known kind).0,
      c.requires.outputs,
      c.output_at-output.ensures,
    )

pub new-requires-clause-whole : goal.new-requires-clause-whole
new-requires-clause-whole g c =
    let known = subst (λ (n : Net). c.args.number < length n.modules) c.requires.network c.requires.known in
    let kind = ap (λ n. module_at n c.args.number) (sym c.requires.network) ∙ c.requires.kind in
    subst (AreWhole c.parts.result.now.burst) (sym c.stage_type-ty.ensures)
    (subst (λ (q : Parts). AreWhole q.burst (type_at (plain c.args.self.now.program) c.args.tensor)) (sym c.parts.ensures.value)
    (c.modules_of_a_run_have_ends.ensures.sink (settings c.args.self.now) c.args.number c.args.tensor c.requires.settings known kind).1)

pub returns-clause-sink : goal.returns-clause-sink
returns-clause-sink g c =
    let known = subst (λ (n : Net). c.args.number < length n.modules) c.requires.network c.requires.known in
    let kind = ap (λ n. module_at n c.args.number) (sym c.requires.network) ∙ c.requires.kind in
    let same = c.in_ok-writes.ensures.sink in
    let own = c.in_ok-writer.ensures.output in
    record {
      lanes = c.sinks_take_arrays.ensures.count (settings c.args.self.now).program (settings c.args.self.now).delays c.args.number c.args.tensor
          c.requires.settings.streams known kind;
      number = c.output_at-output.ensures;
      unroll = ap (λ (x : Sink). x.unroll) same ∙ c.unroll-unroll.ensures.value;
      delay = ap (λ (x : Sink). x.delay) same ∙ c.delay_of-delay.ensures.value
          ∙ ap (λ (xs : List ℕ). slice_index xs c.args.tensor) c.deref.ensures.value;
      cells = ap (λ (x : Sink). x.cells) same ∙ c.requires.cells;
      form = ap (λ (x : Sink). x.output.form) same ∙ ap (λ (o : Output). o.form) own;
      run = ap (λ (x : Sink). x.output.run) same ∙ ap (λ (o : Output). o.run) own;
      ty = ap (λ (x : Sink). x.output.ty) same ∙ ap (λ (o : Output). o.ty) own ∙ c.stage_type-ty.ensures;
    }

pub returns-clause-new : goal.returns-clause-new
returns-clause-new g c =
    let known = subst (λ (n : Net). c.args.number < length n.modules) c.requires.network c.requires.known in
    let kind = ap (λ n. module_at n c.args.number) (sym c.requires.network) ∙ c.requires.kind in
    let there = (c.modules_of_a_run_have_ends.ensures.sink (settings c.args.self.now) c.args.number c.args.tensor c.requires.settings known kind).0 in
    record {
      there = omega (arith, there, c.requires.outputs, c.output_at-output.ensures);
      id = ap (λ (x : Sink). x.output.id) c.in_ok-writes.ensures.sink ∙ ap (λ (o : Output). o.id) c.in_ok-writer.ensures.output;
      none = subst (λ w. HasPut w [] []) (sym c.in_ok-writes.ensures.writer) c.in_ok-writer.ensures.none;
    }
