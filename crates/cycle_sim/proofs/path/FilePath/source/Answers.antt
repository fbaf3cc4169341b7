use Rattle.std.proofs.Common.{◌∙◌, ◌<◌, ℕ, List, length, slice_index, refl, sym, ap, subst, arith}
use Rattle.soda_ir.specs.Program.{plain}
use Rattle.soda_ir.specs.declared.program.Parts.{Parts}
use Rattle.net_ir.specs.Nets.{Net}
use Rattle.bursts.specs.Blocks.{Kind}
use Rattle.bursts.specs.Readers.{StandsAt, given_by}
use Rattle.bursts.specs.declared.reader.CellReader.{CellReader}
use Rattle.file_modules.specs.Modules.{Source}
use Rattle.staged_cells.specs.Cells.{type_at}
use Rattle.staged_cells.specs.Streams.{module_at}
use Rattle.cycle_sim.specs.Ends.{AreWhole}
use Rattle.cycle_sim.specs.Paths.{settings}
use Rattle.cycle_sim.specs.Sends.{exit_lanes}
use Rattle.cycle_sim.proofs.path.FilePath.source.Goals as goal

pub bounds-inputs-tensor : goal.bounds-inputs-tensor
bounds-inputs-tensor g c =
    let known = subst (λ (n : Net). c.args.number < length n.modules) c.requires.network c.requires.known in
    let kind = ap (λ n. module_at n c.args.number) (sym c.requires.network) ∙ c.requires.kind in
    omega (arith, (c.modules_of_a_run_have_ends.ensures.source (settings c.args.self.now) c.args.number c.args.tensor c.requires.settings known kind).0, c.requires.inputs)

pub new-requires-clause-whole : goal.new-requires-clause-whole
new-requires-clause-whole g c =
    let known = subst (λ (n : Net). c.args.number < length n.modules) c.requires.network c.requires.known in
    let kind = ap (λ n. module_at n c.args.number) (sym c.requires.network) ∙ c.requires.kind in
    subst (AreWhole c.parts.result.now.burst) (sym c.stage_type-ty.ensures)
    (subst (λ (q : Parts). AreWhole q.burst (type_at (plain c.args.self.now.program) c.args.tensor)) (sym c.parts.ensures.value)
    (c.modules_of_a_run_have_ends.ensures.source (settings c.args.self.now) c.args.number c.args.tensor c.requires.settings known kind).1)

pub returns-in-Ok-clause-source : goal.returns-in-Ok-clause-source
returns-in-Ok-clause-source g c =
    let known = subst (λ (n : Net). c.args.number < length n.modules) c.requires.network c.requires.known in
    record {
      input = refl;
      unroll = ap (λ (x : Source). x.unroll) c.in_ok-reads.ensures.source ∙ c.unroll-unroll.ensures.value;
      delay = ap (λ (x : Source). x.delay) c.in_ok-reads.ensures.source ∙ c.delay_of-delay.ensures.value
          ∙ ap (λ (xs : List ℕ). slice_index xs c.args.tensor) c.deref.ensures.value;
      cells = ap (λ (x : Source). x.kind.cells) c.in_ok-reads.ensures.source ∙ ap (λ (k : Kind). k.cells) c.in_ok-reader.ensures.kind ∙ c.requires.cells;
      form = ap (λ (x : Source). x.kind.form) c.in_ok-reads.ensures.source ∙ ap (λ (k : Kind). k.form) c.in_ok-reader.ensures.kind;
      ty = ap (λ (x : Source). x.kind.ty) c.in_ok-reads.ensures.source ∙ ap (λ (k : Kind). k.ty) c.in_ok-reader.ensures.kind ∙ c.stage_type-ty.ensures;
      lanes = c.in-Ok.ensures ∙ ap (λ n. exit_lanes n c.args.number) c.requires.network;
      within = c.modules_of_a_run_have_ends.ensures.lanes (settings c.args.self.now) c.args.number c.requires.settings known;
    }

pub returns-in-Ok-clause-new : goal.returns-in-Ok-clause-new
returns-in-Ok-clause-new g c =
    let known = subst (λ (n : Net). c.args.number < length n.modules) c.requires.network c.requires.known in
    let kind = ap (λ n. module_at n c.args.number) (sym c.requires.network) ∙ c.requires.kind in
    let there = (c.modules_of_a_run_have_ends.ensures.source (settings c.args.self.now) c.args.number c.args.tensor c.requires.settings known kind).0 in
    let same = c.in_ok-reads.ensures.reader in
    record {
      there = omega (arith, there, c.requires.inputs);
      id = ap (λ (x : Source). x.kind.id) c.in_ok-reads.ensures.source ∙ ap (λ (k : Kind). k.id) c.in_ok-reader.ensures.kind;
      done = refl;
      fine = ap (λ (r : CellReader). r.fault) same ∙ c.in_ok-reader.ensures.fault;
      count = ap given_by same ∙ c.in_ok-reader.ensures.given;
      stands = λ bytes. subst (λ r. StandsAt r bytes 0) (sym same) (c.in_ok-reader.ensures.stands bytes);
    }
