use Rattle.std.proofs.Common.{rules, ◌≡◌, ℕ, ℤ, List, get_or, pos, Ok, FitsSigned, ap, subst, ◌∙◌, arith}
use Rattle.std.specs.Int.{w128}
use Rattle.std.proofs.lemmas.Int.{to_z-of_z}
use Rattle.std.proofs.lemmas.List.{take_all}
use Rattle.std.proofs.lemmas.Result.{err_from_is_err_and}
use Rattle.bursts.specs.Writers.{Output, Puts}
use Rattle.bursts.proofs.WritesBehind.{writes_more}
use Rattle.bursts.proofs.WriterSteps.{put_failed, put_more}
use Rattle.bursts.proofs.writer.CellWriter.put.Goals as goal

pub returns-in_err-put_cell-clause-put : goal.returns-in_err-put_cell-clause-put
returns-in_err-put_cell-clause-put g c = λ told before bytes there h.
    let p = err_from_is_err_and c.from_residual.result c.from_residual.ensures.1 in
    let cells : List ℤ = c.args.cells.now in
    let i : ℕ = c.loop-cell.cell-index in
    let id : c.loop-cell.self.id ≡ c.args.self.now.id = ap (λ (o : Output). o.id) c.loop-cell.invariant.output in
    let fits : FitsSigned w128 (get_or cells i (pos 0)) = search rules in
    rw (p.1, p.2) (put_failed c.put_cell.new.self before cells i _ _
    (put_more c.loop-cell.self c.put_cell.new.self before cells i _ (g.F.Files.store c.loop-cell.files) (g.F.Files.store c.put_cell.new.files) _ tt _ id
    (omega (arith, c.loop-cell-test.true, c.loop-cell.auto.cell-index-end)) (to_z-of_z w128 (get_or cells i (pos 0)) fits)
    (c.loop-cell.invariant.put told before bytes there h)
    (λ cs bs at at_put. c.in_err-put_cell.ensures.put told cs bs at at_put)))

pub returns-in_err-put_cell-clause-store : goal.returns-in_err-put_cell-clause-store
returns-in_err-put_cell-clause-store g c = λ told.
    let p = err_from_is_err_and c.from_residual.result c.from_residual.ensures.1 in
    let id : c.loop-cell.self.id ≡ c.args.self.now.id = ap (λ (o : Output). o.id) c.loop-cell.invariant.output in
    rw (p.1, p.2) (writes_more _ _ _ (g.F.Files.store c.loop-cell.files) _ _ _ tt _ c.requires.given c.loop-cell.invariant.given id
    (c.loop-cell.invariant.store told) (c.in_err-put_cell.ensures.store told))

pub loop-cell-preserved : goal.loop-cell-preserved
loop-cell-preserved g c =
    let cells : List ℤ = c.args.cells.now in
    let i : ℕ = c.loop-cell.cell-index in
    let id : c.loop-cell.self.id ≡ c.args.self.now.id = ap (λ (o : Output). o.id) c.loop-cell.invariant.output in
    let fits : FitsSigned w128 (get_or cells i (pos 0)) = search rules in
    record {
      output = c.put_cell.ensures.output ∙ c.loop-cell.invariant.output;
      given = c.put_cell.ensures.given ∙ c.loop-cell.invariant.given;
      faults = c.in_ok-put_cell.ensures.cause.kept ∙ c.loop-cell.invariant.faults;
      put = λ told before bytes there h.
          put_more c.loop-cell.self c.put_cell.new.self before cells i _ (g.F.Files.store c.loop-cell.files) (g.F.Files.store c.put_cell.new.files) _ tt _ id
          (omega (arith, c.loop-cell-test.true, c.loop-cell.auto.cell-index-end)) (to_z-of_z w128 (get_or cells i (pos 0)) fits)
          (c.loop-cell.invariant.put told before bytes there h)
          (λ cs bs at at_put. c.in_ok-put_cell.ensures.put told cs bs at at_put);
      store = λ told. writes_more _ _ _ (g.F.Files.store c.loop-cell.files) _ _ _ tt _ c.requires.given c.loop-cell.invariant.given id
          (c.loop-cell.invariant.store told) (c.in_ok-put_cell.ensures.store told);
    }

pub returns-clause-put : goal.returns-clause-put
returns-clause-put g c = λ told before bytes there h.
    let now = g.F.Files.store c.loop-cell.files in
    let P : List ℤ → Type 0 = λ cs. Puts c.loop-cell.self before cs (now.bytes (now.name c.args.self.now.id)) (Ok tt) in
    subst P (take_all c.loop-cell.cell-index c.args.cells.now (omega (arith, c.loop-cell-test.false, c.loop-cell.auto.cell-index-end)))
    (c.loop-cell.invariant.put told before bytes there h)
