use Rattle.std.proofs.Common.{rules, ◌∷◌, [], ℤ, FitsSigned, subst}
use Rattle.std.specs.Int.{w128}
use Rattle.std.proofs.lemmas.Int.{to_z-of_z}
use Rattle.bursts.specs.Writers.{Puts}
use Rattle.bursts.proofs.writer.CellWriter.put_cell.Goals as goal

pub returns-in-Text-clause-put : goal.returns-in-Text-clause-put
returns-in-Text-clause-put g c = λ told before bytes there h.
    let fits : FitsSigned w128 c.args.cell = search rules in
    let now = g.F.Files.store c.put_decimal.new.files in
    let P : ℤ → Type 0 = λ v. Puts c.put_decimal.new.self before (v ∷ []) (now.bytes (now.name c.args.self.now.id)) c.put_decimal.result in
    subst P (to_z-of_z w128 c.args.cell fits) (c.put_decimal.ensures.put told before bytes there h)

pub returns-in-Raw-clause-put : goal.returns-in-Raw-clause-put
returns-in-Raw-clause-put g c = λ told before bytes there h.
    let fits : FitsSigned w128 c.args.cell = search rules in
    let now = g.F.Files.store c.put_bytes.new.files in
    let P : ℤ → Type 0 = λ v. Puts c.put_bytes.new.self before (v ∷ []) (now.bytes (now.name c.args.self.now.id)) c.put_bytes.result in
    subst P (to_z-of_z w128 c.args.cell fits) (c.put_bytes.ensures.put told before bytes there h)
