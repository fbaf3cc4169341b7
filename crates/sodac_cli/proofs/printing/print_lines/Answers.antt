use Rattle.std.proofs.Common.{List, ℕ, sym, ap, subst, ◌∙◌, arith, inr}
use Rattle.soda_ir.specs.Program.{plain}
use Rattle.sodac_cli.specs.Printed.{IsPrinted, prints}
use Rattle.sodac_cli.proofs.LinesPut.{print_done, print_fault, print_memory, prints_all, prints_some, writes_none}
use Rattle.sodac_cli.proofs.printing.print_lines.Goals as goal

pub returns-in_default-clause-runs : goal.returns-in_default-clause-runs
returns-in_default-clause-runs g c = print_memory (plain c.args.program.now)

pub returns-in-Ok-put-clause-runs : goal.returns-in-Ok-put-clause-runs
returns-in-Ok-put-clause-runs g c = print_done (plain c.args.program.now)

pub returns-in-Err-Failed-clause-runs : goal.returns-in-Err-Failed-clause-runs
returns-in-Err-Failed-clause-runs g c = print_fault (plain c.args.program.now)

pub returns-in-Err-Memory-clause-runs : goal.returns-in-Err-Memory-clause-runs
returns-in-Err-Memory-clause-runs g c = print_memory (plain c.args.program.now)

pub returns-in-Ok-put-clause-prints : goal.returns-in-Ok-put-clause-prints
returns-in-Ok-put-clause-prints g c = λ told h a mode only has.
    let p = plain c.args.program.now in
    let P : List ℕ → Type 0 = λ ls. IsPrinted c.args.mode p ls in
    let taken = c.in-Ok-put.ensures.taken told in
    prints_all p h a c.args.mode mode has c.deref.result.now (subst P (sym c.deref.ensures.value) c.in-Ok.ensures) (writes_none c.args.mode only) _ _ taken.count taken.taken
    (omega (arith, taken.all))

pub returns-in-Err-Failed-clause-prints : goal.returns-in-Err-Failed-clause-prints
returns-in-Err-Failed-clause-prints g c = λ told h a mode only has.
    let p = plain c.args.program.now in
    let P : List ℕ → Type 0 = λ ls. IsPrinted c.args.mode p ls in
    let taken = c.put_whole-put.ensures.taken told in (
      ap prints mode ∙ only.out,
      prints_some p h a c.args.mode mode has c.deref.result.now (subst P (sym c.deref.ensures.value) c.in-Ok.ensures) (writes_none c.args.mode only) _ _ taken.count taken.taken,
    )

pub returns-in-Err-Memory-clause-prints : goal.returns-in-Err-Memory-clause-prints
returns-in-Err-Memory-clause-prints g c = λ told h a mode only has.
    let p = plain c.args.program.now in
    let P : List ℕ → Type 0 = λ ls. IsPrinted c.args.mode p ls in
    let taken = c.put_whole-put.ensures.taken told in
    inr (prints_some p h a c.args.mode mode has c.deref.result.now (subst P (sym c.deref.ensures.value) c.in-Ok.ensures) (writes_none c.args.mode only) _ _ taken.count taken.taken)
