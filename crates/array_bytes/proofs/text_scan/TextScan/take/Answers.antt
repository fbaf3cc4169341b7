use Rattle.std.proofs.Common.{◌≡◌, ◌+◌, ◌<◌, ◌++◌, ◌∷◌, [], ℕ, List, ℤ, false, refl, sym, subst, ◌∙◌, arith, rules, FitsSigned}
use Rattle.std.specs.Int.{w128}
use Rattle.std.proofs.lemmas.Int.{to_z-of_z}
use Rattle.array_bytes.specs.Runs.{open_run}
use Rattle.array_bytes.specs.Machine.Scans.{IsScanOf}
use Rattle.array_bytes.proofs.ScanSteps.{still_few, too_long, too_many, took_cell, took_fault, took_other, took_space}
use Rattle.array_bytes.proofs.text_scan.TextScan.take.Goals as goal

pub returns-then-self-eq0-clause-took : goal.returns-then-self-eq0-clause-took
returns-then-self-eq0-clause-took c = λ bytes cells a rest. too_long c.args.self.now bytes cells a c.args.byte rest c.if-self-eq0.true

pub returns-then-self-eq0-2-clause-took : goal.returns-then-self-eq0-2-clause-took
returns-then-self-eq0-2-clause-took c = λ bytes cells a.
    took_space c.args.self.now bytes cells a _ c.args.byte (record { ty = refl; cells = refl }) (omega arith) (sym c.is_space.ensures ∙ c.if-is_space.true) c.if-self-eq0-2.true refl refl

pub returns-in-Ok-clause-took : goal.returns-in-Ok-clause-took
returns-in-Ok-clause-took c = λ bytes cells a.
    let s = c.args.self.now in
    let lt : s.number < s.cells = still_few s.number s.cells s.run.counted s.within s.over c.if-self-eq0-2.false in
    let spent : c.end_run.new.self.left + 1 ≡ s.left = omega (arith, c.end_run.ensures.left) in
    let fits : FitsSigned w128 c.in-Ok.cell = search rules in
    let P : ℤ → Type 0 = λ v. IsScanOf false c.end_run.new.self (bytes ++ c.args.byte ∷ []) (cells ++ v ∷ []) in
    subst P (sym (to_z-of_z w128 c.in-Ok.cell fits))
    (took_cell s bytes cells a c.end_run.new.self c.args.byte (record { ty = c.end_run.ensures.kind.ty; cells = c.end_run.ensures.kind.cells }) spent
    (sym c.is_space.ensures ∙ c.if-is_space.true) c.if-self-eq0-2.false lt c.in-Ok.cell (c.in-Ok.ensures.judged (open_run bytes) a.going) c.in-Ok.ensures.next c.end_run.ensures.begun)

pub returns-in-Err-clause-took : goal.returns-in-Err-clause-took
returns-in-Err-clause-took c = λ bytes cells a rest.
    let s = c.args.self.now in
    let lt : s.number < s.cells = still_few s.number s.cells s.run.counted s.within s.over c.if-self-eq0-2.false in
    let spent : c.end_run.new.self.left + 1 ≡ s.left = omega (arith, c.end_run.ensures.left) in
    took_fault s bytes cells a c.end_run.new.self c.args.byte (record { ty = c.end_run.ensures.kind.ty; cells = c.end_run.ensures.kind.cells }) spent
    (sym c.is_space.ensures ∙ c.if-is_space.true) c.if-self-eq0-2.false lt c.in-Err.fault (c.in-Err.ensures.judged (open_run bytes) a.going) rest (omega arith)

pub returns-then-self-clause-took : goal.returns-then-self-clause-took
returns-then-self-clause-took c = λ bytes cells a rest.
    too_many c.args.self.now bytes cells a c.args.byte rest (sym c.is_space.ensures ∙ c.if-is_space.false) (omega arith) c.if-self.true

pub returns-else-self-clause-took : goal.returns-else-self-clause-took
returns-else-self-clause-took c = λ bytes cells a.
    took_other c.args.self.now bytes cells a _ c.args.byte (record { ty = refl; cells = refl }) (omega arith) (sym c.is_space.ensures ∙ c.if-is_space.false) refl c.if-self.false (c.push.ensures (open_run bytes) a.going)
