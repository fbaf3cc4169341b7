use Rattle.std.proofs.Common.{◌≡◌, ◌<◌, ◌++◌, ◌∷◌, [], Bool, true, false, ℕ, List, ℤ, length, Option, Some, None, Result, Ok, Err, IsErrOf, FitsSigned, refl, sym, ap, subst, ◌∙◌, arith, rules}
use Rattle.std.specs.Int.{w128}
use Rattle.std.proofs.lemmas.Int.{to_z-of_z}
use Rattle.std.proofs.lemmas.Result.{err_from_is_err_and}
use Rattle.soda_io.specs.Store.{content}
use Rattle.array_bytes.specs.declared.fault.CellFault.{CellFault}
use Rattle.array_bytes.specs.declared.fault.CellFault.TheVariants.{Failed}
use Rattle.bursts.specs.Machine.Calls.{FaultIs}
use Rattle.bursts.specs.Machine.Sources.{TextAt, text_kind}
use Rattle.bursts.proofs.TextSteps.{cause_fault, err_same, kinds, ok_fails, reend, refail, step_back, step_reads, text_fault, was_err}
use Rattle.bursts.proofs.text_reader.TextReader.next_ended.Goals as goal

pub returns-in_err-has_bytes-clause-reads : goal.returns-in_err-has_bytes-clause-reads
returns-in_err-has_bytes-clause-reads g c = λ told cells bound a few.
    let x = step_reads _ _ _ _ _ _ c.args.self.now c.loop-self.self c.has_bytes.new.self cells _ c.requires.given c.loop-self.invariant.given c.loop-self.invariant.kind
    (c.loop-self.invariant.at told cells a) (λ b h. c.loop-self.invariant.reads told cells b a h) (λ b at h. c.in_err-has_bytes.ensures.reads told cells b at h) bound few in
    let p = err_from_is_err_and c.from_residual.result c.from_residual.ensures.1 in
    rw (p.1, p.2) (refail _ _ _ _ _ _ _ _ _ err_same err_same x)

pub returns-in-Cell-clause-at : goal.returns-in-Cell-clause-at
returns-in-Cell-clause-at g c = λ told cells a.
    let fits : FitsSigned w128 c.in-Cell.cell = search rules in
    let at = step_back _ _ _ _ (g.F.Files.store c.has_bytes.new.files) _ c.args.self.now c.loop-self.self c.has_bytes.new.self cells ⊥ c.requires.given c.loop-self.invariant.given c.loop-self.invariant.kind
    (c.loop-self.invariant.at told cells a) (λ b h. c.loop-self.invariant.reads told cells b a h)
    (λ xs. TextAt c.scan_on.new.self xs ((g.F.Files.store c.has_bytes.new.files).place c.args.id) (cells ++ c.in-Cell.cell ∷ []))
    (λ at. c.in-Cell.ensures.at (content (g.F.Files.store c.loop-self.files) c.args.id) ((g.F.Files.store c.has_bytes.new.files).place c.args.id) cells (c.has_bytes.ensures.at told cells at)) in
    let P : ℤ → Type 0 = λ v. TextAt c.scan_on.new.self (content (g.F.Files.store c.args.files.now) c.args.id) ((g.F.Files.store c.has_bytes.new.files).place c.args.id) (cells ++ v ∷ []) in
    subst P (sym (to_z-of_z w128 c.in-Cell.cell fits)) at

pub returns-in-Cell-clause-reads : goal.returns-in-Cell-clause-reads
returns-in-Cell-clause-reads g c = λ told cells bound a few.
    let x = step_reads _ _ _ _ _ _ c.args.self.now c.loop-self.self c.has_bytes.new.self cells _ c.requires.given c.loop-self.invariant.given c.loop-self.invariant.kind
    (c.loop-self.invariant.at told cells a) (λ b h. c.loop-self.invariant.reads told cells b a h) (λ b at h. c.in_ok-has_bytes.ensures.reads told cells b at h) bound few in
    reend _ _ _ _ _ _ _ _ _ c.scan_on.ensures.ended (refail _ _ _ _ _ _ _ _ _ (λ h. absurd (ok_fails h)) (λ h. absurd (ok_fails h)) x)

pub returns-in-Fault-clause-at : goal.returns-in-Fault-clause-at
returns-in-Fault-clause-at g c = λ told cells a.
    step_back _ _ _ _ (g.F.Files.store c.has_bytes.new.files) _ c.args.self.now c.loop-self.self c.has_bytes.new.self cells ⊥ c.requires.given c.loop-self.invariant.given c.loop-self.invariant.kind
    (c.loop-self.invariant.at told cells a) (λ b h. c.loop-self.invariant.reads told cells b a h)
    (λ xs. FaultIs (text_kind c.args.self.now c.args.id) xs cells c.in-Fault.fault)
    (λ at. text_fault c.args.self.now c.scan_on.new.self c.args.id (content (g.F.Files.store c.loop-self.files) c.args.id) cells c.in-Fault.fault (kinds _ _ _ _ c.loop-self.invariant.kind c.has_bytes.ensures.scan c.scan_on.ensures.kind)
    (c.in-Fault.ensures.at (content (g.F.Files.store c.loop-self.files) c.args.id) ((g.F.Files.store c.has_bytes.new.files).place c.args.id) cells (c.has_bytes.ensures.at told cells at)))

pub returns-in-Fault-clause-reads : goal.returns-in-Fault-clause-reads
returns-in-Fault-clause-reads g c = λ told cells bound a few.
    let x = step_reads _ _ _ _ _ _ c.args.self.now c.loop-self.self c.has_bytes.new.self cells _ c.requires.given c.loop-self.invariant.given c.loop-self.invariant.kind
    (c.loop-self.invariant.at told cells a) (λ b h. c.loop-self.invariant.reads told cells b a h) (λ b at h. c.in_ok-has_bytes.ensures.reads told cells b at h) bound few in
    reend _ _ _ _ _ _ _ _ _ c.scan_on.ensures.ended (refail _ _ _ _ _ _ _ _ _ (λ h. absurd (ok_fails h)) (λ h. absurd (was_err c.in-Fault.fault c.in-Fault.ensures.own h)) x)

pub returns-in-Fault-clause-cause : goal.returns-in-Fault-clause-cause
returns-in-Fault-clause-cause g c = cause_fault _ _ c.in-Fault.fault c.in-Fault.ensures.own (c.in_ok-has_bytes.ensures.cause.kept (λ e. absurd (ok_fails e)) (λ e. absurd (ok_fails e)) ∙ c.loop-self.invariant.faults)

pub loop-self-preserved : goal.loop-self-preserved
loop-self-preserved g c = record {
  given = c.has_bytes.ensures.given ∙ c.loop-self.invariant.given;
  faults = c.in_ok-has_bytes.ensures.cause.kept (λ e. absurd (ok_fails e)) (λ e. absurd (ok_fails e)) ∙ c.loop-self.invariant.faults;
  still = λ told. c.has_bytes.ensures.still told;
  kind = kinds _ _ _ _ c.loop-self.invariant.kind c.has_bytes.ensures.scan c.scan_on.ensures.kind;
  number = c.in-Nothing.ensures.next ∙ ap (λ s. s.number) c.has_bytes.ensures.scan ∙ c.loop-self.invariant.number;
  at = λ told cells a.
      step_back _ _ _ _ (g.F.Files.store c.has_bytes.new.files) _ c.args.self.now c.loop-self.self c.has_bytes.new.self cells ⊥ c.requires.given c.loop-self.invariant.given c.loop-self.invariant.kind
      (c.loop-self.invariant.at told cells a) (λ b h. c.loop-self.invariant.reads told cells b a h)
      (λ xs. TextAt c.scan_on.new.self xs ((g.F.Files.store c.has_bytes.new.files).place c.args.id) cells)
      (λ at. c.in-Nothing.ensures.at (content (g.F.Files.store c.loop-self.files) c.args.id) ((g.F.Files.store c.has_bytes.new.files).place c.args.id) cells (c.has_bytes.ensures.at told cells at));
  reads = λ told cells bound a few.
      let x = step_reads _ _ _ _ _ _ c.args.self.now c.loop-self.self c.has_bytes.new.self cells _ c.requires.given c.loop-self.invariant.given c.loop-self.invariant.kind
      (c.loop-self.invariant.at told cells a) (λ b h. c.loop-self.invariant.reads told cells b a h) (λ b at h. c.in_ok-has_bytes.ensures.reads told cells b at h) bound few in
      reend _ _ _ _ _ _ _ _ _ c.scan_on.ensures.ended (refail _ _ _ _ _ _ _ _ _ (λ h. absurd (ok_fails h)) (λ h. absurd h) x);
}

pub returns-clause-at : goal.returns-clause-at
returns-clause-at g c = λ told cells a.
    step_back _ _ _ _ (g.F.Files.store c.has_bytes.new.files) _ c.args.self.now c.loop-self.self c.has_bytes.new.self cells ⊥ c.requires.given c.loop-self.invariant.given c.loop-self.invariant.kind
    (c.loop-self.invariant.at told cells a) (λ b h. c.loop-self.invariant.reads told cells b a h)
    (λ xs. TextAt c.has_bytes.new.self xs ((g.F.Files.store c.has_bytes.new.files).place c.args.id) cells) (λ at. c.has_bytes.ensures.at told cells at)

pub returns-clause-reads : goal.returns-clause-reads
returns-clause-reads g c = λ told cells bound a few.
    let x = step_reads _ _ _ _ _ _ c.args.self.now c.loop-self.self c.has_bytes.new.self cells _ c.requires.given c.loop-self.invariant.given c.loop-self.invariant.kind
    (c.loop-self.invariant.at told cells a) (λ b h. c.loop-self.invariant.reads told cells b a h) (λ b at h. c.in_ok-has_bytes.ensures.reads told cells b at h) bound few in
    refail _ _ _ _ _ _ _ _ _ (λ h. absurd (ok_fails h)) (λ h. absurd (ok_fails h)) x
