use Rattle.std.proofs.Common.{List, length, refl, sym, ap, subst}
use Rattle.soda_io.specs.declared.mem_id.MemId.{MemId}
use Rattle.soda_io.specs.Machine.Given.{AllHeld}
use Rattle.soda_io.proofs.Known.{known_same}
use Rattle.soda_io.proofs.mem_files.MemFiles.make_room.Goals as goal

pub invariant_of-self-clause-held : goal.invariant_of-self-clause-held
invariant_of-self-clause-held c =
    let P : List MemId → Type 0 = λ is. AllHeld is c.args.self.now.files in
    subst P (sym c.reserve.ensures.items) c.args.self.now.held

pub invariant_of-self-clause-known : goal.invariant_of-self-clause-known
invariant_of-self-clause-known c =
    known_same _ _ _ _ (ap (λ (is : List MemId). length is) c.reserve.ensures.items) refl c.args.self.now.known

pub invariant_of-self-2-clause-held : goal.invariant_of-self-2-clause-held
invariant_of-self-2-clause-held c =
    let P : List MemId → Type 0 = λ is. AllHeld is c.args.self.now.files in
    subst P (sym c.reserve.ensures.items) c.args.self.now.held

pub invariant_of-self-2-clause-known : goal.invariant_of-self-2-clause-known
invariant_of-self-2-clause-known c =
    known_same _ _ _ _ (ap (λ (is : List MemId). length is) c.reserve.ensures.items) c.reserve-2.ensures.items
    c.args.self.now.known
