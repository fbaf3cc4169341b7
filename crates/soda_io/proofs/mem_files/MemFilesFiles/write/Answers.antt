use Rattle.std.proofs.Common.{◌<◌, arith, length, ◌≡◌, ℕ, ◌++◌, [], List, unwrap_or, true, sym, ap, subst, ◌∙◌, Some, Ok, Err}
use Rattle.std.specs.Option.{is_some}
use Rattle.soda_io.specs.declared.call.FileCall.TheVariants.{Write}
use Rattle.soda_io.specs.declared.error.IoErr.TheVariants.{Memory}
use Rattle.soda_io.specs.Held.{held}
use Rattle.soda_io.specs.Ids.{name_at}
use Rattle.soda_io.specs.Store.{Store, Puts, Writes}
use Rattle.soda_io.proofs.Fields.{field_at-read}
use Rattle.soda_io.proofs.MemSteps.{moved, writes_ok, writes_memory, store_of}
use Rattle.soda_io.proofs.Known.{below, known_more}
use Rattle.soda_io.proofs.mem_files.MemFilesFiles.write.Goals as goal

pub append-requires : goal.append-requires
append-requires c =
    let s = c.make_room.new.self in
    let lt = below c.args.id _ _ c.make_room.ensures.ids c.requires.given in
    let name : name_at s.ids.items c.args.id ≡ c.as_str-name.result.now =
    field_at-read _ _ _ _ c.index.result.now lt c.index.ensures ∙ sym c.as_str-name.ensures.value in
    let there : is_some (held s.files c.as_str-name.result.now) ≡ true =
    ap (λ (n : List ℕ). is_some (held s.files n)) (sym name) ∙ s.held c.args.id lt in
    there

pub invariant_of-self-in_default-clause-held : goal.invariant_of-self-in_default-clause-held
invariant_of-self-in_default-clause-held c = λ k lt.
    c.append.ensures.none_lost _ (c.make_room.new.self.held k lt)

pub invariant_of-self-2-clause-held : goal.invariant_of-self-2-clause-held
invariant_of-self-2-clause-held c = λ k lt. c.append.ensures.none_lost _ (c.make_room.new.self.held k lt)

pub invariant_of-self-2-clause-known : goal.invariant_of-self-2-clause-known
invariant_of-self-2-clause-known c =
    let s = c.make_room.new.self in
    let lt : c.args.id < length s.ids.items = below c.args.id _ _ c.make_room.ensures.ids c.requires.given in
    known_more (length s.ids.items) _ s.calls.items _
    (Write c.args.id (length c.args.bytes.now) (Some (length c.args.bytes.now))) c.log.ensures (omega arith)
    (omega arith) s.known

pub returns-clause-store : goal.returns-clause-store
returns-clause-store c = λ _.
    let s = c.make_room.new.self in
    let id = c.args.id in
    let bytes = c.args.bytes.now in
    let lt = below id _ _ c.make_room.ensures.ids c.requires.given in
    let name : c.as_str-name.result.now ≡ name_at s.ids.items id =
    c.as_str-name.ensures.value ∙ sym (field_at-read _ _ _ _ c.index.result.now lt c.index.ensures) in
    let Q : List ℕ → Type 0 = λ n. Puts n (unwrap_or (held s.files n) [] ++ bytes) (held s.files) (held c.append.new.files) in
    let P : ℕ → Store → Type 0 = λ given t.
    Writes given t (store_of c.append.new.files s.ids.items c.log.new.calls.items) id bytes (length bytes)
    (Ok (length bytes)) in
    moved P _ _ _ _ _ _ c.make_room.ensures.files c.make_room.ensures.ids c.make_room.ensures.calls
    (writes_ok s.ids.items s.files c.append.new.files s.calls.items c.log.new.calls.items id bytes
    (subst Q name c.in-Ok.ensures.ok) c.log.ensures)

pub returns-then-is_err-clause-store : goal.returns-then-is_err-clause-store
returns-then-is_err-clause-store c = λ _.
    let s = c.make_room.new.self in
    let P : ℕ → Store → Type 0 = λ given t.
    Writes given t (store_of s.files s.ids.items s.calls.items) c.args.id c.args.bytes.now (length c.args.bytes.now) (Err Memory) in
    moved P _ _ _ _ _ _ c.make_room.ensures.files c.make_room.ensures.ids c.make_room.ensures.calls
    (writes_memory _ _ c.args.id c.args.bytes.now (length c.args.bytes.now))
