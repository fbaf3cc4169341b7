use Rattle.std.proofs.Common.{◌+◌, ◌≡◌, ℕ, ◌∷◌, [], List, string_bytes, length, arith, true, sym, ap, ◌∙◌, Some, Ok, Err, length-append}
use Rattle.std.specs.Option.{is_some}
use Rattle.soda_io.specs.declared.mem_id.MemId.{MemId}
use Rattle.soda_io.specs.declared.call.FileCall.TheVariants.{Open}
use Rattle.soda_io.specs.declared.error.IoErr.TheVariants.{Memory}
use Rattle.soda_io.specs.Held.{held}
use Rattle.soda_io.specs.Store.{Store, Opens}
use Rattle.soda_io.proofs.MemSteps.{all_held, moved, opens_ok, opens_memory, store_of}
use Rattle.soda_io.proofs.Known.{known_more}
use Rattle.soda_io.proofs.mem_files.MemFilesFiles.open.Goals as goal

pub invariant_of-self-2-clause-held : goal.invariant_of-self-2-clause-held
invariant_of-self-2-clause-held c =
    let s = c.make_room.new.self in
    let there : is_some (held s.files (string_bytes c.in-Ok-id_of.fresh.name)) ≡ true =
    ap (λ (n : List ℕ). is_some (held s.files n)) c.in-Ok-id_of.ensures.0 ∙ sym c.is_held.ensures
    ∙ c.if-not-is_held.false in
    all_held s.ids.items c.add_id.new.ids.items c.in-Ok-id_of.fresh c.add_id.ensures s.files s.files s.held
    (λ q there. there) there

pub invariant_of-self-2-clause-known : goal.invariant_of-self-2-clause-known
invariant_of-self-2-clause-known c =
    let s = c.make_room.new.self in
    let at_end : c.len-id.result ≡ length s.ids.items = omega (arith, c.len-id.ensures, s.ids.ok.0) in
    let one_more : length c.add_id.new.ids.items ≡ length s.ids.items + 1 =
    ap (λ (is : List MemId). length is) c.add_id.ensures ∙ length-append s.ids.items (c.in-Ok-id_of.fresh ∷ []) in
    known_more (length s.ids.items) _ s.calls.items _ (Open c.args.name.now (Some c.len-id.result))
    (cc (c.log.ensures, c.in-Ok.ensures)) (omega arith) (omega arith) s.known

pub returns-clause-store : goal.returns-clause-store
returns-clause-store c = λ _.
    let s = c.make_room.new.self in
    let id = c.len-id.result in
    let at_end : id ≡ length s.ids.items = omega (arith, c.len-id.ensures, s.ids.ok.0) in
    let P : ℕ → Store → Type 0 = λ given t.
    Opens given t (store_of s.files c.add_id.new.ids.items c.log.new.calls.items) c.args.name.now (Ok id) in
    moved P _ _ _ _ _ _ c.make_room.ensures.files c.make_room.ensures.ids c.make_room.ensures.calls
    (opens_ok s.ids.items c.add_id.new.ids.items c.in-Ok-id_of.fresh c.add_id.ensures id at_end s.files s.calls.items
    c.log.new.calls.items c.args.name.now c.in-Ok-id_of.ensures.0 c.in-Ok-id_of.ensures.1 c.in-Ok-id_of.ensures.2
    (sym c.is_held.ensures ∙ c.if-not-is_held.false) (cc (c.log.ensures, c.in-Ok.ensures)))

pub returns-then-is_err-clause-store : goal.returns-then-is_err-clause-store
returns-then-is_err-clause-store c = λ _.
    let s = c.make_room.new.self in
    let P : ℕ → Store → Type 0 = λ given t.
    Opens given t (store_of s.files s.ids.items s.calls.items) c.args.name.now (Err Memory) in
    moved P _ _ _ _ _ _ c.make_room.ensures.files c.make_room.ensures.ids c.make_room.ensures.calls
    (opens_memory _ _ c.args.name.now)

pub returns-in_default-clause-store : goal.returns-in_default-clause-store
returns-in_default-clause-store c = λ _.
    let s = c.make_room.new.self in
    let P : ℕ → Store → Type 0 = λ given t.
    Opens given t (store_of s.files s.ids.items s.calls.items) c.args.name.now (Err Memory) in
    moved P _ _ _ _ _ _ c.make_room.ensures.files c.make_room.ensures.ids c.make_room.ensures.calls
    (opens_memory _ _ c.args.name.now)

pub returns-in_default-id_of-clause-store : goal.returns-in_default-id_of-clause-store
returns-in_default-id_of-clause-store c = λ _.
    let s = c.make_room.new.self in
    let P : ℕ → Store → Type 0 = λ given t.
    Opens given t (store_of s.files s.ids.items s.calls.items) c.args.name.now (Err Memory) in
    moved P _ _ _ _ _ _ c.make_room.ensures.files c.make_room.ensures.ids c.make_room.ensures.calls
    (opens_memory _ _ c.args.name.now)
