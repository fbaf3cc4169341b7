use Rattle.std.proofs.Common.{◌+◌, ◌≡◌, ℕ, ◌∷◌, [], List, string_bytes, length, arith, true, ap, subst, ◌∙◌, Some, Ok, Err, length-append}
use Rattle.std.specs.Option.{is_some}
use Rattle.soda_io.specs.declared.mem_id.MemId.{MemId}
use Rattle.soda_io.specs.declared.call.FileCall.TheVariants.{Create}
use Rattle.soda_io.specs.declared.error.IoErr.TheVariants.{Memory}
use Rattle.soda_io.specs.Held.{held}
use Rattle.soda_io.specs.Store.{Store, Creates, Puts}
use Rattle.soda_io.proofs.MemSteps.{all_held, moved, creates_ok, creates_memory, store_of}
use Rattle.soda_io.proofs.Known.{known_more}
use Rattle.soda_io.proofs.mem_files.MemFilesFiles.create.Goals as goal

pub invariant_of-self-in_default-put-clause-held : goal.invariant_of-self-in_default-put-clause-held
invariant_of-self-in_default-put-clause-held c = λ k lt. c.put.ensures.none_lost _ (c.make_room.new.self.held k lt)

pub invariant_of-self-2-clause-held : goal.invariant_of-self-2-clause-held
invariant_of-self-2-clause-held c =
    let s = c.make_room.new.self in
    let there : is_some (held c.put.new.files (string_bytes c.in-Ok-id_of.fresh.name)) ≡ true =
    ap (λ (n : List ℕ). is_some (held c.put.new.files n)) c.in-Ok-id_of.ensures.0
    ∙ ap is_some c.in-Ok-put.ensures.ok.own in
    all_held s.ids.items c.add_id.new.ids.items c.in-Ok-id_of.fresh c.add_id.ensures s.files c.put.new.files s.held
    c.put.ensures.none_lost there

pub invariant_of-self-2-clause-known : goal.invariant_of-self-2-clause-known
invariant_of-self-2-clause-known c =
    let s = c.make_room.new.self in
    let at_end : c.len-id.result ≡ length s.ids.items = omega (arith, c.len-id.ensures, s.ids.ok.0) in
    let one_more : length c.add_id.new.ids.items ≡ length s.ids.items + 1 =
    ap (λ (is : List MemId). length is) c.add_id.ensures ∙ length-append s.ids.items (c.in-Ok-id_of.fresh ∷ []) in
    known_more (length s.ids.items) _ s.calls.items _ (Create c.args.name.now (Some c.len-id.result))
    (cc (c.log.ensures, c.in-Ok.ensures)) (omega arith) (omega arith) s.known

pub returns-clause-store : goal.returns-clause-store
returns-clause-store c = λ _.
    let s = c.make_room.new.self in
    let id = c.len-id.result in
    let at_end : id ≡ length s.ids.items = omega (arith, c.len-id.ensures, s.ids.ok.0) in
    let Q : List ℕ → Type 0 = λ xs. Puts c.args.name.now xs (held s.files) (held c.put.new.files) in
    let P : ℕ → Store → Type 0 = λ given t.
    Creates given t (store_of c.put.new.files c.add_id.new.ids.items c.log.new.calls.items) c.args.name.now (Ok id) in
    moved P _ _ _ _ _ _ c.make_room.ensures.files c.make_room.ensures.ids c.make_room.ensures.calls
    (creates_ok s.ids.items c.add_id.new.ids.items c.in-Ok-id_of.fresh c.add_id.ensures id at_end s.files
    c.put.new.files s.calls.items c.log.new.calls.items c.args.name.now c.in-Ok-id_of.ensures.0 c.in-Ok-id_of.ensures.1
    c.in-Ok-id_of.ensures.2 (subst Q c.new-empty.ensures.items c.in-Ok-put.ensures.ok)
    (cc (c.log.ensures, c.in-Ok.ensures)))

pub returns-then-is_err-clause-store : goal.returns-then-is_err-clause-store
returns-then-is_err-clause-store c = λ _.
    let s = c.make_room.new.self in
    let P : ℕ → Store → Type 0 = λ given t.
    Creates given t (store_of s.files s.ids.items s.calls.items) c.args.name.now (Err Memory) in
    moved P _ _ _ _ _ _ c.make_room.ensures.files c.make_room.ensures.ids c.make_room.ensures.calls
    (creates_memory _ _ c.args.name.now)

pub returns-in_default-clause-store : goal.returns-in_default-clause-store
returns-in_default-clause-store c = λ _.
    let s = c.make_room.new.self in
    let P : ℕ → Store → Type 0 = λ given t.
    Creates given t (store_of s.files s.ids.items s.calls.items) c.args.name.now (Err Memory) in
    moved P _ _ _ _ _ _ c.make_room.ensures.files c.make_room.ensures.ids c.make_room.ensures.calls
    (creates_memory _ _ c.args.name.now)

pub returns-in_default-id_of-clause-store : goal.returns-in_default-id_of-clause-store
returns-in_default-id_of-clause-store c = λ _.
    let s = c.make_room.new.self in
    let P : ℕ → Store → Type 0 = λ given t.
    Creates given t (store_of s.files s.ids.items s.calls.items) c.args.name.now (Err Memory) in
    moved P _ _ _ _ _ _ c.make_room.ensures.files c.make_room.ensures.ids c.make_room.ensures.calls
    (creates_memory _ _ c.args.name.now)
