use Rattle.std.proofs.Common.{◌<◌, ◌≤◌, ◌≡◌, ℕ, ◌++◌, [], List, length, ◌+◌, take, drop, string_bytes, Some, Ok, Err, true, sym, ap, subst, ◌∙◌, refl, arith, set}
use Rattle.std.specs.Option.{is_some}
use Rattle.std.proofs.lemmas.List.{length-set}
use Rattle.std.proofs.lemmas.Bool.{false≢true}
use Rattle.soda_io.specs.declared.mem_id.MemId.{MemId}
use Rattle.soda_io.specs.declared.call.FileCall.TheVariants.{Read}
use Rattle.soda_io.specs.declared.error.IoErr.TheVariants.{Memory}
use Rattle.soda_io.specs.Held.{held}
use Rattle.soda_io.specs.Ids.{name_at}
use Rattle.soda_io.specs.Store.{Store, Reads}
use Rattle.soda_io.proofs.Fields.{field_at-read}
use Rattle.soda_io.proofs.MemSteps.{moved, reads_ok, reads_memory, still_held, store_of}
use Rattle.soda_io.proofs.Known.{below, known_more}
use Rattle.soda_io.proofs.mem_files.MemFilesFiles.read.Goals as goal

-- a change of one id keeps their number
as_many : (is : List MemId) (id : ℕ) (now : MemId) (n : ℕ) → n ≤ length is → n ≤ length (set is id now)
as_many is id now n le = omega (arith, length-set is id now)

pub unreachable-requires : goal.unreachable-requires
unreachable-requires c =
    let s = c.make_room.new.self in
    let lt = below c.args.id _ _ c.make_room.ensures.ids c.requires.given in
    let name : name_at s.ids.items c.args.id ≡ c.as_str.result.now =
    field_at-read _ _ _ _ c.index-own.result.now lt c.index-own.ensures ∙ sym c.as_str.ensures.value in
    let there : is_some (held s.files c.as_str.result.now) ≡ true =
    ap (λ (n : List ℕ). is_some (held s.files n)) (sym name) ∙ s.held c.args.id lt in
    absurd (false≢true (ap is_some c.in_default.ensures ∙ there))

pub invariant_of-self-2-clause-held : goal.invariant_of-self-2-clause-held
invariant_of-self-2-clause-held c =
    let s = c.make_room.new.self in
    let lt = below c.args.id _ _ c.make_room.ensures.ids c.requires.given in
    still_held s.ids.items c.args.id c.index_mut.result.now _ lt c.index_mut.ensures.value refl refl s.files s.held

pub invariant_of-self-2-clause-known : goal.invariant_of-self-2-clause-known
invariant_of-self-2-clause-known c =
    let s = c.make_room.new.self in
    let lt : c.args.id < length s.ids.items = below c.args.id _ _ c.make_room.ensures.ids c.requires.given in
    known_more (length s.ids.items) _ s.calls.items _
    (Read c.args.id (length c.args.buf.now) (Some c.copy_from-count.result)) c.log.ensures
    (as_many _ c.args.id _ _ (omega arith)) (as_many _ c.args.id _ (c.args.id + 1) (omega arith)) s.known

pub returns-clause-store : goal.returns-clause-store
returns-clause-store c = λ _.
    let s = c.make_room.new.self in
    let own = c.index_mut.result.now in
    let is = s.ids.items in
    let id = c.args.id in
    let buf = c.copy_from-count.new.buf in
    let n = c.copy_from-count.result in
    let bytes = c.in-Some.bytes.now in
    let lt = below id _ _ c.make_room.ensures.ids c.requires.given in
    let place : c.index-own.result.now.place ≡ own.place =
    sym (field_at-read (λ i. i.place) 0 is id c.index-own.result.now lt c.index-own.ensures)
    ∙ field_at-read (λ i. i.place) 0 is id own lt c.index_mut.ensures.value in
    let name : string_bytes c.index-own.result.now.name ≡ string_bytes own.name =
    sym (field_at-read (λ i. string_bytes i.name) [] is id c.index-own.result.now lt c.index-own.ensures)
    ∙ field_at-read (λ i. string_bytes i.name) [] is id own lt c.index_mut.ensures.value in
    let there : held s.files (string_bytes own.name) ≡ Some bytes =
    ap (λ (q : List ℕ). held s.files q) (sym (c.as_str.ensures.value ∙ name)) ∙ sym c.in-Some.ensures in
    let Got : ℕ → Type 0 = λ p. drop p bytes ≡ take n buf ++ drop (p + n) bytes in
    let End : ℕ → Type 0 = λ p. n ≡ 0 → drop p bytes ≡ [] in
    let after : MemId = record { name = own.name; opened = own.opened; place = own.place + n } in
    let P : ℕ → Store → Type 0 = λ given t.
    Reads given t (store_of s.files (set is id after) c.log.new.calls.items) id (length c.args.buf.now) buf (Ok n) in
    moved P _ _ _ _ _ _ c.make_room.ensures.files c.make_room.ensures.ids c.make_room.ensures.calls
    (reads_ok is id own _ lt c.index_mut.ensures.value refl refl s.files s.calls.items c.log.new.calls.items
    (length c.args.buf.now) n buf bytes refl there (subst Got place c.copy_from-count.ensures.got)
    (subst End place (λ zero_n. c.copy_from-count.ensures.end zero_n c.requires.room)) c.copy_from-count.ensures.count
    c.log.ensures)

pub returns-then-is_err-clause-store : goal.returns-then-is_err-clause-store
returns-then-is_err-clause-store c = λ _.
    let s = c.make_room.new.self in
    let P : ℕ → Store → Type 0 = λ given t.
    Reads given t (store_of s.files s.ids.items s.calls.items) c.args.id (length c.args.buf.now) c.args.buf.now (Err Memory) in
    moved P _ _ _ _ _ _ c.make_room.ensures.files c.make_room.ensures.ids c.make_room.ensures.calls
    (reads_memory _ _ c.args.id (length c.args.buf.now) c.args.buf.now)
