use Rattle.std.proofs.Common.{◌≡◌, ◌++◌, ◌≤ℤ◌, ◌<ℤ◌, ◌^◌, ◌*◌, ◌<◌, List, ℕ, ℤ, pos, neg_ℤ, take, length, refl, sym, subst, ap, ◌∙◌, arith}
use Rattle.std.specs.Int.{w128}
use Rattle.std.proofs.lemmas.Int.{to_z-of_z}
use Rattle.std.proofs.lemmas.List.{take_at}
use Rattle.byteorder.specs.Endian.{little_bytes}
use Rattle.array_bytes.specs.Sizes.{cell_size}
use Rattle.array_bytes.specs.Written.{complement, raw_bytes}
use Rattle.array_bytes.proofs.SizeLaws.{in_bytes, length_little, size_power}
use Rattle.array_bytes.proofs.raw.put_raw.Goals as goal

pub complement-requires-clause-from : goal.complement-requires-clause-from
complement-requires-clause-from c =
    let b = (in_bytes c.args.ty c.args.cell c.bits-bits.ensures.valid c.requires.range).0 in
    let P : ℤ → Type 0 = λ v. neg_ℤ (pos (2 ^ (8 * c.raw_size-size.result))) ≤ℤ v in
    let Q : ℕ → Type 0 = λ n. neg_ℤ (pos (2 ^ (8 * n))) ≤ℤ c.args.cell in
    subst P (sym (to_z-of_z w128 c.args.cell c.ranges.cell)) (subst Q (sym c.raw_size-size.ensures.size) b)

pub complement-requires-clause-below : goal.complement-requires-clause-below
complement-requires-clause-below c =
    let b = (in_bytes c.args.ty c.args.cell c.bits-bits.ensures.valid c.requires.range).1 in
    let P : ℤ → Type 0 = λ v. v <ℤ pos (2 ^ (8 * c.raw_size-size.result)) in
    let Q : ℕ → Type 0 = λ n. c.args.cell <ℤ pos (2 ^ (8 * n)) in
    subst P (sym (to_z-of_z w128 c.args.cell c.ranges.cell)) (subst Q (sym c.raw_size-size.ensures.size) b)

pub write_uint-requires-clause-fits : goal.write_uint-requires-clause-fits
write_uint-requires-clause-fits c = subst (λ (n : ℕ). c.complement.result < n) (sym (size_power c.raw_size-size.result c.raw_size-size.ensures.one)) c.complement.ensures.few

pub returns-clause-put : goal.returns-clause-put
unfolding raw_bytes
returns-clause-put c =
    let s = c.raw_size-size.result in
    let same : c.complement.result ≡ complement s c.args.cell = c.complement.ensures.value ∙ ap (complement s) (to_z-of_z w128 c.args.cell c.ranges.cell) in
    let front : take s c.write_uint.new.buf ≡ little_bytes s c.complement.result = ap (λ (xs : List ℕ). take s xs) c.write_uint.ensures ∙ take_at (little_bytes s c.complement.result) _ s (length_little s c.complement.result) in
    c.append.ensures.put ∙ ap (λ (xs : List ℕ). c.args.out.now.items ++ xs)
    (front ∙ ap (little_bytes s) same ∙ ap (λ (n : ℕ). little_bytes n (complement n c.args.cell)) c.raw_size-size.ensures.size)
