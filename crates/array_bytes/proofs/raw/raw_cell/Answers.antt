use Rattle.std.proofs.Common.{◌≡◌, true, false, Some, pos, ℤ, ℕ, to_z, of_z, w64, refl, sym, subst, ap, ◌∙◌, arith, if◌then◌else◌}
use Rattle.std.specs.Int.{w128}
use Rattle.std.proofs.lemmas.Int.{ints}
use Rattle.byteorder.specs.Endian.{little_number, twos_complement}
use Rattle.array_bytes.specs.Sizes.{cell_size}
use Rattle.array_bytes.specs.Values.{raw_value}
use Rattle.array_bytes.specs.Machine.Scans.{Judges}
use Rattle.array_bytes.proofs.raw.raw_cell.Goals as goal

pub returns-then-signed-clause-judged : goal.returns-then-signed-clause-judged
unfolding raw_value
returns-then-signed-clause-judged c =
    let t = c.args.ty in
    let xs = c.args.bytes.now in
    let read : to_z w128 (of_z w128 (to_z w64 (of_z w64 c.read_int.result))) ≡ c.read_int.result = omega (arith, ints, c.read_int.type_inv) in
    let value : raw_value t xs ≡ c.read_int.result =
    ap (λ b. if b then twos_complement (cell_size t) (little_number (cell_size t) xs) else pos (little_number (cell_size t) xs)) (sym c.signed.ensures.value ∙ c.if-signed.true)
    ∙ sym (ap (λ (n : ℕ). twos_complement n (little_number n xs)) c.raw_size-size.ensures.size) ∙ sym c.read_int.ensures in
    let P : ℤ → Type 0 = λ v. Judges t c.args.number (Some v) c.of_type.result in
    subst P (read ∙ sym value) c.of_type.ensures.judged

pub returns-else-signed-clause-judged : goal.returns-else-signed-clause-judged
unfolding raw_value
returns-else-signed-clause-judged c =
    let t = c.args.ty in
    let xs = c.args.bytes.now in
    let read : to_z w128 c.little.result ≡ pos c.little.result = omega (arith, ints, c.little.type_inv) in
    let value : raw_value t xs ≡ pos c.little.result =
    ap (λ b. if b then twos_complement (cell_size t) (little_number (cell_size t) xs) else pos (little_number (cell_size t) xs)) (sym c.signed.ensures.value ∙ c.if-signed.false)
    ∙ sym (ap (λ (n : ℕ). pos (little_number n xs)) c.raw_size-size.ensures.size) ∙ ap (λ (n : ℕ). pos n) (sym c.little.ensures) in
    let P : ℤ → Type 0 = λ v. Judges t c.args.number (Some v) c.of_type-else-signed.result in
    subst P (read ∙ sym value) c.of_type-else-signed.ensures.judged
