use Rattle.std.proofs.Common.{◌≡◌, ◌<◌, ℕ, List, [], ℤ, length, get_or, refl, sym, ap, subst, ◌∙◌, arith}
use Rattle.std.proofs.lemmas.List.{get_or_default}
use Rattle.soda_words.specs.IntType.{IntType}
use Rattle.soda_eval.specs.Runs.{IsArray}
use Rattle.job_status.specs.Counts.{FileFaults}
use Rattle.sodac_cli.proofs.Written.{all_written}
use Rattle.sodac_cli.proofs.Numbers.{as_many_outputs, next_output}
use Rattle.sodac_cli.proofs.Typed.{array_at, as_many}
use Rattle.sodac_cli.proofs.delivering.write_outputs.Goals as goal

pub loop-number-init : goal.loop-number-init
loop-number-init g c = record { given = refl; faults = refl; goes = λ told first begun a p values inputs w. w.writing }

pub write_output-requires-clause-ready : goal.write_output-requires-clause-ready
write_output-requires-clause-ready g c = λ told.
    let r = c.requires.ready told in
    let many = as_many c.args.layout.cells c.args.types.now c.args.arrays.now c.requires.arrays in
    let cells : c.as_slice-cells.result.now ≡ get_or c.args.arrays.now c.loop-number.number [] =
    c.as_slice-cells.ensures ∙ c.index-arrays-number.is ∙ get_or_default c.args.arrays.now c.loop-number.number _ [] (omega (arith, many, c.requires.as_many, c.loop-number-test.true)) in (
      r.0,
      r.1,
      r.2,
      r.3,
      r.4,
      r.5,
      next_output r.0 r.1 r.2 r.3 r.4 c.args.ids.now c.args.types.now c.args.layout _ _ r.5 c.args.arrays.now r.6 _ _ c.loop-number.number
          (c.loop-number.invariant.goes told r.0 r.1 r.2 r.3 r.4 r.5 r.6) c.loop-number-test.true _ 0 refl _ c.index-types-number.result c.index-types-number.is c.requires.as_many many _ cells,
    )

pub write_output-requires-clause-array : goal.write_output-requires-clause-array
write_output-requires-clause-array g c =
    let many = as_many c.args.layout.cells c.args.types.now c.args.arrays.now c.requires.arrays in
    let lt : c.loop-number.number < length c.args.types.now = omega (arith, c.requires.as_many, c.loop-number-test.true) in
    let cells : c.as_slice-cells.result.now ≡ get_or c.args.arrays.now c.loop-number.number [] =
    c.as_slice-cells.ensures ∙ c.index-arrays-number.is ∙ get_or_default c.args.arrays.now c.loop-number.number _ [] (omega (arith, many, lt)) in
    let ty : IntType = c.index-types-number.result in
    let P : List ℤ → Type 0 = λ xs. IsArray ty c.args.layout.cells xs in
    let Q : IntType → Type 0 = λ t. IsArray t c.args.layout.cells (get_or c.args.arrays.now c.loop-number.number []) in
    subst P (sym cells)
    (subst Q (sym c.index-types-number.is) (array_at c.args.layout.cells c.args.types.now c.args.arrays.now c.loop-number.number ty [] lt c.requires.arrays))

pub bounds-arrays-number : goal.bounds-arrays-number
bounds-arrays-number g c =
    omega (arith, as_many c.args.layout.cells c.args.types.now c.args.arrays.now c.requires.arrays, c.requires.as_many, c.loop-number-test.true)

pub returns-in-Err-clause-runs : goal.returns-in-Err-clause-runs
returns-in-Err-clause-runs g c = λ told first begun a p values inputs w.
    let many = as_many c.args.layout.cells c.args.types.now c.args.arrays.now c.requires.arrays in
    let cells : c.as_slice-cells.result.now ≡ get_or c.args.arrays.now c.loop-number.number [] =
    c.as_slice-cells.ensures ∙ c.index-arrays-number.is ∙ get_or_default c.args.arrays.now c.loop-number.number _ [] (omega (arith, many, c.requires.as_many, c.loop-number-test.true)) in
    c.in-Err.ensures.ends told first begun a p values inputs
    (next_output first begun a p values c.args.ids.now c.args.types.now c.args.layout _ _ inputs c.args.arrays.now w _ _ c.loop-number.number
    (c.loop-number.invariant.goes told first begun a p values inputs w) c.loop-number-test.true _ 0 refl _ c.index-types-number.result c.index-types-number.is c.requires.as_many many _ cells)

pub returns-in-Err-clause-faults : goal.returns-in-Err-clause-faults
returns-in-Err-clause-faults g c =
    let P : ℕ → Type 0 = λ n. FileFaults n (g.F.Files.faults c.write_output.new.files) c.in-Err.status in
    subst P c.loop-number.invariant.faults c.in-Err.ensures.faults

pub loop-number-preserved : goal.loop-number-preserved
loop-number-preserved g c =
    let many = as_many c.args.layout.cells c.args.types.now c.args.arrays.now c.requires.arrays in
    let cells : c.as_slice-cells.result.now ≡ get_or c.args.arrays.now c.loop-number.number [] =
    c.as_slice-cells.ensures ∙ c.index-arrays-number.is ∙ get_or_default c.args.arrays.now c.loop-number.number _ [] (omega (arith, many, c.requires.as_many, c.loop-number-test.true)) in
    record {
      given = c.write_output.ensures.given ∙ c.loop-number.invariant.given;
      faults = c.in_default.ensures.kept ∙ c.loop-number.invariant.faults;
      goes = λ told first begun a p values inputs w.
          c.in_default.ensures.goes told first begun a p values inputs
          (next_output first begun a p values c.args.ids.now c.args.types.now c.args.layout _ _ inputs c.args.arrays.now w _ _ c.loop-number.number
          (c.loop-number.invariant.goes told first begun a p values inputs w) c.loop-number-test.true _ 0 refl _ c.index-types-number.result c.index-types-number.is c.requires.as_many many _ cells);
    }

pub returns-clause-runs : goal.returns-clause-runs
returns-clause-runs g c = λ told first begun a p values inputs w.
    let written = c.loop-number.invariant.goes told first begun a p values inputs w in
    let ids = as_many_outputs first begun a p values c.args.ids.now c.args.types.now c.args.layout _ _ inputs c.args.arrays.now w in
    let many = as_many c.args.layout.cells c.args.types.now c.args.arrays.now c.requires.arrays in
    all_written first begun a p values inputs c.loop-number.number _ _ written
    (ap (λ (xs : List (List ℤ)). length xs) (sym w.arrays_are) ∙ many ∙ sym c.requires.as_many ∙ ids)
    c.one_program_is_spoken_of.ensures.program c.params_are_one.ensures.one_list (omega (arith, ids))
