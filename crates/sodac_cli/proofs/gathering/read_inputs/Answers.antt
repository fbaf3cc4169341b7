use Rattle.std.proofs.Common.{◌<◌, ◌+◌, ℕ, List, [], ℤ, length, take, refl, sym, subst, ◌∙◌, arith}
use Rattle.soda_words.specs.IntType.{IntType}
use Rattle.soda_eval.specs.Runs.{HasArrays, IsArray}
use Rattle.job_status.specs.Counts.{FileFaults}
use Rattle.sodac_cli.specs.Machine.Steps.{IsGathering}
use Rattle.sodac_cli.proofs.Gathered.{all_gathered, gathering_memory}
use Rattle.sodac_cli.proofs.Numbers.{as_many_ids, next_input}
use Rattle.sodac_cli.proofs.Typed.{arrays_all, arrays_more}
use Rattle.sodac_cli.proofs.gathering.read_inputs.Goals as goal

pub loop-number-init : goal.loop-number-init
loop-number-init g c =
    let none = c.new-arrays.ensures.items in
    let P : List (List ℤ) → Type 0 = λ xs. HasArrays c.args.layout.cells [] xs in
    record {
      arrays = subst P (sym none) tt;
      given = refl;
      faults = refl;
      goes = λ told first begun a p values r.
          let Q : List (List ℤ) → Type 0 = λ xs. IsGathering first begun a p (g.F.Files.given c.args.files.now) (g.F.Files.store c.args.files.now) values xs 0 in
          subst Q (sym none) r.gathering;
    }

pub read_input-requires-clause-ready : goal.read_input-requires-clause-ready
read_input-requires-clause-ready g c = λ told.
    let r = c.requires.ready told in (
      r.0,
      r.1,
      r.2,
      r.3,
      r.4,
      c.loop-number.arrays.items,
      next_input r.0 r.1 r.2 r.3 r.4 c.args.ids.now c.args.types.now c.args.layout _ _ r.5 _ _ c.loop-number.arrays.items c.loop-number.number
          (c.loop-number.invariant.goes told r.0 r.1 r.2 r.3 r.4 r.5) c.loop-number-test.true _ 0 refl _ c.index-types-number.result c.index-types-number.is c.requires.as_many,
    )

pub returns-in_default-clause-ends : goal.returns-in_default-clause-ends
returns-in_default-clause-ends g c = λ told first begun a p values r.
    let next = next_input first begun a p values c.args.ids.now c.args.types.now c.args.layout _ _ r _ _ c.loop-number.arrays.items c.loop-number.number
    (c.loop-number.invariant.goes told first begun a p values r) c.loop-number-test.true _ 0 refl _ c.index-types-number.result c.index-types-number.is c.requires.as_many in
    gathering_memory first begun a p values _ _ _ _ (c.in-Ok.ensures.goes told first begun a p values _ next)

pub returns-in-Err-clause-ends : goal.returns-in-Err-clause-ends
returns-in-Err-clause-ends g c = λ told first begun a p values r.
    let next = next_input first begun a p values c.args.ids.now c.args.types.now c.args.layout _ _ r _ _ c.loop-number.arrays.items c.loop-number.number
    (c.loop-number.invariant.goes told first begun a p values r) c.loop-number-test.true _ 0 refl _ c.index-types-number.result c.index-types-number.is c.requires.as_many in
    c.in-Err.ensures.ends told first begun a p values _ next

pub returns-in-Err-clause-faults : goal.returns-in-Err-clause-faults
returns-in-Err-clause-faults g c =
    let P : ℕ → Type 0 = λ n. FileFaults n (g.F.Files.faults c.read_input.new.files) c.in-Err.status in
    subst P c.loop-number.invariant.faults c.in-Err.ensures.faults

pub loop-number-preserved : goal.loop-number-preserved
loop-number-preserved g c =
    let more = c.in-Ok-push.ensures.items in
    let ty : IntType = c.index-types-number.result in
    let lt : c.loop-number.number < length c.args.types.now = omega (arith, c.requires.as_many, c.loop-number-test.true) in
    let P : List (List ℤ) → Type 0 = λ xs. HasArrays c.args.layout.cells (take (c.loop-number.number + 1) c.args.types.now) xs in
    let Q : IntType → Type 0 = λ t. IsArray t c.args.layout.cells c.in-Ok.cells in
    record {
      arrays = subst P (sym more) (arrays_more c.args.layout.cells c.args.types.now c.loop-number.arrays.items c.loop-number.number ty c.in-Ok.cells lt
          c.loop-number.invariant.arrays (subst Q c.index-types-number.is c.in-Ok.ensures.array));
      given = c.read_input.ensures.given ∙ c.loop-number.invariant.given;
      faults = c.in-Ok.ensures.kept ∙ c.loop-number.invariant.faults;
      goes = λ told first begun a p values r.
          let next = next_input first begun a p values c.args.ids.now c.args.types.now c.args.layout _ _ r _ _ c.loop-number.arrays.items c.loop-number.number
          (c.loop-number.invariant.goes told first begun a p values r) c.loop-number-test.true _ 0 refl _ c.index-types-number.result c.index-types-number.is c.requires.as_many in
          let R : List (List ℤ) → Type 0 = λ xs. IsGathering first begun a p (g.F.Files.given c.read_input.new.files) (g.F.Files.store c.read_input.new.files) values xs
          (c.loop-number.number + 1) in
          subst R (sym more) (c.in-Ok.ensures.goes told first begun a p values _ next);
    }

pub returns-clause-arrays : goal.returns-clause-arrays
returns-clause-arrays g c = arrays_all c.args.layout.cells c.args.types.now c.loop-number.arrays.items c.loop-number.number (omega arith) c.loop-number.invariant.arrays

pub returns-clause-goes : goal.returns-clause-goes
returns-clause-goes g c = λ told first begun a p values r.
    let many = as_many_ids first begun a p values c.args.ids.now c.args.types.now c.args.layout _ _ r in
    all_gathered first begun a p values _ _ _ _ (c.loop-number.invariant.goes told first begun a p values r) (omega (arith, many))
