use Rattle.std.proofs.Common.{◌≡◌, ◌<◌, ◌≤◌, ◌+◌, ◌++◌, ◌∷◌, [], All, List, ℕ, ℤ, pos, length, take, set, get_or, Ok, Err, FitsSigned, refl, sym, ap, subst, ◌∙◌, arith, rules, length-append, length-set}
use Rattle.std.specs.Int.{w128}
use Rattle.std.proofs.lemmas.Int.{to_z-of_z}
use Rattle.std.proofs.lemmas.List.{append-nil, length-take-le, take-set, take_all, take_more_set}
use Rattle.std.proofs.lemmas.List.Elements.{All-push}
use Rattle.std.proofs.lemmas.Result.{err_from_is_err_and}
use Rattle.soda_io.specs.Store.{content}
use Rattle.soda_words.specs.IntType.{IntType}
use Rattle.int_types.specs.Ranges.{InRange}
use Rattle.bursts.specs.Machine.Sources.{RawAt, raw_kind}
use Rattle.bursts.proofs.OneByOne.{no_read, reads_weaker}
use Rattle.bursts.proofs.RawSteps.{raw_back, raw_block_fails, raw_kept, raw_reads, wider}
use Rattle.bursts.proofs.TextSteps.{block_push, err_same, fewer, ok_fails, refail}
use Rattle.bursts.proofs.raw_reader.RawReader.next_block.Goals as goal

pub returns-in_err-place-clause-at : goal.returns-in_err-place-clause-at
returns-in_err-place-clause-at g c = λ told cells a.
    let p = err_from_is_err_and c.from_residual.result c.from_residual.ensures.1 in
    let out = c.loop-place.out in
    let i = c.loop-place.place-index in
    let cs : List ℤ = cells ++ take i out in
    let blk : List ℤ = set out i (get_or out i (pos 0)) in
    rw (p.1, p.2) (raw_block_fails _ _ _ _ (g.F.Files.store c.next_cell.new.files) _ c.args.self.now c.loop-place.self cs _ c.requires.given c.loop-place.invariant.given c.loop-place.invariant.kept
    (c.loop-place.invariant.at told cells a) (c.loop-place.invariant.reads told cells a) cells blk _ i (ap (λ (xs : List ℤ). cells ++ xs) (sym (take-set out i (get_or out i (pos 0)))))
    (omega (arith, c.loop-place-test.true, length-set out i (get_or out i (pos 0)))) (λ at. c.in_err-place.ensures.at told cs at))

pub returns-in_err-place-clause-reads : goal.returns-in_err-place-clause-reads
returns-in_err-place-clause-reads g c = λ told cells a.
    let p = err_from_is_err_and c.from_residual.result c.from_residual.ensures.1 in
    let cs : List ℤ = cells ++ take c.loop-place.place-index c.loop-place.out in
    let lt : c.loop-place.place-index < length c.loop-place.out = omega (arith, c.loop-place.auto.out) in
    let few : length cs < length cells + length c.args.out.now = omega (arith, fewer cells c.loop-place.out c.loop-place.place-index lt, c.loop-place.auto.out) in
    rw (p.1, p.2) (refail _ _ _ _ _ _ _ _ _ err_same err_same (raw_reads _ _ _ _ _ _ c.args.self.now c.loop-place.self cs _ c.requires.given c.loop-place.invariant.given c.loop-place.invariant.kept
    (c.loop-place.invariant.at told cells a) (c.loop-place.invariant.reads told cells a) _ _ (λ at. reads_weaker _ _ _ _ _ _ _ _ _ (wider _ _ (length cs + 1) (length cells + length c.args.out.now) (omega arith)) (c.in_err-place.ensures.reads told cs at))))

pub loop-place-preserved : goal.loop-place-preserved
loop-place-preserved g c =
    let out = c.loop-place.out in
    let i = c.loop-place.place-index in
    let v = c.in_ok-place.field-0 in
    let lt : i < length out = omega (arith, c.loop-place.auto.out) in
    let fits : FitsSigned w128 v = search rules in
    let same = to_z-of_z w128 v fits in
    record {
      given = c.next_cell.ensures.given ∙ c.loop-place.invariant.given;
      faults = c.in_ok-place.ensures.cause.kept (λ e. absurd (ok_fails e)) (λ e. absurd (ok_fails e)) ∙ c.loop-place.invariant.faults;
      still = λ told. c.next_cell.ensures.still told;
      kept = raw_kept _ _ _ c.loop-place.invariant.kept c.next_cell.ensures.kept;
      number = omega (arith, c.in_ok-place.ensures.next, c.loop-place.invariant.number);
      range =
          let P : ℤ → Type 0 = λ w. All (λ u. InRange c.args.self.now.ty u) (take (i + 1) (set out i w)) in
          let Q : List ℤ → Type 0 = λ xs. All (λ u. InRange c.args.self.now.ty u) xs in
          let R : IntType → Type 0 = λ t. InRange t v in
          subst P (sym same) (subst Q (sym (take_more_set out i v lt)) (All-push (λ u. InRange c.args.self.now.ty u) (take i out) v c.loop-place.invariant.range (subst R c.loop-place.invariant.kept.ty c.in_ok-place.ensures.range)));
      at = λ told cells a.
          let cs : List ℤ = cells ++ take i out in
          let bytes = content (g.F.Files.store c.args.files.now) c.args.id in
          let place = (g.F.Files.store c.next_cell.new.files).place c.args.id in
          let P : ℤ → Type 0 = λ w. RawAt c.next_cell.new.self bytes place (cells ++ take (i + 1) (set out i w)) in
          let Q : List ℤ → Type 0 = λ xs. RawAt c.next_cell.new.self bytes place xs in
          subst P (sym same) (subst Q (sym (block_push cells out i v lt))
          (raw_back _ _ _ _ (g.F.Files.store c.next_cell.new.files) _ c.args.self.now c.loop-place.self cs _ c.requires.given c.loop-place.invariant.given c.loop-place.invariant.kept
          (c.loop-place.invariant.at told cells a) (c.loop-place.invariant.reads told cells a) (λ xs. RawAt c.next_cell.new.self xs place (cs ++ v ∷ [])) (λ at. c.in_ok-place.ensures.at told cs at)));
      reads = λ told cells a.
          let cs : List ℤ = cells ++ take i out in
          let few : length cs < length cells + length c.args.out.now = omega (arith, fewer cells out i lt, c.loop-place.auto.out) in
          refail _ _ _ _ _ _ _ _ _ (λ h. absurd (ok_fails h)) (λ h. absurd h) (raw_reads _ _ _ _ _ _ c.args.self.now c.loop-place.self cs _ c.requires.given c.loop-place.invariant.given c.loop-place.invariant.kept
          (c.loop-place.invariant.at told cells a) (c.loop-place.invariant.reads told cells a) _ _ (λ at. reads_weaker _ _ _ _ _ _ _ _ _ (wider _ _ (length cs + 1) (length cells + length c.args.out.now) (omega arith)) (c.in_ok-place.ensures.reads told cs at)));
    }

pub returns-clause-range : goal.returns-clause-range
returns-clause-range g c =
    let P : List ℤ → Type 0 = λ xs. All (λ u. InRange c.args.self.now.ty u) xs in
    subst P (take_all c.loop-place.place-index c.loop-place.out (omega (arith, c.loop-place.auto.out))) c.loop-place.invariant.range

pub returns-clause-reads : goal.returns-clause-reads
returns-clause-reads g c = λ told cells a. refail _ _ _ _ _ _ _ _ _ (λ h. absurd h) (λ h. absurd (ok_fails h)) (c.loop-place.invariant.reads told cells a)

pub loop-place-init : goal.loop-place-init
loop-place-init g c = record {
  given = refl;
  faults = refl;
  still = c.requires.opened;
  kept = record { ty = refl; size = refl; word = refl; cells = refl };
  number = omega arith;
  range = λ k d lt. absurd (omega arith);
  at = λ told cells a. let P : List ℤ → Type 0 = λ xs. RawAt c.args.self.now (content (g.F.Files.store c.args.files.now) c.args.id) ((g.F.Files.store c.args.files.now).place c.args.id) xs in subst P (sym (append-nil cells)) a;
  reads = λ told cells a. no_read _ _ _ _ _ ⊥ (λ h. h);
}

pub returns-clause-at : goal.returns-clause-at
returns-clause-at g c = λ told cells a.
    let P : List ℤ → Type 0 = λ xs. RawAt c.loop-place.self (content (g.F.Files.store c.args.files.now) c.args.id) ((g.F.Files.store c.loop-place.files).place c.args.id) (cells ++ xs) in
    subst P (take_all c.loop-place.place-index c.loop-place.out (omega (arith, c.loop-place.auto.out))) (c.loop-place.invariant.at told cells a)
