use Rattle.std.proofs.Common.{◌≡◌, ◌<◌, ◌≤◌, ◌+◌, ◌-◌, ℕ, List, ℤ, length, Ok, Err, refl, sym, ap, subst, ◌∙◌, arith}
use Rattle.std.proofs.lemmas.Result.{err_from_is_err_and}
use Rattle.soda_io.specs.Store.{content}
use Rattle.bursts.specs.Blocks.{IsWanted, ReadsOn}
use Rattle.bursts.specs.Machine.Feeds.{unread}
use Rattle.bursts.specs.Machine.Sources.{RawAt, raw_kind, rest_of}
use Rattle.bursts.proofs.OneByOne.{fill_reads, no_read}
use Rattle.bursts.proofs.RawSteps.{raw_filled, raw_reads, raw_wants, some_rest}
use Rattle.bursts.proofs.TextSteps.{err_same, ok_fails, refail, unread_length}
use Rattle.bursts.proofs.raw_reader.RawReader.has_cell.Goals as goal

pub loop-self-init : goal.loop-self-init
loop-self-init g c = record {
  given = refl;
  faults = refl;
  still = c.requires.opened;
  kept = record { ty = refl; size = refl; word = refl; cells = refl };
  number = refl;
  first = refl;
  at = λ told cells a. a;
  reads = λ told cells a. no_read _ _ _ _ _ ⊥ (λ h. h);
}

pub returns-in_err-fill-clause-at : goal.returns-in_err-fill-clause-at
returns-in_err-fill-clause-at g c = λ told cells a.
    let r = c.loop-self.self in
    let b = g.F.Files.store c.loop-self.files in
    let most : ℕ = c.rest.result - c.count-in-loop-self.result in
    let within : r.number < r.first + r.word = omega (arith, c.loop-self.invariant.number, c.loop-self.invariant.first, c.loop-self.invariant.kept.word) in
    let more : r.number < r.cells = omega (arith, c.loop-self.invariant.number, c.loop-self.invariant.kept.cells) in
    let less : length (unread r.feed) < r.size = omega (arith, unread_length r.feed, c.count.ensures.value) in
    let size : most + length (unread r.feed) ≡ rest_of r = omega (arith, unread_length r.feed, c.rest.ensures.value, c.count-in-loop-self.ensures.value, some_rest r.first r.word r.cells r.number r.size within more) in
    raw_filled _ _ _ _ _ _ most c.args.self.now r _ c.fill.result cells _ c.requires.given c.loop-self.invariant.given c.loop-self.invariant.kept (c.loop-self.invariant.at told cells a) (c.loop-self.invariant.reads told cells a)
    c.fill.ensures.fills (c.fill.ensures.file told) size c.fill.ensures.few c.fill.ensures.start refl refl refl refl refl refl

pub returns-in_err-fill-clause-reads : goal.returns-in_err-fill-clause-reads
returns-in_err-fill-clause-reads g c = λ told cells a.
    let r = c.loop-self.self in
    let b = g.F.Files.store c.loop-self.files in
    let most : ℕ = c.rest.result - c.count-in-loop-self.result in
    let within : r.number < r.first + r.word = omega (arith, c.loop-self.invariant.number, c.loop-self.invariant.first, c.loop-self.invariant.kept.word) in
    let more : r.number < r.cells = omega (arith, c.loop-self.invariant.number, c.loop-self.invariant.kept.cells) in
    let less : length (unread r.feed) < r.size = omega (arith, unread_length r.feed, c.count.ensures.value) in
    let size : most + length (unread r.feed) ≡ rest_of r = omega (arith, unread_length r.feed, c.rest.ensures.value, c.count-in-loop-self.ensures.value, some_rest r.first r.word r.cells r.number r.size within more) in
    let p = err_from_is_err_and c.from_residual.result c.from_residual.ensures.1 in
    rw (p.1, p.2) (refail _ _ _ _ _ _ _ _ _ err_same err_same (raw_reads _ _ _ _ (g.F.Files.store c.fill.new.files) _ c.args.self.now r cells _ c.requires.given c.loop-self.invariant.given c.loop-self.invariant.kept (c.loop-self.invariant.at told cells a) (c.loop-self.invariant.reads told cells a) _ _
    (λ at. fill_reads (IsWanted (raw_kind r c.args.id) (content b c.args.id) (length cells + 1)) _ _ _ _ most r.feed c.fill.new.self _ (c.in_err-fill.ensures.file told) c.in_err-fill.ensures.fills (raw_wants r c.args.id (content b c.args.id) (b.place c.args.id) cells most at less within size))))

pub returns-then-not-branch-clause-at : goal.returns-then-not-branch-clause-at
returns-then-not-branch-clause-at g c = λ told cells a.
    let r = c.loop-self.self in
    let b = g.F.Files.store c.loop-self.files in
    let most : ℕ = c.rest.result - c.count-in-loop-self.result in
    let within : r.number < r.first + r.word = omega (arith, c.loop-self.invariant.number, c.loop-self.invariant.first, c.loop-self.invariant.kept.word) in
    let more : r.number < r.cells = omega (arith, c.loop-self.invariant.number, c.loop-self.invariant.kept.cells) in
    let less : length (unread r.feed) < r.size = omega (arith, unread_length r.feed, c.count.ensures.value) in
    let size : most + length (unread r.feed) ≡ rest_of r = omega (arith, unread_length r.feed, c.rest.ensures.value, c.count-in-loop-self.ensures.value, some_rest r.first r.word r.cells r.number r.size within more) in
    raw_filled _ _ _ _ _ _ most c.args.self.now r _ c.fill.result cells _ c.requires.given c.loop-self.invariant.given c.loop-self.invariant.kept (c.loop-self.invariant.at told cells a) (c.loop-self.invariant.reads told cells a)
    c.fill.ensures.fills (c.fill.ensures.file told) size c.fill.ensures.few c.fill.ensures.start refl refl refl refl refl refl

pub returns-then-not-branch-clause-reads : goal.returns-then-not-branch-clause-reads
returns-then-not-branch-clause-reads g c = λ told cells a.
    let r = c.loop-self.self in
    let b = g.F.Files.store c.loop-self.files in
    let most : ℕ = c.rest.result - c.count-in-loop-self.result in
    let within : r.number < r.first + r.word = omega (arith, c.loop-self.invariant.number, c.loop-self.invariant.first, c.loop-self.invariant.kept.word) in
    let more : r.number < r.cells = omega (arith, c.loop-self.invariant.number, c.loop-self.invariant.kept.cells) in
    let less : length (unread r.feed) < r.size = omega (arith, unread_length r.feed, c.count.ensures.value) in
    let size : most + length (unread r.feed) ≡ rest_of r = omega (arith, unread_length r.feed, c.rest.ensures.value, c.count-in-loop-self.ensures.value, some_rest r.first r.word r.cells r.number r.size within more) in
    refail _ _ _ _ _ _ _ _ _ (λ h. absurd (ok_fails h)) (λ h. absurd (ok_fails h)) (raw_reads _ _ _ _ (g.F.Files.store c.fill.new.files) _ c.args.self.now r cells _ c.requires.given c.loop-self.invariant.given c.loop-self.invariant.kept (c.loop-self.invariant.at told cells a) (c.loop-self.invariant.reads told cells a) _ _
    (λ at. fill_reads (IsWanted (raw_kind r c.args.id) (content b c.args.id) (length cells + 1)) _ _ _ _ most r.feed c.fill.new.self _ (c.in_ok-fill.ensures.file told) c.in_ok-fill.ensures.fills (raw_wants r c.args.id (content b c.args.id) (b.place c.args.id) cells most at less within size)))

pub loop-self-preserved : goal.loop-self-preserved
loop-self-preserved g c =
    let r = c.loop-self.self in
    let b = g.F.Files.store c.loop-self.files in
    let most : ℕ = c.rest.result - c.count-in-loop-self.result in
    let within : r.number < r.first + r.word = omega (arith, c.loop-self.invariant.number, c.loop-self.invariant.first, c.loop-self.invariant.kept.word) in
    let more : r.number < r.cells = omega (arith, c.loop-self.invariant.number, c.loop-self.invariant.kept.cells) in
    let less : length (unread r.feed) < r.size = omega (arith, unread_length r.feed, c.count.ensures.value) in
    let size : most + length (unread r.feed) ≡ rest_of r = omega (arith, unread_length r.feed, c.rest.ensures.value, c.count-in-loop-self.ensures.value, some_rest r.first r.word r.cells r.number r.size within more) in
    record {
      given = c.fill.ensures.given ∙ c.loop-self.invariant.given;
      faults = c.in_ok-fill.ensures.cause.kept (λ e. absurd (ok_fails e)) (λ e. absurd (ok_fails e)) ∙ c.loop-self.invariant.faults;
      still = λ told. c.fill.ensures.still told;
      kept = record { ty = c.loop-self.invariant.kept.ty; size = c.loop-self.invariant.kept.size; word = c.loop-self.invariant.kept.word; cells = c.loop-self.invariant.kept.cells };
      number = c.loop-self.invariant.number;
      first = c.loop-self.invariant.first;
      at = λ told cells a.
          raw_filled _ _ _ _ _ _ most c.args.self.now r _ c.fill.result cells _ c.requires.given c.loop-self.invariant.given c.loop-self.invariant.kept (c.loop-self.invariant.at told cells a) (c.loop-self.invariant.reads told cells a)
          c.fill.ensures.fills (c.fill.ensures.file told) size c.fill.ensures.few c.fill.ensures.start refl refl refl refl refl refl;
      reads = λ told cells a.
          refail _ _ _ _ _ _ _ _ _ (λ h. absurd (ok_fails h)) (λ h. absurd h) (raw_reads _ _ _ _ (g.F.Files.store c.fill.new.files) _ c.args.self.now r cells _ c.requires.given c.loop-self.invariant.given c.loop-self.invariant.kept (c.loop-self.invariant.at told cells a) (c.loop-self.invariant.reads told cells a) _ _
          (λ at. fill_reads (IsWanted (raw_kind r c.args.id) (content b c.args.id) (length cells + 1)) _ _ _ _ most r.feed c.fill.new.self _ (c.in_ok-fill.ensures.file told) c.in_ok-fill.ensures.fills (raw_wants r c.args.id (content b c.args.id) (b.place c.args.id) cells most at less within size)));
    }
