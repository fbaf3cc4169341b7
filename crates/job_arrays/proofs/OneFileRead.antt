-- Reading one file of a job, as a step of the job.
use Rattle.std.proofs.Common.{◌≡◌, ◌≢◌, ◌<◌, ℕ, ◌+◌, List, length, ℤ, Ok, Err, refl, subst, arith}
use Rattle.soda_io.specs.Store.{Store}
use Rattle.array_bytes.specs.declared.fault.CellFault.{CellFault}
use Rattle.array_bytes.specs.declared.fault.CellFault.TheVariants.{BadCell, CellRange, TooFew, TooMany, TooLong, Failed, Memory}
use Rattle.job_files.specs.Files.{JobFile}
use Rattle.job_files.specs.Progress.{Progress}
use Rattle.job_files.proofs.CallerLemmas.{moved_is, reads_on, reads_out, reads_stuck}
use Rattle.job_arrays.specs.Machine.OneFile.{ReadsFile}
use Rattle.job_arrays.specs.Steps.{ReadsArray, ReadsPart, ReadsUntilFault}

module _ (first : ℕ) (begun : Store) (files : List JobFile) (ended : ℕ) (places : ℕ → ℕ) (given : ℕ) (old : Store)
    (p : Progress first begun files ended places given old) (now : ℕ) (new : Store) (same : now ≡ given) (below : ended < length files) where
  -- no read failed
  part : (f : CellFault) → ReadsFile given old new (first + ended) (Err f) → f ≢ Failed → ReadsPart first begun files ended places now new
  part f w other =
      let s = reads_on first begun files ended places given old p now new same w.ids w.entries w.calls below w.others w.reads
      (λ ends. other (let is = w.failed.1 ends in cc)) in
      (s.0, s.1, s.2, record { place = new.place (first + ended); after = _; moves = moved_is places ended (new.place (first + ended)); progress = s.3 })

  fails : ReadsFile given old new (first + ended) (Err Failed) → ReadsUntilFault first begun files ended places now new
  fails w = record {
    place = new.place (first + ended);
    after = _;
    moves = moved_is places ended (new.place (first + ended));
    stuck = reads_stuck first begun files ended places given old p now new same w.ids w.entries w.calls below w.others w.reads (w.failed.0 refl);
  }

  reads_faulty : (f : CellFault) → ReadsFile given old new (first + ended) (Err f) → ReadsArray first begun files ended places now new (Err f)
  reads_faulty (BadCell i) w = part (BadCell i) w (λ is. absurd (cc))
  reads_faulty (CellRange i) w = part (CellRange i) w (λ is. absurd (cc))
  reads_faulty (TooFew n) w = part (TooFew n) w (λ is. absurd (cc))
  reads_faulty TooMany w = part TooMany w (λ is. absurd (cc))
  reads_faulty TooLong w = part TooLong w (λ is. absurd (cc))
  reads_faulty Failed w = fails w
  reads_faulty Memory w = part Memory w (λ is. absurd (cc))

  reads_good : (cells : List ℤ) → ReadsFile given old new (first + ended) (Ok tt) → ReadsArray first begun files ended places now new (Ok cells)
  reads_good cells w = record {
    place = new.place (first + ended);
    after = _;
    moves = moved_is places ended (new.place (first + ended));
    progress = reads_out first begun files ended places given old p now new same w.ids w.entries w.calls below w.others w.reads
        (λ ends. let is = w.failed.1 ends in absurd (cc)) w.end.0 w.end.1;
  }

  pub file_faulty : (id : ℕ) → id ≡ first + ended → (f : CellFault) → ReadsFile given old new id (Err f)
      → ReadsArray first begun files ended places now new (Err f)
  file_faulty id is f w = let P : ℕ → Type 0 = λ k. ReadsFile given old new k (Err f) in reads_faulty f (subst P is w)

  pub file_good : (id : ℕ) → id ≡ first + ended → (cells : List ℤ) → ReadsFile given old new id (Ok tt)
      → ReadsArray first begun files ended places now new (Ok cells)
  file_good id is cells w = let P : ℕ → Type 0 = λ k. ReadsFile given old new k (Ok tt) in reads_good cells (subst P is w)

-- nothing was asked of the files
pub none_asked : (first : ℕ) (begun : Store) (files : List JobFile) (ended : ℕ) (places : ℕ → ℕ) (given : ℕ) (old : Store)
    → Progress first begun files ended places given old → ReadsArray first begun files ended places given old (Err Memory)
none_asked first begun files ended places given old p = (
  ended,
  omega arith,
  omega arith,
  record { place = places ended; after = places; moves = record { own = refl; others = λ k ne. refl }; progress = p },
)
