-- How far a job is after each step.
use Rattle.std.proofs.Common.{◌≡◌, ◌<◌, ◌≤◌, ℕ, ◌+◌, ◌-◌, Bool, true, false, List, [], ◌∷◌, ◌++◌, length, Option, Some, None, Result, Ok, Err, IfOk, All, refl, sym, ap, subst, ◌∙◌, arith, append_assoc}
use Rattle.std.proofs.lemmas.List.{append-nil}
use Rattle.std.proofs.lemmas.List.Elements.{All-cons, All-append, All-nil, All-weaker}
use Rattle.std.specs.declared.vec.Vec.{Vec}
use Rattle.std.specs.declared.alloc.Global.{Global}
use Rattle.soda_io.specs.declared.error.IoErr.{IoErr}
use Rattle.soda_io.specs.declared.error.IoErr.TheVariants as io
use Rattle.soda_io.specs.declared.call.FileCall.{FileCall}
use Rattle.soda_io.specs.declared.call.FileCall.TheVariants.{Open, Create, Read, Write}
use Rattle.soda_io.specs.Store.{Creates, Gives, IsFresh, KeepsIds, KeepsPlaces, Opens, Store, logged}
use Rattle.whole_files.specs.declared.reading.ReadFail.{ReadFail}
use Rattle.whole_files.specs.declared.reading.ReadFail.TheVariants as fail
use Rattle.whole_files.specs.Journal.{IsGot, IsTaken, gots}
use Rattle.whole_files.specs.Reading.{ReadsWhole, items_of}
use Rattle.whole_files.specs.Writing.{WritesWhole}
use Rattle.whole_files.proofs.CallerLemmas.{gots-append}
use Rattle.job_files.specs.Files.{JobFile, asking}
use Rattle.job_files.specs.Progress.{Fails, GoesWell, IsDone, IsRefusedAsking, Progress, Stuck, askings, failed, refused}
use Rattle.job_files.specs.Steps.{AsksNext, Moves, ReadsNext, WritesTo}
use Rattle.job_files.proofs.Entries.{Asking, IsQuiet, askings-append, got_done, gots_ask, gots_no_end, gots_only, other_read, own_read, read_on, read_out, taken_done, takens_ask, takens_quiet}
use Rattle.job_files.proofs.Going.{asking_more, moved, moved_is, quietly, reading}

module _ (first : ℕ) (begun : Store) (files : List JobFile) (ended : ℕ) (places : ℕ → ℕ) (given : ℕ) (old : Store)
    (p : Progress first begun files ended places given old) (now : ℕ) (new : Store) where
  -- the journal since the job began
  joined : (ys : List FileCall) → new.calls ≡ old.calls ++ ys → new.calls ≡ begun.calls ++ (p.entries ++ ys)
  joined ys calls = calls ∙ ap (λ (es : List FileCall). es ++ ys) p.calls ∙ append_assoc begun.calls p.entries ys

  joined_last : (more : List FileCall) (last : FileCall) → new.calls ≡ old.calls ++ (more ++ last ∷ [])
      → new.calls ≡ begun.calls ++ ((p.entries ++ more) ++ last ∷ [])
  joined_last more last calls = joined (more ++ last ∷ []) calls
      ∙ ap (λ (es : List FileCall). begun.calls ++ es) (sym (append_assoc p.entries more (last ∷ [])))

  -- no id was given
  settled : now ≡ given → (stage : ℕ) (after : ℕ → ℕ) (entries : List FileCall) → GoesWell first files stage after given new entries
      → GoesWell first files stage after now new entries
  settled same stage after entries = let P : ℕ → Type 0 = λ g. GoesWell first files stage after g new entries in subst P (sym same)

  -- no call failed
  pub goes_on : now ≡ given → (more : List FileCall) → new.calls ≡ old.calls ++ more → (stage : ℕ) (after : ℕ → ℕ)
      → GoesWell first files stage after given new (p.entries ++ more) → Progress first begun files stage after now new
  goes_on same more calls stage after well = record
      { entries = p.entries ++ more; calls = joined more calls; well = settled same stage after (p.entries ++ more) well }

  -- the last call failed
  pub sticks : now ≡ given → (more : List FileCall) (last : FileCall) → new.calls ≡ old.calls ++ (more ++ last ∷ []) → (after : ℕ → ℕ)
      → GoesWell first files ended after given new (p.entries ++ more)
      → (all : List JobFile) (n : ℕ) → Fails first ended all n files last → Stuck first begun all ended n after now new
  sticks same more last calls after well all n fails =
      record {
        those = files;
        before = p.entries ++ more;
        last = last;
        calls = joined_last more last calls;
        well = settled same ended after
            (p.entries ++ more) well;
        fails = fails;
      }

  -- one more file is asked for
  module _ (f : JobFile) (call : Option ℕ → FileCall) (asks : (id : ℕ) → askings (call (Some id) ∷ []) ≡ (f.opened, f.name, Some id) ∷ [])
      (done : (id : ℕ) → IsDone first (length files + 1) (call (Some id)))
      (quiet : (id : ℕ) → IsQuiet (call (Some id) ∷ [])) (fault : IsRefusedAsking f (call None)) (ids : KeepsIds given old new)
      (stay : KeepsPlaces given old new) where
    asks_next : (r : Result ℕ IoErr) → Gives given now r → new.calls ≡ old.calls ++ logged call r → IfOk r (λ id. IsFresh new id f.name f.opened)
        → AsksNext first begun files ended places now new f r
    asks_next (Ok id) gives calls fresh = (
      gives.0 ∙ p.well.count,
      record {
        entries = p.entries ++ call (Some id) ∷ [];
        calls = joined (call (Some id) ∷ []) calls;
        well = asking_more first files ended places given old p.entries p.well new ids stay f (call (Some id))
            (asks id ∙ ap (λ (k : ℕ). let a : Asking = (f.opened, f.name, Some k) in a ∷ []) gives.0) (done id) (quiet id) now id gives.1 gives.0 fresh;
      },
    )
    asks_next (Err io.Failed) gives calls fresh =
        sticks gives [] (call None) calls places (quietly first files ended places given old p.entries p.well new ids stay []
        (All-nil (IsDone first (length files))) refl (λ k. refl))
        (files ++ f ∷ []) (length files) (refused f refl refl fault)
    asks_next (Err io.Memory) gives calls fresh =
        goes_on gives [] calls ended places (quietly first files ended places given old p.entries p.well new ids stay []
        (All-nil (IsDone first (length files))) refl (λ k. refl))

  module _ (f : JobFile) (name : List ℕ) (r : Result ℕ IoErr) (gives : Gives given now r) where
    pub opened : asking f ≡ (true, name) → Opens given old new name r → AsksNext first begun files ended places now new f r
    opened is o =
        let P : (Bool × List ℕ) → Type 0 = λ a. IfOk r (λ id. IsFresh new id a.1 a.0) in
        asks_next f (Open name) (λ id. ap (λ (a : Bool × List ℕ). let q : Asking = (a.0, a.1, Some id) in q ∷ []) (sym is)) (λ id. tt) (λ id k. refl)
        (ap (λ (a : Bool × List ℕ). a.0) is, ap (λ (a : Bool × List ℕ). a.1) is) o.ids o.places r gives o.calls (subst P (sym is) o.fresh)

    pub created : asking f ≡ (false, name) → Creates given old new name r → AsksNext first begun files ended places now new f r
    created is o =
        let P : (Bool × List ℕ) → Type 0 = λ a. IfOk r (λ id. IsFresh new id a.1 a.0) in
        asks_next f (Create name) (λ id. ap (λ (a : Bool × List ℕ). let q : Asking = (a.0, a.1, Some id) in q ∷ []) (sym is)) (λ id. tt) (λ id k. refl)
        (ap (λ (a : Bool × List ℕ). a.0) is, ap (λ (a : Bool × List ℕ). a.1) is) o.ids o.places r gives o.calls (subst P (sym is) o.fresh)

  -- the next file is read
  module _ (same : now ≡ given) (below : ended < length files) (most : ℕ) where
    -- reads that got some bytes, and then these
    module _ (r : Result (List ℕ) ReadFail) (w : ReadsWhole given old new (first + ended) most r) where
      abbrev after : ℕ → ℕ
      after = moved places ended (places ended + length w.taken)

      got_all : All (IsDone first (length files)) w.entries
      got_all = All-weaker (IsGot (first + ended)) (IsDone first (length files))
          (got_done first (length files) (first + ended) (omega arith) (omega arith)) w.entries w.gots

      partly : GoesWell first files ended after given new (p.entries ++ w.entries)
      partly = reading first files ended places given old p.entries p.well new w.ids below w.others w.entries got_all
          (gots_ask (first + ended) w.entries w.gots) ended (omega arith, omega arith)
          (read_on first ended p.entries p.well.read w.entries (gots_only (first + ended) w.entries w.gots) (gots_no_end (first + ended) w.entries w.gots))
          (length w.taken) w.place

    whole : (bytes : List ℕ) → (w : ReadsWhole given old new (first + ended) most (Ok bytes))
        → GoesWell first files (ended + 1) (moved places ended (places ended + length w.taken)) given new
        (p.entries ++ (w.entries ++ Read (first + ended) w.asked (Some 0) ∷ []))
    whole bytes w =
        let end : FileCall = Read (first + ended) w.asked (Some 0) in
        let low : first ≤ first + ended = omega arith in
        let high : first + ended < first + length files = omega arith in
        reading first files ended places given old p.entries p.well new w.ids below w.others (w.entries ++ end ∷ [])
        (All-append (IsDone first (length files)) w.entries (end ∷ []) (got_all (Ok bytes) w)
        (All-cons (IsDone first (length files)) end [] (low, high) (All-nil (IsDone first (length files)))))
        (askings-append w.entries (end ∷ []) ∙ ap (λ (qs : List Asking). qs ++ []) (gots_ask (first + ended) w.entries w.gots))
        (ended + 1) (omega arith, omega arith)
        (read_out first ended p.entries p.well.read (w.entries ++ end ∷ [])
        (λ k ne. gots-append k w.entries (end ∷ []) ∙ ap (λ (gs : List (Option ℕ)). gs ++ gots k (end ∷ [])) (gots_only (first + ended) w.entries w.gots k ne)
        ∙ other_read k (first + ended) w.asked (Some 0) [] ne)
        (gots (first + ended) w.entries)
        (gots-append (first + ended) w.entries (end ∷ [])
        ∙ ap (λ (gs : List (Option ℕ)). gots (first + ended) w.entries ++ gs) (own_read (first + ended) w.asked (Some 0)))
        (gots_no_end (first + ended) w.entries w.gots))
        (length w.taken) w.place

    reads_next : (r : Result (Vec ℕ Global) ReadFail) → ReadsWhole given old new (first + ended) most (items_of r)
        → ReadsNext first begun files ended places now new most r
    reads_next (Ok v) w =
        let long : length w.taken ≡ length v.items = ap length w.amount.0 in
        let P : ℕ → Type 0 = λ n. Moves places (moved places ended (places ended + length w.taken)) ended (places ended + n) in (
          moved places ended (places ended + length w.taken),
          subst P long (moved_is places ended (places ended + length w.taken)),
          goes_on same (w.entries ++ Read (first + ended) w.asked (Some 0) ∷ []) w.calls (ended + 1) (moved places ended (places ended + length w.taken))
              (whole v.items w),
        )
    reads_next (Err fail.TooLong) w =
        let P : ℕ → Type 0 = λ n. Moves places (moved places ended (places ended + length w.taken)) ended (places ended + n) in (
          moved places ended (places ended + length w.taken),
          subst P w.amount (moved_is places ended (places ended + length w.taken)),
          goes_on same w.entries (w.calls ∙ ap (λ (es : List FileCall). old.calls ++ es) (append-nil w.entries)) ended
              (moved places ended (places ended + length w.taken)) (partly (Err fail.TooLong) w),
        )
    reads_next (Err fail.Failed) w =
        let few : length w.taken ≤ most = w.amount in (
          moved places ended (places ended + length w.taken),
          places ended + length w.taken,
          omega arith,
          moved_is places ended (places ended + length w.taken),
          sticks same w.entries (Read (first + ended) w.asked None) w.calls (moved places ended (places ended + length w.taken))
              (partly (Err fail.Failed) w) files ended (failed refl below (refl, refl)),
        )
    reads_next (Err fail.Memory) w =
        let few : length w.taken ≤ most + 1 = w.amount in (
          moved places ended (places ended + length w.taken),
          places ended + length w.taken,
          omega arith,
          moved_is places ended (places ended + length w.taken),
          goes_on same w.entries (w.calls ∙ ap (λ (es : List FileCall). old.calls ++ es) (append-nil w.entries)) ended
              (moved places ended (places ended + length w.taken)) (partly (Err fail.Memory) w),
        )

    pub read_file : (id : ℕ) → id ≡ first + ended → (r : Result (Vec ℕ Global) ReadFail) → ReadsWhole given old new id most (items_of r)
        → ReadsNext first begun files ended places now new most r
    read_file id is r w = let P : ℕ → Type 0 = λ k. ReadsWhole given old new k most (items_of r) in reads_next r (subst P is w)

  -- a file is written
  module _ (same : now ≡ given) (n : ℕ) (below : n < length files) (bytes : List ℕ) where
    written : (r : Result (Unit {0}) IoErr) → (w : WritesWhole given old new (first + n) bytes r)
        → GoesWell first files ended places given new (p.entries ++ w.entries)
    written r w =
        quietly first files ended places given old p.entries p.well new w.ids w.places w.entries
        (All-weaker (IsTaken (first + n)) (IsDone first (length files))
        (taken_done first (length files) (first + n) (omega arith) (omega arith)) w.entries w.takens)
        (takens_ask (first + n) w.entries w.takens) (takens_quiet (first + n) w.entries w.takens)

    writes : (r : Result (Unit {0}) IoErr) → WritesWhole given old new (first + n) bytes r → WritesTo first begun files ended places now new n r
    writes (Ok u) w = goes_on same w.entries (w.calls ∙ ap (λ (es : List FileCall). old.calls ++ es) (append-nil w.entries)) ended places (written (Ok u) w)
    writes (Err io.Failed) w = sticks same w.entries (Write (first + n) (length bytes - w.count) None) w.calls places (written (Err io.Failed) w) files n
        (failed refl below refl)
    writes (Err io.Memory) w = goes_on same w.entries (w.calls ∙ ap (λ (es : List FileCall). old.calls ++ es) (append-nil w.entries)) ended places
        (written (Err io.Memory) w)

    pub wrote : (id : ℕ) → id ≡ first + n → (r : Result (Unit {0}) IoErr) → WritesWhole given old new id bytes r
        → WritesTo first begun files ended places now new n r
    wrote id is r w = let P : ℕ → Type 0 = λ k. WritesWhole given old new k bytes r in writes r (subst P is w)
