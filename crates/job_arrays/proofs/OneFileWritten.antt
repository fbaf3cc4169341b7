-- Writing one file of a job, as a step of the job.
use Rattle.std.proofs.Common.{◌≡◌, ◌<◌, ℕ, ◌+◌, List, [], ◌∷◌, ◌++◌, length, length-append, take, ℤ, Option, Some, None, Result, Ok, Err, refl, sym, ap, subst, ◌∙◌, arith, append_assoc}
use Rattle.std.proofs.lemmas.List.{take-append-le, take_all}
use Rattle.soda_io.specs.Store.{KeepsIds, Store}
use Rattle.soda_io.specs.declared.error.IoErr.{IoErr}
use Rattle.soda_io.specs.declared.error.IoErr.TheVariants as io
use Rattle.array_bytes.specs.Written.{array_bytes, begun, ending}
use Rattle.bursts.specs.Blocks.{WritesOn}
use Rattle.bursts.specs.Writers.{Finishes, HasPut, IsPrefix, Output, Puts, output}
use Rattle.bursts.specs.declared.writer.CellWriter.{CellWriter}
use Rattle.job_files.specs.Contents.{Holding, Holds, PutsFront, PutsTo}
use Rattle.job_files.specs.Files.{JobFile}
use Rattle.job_files.specs.Progress.{Progress}
use Rattle.job_files.specs.Steps.{WritesTo}
use Rattle.job_files.proofs.CallerLemmas.{held_at, was_held, writes_on, writes_stuck}

module _ (first : ℕ) (begun : Store) (files : List JobFile) (ended : ℕ) (places : ℕ → ℕ) (given : ℕ) (old : Store)
    (p : Progress first begun files ended places given old) (now : ℕ) (new : Store) (same : now ≡ given) (n : ℕ) (below : n < length files) where
  writes : (r : Result (Unit {0}) IoErr) → WritesOn given old new (first + n) r → WritesTo first begun files ended places now new n r
  writes (Ok u) w =
      writes_on first begun files ended places given old p now new same w.ids w.entries w.calls n below w.places w.writes
      (λ ends. let is = w.failed.1 ends in absurd (cc))
  writes (Err io.Memory) w =
      writes_on first begun files ended places given old p now new same w.ids w.entries w.calls n below w.places w.writes
      (λ ends. let is = w.failed.1 ends in absurd (cc))
  writes (Err io.Failed) w =
      writes_stuck first begun files ended places given old p now new same w.ids w.entries w.calls n below w.places w.writes (w.failed.0 refl)

  pub wrote_file : (id its : ℕ) → its ≡ id → id ≡ first + n → (r : Result (Unit {0}) IoErr) → WritesOn given old new its r
      → WritesTo first begun files ended places now new n r
  wrote_file id its held is r w = let P : ℕ → Type 0 = λ k. WritesOn given old new k r in writes r (subst P is (subst P held w))

-- a writer that was just made puts all cells: what it left after that
put_all : (w : CellWriter) (cells : List ℤ) (held : Option (List ℕ)) → Puts w [] cells held (Ok tt)
    → (bytes : List ℕ) × (held ≡ Some bytes) × HasPut w cells bytes
put_all w cells None p = absurd p
put_all w cells (Some bytes) p = (bytes, refl, p)

-- where that ended with an error
part_of : (w : CellWriter) (o : Output) (cells : List ℤ) (held : Option (List ℕ)) (e : IoErr) → output w ≡ o → Puts w [] cells held (Err e)
    → Finishes o cells held (Err e)
unfolding array_bytes
part_of w o cells None e is p = absurd p
part_of w o cells (Some bytes) e is p =
    let P : Output → Type 0 = λ q. IsPrefix bytes (begun q.form q.ty q.run cells) in
    let front : IsPrefix bytes (begun o.form o.ty o.run cells) = subst P is p in
    record {
      rest = front.rest ++ ending o.form cells;
      same = ap (λ (bs : List ℕ). bs ++ ending o.form cells) front.same ∙ append_assoc bytes front.rest (ending o.form cells);
    }

module _ (w : CellWriter) (o : Output) (cells : List ℤ) (given now : ℕ) (old mid : Store) (is : output w ≡ o) (same : now ≡ given) (lt : o.id < given)
    (a : KeepsIds given old mid) where
  pub put_part : (e : IoErr) → Puts w [] cells (mid.bytes (mid.name o.id)) (Err e) → Finishes o cells (mid.bytes (old.name o.id)) (Err e)
  put_part e p =
      let P : List ℕ → Type 0 = λ n. Finishes o cells (mid.bytes n) (Err e) in
      subst P (a.name o.id lt) (part_of w o cells (mid.bytes (mid.name o.id)) e is p)

  -- and then it finishes
  pub put_then : (new : Store) (r : Result (Unit {0}) IoErr) → KeepsIds now mid new → Puts w [] cells (mid.bytes (mid.name o.id)) (Ok tt)
      → ((before : List ℤ) → (bytes : List ℕ) → mid.bytes (mid.name (output w).id) ≡ Some bytes → HasPut w before bytes
      → Finishes (output w) before (new.bytes (new.name (output w).id)) r)
      → Finishes o cells (new.bytes (old.name o.id)) r
  put_then new r b put ends =
      let p = put_all w cells (mid.bytes (mid.name o.id)) put in
      let here : (output w).id ≡ o.id = ap (λ (q : Output). q.id) is in
      let f = ends cells p.0 (ap (λ (k : ℕ). mid.bytes (mid.name k)) here ∙ p.1) p.2 in
      let its : new.name (output w).id ≡ old.name o.id = ap (λ (k : ℕ). new.name k) here ∙ b.name o.id (omega arith) ∙ a.name o.id lt in
      let P : Output → Type 0 = λ q. Finishes q cells (new.bytes (new.name (output w).id)) r in
      let Q : List ℕ → Type 0 = λ n. Finishes o cells (new.bytes n) r in
      subst Q its (subst P is f)

-- what it left in the end
finished : (o : Output) (cells : List ℤ) (held : Option (List ℕ)) (r : Result (Unit {0}) IoErr) → Finishes o cells held r
    → (now : List ℕ) × (held ≡ Some now) × PutsFront [] now (array_bytes o.form o.ty o.run cells) r
finished o cells None r f = absurd f
finished o cells (Some now) (Ok u) f =
    let whole : List ℕ = array_bytes o.form o.ty o.run cells in (
      now,
      refl,
      record {
        count = length whole;
        at_most = omega arith;
        all = refl;
        put = f ∙ sym (take_all (length whole) whole (omega arith));
      },
    )
finished o cells (Some now) (Err e) f =
    let whole : List ℕ = array_bytes o.form o.ty o.run cells in
    let long : length whole ≡ length now + length f.rest = ap length f.same ∙ length-append now f.rest in (
      now,
      refl,
      record {
        count = length now;
        at_most = omega arith;
        all = tt;
        put = sym (ap (take (length now)) f.same ∙ take-append-le (length now) now f.rest (omega arith) ∙ take_all (length now) now (omega arith));
      },
    )

-- the outputs of a job, one of which got an array by a writer
pub puts_array : (before : Holding) (given : ℕ) (old new : Store) (id its : ℕ) (r : Result (Unit {0}) IoErr) → WritesOn given old new its r
    → (front back : List (List ℕ × List ℕ)) (name : List ℕ) → old.name id ≡ name → Holds before old.bytes (front ++ (name, []) ∷ back)
    → (o q : Output) (cells : List ℤ) → q ≡ o → o.id ≡ id → its ≡ id
    → (old.bytes (old.name q.id) ≡ Some [] → Finishes q cells (new.bytes (old.name q.id)) r)
    → PutsTo before new.bytes front name [] back (array_bytes o.form o.ty o.run cells) r
puts_array before given old new id its r w front back name is h o q cells same own here ends =
    let P : Output → Type 0 = λ x. old.bytes (old.name x.id) ≡ Some [] → Finishes x cells (new.bytes (old.name x.id)) r in
    let named : old.name o.id ≡ name = ap (λ (k : ℕ). old.name k) own ∙ is in
    let held : old.bytes (old.name o.id) ≡ Some [] = ap (λ (n : List ℕ). old.bytes n) named ∙ was_held before old.bytes front back name [] h in
    let f = finished o cells (new.bytes (old.name o.id)) r (subst P same ends held) in
    let got : new.bytes name ≡ Some f.0 = ap (λ (n : List ℕ). new.bytes n) (sym named) ∙ f.1 in
    record {
      now = f.0;
      puts = f.2;
      holds = held_at before old.bytes new.bytes front back name [] f.0
          (λ n ne. w.others n (λ e. ne (e ∙ ap (λ (k : ℕ). old.name k) here ∙ is))) got h;
    }

-- nothing was asked of the files
pub none_put : (before after : Holding) (front back : List (List ℕ × List ℕ)) (name bytes : List ℕ) → Holds before after (front ++ (name, []) ∷ back)
    → PutsTo before after front name [] back bytes (Err io.Memory)
none_put before after front back name bytes holds =
    record { now = []; puts = record { count = 0; at_most = omega arith; all = tt; put = refl }; holds = holds }
