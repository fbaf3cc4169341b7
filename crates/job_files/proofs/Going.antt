-- What goes well, with the next step.
use Rattle.std.proofs.Common.{◌≡◌, ◌≢◌, ◌==◌, ◌<◌, ◌≤◌, ℕ, ◌+◌, true, false, List, [], ◌∷◌, ◌++◌, length, Some, All, refl, sym, ap, subst, ◌∙◌, arith, inl, inr, if◌then◌else◌, eq-eqb, length-append}
use Rattle.std.proofs.lemmas.Bool.{eqb-true}
use Rattle.std.proofs.lemmas.List.{append-nil}
use Rattle.std.proofs.lemmas.List.Elements.{All-append, All-push, All-weaker}
use Rattle.std.proofs.lemmas.Option.{slice_get_within}
use Rattle.soda_io.specs.declared.call.FileCall.{FileCall}
use Rattle.soda_io.specs.Store.{IsFresh, KeepsIds, KeepsPlaces, Store}
use Rattle.job_files.specs.Files.{JobFile}
use Rattle.job_files.specs.Progress.{AreReadOut, GoesWell, IsDone, IsIdOf, askings, given_from}
use Rattle.job_files.specs.Steps.{Moves}
use Rattle.job_files.proofs.Entries.{Asking, IsQuiet, askings-append, at_push, done_more, given_from-push, read_nothing, there}

-- the places, where that of one file is another
abbrev pub moved : (ℕ → ℕ) → ℕ → ℕ → ℕ → ℕ
moved places n place k = if k == n then place else places k

pub moved_is : (places : ℕ → ℕ) (n place : ℕ) → Moves places (moved places n place) n place
moved_is places n place = record {
  own = ap (λ t. if t then place else places n) (eq-eqb n n refl);
  others = λ k ne. elim (k == n) as (λ t. (k == n) ≡ t → (if t then place else places k) ≡ places k) [
    | true ↦ λ q. absurd (ne (eqb-true k n q))
    | false ↦ λ q. refl
  ] refl;
}

module _ (first : ℕ) (files : List JobFile) (ended : ℕ) (places : ℕ → ℕ) (given : ℕ) (old : Store) (entries : List FileCall)
    (w : GoesWell first files ended places given old entries) (new : Store) (keeps : KeepsIds given old new) where
  -- no more files are asked for
  onward : (more : List FileCall) → All (IsDone first (length files)) more → askings more ≡ [] → (stage : ℕ) (after : ℕ → ℕ) → stage ≤ length files
      → AreReadOut first stage (entries ++ more)
      → ((n : ℕ) → n < length files → new.place (first + n) ≡ after n) → ((n : ℕ) → stage < n → after n ≡ 0) → ((n : ℕ) → length files ≤ n → after n ≡ 0)
      → GoesWell first files stage after given new (entries ++ more)
  onward more done none stage after within read place unread unasked = record {
    count = w.count;
    within = within;
    done = All-append (IsDone first (length files)) entries more w.done done;
    asked = askings-append entries more ∙ ap (λ (qs : List Asking). askings entries ++ qs) none ∙ append-nil (askings entries) ∙ w.asked;
    read = read;
    ids = λ n f is.
        let below : n < length files = slice_get_within files n f is in
        let lt : first + n < given = omega (arith, w.count) in
        let i = w.ids n f is in
        record { name = keeps.name (first + n) lt ∙ i.name; opened = keeps.opened (first + n) lt ∙ i.opened; place = place n below };
    unread = unread;
    unasked = unasked;
  }

  -- nothing is read either
  pub quietly : KeepsPlaces given old new → (more : List FileCall) → All (IsDone first (length files)) more → askings more ≡ [] → IsQuiet more
      → GoesWell first files ended places given new (entries ++ more)
  quietly stay more done none quiet =
      onward more done none ended places w.within (read_nothing first ended entries w.read more quiet)
      (λ n below. let t = there files n below in let lt : first + n < given = omega (arith, w.count) in stay (first + n) lt ∙ (w.ids n t.0 t.1).place)
      w.unread w.unasked

  -- the next file is read, and stands at this place then
  pub reading_to : ended < length files → ((k : ℕ) → k < given → k ≢ first + ended → new.place k ≡ old.place k) → (more : List FileCall)
      → All (IsDone first (length files)) more → askings more ≡ []
      → (stage : ℕ) → (ended ≤ stage) × (stage ≤ length files) → AreReadOut first stage (entries ++ more) → (place : ℕ)
      → new.place (first + ended) ≡ place
      → GoesWell first files stage (moved places ended place) given new (entries ++ more)
  reading_to below others more done none stage within read place is =
      let m = moved_is places ended place in
      onward more done none stage (moved places ended place) within.1 read
      (λ n lt. elim (n == ended) as (λ t. (n == ended) ≡ t → new.place (first + n) ≡ (if t then place else places n)) [
        | true ↦ λ q. ap (λ k. new.place (first + k)) (eqb-true n ended q) ∙ is
        | false ↦ λ q.
            let ne : n ≢ ended = λ s. let y : (n == ended) ≡ true = eq-eqb n ended s in let bad : true ≡ false = sym y ∙ q in cc in
            let t = there files n lt in
            let known : first + n < given = omega (arith, w.count) in
            others (first + n) known (λ s. ne (omega arith)) ∙ (w.ids n t.0 t.1).place
      ] refl)
      (λ n lt. m.others n (λ s. absurd (omega (arith, within.0))) ∙ w.unread n (omega (arith, within.0)))
      (λ n le. m.others n (λ s. absurd (omega arith)) ∙ w.unasked n le)

  -- so many bytes of the next file are read
  pub reading : ended < length files → ((k : ℕ) → k < given → k ≢ first + ended → new.place k ≡ old.place k) → (more : List FileCall)
      → All (IsDone first (length files)) more → askings more ≡ []
      → (stage : ℕ) → (ended ≤ stage) × (stage ≤ length files) → AreReadOut first stage (entries ++ more) → (taken : ℕ)
      → new.place (first + ended) ≡ old.place (first + ended) + taken
      → GoesWell first files stage (moved places ended (places ended + taken)) given new (entries ++ more)
  reading below others more done none stage within read taken place =
      let e = there files ended below in
      reading_to below others more done none stage within read (places ended + taken) (place ∙ ap (λ p. p + taken) (w.ids ended e.0 e.1).place)

  -- one more file is asked for, and given
  pub asking_more : KeepsPlaces given old new → (f : JobFile) (call : FileCall) → askings (call ∷ []) ≡ (f.opened, f.name, Some given) ∷ []
      → IsDone first (length files + 1) call → IsQuiet (call ∷ [])
      → (now id : ℕ) → now ≡ given + 1 → id ≡ given → IsFresh new id f.name f.opened
      → GoesWell first (files ++ f ∷ []) ended places now new (entries ++ call ∷ [])
  asking_more stay f call asked done quiet now id is same fresh =
      let longer : length (files ++ f ∷ []) ≡ length files + 1 = length-append files (f ∷ []) in
      let one : IsDone first (length (files ++ f ∷ [])) call = let P : ℕ → Type 0 = λ k. IsDone first k call in subst P (sym longer) done in
      record {
        count = omega (arith, w.count);
        within = omega (arith, w.within);
        done = All-push (IsDone first (length (files ++ f ∷ []))) entries call
            (All-weaker (IsDone first (length files)) (IsDone first (length (files ++ f ∷ [])))
            (done_more first (length files) (length (files ++ f ∷ [])) (omega arith)) entries w.done) one;
        asked = askings-append entries (call ∷ []) ∙ ap (λ (qs : List Asking). askings entries ++ qs) asked
            ∙ ap (λ (qs : List Asking). qs ++ (f.opened, f.name, Some given) ∷ []) w.asked
            ∙ ap (λ (k : ℕ). let a : Asking = (f.opened, f.name, Some k) in given_from first files ++ a ∷ []) w.count ∙ sym (given_from-push first files f);
        read = read_nothing first ended entries w.read (call ∷ []) quiet;
        ids = λ n g at. elim (at_push files f n g at) [
          | inl was ↦
              let below : n < length files = slice_get_within files n g was in
              let lt : first + n < given = omega (arith, w.count) in
              let i = w.ids n g was in
              record { name = keeps.name (first + n) lt ∙ i.name; opened = keeps.opened (first + n) lt ∙ i.opened; place = stay (first + n) lt ∙ i.place }
          | inr here ↦
              let mine : id ≡ first + n = omega (arith, here.0, w.count) in
              let P : JobFile → Type 0 = λ x. IsIdOf new (first + n) x (places n) in
              let Q : ℕ → Type 0 = λ k. IsIdOf new k f (places n) in
              let zero = w.unasked n (omega (arith, here.0)) in
              subst P here.1 (subst Q mine (record { name = fresh.name; opened = fresh.opened; place = fresh.place ∙ sym zero }))
        ];
        unread = w.unread;
        unasked = λ n le. w.unasked n (omega arith);
      }
