-- What a firing of a source reads.
use Rattle.std.proofs.Common.{◌≡◌, ◌≢◌, ℕ, ◌+◌, ◌-◌, ◌*◌, ◌≤◌, min, Bool, List, [], ◌++◌, length, take, drop, replicate, ℤ, pos, Option, Some, None, Result, Ok, Err, All, OnOk, refl, sym, ap, subst, ◌∙◌, arith, length-append, length-drop, length-take}
use Rattle.std.proofs.lemmas.List.{append-nil, append_cancel_left}
use Rattle.std.proofs.lemmas.List.Elements.{All-append, All-drop, All-replicate, All-same, All-take}
use Rattle.soda_words.specs.IntType.{IntType}
use Rattle.int_types.specs.Ranges.{InRange}
use Rattle.int_types.proofs.CallerLemmas.{zero_in_range}
use Rattle.soda_io.specs.Store.{Store}
use Rattle.soda_io.specs.declared.call.FileCall.{FileCall}
use Rattle.array_bytes.specs.declared.fault.CellFault.{CellFault}
use Rattle.bursts.specs.Blocks.{BlockIs, EachRead, IsWanted, Kind, ReadsOn, cells_in}
use Rattle.file_modules.specs.Firings.{cells_before, lanes_of}
use Rattle.file_modules.proofs.Lanes.{written_is}

-- how long a list is that has other values in a part
pub put_size : (xs block : List ℤ) (a n : ℕ) → a + n ≤ length xs → length block ≡ n
    → length (take a xs ++ (block ++ drop (a + n - a) (drop a xs))) ≡ length xs
put_size xs block a n fits size = simp (length-append, length-take, length-drop, size) (omega arith)

-- a list that was filled with 0
pub blanked : (xs ys : List ℤ) (n u : ℕ) → xs ≡ ys → ys ≡ replicate n (pos 0) → n ≡ u → xs ≡ replicate u (pos 0)
blanked xs ys n u same filled size = same ∙ filled ∙ ap (λ (i : ℕ). replicate i (pos 0)) size

-- where zeros were written over by the cells that were read
module _ (u a j : ℕ) (zeros block held : List ℤ) (blank : zeros ≡ replicate u (pos 0)) (is : held ≡ take a zeros ++ (block ++ drop j (drop a zeros))) where
  -- they are the lanes of the firing
  pub holds_lanes : (k : Kind) (bytes : List ℕ) (n d firing given count : ℕ) → n ≡ k.cells → a ≡ min (d - u * firing) u
      → count ≡ cells_before u d n (firing + 1) - cells_before u d n firing
      → cells_before u d n firing + count ≡ cells_before u d n (firing + 1)
      → length block ≡ count → j ≡ count → given ≡ cells_before u d k.cells firing → (r : Result (Unit {0}) CellFault) → BlockIs k bytes given block r
      → OnOk r ((held ≡ lanes_of u d k.cells (cells_in k bytes) firing) × (cells_before u d k.cells (firing + 1) ≤ length (cells_in k bytes)))
  holds_lanes k bytes n d firing given count all first is_count behind size same at (Ok x) b =
      let cells : List ℤ = cells_in k bytes in
      let before : ℕ = cells_before u d k.cells firing in
      let many : count ≡ cells_before u d k.cells (firing + 1) - before =
      is_count ∙ ap (λ (m : ℕ). cells_before u d m (firing + 1) - cells_before u d m firing) all in
      let on : before + count ≡ cells_before u d k.cells (firing + 1) =
      let P : ℕ → Type 0 = λ m. cells_before u d m firing + count ≡ cells_before u d m (firing + 1) in subst P all behind in
      let long : before + count ≤ length cells = omega (arith, b.0) in
      let next : block ≡ take count (drop before cells) =
      b.1 ∙ ap (λ (n : ℕ). take n (drop given cells)) size ∙ ap (λ (n : ℕ). take count (drop n cells)) at in (
        is ∙ ap (λ (n : ℕ). take a zeros ++ (block ++ drop n (drop a zeros))) same
            ∙ ap (λ (xs : List ℤ). take a xs ++ (block ++ drop count (drop a xs))) blank
            ∙ written_is u d k.cells firing a count block cells first many size next long,
        omega arith,
      )
  holds_lanes k bytes n d firing given count all first is_count behind size same at (Err f) b = tt

  -- and in range
  pub holds_range : (t : IntType) (r : Result (Unit {0}) CellFault) → OnOk r (All (λ v. InRange t v) block) → OnOk r (All (λ v. InRange t v) held)
  holds_range t (Ok x) all =
      let P : ℤ → Type 0 = λ v. InRange t v in
      let none : All P zeros = All-same P zeros (replicate u (pos 0)) blank (All-replicate P u (pos 0) (zero_in_range t)) in
      All-same P held _ is
      (All-append P (take a zeros) (block ++ drop j (drop a zeros)) (All-take P a zeros none)
      (All-append P block (drop j (drop a zeros)) all (All-drop P j (drop a zeros) (All-drop P a zeros none))))
  holds_range t (Err f) all = tt

-- reads that a block may want whose cells have numbers below `bound`, at an equal bound, and after an Err at any
pub wanted_at : (given : ℕ) (s t : Store) (id : ℕ) (before after : Bool) (F : Type 0) (k : Kind) (bytes : List ℕ) (m bound : ℕ) (fault : Option CellFault)
    → (fault ≡ None → m ≡ bound) → (fault ≢ None → t.calls ≡ s.calls) → ReadsOn given s t id before after F (IsWanted k bytes m)
    → ReadsOn given s t id before after F (IsWanted k bytes bound)
wanted_at given s t id before after F k bytes m bound None same quiet x =
    let P : ℕ → Type 0 = λ n. ReadsOn given s t id before after F (IsWanted k bytes n) in subst P (same refl) x
wanted_at given s t id before after F k bytes m bound (Some f) same quiet x =
    let none : x.entries ≡ [] =
    append_cancel_left s.calls x.entries [] (sym x.calls ∙ quiet (λ e. cc) ∙ sym (append-nil s.calls)) in
    let P : List FileCall → Type 0 = λ es. EachRead (IsWanted k bytes bound) (s.place id) es in
    record {
      ids = x.ids;
      bytes = x.bytes;
      others = x.others;
      entries = x.entries;
      calls = x.calls;
      reads = x.reads;
      quiet = x.quiet;
      going = x.going;
      met = x.met;
      failed = x.failed;
      stays = x.stays;
      each = subst P (sym none) tt;
      place = x.place;
    }
