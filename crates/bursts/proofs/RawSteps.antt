-- The steps of a reader of raw cells.
use Rattle.std.proofs.Common.{◌≡◌, ◌≢◌, ℕ, suc, ◌+◌, ◌-◌, ◌*◌, ◌/◌, ◌%◌, ◌<◌, ◌≤◌, min, Bool, true, false, if◌then◌else◌, List, [], ◌∷◌, ◌++◌, length, take, drop, set, Option, Some, None, Result, Ok, Err, ℤ, IsErrOf, refl, sym, ap, subst, ◌∙◌, arith, append_assoc, length-append, length-drop}
use Rattle.std.proofs.lemmas.Bool.{false≢true}
use Rattle.std.proofs.lemmas.List.{append-nil, length-take-le, take-append-le}
use Rattle.std.proofs.Math.Nat.{div-add-mod', mul-le-mul_right}
use Rattle.std.proofs.lemmas.Nat.{div-mul-add}
use Rattle.soda_words.specs.IntType.{IntType}
use Rattle.soda_io.specs.Store.{Store, content}
use Rattle.array_bytes.specs.Sizes.{cell_size}
use Rattle.array_bytes.specs.ReadNumber.{most_asked, read_number}
use Rattle.array_bytes.specs.Values.{raw_value}
use Rattle.array_bytes.specs.Machine.Scans.{FailsAfter, IsRawOf, IsWhole, Judges}
use Rattle.array_bytes.proofs.CallerLemmas.{own_bytes, raw_fault, raw_more, raw_none, raw_push, raw_short, raw_whole}
use Rattle.array_bytes.specs.declared.form.Form.TheVariants as form
use Rattle.array_bytes.specs.declared.fault.CellFault.{CellFault}
use Rattle.array_bytes.specs.declared.fault.CellFault.TheVariants.{BadCell, CellRange, TooFew, TooMany, TooLong, Failed, Memory}
use Rattle.bursts.specs.Blocks.{IsWanted, Kind, ReadCause, ReadsOn}
use Rattle.bursts.specs.Machine.Calls.{EndOf, FailsBelow, FaultIs, OneIs}
use Rattle.bursts.specs.Machine.Feeds.{FeedsOn, Fills, FillsFile, unread}
use Rattle.bursts.specs.Machine.Sources.{KeepsRaw, RawAt, raw_kind, rest_of}
use Rattle.bursts.specs.declared.feed.Feed.{Feed}
use Rattle.bursts.specs.declared.raw_reader.RawReader.{RawReader}
use Rattle.bursts.proofs.Filled.{feeds_filled, same_content}
use Rattle.bursts.proofs.OneByOne.{fill_reads, no_read, reads_then}
use Rattle.bursts.proofs.TextSteps.{fault_is, feeds_skip, feeds_restart, off_same, on_same, unread_length, used_up}

-- a new reader
pub raw_new : (r : RawReader) (bytes : List ℕ) → r.feed.ended ≡ false → r.feed.start ≡ 0 → r.feed.filled ≡ 0 → r.number ≡ 0 → RawAt r bytes 0 []
raw_new r bytes ended start filled number =
    let nothing : unread r.feed ≡ [] = used_up r.feed (omega arith) in
    record {
      used = [];
      feeds = record {
        split = ap (λ (xs : List ℕ). xs ++ bytes) (sym nothing);
        at = omega (arith, ap length nothing);
        end = λ q. absurd (false≢true (sym ended ∙ q));
      };
      raw = raw_none r.ty r.cells;
      count = number;
      few = omega (arith, ap length nothing);
    }

-- the rest of a word, as room in the buffer
pub rest_room : (start size word number first cells len : ℕ) → start ≤ (number - first) * size → first ≤ number → number ≤ first + word → len ≡ word * size → start + (min (first + word) cells - number) * size ≤ len
rest_room start size word number first cells len at low high is =
    let k : ℕ = min (first + word) cells - number in
    let sum : (number - first) * size + k * size ≤ word * size =
    (let e : (number - first + k) * size ≤ word * size = mul-le-mul_right size (omega arith) in omega (arith, e)) in
    omega arith

-- nothing is left of a word whose cells were all given
rest_none : (first word cells number size : ℕ) → number ≡ first + word → (min (first + word) cells - number) * size ≡ 0
rest_none first word cells number size e = let z : min (first + word) cells - number ≡ 0 = omega arith in ap (λ k. k * size) z ∙ omega arith

-- a reader at the beginning of the next word
pub word_begun : (r z : RawReader) (bytes : List ℕ) (place : ℕ) (cells : List ℤ) → r.number ≡ r.first + r.word → z.feed.start ≡ 0 → z.feed.filled ≡ 0 → z.feed.ended ≡ r.feed.ended → z.ty ≡ r.ty → z.cells ≡ r.cells → z.number ≡ r.number
    → RawAt r bytes place cells → RawAt z bytes place cells
word_begun r z bytes place cells all start filled ended ty count number a =
    let none : r.feed.filled ≤ r.feed.start = omega (arith, a.few, unread_length r.feed, rest_none r.first r.word r.cells r.number r.size all) in
    let P : IntType → Type 0 = λ t. IsRawOf t r.cells a.used cells in
    let Q : ℕ → Type 0 = λ n. IsRawOf z.ty n a.used cells in
    record {
      used = a.used;
      feeds = feeds_restart r.feed z.feed a.used bytes place none start filled ended a.feeds;
      raw = subst Q (sym count) (subst P (sym ty) a.raw);
      count = number ∙ a.count;
      few = omega (arith, unread_length z.feed);
    }

-- the word of a cell
word_of : (first word number : ℕ) → 0 < word → first % word ≡ 0 → first ≤ number → number < first + word → number / word * word ≡ first
word_of first word number some aligned low high =
    let q : ℕ = first / word in
    let whole : q * word + first % word ≡ first = div-add-mod' first word in
    let start : q * word ≡ first = omega arith in
    let at : number ≡ q * word + (number - first) = omega arith in
    let same : number / word ≡ q = ap (λ n. n / word) at ∙ div-mul-add q word (number - first) (omega arith) in
    ap (λ n. n * word) same ∙ start

-- a read that raw cells want, where less than a cell was read but not used
pub raw_wants : (r : RawReader) (id : ℕ) (bytes : List ℕ) (place : ℕ) (cells : List ℤ) (asked : ℕ) → RawAt r bytes place cells → length (unread r.feed) < r.size → r.number < r.first + r.word → asked + length (unread r.feed) ≡ rest_of r → IsWanted (raw_kind r id) bytes (length cells + 1) place asked
unfolding read_number most_asked
raw_wants r id bytes place cells asked a less within size =
    let s : ℕ = r.size in
    let u : ℕ = length (unread r.feed) in
    let own : cell_size r.ty ≡ s = sym r.bytes in
    let used : length a.used ≡ r.number * s = a.raw.whole ∙ ap (λ k. length cells * k) own ∙ ap (λ k. k * s) (sym a.count) in
    let at : place ≡ r.number * s + u = omega (arith, a.feeds.at, used) in
    let cell : place / cell_size r.ty ≡ r.number = ap (λ k. place / k) own ∙ ap (λ p. p / s) at ∙ div-mul-add r.number s u less in
    let word : place / cell_size r.ty / r.word * r.word ≡ r.first = ap (λ n. n / r.word * r.word) cell ∙ word_of r.first r.word r.number r.some_cells r.aligned r.begun within in
    let next : (place / cell_size r.ty / r.word + 1) * r.word ≡ r.first + r.word = omega (arith, word) in
    let m : ℕ = min (r.first + r.word) r.cells in
    let k : ℕ = m - r.number in
    let all : m ≡ r.number + k = omega (arith, r.left) in
    let most : min ((place / cell_size r.ty / r.word + 1) * r.word) r.cells * cell_size r.ty ≡ r.number * s + k * s =
    ap (λ n. min n r.cells * cell_size r.ty) next ∙ ap (λ z. m * z) own ∙ ap (λ n. n * s) all ∙ omega arith in
    record {
      number = omega (arith, word, a.count, r.begun);
      size = omega (arith, most, at, size);
    }

-- a reader whose feed was filled again
pub raw_refilled : (given : ℕ) (a b : Store) (id asked : ℕ) (r z : RawReader) (result : Result Bool CellFault) (cells : List ℤ) → id < given → Fills r.feed z.feed result → FillsFile given a b id asked r.feed z.feed result
    → asked + length (unread r.feed) ≡ rest_of r → z.feed.filled ≤ r.feed.filled + asked → z.feed.start ≡ r.feed.start → z.ty ≡ r.ty → z.cells ≡ r.cells → z.number ≡ r.number → z.first ≡ r.first → z.word ≡ r.word → z.size ≡ r.size
    → RawAt r (content a id) (a.place id) cells → RawAt z (content a id) (b.place id) cells
raw_refilled given a b id asked r z result cells lt fills file rest few start ty count number first word size at =
    let P : IntType → Type 0 = λ t. IsRawOf t r.cells at.used cells in
    let Q : ℕ → Type 0 = λ n. IsRawOf z.ty n at.used cells in
    let same : rest_of z ≡ rest_of r =
    ap (λ n. (min (n + z.word) z.cells - z.number) * z.size) first ∙ ap (λ n. (min (r.first + n) z.cells - z.number) * z.size) word
    ∙ ap (λ n. (min (r.first + r.word) n - z.number) * z.size) count ∙ ap (λ n. (min (r.first + r.word) r.cells - n) * z.size) number ∙ ap (λ n. (min (r.first + r.word) r.cells - r.number) * n) size in
    record {
      used = at.used;
      feeds = feeds_filled given a b id asked r.feed z.feed result at.used lt file (stays result fills) at.feeds;
      raw = subst Q (sym count) (subst P (sym ty) at.raw);
      count = number ∙ at.count;
      few = omega (arith, same, rest, unread_length z.feed, unread_length r.feed, r.feed.within);
    }
  where
    stays : (x : Result Bool CellFault) → Fills r.feed z.feed x → r.feed.ended ≡ true → z.feed.ended ≡ true
    stays (Ok true) h e = absurd (false≢true (sym h.1 ∙ e))
    stays (Ok false) h e = h.1
    stays (Err Failed) h e = h.1 ∙ e
    stays (Err Memory) h e = h.1 ∙ e
    stays (Err (BadCell i)) h e = absurd h
    stays (Err (CellRange i)) h e = absurd h
    stays (Err (TooFew i)) h e = absurd h
    stays (Err TooMany) h e = absurd h
    stays (Err TooLong) h e = absurd h

pub raw_same_kind : (r z : RawReader) (id : ℕ) → KeepsRaw r z → raw_kind z id ≡ raw_kind r id
raw_same_kind r z id k =
    ap (λ (t : IntType). of t z.cells z.word) k.ty ∙ ap (λ (n : ℕ). of r.ty n z.word) k.cells ∙ ap (λ (n : ℕ). of r.ty r.cells n) k.word
  where
    of : IntType → ℕ → ℕ → Kind
    of t n w = record { form = form.Raw; ty = t; cells = n; block = w; id = id }

-- what the calls so far have done, and one more call
module _ (given m : ℕ) (a b c : Store) (id : ℕ) (init r : RawReader) (cs : List ℤ) (bound : ℕ) (lt : id < given) (same : m ≡ given) (kept : KeepsRaw init r)
    (inv_at : RawAt r (content a id) (b.place id) cs) (x : ReadsOn given a b id init.feed.ended r.feed.ended ⊥ (IsWanted (raw_kind init id) (content a id) bound)) where
  raw_there : RawAt r (content b id) (b.place id) cs
  raw_there = on_same given a b id init.feed.ended r.feed.ended ⊥ (IsWanted (raw_kind init id) (content a id) bound) lt x (λ xs. RawAt r xs (b.place id) cs) inv_at

  -- a fact about the bytes after the call is one about those before
  pub raw_back : (T : List ℕ → Type 0) → (RawAt r (content b id) (b.place id) cs → T (content b id)) → T (content a id)
  raw_back T t = off_same given a b id init.feed.ended r.feed.ended ⊥ (IsWanted (raw_kind init id) (content a id) bound) lt x T (t raw_there)

  pub raw_reads : (h : Bool) (G : Type 0) → (RawAt r (content b id) (b.place id) cs → ReadsOn m b c id r.feed.ended h G (IsWanted (raw_kind r id) (content b id) bound))
      → ReadsOn given a c id init.feed.ended h G (IsWanted (raw_kind init id) (content a id) bound)
  raw_reads h G y =
      let held : content b id ≡ content a id = same_content given a b id lt x.ids x.bytes in
      let P : ℕ → Type 0 = λ k. ReadsOn k b c id r.feed.ended h G (IsWanted (raw_kind r id) (content b id) bound) in
      let Q : Kind → Type 0 = λ k. ReadsOn given b c id r.feed.ended h G (IsWanted k (content b id) bound) in
      let R : List ℕ → Type 0 = λ xs. ReadsOn given b c id r.feed.ended h G (IsWanted (raw_kind init id) xs bound) in
      reads_then (IsWanted (raw_kind init id) (content a id) bound) given a b c id init.feed.ended r.feed.ended h ⊥ G lt x (λ n. n) (subst R held (subst Q (raw_same_kind init r id kept) (subst P same (y raw_there))))

  -- a fault of the next cell
  pub raw_block_fails : (cells : List ℤ) (block : List ℤ) (f : CellFault) (i : ℕ) → cs ≡ cells ++ take i block → i < length block → (RawAt r (content b id) (b.place id) cs → FaultIs (raw_kind r id) (content b id) cs f)
      → FailsBelow (raw_kind init id) (content a id) (length cells + length block) f
  raw_block_fails cells block f i is few fault = record {
    cells = cs;
    below = (let n : length cs ≡ length cells + i = ap length is ∙ length-append cells (take i block) ∙ ap (λ k. length cells + k) (length-take-le i block (omega arith)) in omega arith);
    is =
        let P : Kind → Type 0 = λ k. FaultIs k (content a id) cs f in
        subst P (raw_same_kind init r id kept) (raw_back (λ xs. FaultIs (raw_kind r id) xs cs f) fault);
  }

-- the rest of a word that isn't over has a cell
pub some_rest : (first word cells number size : ℕ) → number < first + word → number < cells → size ≤ (min (first + word) cells - number) * size
some_rest first word cells number size low high =
    let k : ℕ = min (first + word) cells - number in
    let one : 1 ≤ k = omega arith in
    let e : 1 * size ≤ k * size = mul-le-mul_right size one in omega arith

-- a reader that was begun at some bytes and is filled again
pub raw_filled : (given m : ℕ) (a b c : Store) (id asked : ℕ) (init r z : RawReader) (result : Result Bool CellFault) (cells : List ℤ) (bound : ℕ) → id < given → m ≡ given → KeepsRaw init r → RawAt r (content a id) (b.place id) cells
    → ReadsOn given a b id init.feed.ended r.feed.ended ⊥ (IsWanted (raw_kind init id) (content a id) bound) → Fills r.feed z.feed result → FillsFile m b c id asked r.feed z.feed result
    → asked + length (unread r.feed) ≡ rest_of r → z.feed.filled ≤ r.feed.filled + asked → z.feed.start ≡ r.feed.start → z.ty ≡ r.ty → z.cells ≡ r.cells → z.number ≡ r.number → z.first ≡ r.first → z.word ≡ r.word → z.size ≡ r.size
    → RawAt z (content a id) (c.place id) cells
raw_filled given m a b c id asked init r z result cells bound lt same kept inv_at x fills file rest few start ty count number first word size =
    let lt_now = subst (λ (n : ℕ). id < n) (sym same) lt in
    raw_back given m a b c id init r cells bound lt same kept inv_at x (λ xs. RawAt z xs (c.place id) cells)
    (λ at. raw_refilled m b c id asked r z result cells lt_now fills file rest few start ty count number first word size at)

-- reads of a reader that began a word first
pub word_reads : (given : ℕ) (a c : Store) (id : ℕ) (r y : RawReader) (h : Bool) (F : Type 0) (bytes : List ℕ) (bound : ℕ) → KeepsRaw r y → y.feed.ended ≡ r.feed.ended
    → ReadsOn given a c id y.feed.ended h F (IsWanted (raw_kind y id) bytes bound) → ReadsOn given a c id r.feed.ended h F (IsWanted (raw_kind r id) bytes bound)
word_reads given a c id r y h F bytes bound kept ended x =
    let P : Bool → Type 0 = λ e. ReadsOn given a c id e h F (IsWanted (raw_kind y id) bytes bound) in
    let Q : Kind → Type 0 = λ k. ReadsOn given a c id r.feed.ended h F (IsWanted k bytes bound) in
    subst Q (raw_same_kind r y id kept) (subst P ended x)

raw_fault_is : (init r : RawReader) (id : ℕ) (bytes : List ℕ) (cells : List ℤ) (f : CellFault) → KeepsRaw init r → FailsAfter form.Raw r.ty r.cells bytes cells f → FaultIs (raw_kind init id) bytes cells f
raw_fault_is init r id bytes cells f kept h = fault_is (raw_kind init id) bytes cells f
    (let P : IntType → Type 0 = λ t. FailsAfter form.Raw t init.cells bytes cells f in
    let Q : ℕ → Type 0 = λ n. FailsAfter form.Raw r.ty n bytes cells f in
    subst P kept.ty (subst Q kept.cells h))

-- the file ends within the next cell
pub raw_ends : (init r : RawReader) (id : ℕ) (bytes : List ℕ) (place : ℕ) (cells : List ℤ) → KeepsRaw init r → r.number < r.cells → r.feed.ended ≡ true → r.feed.filled - r.feed.start < r.size → RawAt r bytes place cells → FaultIs (raw_kind init id) bytes cells (TooFew r.number)
raw_ends init r id bytes place cells kept below ended short a =
    let rest : List ℕ = unread r.feed ++ drop place bytes in
    let size : length rest ≡ length (unread r.feed) = ap (λ (xs : List ℕ). length (unread r.feed ++ xs)) (a.feeds.end ended) ∙ ap length (append-nil (unread r.feed)) in
    let F = raw_short r.ty r.cells a.used cells a.raw rest (omega (arith, a.count)) (omega (arith, size, unread_length r.feed, r.bytes)) in
    let P : List ℕ → Type 0 = λ xs. FailsAfter form.Raw r.ty r.cells xs cells (TooFew (length cells)) in
    let Q : ℕ → Type 0 = λ n. FailsAfter form.Raw r.ty r.cells bytes cells (TooFew n) in
    raw_fault_is init r id bytes cells (TooFew r.number) kept (subst Q (sym a.count) (subst P (sym a.feeds.split) F))

-- the number of the first bytes
value_front : (t : IntType) (xs ys : List ℕ) → cell_size t ≤ length xs → raw_value t (xs ++ ys) ≡ raw_value t xs
value_front t xs ys le = sym (own_bytes t (xs ++ ys)) ∙ ap (raw_value t) (take-append-le (cell_size t) xs ys le) ∙ own_bytes t xs

-- the next cell is none of the type
pub raw_refuses : (init r : RawReader) (id : ℕ) (bytes : List ℕ) (place : ℕ) (cells : List ℤ) (f : CellFault) → KeepsRaw init r → r.number < r.cells → r.size ≤ length (unread r.feed) → RawAt r bytes place cells
    → Judges r.ty r.number (Some (raw_value r.ty (unread r.feed))) (Err f) → FaultIs (raw_kind init id) bytes cells f
raw_refuses init r id bytes place cells f kept below fits a judged =
    let rest : List ℕ = unread r.feed ++ drop place bytes in
    let room : cell_size r.ty ≤ length (unread r.feed) = omega (arith, r.bytes) in
    let J : ℕ → Type 0 = λ n. Judges r.ty n (Some (raw_value r.ty rest)) (Err f) in
    let K : ℤ → Type 0 = λ v. Judges r.ty r.number (Some v) (Err f) in
    let own : Judges r.ty (length cells) (Some (raw_value r.ty rest)) (Err f) = subst J a.count (subst K (sym (value_front r.ty (unread r.feed) (drop place bytes) room)) judged) in
    let F = raw_fault r.ty r.cells a.used cells a.raw rest (omega (arith, a.count)) (omega (arith, room, length-append (unread r.feed) (drop place bytes))) f own in
    let P : List ℕ → Type 0 = λ xs. FailsAfter form.Raw r.ty r.cells xs cells f in
    raw_fault_is init r id bytes cells f kept (subst P (sym a.feeds.split) F)

-- one more cell was given
pub raw_gives : (r z : RawReader) (bytes : List ℕ) (place : ℕ) (cells : List ℤ) (v : ℤ) → r.number < r.first + r.word → r.number < r.cells → r.size ≤ length (unread r.feed)
    → z.feed.start ≡ r.feed.start + r.size → z.feed.filled ≡ r.feed.filled → z.feed.buffer ≡ r.feed.buffer → z.feed.ended ≡ r.feed.ended → z.ty ≡ r.ty → z.cells ≡ r.cells → z.number ≡ r.number + 1 → z.first ≡ r.first → z.word ≡ r.word → z.size ≡ r.size
    → RawAt r bytes place cells → Judges r.ty r.number (Some (raw_value r.ty (unread r.feed))) (Ok v) → RawAt z bytes place (cells ++ v ∷ [])
raw_gives r z bytes place cells v within below fits start filled buffer ended ty count number first word size a judged =
    let one : List ℕ = take r.size (unread r.feed) in
    let room : cell_size r.ty ≤ length (unread r.feed) = omega (arith, r.bytes) in
    let own : length one ≡ cell_size r.ty = length-take-le r.size (unread r.feed) fits ∙ r.bytes in
    let value : raw_value r.ty (unread r.feed) ≡ raw_value r.ty one = sym (own_bytes r.ty (unread r.feed)) ∙ ap (λ k. raw_value r.ty (take k (unread r.feed))) (sym r.bytes) in
    let K : ℤ → Type 0 = λ w. Judges r.ty r.number (Some w) (Ok v) in
    let J : ℕ → Type 0 = λ n. Judges r.ty n (Some (raw_value r.ty one)) (Ok v) in
    let raw = raw_push r.ty r.cells a.used one cells v a.raw (omega (arith, a.count)) own (subst J a.count (subst K value judged)) in
    let P : IntType → Type 0 = λ t. IsRawOf t r.cells (a.used ++ one) (cells ++ v ∷ []) in
    let Q : ℕ → Type 0 = λ n. IsRawOf z.ty n (a.used ++ one) (cells ++ v ∷ []) in
    let m : ℕ = min (r.first + r.word) r.cells in
    let k : ℕ = m - (r.number + 1) in
    let more : rest_of r ≡ r.size + k * r.size = (let e : m - r.number ≡ suc k = omega arith in ap (λ n. n * r.size) e ∙ omega arith) in
    let now : rest_of z ≡ k * r.size =
    ap (λ n. (min (n + z.word) z.cells - z.number) * z.size) first ∙ ap (λ n. (min (r.first + n) z.cells - z.number) * z.size) word
    ∙ ap (λ n. (min (r.first + r.word) n - z.number) * z.size) count ∙ ap (λ n. (min (r.first + r.word) r.cells - n) * z.size) number ∙ ap (λ n. (min (r.first + r.word) r.cells - (r.number + 1)) * n) size in
    record {
      used = a.used ++ one;
      feeds = feeds_skip r.feed z.feed r.size a.used bytes place fits start filled buffer ended a.feeds;
      raw = subst Q (sym count) (subst P (sym ty) raw);
      count = omega (arith, number, a.count, length-append cells (v ∷ []));
      few = omega (arith, now, more, a.few, unread_length z.feed, unread_length r.feed);
    }

pub raw_kept : (x y z : RawReader) → KeepsRaw x y → KeepsRaw y z → KeepsRaw x z
raw_kept x y z a b = record { ty = b.ty ∙ a.ty; size = b.size ∙ a.size; word = b.word ∙ a.word; cells = b.cells ∙ a.cells }

-- the same of a number that is this one
pub raw_gives_as : (r z : RawReader) (bytes : List ℕ) (place : ℕ) (cells : List ℤ) (v w : ℤ) → w ≡ v → r.number < r.first + r.word → r.number < r.cells → r.size ≤ length (unread r.feed)
    → z.feed.start ≡ r.feed.start + r.size → z.feed.filled ≡ r.feed.filled → z.feed.buffer ≡ r.feed.buffer → z.feed.ended ≡ r.feed.ended → z.ty ≡ r.ty → z.cells ≡ r.cells → z.number ≡ r.number + 1 → z.first ≡ r.first → z.word ≡ r.word → z.size ≡ r.size
    → RawAt r bytes place cells → Judges r.ty r.number (Some (raw_value r.ty (unread r.feed))) (Ok v) → RawAt z bytes place (cells ++ w ∷ [])
raw_gives_as r z bytes place cells v w same within below fits start filled buffer ended ty count number first word size a judged =
    let P : ℤ → Type 0 = λ u. RawAt z bytes place (cells ++ u ∷ []) in
    subst P (sym same) (raw_gives r z bytes place cells v within below fits start filled buffer ended ty count number first word size a judged)

pub wider : (k : Kind) (bytes : List ℕ) (small large : ℕ) → small ≤ large → (p n : ℕ) → IsWanted k bytes small p n → IsWanted k bytes large p n
wider k bytes small large le p n w = record { number = omega (arith, w.number); size = w.size }

rest_zero : (first word cells number size : ℕ) → number ≡ cells → (min (first + word) cells - number) * size ≡ 0
rest_zero first word cells number size e = let z : min (first + word) cells - number ≡ 0 = omega arith in ap (λ k. k * size) z ∙ omega arith

-- one byte asked for behind all cells
module _ (given : ℕ) (a b : Store) (id : ℕ) (r : RawReader) (f g : Feed) (cells : List ℤ) (lt : id < given) (all : r.number ≡ r.cells) (start : f.start ≡ 0) (filled : f.filled ≡ 0) (ended : f.ended ≡ r.feed.ended) (at : RawAt r (content a id) (a.place id) cells) where
  end_none : r.feed.filled ≤ r.feed.start
  end_none = omega (arith, at.few, unread_length r.feed, rest_zero r.first r.word r.cells r.number r.size all)

  end_feeds : (t : Bool) → Fills f g (Ok t) → FillsFile given a b id 1 f g (Ok t) → (f.ended ≡ true → g.ended ≡ true) → FeedsOn g at.used (content a id) (b.place id)
  end_feeds t fills file stays = feeds_filled given a b id 1 f g (Ok t) at.used lt file stays (feeds_restart r.feed f at.used (content a id) (a.place id) end_none start filled ended at.feeds)

  end_all : length cells ≡ r.cells
  end_all = sym at.count ∙ all

  pub end_more : Fills f g (Ok true) → FillsFile given a b id 1 f g (Ok true) → FailsAfter form.Raw r.ty r.cells (content a id) cells TooMany
  end_more fills file =
      let u = end_feeds true fills file (λ e. absurd (false≢true (sym fills.1 ∙ e))) in
      let size : length (unread g) ≡ length (unread f) + length file.more = ap length file.grown ∙ length-append (unread f) file.more in
      let F = raw_more r.ty r.cells at.used cells at.raw (unread g ++ drop (b.place id) (content a id)) end_all (omega (arith, size, file.some refl, length-append (unread g) (drop (b.place id) (content a id)))) in
      let P : List ℕ → Type 0 = λ xs. FailsAfter form.Raw r.ty r.cells xs cells TooMany in
      subst P (sym u.split) F

  end_nothing : FillsFile given a b id 1 f g (Ok false) → unread g ≡ []
  end_nothing file = file.grown ∙ ap (λ (xs : List ℕ). xs ++ file.more) (used_up f (omega (arith, start, filled))) ∙ file.none (λ q. absurd (cc))

  pub end_whole : Fills f g (Ok false) → FillsFile given a b id 1 f g (Ok false) → IsWhole form.Raw r.ty r.cells (content a id) cells
  end_whole fills file =
      let u = end_feeds false fills file (λ e. fills.1) in
      let none : length (unread g ++ drop (b.place id) (content a id)) ≡ 0 = length-append (unread g) (drop (b.place id) (content a id)) ∙ omega (arith, ap length (end_nothing file), ap length (u.end fills.1)) in
      let F = raw_whole r.ty r.cells at.used cells at.raw (unread g ++ drop (b.place id) (content a id)) end_all none in
      let P : List ℕ → Type 0 = λ xs. IsWhole form.Raw r.ty r.cells xs cells in
      subst P (sym u.split) F

  pub end_at : (z : RawReader) → z.feed ≡ g → z.ty ≡ r.ty → z.cells ≡ r.cells → z.number ≡ r.number → Fills f g (Ok false) → FillsFile given a b id 1 f g (Ok false) → RawAt z (content a id) (b.place id) cells
  end_at z feed ty count number fills file =
      let P : IntType → Type 0 = λ t. IsRawOf t r.cells at.used cells in
      let Q : ℕ → Type 0 = λ n. IsRawOf z.ty n at.used cells in
      let R : Feed → Type 0 = λ x. FeedsOn x at.used (content a id) (b.place id) in
      record {
        used = at.used;
        feeds = subst R (sym feed) (end_feeds false fills file (λ e. fills.1));
        raw = subst Q (sym count) (subst P (sym ty) at.raw);
        count = number ∙ at.count;
        few = (let none : length (unread z.feed) ≡ 0 = ap (λ x. length (unread x)) feed ∙ ap length (end_nothing file) in omega arith);
      }
