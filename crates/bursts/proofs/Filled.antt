-- One read into a buffer, and the bytes of a file that are used.
use Rattle.std.proofs.Common.{◌≡◌, ◌≢◌, ℕ, ◌+◌, ◌-◌, ◌<◌, ◌≤◌, Bool, true, false, if◌then◌else◌, List, [], ◌∷◌, ◌++◌, length, take, drop, Option, Some, None, Result, Ok, Err, unwrap_or, refl, sym, ap, subst, ◌∙◌, arith, append_assoc, length-append, length-drop}
use Rattle.std.proofs.lemmas.Bool.{false≢true}
use Rattle.std.proofs.lemmas.List.{append-nil, drop-append-le, drop-take, length-take, length-take-le, take-append-le}
use borrow.Rule.Slice.PartMut.{post_of}
use lib.Seq.{take-append-add}
use Rattle.soda_io.specs.Store.{Store, KeepsIds, KeepsBytes, Reads, content, left}
use Rattle.soda_io.specs.declared.error.IoErr.{IoErr}
use Rattle.soda_io.specs.declared.error.IoErr.TheVariants as io
use Rattle.soda_io.specs.declared.call.FileCall.{FileCall}
use Rattle.soda_io.specs.declared.call.FileCall.TheVariants.{Read}
use Rattle.array_bytes.specs.declared.fault.CellFault.{CellFault}
use Rattle.array_bytes.specs.declared.fault.CellFault.TheVariants.{Failed, Memory}
use Rattle.bursts.specs.Machine.Feeds.{FeedsOn, Fills, FillsFile, end_entry, fill_entry, unread}
use Rattle.bursts.specs.declared.feed.Feed.{Feed}

-- what isn't used after more was read behind it
pub grown : (xs buf post : List ℕ) (start filled n : ℕ) → start ≤ filled → filled ≤ length xs → n ≤ length buf
    → take (filled + n - start) (drop start (take filled xs ++ (buf ++ post))) ≡ take (filled - start) (drop start xs) ++ take n buf
grown xs buf post start filled n le room few =
    let m : ℕ = filled - start in
    let own : List ℕ = take m (drop start xs) in
    let whole : filled ≡ start + m = omega arith in
    let front : drop start (take filled xs) ≡ own = ap (λ k. drop start (take k xs)) whole ∙ drop-take start m xs in
    let size : length own ≡ m = length-take-le m (drop start xs) (omega (arith, length-drop start xs)) in
    let count : filled + n - start ≡ length own + n = omega arith in
    ap (λ (ys : List ℕ). take (filled + n - start) ys) (drop-append-le start (take filled xs) (buf ++ post) (omega (arith, length-take-le filled xs room)) ∙ ap (λ (ys : List ℕ). ys ++ (buf ++ post)) front)
    ∙ ap (λ k. take k (own ++ (buf ++ post))) count
    ∙ take-append-add own (buf ++ post) n
    ∙ ap (λ (ys : List ℕ). own ++ ys) (take-append-le n buf post few)

-- what isn't used stays where nothing more was read
pub same_unread : (xs buf post : List ℕ) (start filled : ℕ) → start ≤ filled → filled ≤ length xs → take (filled - start) (drop start (take filled xs ++ (buf ++ post))) ≡ take (filled - start) (drop start xs) ++ []
same_unread xs buf post start filled le room =
    let z : filled - start ≡ filled + 0 - start = omega arith in
    ap (λ k. take k (drop start (take filled xs ++ (buf ++ post)))) z ∙ grown xs buf post start filled 0 le room (omega arith)

-- what is left of an id whose bytes and place stay
same_left : (given : ℕ) (a b : Store) (id : ℕ) → id < given → KeepsIds given a b → KeepsBytes a b → b.place id ≡ a.place id → left a id ≡ left b id
same_left given a b id lt ids bytes place =
    let same : content b id ≡ content a id = ap (λ (q : List ℕ). unwrap_or (b.bytes q) []) (ids.name id lt) ∙ ap (λ (o : Option (List ℕ)). unwrap_or o []) (bytes (a.name id)) in
    sym (ap (λ p. drop p (content b id)) place ∙ ap (λ (xs : List ℕ). drop (a.place id) xs) same)

-- what an id's file holds stays where ids and bytes do
pub same_content : (given : ℕ) (a b : Store) (id : ℕ) → id < given → KeepsIds given a b → KeepsBytes a b → content b id ≡ content a id
same_content given a b id lt ids bytes = ap (λ (q : List ℕ). unwrap_or (b.bytes q) []) (ids.name id lt) ∙ ap (λ (o : Option (List ℕ)). unwrap_or o []) (bytes (a.name id))

-- what a fill does to the files, where it got these bytes and the end was met or not, before and after
pub record GotBytes (given : ℕ) (old new : Store) (id asked : ℕ) (before after : Bool) (more : List ℕ) (result : Result Bool CellFault) : Type 0 where
  pub ids : KeepsIds given old new
  pub bytes : KeepsBytes old new
  pub others : (k : ℕ) → k < given → k ≢ id → new.place k ≡ old.place k
  pub some : result ≡ Ok true → 0 < length more
  pub none : result ≢ Ok true → more ≡ []
  pub got : left old id ≡ more ++ left new id
  pub place : new.place id ≡ old.place id + length more
  pub end : before ≡ false → after ≡ true → left new id ≡ []
  pub calls : new.calls ≡ old.calls ++ fill_entry id asked before (length more) result

module _ (given : ℕ) (a b : Store) (id asked most : ℕ) (buf : List ℕ) (before : Bool) (size : asked ≡ most) (going : before ≡ false) where
  pub read_some : (n : ℕ) → Reads given a b id asked buf (Ok n) → (n ≡ 0 → ⊥) → n ≤ length buf → GotBytes given a b id most before before (take n buf) (Ok true)
  read_some n r some few =
      let count : length (take n buf) ≡ n = length-take-le n buf few in
      record {
        ids = r.ids;
        bytes = r.bytes;
        others = r.others;
        some = λ q. omega (arith, count);
        none = λ ne. absurd (ne refl);
        got = r.got;
        place = omega (arith, r.place, count);
        end = λ p q. absurd (false≢true (sym p ∙ q));
        calls = r.calls ∙ ap (λ k. a.calls ++ Read id k (Some n) ∷ []) size ∙ ap (λ k. a.calls ++ Read id most (Some k) ∷ []) (sym count);
      }

  pub read_end : Reads given a b id asked buf (Ok 0) → GotBytes given a b id most before true [] (Ok false)
  read_end r = record {
    ids = r.ids;
    bytes = r.bytes;
    others = r.others;
    some = λ q. absurd (cc);
    none = λ ne. refl;
    got = r.got;
    place = r.place;
    end = λ p q. sym r.got ∙ r.end.0 refl;
    calls = r.calls ∙ ap (λ k. a.calls ++ Read id k (Some 0) ∷ []) size ∙ ap (λ t. a.calls ++ end_entry id most t) (sym going);
  }

  pub read_failed : id < given → Reads given a b id asked buf (Err io.Failed) → GotBytes given a b id most before before [] (Err Failed)
  read_failed lt r = record {
    ids = r.ids;
    bytes = r.bytes;
    others = r.others;
    some = λ q. absurd (cc);
    none = λ ne. refl;
    got = same_left given a b id lt r.ids r.bytes r.err;
    place = omega (arith, r.err);
    end = λ p q. absurd (false≢true (sym p ∙ q));
    calls = r.calls ∙ ap (λ k. a.calls ++ Read id k None ∷ []) size;
  }

  pub read_refused : id < given → Reads given a b id asked buf (Err io.Memory) → GotBytes given a b id most before before [] (Err Memory)
  read_refused lt r = record {
    ids = r.ids;
    bytes = r.bytes;
    others = r.others;
    some = λ q. absurd (cc);
    none = λ ne. refl;
    got = same_left given a b id lt r.ids r.bytes r.err;
    place = omega (arith, r.err);
    end = λ p q. absurd (false≢true (sym p ∙ q));
    calls = r.calls;
  }

nil_both : (xs ys : List ℕ) → [] ≡ xs ++ ys → ys ≡ []
nil_both [] ys e = sym e
nil_both (x ∷ xs) ys e = absurd (cc)

-- the bytes of a file after a fill
pub feeds_filled : (given : ℕ) (a b : Store) (id asked : ℕ) (f g : Feed) (result : Result Bool CellFault) (used : List ℕ) → id < given → FillsFile given a b id asked f g result
    → (f.ended ≡ true → g.ended ≡ true) → FeedsOn f used (content a id) (a.place id) → FeedsOn g used (content a id) (b.place id)
feeds_filled given a b id asked f g result used lt x stays u =
    let same : content b id ≡ content a id = same_content given a b id lt x.ids x.bytes in
    let behind : drop (a.place id) (content a id) ≡ x.more ++ drop (b.place id) (content a id) = x.got ∙ ap (λ (xs : List ℕ). x.more ++ drop (b.place id) xs) same in
    record {
      split =
          u.split ∙ ap (λ (xs : List ℕ). used ++ (unread f ++ xs)) behind
          ∙ ap (λ (xs : List ℕ). used ++ xs) (sym (append_assoc (unread f) x.more (drop (b.place id) (content a id))))
          ∙ ap (λ (xs : List ℕ). used ++ (xs ++ drop (b.place id) (content a id))) (sym x.grown);
      at = x.place ∙ (let more : length (unread g) ≡ length (unread f) + length x.more = ap length x.grown ∙ length-append (unread f) x.more in omega (arith, u.at));
      end = λ q. by f.ended refl q;
    }
  where
    by : (t : Bool) → f.ended ≡ t → g.ended ≡ true → drop (b.place id) (content a id) ≡ []
    by true p q =
        let same : content b id ≡ content a id = same_content given a b id lt x.ids x.bytes in
        nil_both x.more (drop (b.place id) (content a id)) (sym (u.end p) ∙ x.got ∙ ap (λ (xs : List ℕ). x.more ++ drop (b.place id) xs) same)
    by false p q =
        let same : content b id ≡ content a id = same_content given a b id lt x.ids x.bytes in
        sym (ap (λ (xs : List ℕ). drop (b.place id) xs) same) ∙ x.end p q

-- a read's clause at the result that was met
pub met : (given asked : ℕ) (b c : Store) (id : ℕ) (buf : List ℕ) (r s : Result ℕ IoErr) → r ≡ s → Reads given b c id asked buf r → Reads given b c id asked buf s
met given asked b c id buf r s same reads = let R : Result ℕ IoErr → Type 0 = λ x. Reads given b c id asked buf x in subst R same reads

-- the room that is read into
pub asked_size : (xs : List ℕ) (filled most : ℕ) → filled + most ≤ length xs → length (take (filled + most - filled) (drop filled xs)) ≡ most
asked_size xs filled most room = length-take-le (filled + most - filled) (drop filled xs) (omega (arith, length-drop filled xs)) ∙ omega arith

-- a buffer keeps its length
pub put_size : (xs buf : List ℕ) (filled most : ℕ) → filled + most ≤ length xs → length buf ≡ most → length (take filled xs ++ (buf ++ post_of filled (filled + most - filled) xs)) ≡ length xs
put_size xs buf filled most room size =
    let post : List ℕ = post_of filled (filled + most - filled) xs in
    let behind : length post ≡ length xs - filled - most = length-drop (filled + most - filled) (drop filled xs) ∙ omega (arith, length-drop filled xs) in
    length-append (take filled xs) (buf ++ post) ∙ omega (arith, length-append buf post, length-take-le filled xs (omega arith), behind)
