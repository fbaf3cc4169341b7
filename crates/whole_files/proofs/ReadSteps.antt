-- One more read.
use Rattle.std.proofs.Common.{◌≡◌, ◌≢◌, ◌+◌, ◌<◌, ◌≤◌, ℕ, List, [], ◌∷◌, ◌++◌, length, take, drop, Option, Some, Result, Ok, Err, refl, sym, ap, subst, ◌∙◌, arith, append_assoc, unwrap_or, length-append}
use Rattle.std.proofs.lemmas.List.{append-nil, length-take, take-append-le}
use Rattle.std.proofs.lemmas.List.Elements.{All-push}
use Rattle.soda_io.specs.declared.error.IoErr.{IoErr}
use Rattle.soda_io.specs.declared.error.IoErr.TheVariants.{Failed, Memory}
use Rattle.soda_io.specs.declared.call.FileCall.{FileCall}
use Rattle.soda_io.specs.declared.call.FileCall.TheVariants.{Read}
use Rattle.soda_io.specs.Store.{Store, KeepsIds, KeepsBytes, content, left, Reads}
use Rattle.whole_files.specs.declared.reading.ReadFail.{ReadFail}
use Rattle.whole_files.specs.declared.reading.ReadFail.TheVariants as fail
use Rattle.whole_files.specs.Journal.{IsGot}
use Rattle.whole_files.specs.Reading.{ReadsWhole, TakesUpTo, last_read}
use Rattle.whole_files.specs.Machine.SoFar.{Took}
use Rattle.whole_files.proofs.JournalLaws.{reads_of, last_reads, last_read_fails}

-- the clause of a call, at a number and a result that are equal
pub at : (m given asked : ℕ) (b c : Store) (id : ℕ) (buf : List ℕ) (r s : Result ℕ IoErr) → m ≡ given → r ≡ s → Reads m b c id asked buf r → Reads given b c id asked buf s
at m given asked b c id buf r s same_given same_result reads =
    let P : ℕ → Type 0 = λ n. Reads n b c id asked buf r in
    let R : Result ℕ IoErr → Type 0 = λ x. Reads given b c id asked buf x in
    subst R same_result (subst P same_given reads)

pub took_none : (given : ℕ) (s : Store) (id : ℕ) → Took given s s id []
took_none given s id = record {
  ids = record { name = λ k lt. refl; opened = λ k lt. refl };
  bytes = λ n. refl;
  others = λ k lt ne. refl;
  got = refl;
  place = omega arith;
  entries = [];
  gots = λ k d lt. absurd (omega arith);
  calls = sym (append-nil s.calls);
}

pub keeps_both : (given : ℕ) (a b c : Store) → KeepsIds given a b → KeepsIds given b c → KeepsIds given a c
keeps_both given a b c first second = record { name = λ k lt. second.name k lt ∙ first.name k lt; opened = λ k lt. second.opened k lt ∙ first.opened k lt }

pub took_more : (given : ℕ) (a b c : Store) (id asked n : ℕ) (xs buf : List ℕ) → Took given a b id xs → Reads given b c id asked buf (Ok n) → 0 < n → n ≤ length buf → Took given a c id (xs ++ take n buf)
took_more given a b c id asked n xs buf t r some few = record {
  ids = keeps_both given a b c t.ids r.ids;
  bytes = λ q. r.bytes q ∙ t.bytes q;
  others = λ k lt ne. r.others k lt ne ∙ t.others k lt ne;
  got = t.got ∙ ap (λ (ys : List ℕ). xs ++ ys) r.got ∙ sym (append_assoc xs (take n buf) (left c id));
  place = omega (arith, r.place, t.place, length-append xs (take n buf), length-take n buf);
  entries = t.entries ++ Read id asked (Some n) ∷ [];
  gots = All-push (IsGot id) t.entries (Read id asked (Some n)) t.gots (refl, some);
  calls = r.calls ∙ ap (λ (es : List FileCall). es ++ Read id asked (Some n) ∷ []) t.calls ∙ append_assoc a.calls t.entries (Read id asked (Some n) ∷ []);
}

pub took_length : (given : ℕ) (a b : Store) (id : ℕ) (xs : List ℕ) → Took given a b id xs → length (left a id) ≡ length xs + length (left b id)
took_length given a b id xs t = ap (λ (ys : List ℕ). length ys) t.got ∙ length-append xs (left b id)

-- what was copied from the front of a buffer
pub copied : (n : ℕ) (xs buf rest ys : List ℕ) → n ≤ length buf → ys ≡ xs ++ take n (buf ++ rest) → ys ≡ xs ++ take n buf
copied n xs buf rest ys le is = is ∙ ap (λ (zs : List ℕ). xs ++ zs) (take-append-le n buf rest le)

-- what is left of an id whose name, bytes and place stay
same_left : (b z : Store) (id : ℕ) → z.name id ≡ b.name id → KeepsBytes b z → z.place id ≡ b.place id → left z id ≡ left b id
same_left b z id name bytes place =
    let same : content z id ≡ content b id = ap (λ (q : List ℕ). unwrap_or (z.bytes q) []) name ∙ ap (λ (o : Option (List ℕ)). unwrap_or o []) (bytes (b.name id)) in
    ap (λ (p : ℕ). drop p (content z id)) place ∙ ap (λ (xs : List ℕ). drop (b.place id) xs) same

module _ (given most : ℕ) (a b : Store) (id : ℕ) (xs : List ℕ) (lt : id < given) (t : Took given a b id xs) where
  -- the reads have ended with this answer, and its last read moved no place
  ended : (z : Store) (asked : ℕ) (result : Result (List ℕ) ReadFail) → KeepsIds given b z → KeepsBytes b z → ((k : ℕ) → k < given → k ≢ id → z.place k ≡ b.place k)
      → left b id ≡ left z id → z.place id ≡ b.place id → z.calls ≡ b.calls ++ last_read id asked result → TakesUpTo most xs result → ReadsWhole given a z id most result
  ended z asked result ids bytes others still stays calls amount = record {
    ids = keeps_both given a b z t.ids ids;
    bytes = λ q. bytes q ∙ t.bytes q;
    others = λ k below ne. others k below ne ∙ t.others k below ne;
    taken = xs;
    got = t.got ∙ ap (λ (ys : List ℕ). xs ++ ys) still;
    place = stays ∙ t.place;
    amount = amount;
    entries = t.entries;
    asked = asked;
    gots = t.gots;
    calls = calls ∙ ap (λ (es : List FileCall). es ++ last_read id asked result) t.calls ∙ append_assoc a.calls t.entries (last_read id asked result);
    reads = reads_of id t.entries (last_read id asked result) t.gots (last_reads id asked result);
    fails = last_read_fails id asked t.entries t.gots result;
  }

  -- no read came after those that got some bytes
  pub stopped : (result : Result (List ℕ) ReadFail) → last_read id 0 result ≡ [] → TakesUpTo most xs result → ReadsWhole given a b id most result
  stopped result none amount =
      ended b 0 result (record { name = λ k below. refl; opened = λ k below. refl }) (λ q. refl) (λ k below ne. refl) refl refl
      (sym (append-nil b.calls) ∙ ap (λ (es : List FileCall). b.calls ++ es) (sym none)) amount

  module _ (c : Store) (asked : ℕ) (buf : List ℕ) where
    pub failed : Reads given b c id asked buf (Err Failed) → length xs ≤ most → ReadsWhole given a c id most (Err fail.Failed)
    failed r few = ended c asked (Err fail.Failed) r.ids r.bytes r.others (sym (same_left b c id (r.ids.name id lt) r.bytes r.err)) r.err r.calls few

    pub no_memory : Reads given b c id asked buf (Err Memory) → length xs ≤ most + 1 → ReadsWhole given a c id most (Err fail.Memory)
    no_memory r few = ended c asked (Err fail.Memory) r.ids r.bytes r.others (sym (same_left b c id (r.ids.name id lt) r.bytes r.err)) r.err r.calls few

    pub at_end : Reads given b c id asked buf (Ok 0) → length xs ≤ most → ReadsWhole given a c id most (Ok xs)
    at_end r few = ended c asked (Ok xs) r.ids r.bytes r.others r.got (omega (arith, r.place)) r.calls (refl, few)

    pub whole : Reads given b c id asked buf (Ok 0) → xs ≡ left a id
    whole r = sym (t.got ∙ ap (λ (ys : List ℕ). xs ++ ys) (r.end.0 refl) ∙ append-nil xs)
