-- Writes by one id, one after the other.
use Rattle.std.proofs.Common.{◌≡◌, ℕ, ◌<◌, List, [], ◌++◌, Result, Ok, All, IsErrOf, refl, sym, ap, subst, ◌∙◌, append_assoc}
use Rattle.std.proofs.lemmas.List.{append-nil}
use Rattle.std.proofs.lemmas.List.Elements.{All-append, All-nil}
use Rattle.soda_io.specs.Store.{Store}
use Rattle.soda_io.specs.declared.error.IoErr.{IoErr}
use Rattle.soda_io.specs.declared.error.IoErr.TheVariants as io
use Rattle.soda_io.specs.declared.call.FileCall.{FileCall}
use Rattle.whole_files.specs.Journal.{IsWriteBy}
use Rattle.whole_files.specs.Writing.{WritesWhole, last_write}
use Rattle.bursts.specs.Blocks.{WritesOn}
use Rattle.whole_files.proofs.CallerLemmas.{NotFailed, ends_behind, ends_with, none_after_failed-append, none_failed}

-- an Ok is no error
pub ok_never : (u : Unit {0}) (e : IoErr) → IsErrOf (Ok u) e → ⊥
ok_never u e is = cc

-- nothing was written
pub no_write : (given : ℕ) (s : Store) (id : ℕ) (u : Unit {0}) → WritesOn given s s id (Ok u)
no_write given s id u = record {
  ids = record { name = λ k lt. refl; opened = λ k lt. refl };
  places = λ k lt. refl;
  others = λ n ne. refl;
  entries = [];
  calls = sym (append-nil s.calls);
  writes = record { own = All-nil (IsWriteBy id); failed = tt };
  failed = (λ is. ok_never u io.Failed is, λ ends. absurd ends);
}

-- some bytes were written whole
pub whole_write : (given : ℕ) (a b : Store) (id : ℕ) (bytes : List ℕ) (r : Result (Unit {0}) IoErr) → WritesWhole given a b id bytes r
    → WritesOn given a b id r
whole_write given a b id bytes r w = record {
  ids = w.ids;
  places = w.places;
  others = w.others;
  entries = w.entries ++ last_write id _ r;
  calls = w.calls;
  writes = w.writes;
  failed = w.fails;
}

-- more writes after some of which none failed
pub writes_then : (given : ℕ) (a b c : Store) (id : ℕ) (u : Unit {0}) (r : Result (Unit {0}) IoErr) → id < given → WritesOn given a b id (Ok u)
    → WritesOn given b c id r → WritesOn given a c id r
writes_then given a b c id u r lt x y =
    let good : All NotFailed x.entries = none_failed x.entries x.writes.failed (λ ends. ok_never u io.Failed (x.failed.1 ends)) in
    record {
      ids = record { name = λ k below. y.ids.name k below ∙ x.ids.name k below; opened = λ k below. y.ids.opened k below ∙ x.ids.opened k below };
      places = λ k below. y.places k below ∙ x.places k below;
      others = λ n ne. y.others n (λ e. ne (e ∙ x.ids.name id lt)) ∙ x.others n ne;
      entries = x.entries ++ y.entries;
      calls = y.calls ∙ ap (λ (es : List FileCall). es ++ y.entries) x.calls ∙ append_assoc a.calls x.entries y.entries;
      writes = record {
        own = All-append (IsWriteBy id) x.entries y.entries x.writes.own y.writes.own;
        failed = none_after_failed-append x.entries y.entries good y.writes.failed;
      };
      failed = (λ is. ends_with x.entries y.entries (y.failed.0 is), λ ends. y.failed.1 (ends_behind x.entries y.entries good ends));
    }

-- the same at numbers that are equal
pub writes_more : (given n : ℕ) (a b c : Store) (id k : ℕ) (u : Unit {0}) (r : Result (Unit {0}) IoErr) → id < given → n ≡ given → k ≡ id
    → WritesOn given a b id (Ok u) → WritesOn n b c k r
    → WritesOn given a c id r
writes_more given n a b c id k u r lt same same_id x y =
    let P : ℕ → Type 0 = λ m. WritesOn m b c k r in
    let Q : ℕ → Type 0 = λ j. WritesOn given b c j r in
    writes_then given a b c id u r lt x (subst Q same_id (subst P same y))
