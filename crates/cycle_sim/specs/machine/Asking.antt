-- What one run of firings asks of the files and then another, and what a stop leaves last behind a run.
use Rattle.std.proofs.Common.{◌≡◌, ◌≢◌, ℕ, Bool, true, false, List, [], ◌∷◌, ◌++◌, Option, Some, refl, sym, ap, subst, ◌∙◌, append_assoc, ⊎_elim}
use Rattle.std.proofs.lemmas.Bool.{cases_Bool, false≢true}
use Rattle.std.proofs.lemmas.List.{append-nil}
use Rattle.std.proofs.lemmas.List.Elements.{All-append, All-nil, All-weaker}
use Rattle.soda_io.specs.Store.{Store}
use Rattle.soda_io.specs.declared.call.FileCall.{FileCall}
use Rattle.soda_io.specs.declared.call.FileCall.TheVariants.{Create, Open, Read, Write}
use Rattle.whole_files.specs.Journal.{NoneAfterEnd, NoneAfterFailed, gots}
use Rattle.whole_files.proofs.CallerLemmas.{ends_behind, gots-append, none_after_end-append, none_after_failed-append, none_failed}
use Rattle.cycle_sim.specs.Stations.{station_at, written_by}
use Rattle.cycle_sim.specs.Using.{Ends, IsUseOf, ReadsUp, Uses, has_ended, read_by}
use Rattle.cycle_sim.specs.declared.stations.Station.{Station}

-- no read
pub reads_none : (b : Bool) → ReadsUp b b []
reads_none b = record {
  quiet = λ e. refl;
  stays = λ e. e;
  end = tt;
  going = λ e. All-nil (λ g. g ≢ Some 0);
  met = λ e f. absurd (false≢true (sym e ∙ f));
}

-- reads after others
reads_both : (a b c : Bool) (gs hs : List (Option ℕ)) → ReadsUp a b gs → ReadsUp b c hs → ReadsUp a c (gs ++ hs)
reads_both a b c gs hs one two =
    let over : b ≡ true → gs ++ hs ≡ gs = λ e. ap (λ xs. gs ++ xs) (two.quiet e) ∙ append-nil gs in
    record {
      quiet = λ e. over (one.stays e) ∙ one.quiet e;
      stays = λ e. two.stays (one.stays e);
      end = ⊎_elim
          (λ e. subst NoneAfterEnd (sym (over e)) one.end)
          (λ e. none_after_end-append gs hs (one.going e) two.end)
          (cases_Bool b);
      going = λ e. ⊎_elim
          (λ f. absurd (false≢true (sym e ∙ two.stays f)))
          (λ f. All-append (λ g. g ≢ Some 0) gs hs (one.going f) (two.going e))
          (cases_Bool b);
      met = λ e f. ⊎_elim
          (λ is. let m = one.met e is in (m.0, over is ∙ m.1))
          (λ is. let m = two.met is f in (gs ++ m.0, ap (λ xs. gs ++ xs) m.1 ∙ sym (append_assoc gs m.0 (Some 0 ∷ []))))
          (cases_Bool b);
    }

-- no call
pub no_uses : {U : Type 0} (store : Store) (stations : List (Station U)) (stopped : Bool) → Uses store store stations stations stopped stopped
no_uses store stations stopped = record {
  entries = [];
  calls = sym (append-nil store.calls);
  own = All-nil (λ e. (m : ℕ) × IsUseOf (station_at stations m) e);
  failed = tt;
  stopped = λ ends. absurd ends;
  quiet = λ e. refl;
  reads = λ m i e. reads_none (has_ended (station_at stations m));
}

-- a call by a module of the same ids
same_use : {U : Type 0} (a b : Station U) → read_by b ≡ read_by a → written_by b ≡ written_by a → (e : FileCall) → IsUseOf b e → IsUseOf a e
same_use a b r w (Open name id) is = is
same_use a b r w (Create name id) is = is
same_use a b r w (Read id asked got) is = sym r ∙ is
same_use a b r w (Write id given taken) is = sym w ∙ is

-- one run of firings after another, before which the modules had the same ids
module _ {U : Type 0} (x y z : Store) (before mid after : List (Station U)) (j k l : Bool)
    (readers : (m : ℕ) → read_by (station_at mid m) ≡ read_by (station_at before m))
    (writers : (m : ℕ) → written_by (station_at mid m) ≡ written_by (station_at before m))
    (first : j ≡ true → k ≡ true) (second : k ≡ true → l ≡ true) where
  pub uses_both : Uses x y before mid j k → Uses y z mid after k l → Uses x z before after j l
  uses_both one two =
      let all : List FileCall = one.entries ++ two.entries in
      let over : k ≡ true → all ≡ one.entries = λ e. ap (λ es. one.entries ++ es) (two.quiet e) ∙ append-nil one.entries in
      let fine = λ (e : k ≡ false). none_failed one.entries one.failed (λ ends. false≢true (sym e ∙ one.stopped ends)) in
      record {
        entries = all;
        calls = two.calls ∙ ap (λ es. es ++ two.entries) one.calls ∙ append_assoc x.calls one.entries two.entries;
        own = All-append (λ e. (m : ℕ) × IsUseOf (station_at before m) e) one.entries two.entries one.own
            (All-weaker (λ e. (m : ℕ) × IsUseOf (station_at mid m) e) (λ e. (m : ℕ) × IsUseOf (station_at before m) e)
            (λ e is. (is.0, same_use (station_at before is.0) (station_at mid is.0) (readers is.0) (writers is.0) e is.1)) two.entries two.own);
        failed = ⊎_elim
            (λ e. subst NoneAfterFailed (sym (over e)) one.failed)
            (λ e. none_after_failed-append one.entries two.entries (fine e) two.failed)
            (cases_Bool k);
        stopped = λ ends. ⊎_elim
            (λ e. second e)
            (λ e. two.stopped (ends_behind one.entries two.entries (fine e) ends))
            (cases_Bool k);
        quiet = λ e. over (first e) ∙ one.quiet e;
        reads = λ m i is.
            let P : List (Option ℕ) → Type 0 = ReadsUp (has_ended (station_at before m)) (has_ended (station_at after m)) in
            subst P (sym (gots-append i one.entries two.entries))
            (reads_both (has_ended (station_at before m)) (has_ended (station_at mid m)) (has_ended (station_at after m)) (gots i one.entries) (gots i two.entries)
            (one.reads m i is) (two.reads m i (readers m ∙ is)));
      }

-- what was asked until a stop, behind a run in which no call failed
pub ends_since : {U : Type 0} (x y z : Store) (before mid : List (Station U)) (j : Bool) (id : ℕ) (failed : Type 0) → Uses x y before mid j false
    → Ends y z id failed → Ends x z id failed
ends_since x y z before mid j id failed one two =
    let fine = none_failed one.entries one.failed (λ ends. false≢true (one.stopped ends)) in
    record {
      entries = one.entries ++ two.entries;
      calls = two.calls ∙ ap (λ es. es ++ two.entries) one.calls ∙ append_assoc x.calls one.entries two.entries;
      so = λ f.
          let e = two.so f in
          record {
            before = one.entries ++ e.before;
            last = e.last;
            are = ap (λ es. one.entries ++ es) e.are ∙ sym (append_assoc one.entries e.before (e.last ∷ []));
            failed = e.failed;
            by = e.by;
          };
      only = λ ends. two.only (ends_behind one.entries two.entries fine ends);
    }
