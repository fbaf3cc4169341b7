-- A run that asks for no file.
use Rattle.std.proofs.Common.{◌≡◌, ◌≢◌, ℕ, Bool, true, false, [], Option, Some, None, refl, sym, ap, subst, ◌∙◌, arith, inl}
use Rattle.soda_io.specs.Store.{Store}
use Rattle.job_files.specs.Contents.{Holding}
use Rattle.job_files.proofs.CallerLemmas.{begin, created_names, holds_none}
use Rattle.command_words.specs.Orders.{Asked}
use Rattle.job_status.specs.declared.status.Status.{Status}
use Rattle.job_status.specs.declared.status.Status.TheVariants as is
use Rattle.array_bytes.specs.declared.fault.CellFault.{CellFault}
use Rattle.job_status.specs.declared.status.ArrayFault.TheVariants as of
use Rattle.sodac_cli.specs.Correct.{Runs}
use Rattle.sodac_cli.specs.Due.{DueFor, DueIf, MayAskFor, MayAskIf, asks_none}
use Rattle.job_status.specs.Endings.{Ending, due, ending_of, out_fault}
use Rattle.sodac_cli.specs.Journal.{AsksBy, ReadsFewFor, in_order}
use Rattle.sodac_cli.specs.Outputs.{AreOutputs, Leaves}
use Rattle.sodac_cli.specs.Work.{is_built}
use Rattle.sodac_cli.proofs.Few.{few_none}

may_none : (h : Holding) (asked : Option Asked) → MayAskFor h asked []
may_none h None = refl
may_none h (Some a) = elim (is_built a) as (λ b. MayAskIf b h a []) [ true ↦ asks_none refl | false ↦ refl ]

few : (asked : Option Asked) → ReadsFewFor asked (λ n. 0)
few None = tt
few (Some a) = few_none a

module _ (first : ℕ) (begun : Store) (asked : Option Asked) where
  untouched : Leaves begun begun asked
  untouched = record {
    outputs = [];
    holds = holds_none begun.bytes;
    made = λ entries calls. created_names first begun [] 0 (λ n. 0) first begun (begin first begun) entries calls;
    are = elim asked as (λ o. AreOutputs begun.bytes o []) [ None ↦ refl | Some a ↦ inl refl ];
  }

  ends : (s : Status) → ending_of s ≡ due → DueFor begun.bytes asked [] s → s ≢ is.Ok → ((k : ℕ) (f : CellFault) → s ≢ is.Array (of.Cell k f)) → Runs first begun asked first begun s
  ends s ending d not_ok not_cell =
      let P : Ending → Type 0 = λ e. AsksBy first begun asked first begun e s in
      record {
        journal = subst P (sym ending) (record {
          files = [];
          due = d;
          asks = record { ended = 0; places = λ n. 0; went = in_order (begin first begun) (λ e. refl); few = few asked; program = λ ne. omega arith; texts = λ ne also more. omega arith };
        });
        files = untouched;
        delivered = λ e. absurd (not_ok e);
        whole = λ e. let other : due ≡ out_fault = sym ending ∙ ap ending_of e in absurd (cc);
        at_end = λ k f e. absurd (not_cell k f e);
      }

  -- the words aren't taken
  pub untaken_runs : asked ≡ None → Runs first begun asked first begun is.Usage
  untaken_runs none = let P : Option Asked → Type 0 = λ o. DueFor begun.bytes o [] is.Usage in
      ends is.Usage refl (subst P (sym none) (refl, refl)) (λ e. absurd (cc)) (λ k f e. absurd (cc))

  -- memory was refused before any file
  pub memory_unasked : Runs first begun asked first begun is.Memory
  memory_unasked = record {
    journal = inl (record {
      made = [];
      may = may_none begun.bytes asked;
      ended = 0;
      places = λ n. 0;
      went = in_order (begin first begun) (λ e. absurd (cc));
      few = few asked;
    });
    files = untouched;
    delivered = λ e. absurd (cc);
    whole = λ e. absurd (cc);
    at_end = λ k f e. absurd (cc);
  }

-- what is asked for isn't built
pub unbuilt_runs : (first : ℕ) (begun : Store) (a : Asked) → is_built a ≡ false → Runs first begun (Some a) first begun is.NotYetBuilt
unbuilt_runs first begun a unbuilt =
    let P : Bool → Type 0 = λ b. DueIf b begun.bytes a [] is.NotYetBuilt in
    ends first begun (Some a) is.NotYetBuilt refl (subst P (sym unbuilt) (refl, refl)) (λ e. absurd (cc)) (λ k f e. absurd (cc))
