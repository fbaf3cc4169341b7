-- What ends a run that asked for all files of its job.
use Rattle.std.proofs.Common.{◌≡◌, ◌≤◌, ℕ, ◌+◌, List, [], ◌++◌, length, map, Some, ℤ, refl, sym, ap, ◌∙◌, arith, append-nil}
use Rattle.std.proofs.Math.Seq.{take-length}
use Rattle.soda_io.specs.declared.call.FileCall.{FileCall}
use Rattle.soda_io.specs.declared.role.FileRole.{FileRole}
use Rattle.soda_io.specs.Store.{Store}
use Rattle.soda_ir.specs.Program.{PlainProgram}
use Rattle.job_files.specs.Contents.{Holds}
use Rattle.job_files.specs.Files.{HasRole, created_of}
use Rattle.job_files.specs.Progress.{Progress, Stuck, created}
use Rattle.job_files.proofs.CallerLemmas.{created_names, created_until}
use Rattle.command_words.specs.Orders.{Asked}
use Rattle.job_status.specs.declared.status.Status.{Status}
use Rattle.job_status.specs.declared.status.Status.TheVariants as is
use Rattle.sodac_cli.specs.Correct.{Runs}
use Rattle.sodac_cli.specs.Due.{DueOver, MayAsk, accepted, asks_arrays, good_params}
use Rattle.job_status.specs.Endings.{due, ending_of}
use Rattle.sodac_cli.specs.Journal.{ReadsFew, in_order, opened_count}
use Rattle.sodac_cli.specs.Machine.Steps.{IsJudged}
use Rattle.sodac_cli.specs.Outputs.{AreOutputs, Delivers, Leaves}
use Rattle.sodac_cli.specs.Work.{HasParams, array_files, files_of, output_names, text_count}
use Rattle.sodac_cli.proofs.Begun.{due_with, not_streamed, runs_due, runs_fault, runs_memory}
use Rattle.sodac_cli.proofs.Numbered.{created_files, texts_counted}

-- its outputs hold these bytes
module _ (first : ℕ) (begun : Store) (a : Asked) (p : PlainProgram) (values : List ℤ) (judged : IsJudged begun.bytes a p)
    (params : HasParams begun.bytes a p values) (given : ℕ) (now : Store) (outputs : List (List ℕ × List ℕ))
    (names : map (λ o. o.0) outputs ≡ output_names a p) (holds : Holds begun.bytes now.bytes outputs) (are : AreOutputs begun.bytes (Some a) outputs)
    (ended : ℕ) (places : ℕ → ℕ) (few : ReadsFew a places) where
  leaves_all : ((entries : List FileCall) → now.calls ≡ begun.calls ++ entries → created entries ≡ created_of (files_of a p)) → Leaves begun now (Some a)
  leaves_all made = record {
    outputs = outputs;
    holds = holds;
    made = λ entries calls. made entries calls ∙ created_files a p ∙ sym names;
    are = are;
  }

  may : MayAsk begun.bytes a (files_of a p)
  may = asks_arrays judged.arrays p judged.program judged.pass.none values params [] (sym (append-nil (files_of a p)))

  pub all_fault : (role : FileRole) (number : ℕ) → HasRole (files_of a p) number role → given ≡ first + length (files_of a p)
      → Stuck first begun (files_of a p) ended number places given now → Runs first begun (Some a) given now (is.FileFault role)
  all_fault role number has count stuck =
      let leaves = leaves_all (λ entries calls.
      created_until first begun (files_of a p) ended number places given now stuck entries calls (length (files_of a p)) count
      ∙ ap created_of (take-length (files_of a p))) in
      runs_fault first begun a given now judged.built leaves (files_of a p) may ended places few role number has stuck

  module _ (progress : Progress first begun (files_of a p) ended places given now) where
    leaves : Leaves begun now (Some a)
    leaves = leaves_all (created_names first begun (files_of a p) ended places given now progress)

    pub all_memory : Runs first begun (Some a) given now is.Memory
    all_memory = runs_memory first begun a given now judged.built leaves (files_of a p) may ended places few progress

    pub all_due : (status : Status) → ending_of status ≡ due → text_count a ≤ ended → (status ≡ is.Ok → ended ≡ opened_count (files_of a p))
        → DueOver begun.bytes a p status → (status ≡ is.Ok → Delivers begun.bytes now.bytes (Some a)) → Runs first begun (Some a) given now status
    all_due status ending some all over delivered =
        runs_due first begun a given now judged.built leaves (files_of a p) status ending
        (accepted p judged.program (due_with begun.bytes a p (files_of a p) status judged.pass.none judged.arrays (good_params values params refl over)))
        (record {
          ended = ended;
          places = places;
          went = in_order progress all;
          few = few;
          program = λ ne. omega (arith, some);
          texts = λ ne also more. omega (arith, some, texts_counted a p);
        }) delivered (λ k f e. not_streamed begun.bytes now.bytes a array_files judged.arrays (λ e. absurd (cc)))
