-- One status alone is due, over one list of files.
use Rattle.std.proofs.Common.{◌≡◌, ℕ, Bool, true, false, List, Option, Some, None, ℤ, [], ◌∷◌, option_map, refl, sym, ap, subst, ◌∙◌}
use Rattle.std.proofs.lemmas.Option.{same_Some}
use Rattle.soda_words.specs.Limits.{most_text}
use Rattle.soda_ir.specs.Program.{PlainParam, PlainProgram, input_types}
use Rattle.soda_eval.specs.Runs.{cells_at}
use Rattle.delay_net.specs.declared.net.Read.{Read}
use Rattle.time_stages.specs.Staged.{staged_reads, staged_widths}
use Rattle.flow_solve.specs.LeastPlan.{IsLeastPlan}
use Rattle.net_build.specs.Limits.{limit_passed}
use Rattle.net_build.specs.Planned.{plan_of}
use Rattle.array_bytes.specs.declared.fault.CellFault.{CellFault}
use Rattle.param_lines.specs.Params.{GivesParams, RefusesLine}
use Rattle.job_program.specs.Spoken.{RefusesProgram, SpeaksOf}
use Rattle.soda_parse.specs.declared.refusal.Refusal.{Refusal}
use Rattle.job_files.specs.Contents.{Holding}
use Rattle.job_files.specs.Files.{JobFile}
use Rattle.command_words.specs.Orders.{Asked}
use Rattle.job_status.specs.declared.status.ArrayFault.TheVariants as of
use Rattle.job_status.specs.declared.status.Status.{Status}
use Rattle.job_status.specs.declared.status.Status.TheVariants as is
use Rattle.sodac_cli.specs.Due.{DueAfter, DueBehind, DueBy, DueFor, DueIf, DueOf, DueOver, DueStreamed, DueWith, FirstRefusal, RefusalAt, RefusalBehind, Stage, accepted, bad_params, by_limits, by_names, by_network, done, faulty, good_params, limit_status, refused, run, stages_of, wrong_params, wrong_stalls}
use Rattle.sodac_cli.specs.Work.{HasParamsBy, HasProgram, Product, RefusesParamsBy, array_files, form_of, input_names, is_built, makes, module_file, no_files, program_of, rows_of, streamed_files}
use Rattle.sim_lines.specs.declared.stall.Stall.{Stall}
use Rattle.sim_course.specs.Meeting.{MeetsFirst}
use Rattle.sodac_cli.specs.Simulated.{ComesTo}
use Rattle.sodac_cli.proofs.OneRun.{comes_one, stall_line_one, stalls_one, stalls_or_line}
use Rattle.sodac_cli.proofs.ArrayLaws.{fault_or_arrays, faults_one}

-- over the inputs
over_one : (h : Holding) (a : Asked) (p : PlainProgram) (s t : Status) → DueOver h a p s → DueOver h a p t → s ≡ t
over_one h a p s t (done arrays has) (done others had) = refl
over_one h a p s t (done arrays has) (faulty there k f fault) =
    absurd (fault_or_arrays h (form_of a) (cells_at p (rows_of a)) (input_types p.tensors) (input_names a p) k f arrays fault has)
over_one h a p s t (faulty there k f fault) (done arrays has) =
    absurd (fault_or_arrays h (form_of a) (cells_at p (rows_of a)) (input_types p.tensors) (input_names a p) k f arrays fault has)
over_one h a p s t (faulty there k f fault) (faulty here l g other) =
    let same = faults_one h (form_of a) (cells_at p (rows_of a)) (input_types p.tensors) (input_names a p) k l f g fault other in
    ap (λ (i : ℕ). is.Array (of.Cell i f)) same.0 ∙ ap (λ (x : CellFault). is.Array (of.Cell l x)) same.1

-- a params file gives one list of values at most, is refused at one line at most, and never does both
module _ (values_one : (ps : List PlainParam) (bytes : List ℕ) (v w : List ℤ) → GivesParams ps bytes v → GivesParams ps bytes w → v ≡ w)
    (line_one : (ps : List PlainParam) (bytes : List ℕ) (k l : ℕ) → RefusesLine ps bytes k → RefusesLine ps bytes l → k ≡ l)
    (never_both : (ps : List PlainParam) (bytes : List ℕ) (v : List ℤ) (l : ℕ) → GivesParams ps bytes v → RefusesLine ps bytes l → ⊥)
    (h : Holding) (p : PlainProgram) where
  lines_by : (o : Option (List ℕ)) (k l : ℕ) → RefusesParamsBy o h p k → RefusesParamsBy o h p l → k ≡ l
  lines_by None k l x y = x.1 ∙ sym y.1
  lines_by (Some name) k l x y =
      let P : List ℕ → Type 0 = λ bytes. RefusesLine p.params bytes l in
      line_one p.params x.0 k l x.2 (subst P (same_Some y.0 x.0 (sym y.1 ∙ x.1)) y.2)

  never_by : (o : Option (List ℕ)) (v : List ℤ) (l : ℕ) → HasParamsBy o h p v → RefusesParamsBy o h p l → ⊥
  never_by None v l x y = y.0 x.0
  never_by (Some name) v l x y =
      let P : List ℕ → Type 0 = λ bytes. RefusesLine p.params bytes l in
      never_both p.params x.0 v l x.2 (subst P (same_Some y.0 x.0 (sym y.1 ∙ x.1)) y.2)

  module _ (a : Asked) where
    -- behind a program that no step refuses
    with_one : (f g : List JobFile) (s t : Status) → DueWith h a p f s → DueWith h a p g t → (s ≡ t) × (f ≡ g)
    with_one f g s t (bad_params k refuses all ends) (bad_params l gone those stops) =
        (ends ∙ ap (λ (i : ℕ). is.Array (of.Params i)) (lines_by a.params k l refuses gone) ∙ sym stops, all ∙ sym those)
    with_one f g s t (bad_params k refuses all ends) (good_params values given those over) = absurd (never_by a.params values k given refuses)
    with_one f g s t (good_params values given all over) (bad_params k refuses those ends) = absurd (never_by a.params values k given refuses)
    with_one f g s t (good_params values given all over) (good_params others also those more) = (over_one h a p s t over more, all ∙ sym those)

    -- behind a simulation's
    module _ (plans_one : (weights : List ℕ) (reads : List Read) (first second : List ℕ) → IsLeastPlan weights reads first → IsLeastPlan weights reads second → first ≡ second)
        (met_once : (p : PlainProgram) (delays : List ℕ) (n : ℕ) (flags : ℕ → List Bool) (goods : ℕ → ℕ) (cycle m input later other another : ℕ)
        → MeetsFirst p delays n flags goods cycle m input → MeetsFirst p delays n flags goods later other another
        → (cycle ≡ later) × (m ≡ other) × (input ≡ another)) where
      streamed_one : (f g : List JobFile) (s t : Status) → DueStreamed h a p f s → DueStreamed h a p g t → (s ≡ t) × (f ≡ g)
      streamed_one f g s t (wrong_params k refuses all ends) (wrong_params l gone those stops) =
          (ends ∙ ap (λ (i : ℕ). is.Array (of.Params i)) (lines_by a.params k l refuses gone) ∙ sym stops, all ∙ sym those)
      streamed_one f g s t (wrong_params k refuses all ends) (wrong_stalls values given l gone those stops) = absurd (never_by a.params values k given refuses)
      streamed_one f g s t (wrong_params k refuses all ends) (run delays values stalls ready those comes) = absurd (never_by a.params values k ready.params refuses)
      streamed_one f g s t (wrong_stalls values given l gone those stops) (wrong_params k refuses all ends) = absurd (never_by a.params values k given refuses)
      streamed_one f g s t (wrong_stalls values given k refuses all ends) (wrong_stalls others also l gone those stops) =
          (ends ∙ ap (λ (i : ℕ). is.Array (of.Stall i)) (stall_line_one h p a.stall k l refuses gone) ∙ sym stops, all ∙ sym those)
      streamed_one f g s t (wrong_stalls values given k refuses all ends) (run delays others stalls ready those comes) = absurd (stalls_or_line h p a.stall stalls k ready.listed refuses)
      streamed_one f g s t (run delays values stalls ready those comes) (wrong_params k refuses all ends) = absurd (never_by a.params values k ready.params refuses)
      streamed_one f g s t (run delays values stalls ready those comes) (wrong_stalls others given k refuses all ends) = absurd (stalls_or_line h p a.stall stalls k ready.listed refuses)
      streamed_one f g s t (run delays values stalls ready all comes) (run plan others list fit those more) =
          let same : plan ≡ delays = plans_one (staged_widths p) (staged_reads p) plan delays fit.plan ready.plan in
          let one : list ≡ stalls = stalls_one h p a.stall list stalls fit.listed ready.listed in
          let P : List ℕ → Type 0 = λ d. ComesTo a p d stalls h t in
          let Q : List Stall → Type 0 = λ l. ComesTo a p plan l h t in
          (comes_one met_once h a p delays stalls s t comes (subst P same (subst Q one more)), all ∙ sym those)

      by_one : (m : Product) (f g : List JobFile) (s t : Status) → DueBy m h a p f s → DueBy m h a p g t → (s ≡ t) × (f ≡ g)
      by_one no_files f g s t x y = (x.1 ∙ sym y.1, x.0 ∙ sym y.0)
      by_one array_files f g s t x y = with_one f g s t x y
      by_one module_file f g s t x y = (x.1 ∙ sym y.1, x.0 ∙ sym y.0)
      by_one streamed_files f g s t x y = streamed_one f g s t x y

      pub behind_one : (f g : List JobFile) (s t : Status) (o : Option Status) → DueAfter o h a p f s → DueAfter o h a p g t → (s ≡ t) × (f ≡ g)
      behind_one f g s t None x y = by_one (makes a.mode) f g s t x y
      behind_one f g s t (Some r) x y = (x.1 ∙ sym y.1, x.0 ∙ sym y.0)

-- the steps of a mode have one first refusal at most, since a program has one least plan at most
module _ (plans_one : (weights : List ℕ) (reads : List Read) (first second : List ℕ) → IsLeastPlan weights reads first → IsLeastPlan weights reads second → first ≡ second)
    (a : Asked) (p : PlainProgram) where
  at_one : (stage : Stage) (r s : Option Status) → RefusalAt stage a p r → RefusalAt stage a p s → r ≡ s
  at_one by_names r s x y = x ∙ sym y
  at_one by_network r s x y =
      let same : x.0 ≡ y.0 = plans_one (staged_widths p) (staged_reads p) x.0 y.0 x.1 y.1 in
      x.2 ∙ ap (λ (delays : List ℕ). option_map limit_status (limit_passed (plan_of p delays))) same ∙ sym y.2
  at_one by_limits r s x y = x ∙ sym y

  after_one : (Next : Option Status → Type 0) → ((r s : Option Status) → Next r → Next s → r ≡ s) → (own r s : Option Status)
      → RefusalBehind own Next r → RefusalBehind own Next s → r ≡ s
  after_one Next one None r s x y = one r s x y
  after_one Next one (Some own) r s x y = x ∙ sym y

  pub first_one : (stages : List Stage) (r s : Option Status) → FirstRefusal stages a p r → FirstRefusal stages a p s → r ≡ s
  first_one [] r s x y = x ∙ sym y
  first_one (stage ∷ stages) r s x y =
      let P : Option Status → Type 0 = λ own. RefusalBehind own (FirstRefusal stages a p) s in
      after_one (FirstRefusal stages a p) (first_one stages) x.0 r s x.2 (subst P (sym (at_one stage x.0 y.0 x.1 y.1)) y.2)

-- of a text one program at most is spoken of, it is refused for one cause at most, and never both
module _ (program : (most : ℕ) (share : Bool) (bytes : List ℕ) (p q : PlainProgram) → SpeaksOf most share bytes p → SpeaksOf most share bytes q → p ≡ q)
    (cause : (most : ℕ) (share : Bool) (bytes : List ℕ) (r s : Refusal) → RefusesProgram most share bytes r → RefusesProgram most share bytes s → r ≡ s)
    (apart : (most : ℕ) (share : Bool) (bytes : List ℕ) (p : PlainProgram) (r : Refusal) → SpeaksOf most share bytes p → RefusesProgram most share bytes r → ⊥)
    (values_one : (ps : List PlainParam) (bytes : List ℕ) (v w : List ℤ) → GivesParams ps bytes v → GivesParams ps bytes w → v ≡ w)
    (line_one : (ps : List PlainParam) (bytes : List ℕ) (k l : ℕ) → RefusesLine ps bytes k → RefusesLine ps bytes l → k ≡ l)
    (never_both : (ps : List PlainParam) (bytes : List ℕ) (v : List ℤ) (l : ℕ) → GivesParams ps bytes v → RefusesLine ps bytes l → ⊥)
    (plans_one : (weights : List ℕ) (reads : List Read) (first second : List ℕ) → IsLeastPlan weights reads first → IsLeastPlan weights reads second → first ≡ second)
    (met_once : (p : PlainProgram) (delays : List ℕ) (n : ℕ) (flags : ℕ → List Bool) (goods : ℕ → ℕ) (cycle m input later other another : ℕ)
    → MeetsFirst p delays n flags goods cycle m input → MeetsFirst p delays n flags goods later other another
    → (cycle ≡ later) × (m ≡ other) × (input ≡ another))
    (h : Holding) where
  -- the program's file holds one text
  spoken_there : (a : Asked) (p : PlainProgram) (bytes : List ℕ) → h (program_of a) ≡ Some bytes → HasProgram h a p → SpeaksOf most_text a.share bytes p
  spoken_there a p bytes there has =
      let P : List ℕ → Type 0 = λ x. SpeaksOf most_text a.share x p in
      subst P (same_Some has.text bytes (sym has.there ∙ there)) has.spoken

  pub one_program : (a : Asked) (p q : PlainProgram) → HasProgram h a p → HasProgram h a q → p ≡ q
  one_program a p q x y = program most_text a.share x.text p q x.spoken (spoken_there a q x.text x.there y)

  of_one : (a : Asked) (f g : List JobFile) (s t : Status) → DueOf h a f s → DueOf h a g t → (s ≡ t) × (f ≡ g)
  of_one a f g s t (refused text r there gone files ends) (refused other q here lost those stops) =
      let P : List ℕ → Type 0 = λ x. RefusesProgram most_text a.share x q in
      let same : r ≡ q = cause most_text a.share text r q gone (subst P (same_Some other text (sym here ∙ there)) lost) in
      (ends ∙ ap (λ (x : Refusal). is.Program x) same ∙ sym stops, files ∙ sym those)
  of_one a f g s t (refused text r there gone files ends) (accepted p has d) = absurd (apart most_text a.share text p r (spoken_there a p text there has) gone)
  of_one a f g s t (accepted p has d) (refused text r there gone files ends) = absurd (apart most_text a.share text p r (spoken_there a p text there has) gone)
  of_one a f g s t (accepted p has d) (accepted q had e) =
      let P : PlainProgram → Type 0 = λ x. DueBehind h a x g t in
      let other : DueBehind h a p g t = subst P (sym (one_program a p q has had)) e in
      let Q : Option Status → Type 0 = λ r. DueAfter r h a p g t in
      let same : d.0 ≡ other.0 = first_one plans_one a p (stages_of a.mode) d.0 other.0 d.1 other.1 in
      behind_one values_one line_one never_both h p a plans_one met_once f g s t d.0 d.2 (subst Q (sym same) other.2)

  if_one : (b : Bool) (a : Asked) (f g : List JobFile) (s t : Status) → DueIf b h a f s → DueIf b h a g t → (s ≡ t) × (f ≡ g)
  if_one true a f g s t x y = of_one a f g s t x y
  if_one false a f g s t x y = (x.1 ∙ sym y.1, x.0 ∙ sym y.0)

  pub one_due : (o : Option Asked) (f g : List JobFile) (s t : Status) → DueFor h o f s → DueFor h o g t → (s ≡ t) × (f ≡ g)
  one_due None f g s t x y = (x.1 ∙ sym y.1, x.0 ∙ sym y.0)
  one_due (Some a) f g s t x y = if_one (is_built a) a f g s t x y
