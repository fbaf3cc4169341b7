-- Behind the lines of a program: what the lines of a plan tell is a plan, and where they stop the text is refused.
use Rattle.std.proofs.Common.{◌≡◌, ℕ, suc, ◌+◌, List, [], ◌∷◌, ◌++◌, length, take, slice_index, sym, ap, subst, ◌∙◌, codes, arith, append-nil, length-append, Result, Ok, Err, IfOk, OnOk, Option, None, Some, MatchOption}
use Rattle.std.proofs.lemmas.List.{take_all}
use Rattle.delay_net.specs.Certificate.{Fits}
use Rattle.delay_net.specs.Windows.{MeetsWindows, age, at_least_0, storage_of, total_storage}
use Rattle.delay_net.specs.declared.net.Read.{Read}
use Rattle.design_lines.specs.Lines.{GoesOn, program_lines}
use Rattle.design_lines.specs.PlanLines.{numbered, plan_lines, read_line, read_lines, tensor_line, tensor_lines, total_line}
use Rattle.design_reader.specs.Refused.{HasReads, HasTensors, IsRefusedBehind, at_network, at_read, at_total, design_of, lines_before, past_end}
use Rattle.design_reader.specs.Stops.{IfRefused, IsReadStop, IsStop}
use Rattle.design_reader.specs.Told.{AreReadsTold, AreStorages, told_reads, told_tensors}
use Rattle.design_reader.specs.declared.fail.TextFail.{TextFail}
use Rattle.design_reader.specs.declared.fail.TextFail.TheVariants.{Refused, Memory}
use Rattle.design_reader.specs.machine.Pieces.{IsDesignBehind, IsEndStop, IsPlanTold, within, past}
use Rattle.design_reader.proofs.Stopping.{two_parts}
use Rattle.design_reader.proofs.Telling.{count_numbered, numbered_same}
use Rattle.module_text.specs.Designs.{Held, IsDesign, plain_design}
use Rattle.module_text.specs.Texts.{Version, design_lines, lines_behind, lines_to_total, version_1}
use Rattle.net_build.specs.Limits.{limit_passed}
use Rattle.net_build.specs.Planned.{plan_of}
use Rattle.net_build.proofs.CallerLemmas.{widths_length}
use Rattle.soda_ir.specs.Program.{PlainProgram, plain}
use Rattle.soda_print.specs.Canonical.{ended}
use Rattle.time_stages.specs.Staged.{staged_reads, staged_tensors, staged_widths}

-- the first as many are all
pub whole : {A : Type 0} (xs : List A) (n : ℕ) → n ≡ length xs → take n xs ≡ xs
whole xs n e = take_all n xs (omega arith)

-- a refusal tells more
pub refused_more : {A : Type 0} (r : Result A TextFail) (P Q : ℕ → Type 0) → ((n : ℕ) → P n → Q n) → IfRefused r P → IfRefused r Q
refused_more (Ok a) P Q f h = tt
refused_more (Err (Refused n)) P Q f h = f n h
refused_more (Err Memory) P Q f h = tt

-- there is a delay for each tensor of the net
pub net_assigned : (p : PlainProgram) (text ds ss rest weights : List ℕ) → HasTensors p text ds ss rest → weights ≡ staged_widths p → length ds ≡ length weights
net_assigned p text ds ss rest weights h w = h.all ∙ sym (widths_length p) ∙ ap length (sym w)

pub net_meets : (reads : List Read) (ds hold need : List ℕ) → AreReadsTold reads ds hold need → length hold ≡ length reads → MeetsWindows reads ds
net_meets reads ds hold need t e = subst (λ rs. MeetsWindows rs ds) (whole reads (length hold) e) t.meets

-- refused at a read
pub at_net_read : (v : Version) (p : PlainProgram) (text ds ss rest : List ℕ) (reads : List Read) (before line : ℕ) → HasTensors p text ds ss rest → reads ≡ staged_reads p
    → before ≡ lines_before p + length ds → IsReadStop reads ds rest before line → IsRefusedBehind v p text line
at_net_read v p text ds ss rest reads before line h e m s =
    at_read ds ss rest h (subst (λ rs. IsReadStop rs ds rest (lines_before p + length ds) line) e (subst (λ b. IsReadStop reads ds rest b line) m s))

-- the reads are there
pub net_reads : (p : PlainProgram) (ds middle hold need last : List ℕ) (reads : List Read) → reads ≡ staged_reads p → AreReadsTold reads ds hold need
    → length hold ≡ length reads → middle ≡ ended (told_reads reads ds hold need) ++ last → HasReads p ds middle hold need last
net_reads p ds middle hold need last reads e t all is = record {
  told = subst (λ rs. AreReadsTold rs ds hold need) e t;
  all = all ∙ ap length e;
  text_is = is ∙ ap (λ rs. ended (told_reads rs ds hold need) ++ last) e;
}

-- refused at the total
pub at_net_total : (v : Version) (p : PlainProgram) (text ds ss hold need middle last weights : List ℕ) (reads : List Read) (lines : ℕ) → HasTensors p text ds ss middle
    → HasReads p ds middle hold need last → weights ≡ staged_widths p → reads ≡ staged_reads p
    → (AreStorages reads ds ss → Fits weights reads ds hold need → GoesOn (total_line (total_storage weights reads ds) ∷ []) last → ⊥)
    → lines ≡ suc (lines_before p + length ds + length hold) → IsRefusedBehind v p text lines
at_net_total v p text ds ss hold need middle last weights reads lines h k w e none number =
    let N : List ℕ → List Read → Type 0 =
    λ ws rs. AreStorages rs ds ss → Fits ws rs ds hold need → GoesOn (total_line (total_storage ws rs ds) ∷ []) last → ⊥ in
    let none' = subst (N (staged_widths p)) e (subst (λ ws. N ws reads) w none) in
    subst (IsRefusedBehind v p text) (sym number) (at_total ds ss hold need middle last h k (λ t. none' t.ages t.fits t.line))

-- the lines of a plan are told
pub net_plan : (p : PlainProgram) (text ds ss hold need middle last rest weights : List ℕ) (reads : List Read) (lines : ℕ) → HasTensors p text ds ss middle
    → HasReads p ds middle hold need last → weights ≡ staged_widths p → reads ≡ staged_reads p → AreStorages reads ds ss → Fits weights reads ds hold need
    → last ≡ (total_line (total_storage weights reads ds) ++ codes "\n") ++ rest → lines ≡ suc (lines_before p + length ds + length hold)
    → IsPlanTold p text ds hold need rest lines
net_plan p text ds ss hold need middle last rest weights reads lines h k w e ages fits is number = record {
  storages = ss;
  middle = middle;
  last = last;
  tensors = h;
  reads = k;
  ages = subst (λ rs. AreStorages rs ds ss) e ages;
  fits = subst (λ rs. Fits (staged_widths p) rs ds hold need) e (subst (λ ws. Fits ws reads ds hold need) w fits);
  last_is = is ∙ ap (λ ws. (total_line (total_storage ws reads ds) ++ codes "\n") ++ rest) w
      ∙ ap (λ rs. (total_line (total_storage (staged_widths p) rs ds) ++ codes "\n") ++ rest) e;
  number = number;
}

-- the line of the total follows, and what stands before it fits
abbrev pub FollowsTotal : (weights : List ℕ) → List Read → (ds ss hold need last rest : List ℕ) → Type 0
FollowsTotal weights reads ds ss hold need last rest =
    AreStorages reads ds ss × Fits weights reads ds hold need × (last ≡ (total_line (total_storage weights reads ds) ++ codes "\n") ++ rest)

-- it does not
abbrev pub NoTotal : (weights : List ℕ) → List Read → (ds ss hold need last : List ℕ) → Type 0
NoTotal weights reads ds ss hold need last =
    AreStorages reads ds ss → Fits weights reads ds hold need → GoesOn (total_line (total_storage weights reads ds) ∷ []) last → ⊥

-- what is known of the total holds of equal lists
pub same_lists : (F : (ds ss hold need : List ℕ) → Type 0) (ds ss hold need a b c d : List ℕ) → ds ≡ a → ss ≡ b → hold ≡ c → need ≡ d → F ds ss hold need → F a b c d
same_lists F ds ss hold need a b c d e f g h x =
    subst (λ n. F a b c n) h (subst (λ n. F a b n need) g (subst (λ n. F a n hold need) f (subst (λ n. F n ss hold need) e x)))

-- the lines of all staged tensors, where the storages are the greatest ages
pub tensors_are : (p : PlainProgram) (ds ss : List ℕ) → length ds ≡ length (staged_tensors p) → length ss ≡ length ds → AreStorages (staged_reads p) ds ss
    → told_tensors p ds ss ≡ tensor_lines p ds
tensors_are p ds ss all many ages =
    let f : ℕ → _ → List ℕ = λ n s. tensor_line p n s (slice_index ds n) (slice_index ss n) in
    let g : ℕ → _ → List ℕ = λ n s. tensor_line p n s (slice_index ds n) (storage_of (staged_reads p) ds n) in
    ap (numbered f 0) (whole (staged_tensors p) (length ds) all)
    ∙ numbered_same f g 0 (staged_tensors p) (λ n s low high. ap (tensor_line p n s (slice_index ds n)) (ages n (omega arith)))

-- the lines of all reads
pub reads_are : (p : PlainProgram) (ds hold need : List ℕ) → length hold ≡ length (staged_reads p) → told_reads (staged_reads p) ds hold need ≡ read_lines p ds hold need
reads_are p ds hold need all =
    ap (numbered (λ n r. read_line n r (at_least_0 (age ds r)) (slice_index hold n) (slice_index need n)) 0) (whole (staged_reads p) (length hold) all)

-- the text of a plan that is told
pub plan_text : (p : PlainProgram) (text ds hold need rest : List ℕ) (lines : ℕ) → IsPlanTold p text ds hold need rest lines
    → text ≡ ended (plan_lines p ds hold need) ++ rest
plan_text p text ds hold need rest lines h =
    let t = total_line (total_storage (staged_widths p) (staged_reads p) ds) in
    let first : text ≡ ended (tensor_lines p ds) ++ h.middle =
    h.tensors.text_is ∙ ap (λ ws. ended ws ++ h.middle) (tensors_are p ds h.storages h.tensors.all h.tensors.told.as_many h.ages) in
    let second : h.middle ≡ ended (read_lines p ds hold need) ++ h.last =
    h.reads.text_is ∙ ap (λ ws. ended ws ++ h.last) (reads_are p ds hold need h.reads.all) in
    let third : h.last ≡ ended (t ∷ []) ++ rest = h.last_is ∙ ap (λ (z : List ℕ). z ++ rest) (sym (append-nil (t ++ codes "\n"))) in
    two_parts (tensor_lines p ds) (read_lines p ds hold need ++ t ∷ []) text h.middle rest first
    (two_parts (read_lines p ds hold need) (t ∷ []) h.middle h.last rest second third)

-- a plan that is told is an assignment, and meets the windows
pub plan_assigned : (p : PlainProgram) (text ds hold need rest : List ℕ) (lines : ℕ) → IsPlanTold p text ds hold need rest lines → length ds ≡ length (staged_widths p)
plan_assigned p text ds hold need rest lines h = h.tensors.all ∙ sym (widths_length p)

pub plan_meets : (p : PlainProgram) (text ds hold need rest : List ℕ) (lines : ℕ) → IsPlanTold p text ds hold need rest lines → MeetsWindows (staged_reads p) ds
plan_meets p text ds hold need rest lines h = net_meets (staged_reads p) ds hold need h.reads.told h.reads.all

-- how many lines stand before those of the network
pub to_total : (v : Version) (p : PlainProgram) (ds hold need : List ℕ) → length ds ≡ length (staged_tensors p) → length hold ≡ length (staged_reads p)
    → suc (lines_before p + length ds + length hold) ≡ length (lines_to_total v (design_of p ds hold need))
to_total v p ds hold need all every =
    let t = total_line (total_storage (staged_widths p) (staged_reads p) ds) in
    let a : length (tensor_lines p ds) ≡ length (staged_tensors p) =
    count_numbered (λ n s. tensor_line p n s (slice_index ds n) (storage_of (staged_reads p) ds n)) 0 (staged_tensors p) in
    let b : length (read_lines p ds hold need) ≡ length (staged_reads p) =
    count_numbered (λ n r. read_line n r (at_least_0 (age ds r)) (slice_index hold n) (slice_index need n)) 0 (staged_reads p) in
    let c = length-append (program_lines p) (plan_lines p ds hold need) in
    let d = length-append (tensor_lines p ds) (read_lines p ds hold need ++ t ∷ []) in
    let e = length-append (read_lines p ds hold need) (t ∷ []) in
    omega (arith, a, b, c, d, e, all, every)

-- an option is not both
pub none_or_some : {A : Type 0} (o : Option A) (x : A) → o ≡ Some x → o ≡ None → ⊥
none_or_some o x some none = subst (λ p. MatchOption p ⊥ (λ y. Unit {0})) (sym some ∙ none) tt

-- refused behind the total
pub at_end : (v : Version) (p : PlainProgram) (text ds hold need rest : List ℕ) (before line : ℕ) → IsDesign (design_of p ds hold need)
    → text ≡ ended (plan_lines p ds hold need) ++ rest → before ≡ length (lines_to_total v (design_of p ds hold need))
    → IsEndStop (lines_behind v (design_of p ds hold need)) rest before line → IsRefusedBehind v p text line
at_end v p text ds hold need rest before line design is m (within s) =
    at_network ds hold need rest design is (subst (λ b. IsStop (lines_behind v (design_of p ds hold need)) rest b line) m s)
at_end v p text ds hold need rest before line design is m (past byte more e) =
    let d = design_of p ds hold need in
    let size : suc (length (design_lines v d)) ≡ suc (before + length (lines_behind v d)) =
    omega (arith, m, length-append (lines_to_total v d) (lines_behind v d)) in
    subst (IsRefusedBehind v p text) size
    (past_end ds hold need byte more design (two_parts (plan_lines p ds hold need) (lines_behind v d) text rest (byte ∷ more) is e))

-- a limit that is passed is refused at the total
pub at_limit : (v : Version) (p : PlainProgram) (text ds hold need rest : List ℕ) (lines : ℕ) → IsPlanTold p text ds hold need rest lines
    → (limit_passed (plan_of p ds) ≡ None → ⊥) → IsRefusedBehind v p text lines
at_limit v p text ds hold need rest lines h passed =
    subst (IsRefusedBehind v p text) (sym h.number) (at_total ds h.storages hold need h.middle h.last h.tensors h.reads (λ t. passed t.within))

-- a design whose network is told
pub told_design : (r : Result Held TextFail) (design : Held) (text rest : List ℕ) → IfOk r (λ d. d ≡ design)
    → OnOk r (rest ≡ ended (lines_behind version_1 (plain_design design))) → IsDesign (plain_design design)
    → text ≡ ended (plan_lines (plain design.program) design.delays design.hold design.need) ++ rest → IfOk r (λ d. IsDesignBehind text (plain_design d))
told_design (Err e) design text rest same behind is plan = tt
told_design (Ok d) design text rest same behind is plan =
    let p = plain design.program in
    let a = plan_lines p design.delays design.hold design.need in
    let b = lines_behind version_1 (plain_design design) in
    let all : text ≡ ended (a ++ b) = two_parts a b text rest [] plan (behind ∙ sym (append-nil (ended b))) ∙ append-nil (ended (a ++ b)) in
    subst (λ e. IsDesignBehind text (plain_design e)) (sym same) (record { design = is; text_is = all })
