-- No two designs have one text.
use Rattle.std.proofs.Common.{◌≡◌, ℕ, ◌<◌, ◌≤◌, ◌^◌, List, [], ◌∷◌, ◌++◌, length, slice_index, refl, sym, ap, subst, ◌∙◌, codes, arith, append_assoc}
use Rattle.std.proofs.lemmas.Grind.{flat_map-append}
use Rattle.std.proofs.lemmas.List.{append_cancel_left}
use Rattle.delay_net.specs.Windows.{age, at_least_0, storage_of, total_storage}
use Rattle.delay_net.specs.declared.net.Read.{Read}
use Rattle.module_text.specs.Designs.{IsDesign, PlainDesign}
use Rattle.soda_ir.specs.Program.{PlainProgram}
use Rattle.soda_parse.proofs.CallerLemmas.{alone}
use Rattle.soda_print.specs.Canonical.{canonical, ended}
use Rattle.design_lines.specs.PlanLines.{numbered, read_line, read_lines, tensor_line, tensor_lines, total_line}
use Rattle.time_stages.specs.declared.staging.StagedTensor.{StagedTensor}
use Rattle.time_stages.specs.Staged.{staged_reads, staged_tensors, staged_widths}
use Rattle.std.specs.List.{All}
use Rattle.design_lines.specs.Lines.{program_lines}
use Rattle.net_build.proofs.CallerLemmas.{widths_length}
use Rattle.module_text.specs.Texts.{IsDesignText, Version, design_text, lines_behind}
use Rattle.design_lines.proofs.CallerLemmas.{numbered_apart, read_apart, same_list, small_at, tensor_apart}
use Rattle.design_lines.proofs.CallerLemmas.{AreAlone, program_apart}

-- what follows the lines of the reads
abbrev pub from_total : Version → PlainDesign → List ℕ
from_total v d = ended (total_line (total_storage (staged_widths d.program) (staged_reads d.program) d.delays) ∷ lines_behind v d)

lines_flat : (first t : List ℕ) (a b c d : List (List ℕ)) → ended (first ∷ ((a ++ (b ++ (c ++ t ∷ []))) ++ d))
    ≡ (first ++ codes "\n") ++ (ended a ++ (ended b ++ (ended c ++ ended (t ∷ d))))
lines_flat first t a b c d = simp (flat_map-append, append_assoc)

-- a text of a design, part by part
pub text_flat : (v : Version) (d : PlainDesign) → design_text v d ≡ (v.first ++ codes "\n") ++ (ended (program_lines d.program)
    ++ (ended (tensor_lines d.program d.delays) ++ (ended (read_lines d.program d.delays d.hold d.need) ++ from_total v d)))
unfolding design_text
text_flat v d =
    lines_flat v.first (total_line (total_storage (staged_widths d.program) (staged_reads d.program) d.delays)) (program_lines d.program)
    (tensor_lines d.program d.delays) (read_lines d.program d.delays d.hold d.need) (lines_behind v d)

tensors_told : (p : PlainProgram) (ds es : List ℕ) (s t : ℕ → ℕ) (x y : List ℕ) → length ds ≡ length (staged_tensors p) → length es ≡ length (staged_tensors p)
    → ((n : ℕ) → slice_index ds n < 2 ^ 64) → ((n : ℕ) → slice_index es n < 2 ^ 64)
    → ended (numbered (λ n u. tensor_line p n u (slice_index ds n) (s n)) 0 (staged_tensors p)) ++ x
    ≡ ended (numbered (λ n u. tensor_line p n u (slice_index es n) (t n)) 0 (staged_tensors p)) ++ y → (ds ≡ es) × (x ≡ y)
tensors_told p ds es s t x y md me small small' e =
    let all = numbered_apart (λ n. slice_index ds n ≡ slice_index es n) (λ n (u : StagedTensor). tensor_line p n u (slice_index ds n) (s n))
    (λ n u. tensor_line p n u (slice_index es n) (t n)) 0 (staged_tensors p) x y
    (λ n u w z. tensor_apart p n u (slice_index ds n) (s n) (slice_index es n) (t n) w z (small n) (small' n)) e in
    (same_list ds es (md ∙ sym me) (λ n lt. all.0 n (omega arith) (omega arith)), all.1)

abbrev Both : List ℕ → List ℕ → List ℕ → List ℕ → ℕ → Type 0
Both hs ns gs ms n = (slice_index hs n ≡ slice_index gs n) × (slice_index ns n ≡ slice_index ms n)

reads_told : (rs : List Read) (old : Read → ℕ) (hs ns gs ms : List ℕ) (x y : List ℕ) → length hs ≡ length rs → length ns ≡ length rs → length gs ≡ length rs
    → length ms ≡ length rs → ((n : ℕ) → slice_index hs n < 2 ^ 64) → ((n : ℕ) → slice_index ns n < 2 ^ 64) → ((n : ℕ) → slice_index gs n < 2 ^ 64)
    → ((n : ℕ) → slice_index ms n < 2 ^ 64)
    → ended (numbered (λ n r. read_line n r (old r) (slice_index hs n) (slice_index ns n)) 0 rs) ++ x
    ≡ ended (numbered (λ n r. read_line n r (old r) (slice_index gs n) (slice_index ms n)) 0 rs) ++ y → (hs ≡ gs) × (ns ≡ ms) × (x ≡ y)
reads_told rs old hs ns gs ms x y mh mn mg mm sh sn sg sm e =
    let all = numbered_apart (Both hs ns gs ms) (λ n r. read_line n r (old r) (slice_index hs n) (slice_index ns n))
    (λ n r. read_line n r (old r) (slice_index gs n) (slice_index ms n)) 0 rs x y
    (λ n r w z h. let told = read_apart n r (old r) (slice_index hs n) (slice_index ns n) (slice_index gs n) (slice_index ms n) w z (sh n) (sn n) (sg n) (sm n) h in
    ((told.0, told.1), told.2)) e in (
      same_list hs gs (mh ∙ sym mg) (λ n lt. (all.0 n (omega arith) (omega arith)).0),
      same_list ns ms (mn ∙ sym mm) (λ n lt. (all.0 n (omega arith) (omega arith)).1),
      all.1,
    )

short_at : (xs : List ℕ) (n bound : ℕ) → slice_index xs n < bound → bound ≤ 2 ^ 64 → slice_index xs n < 2 ^ 64
short_at xs n bound h le = omega arith

-- the same program, and one text of its plan, whatever follows it, and so one design
pub same_plan : (d e : PlainDesign) (x y : List ℕ) → d.program ≡ e.program → IsDesign d → IsDesign e
    → ended (tensor_lines d.program d.delays) ++ (ended (read_lines d.program d.delays d.hold d.need) ++ x)
    ≡ ended (tensor_lines d.program e.delays) ++ (ended (read_lines d.program e.delays e.hold e.need) ++ y)
    → (d ≡ e) × (x ≡ y)
same_plan d e x y same hd he h =
    let p = d.program in
    let P : PlainProgram → Type 0 = λ q. (length e.delays ≡ length (staged_widths q)) × (length e.hold ≡ length (staged_reads q)) × (length e.need ≡ length (staged_reads q)) in
    let many : P p = subst P (sym same) (he.assignment, he.holds, he.needs) in
    let small : (n : ℕ) → slice_index d.delays n < 2 ^ 64 = λ n. short_at d.delays n (2 ^ 62) (small_at (2 ^ 62) d.delays n (omega arith) hd.short) (omega arith) in
    let small' : (n : ℕ) → slice_index e.delays n < 2 ^ 64 = λ n. short_at e.delays n (2 ^ 62) (small_at (2 ^ 62) e.delays n (omega arith) he.short) (omega arith) in
    let fits : (xs : List ℕ) → All (λ x. x < 2 ^ 32) xs → (n : ℕ) → slice_index xs n < 2 ^ 64 =
    λ xs all n. short_at xs n (2 ^ 32) (small_at (2 ^ 32) xs n (omega arith) all) (omega arith) in
    let first = tensors_told p d.delays e.delays (storage_of (staged_reads p) d.delays) (storage_of (staged_reads p) e.delays)
    (ended (read_lines p d.delays d.hold d.need) ++ x) (ended (read_lines p e.delays e.hold e.need) ++ y)
    (hd.assignment ∙ widths_length p) (many.0 ∙ widths_length p) small small' h in
    let later : ended (read_lines p d.delays d.hold d.need) ++ x ≡ ended (read_lines p d.delays e.hold e.need) ++ y =
    first.1 ∙ ap (λ ds. ended (read_lines p ds e.hold e.need) ++ y) (sym first.0) in
    let told = reads_told (staged_reads p) (λ r. at_least_0 (age d.delays r)) d.hold d.need e.hold e.need x y
    hd.holds hd.needs many.1 many.2 (fits d.hold hd.small_holds) (fits d.need hd.small_needs) (fits e.hold he.small_holds) (fits e.need he.small_needs) later in
    let D : PlainProgram → List ℕ → List ℕ → List ℕ → PlainDesign = λ q ds hs ns. record { program = q; delays = ds; hold = hs; need = ns } in (
      ap (λ q. D q d.delays d.hold d.need) same ∙ ap (λ ds. D e.program ds d.hold d.need) first.0 ∙ ap (λ hs. D e.program e.delays hs d.need) told.0
          ∙ ap (λ ns. D e.program e.delays e.hold ns) told.1,
      told.2,
    )

-- no two written programs have one canonical text
pub each_alone : AreAlone
each_alone p q hp hq same = alone (canonical q) q p hq.valid hq.sized refl hp.valid hp.sized same

-- no two designs have one text
pub one_design : (v : Version) (bytes : List ℕ) (d e : PlainDesign) → IsDesignText v bytes d → IsDesignText v bytes e → d ≡ e
one_design v bytes d e hd he =
    let rest : PlainDesign → PlainProgram → List ℕ = λ c q. ended (tensor_lines q c.delays) ++ (ended (read_lines q c.delays c.hold c.need) ++ from_total v c) in
    let both : (v.first ++ codes "\n") ++ (ended (program_lines d.program) ++ rest d d.program) ≡ (v.first ++ codes "\n") ++ (ended (program_lines e.program) ++ rest e e.program) =
    sym (text_flat v d) ∙ (sym hd.text ∙ (he.text ∙ text_flat v e)) in
    let behind_first = append_cancel_left (v.first ++ codes "\n") (ended (program_lines d.program) ++ rest d d.program) (ended (program_lines e.program) ++ rest e e.program) both in
    let programs = program_apart each_alone d.program e.program (rest d d.program) (rest e e.program) hd.program he.program behind_first in
    (same_plan d e (from_total v d) (from_total v e) programs.0 hd.design he.design (programs.1 ∙ ap (rest e) (sym programs.0))).0
