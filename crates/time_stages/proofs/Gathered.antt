-- The reads of one staged tensor more.
use Rattle.std.proofs.Common.{◌≡◌, ℕ, ◌+◌, ◌<◌, List, [], ◌∷◌, ◌++◌, length, map, get_or, slice_index_or, refl, sym, ◌∙◌, ap, add-one, ℤ}
use Rattle.std.proofs.lemmas.List.{get_or_read, length-map}
use Rattle.delay_net.specs.declared.net.Read.{Read}
use Rattle.soda_ir.specs.declared.program.Parts.{Parts}
use Rattle.soda_ir.specs.declared.reads.Read.{Read as Reading}
use Rattle.soda_ir.specs.Counts.{tensor_reads}
use Rattle.soda_ir.specs.Points.{listed}
use Rattle.soda_ir.specs.Program.{PlainProgram, plain, plain_tensor}
use Rattle.soda_ir.proofs.CallerLemmas.{same_reads}
use Rattle.time_stages.specs.declared.staging.StagedTensor.{StagedTensor}
use Rattle.time_stages.specs.Staged.{in_order, read_by, read_order, reads_of, reads_of_first}
use Rattle.time_stages.specs.pieces.Stages.{pair_read, reading_of}
use Rattle.time_stages.proofs.StagedReads.{first_more, reads_of_is, renumbered}

read_pairs : (number : ℕ) (qs : List (ℕ × ℤ)) → map (λ q. read_by number (reading_of q)) qs ≡ map (read_by number) (map reading_of qs)
read_pairs number [] = refl
read_pairs number (q ∷ qs) = ap (λ rs. read_by number (reading_of q) ∷ rs) (read_pairs number qs)

pairs_read : (p : PlainProgram) (ts : List StagedTensor) (turn : ℕ) (rs : List Reading) → map reading_of (map (pair_read p ts turn) rs) ≡ map (renumbered p ts turn) rs
pairs_read p ts turn [] = refl
pairs_read p ts turn (r ∷ rs) = ap (λ qs. renumbered p ts turn r ∷ qs) (pairs_read p ts turn rs)

pub tensor_added : (q : Parts) (ts : List StagedTensor) (number : ℕ) (s d : StagedTensor) (graph : List (List Reading)) (readings : List Reading) (pairs ordered lent : List (ℕ × ℤ)) → number < length ts → s ≡ get_or ts number s
    → graph ≡ listed (tensor_reads (plain q)) (length q.tensors) → readings ≡ slice_index_or graph s.tensor [] → pairs ≡ map (pair_read (plain q) ts s.turn) readings
    → map reading_of ordered ≡ in_order read_order (map reading_of pairs) → lent ≡ ordered
    → map (λ z. read_by number (reading_of z)) lent ≡ map (read_by number) (reads_of (plain q) ts (get_or ts number d))
tensor_added q ts number s d graph readings pairs ordered lent l is g r e o same =
    let p = plain q in
    let many : length q.tensors ≡ length p.tensors = sym (length-map q.tensors plain_tensor) in
    let reads : readings ≡ tensor_reads p s.tensor = r ∙ ap (λ (xs : List (List Reading)). slice_index_or xs s.tensor []) (g ∙ ap (listed (tensor_reads p)) many) ∙ same_reads p s.tensor in
    read_pairs number lent
    ∙ ap (λ zs. map (read_by number) (map reading_of zs)) same
    ∙ ap (map (read_by number)) (o ∙ ap (λ zs. in_order read_order (map reading_of zs)) (e ∙ ap (map (pair_read p ts s.turn)) reads)
    ∙ ap (in_order read_order) (pairs_read p ts s.turn (tensor_reads p s.tensor)) ∙ sym (reads_of_is p ts s))
    ∙ ap (λ (u : StagedTensor). map (read_by number) (reads_of p ts u)) (get_or_read ts number s l is d)

pub first_next : (p : PlainProgram) (ts : List StagedTensor) (number : ℕ) (d : StagedTensor) (before after : List Read) → number < length ts → before ≡ reads_of_first p ts number → after ≡ before ++ map (read_by number) (reads_of p ts (get_or ts number d))
    → after ≡ reads_of_first p ts (number + 1)
first_next p ts number d before after l e h =
    h ∙ ap (λ rs. rs ++ map (read_by number) (reads_of p ts (get_or ts number d))) e ∙ sym (first_more p ts number d l) ∙ sym (ap (reads_of_first p ts) (add-one number))
