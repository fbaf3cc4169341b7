use Rattle.std.proofs.Common.{ℕ, List, Bool, true, false, cond, ◌≡◌, ◌+◌, ◌<◌, ◌++◌, [], ◌∷◌, get_or, length, length-set, length-append, take, slice_index, pos, ap, ◌∙◌, rules}
use Rattle.std.proofs.lemmas.List.{get_or-replicate, length-replicate}
use Rattle.delay_net.specs.Limits.{most_tensors}
use Rattle.delay_net.specs.Certificate.{sum_read, is_read}
use Rattle.delay_net.specs.declared.net.Read.{Read}
use Rattle.flow_solve.proofs.StartLemmas.{amounts_more, marks_more, sum_at_none}
use Rattle.flow_solve.proofs.start.first_amounts.Goals as goal

pub loop-read-init : goal.loop-read-init
loop-read-init c = record {
  size = search rules;
  marks = length-replicate {A = Bool} most_tensors false;
  told = λ t. ap (λ (l : List ℕ). sum_read t [] l) c.new-amounts.ensures.items ∙ sum_at_none (λ r. r.of) t [];
  met = λ t lt. get_or-replicate {A = Bool} most_tensors t false false lt;
}

pub loop-read-preserved : goal.loop-read-preserved
loop-read-preserved c =
    let reads = c.reads-read-items.result.now in
    let weights = c.weights-weights.result.now in
    let i = c.loop-read.read-index in
    let d : Read = record { reader = 0; of = 0; offset = pos 0 } in
    let of : ℕ = (get_or reads i d).of in
    let x = c.first_amount-amount.result in
    let in_table : of < most_tensors = search rules in
    let amount : x ≡ cond (is_read (take i reads) of) 0 (slice_index weights of) =
    c.first_amount-amount.ensures ∙ ap (λ b. cond b 0 (get_or weights of 0)) (c.loop-read.invariant.met of in_table) in
    let items : c.push.new.self.items ≡ c.loop-read.amounts.items ++ x ∷ [] = c.in_ok-push.ensures.items in
    record {
      size = ap length items ∙ length-append c.loop-read.amounts.items (x ∷ []) ∙ ap (λ n. n + 1) c.loop-read.invariant.size;
      marks = length-set c.loop-read.met of true ∙ c.loop-read.invariant.marks;
      told = λ t. ap (λ (l : List ℕ). sum_read t (take (i + 1) reads) l) items
          ∙ amounts_more weights reads c.loop-read.amounts.items i x t d c.loop-read.invariant.size c.loop-read-test.true amount (c.loop-read.invariant.told t);
      met = λ t lt. marks_more reads c.loop-read.met i t d c.loop-read-test.true (rw c.loop-read.invariant.marks in_table) (c.loop-read.invariant.met t lt);
    }
