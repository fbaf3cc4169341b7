-- Filled widths, from the sums that the code has.
use Rattle.std.proofs.Common.{◌≡◌, ℕ, ◌+◌, ◌<◌, ◌≤◌, Bool, true, false, eqb, List, [], ◌∷◌, length, get_or, ◌||◌, subst, sym, ◌∙◌, arith, ⊎_elim}
use Rattle.std.specs.List.{All, AllByRecursion}
use Rattle.std.proofs.lemmas.Bool.{false≢true, cases_eq}
use Rattle.std.proofs.lemmas.Bool.Decides.{nat_tests}
use Rattle.std.proofs.lemmas.List.Elements.{recursion_from_All}
use Rattle.delay_net.specs.Limits.{most_tensors}
use Rattle.delay_net.specs.Certificate.{FillsWidths, sum_read, sum_reading, is_read, width_if_read}
use Rattle.delay_net.specs.declared.net.Read.{Read}
use Rattle.delay_net.proofs.CallerLemmas.{sum_read_is}

-- what holds of what each read reads holds of each tensor that is read
read_by_some : (P : ℕ → Type 0) (reads : List Read) (tensor : ℕ) → AllByRecursion (λ read. P read.of) reads → is_read reads tensor ≡ true → P tensor
read_by_some P [] tensor all is = absurd (false≢true is)
read_by_some P (r ∷ reads) tensor all is =
    ⊎_elim (λ here. subst P here all.0) (λ elsewhere. read_by_some P reads tensor all.1 (later (eqb r.of tensor) _ (not_here elsewhere) is))
    (cases_eq r.of tensor)
  where
    not_here : (r.of ≡ tensor → ⊥) → eqb r.of tensor ≡ false
    not_here h = grind (arith, nat_tests)

    later : (b t : Bool) → b ≡ false → (b || t) ≡ true → t ≡ true
    later true t e h = absurd (false≢true (sym e))
    later false t e h = h

-- it suffices to look at what each read reads
pub filled_from_reads : (held weights : List ℕ) (reads : List Read) (hold : List ℕ) → length weights ≤ most_tensors
    → ((t : ℕ) → t < most_tensors → get_or held t 0 ≡ sum_read t reads hold)
    → All (λ read. get_or held read.of 0 ≡ get_or weights read.of 0) reads
    → FillsWidths weights reads hold
filled_from_reads held weights reads hold few sums all = λ t lt is.
    sym (sums t (omega arith)) ∙ read_by_some (λ t. get_or held t 0 ≡ get_or weights t 0) reads t (recursion_from_All _ reads all) is

-- where the widths are filled, the holds of a tensor's reads are its width, if it is read
pub right_side : (weights : List ℕ) (reads : List Read) (hold need : List ℕ) (t needs_in holds_out : ℕ) → FillsWidths weights reads hold → t < length weights
    → needs_in ≡ sum_reading t reads need → holds_out ≡ sum_read t reads hold
    → needs_in + holds_out ≡ sum_reading t reads need + width_if_read weights reads t
right_side weights reads hold need t needs_in holds_out filled lt e e' =
    omega (arith, sum_read_is weights reads hold t (filled t lt))
