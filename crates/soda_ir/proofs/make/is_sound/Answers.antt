use Rattle.std.proofs.Common.{sym, ◌∙◌, arith}
use Rattle.std.proofs.lemmas.Bool.{false≢true}
use Rattle.std.proofs.lemmas.List.{length-map}
use Rattle.soda_ir.specs.Program.{plain_tensor}
use Rattle.soda_ir.proofs.Groups.{if_ok}
use Rattle.soda_ir.proofs.make.is_sound.Goals as goal

pub returns-then-not-keeps_limits : goal.returns-then-not-keeps_limits
returns-then-not-keeps_limits c =
    (λ e. absurd (false≢true e), λ s. absurd (false≢true (sym c.if-not-keeps_limits.true ∙ c.keeps_limits.ensures.1 s.limits)))

pub returns-then-not-has_good_ends : goal.returns-then-not-has_good_ends
returns-then-not-has_good_ends c =
    (λ e. absurd (false≢true e), λ s. absurd (false≢true (sym c.if-not-has_good_ends.true ∙ c.has_good_ends.ensures.1 s.ends)))

pub returns-then-not-branch : goal.returns-then-not-branch
returns-then-not-branch c =
    (λ e. absurd (false≢true e), λ s. absurd (false≢true (sym c.if-not-branch.true ∙ c.in_ok-has_good_parts.ensures.1 s.parts)))

pub returns-then-not-branch-2 : goal.returns-then-not-branch-2
returns-then-not-branch-2 c =
    (λ e. absurd (false≢true e), λ s. absurd (false≢true (sym c.if-not-branch-2.true ∙ c.in_ok-fits_itself.ensures.1 s.fits)))

pub are_all_placed-requires : goal.are_all_placed-requires
are_all_placed-requires c =
    omega (arith, length-map c.args.parts.now.tensors plain_tensor, (c.keeps_limits.ensures.0 c.if-not-keeps_limits.false).few_tensors)

pub returns : goal.returns
returns c =
    let m = length-map c.args.parts.now.tensors plain_tensor in
    if_ok c.are_all_placed.result c.are_all_placed.ensures (λ b h. (
      λ e. record {
        limits = c.keeps_limits.ensures.0 c.if-not-keeps_limits.false;
        parts = c.in_ok-has_good_parts.ensures.0 c.if-not-branch.false;
        ends = c.has_good_ends.ensures.0 c.if-not-has_good_ends.false;
        fits = c.in_ok-fits_itself.ensures.0 c.if-not-branch-2.false;
        placed = λ x l. h.0 e x (omega (arith, m, l));
      },
      λ s. h.1 (λ x l. s.placed x (omega (arith, m, l))),
    ))
