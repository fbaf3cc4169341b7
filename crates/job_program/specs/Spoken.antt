-- The program that a job speaks of, by the bytes of its text and by whether sharing is asked for; and which texts are
-- refused, and why.
use Rattle.std.specs.Prelude.{◌≡◌, ℕ, Bool, true, false, List, Some, None}
use Rattle.soda_ir.specs.Program.{PlainProgram}
use Rattle.share_shape.specs.Limits.{Passed, limit_passed}
use Rattle.share_shape.specs.Procedure.{shared}
use Rattle.soda_parse.specs.Text.{Accepts, Refuses}
use Rattle.soda_parse.specs.declared.refusal.Refusal.{Refusal}
use Rattle.soda_parse.specs.declared.refusal.Refusal.TheVariants.{Limit}

-- q is spoken of where a text stands for p: p itself, or where sharing is asked for, what sharing makes of p, which
-- passes none of the limits of sharing
abbrev pub IsMadeOf : (share : Bool) → (p q : PlainProgram) → Type 0
IsMadeOf false p q = q ≡ p
IsMadeOf true p q = (q ≡ shared p) × (limit_passed (shared p) ≡ None)

-- a text of at most so many bytes is accepted, and this is the program spoken of
pub record SpeaksOf (most : ℕ) (share : Bool) (bytes : List ℕ) (q : PlainProgram) : Type 0 where
  pub own : PlainProgram
  pub accepted : Accepts most bytes own
  pub made : IsMadeOf share own q

-- what sharing makes of p passes this limit of sharing first, by this number
abbrev pub PassesFirst : PlainProgram → Refusal → Type 0
PassesFirst p r = (passed : Passed) × (limit_passed (shared p) ≡ Some passed) × (r ≡ Limit passed.kind passed.number)

-- no program is spoken of: the text is refused, or where sharing is asked for, it is accepted, and what sharing makes
-- of its program passes a limit
pub data RefusesProgram (most : ℕ) (share : Bool) (bytes : List ℕ) (r : Refusal) : Type 0 where
  of_text : Refuses most bytes r → RefusesProgram most share bytes r
  of_sharing : share ≡ true → (p : PlainProgram) → Accepts most bytes p → PassesFirst p r
      → RefusesProgram most share bytes r
