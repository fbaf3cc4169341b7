-- Which answers the words allow.
use Rattle.std.proofs.Common.{◌≡◌, ◌≢◌, Bool, true, false, Some, sym, subst, inl, inr}
use Rattle.soda_io.specs.declared.role.FileRole.{FileRole}
use Rattle.command_words.specs.declared.mode.Mode.{Mode}
use Rattle.command_words.specs.Orders.{Asked}
use Rattle.job_status.specs.declared.status.Status.{Status}
use Rattle.job_status.specs.declared.status.Status.TheVariants as is
use Rattle.sodac_cli.specs.Allowed.{Allows, AllowsCompile, AllowsIf, AllowsMode, AllowsPlain, AllowsPrinting, IsOfPlain}
use Rattle.sodac_cli.specs.Machine.Text.{IsOfText}
use Rattle.sodac_cli.specs.Work.{is_built}

-- what `plain` can end with is no fault of `out`
pub not_out_fault : (s : Status) → AllowsPlain s → s ≢ is.OutFault
not_out_fault is.OutFault allowed = absurd allowed
not_out_fault is.Ok allowed = λ e. absurd (cc)
not_out_fault is.Usage allowed = λ e. absurd (cc)
not_out_fault (is.Program r) allowed = λ e. absurd (cc)
not_out_fault (is.Array fault) allowed = λ e. absurd (cc)
not_out_fault (is.FileFault role) allowed = λ e. absurd (cc)
not_out_fault is.Memory allowed = λ e. absurd (cc)
not_out_fault is.NotYetBuilt allowed = absurd allowed

-- a status with which the program's file or its text ends a job comes in each mode
pub text_in_printing : (s : Status) → IsOfText s → AllowsPrinting s
text_in_printing is.Ok t = absurd t
text_in_printing is.Usage t = absurd t
text_in_printing (is.Program r) t = tt
text_in_printing (is.Array fault) t = absurd t
text_in_printing (is.FileFault role) t = t
text_in_printing is.OutFault t = absurd t
text_in_printing is.Memory t = tt
text_in_printing is.NotYetBuilt t = absurd t

pub text_in_plain : (s : Status) → IsOfText s → AllowsPlain s
text_in_plain is.Ok t = absurd t
text_in_plain is.Usage t = absurd t
text_in_plain (is.Program r) t = tt
text_in_plain (is.Array fault) t = absurd t
text_in_plain (is.FileFault role) t = let P : FileRole → Type 0 = λ r. IsOfPlain r in subst P (sym t) tt
text_in_plain is.OutFault t = absurd t
text_in_plain is.Memory t = tt
text_in_plain is.NotYetBuilt t = absurd t

pub text_in_compile : (s : Status) → IsOfText s → AllowsCompile s
text_in_compile is.Ok t = absurd t
text_in_compile is.Usage t = absurd t
text_in_compile (is.Program r) t = tt
text_in_compile (is.Array fault) t = absurd t
text_in_compile (is.FileFault role) t = inl t
text_in_compile is.OutFault t = absurd t
text_in_compile is.Memory t = tt
text_in_compile is.NotYetBuilt t = absurd t

-- what a mode that is built allows
module _ (a : Asked) (s : Status) where
  pub built_allowed : is_built a ≡ true → (m : Mode) → a.mode ≡ m → AllowsMode m s → Allows (Some a) s
  built_allowed built m mode allowed =
      let P : Bool → Type 0 = λ b. AllowsIf b a.mode s in
      let Q : Mode → Type 0 = λ x. AllowsMode x s in
      inr (subst P (sym built) (subst Q (sym mode) allowed))

  pub unbuilt_allowed : is_built a ≡ false → s ≡ is.NotYetBuilt → Allows (Some a) s
  unbuilt_allowed unbuilt e = let P : Bool → Type 0 = λ b. AllowsIf b a.mode s in inr (subst P (sym unbuilt) e)
