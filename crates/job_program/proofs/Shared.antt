-- What is said of a shared program and of the program of a text, said of the text.
use Rattle.std.proofs.Common.{◌≡◌, ℕ, Bool, true, List, ℤ, Result, Ok, Err, IfOk, sym, ap, ◌∙◌}
use Rattle.soda_ir.specs.Program.{PlainProgram}
use Rattle.soda_eval.specs.Runs.{defined_arrays}
use Rattle.soda_parse.specs.Fails.{IfRefused}
use Rattle.soda_parse.specs.Text.{Accepts}
use Rattle.soda_parse.specs.declared.reading.ParseFail.{ParseFail}
use Rattle.soda_parse.specs.declared.reading.ParseFail.TheVariants.{Refused, Memory}
use Rattle.job_program.specs.Spoken.{PassesFirst, RefusesProgram, of_sharing}

-- over any inputs, rows and params these two have the same arrays
abbrev pub SameArrays : (q p : PlainProgram) → Type 0
SameArrays q p = (rows : ℕ) (params : List ℤ) (inputs : List (List ℤ)) → defined_arrays q rows params inputs ≡ defined_arrays p rows params inputs

module _ (most : ℕ) (bytes : List ℕ) (own : PlainProgram) (only : (p : PlainProgram) → Accepts most bytes p → p ≡ own) where
  pub arrays_of_text : (q : PlainProgram) → SameArrays q own → (p : PlainProgram) (rows : ℕ) (params : List ℤ) (inputs : List (List ℤ))
      → Accepts most bytes p → defined_arrays q rows params inputs ≡ defined_arrays p rows params inputs
  arrays_of_text q same p rows params inputs accepts =
      same rows params inputs ∙ ap (λ (x : PlainProgram). defined_arrays x rows params inputs) (sym (only p accepts))

  pub all_arrays : {A : Type 0} (view : A → PlainProgram) (r : Result A ParseFail) → IfOk r (λ q. SameArrays (view q) own)
      → IfOk r (λ q. (p : PlainProgram) (rows : ℕ) (params : List ℤ) (inputs : List (List ℤ)) → Accepts most bytes p
      → defined_arrays (view q) rows params inputs ≡ defined_arrays p rows params inputs)
  all_arrays view (Ok q) same = arrays_of_text (view q) same
  all_arrays view (Err e) same = tt

pub refused_of_text : {A : Type 0} (most : ℕ) (share : Bool) (bytes : List ℕ) (own : PlainProgram) → share ≡ true → Accepts most bytes own
    → (r : Result A ParseFail) → IfRefused r (PassesFirst own) → IfRefused r (RefusesProgram most share bytes)
refused_of_text most share bytes own asked accepts (Ok q) first = tt
refused_of_text most share bytes own asked accepts (Err (Refused r)) first = of_sharing asked own accepts first
refused_of_text most share bytes own asked accepts (Err Memory) first = tt
