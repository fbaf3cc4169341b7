-- When a call may answer `Failed`: only where a count of faults, which never falls, rose in that call.
use Rattle.std.specs.Prelude.{◌≡◌, ℕ, ◌+◌, ◌-◌, ◌^◌, ◌≤◌, min, OnOk, IsErrOf, MatchResult}
use Rattle.std.specs.Prelude.{Result, Ok, Err}
use Rattle.soda_io.specs.declared.error.IoErr.{IoErr}
use Rattle.soda_io.specs.declared.error.IoErr.TheVariants.{Failed, Memory}

-- a count of 64 bits after one more fault: at its end it stands still
abbrev pub raised : ℕ → ℕ
raised before = min (before + 1) (2 ^ 64 - 1)

-- the count rose, or stands at its end
abbrev pub Rose : ℕ → ℕ → Type 0
Rose before now = raised before ≤ now

-- the count doesn't fall, stays at Ok, and rose where the answer is `Failed`
pub record HasCause {T : Type 0} (before now : ℕ) (result : Result T IoErr) : Type 0 where
  pub later : before ≤ now
  pub kept : OnOk result (now ≡ before)
  pub failed : IsErrOf result Failed → Rose before now

-- the count in memory: a call that answers `Failed` is one more fault, and no other call is
abbrev pub IsCountOfFailed : {T : Type 0} → ℕ → ℕ → Result T IoErr → Type 0
IsCountOfFailed before now (Ok v) = now ≡ before
IsCountOfFailed before now (Err Failed) = now ≡ raised before
IsCountOfFailed before now (Err Memory) = now ≡ before

-- the count of the real files and streams: a call that answers any error is one more fault
abbrev pub IsCountOfErrors : {T : Type 0} → ℕ → ℕ → Result T IoErr → Type 0
IsCountOfErrors before now result = MatchResult result (λ v. now ≡ before) (λ e. now ≡ raised before)
