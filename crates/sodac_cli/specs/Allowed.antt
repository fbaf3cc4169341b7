-- Which answers the words allow, whatever the files hold and tell.
use Rattle.std.specs.Prelude.{◌≡◌, ◌⊎◌, Bool, true, false, not, ◌&&◌, Option, Some, None}
use Rattle.soda_io.specs.declared.role.FileRole.{FileRole}
use Rattle.soda_io.specs.declared.role.FileRole.TheVariants.{Program, Modules, Params, Stall, Input, Output}
use Rattle.job_arrays.specs.Arrays.{IsOfBytes}
use Rattle.command_words.specs.declared.mode.Mode.{Mode}
use Rattle.command_words.specs.declared.mode.Mode.TheVariants.{Check, Plain, Plan, Compile, Sim, Selftest}
use Rattle.command_words.specs.Orders.{Asked}
use Rattle.job_status.specs.declared.status.ArrayFault.{ArrayFault}
use Rattle.job_status.specs.declared.status.ArrayFault.TheVariants as of
use Rattle.job_status.specs.declared.status.Status.{Status}
use Rattle.job_status.specs.declared.status.Status.TheVariants as is
use Rattle.sodac_cli.specs.Printed.{prints}
use Rattle.sodac_cli.specs.Work.{is_built}

-- a role that a file of `plain` has
abbrev pub IsOfPlain : FileRole → Type 0
IsOfPlain Program = Unit {0}
IsOfPlain Params = Unit {0}
IsOfPlain (Input number) = Unit {0}
IsOfPlain (Output number) = Unit {0}
IsOfPlain Modules = ⊥
IsOfPlain Stall = ⊥

-- what can be wrong with what the files of `plain` hold; a call that failed, or want of memory, isn't told as a fault
-- of the bytes
abbrev pub IsArrayFault : ArrayFault → Type 0
IsArrayFault (of.Cell number fault) = IsOfBytes fault
IsArrayFault (of.Params line) = Unit {0}
IsArrayFault (of.Stall line) = ⊥

-- a role that a file of `sim` has
abbrev pub IsOfSim : FileRole → Type 0
IsOfSim Program = Unit {0}
IsOfSim Params = Unit {0}
IsOfSim Stall = Unit {0}
IsOfSim (Input number) = Unit {0}
IsOfSim (Output number) = Unit {0}
IsOfSim Modules = ⊥

-- what can be wrong with what the files of `sim` hold
abbrev pub IsSimFault : ArrayFault → Type 0
IsSimFault (of.Cell number fault) = IsOfBytes fault
IsSimFault (of.Params line) = Unit {0}
IsSimFault (of.Stall line) = Unit {0}

-- what `check` and `plan` can end with: they are built for every program, and ask for the program's file alone
abbrev pub AllowsPrinting : Status → Type 0
AllowsPrinting is.Ok = Unit {0}
AllowsPrinting is.Usage = ⊥
AllowsPrinting (is.Program r) = Unit {0}
AllowsPrinting (is.Array fault) = ⊥
AllowsPrinting (is.FileFault role) = role ≡ Program
AllowsPrinting is.OutFault = Unit {0}
AllowsPrinting is.Memory = Unit {0}
AllowsPrinting is.NotYetBuilt = ⊥

-- what `plain` can end with: it is built for every program, and prints nothing that could fail
abbrev pub AllowsPlain : Status → Type 0
AllowsPlain is.Ok = Unit {0}
AllowsPlain is.Usage = Unit {0}
AllowsPlain (is.Program r) = Unit {0}
AllowsPlain (is.Array fault) = IsArrayFault fault
AllowsPlain (is.FileFault role) = IsOfPlain role
AllowsPlain is.OutFault = ⊥
AllowsPlain is.Memory = Unit {0}
AllowsPlain is.NotYetBuilt = ⊥

-- what `compile` can end with: it is built for every program, and asks for the program's file and that of the text
abbrev pub AllowsCompile : Status → Type 0
AllowsCompile is.Ok = Unit {0}
AllowsCompile is.Usage = ⊥
AllowsCompile (is.Program r) = Unit {0}
AllowsCompile (is.Array fault) = ⊥
AllowsCompile (is.FileFault role) = (role ≡ Program) ⊎ (role ≡ Modules)
AllowsCompile is.OutFault = Unit {0}
AllowsCompile is.Memory = Unit {0}
AllowsCompile is.NotYetBuilt = ⊥

-- what `sim` can end with: it is built for every program
abbrev pub AllowsSim : Status → Type 0
AllowsSim is.Ok = Unit {0}
AllowsSim is.Usage = Unit {0}
AllowsSim (is.Program r) = Unit {0}
AllowsSim (is.Array fault) = IsSimFault fault
AllowsSim (is.FileFault role) = IsOfSim role
AllowsSim is.OutFault = Unit {0}
AllowsSim is.Memory = Unit {0}
AllowsSim is.NotYetBuilt = ⊥

-- what a mode that is built can end with
abbrev pub AllowsMode : Mode → Status → Type 0
AllowsMode Check status = AllowsPrinting status
AllowsMode Plain status = AllowsPlain status
AllowsMode Plan status = AllowsPrinting status
AllowsMode Compile status = AllowsCompile status
AllowsMode Sim status = AllowsSim status
AllowsMode Selftest status = ⊥

abbrev pub AllowsIf : Bool → Mode → Status → Type 0
AllowsIf true mode status = AllowsMode mode status
AllowsIf false mode status = status ≡ is.NotYetBuilt

-- words that aren't taken are told as such, and so is what isn't built
abbrev pub AllowsFor : Option Asked → Status → Type 0
AllowsFor None status = status ≡ is.Usage
AllowsFor (Some a) status = AllowsIf (is_built a) a.mode status

-- want of memory may come in place of each
abbrev pub Allows : Option Asked → Status → Type 0
Allows asked status = (status ≡ is.Memory) ⊎ AllowsFor asked status

-- nothing is printed: the words aren't taken, what they ask for isn't built, or the mode prints nothing
abbrev pub is_silent : Option Asked → Bool
is_silent None = true
is_silent (Some a) = not (is_built a && prints a.mode)
