-- How a run ends, by its status.
use Rattle.soda_io.specs.declared.role.FileRole.{FileRole}
use Rattle.job_status.specs.declared.status.Status.{Status}
use Rattle.job_status.specs.declared.status.Status.TheVariants as is

-- a run ends with the status that is due, with a fault of a file or of `out`, or for want of memory
pub data Ending : Type 0 where
  due : Ending
  file_fault : FileRole → Ending
  out_fault : Ending
  memory : Ending

abbrev pub ending_of : Status → Ending
ending_of is.Ok = due
ending_of is.Usage = due
ending_of (is.Program r) = due
ending_of (is.Array fault) = due
ending_of (is.FileFault role) = file_fault role
ending_of is.OutFault = out_fault
ending_of is.Memory = memory
ending_of is.NotYetBuilt = due
