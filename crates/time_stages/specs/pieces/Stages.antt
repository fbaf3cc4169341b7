-- What the staging has in hand meanwhile.
use Rattle.std.specs.Prelude.{◌≡◌, ℕ, List, length, ℤ, slice_index_or}
use Rattle.soda_ir.specs.declared.reads.Read.{Read as Reading}
use Rattle.soda_ir.specs.Counts.{is_live}
use Rattle.soda_ir.specs.Points.{listed}
use Rattle.soda_ir.specs.Program.{PlainProgram, outputs_of}
use Rattle.time_stages.specs.declared.margins.Margins.{Margins}
use Rattle.time_stages.specs.declared.staging.Frame.{Frame}
use Rattle.time_stages.specs.declared.staging.StagedTensor.{StagedTensor}
use Rattle.time_stages.specs.Margins.{no_margins}
use Rattle.time_stages.specs.Placing.{placing_order}
use Rattle.time_stages.specs.Staged.{number_read}

-- a tensor of an iteration that has these margins there
abbrev pub with_margins : (turn x : ℕ) → Margins → StagedTensor
with_margins turn x m = record { turn = turn; tensor = x; low = m.low; high = m.high }

-- a tensor of an iteration where all tensors have these margins
abbrev pub stage_at : (turn : ℕ) → List Margins → ℕ → StagedTensor
stage_at turn margins x = with_margins turn x (slice_index_or margins x (no_margins 0))

-- the order, the outputs and the live tensors of a program
pub record IsFrame (p : PlainProgram) (frame : Frame) : Type 0 where
  pub order : frame.order ≡ placing_order p
  pub outputs : frame.outputs ≡ outputs_of p
  pub live : frame.live ≡ listed (λ later. listed (is_live p later) (length p.tensors)) p.iterate

-- a read as a pair, by the number of what is read
abbrev pub pair_read : PlainProgram → List StagedTensor → (turn : ℕ) → Reading → ℕ × ℤ
pair_read p ts turn r = (number_read p ts turn r.of, r.offset)

-- the read that a pair stands for
abbrev pub reading_of : ℕ × ℤ → Reading
reading_of q = record { of = q.0; offset = q.1 }
