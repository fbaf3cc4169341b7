-- The inputs and outputs of a run, and the lanes of its modules.
use Rattle.std.proofs.Common.{◌≡◌, ◌≢◌, ℕ, zero, suc, ◌*◌, ◌<◌, ◌%◌, ◌&&◌, ◌==◌, Bool, true, false, List, [], ◌∷◌, length, slice_get, slice_index_or, None, Some, refl, sym, ap, ◌∙◌, arith, ⊎_elim, if◌then◌else◌}
use Rattle.std.specs.List.{list_all}
use Rattle.std.proofs.lemmas.Bool.{and_parts, eqb-true, false≢true}
use Rattle.std.proofs.lemmas.List.{get_or-map, length-map}
use Rattle.std.proofs.lemmas.Option.{slice_get_cases}
use Rattle.soda_words.specs.IntType.{IntType, int32}
use Rattle.array_bytes.specs.Sizes.{cell_size}
use Rattle.soda_ir.specs.Counts.{is_input, is_input_role, is_output, is_output_role}
use Rattle.soda_ir.specs.Program.{PlainProgram, PlainTensor}
use Rattle.soda_ir.specs.Valid.{cell_size as cell_size_of, fills_burst}
use Rattle.soda_ir.specs.declared.program.Role.{Role}
use Rattle.soda_ir.specs.declared.program.Role.TheVariants.{Input, Local, Output}
use Rattle.soda_ir.proofs.CallerLemmas.{type_in}
use Rattle.net_ir.specs.declared.network.Module.{Module}
use Rattle.net_ir.specs.declared.network.Module.TheVariants.{Compute, Forward, Sink, Source}
use Rattle.net_shape.specs.declared.kinds.Kind.TheVariants as kind
use Rattle.net_shape.specs.Modules.{IsThere}
use Rattle.net_shape.specs.Plans.{Plan}
use Rattle.net_build.specs.Planned.{kind_of, plan_of}
use Rattle.staged_cells.specs.Cells.{type_at}
use Rattle.staged_cells.specs.Streams.{lane_of}
use Rattle.time_stages.specs.declared.staging.StagedTensor.{StagedTensor}
use Rattle.time_stages.specs.Staged.{staged_tensors, type_of}
use Rattle.cycle_sim.specs.Ends.{AreWhole}

-- whole cells of an input, and of an output, fill a burst
filled : (w : ℕ) (t : IntType) → (w % (8 * cell_size_of t) == 0) ≡ true → AreWhole w t
unfolding cell_size
filled w t e = eqb-true (w % (8 * cell_size_of t)) 0 e

by_input : (w : ℕ) (r : Role) (t : IntType) → is_input_role r ≡ true
    → (elim r [ Local ↦ true | Input ↦ w % (8 * cell_size_of t) == 0 | Output ↦ w % (8 * cell_size_of t) == 0 ]) ≡ true → AreWhole w t
by_input w Input t is e = filled w t e
by_input w Local t is e = absurd (false≢true is)
by_input w Output t is e = absurd (false≢true is)

by_output : (w : ℕ) (r : Role) (t : IntType) → is_output_role r ≡ true
    → (elim r [ Local ↦ true | Input ↦ w % (8 * cell_size_of t) == 0 | Output ↦ w % (8 * cell_size_of t) == 0 ]) ≡ true → AreWhole w t
by_output w Input t is e = absurd (false≢true is)
by_output w Local t is e = absurd (false≢true is)
by_output w Output t is e = filled w t e

-- a tensor of this role
abbrev pub has_role : (Role → Bool) → List PlainTensor → ℕ → Bool
has_role test ts x = elim (slice_get ts x) [ None ↦ false | Some t ↦ test t.role ]

at_role : (test : Role → Bool) (w : ℕ) → ((r : Role) (t : IntType) → test r ≡ true
    → (elim r [ Local ↦ true | Input ↦ w % (8 * cell_size_of t) == 0 | Output ↦ w % (8 * cell_size_of t) == 0 ]) ≡ true → AreWhole w t)
    → (ts : List PlainTensor) (x : ℕ) → list_all (fills_burst w) ts ≡ true → has_role test ts x ≡ true → AreWhole w (type_in ts x)
at_role test w by [] x all is = absurd (false≢true is)
at_role test w by (t ∷ ts) zero all is = by t.role t.ty is (and_parts (fills_burst w t) (list_all (fills_burst w) ts) all).0
at_role test w by (t ∷ ts) (suc x) all is = at_role test w by ts x (and_parts (fills_burst w t) (list_all (fills_burst w) ts) all).1 is

-- what an input is in a network
first_input : (input output last : Bool) → (if input then kind.Input else (if output && last then kind.Output else kind.Inner)) ≡ kind.Input → input ≡ true
first_input true output last e = refl
first_input false true true e = absurd (cc)
first_input false true false e = absurd (cc)
first_input false false last e = absurd (cc)

-- what no input is
no_input : (input output last : Bool) → (if input then kind.Input else (if output && last then kind.Output else kind.Inner)) ≢ kind.Input → input ≡ false
no_input true output last ne = absurd (ne refl)
no_input false output last ne = refl

-- the staged tensor of a number, with what it is
pub record IsStage (p : PlainProgram) (delays : List ℕ) (v : ℕ) : Type 0 where
  pub stage : StagedTensor
  pub is : slice_get (staged_tensors p) v ≡ Some stage
  pub kind : slice_index_or (plan_of p delays).kinds v kind.Inner ≡ kind_of p stage
  pub type : type_at p v ≡ type_of p stage.tensor

pub stage_of : (p : PlainProgram) (delays : List ℕ) (v : ℕ) → v < length (plan_of p delays).kinds → IsStage p delays v
stage_of p delays v lt =
    let ts : List StagedTensor = staged_tensors p in
    ⊎_elim
    (λ found.
    let s : StagedTensor = found.0 in
    record {
      stage = s;
      is = found.2;
      kind = get_or-map (kind_of p) ts v s kind.Inner found.1 ∙ ap (kind_of p) found.3;
      type = get_or-map (λ (t : StagedTensor). type_of p t.tensor) ts v s int32 found.1 ∙ ap (λ (t : StagedTensor). type_of p t.tensor) found.3;
    })
    (λ past. absurd (omega (arith, past.0, lt, length-map ts (kind_of p))))
    (slice_get_cases ts v).1

-- an input
pub input_stage : (p : PlainProgram) (delays : List ℕ) (v : ℕ) → IsThere (plan_of p delays) (Source v)
    → (s : StagedTensor) × (slice_get (staged_tensors p) v ≡ Some s) × (is_input p s.tensor ≡ true) × (type_at p v ≡ type_of p s.tensor)
input_stage p delays v there =
    let at = stage_of p delays v there.0 in
    (at.stage, at.is, first_input (is_input p at.stage.tensor) (is_output p at.stage.tensor) (at.stage.turn == p.iterate) (sym at.kind ∙ there.1), at.type)

-- what is no input
pub inner_stage : (p : PlainProgram) (delays : List ℕ) (v lane : ℕ) → IsThere (plan_of p delays) (Compute v lane)
    → (s : StagedTensor) × (slice_get (staged_tensors p) v ≡ Some s) × (is_input p s.tensor ≡ false)
inner_stage p delays v lane there =
    let at = stage_of p delays v there.0 in
    (at.stage, at.is, no_input (is_input p at.stage.tensor) (is_output p at.stage.tensor) (at.stage.turn == p.iterate) (λ e. there.1 (at.kind ∙ e)))

-- bursts
pub whole_input : (p : PlainProgram) (x : ℕ) → list_all (fills_burst p.burst) p.tensors ≡ true → is_input p x ≡ true → AreWhole p.burst (type_of p x)
whole_input p x all is = at_role is_input_role p.burst (by_input p.burst) p.tensors x all is

pub whole_output : (p : PlainProgram) (x : ℕ) → list_all (fills_burst p.burst) p.tensors ≡ true → is_output p x ≡ true → AreWhole p.burst (type_of p x)
whole_output p x all is = at_role is_output_role p.burst (by_output p.burst) p.tensors x all is

-- a lane of a module
pub lane_within : (p : Plan) → 0 < p.unroll → (m : Module) → IsThere p m → lane_of m < p.unroll
lane_within p some (Source v) there = some
lane_within p some (Forward v lane tap) there = there.1
lane_within p some (Compute v lane) there = there.2
lane_within p some (Sink v) there = some
