-- No two modules of a run are one, and no two sinks are of outputs of one number.
use Rattle.std.proofs.Common.{◌≡◌, ℕ, ◌<◌, ◌&&◌, ◌==◌, Bool, true, false, not, List, ◌∷◌, ◌++◌, Contains, length, get_or, slice_get, slice_index_or, None, Some, refl, sym, ap, subst, ◌∙◌, arith, ⊎_elim, if◌then◌else◌}
use Rattle.std.proofs.lemmas.Bool.{eqb-true}
use Rattle.std.proofs.lemmas.List.{get_or-map, length-map}
use Rattle.std.proofs.lemmas.List.Elements.{Contains-get_or}
use Rattle.std.proofs.lemmas.Option.{slice_get_cases}
use Rattle.net_ir.specs.declared.network.Module.{Module}
use Rattle.net_ir.specs.declared.network.Module.TheVariants.{Sink}
use Rattle.net_shape.specs.declared.kinds.Kind.TheVariants as kind
use Rattle.net_shape.specs.Modules.{IsThere, modules_of, number_of}
use Rattle.net_shape.specs.Plans.{Plan}
use Rattle.net_shape.specs.Queues.{network_of}
use Rattle.net_build.specs.Planned.{kind_of, plan_of}
use Rattle.soda_ir.specs.Counts.{is_input, is_output, output_number}
use Rattle.soda_ir.specs.Program.{PlainProgram}
use Rattle.time_stages.specs.declared.staging.StagedTensor.{StagedTensor}
use Rattle.time_stages.specs.Placing.{is_among, placing_order}
use Rattle.time_stages.specs.Staged.{staged_tensors, type_of}
use Rattle.soda_words.specs.IntType.{int32}
use Rattle.staged_cells.specs.Cells.{type_at}
use Rattle.staged_cells.specs.Sends.{output_of}
use Rattle.cycle_sim.proofs.Apart.{one_number, one_output}

-- the modules of a network are those of its plan
pub modules_are : (p : Plan) → (network_of p).modules ≡ modules_of p
unfolding network_of
modules_are p = refl

-- their numbers
abbrev pub Numbering : Plan → Type 0
Numbering p = (k : ℕ) (d : Module) → k < length (modules_of p) → number_of p (slice_index_or (modules_of p) k d) ≡ k

-- a module of a network is one of its plan's
pub module_there : (p : Plan) (m : ℕ) (d is : Module) → m < length (network_of p).modules → get_or (network_of p).modules m d ≡ is
    → Contains (modules_of p) is
module_there p m d is lt same =
    subst (λ ys. Contains ys is) (modules_are p) (subst (Contains (network_of p).modules) same (Contains-get_or (network_of p).modules m d lt))

-- a module has its number
pub number_at : (p : Plan) → Numbering p → (m : ℕ) (d is : Module) → m < length (network_of p).modules
    → get_or (network_of p).modules m d ≡ is → number_of p is ≡ m
number_at p numbers m d is lt same =
    ap (number_of p) (sym same ∙ ap (λ ys. get_or ys m d) (modules_are p)) ∙ numbers m d (subst (λ ys. m < length ys) (modules_are p) lt)

-- of modules that stand in firing order each has its number
pub one_place : (p : Plan) → Numbering p → (m n : ℕ) (d : Module) → m < length (network_of p).modules → n < length (network_of p).modules
    → get_or (network_of p).modules m d ≡ get_or (network_of p).modules n d → m ≡ n
one_place p numbers m n d lt within same =
    sym (number_at p numbers m d (get_or (network_of p).modules n d) lt same)
    ∙ number_at p numbers n d (get_or (network_of p).modules n d) within refl

-- what an output of the last iteration is
last_output : (input output last : Bool) → (if input then kind.Input else (if output && last then kind.Output else kind.Inner)) ≡ kind.Output
    → (output ≡ true) × (last ≡ true)
last_output true output last e = absurd (cc)
last_output false true true e = (refl, refl)
last_output false true false e = absurd (cc)
last_output false false last e = absurd (cc)

-- the tensor of a sink is an output of the last iteration
pub record IsLast (p : PlainProgram) (v : ℕ) : Type 0 where
  pub stage : StagedTensor
  pub is : slice_get (staged_tensors p) v ≡ Some stage
  pub output : is_output p stage.tensor ≡ true
  pub turn : stage.turn ≡ p.iterate
  pub number : output_of p v ≡ output_number p stage.tensor
  pub type : type_at p v ≡ type_of p stage.tensor

pub last_of : (p : PlainProgram) (delays : List ℕ) (v : ℕ) → IsThere (plan_of p delays) (Sink v) → IsLast p v
last_of p delays v there =
    let ts : List StagedTensor = staged_tensors p in
    ⊎_elim
    (λ found.
    let s : StagedTensor = found.0 in
    let what : kind_of p s ≡ kind.Output = sym (get_or-map (kind_of p) ts v s kind.Inner found.1 ∙ ap (kind_of p) found.3) ∙ there.1 in
    let both = last_output (is_input p s.tensor) (is_output p s.tensor) (s.turn == p.iterate) what in
    record {
      stage = s;
      is = found.2;
      output = both.0;
      turn = eqb-true s.turn p.iterate both.1;
      number = ap (λ o. elim o [ None ↦ 0 | Some s ↦ output_number p s.tensor ]) found.2;
      type = get_or-map (λ (t : StagedTensor). type_of p t.tensor) ts v s int32 found.1 ∙ ap (λ (t : StagedTensor). type_of p t.tensor) found.3;
    })
    (λ past. absurd (omega (arith, past.0, there.0, length-map ts (kind_of p))))
    (slice_get_cases ts v).1

-- two sinks of one output's number are one module
pub one_sink : (p : PlainProgram) (delays : List ℕ)
    → ((before after : List ℕ) (x : ℕ) → placing_order p ≡ before ++ x ∷ after → is_among x before ≡ false)
    → ((x : ℕ) → x < length p.tensors → is_among x (placing_order p) ≡ not (is_input p x))
    → ((v : ℕ) (s : StagedTensor) → slice_get (staged_tensors p) v ≡ Some s → s.tensor < length p.tensors)
    → (v w : ℕ) → IsThere (plan_of p delays) (Sink v) → IsThere (plan_of p delays) (Sink w) → output_of p v ≡ output_of p w → v ≡ w
one_sink p delays once no_input known v w a b same =
    let one = last_of p delays v a in
    let two = last_of p delays w b in
    let tensor : one.stage.tensor ≡ two.stage.tensor =
    one_output p once no_input known one.stage.tensor two.stage.tensor (is_output p) one.output two.output (sym one.number ∙ same ∙ two.number) in
    one_number p once no_input known v w one.stage two.stage one.is two.is (one.turn ∙ sym two.turn) tensor
