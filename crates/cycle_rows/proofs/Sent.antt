-- What is sent is right, and what was done stays right.
use Rattle.std.proofs.Common.{◌≡◌, ◌≢◌, ◌<◌, ◌+◌, ℕ, zero, suc, ℤ, map, refl, pos, List, [], ◌∷◌, ◌++◌, length, length-append, get_or, sym, ap, ◌∙◌, subst, ⊎_elim, arith, get_or-set_same, get_or-set_other}
use Rattle.std.proofs.lemmas.Bool.{cases_lt}
use Rattle.std.proofs.lemmas.List.{ext_get_or, length-map, get_or_append_left, get_or-append-add}
use Rattle.net_ir.specs.declared.network.Module.{Module}
use Rattle.net_ir.specs.declared.network.Module.TheVariants.{Source, Forward, Compute, Sink}
use Rattle.net_ir.specs.Nets.{Net, exits}
use Rattle.std.proofs.Math.ListN.{get_or-map}
use Rattle.net_ir.specs.declared.events.Turn.{Turn}
use Rattle.net_ir.specs.States.{turn_at, unmoved, zeros}
use Rattle.net_cycles.specs.Between.{whole, between, fired_once}
use Rattle.net_cycles.specs.Streams.{Streams, port_values, sent_values}
use Rattle.cycle_rows.specs.Relayed.{module_at, Sends, AgreesWith, IsSource, IsSink, IsReady}

-- the same value in each queue is right where it is the only one that the streams allow
pub sent_all : (net : Net) (source : ℕ) (stream : Streams) (m k : ℕ) (kind : Module) (read ports values : List ℤ) (v : ℤ)
    → module_at net m ≡ kind → AgreesWith net source read stream → m < length net.modules → ports ≡ port_values net stream m k
    → length values ≡ length (exits net m) → ((j : ℕ) → j < length values → get_or values j (pos 0) ≡ v)
    → ((w : ℤ) → Sends source m kind k read ports w → w ≡ v) → values ≡ sent_values net stream m k
sent_all net source stream m k kind read ports values v is agrees known found places each only =
    let sent : List ℤ = sent_values net stream m k in
    let many : length sent ≡ length (exits net m) = length-map (exits net m) (λ q. stream q k) in
    ext_get_or (pos 0) values sent (places ∙ sym many)
    (λ j h. each j h ∙ sym (only (get_or sent j (pos 0))
    (subst (λ x. Sends source m x k read ports (get_or sent j (pos 0))) is
    (subst (λ xs. Sends source m (module_at net m) k read xs (get_or sent j (pos 0))) (sym found)
    (agrees m k known j (pos 0) (omega (arith, places, many)))))))

-- streams that agree with more cells agree with these
pub narrower : (net : Net) (source : ℕ) (read more : List ℤ) (stream : Streams) → AgreesWith net source (read ++ more) stream
    → AgreesWith net source read stream
narrower net source read more stream agrees m k known j d less =
    by_kind (module_at net m) (port_values net stream m k) (get_or (sent_values net stream m k) j d) (agrees m k known j d less)
  where
    by_kind : (kind : Module) (ports : List ℤ) (v : ℤ) → Sends source m kind k (read ++ more) ports v → Sends source m kind k read ports v
    by_kind (Source tensor) ports v s = (
      (λ e h. s.0 e (omega (arith, length-append read more)) ∙ get_or_append_left read more (pos 0) k h),
      s.1,
    )
    by_kind (Forward tensor lane tap) ports v s = s
    by_kind (Compute tensor lane) ports v s = s
    by_kind (Sink tensor) ports v s = s

module _ (net : Net) (source sink : ℕ) (read given : List ℤ) (fired : List ℕ) (ready : IsReady net source sink read given fired)
    (m : ℕ) (kind : Module) (is : module_at net m ≡ kind) (known : m < length net.modules) (whole : length fired ≡ length net.modules) where
  here : get_or (fired_once fired m) m 0 ≡ get_or fired m 0 + 1
  here = get_or-set_same fired m (get_or fired m 0 + 1) 0 (omega (arith, whole))

  else : (n : ℕ) → n ≢ m → get_or (fired_once fired m) n 0 ≡ get_or fired n 0
  else n ne = get_or-set_other fired m n (get_or fired m 0 + 1) 0 ne

  pub not_source : (IsSource kind → ⊥) → source ≢ m
  not_source never same = never (subst IsSource (ap (module_at net) same ∙ is) ready.source_is)

  pub not_sink : (IsSink kind → ⊥) → sink ≢ m
  not_sink never same = never (subst IsSink (ap (module_at net) same ∙ is) ready.sink_is)

  -- a module that neither reads nor hands on
  pub ready_else : source ≢ m → sink ≢ m → IsReady net source sink read given (fired_once fired m)
  ready_else one other = record {
    source_is = ready.source_is;
    sink_is = ready.sink_is;
    place = ready.place ∙ sym (else source one);
    count = ready.count ∙ sym (else sink other);
    right = ready.right;
  }

  -- the source has read a cell
  pub ready_read : (cell : ℤ) → m ≡ source → sink ≢ m → IsReady net source sink (read ++ cell ∷ []) given (fired_once fired m)
  ready_read cell same other = record {
    source_is = ready.source_is;
    sink_is = ready.sink_is;
    place = omega (
      arith,
      length-append read (cell ∷ []),
      ready.place,
      here,
      ap (λ n. get_or fired n 0) same,
      ap (λ n. get_or (fired_once fired m) n 0) same,
    );
    count = ready.count ∙ sym (else sink other);
    right = λ stream agrees. ready.right stream (narrower net source read (cell ∷ []) stream agrees);
  }

  -- the cell that was read stands at the firing's place
  pub cell_at : (cell : ℤ) → m ≡ source
      → (get_or fired m 0 < length (read ++ cell ∷ [])) × (get_or (read ++ cell ∷ []) (get_or fired m 0) (pos 0) ≡ cell)
  cell_at cell same =
      let at : get_or fired m 0 ≡ length read + 0 = omega (arith, ready.place, ap (λ n. get_or fired n 0) same) in (
        omega (arith, at, length-append read (cell ∷ [])),
        ap (λ n. get_or (read ++ cell ∷ []) n (pos 0)) at ∙ get_or-append-add read (cell ∷ []) 0 (pos 0),
      )

  -- the sink has handed on a cell
  pub ready_given : (cell : ℤ) → m ≡ sink → source ≢ m
      → ((stream : Streams) → AgreesWith net source read stream → cell ≡ get_or (port_values net stream m (get_or fired m 0)) 0 (pos 0))
      → IsReady net source sink read (given ++ cell ∷ []) (fired_once fired m)
  ready_given cell same one found = record {
    source_is = ready.source_is;
    sink_is = ready.sink_is;
    place = ready.place ∙ sym (else source one);
    count = omega (
      arith,
      length-append given (cell ∷ []),
      ready.count,
      here,
      ap (λ n. get_or fired n 0) same,
      ap (λ n. get_or (fired_once fired m) n 0) same,
    );
    right = λ stream agrees i h. ⊎_elim
        (λ less. get_or_append_left given (cell ∷ []) (pos 0) i less ∙ ready.right stream agrees i less)
        (λ more. let last : i ≡ length given + 0 = omega (arith, length-append given (cell ∷ [])) in
        let at : get_or fired m 0 ≡ i = omega (arith, last, ready.count, ap (λ n. get_or fired n 0) same) in
        ap (λ n. get_or (given ++ cell ∷ []) n (pos 0)) last ∙ get_or-append-add given (cell ∷ []) 0 (pos 0) ∙ found stream agrees
        ∙ ap (λ n. get_or (port_values net stream m n) 0 (pos 0)) at ∙ ap (λ n. get_or (port_values net stream n i) 0 (pos 0)) same)
        (cases_lt i (length given));
  }

-- where nothing has fired
pub none_fired : (net : Net) (fired : List ℕ) (m : ℕ) → between fired ≡ zeros net → get_or fired m 0 ≡ 0
none_fired net fired m e =
    ap (λ (t : Turn). t.fired) (sym (get_or-map whole fired m 0) ∙ ap (λ ts. turn_at ts m) e ∙ unmoved_all net.modules m)
  where
    unmoved_all : (modules : List Module) (m : ℕ) → turn_at (map (λ _. unmoved) modules) m ≡ unmoved
    unmoved_all [] m = refl
    unmoved_all (x ∷ xs) zero = refl
    unmoved_all (x ∷ xs) (suc m) = unmoved_all xs m

pub ready_at_start : (net : Net) (source sink : ℕ) (fired : List ℕ) → between fired ≡ zeros net → IsSource (module_at net source)
    → IsSink (module_at net sink) → IsReady net source sink [] [] fired
ready_at_start net source sink fired e source_is sink_is = record {
  source_is = source_is;
  sink_is = sink_is;
  place = sym (none_fired net fired source e);
  count = sym (none_fired net fired sink e);
  right = λ stream agrees k h. absurd (omega arith);
}
