-- What a module sends, said queue by queue.
use Rattle.std.proofs.Common.{◌≡◌, ℕ, ◌<◌, List, [], length, map, get_or, slice_index_or, refl, sym, ap, ◌∙◌, arith, ℤ, pos}
use Rattle.std.proofs.lemmas.List.{ext_get_or, length-map, get_or-map}
use Rattle.std.proofs.lemmas.List.Elements.{Contains-get_or}
use Rattle.net_ir.specs.Nets.{Net, StandInOrder, exits}
use Rattle.net_ir.specs.declared.network.Module.{Module}
use Rattle.net_ir.specs.declared.network.Module.TheVariants.{Source, Forward, Compute, Sink}
use Rattle.staged_cells.specs.Sends.{array_of, numbered, sent_by, sent_item}
use Rattle.staged_cells.specs.Streams.{cell_number, lane_between, lane_of, module_at, receiver, sender}
use Rattle.cycle_sim.specs.Settings.{Settings, net_in, plan_in}
use Rattle.cycle_sim.specs.Sends.{SendsBy, exit_lanes}

module _ (c : Settings) (inputs : List (List ℤ)) (m k : ℕ) (ports sends : List ℤ) (stand : StandInOrder (net_in c) m)
    (many : length sends ≡ length (exits (net_in c) m)) where
  abbrev pub net : Net
  net = net_in c

  abbrev pub qs : List ℕ
  qs = exits net m

  abbrev pub item : Module → ℕ → ℤ
  item kind queue = sent_item c.program c.rows c.params c.delays (array_of inputs kind) queue k ports

  from : (kind : Module) → module_at net m ≡ kind → (j : ℕ) → j < length qs → sender net (get_or qs j 0) ≡ kind
  from kind is j lt = ap (module_at net) ((stand.all (get_or qs j 0)).0 (Contains-get_or qs j 0 lt)).1 ∙ is

  item_is : (kind : Module) (queue : ℕ) → sender net queue ≡ kind
      → item kind queue ≡ sent_by c.program c.rows c.params c.delays (array_of inputs kind) kind (lane_between kind (receiver net queue)) k ports
  unfolding sent_item
  item_is kind queue e =
      ap (λ s. sent_by c.program c.rows c.params c.delays (array_of inputs kind) s (lane_between s (receiver net queue)) k ports) e

  each : (kind : Module) → module_at net m ≡ kind → SendsBy c inputs kind k (exit_lanes net m) ports sends
      → (j : ℕ) → j < length sends → get_or sends j (pos 0) ≡ item kind (get_or qs j 0)
  each (Source v) is by j lt =
      let within : j < length qs = omega (arith, many) in
      by j lt
      ∙ ap (λ lane. numbered (slice_index_or inputs v []) (cell_number (plan_in c) v lane k))
      (get_or-map (λ queue. lane_of (receiver net queue)) qs j 0 0 within)
      ∙ sym (item_is (Source v) (get_or qs j 0) (from (Source v) is j within))
  each (Forward v lane tap) is by j lt =
      by j lt ∙ sym (item_is (Forward v lane tap) (get_or qs j 0) (from (Forward v lane tap) is j (omega (arith, many))))
  each (Compute v lane) is by j lt =
      by j lt ∙ sym (item_is (Compute v lane) (get_or qs j 0) (from (Compute v lane) is j (omega (arith, many))))
  each (Sink v) is by j lt =
      by j lt ∙ sym (item_is (Sink v) (get_or qs j 0) (from (Sink v) is j (omega (arith, many))))

  -- all that is sent, in queue order
  pub all_sent : SendsBy c inputs (module_at net m) k (exit_lanes net m) ports sends → sends ≡ map (item (module_at net m)) qs
  all_sent by =
      ext_get_or (pos 0) sends (map (item (module_at net m)) qs) (many ∙ sym (length-map qs (item (module_at net m))))
      (λ j lt. each (module_at net m) refl by j lt ∙ sym (get_or-map (item (module_at net m)) qs j 0 (pos 0) (omega (arith, many))))
