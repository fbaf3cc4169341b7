-- The queues of a plan, in queue order: by sender, and of one sender as listed here.
use Rattle.std.specs.Prelude.{ℕ, ◌+◌, ◌/◌, ◌%◌, Bool, ◌&&◌, ◌||◌, ◌==◌, nat_lt, max, List, [], ◌∷◌, ◌++◌, map, filter, flat_map, length, pos, slice_index_or, if◌then◌else◌}
use Rattle.std.specs.List.{range_with_len}
use Rattle.delay_net.specs.declared.net.Read.{Read}
use Rattle.net_ir.specs.Nets.{Net}
use Rattle.net_ir.specs.declared.network.Module.{Module}
use Rattle.net_ir.specs.declared.network.Module.TheVariants.{Source, Forward, Compute, Sink}
use Rattle.net_ir.specs.declared.network.Queue.{Queue}
use Rattle.net_shape.specs.Lists.{joined}
use Rattle.net_shape.specs.Modules.{gap_of, modules_of, number_of}
use Rattle.net_shape.specs.Plans.{Plan, age_of, kind_at, taps_at}
use Rattle.net_shape.specs.declared.kinds.Kind.TheVariants.{Input, Inner, Output}

-- the queue from a module to the forwarding module at the first of these taps of a lane, if there is one: its capacity
-- is the tap's gap where that is at least 1, else 1
abbrev pub link : Plan → Module → (v lane : ℕ) → List ℕ → List Queue
link p m v lane [] = []
link p m v lane (tap ∷ taps) = record {
  from = number_of p m;
  to = number_of p (Forward v lane tap);
  port = 0;
  capacity = max 1 (gap_of (taps_at p v lane) tap);
  lead = 0;
} ∷ []

-- the taps above one
abbrev pub taps_above : ℕ → List ℕ → List ℕ
taps_above tap taps = filter (λ t. nat_lt tap t) taps

-- the read of a number
abbrev pub read_at : Plan → ℕ → Read
read_at p n = slice_index_or p.reads n (record { reader = 0; of = 0; offset = pos 0 })

-- the read of a number is of the tensor, and at the lane it belongs to the tap
abbrev pub is_served : Plan → (v lane tap n : ℕ) → Bool
is_served p v lane tap n =
    (read_at p n).of == v && (lane + age_of p (read_at p n)) / p.unroll == tap

-- the computing module that such a read belongs to
abbrev pub reader_of : Plan → (lane n : ℕ) → Module
reader_of p lane n = Compute (read_at p n).reader ((lane + age_of p (read_at p n)) % p.unroll)

-- the queue from a forwarding module to that computing module; its port is the read's number
abbrev pub serving : Plan → (v lane tap n : ℕ) → Queue
serving p v lane tap n = record {
  from = number_of p (Forward v lane tap);
  to = number_of p (reader_of p lane n);
  port = n;
  capacity = 1;
  lead = tap;
}

-- a queue goes before another by its receiver's number, and with the same receiver by its port
abbrev pub goes_before : Queue → Queue → Bool
goes_before a b = nat_lt a.to b.to || (a.to == b.to && nat_lt a.port b.port)

-- a queue put in its place, and queues put in order
abbrev pub put_queue : Queue → List Queue → List Queue
put_queue a [] = a ∷ []
put_queue a (b ∷ bs) = if goes_before a b then a ∷ b ∷ bs else b ∷ put_queue a bs

abbrev pub by_receiver : List Queue → List Queue
by_receiver [] = []
by_receiver (a ∷ later) = put_queue a (by_receiver later)

-- the queues from a forwarding module to the computing modules that its tap serves, by module number and port
unfoldable pub served : Plan → (v lane tap : ℕ) → List Queue
served p v lane tap =
    by_receiver (map (serving p v lane tap) (filter (is_served p v lane tap) (range_with_len 0 (length p.reads))))

-- the queue from a computing module of an output to its sink; the port is the lane
unfoldable pub to_sink : Plan → (v lane : ℕ) → List Queue
to_sink p v lane = elim (kind_at p v) [
  | Input ↦ []
  | Inner ↦ []
  | Output ↦ record {
    from = number_of p (Compute v lane);
    to = number_of p (Sink v);
    port = lane;
    capacity = 1;
    lead = 0;
  } ∷ []
]

-- The queues from a module. A source has one to the first forwarding module of each lane, where its tensor is read; a
-- forwarding module one to the next of its lane, and then those that its tap serves; a computing module one to the
-- first forwarding module of its lane, and then one to its sink.
unfoldable pub queues_from : Plan → Module → List Queue
queues_from p (Source v) = joined (λ lane. link p (Source v) v lane (taps_at p v lane)) p.unroll
queues_from p (Forward v lane tap) =
    link p (Forward v lane tap) v lane (taps_above tap (taps_at p v lane)) ++ served p v lane tap
queues_from p (Compute v lane) = link p (Compute v lane) v lane (taps_at p v lane) ++ to_sink p v lane
queues_from p (Sink v) = []

-- the network of a plan
unfoldable pub network_of : Plan → Net
network_of p = record { modules = modules_of p; queues = flat_map (queues_from p) (modules_of p) }
