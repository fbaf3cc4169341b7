-- What the modules of a blur send is what the law asks for.
use Rattle.std.proofs.Common.{◌≡◌, ◌<◌, ℕ, ℤ, pos, List, length, get_or, sym, ap, ◌∙◌, arith}
use Rattle.std.proofs.lemmas.List.{ext_get_or, length-map}
use Rattle.net_ir.specs.declared.network.Module.{Module}
use Rattle.net_ir.specs.Nets.{Net, exits}
use Rattle.net_cycles.specs.Streams.{Streams, port_values, sent_values}
use Rattle.bench_cycles.specs.Blurred.{module_at, sent_at, IsLaw}

pub lawful_sends : (net : Net) (stream : Streams) (m k : ℕ) (ports values : List ℤ) (kind : Module) → IsLaw net stream
    → m < length net.modules → module_at net m ≡ kind → ports ≡ port_values net stream m k
    → length values ≡ length (exits net m) → ((j : ℕ) → j < length values → get_or values j (pos 0) ≡ sent_at kind k ports j)
    → values ≡ sent_values net stream m k
lawful_sends net stream m k ports values kind law known is found places each =
    ext_get_or (pos 0) values (sent_values net stream m k) (places ∙ sym (length-map (exits net m) (λ q. stream q k)))
    (λ j h. each j h ∙ ap (λ x. sent_at x k ports j) (sym is) ∙ ap (λ xs. sent_at (module_at net m) k xs j) found
    ∙ sym (law m k j known (omega (arith, places))))
