use Rattle.std.proofs.Common.{ℕ, map, nat_eq, sym, unwrap_or}
use Rattle.std.specs.HashMap.{get}
use Rattle.soda_ir.specs.Program.{plain_tensor}
use Rattle.soda_ir.specs.Tree.{formula_of}
use Rattle.share_shape.specs.Compounds.{site}
use Rattle.share_shape.specs.machine.Marks.{is_repeated}
use Rattle.share_shape.proofs.Tables.{first_is_shared, none_is_shared, passing_cell}
use Rattle.share_shape.proofs.sites.first_site.Goals as goal

pub is_twice-requires : goal.is_twice-requires
is_twice-requires c =
    passing_cell (is_repeated (λ q. unwrap_or (get nat_eq c.in_ok-counts.counts q) 0)) (site c.in-Some.at (formula_of c.in-Some.compound.now)) (map plain_tensor c.args.tensors.now) c.in-Some.ensures

pub returns-in-None : goal.returns-in-None
returns-in-None c =
    let count : ℕ → ℕ = λ q. unwrap_or (get nat_eq c.in_ok-counts.counts q) 0 in
    none_is_shared (map plain_tensor c.args.tensors.now) c.requires.dims.0 c.requires.dims.1 count c.in_ok-counts.ensures c.in-None.ensures

pub returns-then-is_twice : goal.returns-then-is_twice
returns-then-is_twice c =
    let count : ℕ → ℕ = λ q. unwrap_or (get nat_eq c.in_ok-counts.counts q) 0 in
    first_is_shared (map plain_tensor c.args.tensors.now) c.requires.dims.0 c.requires.dims.1 count c.in_ok-counts.ensures (site c.in-Some.at (formula_of c.in-Some.compound.now)) c.in-Some.ensures (sym c.if-is_twice.ensures)
