-- The names in an outline.
use Rattle.std.specs.Prelude.{map}
use Rattle.soda_checks.specs.declared.names.Names.{Names}
use Rattle.soda_checks.specs.declared.outline.Outline.{Outline}

-- the names of all that is declared, of the inputs, of the locals and outputs, and of the params, each in text order
abbrev pub names_of : Outline → Names
names_of o = record {
  declared = map (λ w. w.text) o.declared;
  inputs = map (λ i. i.name.text) o.inputs;
  defined = map (λ d. d.name.text) o.defined;
  params = map (λ q. q.name.text) o.params;
}
