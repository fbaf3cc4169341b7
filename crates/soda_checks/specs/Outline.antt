-- What the conditions on a text look at, in the order of its statements.
use Rattle.std.specs.Prelude.{ℕ, Bool, true, false, List, [], ◌∷◌, ◌++◌, map, filter}
use Rattle.std.specs.List.{list_any}
use Rattle.soda_formula.specs.Terms.{Term, literal, cell, value, unary, binary, choice, cast}
use Rattle.soda_checks.specs.declared.outline.Defined.{Defined}
use Rattle.soda_checks.specs.declared.outline.Outline.{Outline}
use Rattle.soda_checks.specs.declared.outline.SettingKind.{SettingKind}
use Rattle.soda_checks.specs.declared.outline.Site.{Site}
use Rattle.soda_checks.specs.declared.outline.Site.TheVariants.{Size as SiteSize, Left, Cell, Value}
use Rattle.soda_checks.specs.declared.outline.SettingKind.TheVariants.{Kernel, BurstWidth, UnrollFactor, Iterate, Border, Cluster}
use Rattle.soda_formula.specs.Statements.{PlainStatement, PlainFormulaLine, kernel, burst_width, unroll_factor, iterate, border, cluster, param, input, local, output}
use Rattle.soda_formula.specs.declared.statement.InputLine.{InputLine}
use Rattle.soda_formula.specs.declared.statement.ParamLine.{ParamLine}
use Rattle.soda_words.specs.Names.{is_word}
use Rattle.soda_words.specs.declared.token.Word.{Word}

-- the names in a formula, from the left
abbrev pub uses_in : Term → List Site
uses_in (literal n) = []
uses_in (cell t o) = Cell t o ∷ []
uses_in (value p i) = Value p i ∷ []
uses_in (unary op a) = uses_in a
uses_in (binary op a b) = uses_in a ++ uses_in b
uses_in (choice c a b) = uses_in c ++ (uses_in a ++ uses_in b)
uses_in (cast t a) = uses_in a

-- the cast words in a formula, from the left
abbrev pub casts_in : Term → List Word
casts_in (literal n) = []
casts_in (cell t o) = []
casts_in (value p i) = []
casts_in (unary op a) = casts_in a
casts_in (binary op a b) = casts_in a ++ casts_in b
casts_in (choice c a b) = casts_in c ++ (casts_in a ++ casts_in b)
casts_in (cast t a) = t ∷ casts_in a

-- what the conditions look at of a local or output
abbrev pub defined_by : (is_output : Bool) → PlainFormulaLine → Defined
defined_by o f = record { is_output = o; ty = f.ty; name = f.name }

-- nothing
abbrev pub empty : Outline
empty = record {
  settings = [];
  bursts = [];
  unrolls = [];
  iterates = [];
  preserves = [];
  types = [];
  declared = [];
  params = [];
  inputs = [];
  defined = [];
  sites = [];
}

-- what stands in one, and then what stands in another
abbrev pub joined : Outline → Outline → Outline
joined a b = record {
  settings = a.settings ++ b.settings;
  bursts = a.bursts ++ b.bursts;
  unrolls = a.unrolls ++ b.unrolls;
  iterates = a.iterates ++ b.iterates;
  preserves = a.preserves ++ b.preserves;
  types = a.types ++ b.types;
  declared = a.declared ++ b.declared;
  params = a.params ++ b.params;
  inputs = a.inputs ++ b.inputs;
  defined = a.defined ++ b.defined;
  sites = a.sites ++ b.sites;
}

-- a setting alone
abbrev pub setting_alone : ℕ → SettingKind → Outline
setting_alone line kind = record empty { settings = record { line = line; kind = kind } ∷ [] }

-- a local or output alone
abbrev pub defined_alone : (is_output : Bool) → PlainFormulaLine → Outline
defined_alone o f = record empty {
  types = f.ty ∷ casts_in f.formula;
  declared = f.name ∷ [];
  defined = defined_by o f ∷ [];
  sites = Left f.name f.left ∷ uses_in f.formula;
}

-- a param alone
abbrev pub param_alone : ParamLine → Outline
param_alone p = record empty {
  types = p.ty ∷ [];
  declared = p.name ∷ [];
  params = p ∷ [];
  sites = map (λ s. SiteSize s) p.sizes;
}

-- an input alone
abbrev pub input_alone : InputLine → Outline
input_alone i = record empty { types = i.ty ∷ []; declared = i.name ∷ []; inputs = i ∷ [] }

-- what the conditions look at of a statement
unfoldable pub outline_in : PlainStatement → Outline
outline_in (kernel l w) = setting_alone l Kernel
outline_in (burst_width l n) = record (setting_alone l BurstWidth) { bursts = n ∷ [] }
outline_in (unroll_factor l n) = record (setting_alone l UnrollFactor) { unrolls = n ∷ [] }
outline_in (iterate l n) = record (setting_alone l Iterate) { iterates = n ∷ [] }
outline_in (border l p) = record (setting_alone l Border) { preserves = p ∷ [] }
outline_in (cluster l) = setting_alone l Cluster
outline_in (param p) = param_alone p
outline_in (input i) = input_alone i
outline_in (local f) = defined_alone false f
outline_in (output f) = defined_alone true f

-- what the conditions look at of statements
unfoldable pub outline_of : List PlainStatement → Outline
outline_of [] = empty
outline_of (s ∷ ss) = joined (outline_in s) (outline_of ss)

-- the outputs, in text order
abbrev pub outputs_of : List Defined → List Defined
outputs_of ds = filter (λ d. d.is_output) ds

-- two words are written alike
abbrev pub is_same : Word → Word → Bool
is_same a b = is_word a.text b.text

-- the word is written like one of these
abbrev pub is_one_of : List Word → Word → Bool
is_one_of ws w = list_any (is_same w) ws
