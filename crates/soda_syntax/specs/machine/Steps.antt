-- A statement, one token at a time: what each token makes of what is read of it.
use Rattle.std.specs.Prelude.{ℕ, true, false, nat_lt, List, [], ◌∷◌, ◌++◌, length, codes, Option, Some, None, ℤ, pos, neg_ℤ, if◌then◌else◌}
use Rattle.soda_words.specs.Limits.{most_sizes}
use Rattle.soda_words.specs.Names.{is_word}
use Rattle.soda_words.specs.declared.symbol.Symbol.TheVariants.{OpenRound, CloseRound, OpenSquare, CloseSquare, MinusSign, Star, Comma, Colon, EqualSign, Dot}
use Rattle.soda_words.specs.declared.token.Placed.{Placed}
use Rattle.soda_words.specs.declared.token.Token.{Token}
use Rattle.soda_words.specs.declared.token.Token.TheVariants.{Name, Number, Sign}
use Rattle.soda_words.specs.declared.token.Word.{Word}
use Rattle.soda_syntax.specs.declared.stage.Heading.{Heading}
use Rattle.soda_syntax.specs.declared.stage.LeftSide.{LeftSide}
use Rattle.soda_syntax.specs.declared.stage.Next.{Next}
use Rattle.soda_syntax.specs.declared.stage.Next.TheVariants.{Goes, Whole, Wrong}
use Rattle.soda_syntax.specs.declared.stage.Role.{Role}
use Rattle.soda_syntax.specs.declared.stage.Role.TheVariants.{Parameter, Source, Middle, Target}
use Rattle.soda_syntax.specs.declared.stage.Setting.{Setting}
use Rattle.soda_syntax.specs.declared.stage.Setting.TheVariants.{ProgramName, Width, Factor, Times, Edge, Group}
use Rattle.soda_syntax.specs.declared.stage.Stage.{Stage}
use Rattle.soda_syntax.specs.declared.stage.Stage.TheVariants.{Start, WidthWord, FactorWord, SettingColon, SettingValue, Finished, BankOrType, BankNumber, BankMore, TypeWord, RoleColon, RoleName, Sizes, SizeNumber, SizeClose, TileOrEnd, TileItem, TileMore, OffsetsOpen, Component, Magnitude, ComponentMore, Equals, Formula}
use Rattle.soda_syntax.specs.declared.stage.TileSoFar.{TileSoFar}
use Rattle.soda_formula.specs.declared.statement.Extent.{Extent}
use Rattle.soda_formula.specs.declared.statement.Extent.TheVariants.{Fixed, Open}
use Rattle.soda_formula.specs.declared.statement.ParamLine.{ParamLine}
use Rattle.soda_formula.specs.declared.statement.Statement.{Statement}
use Rattle.soda_formula.specs.declared.statement.Statement.TheVariants.{Kernel, BurstWidth, UnrollFactor, Iterate, Border, Cluster, Param, Input}

-- behind the whole first part of a setting
abbrev pub headed : Setting → ℕ → Next
headed setting line = Goes (SettingColon (record { setting = setting; line = line }))

-- behind a first word that begins no setting
abbrev pub declaring : List ℕ → Next
declaring w =
    if is_word (codes "param") w then Goes (TypeWord Parameter) else
    (if is_word (codes "input") w then Goes (BankOrType Source) else
    (if is_word (codes "local") w then Goes (TypeWord Middle) else
    (if is_word (codes "output") w then Goes (BankOrType Target) else Wrong)))

-- behind a first word
abbrev pub begun : ℕ → List ℕ → Next
begun line w =
    if is_word (codes "kernel") w then headed ProgramName line else
    (if is_word (codes "burst") w then Goes (WidthWord line) else
    (if is_word (codes "unroll") w then Goes (FactorWord line) else
    (if is_word (codes "iterate") w then headed Times line else
    (if is_word (codes "border") w then headed Edge line else
    (if is_word (codes "cluster") w then headed Group line else declaring w)))))

abbrev pub after_nothing : ℕ → Token → Next
after_nothing line (Name w) = begun line w
after_nothing line _ = Wrong

abbrev pub after_burst : ℕ → Token → Next
after_burst line (Name w) = if is_word (codes "width") w then headed Width line else Wrong
after_burst line _ = Wrong

abbrev pub after_unroll : ℕ → Token → Next
after_unroll line (Name w) = if is_word (codes "factor") w then headed Factor line else Wrong
after_unroll line _ = Wrong

abbrev pub after_heading : Heading → Token → Next
after_heading h (Sign Colon) = Goes (SettingValue h)
after_heading h _ = Wrong

-- the word for what is outside the outputs' regions
abbrev pub edge_value : ℕ → List ℕ → Next
edge_value line w =
    if is_word (codes "ignore") w then Goes (Finished (Border line false)) else
    (if is_word (codes "preserve") w then Goes (Finished (Border line true)) else Wrong)

-- a name as the value of a setting
abbrev pub named_value : Setting → ℕ → List ℕ → Next
named_value ProgramName line w = Goes (Finished (Kernel line w))
named_value Edge line w = edge_value line w
named_value Group line w = Goes (Finished (Cluster line))
named_value _ line w = Wrong

-- a number as the value of a setting
abbrev pub number_value : Setting → ℕ → ℕ → Next
number_value Width line n = Goes (Finished (BurstWidth line n))
number_value Factor line n = Goes (Finished (UnrollFactor line n))
number_value Times line n = Goes (Finished (Iterate line n))
number_value _ line n = Wrong

abbrev pub after_colon : Heading → Token → Next
after_colon h (Name w) = named_value h.setting h.line w
after_colon h (Number n) = number_value h.setting h.line n
after_colon h _ = Wrong

abbrev pub typed : Role → ℕ → List ℕ → Next
typed role line w = Goes (RoleColon role (record { line = line; text = w }))

-- a type
abbrev pub at_type : Role → ℕ → Token → Next
at_type role line (Name w) = if is_word (codes "dram") w then Wrong else typed role line w
at_type role line _ = Wrong

-- a bank or a type
abbrev pub at_bank : Role → ℕ → Token → Next
at_bank role line (Name w) = if is_word (codes "dram") w then Goes (BankNumber role) else typed role line w
at_bank role line _ = Wrong

abbrev pub after_dram : Role → Token → Next
after_dram role (Number n) = Goes (BankMore role)
after_dram role _ = Wrong

abbrev pub after_bank_number : Role → ℕ → Token → Next
after_bank_number role line (Sign Dot) = Goes (BankNumber role)
after_bank_number role line t = at_type role line t

abbrev pub after_type : Role → Word → Token → Next
after_type role ty (Sign Colon) = Goes (RoleName role ty)
after_type role ty _ = Wrong

abbrev pub left_side : Role → Word → Word → LeftSide
left_side role ty name = record { role = role; ty = ty; name = name; offsets = [] }

-- behind a name that is declared
abbrev pub declared_as : Role → Word → Word → Stage
declared_as Parameter ty name = Sizes (record { ty = ty; name = name; sizes = [] })
declared_as Source ty name = TileOrEnd (record { ty = ty; name = name; items = [] })
declared_as Middle ty name = OffsetsOpen (left_side Middle ty name)
declared_as Target ty name = OffsetsOpen (left_side Target ty name)

abbrev pub at_name : Role → Word → ℕ → Token → Next
at_name role ty line (Name w) = Goes (declared_as role ty (record { line = line; text = w }))
at_name role ty line _ = Wrong

abbrev pub after_sizes : ParamLine → Token → Next
after_sizes p (Sign OpenSquare) = if nat_lt (length p.sizes) most_sizes then Goes (SizeNumber p) else Whole (Param p)
after_sizes p _ = Whole (Param p)

abbrev pub more_sizes : ParamLine → ℕ → ℕ → ParamLine
more_sizes p line n = record { ty = p.ty; name = p.name; sizes = p.sizes ++ record { line = line; value = n } ∷ [] }

abbrev pub at_size : ParamLine → ℕ → Token → Next
at_size p line (Number n) = Goes (SizeClose (more_sizes p line n))
at_size p line _ = Wrong

abbrev pub after_size : ParamLine → Token → Next
after_size p (Sign CloseSquare) = Goes (Sizes p)
after_size p _ = Wrong

-- an input without a tile
abbrev pub untiled : TileSoFar → Statement
untiled d = Input (record { ty = d.ty; name = d.name; tile = None })

abbrev pub tiled : TileSoFar → Statement
tiled d = Input (record { ty = d.ty; name = d.name; tile = Some d.items })

abbrev pub after_input : TileSoFar → Token → Next
after_input d (Sign OpenRound) = Goes (TileItem d)
after_input d _ = Whole (untiled d)

abbrev pub more_items : TileSoFar → Extent → TileSoFar
more_items d e = record { ty = d.ty; name = d.name; items = d.items ++ e ∷ [] }

abbrev pub at_item : TileSoFar → Token → Next
at_item d (Number n) = Goes (TileMore (more_items d (Fixed n)))
at_item d (Sign Star) = Goes (TileMore (more_items d Open))
at_item d _ = Wrong

abbrev pub after_item : TileSoFar → Token → Next
after_item d (Sign Comma) = Goes (TileItem d)
after_item d (Sign CloseRound) = Goes (Finished (tiled d))
after_item d _ = Wrong

abbrev pub at_offsets : LeftSide → Token → Next
at_offsets l (Sign OpenRound) = Goes (Component l)
at_offsets l _ = Wrong

abbrev pub more_offsets : LeftSide → ℤ → LeftSide
more_offsets l o = record { role = l.role; ty = l.ty; name = l.name; offsets = l.offsets ++ o ∷ [] }

abbrev pub at_component : LeftSide → Token → Next
at_component l (Number n) = Goes (ComponentMore (more_offsets l (pos n)))
at_component l (Sign MinusSign) = Goes (Magnitude l)
at_component l _ = Wrong

abbrev pub at_magnitude : LeftSide → Token → Next
at_magnitude l (Number n) = Goes (ComponentMore (more_offsets l (neg_ℤ (pos n))))
at_magnitude l _ = Wrong

abbrev pub after_component : LeftSide → Token → Next
after_component l (Sign Comma) = Goes (Component l)
after_component l (Sign CloseRound) = Goes (Equals l)
after_component l _ = Wrong

abbrev pub at_equals : LeftSide → Token → Next
at_equals l (Sign EqualSign) = Goes (Formula l)
at_equals l _ = Wrong

-- what a token is to what is read of a statement
unfoldable pub step : Stage → Placed → Next
step Start p = after_nothing p.line p.token
step (WidthWord line) p = after_burst line p.token
step (FactorWord line) p = after_unroll line p.token
step (SettingColon h) p = after_heading h p.token
step (SettingValue h) p = after_colon h p.token
step (Finished s) p = Whole s
step (BankOrType r) p = at_bank r p.line p.token
step (BankNumber r) p = after_dram r p.token
step (BankMore r) p = after_bank_number r p.line p.token
step (TypeWord r) p = at_type r p.line p.token
step (RoleColon r ty) p = after_type r ty p.token
step (RoleName r ty) p = at_name r ty p.line p.token
step (Sizes q) p = after_sizes q p.token
step (SizeNumber q) p = at_size q p.line p.token
step (SizeClose q) p = after_size q p.token
step (TileOrEnd d) p = after_input d p.token
step (TileItem d) p = at_item d p.token
step (TileMore d) p = after_item d p.token
step (OffsetsOpen l) p = at_offsets l p.token
step (Component l) p = at_component l p.token
step (Magnitude l) p = at_magnitude l p.token
step (ComponentMore l) p = after_component l p.token
step (Equals l) p = at_equals l p.token
step (Formula l) p = Wrong

-- the statement that may end here, but for one with a formula
abbrev pub finish : Stage → Option Statement
finish (Finished s) = Some s
finish (Sizes p) = Some (Param p)
finish (TileOrEnd d) = Some (untiled d)
finish _ = None

abbrev pub stage_of : Next → Option Stage
stage_of (Goes s) = Some s
stage_of (Whole s) = None
stage_of Wrong = None

abbrev pub then_step : Option Stage → Placed → Option Stage
then_step None p = None
then_step (Some s) p = stage_of (step s p)

-- what is read behind some tokens
abbrev pub steps : Option Stage → List Placed → Option Stage
steps o [] = o
steps o (p ∷ ps) = steps (then_step o p) ps
