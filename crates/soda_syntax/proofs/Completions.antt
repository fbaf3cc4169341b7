-- Whatever the steps have read, some statement goes on with it.
use Rattle.std.proofs.Common.{◌≡◌, ℕ, List, [], ◌∷◌, ◌++◌, codes, Some, refl, sym, ◌∙◌, ap, subst, append_assoc}
use Rattle.soda_words.specs.declared.symbol.Symbol.TheVariants.{OpenRound, CloseRound, CloseSquare, Colon, EqualSign}
use Rattle.soda_words.specs.declared.token.Placed.{Placed}
use Rattle.soda_words.specs.declared.token.Word.{Word}
use Rattle.soda_formula.specs.Terms.{Term, literal}
use Rattle.soda_formula.specs.Grammar.{symbol_on, name_on, number_on, IsFormula}
use Rattle.soda_formula.specs.Reading.{BeginsFormula}
use Rattle.soda_syntax.specs.declared.stage.LeftSide.{LeftSide}
use Rattle.soda_syntax.specs.declared.stage.Role.{Role}
use Rattle.soda_syntax.specs.declared.stage.Role.TheVariants.{Parameter, Source, Middle, Target}
use Rattle.soda_syntax.specs.declared.stage.Setting.{Setting}
use Rattle.soda_syntax.specs.declared.stage.Setting.TheVariants.{ProgramName, Width, Factor, Times, Edge, Group}
use Rattle.soda_syntax.specs.declared.stage.Stage.{Stage}
use Rattle.soda_syntax.specs.declared.stage.Stage.TheVariants.{Start, WidthWord, FactorWord, SettingColon, SettingValue, Finished, BankOrType, BankNumber, BankMore, TypeWord, RoleColon, RoleName, Sizes, SizeNumber, SizeClose, TileOrEnd, TileItem, TileMore, OffsetsOpen, Component, Magnitude, ComponentMore, Equals, Formula}
use Rattle.soda_formula.specs.Statements.{plain_statement}
use Rattle.soda_syntax.specs.Grammar.{IsStatement, a_local, an_output}
use Rattle.soda_syntax.specs.machine.Lines.{line_of}
use Rattle.soda_syntax.specs.machine.Steps.{step, steps, declared_as}
use Rattle.soda_syntax.proofs.Running.{steps-append}
use Rattle.soda_syntax.proofs.Outcomes.{Outcome, lines, outcomes, runs}
use Rattle.soda_syntax.proofs.Sound.{IsHeadAs, local_head, output_head, IsAs, as_statement, as_head, sound}
use Rattle.soda_syntax.proofs.Standing.{BeginsStatement, number_term}

-- a value of a setting
some_value : Setting → Placed
some_value ProgramName = name_on 0 (codes "x")
some_value Edge = name_on 0 (codes "ignore")
some_value Group = name_on 0 (codes "x")
some_value _ = number_on 0 0

-- components, their bracket and the equals sign
some_components : List Placed
some_components = number_on 0 0 ∷ symbol_on 0 CloseRound ∷ symbol_on 0 EqualSign ∷ []

-- what follows a name that is declared
some_rest : Role → List Placed
some_rest Parameter = []
some_rest Source = []
some_rest Middle = symbol_on 0 OpenRound ∷ some_components
some_rest Target = symbol_on 0 OpenRound ∷ some_components

some_declared : Role → List Placed
some_declared r = symbol_on 0 Colon ∷ name_on 0 (codes "x") ∷ some_rest r

-- tokens with which the statement ends, or its left side
completion : Stage → List Placed
completion Start = name_on 0 (codes "kernel") ∷ symbol_on 0 Colon ∷ name_on 0 (codes "x") ∷ []
completion (WidthWord line) = name_on 0 (codes "width") ∷ symbol_on 0 Colon ∷ number_on 0 0 ∷ []
completion (FactorWord line) = name_on 0 (codes "factor") ∷ symbol_on 0 Colon ∷ number_on 0 0 ∷ []
completion (SettingColon h) = symbol_on 0 Colon ∷ some_value h.setting ∷ []
completion (SettingValue h) = some_value h.setting ∷ []
completion (Finished s) = []
completion (BankOrType r) = name_on 0 (codes "x") ∷ some_declared r
completion (BankNumber r) = number_on 0 0 ∷ name_on 0 (codes "x") ∷ some_declared r
completion (BankMore r) = name_on 0 (codes "x") ∷ some_declared r
completion (TypeWord r) = name_on 0 (codes "x") ∷ some_declared r
completion (RoleColon r ty) = some_declared r
completion (RoleName r ty) = name_on 0 (codes "x") ∷ some_rest r
completion (Sizes p) = []
completion (SizeNumber p) = number_on 0 0 ∷ symbol_on 0 CloseSquare ∷ []
completion (SizeClose p) = symbol_on 0 CloseSquare ∷ []
completion (TileOrEnd d) = []
completion (TileItem d) = number_on 0 0 ∷ symbol_on 0 CloseRound ∷ []
completion (TileMore d) = symbol_on 0 CloseRound ∷ []
completion (OffsetsOpen l) = symbol_on 0 OpenRound ∷ some_components
completion (Component l) = some_components
completion (Magnitude l) = some_components
completion (ComponentMore l) = symbol_on 0 CloseRound ∷ symbol_on 0 EqualSign ∷ []
completion (Equals l) = symbol_on 0 EqualSign ∷ []
completion (Formula l) = []

value_completed : (setting : Setting) (line : ℕ) → (out : Outcome) × (runs (Some (SettingValue (record { setting = setting; line = line })))
    (some_value setting ∷ []) ≡ Some out)
unfolding step some_value
value_completed ProgramName line = (_, refl)
value_completed Width line = (_, refl)
value_completed Factor line = (_, refl)
value_completed Times line = (_, refl)
value_completed Edge line = (_, refl)
value_completed Group line = (_, refl)

rest_completed : (r : Role) (ty name : Word) → (out : Outcome) × (runs (Some (declared_as r ty name)) (some_rest r) ≡ Some out)
unfolding step some_rest some_components
rest_completed Parameter ty name = (_, refl)
rest_completed Source ty name = (_, refl)
rest_completed Middle ty name = (_, refl)
rest_completed Target ty name = (_, refl)

word_x : Word
word_x = record { line = 0; text = codes "x" }

completed : (s : Stage) → (out : Outcome) × (runs (Some s) (completion s) ≡ Some out)
unfolding step completion some_declared some_components word_x
completed Start = (_, refl)
completed (WidthWord line) = (_, refl)
completed (FactorWord line) = (_, refl)
completed (SettingColon h) = value_completed h.setting h.line
completed (SettingValue h) = value_completed h.setting h.line
completed (Finished s) = (_, refl)
completed (BankOrType r) = rest_completed r word_x word_x
completed (BankNumber r) = rest_completed r word_x word_x
completed (BankMore r) = rest_completed r word_x word_x
completed (TypeWord r) = rest_completed r word_x word_x
completed (RoleColon r ty) = rest_completed r ty word_x
completed (RoleName r ty) = rest_completed r ty word_x
completed (Sizes p) = (_, refl)
completed (SizeNumber p) = (_, refl)
completed (SizeClose p) = (_, refl)
completed (TileOrEnd d) = (_, refl)
completed (TileItem d) = (_, refl)
completed (TileMore d) = (_, refl)
completed (OffsetsOpen l) = (_, refl)
completed (Component l) = (_, refl)
completed (Magnitude l) = (_, refl)
completed (ComponentMore l) = (_, refl)
completed (Equals l) = (_, refl)
completed (Formula l) = (_, refl)

-- a head and a formula are a statement
pub line_whole : {l : LeftSide} {head part : List Placed} {a : Term} → IsHeadAs l head → IsFormula part a → IsStatement (head ++ part) (line_of l a)
line_whole (local_head ty name left h) f = a_local ty name h f
line_whole (output_head ty name left h) f = an_output ty name h f

outcome_begins : (ts more : List Placed) (out : Outcome) → IsAs out (ts ++ more) → BeginsStatement ts
outcome_begins ts more out (as_statement {s} is) = (more, plain_statement s, is)
outcome_begins ts more out (as_head {l} h) = (
  more ++ number_on 0 0 ∷ [],
  line_of l (literal 0),
  subst (λ x. IsStatement x (line_of l (literal 0))) (append_assoc ts more (number_on 0 0 ∷ []))
      (line_whole h (number_term 0 0)),
)

-- where the steps stand, some statement begins
pub head_begins : (ts : List Placed) (s : Stage) → steps (Some Start) ts ≡ Some s → BeginsStatement ts
head_begins ts s e =
    let c : (out : Outcome) × (runs (Some s) (completion s) ≡ Some out) = completed s in
    outcome_begins ts (completion s) c.0 (sound (ts ++ completion s) c.0
    (ap outcomes (steps-append (Some Start) ts (completion s)) ∙ (ap (λ o. runs o (completion s)) e ∙ c.1)))

head_of_line : {l : LeftSide} {ts : List Placed} → IsAs (lines l) ts → IsHeadAs l ts
head_of_line (as_head h) = h

-- where the steps end at a formula, a head is read
pub head_is : (ts : List Placed) (l : LeftSide) → steps (Some Start) ts ≡ Some (Formula l) → IsHeadAs l ts
head_is ts l e = head_of_line (sound ts (lines l) (ap outcomes e))

-- a head and the beginning of a formula begin a statement
pub formula_begins : (head part : List Placed) (l : LeftSide) → steps (Some Start) head ≡ Some (Formula l) → BeginsFormula part → BeginsStatement (head ++ part)
formula_begins head part l e (rest, a, f) =
    (rest, line_of l a, subst (λ x. IsStatement x (line_of l a)) (sym (append_assoc head part rest)) (line_whole (head_is head l e) f))
