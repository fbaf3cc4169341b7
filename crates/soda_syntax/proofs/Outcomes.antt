-- What the steps end in, and what they take on the way, one token at a time.
use Rattle.std.proofs.Common.{◌≡◌, ◌⊎◌, inl, inr, ℕ, ◌<◌, Bool, true, false, nat_lt, List, [], ◌∷◌, length, codes, Option, Some, None, pos, neg_ℤ, refl, sym, ◌∙◌, ap, subst, if◌then◌else◌}
use Rattle.std.proofs.lemmas.Bool.{ltb-true}
use Rattle.soda_words.specs.Names.{is_word}
use Rattle.soda_words.specs.declared.symbol.Symbol.{Symbol}
use Rattle.soda_words.specs.declared.symbol.Symbol.TheVariants.{OpenRound, CloseRound, OpenSquare, CloseSquare, MinusSign, Star, Comma, Colon, EqualSign, Dot}
use Rattle.soda_words.specs.declared.token.Placed.{Placed}
use Rattle.soda_words.specs.declared.token.Token.{Token}
use Rattle.soda_words.specs.declared.token.Token.TheVariants.{Name, Number, Sign}
use Rattle.soda_words.specs.declared.token.Word.{Word}
use Rattle.soda_formula.specs.Grammar.{symbol_on, name_on, number_on, word_on}
use Rattle.soda_syntax.specs.declared.stage.Heading.{Heading}
use Rattle.soda_syntax.specs.declared.stage.LeftSide.{LeftSide}
use Rattle.soda_syntax.specs.declared.stage.Next.{Next}
use Rattle.soda_syntax.specs.declared.stage.Next.TheVariants.{Goes, Whole, Wrong}
use Rattle.soda_syntax.specs.declared.stage.Role.{Role}
use Rattle.soda_syntax.specs.declared.stage.Role.TheVariants.{Parameter, Source, Middle, Target}
use Rattle.soda_syntax.specs.declared.stage.Setting.{Setting}
use Rattle.soda_syntax.specs.declared.stage.Setting.TheVariants.{ProgramName, Width, Factor, Times, Edge, Group}
use Rattle.soda_syntax.specs.declared.stage.Stage.{Stage}
use Rattle.soda_syntax.specs.declared.stage.Stage.TheVariants.{Start, WidthWord, FactorWord, SettingColon, SettingValue, Finished, BankOrType, BankNumber, BankMore, TypeWord, RoleColon, RoleName, Sizes, SizeNumber, SizeClose, TileOrEnd, TileItem, TileMore, OffsetsOpen, Component, Magnitude, ComponentMore, Equals, Formula}
use Rattle.soda_syntax.specs.declared.stage.TileSoFar.{TileSoFar}
use Rattle.soda_formula.specs.declared.statement.Extent.{Extent}
use Rattle.soda_formula.specs.declared.statement.Extent.TheVariants.{Fixed, Open}
use Rattle.soda_formula.specs.declared.statement.ParamLine.{ParamLine}
use Rattle.soda_formula.specs.declared.statement.Statement.{Statement}
use Rattle.soda_formula.specs.declared.statement.Statement.TheVariants.{Kernel, BurstWidth, UnrollFactor, Iterate, Border, Cluster, Param}
use Rattle.soda_syntax.specs.Grammar.{MayBeType, IsExtent, a_number, a_star}
use Rattle.soda_syntax.specs.machine.Steps.{step, steps, stage_of, declared_as, typed, headed, begun, declaring, untiled, tiled, more_sizes, more_items, more_offsets}
use Rattle.soda_syntax.proofs.Running.{steps-none, some_not_none}
use Rattle.soda_syntax.proofs.Words.{word_is}

-- what the steps end in: a whole statement, or where a formula begins
pub data Outcome : Type 0 where
  ends : Statement → Outcome
  lines : LeftSide → Outcome

abbrev pub outcome : Stage → Option Outcome
outcome (Finished s) = Some (ends s)
outcome (Sizes p) = Some (ends (Param p))
outcome (TileOrEnd d) = Some (ends (untiled d))
outcome (Formula l) = Some (lines l)
outcome _ = None

abbrev pub outcomes : Option Stage → Option Outcome
outcomes None = None
outcomes (Some s) = outcome s

abbrev pub runs : Option Stage → List Placed → Option Outcome
runs o ts = outcomes (steps o ts)

-- what follows a token that makes this of what was read
abbrev pub goes : Next → List Placed → Option Outcome
goes n ts = runs (stage_of n) ts

pub dead : {A : Type 0} (ts : List Placed) (out : Outcome) → runs None ts ≡ Some out → A
dead ts out e = absurd (some_not_none (sym e ∙ ap outcomes (steps-none ts)))

some_one : {a b : Outcome} → Some a ≡ Some b → a ≡ b
some_one e = cc

pub finished : (s : Statement) (ts : List Placed) (out : Outcome) → runs (Some (Finished s)) ts ≡ Some out → (ts ≡ []) × (ends s ≡ out)
unfolding step
finished s [] out e = (refl, some_one e)
finished s (t ∷ ts) out e = dead ts out e

pub formula_at : (l : LeftSide) (ts : List Placed) (out : Outcome) → runs (Some (Formula l)) ts ≡ Some out → (ts ≡ []) × (lines l ≡ out)
unfolding step
formula_at l [] out e = (refl, some_one e)
formula_at l (t ∷ ts) out e = dead ts out e

pub choose : (b : Bool) (x y : Next) (ts : List Placed) (out : Outcome) → goes (if b then x else y) ts ≡ Some out
    → ((b ≡ true) × (goes x ts ≡ Some out)) ⊎ ((b ≡ false) × (goes y ts ≡ Some out))
choose true x y ts out e = inl (refl, e)
choose false x y ts out e = inr (refl, e)

-- the token is this symbol
pub record TakesSymbol (s : Symbol) (p : Placed) (next : Stage) (ts : List Placed) (out : Outcome) : Type 0 where
  pub line : ℕ
  pub is : p ≡ symbol_on line s
  pub on : runs (Some next) ts ≡ Some out

-- the token is a number
pub record TakesNumber (p : Placed) (next : ℕ → ℕ → Stage) (ts : List Placed) (out : Outcome) : Type 0 where
  pub line : ℕ
  pub number : ℕ
  pub is : p ≡ number_on line number
  pub on : runs (Some (next line number)) ts ≡ Some out

-- the token is a name
pub record TakesName (p : Placed) (next : Word → Stage) (ts : List Placed) (out : Outcome) : Type 0 where
  pub word : Word
  pub is : p ≡ word_on word
  pub on : runs (Some (next word)) ts ≡ Some out

-- the token is a type
pub record TakesType (r : Role) (p : Placed) (ts : List Placed) (out : Outcome) : Type 0 where
  pub word : Word
  pub is : p ≡ word_on word
  pub may : MayBeType word
  pub on : runs (Some (RoleColon r word)) ts ≡ Some out

placed : ℕ → Token → Placed
placed l t = record { line = l; token = t }

module _ (l : ℕ) (ts : List Placed) (out : Outcome) where
  pub colon_taken : (h : Heading) (t : Token) → runs (Some (SettingColon h)) (record { line = l; token = t } ∷ ts) ≡ Some out
      → TakesSymbol Colon (record { line = l; token = t }) (SettingValue h) ts out
  unfolding step
  colon_taken h (Sign Colon) e = record { line = l; is = refl; on = e }
  colon_taken h _ e = dead ts out e

  pub type_colon_taken : (r : Role) (ty : Word) (t : Token) → runs (Some (RoleColon r ty)) (record { line = l; token = t } ∷ ts) ≡ Some out
      → TakesSymbol Colon (record { line = l; token = t }) (RoleName r ty) ts out
  unfolding step
  type_colon_taken r ty (Sign Colon) e = record { line = l; is = refl; on = e }
  type_colon_taken r ty _ e = dead ts out e

  pub name_taken : (r : Role) (ty : Word) (t : Token) → runs (Some (RoleName r ty)) (record { line = l; token = t } ∷ ts) ≡ Some out
      → TakesName (record { line = l; token = t }) (declared_as r ty) ts out
  unfolding step
  name_taken r ty (Name w) e = record { word = record { line = l; text = w }; is = refl; on = e }
  name_taken r ty _ e = dead ts out e

  pub type_taken : (r : Role) (t : Token) → runs (Some (TypeWord r)) (record { line = l; token = t } ∷ ts) ≡ Some out
      → TakesType r (record { line = l; token = t }) ts out
  unfolding step
  type_taken r (Name w) e =
      elim (choose (is_word (codes "dram") w) Wrong (typed r l w) ts out e) [
        | inl k ↦ dead ts out k.1
        | inr k ↦ record { word = record { line = l; text = w }; is = refl; may = k.0; on = k.1 }
      ]
  type_taken r _ e = dead ts out e

  pub dram_number_taken : (r : Role) (t : Token) → runs (Some (BankNumber r)) (record { line = l; token = t } ∷ ts) ≡ Some out
      → TakesNumber (record { line = l; token = t }) (λ line n. BankMore r) ts out
  unfolding step
  dram_number_taken r (Number n) e = record { line = l; number = n; is = refl; on = e }
  dram_number_taken r _ e = dead ts out e

  pub bank_more_taken : (r : Role) (t : Token) → runs (Some (BankMore r)) (record { line = l; token = t } ∷ ts) ≡ Some out
      → TakesSymbol Dot (record { line = l; token = t }) (BankNumber r) ts out ⊎ TakesType r (record { line = l; token = t }) ts out
  unfolding step
  bank_more_taken r (Sign Dot) e = inl (record { line = l; is = refl; on = e })
  bank_more_taken r (Name w) e = inr (type_taken r (Name w) e)
  bank_more_taken r _ e = dead ts out e

  pub size_taken : (p : ParamLine) (t : Token) → runs (Some (SizeNumber p)) (record { line = l; token = t } ∷ ts) ≡ Some out
      → TakesNumber (record { line = l; token = t }) (λ line n. SizeClose (more_sizes p line n)) ts out
  unfolding step
  size_taken p (Number n) e = record { line = l; number = n; is = refl; on = e }
  size_taken p _ e = dead ts out e

  pub size_close_taken : (p : ParamLine) (t : Token) → runs (Some (SizeClose p)) (record { line = l; token = t } ∷ ts) ≡ Some out
      → TakesSymbol CloseSquare (record { line = l; token = t }) (Sizes p) ts out
  unfolding step
  size_close_taken p (Sign CloseSquare) e = record { line = l; is = refl; on = e }
  size_close_taken p _ e = dead ts out e

  pub sizes_taken : (p : ParamLine) (t : Token) → runs (Some (Sizes p)) (record { line = l; token = t } ∷ ts) ≡ Some out
      → TakesSymbol OpenSquare (record { line = l; token = t }) (SizeNumber p) ts out × (length p.sizes < 2)
  unfolding step
  sizes_taken p (Sign OpenSquare) e =
      elim (choose (nat_lt (length p.sizes) 2) (Goes (SizeNumber p)) (Whole (Param p)) ts out e) [
        | inl k ↦ (record { line = l; is = refl; on = k.1 }, ltb-true (length p.sizes) 2 k.0)
        | inr k ↦ dead ts out k.1
      ]
  sizes_taken p _ e = dead ts out e

  pub tile_taken : (d : TileSoFar) (t : Token) → runs (Some (TileOrEnd d)) (record { line = l; token = t } ∷ ts) ≡ Some out
      → TakesSymbol OpenRound (record { line = l; token = t }) (TileItem d) ts out
  unfolding step
  tile_taken d (Sign OpenRound) e = record { line = l; is = refl; on = e }
  tile_taken d _ e = dead ts out e

  pub item_taken : (d : TileSoFar) (t : Token) → runs (Some (TileItem d)) (record { line = l; token = t } ∷ ts) ≡ Some out
      → (x : Extent) × IsExtent (record { line = l; token = t } ∷ []) x × (runs (Some (TileMore (more_items d x))) ts ≡ Some out)
  unfolding step
  item_taken d (Number n) e = (Fixed n, a_number l n, e)
  item_taken d (Sign Star) e = (Open, a_star l, e)
  item_taken d _ e = dead ts out e

  pub item_more_taken : (d : TileSoFar) (t : Token) → runs (Some (TileMore d)) (record { line = l; token = t } ∷ ts) ≡ Some out
      → TakesSymbol Comma (record { line = l; token = t }) (TileItem d) ts out ⊎ TakesSymbol CloseRound (record { line = l; token = t })
      (Finished (tiled d)) ts out
  unfolding step
  item_more_taken d (Sign Comma) e = inl (record { line = l; is = refl; on = e })
  item_more_taken d (Sign CloseRound) e = inr (record { line = l; is = refl; on = e })
  item_more_taken d _ e = dead ts out e

  pub offsets_taken : (s : LeftSide) (t : Token) → runs (Some (OffsetsOpen s)) (record { line = l; token = t } ∷ ts) ≡ Some out
      → TakesSymbol OpenRound (record { line = l; token = t }) (Component s) ts out
  unfolding step
  offsets_taken s (Sign OpenRound) e = record { line = l; is = refl; on = e }
  offsets_taken s _ e = dead ts out e

  pub component_taken : (s : LeftSide) (t : Token) → runs (Some (Component s)) (record { line = l; token = t } ∷ ts) ≡ Some out
      → TakesNumber (record { line = l; token = t }) (λ line n. ComponentMore (more_offsets s (pos n))) ts out ⊎ TakesSymbol MinusSign
      (record { line = l; token = t }) (Magnitude s) ts out
  unfolding step
  component_taken s (Number n) e = inl (record { line = l; number = n; is = refl; on = e })
  component_taken s (Sign MinusSign) e = inr (record { line = l; is = refl; on = e })
  component_taken s _ e = dead ts out e

  pub magnitude_taken : (s : LeftSide) (t : Token) → runs (Some (Magnitude s)) (record { line = l; token = t } ∷ ts) ≡ Some out
      → TakesNumber (record { line = l; token = t }) (λ line n. ComponentMore (more_offsets s (neg_ℤ (pos n)))) ts out
  unfolding step
  magnitude_taken s (Number n) e = record { line = l; number = n; is = refl; on = e }
  magnitude_taken s _ e = dead ts out e

  pub component_more_taken : (s : LeftSide) (t : Token) → runs (Some (ComponentMore s)) (record { line = l; token = t } ∷ ts) ≡ Some out
      → TakesSymbol Comma (record { line = l; token = t }) (Component s) ts out ⊎ TakesSymbol CloseRound (record { line = l; token = t }) (Equals s) ts out
  unfolding step
  component_more_taken s (Sign Comma) e = inl (record { line = l; is = refl; on = e })
  component_more_taken s (Sign CloseRound) e = inr (record { line = l; is = refl; on = e })
  component_more_taken s _ e = dead ts out e

  pub equals_taken : (s : LeftSide) (t : Token) → runs (Some (Equals s)) (record { line = l; token = t } ∷ ts) ≡ Some out
      → TakesSymbol EqualSign (record { line = l; token = t }) (Formula s) ts out
  unfolding step
  equals_taken s (Sign EqualSign) e = record { line = l; is = refl; on = e }
  equals_taken s _ e = dead ts out e

-- a value of a setting
pub data Valued : Setting → ℕ → Placed → Outcome → Type 0 where
  name_value : (line at : ℕ) (text : List ℕ) → Valued ProgramName line (name_on at text) (ends (Kernel line text))
  width_value : (line at n : ℕ) → Valued Width line (number_on at n) (ends (BurstWidth line n))
  factor_value : (line at n : ℕ) → Valued Factor line (number_on at n) (ends (UnrollFactor line n))
  times_value : (line at n : ℕ) → Valued Times line (number_on at n) (ends (Iterate line n))
  ignored_value : (line at : ℕ) → Valued Edge line (name_on at (codes "ignore")) (ends (Border line false))
  preserved_value : (line at : ℕ) → Valued Edge line (name_on at (codes "preserve")) (ends (Border line true))
  group_value : (line at : ℕ) (text : List ℕ) → Valued Group line (name_on at text) (ends (Cluster line))

as_valued : {setting : Setting} {line : ℕ} {p q : Placed} {s : Statement} (out : Outcome) → p ≡ q → ends s ≡ out → Valued setting line q (ends s)
    → Valued setting line p out
as_valued {setting} {line} {p} {s = s} out e f v = subst (λ o. Valued setting line p o) f (subst (λ x. Valued setting line x (ends s)) (sym e) v)

edge_taken : (line l : ℕ) (w : List ℕ) (ts : List Placed) (out : Outcome)
    → runs (Some (SettingValue (record { setting = Edge; line = line }))) (name_on l w ∷ ts) ≡ Some out → (ts ≡ []) × Valued Edge line (name_on l w) out
unfolding step
edge_taken line l w ts out e =
    elim (choose (is_word (codes "ignore") w) _ _ ts out e) [
      | inl k ↦ (let f = finished (Border line false) ts out k.1 in (
        f.0,
        as_valued out (ap (λ v. name_on l v) (word_is (codes "ignore") w k.0)) f.1
            (ignored_value line l),
      ))
      | inr k ↦
          elim (choose (is_word (codes "preserve") w) _ _ ts out k.1) [
            | inl m ↦ (let f = finished (Border line true) ts out m.1 in
                (f.0, as_valued out (ap (λ v. name_on l v) (word_is (codes "preserve") w m.0)) f.1 (preserved_value line l)))
            | inr m ↦ dead ts out m.1
          ]
    ]

pub value_taken : (setting : Setting) (line l : ℕ) (t : Token) (ts : List Placed) (out : Outcome)
    → runs (Some (SettingValue (record { setting = setting; line = line }))) (record { line = l; token = t } ∷ ts) ≡ Some out
    → (ts ≡ []) × Valued setting line (record { line = l; token = t }) out
unfolding step
value_taken ProgramName line l (Name w) ts out e = let f = finished (Kernel line w) ts out e in (f.0, as_valued out refl f.1 (name_value line l w))
value_taken Group line l (Name w) ts out e = let f = finished (Cluster line) ts out e in (f.0, as_valued out refl f.1 (group_value line l w))
value_taken Edge line l (Name w) ts out e = edge_taken line l w ts out e
value_taken Width line l (Number n) ts out e = let f = finished (BurstWidth line n) ts out e in (f.0, as_valued out refl f.1 (width_value line l n))
value_taken Factor line l (Number n) ts out e = let f = finished (UnrollFactor line n) ts out e in (f.0, as_valued out refl f.1 (factor_value line l n))
value_taken Times line l (Number n) ts out e = let f = finished (Iterate line n) ts out e in (f.0, as_valued out refl f.1 (times_value line l n))
value_taken _ line l _ ts out e = dead ts out e

-- a first word
pub data Begun : ℕ → List ℕ → Next → Type 0 where
  kernel_word : (line : ℕ) → Begun line (codes "kernel") (headed ProgramName line)
  burst_word : (line : ℕ) → Begun line (codes "burst") (Goes (WidthWord line))
  unroll_word : (line : ℕ) → Begun line (codes "unroll") (Goes (FactorWord line))
  iterate_word : (line : ℕ) → Begun line (codes "iterate") (headed Times line)
  border_word : (line : ℕ) → Begun line (codes "border") (headed Edge line)
  cluster_word : (line : ℕ) → Begun line (codes "cluster") (headed Group line)
  param_word : (line : ℕ) → Begun line (codes "param") (Goes (TypeWord Parameter))
  input_word : (line : ℕ) → Begun line (codes "input") (Goes (BankOrType Source))
  local_word : (line : ℕ) → Begun line (codes "local") (Goes (TypeWord Middle))
  output_word : (line : ℕ) → Begun line (codes "output") (Goes (BankOrType Target))

-- the first word, and what follows it
pub record Begins (line : ℕ) (w : List ℕ) (ts : List Placed) (out : Outcome) : Type 0 where
  pub next : Next
  pub by : Begun line w next
  pub on : goes next ts ≡ Some out

begins_with : (line : ℕ) (w word : List ℕ) (n : Next) (ts : List Placed) (out : Outcome) → is_word word w ≡ true → Begun line word n
    → goes n ts ≡ Some out → Begins line w ts out
begins_with line w word n ts out e b g = record { next = n; by = subst (λ v. Begun line v n) (sym (word_is word w e)) b; on = g }

declaring_taken : (line : ℕ) (w : List ℕ) (ts : List Placed) (out : Outcome) → goes (declaring w) ts ≡ Some out → Begins line w ts out
declaring_taken line w ts out e =
    elim (choose (is_word (codes "param") w) _ _ ts out e) [
      | inl k ↦ begins_with line w _ _ ts out k.0 (param_word line) k.1
      | inr k ↦
          elim (choose (is_word (codes "input") w) _ _ ts out k.1) [
            | inl m ↦ begins_with line w _ _ ts out m.0 (input_word line) m.1
            | inr m ↦
                elim (choose (is_word (codes "local") w) _ _ ts out m.1) [
                  | inl n ↦ begins_with line w _ _ ts out n.0 (local_word line) n.1
                  | inr n ↦
                      elim (choose (is_word (codes "output") w) _ _ ts out n.1) [
                        | inl o ↦ begins_with line w _ _ ts out o.0 (output_word line) o.1
                        | inr o ↦ dead ts out o.1
                      ]
                ]
          ]
    ]

heading_taken : (line : ℕ) (w : List ℕ) (ts : List Placed) (out : Outcome) → goes (begun line w) ts ≡ Some out → Begins line w ts out
heading_taken line w ts out e =
    elim (choose (is_word (codes "kernel") w) _ _ ts out e) [
      | inl k ↦ begins_with line w _ _ ts out k.0 (kernel_word line) k.1
      | inr k ↦
          elim (choose (is_word (codes "burst") w) _ _ ts out k.1) [
            | inl m ↦ begins_with line w _ _ ts out m.0 (burst_word line) m.1
            | inr m ↦
                elim (choose (is_word (codes "unroll") w) _ _ ts out m.1) [
                  | inl n ↦ begins_with line w _ _ ts out n.0 (unroll_word line) n.1
                  | inr n ↦
                      elim (choose (is_word (codes "iterate") w) _ _ ts out n.1) [
                        | inl o ↦ begins_with line w _ _ ts out o.0 (iterate_word line) o.1
                        | inr o ↦
                            elim (choose (is_word (codes "border") w) _ _ ts out o.1) [
                              | inl q ↦ begins_with line w _ _ ts out q.0 (border_word line) q.1
                              | inr q ↦
                                  elim (choose (is_word (codes "cluster") w) _ _ ts out q.1) [
                                    | inl r ↦ begins_with line w _ _ ts out r.0 (cluster_word line) r.1
                                    | inr r ↦ declaring_taken line w ts out r.1
                                  ]
                            ]
                      ]
                ]
          ]
    ]

-- the first token is a first word
pub record Opens (p : Placed) (ts : List Placed) (out : Outcome) : Type 0 where
  pub line : ℕ
  pub word : List ℕ
  pub is : p ≡ name_on line word
  pub begins : Begins line word ts out

pub first_taken : (l : ℕ) (t : Token) (ts : List Placed) (out : Outcome) → runs (Some Start) (record { line = l; token = t } ∷ ts) ≡ Some out
    → Opens (record { line = l; token = t }) ts out
unfolding step
first_taken l (Name w) ts out e = record { line = l; word = w; is = refl; begins = heading_taken l w ts out e }
first_taken l _ ts out e = dead ts out e

-- the second word of a setting
pub second_taken : (line l : ℕ) (t : Token) (ts : List Placed) (out : Outcome)
    → runs (Some (WidthWord line)) (record { line = l; token = t } ∷ ts) ≡ Some out
    → (record { line = l; token = t } ≡ name_on l (codes "width")) × (goes (headed Width line) ts ≡ Some out)
unfolding step
second_taken line l (Name w) ts out e =
    elim (choose (is_word (codes "width") w) _ _ ts out e) [
      | inl k ↦ (ap (λ v. name_on l v) (word_is (codes "width") w k.0), k.1)
      | inr k ↦ dead ts out k.1
    ]
second_taken line l _ ts out e = dead ts out e

pub factor_taken : (line l : ℕ) (t : Token) (ts : List Placed) (out : Outcome)
    → runs (Some (FactorWord line)) (record { line = l; token = t } ∷ ts) ≡ Some out
    → (record { line = l; token = t } ≡ name_on l (codes "factor")) × (goes (headed Factor line) ts ≡ Some out)
unfolding step
factor_taken line l (Name w) ts out e =
    elim (choose (is_word (codes "factor") w) _ _ ts out e) [
      | inl k ↦ (ap (λ v. name_on l v) (word_is (codes "factor") w k.0), k.1)
      | inr k ↦ dead ts out k.1
    ]
factor_taken line l _ ts out e = dead ts out e

-- a bank or a type
pub bank_taken : (r : Role) (l : ℕ) (t : Token) (ts : List Placed) (out : Outcome)
    → runs (Some (BankOrType r)) (record { line = l; token = t } ∷ ts) ≡ Some out
    → ((record { line = l; token = t } ≡ name_on l (codes "dram")) × (runs (Some (BankNumber r)) ts ≡ Some out)) ⊎ TakesType r
    (record { line = l; token = t }) ts out
unfolding step
bank_taken r l (Name w) ts out e =
    elim (choose (is_word (codes "dram") w) (Goes (BankNumber r)) (typed r l w) ts out e) [
      | inl k ↦ inl (ap (λ v. name_on l v) (word_is (codes "dram") w k.0), k.1)
      | inr k ↦ inr (record { word = record { line = l; text = w }; is = refl; may = k.0; on = k.1 })
    ]
bank_taken r l _ ts out e = dead ts out e
