-- The steps over the tokens, as the loop takes them.
use Rattle.std.proofs.Common.{◌≡◌, inl, ℕ, suc, ◌+◌, ◌≤◌, ◌<◌, List, [], ◌∷◌, length, take, get_or, Some, None, refl, sym, ◌∙◌, ap, subst, arith, Bool, true, false, nat_lt, codes, if◌then◌else◌}
use Rattle.std.proofs.Math.Seq.{take-suc}
use Rattle.std.proofs.lemmas.List.{take_all}
use Rattle.std.proofs.lemmas.Option.{get_or_from_slice_get, slice_get_within}
use Rattle.soda_words.specs.Names.{is_word}
use Rattle.soda_words.specs.declared.symbol.Symbol.TheVariants.{OpenRound, CloseRound, OpenSquare, CloseSquare, MinusSign, Star, Comma, Colon, EqualSign, Dot}
use Rattle.soda_words.specs.declared.token.Placed.{Placed}
use Rattle.soda_words.specs.declared.token.Token.{Token}
use Rattle.soda_words.specs.declared.token.Token.TheVariants.{Name, Number, Sign}
use Rattle.soda_syntax.specs.declared.stage.LeftSide.{LeftSide}
use Rattle.soda_syntax.specs.declared.stage.Next.{Next}
use Rattle.soda_syntax.specs.declared.stage.Next.TheVariants.{Goes, Whole, Wrong}
use Rattle.soda_syntax.specs.declared.stage.Setting.{Setting}
use Rattle.soda_syntax.specs.declared.stage.Setting.TheVariants.{ProgramName, Width, Factor, Times, Edge, Group}
use Rattle.soda_syntax.specs.declared.stage.Stage.{Stage}
use Rattle.soda_syntax.specs.declared.stage.Stage.TheVariants.{Start, WidthWord, FactorWord, SettingColon, SettingValue, Finished, BankOrType, BankNumber, BankMore, TypeWord, RoleColon, RoleName, Sizes, SizeNumber, SizeClose, TileOrEnd, TileItem, TileMore, OffsetsOpen, Component, Magnitude, ComponentMore, Equals, Formula}
use Rattle.soda_formula.specs.declared.statement.Statement.{Statement}
use Rattle.soda_formula.specs.Statements.{plain_statement}
use Rattle.soda_syntax.specs.machine.Steps.{step, steps, stage_of, finish, begun, after_colon}
use Rattle.soda_syntax.specs.machine.Pieces.{left_of, IsAt, ReadsStatement, StopsStatement}
use Rattle.soda_syntax.proofs.Running.{steps-append}

pub goes_on : (ts : List Placed) (at : ℕ) (stage next : Stage) (t : Placed) → at < length ts → t ≡ get_or ts at t
    → steps (Some Start) (take at ts) ≡ Some stage → Goes next ≡ step stage t → steps (Some Start) (take (at + 1) ts) ≡ Some next
goes_on ts at stage next t lt is read e =
    let one : at + 1 ≡ suc at = omega arith in
    ap (λ k. steps (Some Start) (take k ts)) one ∙ (ap (steps (Some Start)) (take-suc ts at t lt)
    ∙ (steps-append (Some Start) (take at ts) (get_or ts at t ∷ [])
    ∙ (ap (λ o. steps o (get_or ts at t ∷ [])) read ∙ (ap (λ x. stage_of (step stage x)) (sym is) ∙ ap stage_of (sym e)))))

pub is_at : (ts : List Placed) (at : ℕ) (stage : Stage) (t : Placed) (next : Next) → at < length ts → t ≡ get_or ts at t
    → steps (Some Start) (take at ts) ≡ Some stage → next ≡ step stage t → stage_of next ≡ None → IsAt ts at stage
is_at ts at stage t next lt is read e none =
    record {
      within = omega (arith, lt);
      read = read;
      refuses = λ u g. (let same : t ≡ u = is
          ∙ get_or_from_slice_get ts at u t g in ap (λ x. stage_of (step stage x)) (sym same) ∙ (ap stage_of (sym e) ∙ none));
    }

pub at_end : (ts : List Placed) (at : ℕ) (stage : Stage) → length ts ≤ at → steps (Some Start) (take at ts) ≡ Some stage → IsAt ts (length ts) stage
at_end ts at stage le read =
    let all : take (length ts) ts ≡ take at ts = take_all (length ts) ts (omega arith) ∙ sym (take_all at ts le) in
    record { within = omega arith; read = ap (steps (Some Start)) all ∙ read; refuses = λ u g. absurd (omega (arith, slice_get_within ts (length ts) u g)) }

-- what a token tells of the end of a statement before it
abbrev Tells : Stage → Next → Type 0
Tells stage (Goes x) = finish stage ≡ finish stage
Tells stage (Whole s) = finish stage ≡ Some s
Tells stage Wrong = finish stage ≡ None

if_tells : (stage : Stage) (b : Bool) (x y : Next) → Tells stage x → Tells stage y → Tells stage (if b then x else y)
if_tells stage true x y p q = p
if_tells stage false x y p q = q

start_tells : (line : ℕ) (w : List ℕ) → Tells Start (begun line w)
start_tells line w =
    if_tells Start (is_word (codes "kernel") w) _ _ refl (if_tells Start (is_word (codes "burst") w) _ _ refl
    (if_tells Start (is_word (codes "unroll") w) _ _ refl (if_tells Start (is_word (codes "iterate") w) _ _ refl
    (if_tells Start (is_word (codes "border") w) _ _ refl (if_tells Start (is_word (codes "cluster") w) _ _ refl
    (if_tells Start (is_word (codes "param") w) _ _ refl (if_tells Start (is_word (codes "input") w) _ _ refl
    (if_tells Start (is_word (codes "local") w) _ _ refl (if_tells Start (is_word (codes "output") w) _ _ refl refl)))))))))

value_tells : (setting : Setting) (line : ℕ) (t : Token) → Tells (SettingValue (record { setting = setting; line = line }))
    (after_colon (record { setting = setting; line = line }) t)
value_tells ProgramName line (Name w) = refl
value_tells Group line (Name w) = refl
value_tells Edge line (Name w) = if_tells (SettingValue (record { setting = Edge; line = line })) (is_word (codes "ignore") w) _ _ refl
    (if_tells (SettingValue (record { setting = Edge; line = line })) (is_word (codes "preserve") w) _ _ refl refl)
value_tells Width line (Number n) = refl
value_tells Factor line (Number n) = refl
value_tells Times line (Number n) = refl
value_tells _ line _ = refl

tells : (stage : Stage) (line : ℕ) (t : Token) → Tells stage (step stage (record { line = line; token = t }))
unfolding step
tells Start line (Name w) = start_tells line w
tells Start line _ = refl
tells (WidthWord l) line (Name w) = if_tells (WidthWord l) (is_word (codes "width") w) _ _ refl refl
tells (WidthWord l) line _ = refl
tells (FactorWord l) line (Name w) = if_tells (FactorWord l) (is_word (codes "factor") w) _ _ refl refl
tells (FactorWord l) line _ = refl
tells (SettingColon h) line (Sign Colon) = refl
tells (SettingColon h) line _ = refl
tells (SettingValue h) line t = value_tells h.setting h.line t
tells (Finished s) line t = refl
tells (BankOrType r) line (Name w) = if_tells (BankOrType r) (is_word (codes "dram") w) _ _ refl refl
tells (BankOrType r) line _ = refl
tells (BankNumber r) line (Number n) = refl
tells (BankNumber r) line _ = refl
tells (BankMore r) line (Sign Dot) = refl
tells (BankMore r) line (Name w) = if_tells (BankMore r) (is_word (codes "dram") w) _ _ refl refl
tells (BankMore r) line _ = refl
tells (TypeWord r) line (Name w) = if_tells (TypeWord r) (is_word (codes "dram") w) _ _ refl refl
tells (TypeWord r) line _ = refl
tells (RoleColon r ty) line (Sign Colon) = refl
tells (RoleColon r ty) line _ = refl
tells (RoleName r ty) line (Name w) = refl
tells (RoleName r ty) line _ = refl
tells (Sizes p) line (Sign OpenSquare) = if_tells (Sizes p) (nat_lt (length p.sizes) 2) _ _ refl refl
tells (Sizes p) line _ = refl
tells (SizeNumber p) line (Number n) = refl
tells (SizeNumber p) line _ = refl
tells (SizeClose p) line (Sign CloseSquare) = refl
tells (SizeClose p) line _ = refl
tells (TileOrEnd d) line (Sign OpenRound) = refl
tells (TileOrEnd d) line _ = refl
tells (TileItem d) line (Number n) = refl
tells (TileItem d) line (Sign Star) = refl
tells (TileItem d) line _ = refl
tells (TileMore d) line (Sign Comma) = refl
tells (TileMore d) line (Sign CloseRound) = refl
tells (TileMore d) line _ = refl
tells (OffsetsOpen l) line (Sign OpenRound) = refl
tells (OffsetsOpen l) line _ = refl
tells (Component l) line (Number n) = refl
tells (Component l) line (Sign MinusSign) = refl
tells (Component l) line _ = refl
tells (Magnitude l) line (Number n) = refl
tells (Magnitude l) line _ = refl
tells (ComponentMore l) line (Sign Comma) = refl
tells (ComponentMore l) line (Sign CloseRound) = refl
tells (ComponentMore l) line _ = refl
tells (Equals l) line (Sign EqualSign) = refl
tells (Equals l) line _ = refl
tells (Formula l) line t = refl

-- the statement that ends before a token may end there
whole_finish : (stage : Stage) (t : Placed) (s : Statement) → Whole s ≡ step stage t → finish stage ≡ Some s
whole_finish stage t s e = subst (Tells stage) (sym e) (tells stage t.line t.token)

-- where a token is wrong, no statement may end
wrong_open : (stage : Stage) (t : Placed) → Wrong ≡ step stage t → finish stage ≡ None
wrong_open stage t e = subst (Tells stage) (sym e) (tells stage t.line t.token)

pub plain_read : (ts : List Placed) (n : ℕ) (stage : Stage) (s : Statement) → IsAt ts n stage → finish stage ≡ Some s → ReadsStatement ts n (plain_statement s)
plain_read ts n stage s at e = inl (record { stage = stage; end = s; at = at; ended = e; is = refl })

pub plain_stop : (ts : List Placed) (n : ℕ) (stage : Stage) → IsAt ts n stage → finish stage ≡ None → left_of stage ≡ None → StopsStatement ts n
plain_stop ts n stage at e nf = inl (record { stage = stage; at = at; open_ = e; no_formula = nf })

pub whole_read : (ts : List Placed) (at : ℕ) (stage : Stage) (t : Placed) (s : Statement) → at < length ts → t ≡ get_or ts at t
    → steps (Some Start) (take at ts) ≡ Some stage → Whole s ≡ step stage t → ReadsStatement ts at (plain_statement s)
whole_read ts at stage t s lt is read e = plain_read ts at stage s (is_at ts at stage t (Whole s) lt is read e refl) (whole_finish stage t s e)

pub wrong_stop : (ts : List Placed) (at : ℕ) (stage : Stage) (t : Placed) → at < length ts → t ≡ get_or ts at t
    → steps (Some Start) (take at ts) ≡ Some stage → left_of stage ≡ None → Wrong ≡ step stage t → StopsStatement ts at
wrong_stop ts at stage t lt is read nf e = plain_stop ts at stage (is_at ts at stage t Wrong lt is read e refl) (wrong_open stage t e) nf

pub no_left : (s : Stage) → ((l : LeftSide) → s ≡ Formula l → ⊥) → left_of s ≡ None
no_left (Formula l) h = absurd (h l refl)
no_left _ h = refl
