-- What the steps read is a statement of the grammar, or the head of one with a formula.
use Rattle.std.proofs.Common.{◌≡◌, inl, inr, ℕ, ◌+◌, ◌≤◌, ◌<◌, List, [], ◌∷◌, ◌++◌, length, codes, Option, Some, None, ℤ, refl, sym, ◌∙◌, ap, subst, arith, length-append, append-nil, append_assoc}
use Rattle.soda_words.specs.declared.symbol.Symbol.TheVariants.{OpenRound, CloseRound, OpenSquare, CloseSquare, MinusSign, Comma, Colon, EqualSign, Dot}
use Rattle.soda_words.specs.declared.token.Placed.{Placed}
use Rattle.soda_words.specs.declared.token.Word.{Word}
use Rattle.soda_formula.specs.Grammar.{symbol_on, name_on, number_on, word_on, AreParted, last_item, item_before, IsComponent, ahead, back}
use Rattle.soda_syntax.specs.declared.stage.LeftSide.{LeftSide}
use Rattle.soda_syntax.specs.declared.stage.Next.{Next}
use Rattle.soda_syntax.specs.declared.stage.Role.{Role}
use Rattle.soda_syntax.specs.declared.stage.Role.TheVariants.{Parameter, Source, Middle, Target}
use Rattle.soda_syntax.specs.declared.stage.Setting.{Setting}
use Rattle.soda_syntax.specs.declared.stage.Setting.TheVariants.{ProgramName, Width, Factor, Times, Edge, Group}
use Rattle.soda_syntax.specs.declared.stage.Stage.TheVariants.{Start, WidthWord, FactorWord, SettingValue, BankOrType, BankNumber, BankMore, TypeWord, Sizes, SizeNumber, SizeClose, TileOrEnd, TileItem, OffsetsOpen, Component, Magnitude, ComponentMore, Equals, Formula}
use Rattle.soda_syntax.specs.declared.stage.TileSoFar.{TileSoFar}
use Rattle.soda_formula.specs.declared.statement.Extent.{Extent}
use Rattle.soda_formula.specs.declared.statement.ParamLine.{ParamLine}
use Rattle.soda_formula.specs.declared.statement.Size.{Size}
use Rattle.soda_formula.specs.declared.statement.Statement.{Statement}
use Rattle.soda_formula.specs.declared.statement.Statement.TheVariants.{Param, Input}
use Rattle.soda_formula.specs.Statements.{plain_statement}
use Rattle.soda_syntax.specs.Grammar.{IsExtent, AreSizes, no_size, size_before, AreDotted, last_number, number_before, IsBank, no_bank, a_bank, MayBeType, IsTile, no_tile, a_tile, IsLeftSide, IsLocalHead, IsOutputHead, IsStatement, a_kernel, a_burst_width, an_unroll_factor, an_iterate, ignored_border, preserved_border, a_cluster, a_param, an_input}
use Rattle.soda_syntax.specs.machine.Steps.{declared_as, tiled, headed, more_sizes, more_items, more_offsets, left_side}
use Rattle.soda_syntax.proofs.Running.{some_not_none}
use Rattle.soda_syntax.proofs.Outcomes.{Outcome, ends, lines, runs, goes, finished, formula_at, TakesSymbol, TakesNumber, TakesName, TakesType, colon_taken, type_colon_taken, name_taken, type_taken, dram_number_taken, bank_more_taken, size_taken, size_close_taken, sizes_taken, tile_taken, item_taken, item_more_taken, offsets_taken, component_taken, magnitude_taken, component_more_taken, equals_taken, Valued, name_value, width_value, factor_value, times_value, ignored_value, preserved_value, group_value, value_taken, Begun, kernel_word, burst_word, unroll_word, iterate_word, border_word, cluster_word, param_word, input_word, local_word, output_word, first_taken, second_taken, factor_taken, bank_taken}

none_ends : {A : Type 0} {out : Outcome} → None ≡ Some out → A
none_ends e = absurd (some_not_none (sym e))

-- the head of a local or an output
pub data IsHeadAs : LeftSide → List Placed → Type 0 where
  local_head : {ts : List Placed} (ty name : Word) (left : List ℤ) → IsLocalHead ts ty name left
      → IsHeadAs (record { role = Middle; ty = ty; name = name; offsets = left }) ts
  output_head : {ts : List Placed} (ty name : Word) (left : List ℤ) → IsOutputHead ts ty name left
      → IsHeadAs (record { role = Target; ty = ty; name = name; offsets = left }) ts

-- what the tokens are, where the steps end so
pub data IsAs : Outcome → List Placed → Type 0 where
  as_statement : {s : Statement} {ts : List Placed} → IsStatement ts (plain_statement s) → IsAs (ends s) ts
  as_head : {l : LeftSide} {ts : List Placed} → IsHeadAs l ts → IsAs (lines l) ts

-- the colon and the value of a setting
record IsSet (setting : Setting) (line : ℕ) (ts : List Placed) (out : Outcome) : Type 0 where
  colon : ℕ
  at : Placed
  is : ts ≡ symbol_on colon Colon ∷ at ∷ []
  valued : Valued setting line at out

setting_sound : (setting : Setting) (line : ℕ) (ts : List Placed) (out : Outcome) → goes (headed setting line) ts ≡ Some out → IsSet setting line ts out
setting_sound setting line [] out e = none_ends e
setting_sound setting line (p ∷ []) out e = none_ends (colon_taken p.line [] out (record { setting = setting; line = line }) p.token e).on
setting_sound setting line (p ∷ q ∷ ts) out e =
    let c : TakesSymbol Colon p (SettingValue (record { setting = setting; line = line })) (q ∷ ts) out = colon_taken p.line (q ∷ ts) out
    (record { setting = setting; line = line }) p.token e in
    let v : (ts ≡ []) × Valued setting line q out = value_taken setting line q.line q.token ts out c.on in
    let is : p ∷ q ∷ ts ≡ symbol_on c.line Colon ∷ q ∷ [] = cc (c.is, v.0) in
    record { colon = c.line; at = q; is = is; valued = v.1 }

-- the tokens of a setting behind its first words
set_as : (front ts us : List Placed) (out : Outcome) → ts ≡ us → IsAs out (front ++ us) → IsAs out (front ++ ts)
set_as front ts us out e h = subst (λ x. IsAs out (front ++ x)) (sym e) h

kernel_sound : (line c : ℕ) (p : Placed) (out : Outcome) → Valued ProgramName line p out → IsAs out (name_on line (codes "kernel") ∷ symbol_on c Colon ∷ p ∷ [])
kernel_sound line c p out (name_value l at text) = as_statement (a_kernel line c at text)

width_sound : (line second c : ℕ) (p : Placed) (out : Outcome) → Valued Width line p out
    → IsAs out (name_on line (codes "burst") ∷ name_on second (codes "width") ∷ symbol_on c Colon ∷ p ∷ [])
width_sound line second c p out (width_value l at n) = as_statement (a_burst_width line second c at n)

factor_sound : (line second c : ℕ) (p : Placed) (out : Outcome) → Valued Factor line p out
    → IsAs out (name_on line (codes "unroll") ∷ name_on second (codes "factor") ∷ symbol_on c Colon ∷ p ∷ [])
factor_sound line second c p out (factor_value l at n) = as_statement (an_unroll_factor line second c at n)

iterate_sound : (line c : ℕ) (p : Placed) (out : Outcome) → Valued Times line p out → IsAs out (name_on line (codes "iterate") ∷ symbol_on c Colon ∷ p ∷ [])
iterate_sound line c p out (times_value l at n) = as_statement (an_iterate line c at n)

border_sound : (line c : ℕ) (p : Placed) (out : Outcome) → Valued Edge line p out → IsAs out (name_on line (codes "border") ∷ symbol_on c Colon ∷ p ∷ [])
border_sound line c p out (ignored_value l at) = as_statement (ignored_border line c at)
border_sound line c p out (preserved_value l at) = as_statement (preserved_border line c at)

cluster_sound : (line c : ℕ) (p : Placed) (out : Outcome) → Valued Group line p out → IsAs out (name_on line (codes "cluster") ∷ symbol_on c Colon ∷ p ∷ [])
cluster_sound line c p out (group_value l at text) = as_statement (a_cluster line c at text)

-- a type, a colon and a name
record IsDeclared (r : Role) (ts : List Placed) (out : Outcome) : Type 0 where
  ty : Word
  name : Word
  colon : ℕ
  rest : List Placed
  is : ts ≡ word_on ty ∷ symbol_on colon Colon ∷ word_on name ∷ rest
  may : MayBeType ty
  on : runs (Some (declared_as r ty name)) rest ≡ Some out

typed_sound : (r : Role) (p : Placed) (ts : List Placed) (out : Outcome) → TakesType r p ts out → IsDeclared r (p ∷ ts) out
typed_sound r p [] out t = none_ends t.on
typed_sound r p (q ∷ []) out t = none_ends (type_colon_taken q.line [] out r t.word q.token t.on).on
typed_sound r p (q ∷ u ∷ ts) out t =
    let c : TakesSymbol Colon q _ (u ∷ ts) out = type_colon_taken q.line (u ∷ ts) out r t.word q.token t.on in
    let n : TakesName u (declared_as r t.word) ts out = name_taken u.line ts out r t.word u.token c.on in
    let is : p ∷ q ∷ u ∷ ts ≡ word_on t.word ∷ symbol_on c.line Colon ∷ word_on n.word ∷ ts = cc (t.is, c.is, n.is) in
    record { ty = t.word; name = n.word; colon = c.line; rest = ts; is = is; may = t.may; on = n.on }

declared_sound : (r : Role) (ts : List Placed) (out : Outcome) → runs (Some (TypeWord r)) ts ≡ Some out → IsDeclared r ts out
declared_sound r [] out e = none_ends e
declared_sound r (p ∷ ts) out e = typed_sound r p ts out (type_taken p.line ts out r p.token e)

-- a bank, and what is declared
record IsBanked (IsFront : List Placed → Type 0) (r : Role) (ts : List Placed) (out : Outcome) : Type 0 where
  bank : List Placed
  rest : List Placed
  is : ts ≡ bank ++ rest
  banked : IsFront bank
  declared : IsDeclared r rest out

-- behind `dram`, and behind a number of a bank
abbrev DotsSound : Role → List Placed → Type 0
DotsSound r ts =
    ((out : Outcome) → runs (Some (BankNumber r)) ts ≡ Some out → IsBanked AreDotted r ts out)
    × ((line n : ℕ) (out : Outcome) → runs (Some (BankMore r)) ts ≡ Some out → IsBanked AreDotted r (number_on line n ∷ ts) out)

dots_sound : (r : Role) (ts : List Placed) → DotsSound r ts
dots_sound r [] = (λ out e. none_ends e, λ line n out e. none_ends e)
dots_sound r (p ∷ ts) =
    let behind : DotsSound r ts = dots_sound r ts in (
      λ out e.
          (let t : TakesNumber p _ ts out = dram_number_taken p.line ts out r p.token e in
          subst (λ x. IsBanked AreDotted r (x ∷ ts) out) (sym t.is) (behind.1 t.line t.number out t.on)),
      λ line n out e.
          elim (bank_more_taken p.line ts out r p.token e) [
            | inl t ↦
                (let b : IsBanked AreDotted r ts out = behind.0 out t.on in
                let is : number_on line n ∷ p ∷ ts ≡ (number_on line n ∷ symbol_on t.line Dot ∷ b.bank) ++ b.rest = cc (t.is, b.is) in
                record {
                  bank = number_on line n ∷ symbol_on t.line Dot
                      ∷ b.bank;
                  rest = b.rest;
                  is = is;
                  banked = number_before line n t.line b.banked;
                  declared = b.declared;
                })
            | inr t ↦ record { bank = number_on line n ∷ []; rest = p ∷ ts; is = refl; banked = last_number line n; declared = typed_sound r p ts out t }
          ],
    )

banked_sound : (r : Role) (ts : List Placed) (out : Outcome) → runs (Some (BankOrType r)) ts ≡ Some out → IsBanked IsBank r ts out
banked_sound r [] out e = none_ends e
banked_sound r (p ∷ ts) out e =
    elim (bank_taken r p.line p.token ts out e) [
      | inl t ↦
          (let b : IsBanked AreDotted r ts out = (dots_sound r ts).0 out t.1 in
          let is : p ∷ ts ≡ (name_on p.line (codes "dram") ∷ b.bank) ++ b.rest = cc (t.0, b.is) in
          record { bank = name_on p.line (codes "dram") ∷ b.bank; rest = b.rest; is = is; banked = a_bank p.line b.banked; declared = b.declared })
      | inr t ↦ record { bank = []; rest = p ∷ ts; is = refl; banked = no_bank; declared = typed_sound r p ts out t }
    ]

with_sizes : ParamLine → List Size → ParamLine
with_sizes p ss = record { ty = p.ty; name = p.name; sizes = p.sizes ++ ss }

-- sizes behind those that are read
record IsSized (p : ParamLine) (ts : List Placed) (out : Outcome) : Type 0 where
  sizes : List Size
  are : AreSizes ts sizes
  few : length p.sizes + length sizes ≤ 2
  out_is : ends (Param (with_sizes p sizes)) ≡ out

abbrev SizesSound : List Placed → Type 0
SizesSound ts =
    ((p : ParamLine) (out : Outcome) → runs (Some (Sizes p)) ts ≡ Some out → length p.sizes ≤ 2 → IsSized p ts out)
    × ((opened : ℕ) (p : ParamLine) (out : Outcome) → runs (Some (SizeNumber p)) ts ≡ Some out → length p.sizes < 2
    → IsSized p (symbol_on opened OpenSquare ∷ ts) out) × ((opened line n : ℕ) (p : ParamLine) (out : Outcome)
    → runs (Some (SizeClose (more_sizes p line n))) ts ≡ Some out → length p.sizes < 2
    → IsSized p (symbol_on opened OpenSquare ∷ number_on line n ∷ ts) out)

no_sizes : (p : ParamLine) (out : Outcome) → Some (ends (Param p)) ≡ Some out → length p.sizes ≤ 2 → IsSized p [] out
unfolding with_sizes
no_sizes p out e few =
    let same : record { ty = p.ty; name = p.name; sizes = p.sizes ++ [] } ≡ p = ap (λ ss. record { ty = p.ty; name = p.name; sizes = ss })
    (append-nil p.sizes) in
    let is : ends (Param (record { ty = p.ty; name = p.name; sizes = p.sizes ++ [] })) ≡ out = cc in
    record { sizes = []; are = no_size; few = omega (arith, few); out_is = is }

one_size : (opened line n closed : ℕ) (p : ParamLine) (ts : List Placed) (out : Outcome) → IsSized (more_sizes p line n) ts out
    → IsSized p (symbol_on opened OpenSquare ∷ number_on line n ∷ symbol_on closed CloseSquare ∷ ts) out
unfolding with_sizes
one_size opened line n closed p ts out s =
    record {
      sizes = record { line = line; value = n } ∷ s.sizes;
      are = size_before opened line n closed s.are;
      few = omega (arith, length-append p.sizes (record { line = line; value = n } ∷ []), s.few);
      out_is = ap (λ ss. ends (Param (record { ty = p.ty; name = p.name; sizes = ss })))
          (sym (append_assoc p.sizes (record { line = line; value = n } ∷ []) s.sizes)) ∙ s.out_is;
    }

sizes_sound : (ts : List Placed) → SizesSound ts
sizes_sound [] = (no_sizes, λ opened p out e few. none_ends e, λ opened line n p out e few. none_ends e)
sizes_sound (q ∷ ts) =
    let behind : SizesSound ts = sizes_sound ts in (
      λ p out e few.
          (let t : TakesSymbol OpenSquare q (SizeNumber p) ts out × (length p.sizes < 2) = sizes_taken q.line ts out p q.token e in
          subst (λ x. IsSized p (x ∷ ts) out) (sym t.0.is) (behind.1 t.0.line p out t.0.on t.1)),
      λ opened p out e few.
          (let t : TakesNumber q (λ line n. SizeClose (more_sizes p line n)) ts out = size_taken q.line ts out p q.token e in
          subst (λ x. IsSized p (symbol_on opened OpenSquare ∷ x ∷ ts) out) (sym t.is) (behind.2 opened t.line t.number p out t.on few)),
      λ opened line n p out e few.
          (let t : TakesSymbol CloseSquare q (Sizes (more_sizes p line n)) ts out = size_close_taken q.line ts out (more_sizes p line n) q.token e in
          let room : length (p.sizes ++ record { line = line; value = n } ∷ []) ≤ 2 = omega
          (arith, length-append p.sizes (record { line = line; value = n } ∷ []), few) in
          subst (λ x. IsSized p (symbol_on opened OpenSquare ∷ number_on line n ∷ x ∷ ts) out) (sym t.is)
          (one_size opened line n t.line p ts out (behind.0 (more_sizes p line n) out t.on room))),
    )

with_items : TileSoFar → List Extent → TileSoFar
with_items d es = record { ty = d.ty; name = d.name; items = d.items ++ es }

-- items of a tile behind those that are read, and its bracket
record IsTiled (d : TileSoFar) (ts : List Placed) (out : Outcome) : Type 0 where
  inside : List Placed
  closed : ℕ
  items : List Extent
  is : ts ≡ inside ++ symbol_on closed CloseRound ∷ []
  parted : AreParted IsExtent inside items
  out_is : ends (tiled (with_items d items)) ≡ out

tile_sound : (ts : List Placed) (d : TileSoFar) (out : Outcome) → runs (Some (TileItem d)) ts ≡ Some out → IsTiled d ts out
unfolding with_items
tile_sound [] d out e = none_ends e
tile_sound (p ∷ []) d out e = none_ends (item_taken p.line [] out d p.token e).2
tile_sound (p ∷ q ∷ ts) d out e =
    let i : (x : Extent) × IsExtent (p ∷ []) x × (runs (Some _) (q ∷ ts) ≡ Some out) = item_taken p.line (q ∷ ts) out d p.token e in
    elim (item_more_taken q.line ts out (more_items d i.0) q.token i.2) [
      | inl t ↦
          (let b : IsTiled (more_items d i.0) ts out = tile_sound ts (more_items d i.0) out t.on in
          let is : p ∷ q ∷ ts ≡ ((p ∷ []) ++ symbol_on t.line Comma ∷ b.inside) ++ symbol_on b.closed CloseRound ∷ [] = cc (t.is, b.is) in
          record {
            inside = (p ∷ []) ++ symbol_on t.line Comma ∷ b.inside;
            closed = b.closed;
            items = i.0 ∷ b.items;
            is = is;
            parted = item_before t.line i.1 b.parted;
            out_is = ap (λ es. ends (tiled (record { ty = d.ty; name = d.name; items = es }))) (sym (append_assoc d.items (i.0 ∷ []) b.items)) ∙ b.out_is;
          })
      | inr t ↦
          (let f : (ts ≡ []) × (ends (tiled (more_items d i.0)) ≡ out) = finished (tiled (more_items d i.0)) ts out t.on in
          let is : p ∷ q ∷ ts ≡ (p ∷ []) ++ symbol_on t.line CloseRound ∷ [] = cc (t.is, f.0) in
          record { inside = p ∷ []; closed = t.line; items = i.0 ∷ []; is = is; parted = last_item i.1; out_is = f.1 })
    ]

with_offsets : LeftSide → List ℤ → LeftSide
with_offsets l os = record { role = l.role; ty = l.ty; name = l.name; offsets = l.offsets ++ os }

-- components behind those that are read, their bracket and the equals sign
record IsSided (l : LeftSide) (ts : List Placed) (out : Outcome) : Type 0 where
  inside : List Placed
  closed : ℕ
  equals : ℕ
  offsets : List ℤ
  is : ts ≡ inside ++ symbol_on closed CloseRound ∷ symbol_on equals EqualSign ∷ []
  parted : AreParted IsComponent inside offsets
  out_is : lines (with_offsets l offsets) ≡ out

equals_sound : (l : LeftSide) (ts : List Placed) (out : Outcome) → runs (Some (Equals l)) ts ≡ Some out
    → (equals : ℕ) × (ts ≡ symbol_on equals EqualSign ∷ []) × (lines l ≡ out)
equals_sound l [] out e = none_ends e
equals_sound l (p ∷ ts) out e =
    let t : TakesSymbol EqualSign p (Formula l) ts out = equals_taken p.line ts out l p.token e in
    let f : (ts ≡ []) × (lines l ≡ out) = formula_at l ts out t.on in
    let is : p ∷ ts ≡ symbol_on t.line EqualSign ∷ [] = cc (t.is, f.0) in
    (t.line, is, f.1)

abbrev SidesSound : List Placed → Type 0
SidesSound ts =
    ((l : LeftSide) (out : Outcome) → runs (Some (Component l)) ts ≡ Some out → IsSided l ts out)
    × ((l : LeftSide) (minus : ℕ) (out : Outcome) → runs (Some (Magnitude l)) ts ≡ Some out → IsSided l (symbol_on minus MinusSign ∷ ts) out)
    × ((l : LeftSide) (o : ℤ) (us : List Placed) (out : Outcome) → IsComponent us o → runs (Some (ComponentMore (more_offsets l o))) ts ≡ Some out
    → IsSided l (us ++ ts) out)

sides_sound : (ts : List Placed) → SidesSound ts
unfolding with_offsets
sides_sound [] = (λ l out e. none_ends e, λ l minus out e. none_ends e, λ l o us out c e. none_ends e)
sides_sound (q ∷ ts) =
    let behind : SidesSound ts = sides_sound ts in (
      λ l out e.
          elim (component_taken q.line ts out l q.token e) [
            | inl t ↦ subst (λ x. IsSided l (x ∷ ts) out) (sym t.is) (behind.2 l _ (number_on t.line t.number ∷ []) out (ahead t.line t.number) t.on)
            | inr t ↦ subst (λ x. IsSided l (x ∷ ts) out) (sym t.is) (behind.1 l t.line out t.on)
          ],
      λ l minus out e.
          (let t : TakesNumber q _ ts out = magnitude_taken q.line ts out l q.token e in
          subst (λ x. IsSided l (symbol_on minus MinusSign ∷ x ∷ ts) out) (sym t.is)
          (behind.2 l _ (symbol_on minus MinusSign ∷ number_on t.line t.number ∷ []) out (back minus t.line t.number) t.on)),
      λ l o us out c e.
          elim (component_more_taken q.line ts out (more_offsets l o) q.token e) [
            | inl t ↦
                (let b : IsSided (more_offsets l o) ts out = behind.0 (more_offsets l o) out t.on in
                let tail : q ∷ ts ≡ symbol_on t.line Comma ∷ (b.inside ++ symbol_on b.closed CloseRound ∷ symbol_on b.equals EqualSign ∷ []) = cc
                (t.is, b.is) in
                record {
                  inside = us ++ symbol_on t.line Comma ∷ b.inside;
                  closed = b.closed;
                  equals = b.equals;
                  offsets = o ∷ b.offsets;
                  is = ap (λ x. us ++ x) tail ∙ sym (append_assoc us (symbol_on t.line Comma ∷ b.inside)
                      (symbol_on b.closed CloseRound ∷ symbol_on b.equals EqualSign ∷ []));
                  parted = item_before t.line c b.parted;
                  out_is = ap (λ os. lines (record { role = l.role; ty = l.ty; name = l.name; offsets = os }))
                      (sym (append_assoc l.offsets (o ∷ []) b.offsets)) ∙ b.out_is;
                })
            | inr t ↦
                (let b : (equals : ℕ) × (ts ≡ symbol_on equals EqualSign ∷ [])
                × (lines (more_offsets l o) ≡ out) = equals_sound (more_offsets l o) ts out t.on in
                let tail : q ∷ ts ≡ symbol_on t.line CloseRound ∷ symbol_on b.0 EqualSign ∷ [] = cc (t.is, b.1) in
                record { inside = us; closed = t.line; equals = b.0; offsets = o ∷ []; is = ap (λ x. us ++ x) tail; parted = last_item c; out_is = b.2 })
          ],
    )

-- the left side behind the first word and the bank
record IsSide (r : Role) (ts : List Placed) (out : Outcome) : Type 0 where
  ty : Word
  name : Word
  left : List ℤ
  side : IsLeftSide ts ty name left
  out_is : lines (record { role = r; ty = ty; name = name; offsets = left }) ≡ out

opened_sound : (r : Role) (ts : List Placed) (out : Outcome) (ty name : Word) (colon : ℕ) (rest : List Placed)
    → ts ≡ word_on ty ∷ symbol_on colon Colon ∷ word_on name ∷ rest → MayBeType ty → runs (Some (OffsetsOpen (left_side r ty name))) rest ≡ Some out
    → IsSide r ts out
unfolding with_offsets
opened_sound r ts out ty name colon [] is may e = none_ends e
opened_sound r ts out ty name colon (p ∷ rest) is may e =
    let t : TakesSymbol OpenRound p (Component (left_side r ty name)) rest out = offsets_taken p.line rest out (left_side r ty name) p.token e in
    let s : IsSided (left_side r ty name) rest out = (sides_sound rest).0 (left_side r ty name) out t.on in
    let parts : rest ≡ (s.inside ++ symbol_on s.closed CloseRound ∷ []) ++ symbol_on s.equals EqualSign ∷ [] = s.is
    ∙ sym (append_assoc s.inside (symbol_on s.closed CloseRound ∷ []) (symbol_on s.equals EqualSign ∷ [])) in
    let whole : ts ≡ word_on ty ∷ symbol_on colon Colon ∷ word_on name ∷
    ((symbol_on t.line OpenRound ∷ (s.inside ++ symbol_on s.closed CloseRound ∷ [])) ++ symbol_on s.equals EqualSign ∷ []) = cc (t.is, parts, is) in
    record {
      ty = ty;
      name = name;
      left = s.offsets;
      side = record {
        colon = colon;
        equals = s.equals;
        offsets = symbol_on t.line OpenRound ∷ (s.inside ++ symbol_on s.closed CloseRound ∷ []);
        is = whole;
        typed = may;
        at = record { opened = t.line; inside = s.inside; closed = s.closed; is = refl; item = s.parted };
      };
      out_is = s.out_is;
    }

local_sound : (line : ℕ) (ts : List Placed) (out : Outcome) → runs (Some (TypeWord Middle)) ts ≡ Some out → IsAs out (name_on line (codes "local") ∷ ts)
local_sound line ts out e =
    let d : IsDeclared Middle ts out = declared_sound Middle ts out e in
    let s : IsSide Middle ts out = opened_sound Middle ts out d.ty d.name d.colon d.rest d.is d.may d.on in
    subst (λ o. IsAs o (name_on line (codes "local") ∷ ts)) s.out_is (as_head
    (local_head s.ty s.name s.left (record { line = line; rest = ts; is = refl; side = s.side })))

output_sound : (line : ℕ) (ts : List Placed) (out : Outcome) → runs (Some (BankOrType Target)) ts ≡ Some out → IsAs out (name_on line (codes "output") ∷ ts)
output_sound line ts out e =
    let b : IsBanked IsBank Target ts out = banked_sound Target ts out e in
    let d : IsDeclared Target b.rest out = b.declared in
    let s : IsSide Target b.rest out = opened_sound Target b.rest out d.ty d.name d.colon d.rest d.is d.may d.on in
    subst (λ o. IsAs o (name_on line (codes "output") ∷ ts)) s.out_is (as_head
    (output_head s.ty s.name s.left (record {
      line = line;
      bank = b.bank;
      rest = b.rest;
      is = ap
          (λ x. name_on line (codes "output") ∷ x) b.is;
      banked = b.banked;
      side = s.side;
    })))

param_sound : (line : ℕ) (ts : List Placed) (out : Outcome) → runs (Some (TypeWord Parameter)) ts ≡ Some out → IsAs out (name_on line (codes "param") ∷ ts)
unfolding with_sizes
param_sound line ts out e =
    let d : IsDeclared Parameter ts out = declared_sound Parameter ts out e in
    let s : IsSized (record { ty = d.ty; name = d.name; sizes = [] }) d.rest out = (sizes_sound d.rest).0
    (record { ty = d.ty; name = d.name; sizes = [] }) out d.on (omega arith) in
    subst (λ o. IsAs o (name_on line (codes "param") ∷ ts)) s.out_is (subst
    (λ x. IsAs (ends (Param (record { ty = d.ty; name = d.name; sizes = s.sizes }))) (name_on line (codes "param") ∷ x)) (sym d.is)
    (as_statement (a_param line d.colon d.ty d.name d.may s.are (omega (arith, s.few)))))

-- the tile of an input, or none
record IsTileAt (ty name : Word) (ts : List Placed) (out : Outcome) : Type 0 where
  tile : Option (List Extent)
  is : IsTile ts tile
  out_is : ends (Input (record { ty = ty; name = name; tile = tile })) ≡ out

tile_at_sound : (ty name : Word) (ts : List Placed) (out : Outcome) → runs
    (Some (TileOrEnd (record { ty = ty; name = name; items = [] }))) ts ≡ Some out → IsTileAt ty name ts out
unfolding with_items
tile_at_sound ty name [] out e =
    let is : ends (Input (record { ty = ty; name = name; tile = None })) ≡ out = cc in
    record { tile = None; is = no_tile; out_is = is }
tile_at_sound ty name (p ∷ ts) out e =
    let t : TakesSymbol OpenRound p (TileItem (record { ty = ty; name = name; items = [] })) ts out = tile_taken p.line ts out
    (record { ty = ty; name = name; items = [] }) p.token e in
    let s : IsTiled (record { ty = ty; name = name; items = [] }) ts out = tile_sound ts (record { ty = ty; name = name; items = [] }) out t.on in
    let whole : p ∷ ts ≡ symbol_on t.line OpenRound ∷ (s.inside ++ symbol_on s.closed CloseRound ∷ []) = cc (t.is, s.is) in
    record {
      tile = Some s.items;
      is = a_tile
          (record { opened = t.line; inside = s.inside; closed = s.closed; is = whole; item = s.parted });
      out_is = s.out_is;
    }

input_sound : (line : ℕ) (ts : List Placed) (out : Outcome) → runs (Some (BankOrType Source)) ts ≡ Some out → IsAs out (name_on line (codes "input") ∷ ts)
input_sound line ts out e =
    let b : IsBanked IsBank Source ts out = banked_sound Source ts out e in
    let d : IsDeclared Source b.rest out = b.declared in
    let t : IsTileAt d.ty d.name d.rest out = tile_at_sound d.ty d.name d.rest out d.on in
    let whole : ts ≡ b.bank ++ word_on d.ty ∷ symbol_on d.colon Colon ∷ word_on d.name ∷ d.rest = b.is ∙ ap (λ x. b.bank ++ x) d.is in
    subst (λ o. IsAs o (name_on line (codes "input") ∷ ts)) t.out_is (subst
    (λ x. IsAs (ends (Input (record { ty = d.ty; name = d.name; tile = t.tile }))) (name_on line (codes "input") ∷ x)) (sym whole)
    (as_statement (an_input line d.colon d.ty d.name b.banked d.may t.is)))

burst_sound : (line : ℕ) (ts : List Placed) (out : Outcome) → runs (Some (WidthWord line)) ts ≡ Some out → IsAs out (name_on line (codes "burst") ∷ ts)
burst_sound line [] out e = none_ends e
burst_sound line (p ∷ ts) out e =
    let t : (p ≡ name_on p.line (codes "width")) × (goes (headed Width line) ts ≡ Some out) = second_taken line p.line p.token ts out e in
    let s : IsSet Width line ts out = setting_sound Width line ts out t.1 in
    let whole : p ∷ ts ≡ name_on p.line (codes "width") ∷ symbol_on s.colon Colon ∷ s.at ∷ [] = cc (t.0, s.is) in
    set_as (name_on line (codes "burst") ∷ []) (p ∷ ts) _ out whole (width_sound line p.line s.colon s.at out s.valued)

unroll_sound : (line : ℕ) (ts : List Placed) (out : Outcome) → runs (Some (FactorWord line)) ts ≡ Some out → IsAs out (name_on line (codes "unroll") ∷ ts)
unroll_sound line [] out e = none_ends e
unroll_sound line (p ∷ ts) out e =
    let t : (p ≡ name_on p.line (codes "factor")) × (goes (headed Factor line) ts ≡ Some out) = factor_taken line p.line p.token ts out e in
    let s : IsSet Factor line ts out = setting_sound Factor line ts out t.1 in
    let whole : p ∷ ts ≡ name_on p.line (codes "factor") ∷ symbol_on s.colon Colon ∷ s.at ∷ [] = cc (t.0, s.is) in
    set_as (name_on line (codes "unroll") ∷ []) (p ∷ ts) _ out whole (factor_sound line p.line s.colon s.at out s.valued)

begun_sound : {line : ℕ} {w : List ℕ} {n : Next} → Begun line w n → (ts : List Placed) (out : Outcome) → goes n ts ≡ Some out → IsAs out (name_on line w ∷ ts)
begun_sound (kernel_word line) ts out e =
    let s : IsSet ProgramName line ts out = setting_sound ProgramName line ts out e in
    set_as (name_on line (codes "kernel") ∷ []) ts _ out s.is (kernel_sound line s.colon s.at out s.valued)
begun_sound (burst_word line) ts out e = burst_sound line ts out e
begun_sound (unroll_word line) ts out e = unroll_sound line ts out e
begun_sound (iterate_word line) ts out e =
    let s : IsSet Times line ts out = setting_sound Times line ts out e in
    set_as (name_on line (codes "iterate") ∷ []) ts _ out s.is (iterate_sound line s.colon s.at out s.valued)
begun_sound (border_word line) ts out e =
    let s : IsSet Edge line ts out = setting_sound Edge line ts out e in
    set_as (name_on line (codes "border") ∷ []) ts _ out s.is (border_sound line s.colon s.at out s.valued)
begun_sound (cluster_word line) ts out e =
    let s : IsSet Group line ts out = setting_sound Group line ts out e in
    set_as (name_on line (codes "cluster") ∷ []) ts _ out s.is (cluster_sound line s.colon s.at out s.valued)
begun_sound (param_word line) ts out e = param_sound line ts out e
begun_sound (input_word line) ts out e = input_sound line ts out e
begun_sound (local_word line) ts out e = local_sound line ts out e
begun_sound (output_word line) ts out e = output_sound line ts out e

pub sound : (ts : List Placed) (out : Outcome) → runs (Some Start) ts ≡ Some out → IsAs out ts
sound [] out e = none_ends e
sound (p ∷ ts) out e =
    let o : _ = first_taken p.line p.token ts out e in
    subst (λ x. IsAs out (x ∷ ts)) (sym o.is) (begun_sound o.begins.by ts out o.begins.on)
