-- Each statement of the grammar is read by the steps.
use Rattle.std.proofs.Common.{◌≡◌, ◌⊎◌, inl, inr, ℕ, ◌+◌, ◌≤◌, true, false, List, [], ◌∷◌, ◌++◌, length, Option, Some, ℤ, refl, sym, ◌∙◌, ap, arith, if◌then◌else◌, length-append, append-nil, append_assoc}
use Rattle.std.proofs.lemmas.Bool.{lt-ltb}
use Rattle.soda_words.specs.declared.symbol.Symbol.TheVariants.{CloseRound, CloseSquare, Colon, EqualSign}
use Rattle.soda_words.specs.declared.token.Placed.{Placed}
use Rattle.soda_words.specs.declared.token.Word.{Word}
use Rattle.soda_formula.specs.Terms.{Term}
use Rattle.soda_formula.specs.Grammar.{symbol_on, number_on, word_on, AreParted, last_item, item_before, IsComponent, ahead, back, AreOffsets, IsFormula}
use Rattle.soda_syntax.specs.declared.stage.LeftSide.{LeftSide}
use Rattle.soda_syntax.specs.declared.stage.Next.TheVariants.{Goes, Whole, Wrong}
use Rattle.soda_syntax.specs.declared.stage.Role.{Role}
use Rattle.soda_syntax.specs.declared.stage.Role.TheVariants.{Parameter, Source, Middle, Target}
use Rattle.soda_syntax.specs.declared.stage.Stage.{Stage}
use Rattle.soda_syntax.specs.declared.stage.Stage.TheVariants.{Start, Finished, BankOrType, BankNumber, TypeWord, RoleColon, Sizes, SizeNumber, TileOrEnd, TileItem, OffsetsOpen, Component, Equals, Formula}
use Rattle.soda_syntax.specs.declared.stage.TileSoFar.{TileSoFar}
use Rattle.soda_formula.specs.declared.statement.Extent.{Extent}
use Rattle.soda_formula.specs.declared.statement.ParamLine.{ParamLine}
use Rattle.soda_formula.specs.declared.statement.Size.{Size}
use Rattle.soda_formula.specs.declared.statement.Statement.{Statement}
use Rattle.soda_formula.specs.declared.statement.Statement.TheVariants.{Kernel, BurstWidth, UnrollFactor, Iterate, Border, Cluster, Param, Input}
use Rattle.soda_formula.specs.Statements.{PlainStatement, plain_statement}
use Rattle.soda_syntax.specs.Grammar.{IsExtent, a_number, a_star, AreSizes, no_size, size_before, AreDotted, last_number, number_before, IsBank, no_bank, a_bank, MayBeType, IsTile, no_tile, a_tile, IsLeftSide, IsLocalHead, IsOutputHead, IsStatement, a_kernel, a_burst_width, an_unroll_factor, an_iterate, ignored_border, preserved_border, a_cluster, a_param, an_input, a_local, an_output}
use Rattle.soda_syntax.specs.machine.Lines.{line_of}
use Rattle.soda_syntax.specs.machine.Steps.{step, steps, stage_of, then_step, finish, typed, tiled, left_side, more_sizes}

-- the steps read the tokens as a statement without a formula
pub record IsPlain (ts : List Placed) (s : PlainStatement) : Type 0 where
  pub stage : Stage
  pub end : Statement
  pub read : steps (Some Start) ts ≡ Some stage
  pub ended : finish stage ≡ Some end
  pub is : plain_statement end ≡ s

-- the steps read the tokens to a formula, and the others are one
pub record IsLined (ts : List Placed) (s : PlainStatement) : Type 0 where
  pub head : List Placed
  pub part : List Placed
  pub left : LeftSide
  pub formula : Term
  pub is : ts ≡ head ++ part
  pub read : steps (Some Start) head ≡ Some (Formula left)
  pub whole : IsFormula part formula
  pub says : line_of left formula ≡ s

type_step : (r : Role) (w : Word) → MayBeType w → step (TypeWord r) (word_on w) ≡ Goes (RoleColon r w)
unfolding step
type_step r w m = ap (λ b. if b then Wrong else typed r w.line w.text) m

bank_step : (r : Role) (w : Word) → MayBeType w → step (BankOrType r) (word_on w) ≡ Goes (RoleColon r w)
unfolding step
bank_step r w m = ap (λ b. if b then Goes (BankNumber r) else typed r w.line w.text) m

dotted_read : {ds : List Placed} → AreDotted ds → (r : Role) (w : Word) → MayBeType w → (rest : List Placed)
    → steps (Some (BankNumber r)) (ds ++ word_on w ∷ rest) ≡ steps (Some (RoleColon r w)) rest
unfolding step
dotted_read (last_number line n) r w m rest = ap (λ x. steps (stage_of x) rest) (type_step r w m)
dotted_read (number_before line n dot d) r w m rest = dotted_read d r w m rest

bank_read : {bank : List Placed} → IsBank bank → (r : Role) (w : Word) → MayBeType w → (rest : List Placed)
    → steps (Some (BankOrType r)) (bank ++ word_on w ∷ rest) ≡ steps (Some (RoleColon r w)) rest
unfolding step
bank_read no_bank r w m rest = ap (λ x. steps (stage_of x) rest) (bank_step r w m)
bank_read (a_bank line d) r w m rest = dotted_read d r w m rest

with_sizes : ParamLine → List Size → ParamLine
with_sizes p ss = record { ty = p.ty; name = p.name; sizes = p.sizes ++ ss }

sizes_read : {ts : List Placed} {ss : List Size} → AreSizes ts ss → (p : ParamLine) → length p.sizes + length ss ≤ 2
    → steps (Some (Sizes p)) ts ≡ Some (Sizes (with_sizes p ss))
unfolding step with_sizes
sizes_read no_size p few = ap (λ ss. Some (Sizes (record { ty = p.ty; name = p.name; sizes = ss }))) (sym (append-nil p.sizes))
sizes_read (size_before {ts} {sizes} opened line n closed are) p few =
    let more : length (p.sizes ++ record { line = line; value = n } ∷ []) + length sizes ≤ 2 = omega
    (arith, length-append p.sizes (record { line = line; value = n } ∷ []), few) in
    ap (λ b. steps (then_step (then_step (stage_of (if b then Goes (SizeNumber p) else Whole (Param p))) (number_on line n))
    (symbol_on closed CloseSquare)) ts) (lt-ltb (length p.sizes) 2 (omega (arith, few)))
    ∙ (sizes_read are (more_sizes p line n) more ∙ ap (λ ss. Some (Sizes (record { ty = p.ty; name = p.name; sizes = ss })))
    (append_assoc p.sizes (record { line = line; value = n } ∷ []) sizes))

with_items : TileSoFar → List Extent → TileSoFar
with_items d es = record { ty = d.ty; name = d.name; items = d.items ++ es }

tile_read : {ts : List Placed} {es : List Extent} → AreParted IsExtent ts es → (d : TileSoFar) (closed : ℕ)
    → steps (Some (TileItem d)) (ts ++ symbol_on closed CloseRound ∷ []) ≡ Some (Finished (tiled (with_items d es)))
unfolding step with_items
tile_read (last_item (a_number line n)) d closed = refl
tile_read (last_item (a_star line)) d closed = refl
tile_read (item_before {others = es} comma (a_number line n) are) d closed =
    tile_read are _ closed ∙ ap (λ items. Some (Finished (tiled (record { ty = d.ty; name = d.name; items = items })))) (append_assoc d.items _ es)
tile_read (item_before {others = es} comma (a_star line) are) d closed =
    tile_read are _ closed ∙ ap (λ items. Some (Finished (tiled (record { ty = d.ty; name = d.name; items = items })))) (append_assoc d.items _ es)

with_offsets : LeftSide → List ℤ → LeftSide
with_offsets l os = record { role = l.role; ty = l.ty; name = l.name; offsets = l.offsets ++ os }

components_read : {ts : List Placed} {os : List ℤ} → AreParted IsComponent ts os → (l : LeftSide) (closed : ℕ) (rest : List Placed)
    → steps (Some (Component l)) ((ts ++ symbol_on closed CloseRound ∷ []) ++ rest) ≡ steps (Some (Equals (with_offsets l os))) rest
unfolding step with_offsets
components_read (last_item (ahead line n)) l closed rest = refl
components_read (last_item (back minus line n)) l closed rest = refl
components_read (item_before {others = os} comma (ahead line n) are) l closed rest =
    components_read are _ closed rest ∙ ap (λ offsets. steps (Some (Equals
    (record { role = l.role; ty = l.ty; name = l.name; offsets = offsets }))) rest) (append_assoc l.offsets _ os)
components_read (item_before {others = os} comma (back minus line n) are) l closed rest =
    components_read are _ closed rest ∙ ap (λ offsets. steps (Some (Equals
    (record { role = l.role; ty = l.ty; name = l.name; offsets = offsets }))) rest) (append_assoc l.offsets _ os)

offsets_read : (ts : List Placed) (os : List ℤ) → AreOffsets ts os → (l : LeftSide) (rest : List Placed)
    → steps (Some (OffsetsOpen l)) (ts ++ rest) ≡ steps (Some (Equals (with_offsets l os))) rest
unfolding step
offsets_read ts os r l rest = ap (λ x. steps (Some (OffsetsOpen l)) (x ++ rest)) r.is ∙ components_read r.item l r.closed rest

-- behind the type of a left side
side_read : (r : Role) (ty name : Word) (left : List ℤ) (ts rest : List Placed) (s : IsLeftSide ts ty name left)
    → ((l : List Placed) → steps (Some (RoleColon r ty)) (symbol_on s.colon Colon ∷ word_on name ∷ l) ≡ steps
    (Some (OffsetsOpen (left_side r ty name))) l) → steps (Some (RoleColon r ty))
    (symbol_on s.colon Colon ∷ word_on name ∷ (s.offsets ++ symbol_on s.equals EqualSign ∷ [])) ≡ Some
    (Formula (record { role = r; ty = ty; name = name; offsets = left }))
unfolding step with_offsets
side_read r ty name left ts rest s opens = opens (s.offsets ++ symbol_on s.equals EqualSign ∷ [])
    ∙ offsets_read s.offsets left s.at (left_side r ty name) (symbol_on s.equals EqualSign ∷ [])

pub local_read : (ts : List Placed) (ty name : Word) (left : List ℤ) → IsLocalHead ts ty name left
    → steps (Some Start) ts ≡ Some (Formula (record { role = Middle; ty = ty; name = name; offsets = left }))
unfolding step
local_read ts ty name left h =
    ap (steps (Some Start)) h.is ∙ (ap (steps (Some (TypeWord Middle))) h.side.is
    ∙ (ap (λ x. steps (stage_of x) (symbol_on h.side.colon Colon ∷ word_on name ∷ (h.side.offsets ++ symbol_on h.side.equals EqualSign ∷ [])))
    (type_step Middle ty h.side.typed) ∙ side_read Middle ty name left h.rest [] h.side (λ l. refl)))

pub output_read : (ts : List Placed) (ty name : Word) (left : List ℤ) → IsOutputHead ts ty name left
    → steps (Some Start) ts ≡ Some (Formula (record { role = Target; ty = ty; name = name; offsets = left }))
unfolding step
output_read ts ty name left h =
    ap (steps (Some Start)) h.is ∙ (ap (λ x. steps (Some (BankOrType Target)) (h.bank ++ x)) h.side.is
    ∙ (bank_read h.banked Target ty h.side.typed (symbol_on h.side.colon Colon ∷ word_on name
    ∷ (h.side.offsets ++ symbol_on h.side.equals EqualSign ∷ [])) ∙ side_read Target ty name left h.rest [] h.side (λ l. refl)))

-- behind the name of an input
input_read : {ts : List Placed} {tile : Option (List Extent)} → IsTile ts tile → (ty name : Word)
    → (stage : Stage) × (steps (Some (TileOrEnd (record { ty = ty; name = name; items = [] }))) ts ≡ Some stage)
    × (finish stage ≡ Some (Input (record { ty = ty; name = name; tile = tile })))
unfolding step with_items
input_read no_tile ty name = (_, refl, refl)
input_read (a_tile {ts} {extents} r) ty name = (
  Finished (Input (record { ty = ty; name = name; tile = Some extents })),
  ap
      (steps (Some (TileOrEnd (record { ty = ty; name = name; items = [] })))) r.is
      ∙ tile_read r.item (record { ty = ty; name = name; items = [] }) r.closed,
  refl,
)

pub complete : {ts : List Placed} {s : PlainStatement} → IsStatement ts s → IsPlain ts s ⊎ IsLined ts s
unfolding step with_sizes
complete (a_kernel line colon at text) = inl (record { stage = Finished (Kernel line text); end = Kernel line text; read = refl; ended = refl; is = refl })
complete (a_burst_width line second colon at width) = inl (record {
  stage = Finished
      (BurstWidth line width);
  end = BurstWidth line width;
  read = refl;
  ended = refl;
  is = refl;
})
complete (an_unroll_factor line second colon at factor) = inl (record {
  stage = Finished
      (UnrollFactor line factor);
  end = UnrollFactor line factor;
  read = refl;
  ended = refl;
  is = refl;
})
complete (an_iterate line colon at times) = inl (record {
  stage = Finished
      (Iterate line times);
  end = Iterate line times;
  read = refl;
  ended = refl;
  is = refl;
})
complete (ignored_border line colon at) = inl (record { stage = Finished (Border line false); end = Border line false; read = refl; ended = refl; is = refl })
complete (preserved_border line colon at) = inl (record { stage = Finished (Border line true); end = Border line true; read = refl; ended = refl; is = refl })
complete (a_cluster line colon at text) = inl (record { stage = Finished (Cluster line); end = Cluster line; read = refl; ended = refl; is = refl })
complete (a_param {ts} {sizes} line colon ty name may are few) =
    inl (record {
      stage = Sizes (record { ty = ty; name = name; sizes = sizes });
      end = Param (record { ty = ty; name = name; sizes = sizes });
      read = ap (λ x. steps (stage_of x) (symbol_on colon Colon ∷ word_on name ∷ ts)) (type_step Parameter ty may)
          ∙ sizes_read are (record { ty = ty; name = name; sizes = [] }) (omega (arith, few));
      ended = refl;
      is = refl;
    })
complete (an_input {bank} {ts} {tile} line colon ty name banked may t) =
    let r = input_read t ty name in
    inl (record {
      stage = r.0;
      end = Input (record { ty = ty; name = name; tile = tile });
      read = bank_read banked Source ty may (symbol_on colon Colon ∷ word_on name ∷ ts) ∙ r.1;
      ended = r.2;
      is = refl;
    })
complete (a_local {ts} {us} {left} {a} ty name h f) =
    inr (record {
      head = ts;
      part = us;
      left = record { role = Middle; ty = ty; name = name; offsets = left };
      formula = a;
      is = refl;
      read =
          local_read ts ty name left h;
      whole = f;
      says = refl;
    })
complete (an_output {ts} {us} {left} {a} ty name h f) =
    inr (record {
      head = ts;
      part = us;
      left = record { role = Target; ty = ty; name = name; offsets = left };
      formula = a;
      is = refl;
      read =
          output_read ts ty name left h;
      whole = f;
      says = refl;
    })
