-- The tokens of a canonical text.
use Rattle.std.proofs.Common.{◌≡◌, ℕ, suc, ◌<◌, ◌^◌, true, List, [], ◌∷◌, ◌++◌, map, Option, Some, None, refl, ap, ◌∙◌, append_assoc, codes, subst, lit<}
use Rattle.std.specs.Fmt.{decimal, digits}
use Rattle.soda_words.specs.IntType.{IntType}
use Rattle.soda_ir.specs.Formula.{Formula}
use Rattle.soda_ir.specs.Program.{PlainParam, PlainProgram, PlainTensor}
use Rattle.soda_ir.specs.declared.program.Border.{Border}
use Rattle.soda_ir.specs.declared.program.Border.TheVariants.{Ignore, Preserve}
use Rattle.soda_ir.specs.declared.program.Role.{Role}
use Rattle.soda_ir.specs.declared.program.Role.TheVariants.{Input, Local, Output}
use Rattle.soda_words.specs.Names.{is_name}
use Rattle.soda_words.specs.Tokens.{front_of, tokens_behind, tokens_of}
use Rattle.soda_words.specs.declared.symbol.Symbol.TheVariants.{Star, Colon, EqualSign}
use Rattle.soda_words.specs.declared.token.Placed.{Placed}
use Rattle.soda_words.specs.declared.token.Token.{Token}
use Rattle.soda_words.specs.declared.token.Token.TheVariants.{Name, Number, Sign}
use Rattle.soda_print.specs.Canonical.{border_word, canonical, canonical_lines, ended, formula_text, headed, indexes_text, left_text, param_line, role_word, setting_lines, tensor_line, tile_text, type_text}
use Rattle.soda_print.proofs.Tokens.{Stops, feed_first, on_line}
use Rattle.soda_print.proofs.Tokenized.{AllLex, Always, AreWords, IsWritable, Lexes, a_name, a_number, always_lexes, formula_lex, formula_tokens, index_tokens, indexes_lex, indexes_part, joined, listed_lex, listed_tokens, mark_then}

-- texts and their tokens, on any line
abbrev pub AllLexed : List (List ℕ) → List (List Token) → Type 0
AllLexed [] [] = Unit {0}
AllLexed [] (ts ∷ tss) = ⊥
AllLexed (w ∷ ws) [] = ⊥
AllLexed (w ∷ ws) (ts ∷ tss) = ((line : ℕ) → Lexes line w ts) × AllLexed ws tss

-- the tokens of lines, the first of them on this line
abbrev pub placed_lines : ℕ → List (List Token) → List Placed
placed_lines line [] = []
placed_lines line (ts ∷ tss) = map (on_line line) ts ++ placed_lines (suc line) tss

ended_lex : (line : ℕ) (ws : List (List ℕ)) (tss : List (List Token)) → AllLexed ws tss → tokens_behind 0 line (ended ws) ≡ placed_lines line tss
unfolding tokens_behind
ended_lex line [] [] h = refl
ended_lex line [] (ts ∷ tss) h = absurd h
ended_lex line (w ∷ ws) [] h = absurd h
ended_lex line (w ∷ ws) (ts ∷ tss) h =
    ap (λ (bs : List ℕ). tokens_behind 0 line bs) (append_assoc w (codes "\n") (ended ws))
    ∙ h.0 line (codes "\n" ++ ended ws) refl
    ∙ ap (λ (ps : List Placed). map (on_line line) ts ++ ps) (feed_first (ended ws) line ∙ ended_lex (suc line) ws tss h.1)

all_more : (vs ws : List (List ℕ)) (tss uss : List (List Token)) → AllLexed vs tss → AllLexed ws uss → AllLexed (vs ++ ws) (tss ++ uss)
all_more [] ws [] uss h k = k
all_more [] ws (ts ∷ tss) uss h k = absurd h
all_more (v ∷ vs) ws [] uss h k = absurd h
all_more (v ∷ vs) ws (ts ∷ tss) uss h k = (h.0, all_more vs ws tss uss h.1 k)

-- the words of the settings
kernel_word : (line : ℕ) → Always line (codes "kernel: ") (Name (codes "kernel") ∷ Sign Colon ∷ [])
unfolding tokens_behind front_of
kernel_word line rest = refl

burst_word : (line : ℕ) → Always line (codes "burst width: ") (Name (codes "burst") ∷ Name (codes "width") ∷ Sign Colon ∷ [])
unfolding tokens_behind front_of
burst_word line rest = refl

unroll_word : (line : ℕ) → Always line (codes "unroll factor: ") (Name (codes "unroll") ∷ Name (codes "factor") ∷ Sign Colon ∷ [])
unfolding tokens_behind front_of
unroll_word line rest = refl

iterate_word : (line : ℕ) → Always line (codes "iterate: ") (Name (codes "iterate") ∷ Sign Colon ∷ [])
unfolding tokens_behind front_of
iterate_word line rest = refl

border_start : (line : ℕ) → Always line (codes "border: ") (Name (codes "border") ∷ Sign Colon ∷ [])
unfolding tokens_behind front_of
border_start line rest = refl

pub border_named : (b : Border) → is_name (border_word b) ≡ true
unfolding border_word
border_named Ignore = refl
border_named Preserve = refl

pub role_named : (r : Role) → is_name (role_word r) ≡ true
unfolding role_word
role_named Input = refl
role_named Local = refl
role_named Output = refl

a_blank : (line : ℕ) → Always line (codes " ") []
unfolding tokens_behind front_of
a_blank line rest = refl

a_colon : (line : ℕ) → Always line (codes ": ") (Sign Colon ∷ [])
unfolding tokens_behind front_of
a_colon line rest = refl

an_equal : (line : ℕ) → Always line (codes " = ") (Sign EqualSign ∷ [])
unfolding tokens_behind front_of
an_equal line rest = refl

star_first : (rest : List ℕ) (line : ℕ) → tokens_behind 0 line (42 ∷ rest) ≡ on_line line (Sign Star) ∷ tokens_behind 0 line rest
unfolding tokens_behind front_of
star_first [] line = refl
star_first (b ∷ bs) line = refl

-- the tokens of the settings' lines
abbrev pub setting_tokens : PlainProgram → List (List Token)
setting_tokens p =
    (Name (codes "kernel") ∷ Sign Colon ∷ Name p.kernel ∷ []) ∷ (Name (codes "burst") ∷ Name (codes "width") ∷ Sign Colon ∷ Number p.burst ∷ []) ∷
    (Name (codes "unroll") ∷ Name (codes "factor") ∷ Sign Colon ∷ Number p.unroll ∷ []) ∷
    (Name (codes "iterate") ∷ Sign Colon ∷ Number p.iterate ∷ []) ∷ (Name (codes "border") ∷ Sign Colon ∷ Name (border_word p.border) ∷ []) ∷ []

-- the settings can be read
pub record AreSettings (p : PlainProgram) : Type 0 where
  pub kernel : is_name p.kernel ≡ true
  pub burst : p.burst < 2 ^ 64
  pub unroll : p.unroll < 2 ^ 64
  pub iterate : p.iterate < 2 ^ 64

settings_lex : (p : PlainProgram) → AreSettings p → AllLexed (setting_lines p) (setting_tokens p)
settings_lex p h = (
  λ line. mark_then line (codes "kernel: ") p.kernel (Name (codes "kernel") ∷ Sign Colon ∷ []) (Name p.kernel ∷ []) (kernel_word line)
      (a_name line p.kernel h.kernel),
  (
    λ line. mark_then line (codes "burst width: ") (decimal p.burst) (Name (codes "burst") ∷ Name (codes "width") ∷ Sign Colon ∷ [])
        (Number p.burst ∷ []) (burst_word line) (a_number line p.burst h.burst),
    (
      λ line. mark_then line (codes "unroll factor: ") (decimal p.unroll) (Name (codes "unroll") ∷ Name (codes "factor") ∷ Sign Colon ∷ [])
          (Number p.unroll ∷ []) (unroll_word line) (a_number line p.unroll h.unroll),
      (
        λ line. mark_then line (codes "iterate: ") (decimal p.iterate) (Name (codes "iterate") ∷ Sign Colon ∷ []) (Number p.iterate ∷ [])
            (iterate_word line) (a_number line p.iterate h.iterate),
        (
          λ line. mark_then line (codes "border: ") (border_word p.border) (Name (codes "border") ∷ Sign Colon ∷ []) (Name (border_word p.border) ∷ [])
              (border_start line) (a_name line (border_word p.border) (border_named p.border)),
          tt,
        ),
      ),
    ),
  ),
)

-- a statement's word, its type and its name
abbrev pub head_tokens : List ℕ → IntType → List ℕ → List Token
head_tokens word ty name = (Name word ∷ []) ++ ([] ++ ((Name (type_text ty) ∷ []) ++ ((Sign Colon ∷ []) ++ (Name name ∷ []))))

head_lex : (line : ℕ) (word : List ℕ) (ty : IntType) (name : List ℕ) → is_name word ≡ true → is_name (type_text ty) ≡ true → is_name name ≡ true
    → Lexes line (headed word ty name) (head_tokens word ty name)
head_lex line word ty name h k n rest s =
    let third : Lexes line (codes ": " ++ name) ((Sign Colon ∷ []) ++ (Name name ∷ [])) = mark_then line (codes ": ") name (Sign Colon ∷ [])
    (Name name ∷ []) (a_colon line) (a_name line name n) in
    let second : tokens_behind 0 line ((type_text ty ++ (codes ": " ++ name)) ++ rest) ≡ map (on_line line)
    ((Name (type_text ty) ∷ []) ++ ((Sign Colon ∷ []) ++ (Name name ∷ []))) ++ tokens_behind 0 line rest = joined line (type_text ty)
    (codes ": " ++ name) rest (Name (type_text ty) ∷ []) ((Sign Colon ∷ []) ++ (Name name ∷ []))
    (a_name line (type_text ty) k ((codes ": " ++ name) ++ rest) refl) (third rest s) in
    let first : tokens_behind 0 line ((codes " " ++ (type_text ty ++ (codes ": " ++ name))) ++ rest) ≡ map (on_line line)
    ([] ++ ((Name (type_text ty) ∷ []) ++ ((Sign Colon ∷ []) ++ (Name name ∷ [])))) ++ tokens_behind 0 line rest = joined line (codes " ")
    (type_text ty ++ (codes ": " ++ name)) rest [] ((Name (type_text ty) ∷ []) ++ ((Sign Colon ∷ []) ++ (Name name ∷ [])))
    (a_blank line ((type_text ty ++ (codes ": " ++ name)) ++ rest)) second in
    joined line word (codes " " ++ (type_text ty ++ (codes ": " ++ name))) rest (Name word ∷ [])
    ([] ++ ((Name (type_text ty) ∷ []) ++ ((Sign Colon ∷ []) ++ (Name name ∷ []))))
    (a_name line word h ((codes " " ++ (type_text ty ++ (codes ": " ++ name))) ++ rest) refl) first

-- the tokens of a param's line
abbrev pub param_tokens : PlainParam → List Token
param_tokens q = head_tokens (codes "param") q.ty q.name ++ index_tokens q.sizes

-- a param's line can be read
pub record IsParam (q : PlainParam) : Type 0 where
  pub ty : is_name (type_text q.ty) ≡ true
  pub name : is_name q.name ≡ true
  pub sizes : AreWords q.sizes

param_lex : (q : PlainParam) → IsParam q → (line : ℕ) → Lexes line (param_line q) (param_tokens q)
param_lex q h line =
    λ rest s. joined line (headed (codes "param") q.ty q.name) (indexes_text q.sizes) rest (head_tokens (codes "param") q.ty q.name)
    (index_tokens q.sizes)
    (head_lex line (codes "param") q.ty q.name refl h.ty h.name (indexes_text q.sizes ++ rest) (indexes_part q.sizes rest s))
    (indexes_lex line q.sizes h.sizes rest)

abbrev pub AreParams : List PlainParam → Type 0
AreParams [] = Unit {0}
AreParams (q ∷ qs) = IsParam q × AreParams qs

params_lex : (qs : List PlainParam) → AreParams qs → AllLexed (map param_line qs) (map param_tokens qs)
params_lex [] h = tt
params_lex (q ∷ qs) h = (param_lex q h.0, params_lex qs h.1)

-- the tokens of a tile, and of a left side
abbrev pub tile_tokens : List ℕ → List (List Token)
tile_tokens ns = map (λ n. Number n ∷ []) ns ++ (Sign Star ∷ []) ∷ []

abbrev pub left_tokens : List ℕ → List (List Token)
left_tokens ns = map (λ n. Number 0 ∷ []) ns ++ (Number 0 ∷ []) ∷ []

tile_lex : (line : ℕ) (ns : List ℕ) → AreWords ns → AllLex line (map decimal ns ++ codes "*" ∷ []) (tile_tokens ns)
tile_lex line [] h = (λ rest s. star_first rest line, tt)
tile_lex line (n ∷ ns) h = (a_number line n h.0, tile_lex line ns h.1)

a_zero : (line : ℕ) → Lexes line (codes "0") (Number 0 ∷ [])
unfolding digits
a_zero line = a_number line 0 (lit< tt)

left_lex : (line : ℕ) (ns : List ℕ) → AllLex line (map (λ n. codes "0") ns ++ codes "0" ∷ []) (left_tokens ns)
left_lex line [] = (a_zero line, tt)
left_lex line (n ∷ ns) = (a_zero line, left_lex line ns)

-- the tokens of what stands behind the name of a tensor: a tile, or a left side and a formula
abbrev pub body_tokens : PlainProgram → Option Formula → List Token
body_tokens p None = listed_tokens (tile_tokens p.extents)
body_tokens p (Some f) = listed_tokens (left_tokens p.extents) ++ ((Sign EqualSign ∷ []) ++ formula_tokens p f)

abbrev pub body_text : PlainProgram → Option Formula → List ℕ
body_text p None = tile_text p
body_text p (Some f) = left_text p ++ (codes " = " ++ formula_text p f)

-- a tensor's formula can be read, if it has one
abbrev pub IsBody : PlainProgram → Option Formula → Type 0
IsBody p None = AreWords p.extents
IsBody p (Some f) = IsWritable p f

body_lex : (p : PlainProgram) (o : Option Formula) (line : ℕ) → IsBody p o → Lexes line (body_text p o) (body_tokens p o)
body_lex p None line h =
    always_lexes line (tile_text p) (listed_tokens (tile_tokens p.extents))
    (listed_lex line (map decimal p.extents ++ codes "*" ∷ []) (tile_tokens p.extents) (tile_lex line p.extents h))
body_lex p (Some f) line h =
    mark_then line (left_text p) (codes " = " ++ formula_text p f) (listed_tokens (left_tokens p.extents))
    ((Sign EqualSign ∷ []) ++ formula_tokens p f)
    (listed_lex line (map (λ n. codes "0") p.extents ++ codes "0" ∷ []) (left_tokens p.extents) (left_lex line p.extents))
    (mark_then line (codes " = ") (formula_text p f) (Sign EqualSign ∷ []) (formula_tokens p f) (an_equal line) (formula_lex p line f h))

body_part : (p : PlainProgram) (o : Option Formula) (rest : List ℕ)
    → (Stops (body_text p o ++ rest)) ×
    (body_text p o ≡ elim o as (λ v. List ℕ) [ None ↦ tile_text p | Some f ↦ left_text p ++ (codes " = " ++ formula_text p f) ])
body_part p None rest = (refl, refl)
body_part p (Some f) rest = (refl, refl)

-- the tokens of a tensor's line
abbrev pub tensor_tokens : PlainProgram → PlainTensor → List Token
tensor_tokens p t = head_tokens (role_word t.role) t.ty t.name ++ body_tokens p t.formula

-- a tensor's line can be read
pub record IsTensor (p : PlainProgram) (t : PlainTensor) : Type 0 where
  pub ty : is_name (type_text t.ty) ≡ true
  pub name : is_name t.name ≡ true
  pub body : IsBody p t.formula

tensor_lex : (p : PlainProgram) (t : PlainTensor) → IsTensor p t → (line : ℕ) → Lexes line (tensor_line p t) (tensor_tokens p t)
tensor_lex p t h line =
    let own : Lexes line (headed (role_word t.role) t.ty t.name ++ body_text p t.formula) (tensor_tokens p t) = λ rest s. joined line
    (headed (role_word t.role) t.ty t.name) (body_text p t.formula) rest (head_tokens (role_word t.role) t.ty t.name) (body_tokens p t.formula)
    (head_lex line (role_word t.role) t.ty t.name (role_named t.role) h.ty h.name (body_text p t.formula ++ rest) (body_part p t.formula rest).0)
    (body_lex p t.formula line h.body rest s) in
    subst (λ (w : List ℕ). Lexes line (headed (role_word t.role) t.ty t.name ++ w) (tensor_tokens p t)) (body_part p t.formula []).1 own

abbrev pub AreTensors : PlainProgram → List PlainTensor → Type 0
AreTensors p [] = Unit {0}
AreTensors p (t ∷ ts) = IsTensor p t × AreTensors p ts

tensors_lex : (p : PlainProgram) (ts : List PlainTensor) → AreTensors p ts → AllLexed (map (tensor_line p) ts) (map (tensor_tokens p) ts)
tensors_lex p [] h = tt
tensors_lex p (t ∷ ts) h = (tensor_lex p t h.0, tensors_lex p ts h.1)

-- the tokens of the canonical text, line by line
abbrev pub canonical_tokens : PlainProgram → List (List Token)
canonical_tokens p = setting_tokens p ++ (map param_tokens p.params ++ map (tensor_tokens p) p.tensors)

-- each name and number of a program can be read
pub record IsReadBack (p : PlainProgram) : Type 0 where
  pub settings : AreSettings p
  pub params : AreParams p.params
  pub tensors : AreTensors p p.tensors

-- the canonical text has these tokens
pub canonical_lex : (p : PlainProgram) → IsReadBack p → tokens_of (canonical p) ≡ placed_lines 1 (canonical_tokens p)
unfolding canonical
canonical_lex p h =
    let rest : AllLexed (map param_line p.params ++ map (tensor_line p) p.tensors)
    (map param_tokens p.params ++ map (tensor_tokens p) p.tensors) = all_more (map param_line p.params) (map (tensor_line p) p.tensors)
    (map param_tokens p.params) (map (tensor_tokens p) p.tensors) (params_lex p.params h.params) (tensors_lex p p.tensors h.tensors) in
    ended_lex 1 (canonical_lines p) (canonical_tokens p)
    (all_more (setting_lines p) (map param_line p.params ++ map (tensor_line p) p.tensors) (setting_tokens p)
    (map param_tokens p.params ++ map (tensor_tokens p) p.tensors) (settings_lex p h.settings) rest)
