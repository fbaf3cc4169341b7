-- The grammar of statements: which lists of tokens are which statements.
use Rattle.std.specs.Prelude.{◌≡◌, ℕ, ◌≤◌, true, false, List, [], ◌∷◌, ◌++◌, length, codes, Option, Some, None, ℤ}
use Rattle.soda_words.specs.Limits.{most_sizes}
use Rattle.soda_words.specs.Names.{is_word}
use Rattle.soda_words.specs.declared.symbol.Symbol.TheVariants.{Star, OpenSquare, CloseSquare, Colon, EqualSign, Dot}
use Rattle.soda_words.specs.declared.token.Placed.{Placed}
use Rattle.soda_words.specs.declared.token.Word.{Word}
use Rattle.soda_formula.specs.Terms.{Term}
use Rattle.soda_formula.specs.Grammar.{symbol_on, name_on, number_on, word_on, AreParted, InRound, AreOffsets, IsFormula}
use Rattle.soda_formula.specs.declared.statement.Extent.{Extent}
use Rattle.soda_formula.specs.declared.statement.Extent.TheVariants.{Fixed, Open}
use Rattle.soda_formula.specs.declared.statement.Size.{Size}
use Rattle.soda_formula.specs.Statements.{PlainStatement, kernel, burst_width, unroll_factor, iterate, border, cluster, param, input, local, output}

-- an extent of a tile
pub data IsExtent : List Placed → Extent → Type 0 where
  a_number : (line n : ℕ) → IsExtent (number_on line n ∷ []) (Fixed n)
  a_star : (line : ℕ) → IsExtent (symbol_on line Star ∷ []) Open

-- numbers in square brackets, any number of them
pub data AreSizes : List Placed → List Size → Type 0 where
  no_size : AreSizes [] []
  size_before : {ts : List Placed} {sizes : List Size} (opened line n closed : ℕ) → AreSizes ts sizes
      → AreSizes
      (symbol_on opened OpenSquare ∷ number_on line n ∷ symbol_on closed CloseSquare ∷ ts)
      (record { line = line; value = n } ∷ sizes)

-- one or more numbers, parted by dots
pub data AreDotted : List Placed → Type 0 where
  last_number : (line n : ℕ) → AreDotted (number_on line n ∷ [])
  number_before : {ts : List Placed} (line n dot : ℕ) → AreDotted ts
      → AreDotted (number_on line n ∷ symbol_on dot Dot ∷ ts)

-- a bank of memory, or none
pub data IsBank : List Placed → Type 0 where
  no_bank : IsBank []
  a_bank : {ts : List Placed} (line : ℕ) → AreDotted ts → IsBank (name_on line (codes "dram") ∷ ts)

-- a word that may stand for a type: any but `dram`
abbrev pub MayBeType : Word → Type 0
MayBeType w = is_word (codes "dram") w.text ≡ false

-- a tile, or none
pub data IsTile : List Placed → Option (List Extent) → Type 0 where
  no_tile : IsTile [] None
  a_tile : {ts : List Placed} {extents : List Extent} → InRound (AreParted IsExtent) ts extents
      → IsTile ts (Some extents)

-- the left side of a formula, from the type to the equals sign
pub record IsLeftSide (ts : List Placed) (type defined : Word) (left : List ℤ) : Type 0 where
  pub colon : ℕ
  pub equals : ℕ
  pub offsets : List Placed
  pub is : ts ≡ word_on type ∷ symbol_on colon Colon ∷ word_on defined ∷ (offsets ++ symbol_on equals EqualSign ∷ [])
  pub typed : MayBeType type
  pub at : AreOffsets offsets left

-- the first word and the left side of a local
pub record IsLocalHead (ts : List Placed) (type defined : Word) (left : List ℤ) : Type 0 where
  pub line : ℕ
  pub rest : List Placed
  pub is : ts ≡ name_on line (codes "local") ∷ rest
  pub side : IsLeftSide rest type defined left

-- the first word, the bank and the left side of an output
pub record IsOutputHead (ts : List Placed) (type defined : Word) (left : List ℤ) : Type 0 where
  pub line : ℕ
  pub bank : List Placed
  pub rest : List Placed
  pub is : ts ≡ name_on line (codes "output") ∷ (bank ++ rest)
  pub banked : IsBank bank
  pub side : IsLeftSide rest type defined left

-- the tokens are this statement
pub data IsStatement : List Placed → PlainStatement → Type 0 where
  a_kernel : (line colon at : ℕ) (text : List ℕ)
      → IsStatement (name_on line (codes "kernel") ∷ symbol_on colon Colon ∷ name_on at text ∷ []) (kernel line text)
  a_burst_width : (line second colon at width : ℕ)
      → IsStatement
      (name_on line (codes "burst") ∷ name_on second (codes "width") ∷ symbol_on colon Colon ∷ number_on at width ∷ [])
      (burst_width line width)
  an_unroll_factor : (line second colon at factor : ℕ)
      → IsStatement
      (name_on line (codes "unroll") ∷ name_on second (codes "factor")
      ∷ symbol_on colon Colon ∷ number_on at factor ∷ [])
      (unroll_factor line factor)
  an_iterate : (line colon at times : ℕ)
      → IsStatement
      (name_on line (codes "iterate") ∷ symbol_on colon Colon ∷ number_on at times ∷ [])
      (iterate line times)
  ignored_border : (line colon at : ℕ)
      → IsStatement
      (name_on line (codes "border") ∷ symbol_on colon Colon ∷ name_on at (codes "ignore") ∷ [])
      (border line false)
  preserved_border : (line colon at : ℕ)
      → IsStatement
      (name_on line (codes "border") ∷ symbol_on colon Colon ∷ name_on at (codes "preserve") ∷ [])
      (border line true)
  a_cluster : (line colon at : ℕ) (text : List ℕ)
      → IsStatement (name_on line (codes "cluster") ∷ symbol_on colon Colon ∷ name_on at text ∷ []) (cluster line)
  a_param : {ts : List Placed} {sizes : List Size} (line colon : ℕ) (type declared : Word) → MayBeType type
      → AreSizes ts sizes → length sizes ≤ most_sizes
      → IsStatement
      (name_on line (codes "param") ∷ word_on type ∷ symbol_on colon Colon ∷ word_on declared ∷ ts)
      (param (record { ty = type; name = declared; sizes = sizes }))
  an_input : {bank ts : List Placed} {tile : Option (List Extent)} (line colon : ℕ) (type declared : Word)
      → IsBank bank → MayBeType type → IsTile ts tile
      → IsStatement
      (name_on line (codes "input") ∷ (bank ++ word_on type ∷ symbol_on colon Colon ∷ word_on declared ∷ ts))
      (input (record { ty = type; name = declared; tile = tile }))
  a_local : {ts us : List Placed} {left : List ℤ} {a : Term} (type defined : Word)
      → IsLocalHead ts type defined left → IsFormula us a
      → IsStatement (ts ++ us) (local (record { ty = type; name = defined; left = left; formula = a }))
  an_output : {ts us : List Placed} {left : List ℤ} {a : Term} (type defined : Word)
      → IsOutputHead ts type defined left → IsFormula us a
      → IsStatement (ts ++ us) (output (record { ty = type; name = defined; left = left; formula = a }))

-- the tokens are these statements, one behind another
pub data AreStatements : List Placed → List PlainStatement → Type 0 where
  no_statement : AreStatements [] []
  statement_before : {ts us : List Placed} {s : PlainStatement} {ss : List PlainStatement} → IsStatement ts s
      → AreStatements us ss → AreStatements (ts ++ us) (s ∷ ss)
