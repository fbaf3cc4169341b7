-- The canonical texts of a program and of formulas, by computation.
use Rattle.std.proofs.Common.{◌≡◌, ℕ, true, false, List, [], ◌∷◌, ◌++◌, Some, None, ℤ, pos, negsuc, codes, refl}
use Rattle.std.specs.Fmt.{digits}
use Rattle.soda_words.specs.IntType.{IntType}
use Rattle.soda_words.specs.declared.operators.UnOp.TheVariants.{Plus, Minus, Flip, Not, Abs}
use Rattle.soda_words.specs.declared.operators.BinOp.TheVariants.{LogOr, LogAnd, BitOr, BitXor, BitAnd, Eq, Lt, Add, Sub, Mul, Div, Rem, Min, Max}
use Rattle.soda_ir.specs.Formula.{Formula, number, read, param, unary, binary, choice, cast}
use Rattle.soda_ir.specs.Program.{PlainProgram}
use Rattle.soda_ir.specs.declared.program.Border.TheVariants.{Ignore, Preserve}
use Rattle.soda_ir.specs.declared.program.Role.TheVariants.{Input, Local, Output}
use Rattle.soda_print.specs.Canonical.{canonical, formula_text, unary_text, binary_text, tensor_name, value_text, type_text, role_word, border_word}

abbrev uint8 : IntType
uint8 = record { signed = false; bits = 8 }

abbrev int16 : IntType
int16 = record { signed = true; bits = 16 }

abbrev a : ℤ → Formula
a d = read 0 (d ∷ [])

abbrev avg : PlainProgram
avg = record {
  kernel = codes "avg";
  burst = 8;
  unroll = 1;
  iterate = 1;
  border = Ignore;
  params = [];
  extents = [];
  tensors = record { name = codes "a"; ty = uint8; role = Input; formula = None }
      ∷ record {
        name = codes "o";
        ty = uint8;
        role = Output;
        formula = Some
            (binary Div (binary Add (binary Add (a (negsuc 0)) (a (pos 0))) (a (pos 1))) (number 3));
      } ∷ [];
}

-- the seven lines of an average
avg-text : canonical avg
    ≡ codes "kernel: avg\nburst width: 8\nunroll factor: 1\niterate: 1\nborder: ignore\n"
    ++ codes "input uint8: a(*)\noutput uint8: o(0) = (a(-1) + a(0) + a(1)) / 3\n"
unfolding digits canonical unary_text binary_text tensor_name value_text type_text role_word border_word
avg-text = refl

abbrev x : Formula
x = read 0 (negsuc 0 ∷ pos 20 ∷ [])

abbrev y : Formula
y = read 1 (pos 0 ∷ pos 0 ∷ [])

-- params of no, one and two sizes, an input, a local and an output in two dimensions
abbrev wide : Formula → PlainProgram
wide f = record {
  kernel = codes "wide";
  burst = 64;
  unroll = 2;
  iterate = 3;
  border = Preserve;
  params = record { name = codes "c"; ty = int16; sizes = [] } ∷ record { name = codes "v"; ty = int16; sizes = 5 ∷ [] }
      ∷ record { name = codes "m"; ty = uint8; sizes = 3 ∷ 4 ∷ [] } ∷ [];
  extents = 2000 ∷ [];
  tensors = record { name = codes "x"; ty = uint8; role = Input; formula = None }
      ∷ record { name = codes "y"; ty = int16; role = Local; formula = Some x }
      ∷ record { name = codes "z"; ty = uint8; role = Output; formula = Some f } ∷ [];
}

wide-text : canonical (wide y)
    ≡ codes "kernel: wide\nburst width: 64\nunroll factor: 2\niterate: 3\nborder: preserve\n"
    ++ codes "param int16: c\nparam int16: v[5]\nparam uint8: m[3][4]\n"
    ++ codes "input uint8: x(2000, *)\nlocal int16: y(0, 0) = x(-1, 20)\noutput uint8: z(0, 0) = y(0, 0)\n"
unfolding digits canonical unary_text binary_text tensor_name value_text type_text role_word border_word
wide-text = refl

abbrev text : Formula → List ℕ
text f = formula_text (wide f) f

abbrev n : ℕ → Formula
n k = number k

abbrev Shows : Formula → List ℕ → Type 0
Shows f t = text f ≡ t

-- operators of two operands: looser operands, and right ones of the same level, stand in brackets
levels : Shows (binary Sub (n 1) (binary Sub (n 2) (n 3))) (codes "1 - (2 - 3)")
    × Shows (binary Sub (binary Sub (n 1) (n 2)) (n 3)) (codes "1 - 2 - 3") × Shows (binary Mul (binary Add (n 1) (n 2)) (n 3)) (codes "(1 + 2) * 3")
    × Shows (binary Add (binary Mul (n 1) (n 2)) (binary Rem (n 3) (n 4))) (codes "1 * 2 + 3 % 4")
    × Shows (binary LogOr (binary LogAnd (n 1) (n 2)) (binary LogOr (n 3) (n 4))) (codes "1 && 2 || (3 || 4)")
    × Shows (binary BitAnd (binary BitOr (n 1) (n 2)) (binary BitXor (n 3) (n 4))) (codes "(1 | 2) & (3 ^ 4)")
    × Shows (binary Eq (binary Lt (n 1) (n 2)) (binary Eq (n 3) (n 4))) (codes "1 < 2 == (3 == 4)")
unfolding digits unary_text binary_text tensor_name value_text type_text
levels = (refl, refl, refl, refl, refl, refl, refl)

-- prefix operators: their operands stand in brackets where they are formulas of two operands
prefixes : Shows (unary Minus (binary Mul (n 1) (n 2))) (codes "-(1 * 2)") × Shows (unary Minus (unary Minus (n 1))) (codes "--1")
    × Shows (unary Not (unary Flip (unary Plus x))) (codes "!~+x(-1, 20)")
    × Shows (binary Mul (unary Minus (n 1)) (unary Not (n 2))) (codes "-1 * !2") × Shows (unary Minus (binary Min (n 1) (n 2))) (codes "-min(1, 2)")
unfolding digits unary_text binary_text tensor_name value_text type_text
prefixes = (refl, refl, refl, refl, refl)

-- calls and casts: no brackets but their own
calls : Shows (binary Max (binary Add (n 1) (n 2)) (binary LogOr (n 3) (n 4))) (codes "max(1 + 2, 3 || 4)")
    × Shows (binary Mul (binary Min (n 1) (n 2)) (unary Abs (binary Sub (n 3) (n 4)))) (codes "min(1, 2) * abs(3 - 4)")
    × Shows (choice (n 1) (binary Add (n 2) (n 3)) x) (codes "select(1, 2 + 3, x(-1, 20))")
    × Shows (cast int16 (binary Add x y)) (codes "int16(x(-1, 20) + y(0, 0))")
unfolding digits unary_text binary_text tensor_name value_text type_text
calls = (refl, refl, refl, refl)

-- params' values: the last index changes fastest
values : Shows (param 0 0) (codes "c") × Shows (param 1 3) (codes "v[3]") × Shows (param 2 0) (codes "m[0][0]") × Shows (param 2 6) (codes "m[1][2]")
    × Shows (param 2 11) (codes "m[2][3]")
unfolding digits unary_text binary_text tensor_name value_text type_text
values = (refl, refl, refl, refl, refl)
