-- Points that keep away from the sides of the box: by nothing, by what one read needs, and by what two need together.
use Rattle.std.proofs.Common.{◌≡◌, ℕ, zero, suc, max, Bool, true, false, ◌&&◌, List, [], ◌∷◌, length, replicate, ℤ, pos, ◌+ℤ◌, ◌-ℤ◌, int_le, int_lt, refl, sym, ◌∙◌, arith}
use Rattle.std.proofs.lemmas.Int.{ints}
use Rattle.std.proofs.lemmas.List.{length-replicate}
use Rattle.soda_eval.specs.Points.{in_box, moved}
use Rattle.time_stages.specs.declared.margins.Margins.{Margins}
use Rattle.time_stages.specs.Margins.{at_least_none, greatest, high_needed, keeps_away, low_needed, needed, no_margins, widest}

-- two times three tests, pair by pair
three_pairs : (a b c d e f : Bool) → ((a && (b && c)) && (d && (e && f))) ≡ ((a && d) && ((b && e) && (c && f)))
three_pairs true true true d e f = refl
three_pairs true true false true true f = refl
three_pairs true true false true false f = refl
three_pairs true true false false e f = refl
three_pairs true false c true e f = refl
three_pairs true false c false e f = refl
three_pairs false b c d e f = refl

and_shifted : (a b c : Bool) → ((a && b) && c) ≡ (a && (b && c))
and_shifted true b c = refl
and_shifted false b c = refl

-- one number that keeps no margin, one that keeps what a read needs, and one that keeps the greater of two
unmoved : (d : ℤ) → d ≡ d +ℤ pos 0
unmoved d = omega (arith, ints)

low_moved : (l : ℕ) (d e : ℤ) → (int_le (pos 0) d && int_le (pos l) (d +ℤ e)) ≡ int_le (pos (at_least_none (pos l -ℤ e))) d
low_moved l d e = grind (arith, ints)

high_moved : (h n : ℕ) (d e : ℤ) → (int_lt d (pos n) && int_lt (d +ℤ e +ℤ pos h) (pos n)) ≡ int_lt (d +ℤ pos (at_least_none (pos h +ℤ e))) (pos n)
high_moved h n d e = grind (arith, ints)

low_greater : (a b : ℕ) (d : ℤ) → (int_le (pos a) d && int_le (pos b) d) ≡ int_le (pos (max a b)) d
low_greater a b d = grind (arith, ints)

high_greater : (a b n : ℕ) (d : ℤ) → (int_lt (d +ℤ pos a) (pos n) && int_lt (d +ℤ pos b) (pos n)) ≡ int_lt (d +ℤ pos (max a b)) (pos n)
high_greater a b n d = grind (arith, ints)

-- a point is in the box where it keeps margins of 0
keeps_none : (ns : List ℕ) (k : ℕ) (q : List ℤ) → length ns ≡ k → in_box ns q ≡ keeps_away ns (replicate k 0) (replicate k 0) q
keeps_none [] zero [] h = refl
keeps_none [] zero (d ∷ ds) h = refl
keeps_none [] (suc k) q h = absurd (omega arith)
keeps_none (n ∷ ns) zero q h = absurd (omega arith)
keeps_none (n ∷ ns) (suc k) [] h = refl
keeps_none (n ∷ ns) (suc k) (d ∷ ds) h =
    let rest : in_box ns ds ≡ keeps_away ns (replicate k 0) (replicate k 0) ds = keeps_none ns k ds (omega arith) in
    and_shifted (int_le (pos 0) d) (int_lt d (pos n)) (in_box ns ds)
    ∙ (λ i. int_le (pos 0) d && (int_lt (unmoved d i) (pos n) && rest i))

-- a point keeps what a read needs where it is in the box and the point that is read keeps its margins
keeps_moved : (ns ls hs : List ℕ) (q o : List ℤ) → length ls ≡ length ns → length hs ≡ length ns → length o ≡ length ns
    → (in_box ns q && keeps_away ns ls hs (moved q o)) ≡ keeps_away ns (low_needed ls o) (high_needed hs o) q
keeps_moved [] [] [] [] [] a b c = refl
keeps_moved [] [] [] (d ∷ ds) [] a b c = refl
keeps_moved (n ∷ ns) (l ∷ ls) (h ∷ hs) [] (e ∷ es) a b c = refl
keeps_moved (n ∷ ns) (l ∷ ls) (h ∷ hs) (d ∷ ds) (e ∷ es) a b c =
    let low = low_moved l d e in
    let high = high_moved h n d e in
    let rest = keeps_moved ns ls hs ds es (omega arith) (omega arith) (omega arith) in
    let there = int_lt (d +ℤ e +ℤ pos h) (pos n) && keeps_away ns ls hs (moved ds es) in
    (λ i. and_shifted (int_le (pos 0) d) (int_lt d (pos n)) (in_box ns ds) i && (int_le (pos l) (d +ℤ e) && there))
    ∙ three_pairs (int_le (pos 0) d) (int_lt d (pos n)) (in_box ns ds) (int_le (pos l) (d +ℤ e)) (int_lt (d +ℤ e +ℤ pos h) (pos n)) (keeps_away ns ls hs (moved ds es))
    ∙ (λ i. low i && (high i && rest i))
keeps_moved ns ls hs q o a b c = absurd (omega arith)

-- a point keeps the greater margins where it keeps both
keeps_greatest : (ns ls ms hs js : List ℕ) (q : List ℤ) → length ls ≡ length ns → length ms ≡ length ns → length hs ≡ length ns → length js ≡ length ns
    → (keeps_away ns ls hs q && keeps_away ns ms js q) ≡ keeps_away ns (greatest ls ms) (greatest hs js) q
keeps_greatest [] [] [] [] [] [] a b c f = refl
keeps_greatest [] [] [] [] [] (d ∷ ds) a b c f = refl
keeps_greatest (n ∷ ns) (l ∷ ls) (m ∷ ms) (h ∷ hs) (j ∷ js) [] a b c f = refl
keeps_greatest (n ∷ ns) (l ∷ ls) (m ∷ ms) (h ∷ hs) (j ∷ js) (d ∷ ds) a b c f =
    let low = low_greater l m d in
    let high = high_greater h j n d in
    let rest = keeps_greatest ns ls ms hs js ds (omega arith) (omega arith) (omega arith) (omega arith) in
    three_pairs (int_le (pos l) d) (int_lt (d +ℤ pos h) (pos n)) (keeps_away ns ls hs ds) (int_le (pos m) d) (int_lt (d +ℤ pos j) (pos n)) (keeps_away ns ms js ds)
    ∙ (λ i. low i && (high i && rest i))
keeps_greatest ns ls ms hs js q a b c f = absurd (omega arith)

-- how many numbers these margins have
length-greatest : (ls ms : List ℕ) → length ms ≡ length ls → length (greatest ls ms) ≡ length ls
length-greatest [] ms h = refl
length-greatest (l ∷ ls) [] h = h
length-greatest (l ∷ ls) (m ∷ ms) h = omega (arith, length-greatest ls ms (omega arith))

length-low : (ls : List ℕ) (o : List ℤ) → length o ≡ length ls → length (low_needed ls o) ≡ length ls
length-low [] o h = refl
length-low (l ∷ ls) [] h = h
length-low (l ∷ ls) (e ∷ es) h = omega (arith, length-low ls es (omega arith))

length-high : (hs : List ℕ) (o : List ℤ) → length o ≡ length hs → length (high_needed hs o) ≡ length hs
length-high [] o h = refl
length-high (h ∷ hs) [] k = k
length-high (h ∷ hs) (e ∷ es) k = omega (arith, length-high hs es (omega arith))

-- a test of a point that passes exactly where the point keeps these margins, one number in each dimension
pub record KeepsMargins (ns : List ℕ) (q : List ℤ) (m : Margins) (b : Bool) : Type 0 where
  pub low_dims : length m.low ≡ length ns
  pub high_dims : length m.high ≡ length ns
  pub is : b ≡ keeps_away ns m.low m.high q

pub same_kept : (ns : List ℕ) (q : List ℤ) (m : Margins) (b c : Bool) → b ≡ c → KeepsMargins ns q m b → KeepsMargins ns q m c
same_kept ns q m b c e k = record { low_dims = k.low_dims; high_dims = k.high_dims; is = sym e ∙ k.is }

pub none_kept : (ns : List ℕ) (dims : ℕ) (q : List ℤ) → length ns ≡ dims → KeepsMargins ns q (no_margins dims) (in_box ns q)
none_kept ns dims q h = record {
  low_dims = length-replicate dims 0 ∙ sym h;
  high_dims = length-replicate dims 0 ∙ sym h;
  is = keeps_none ns dims q h;
}

pub needed_kept : (ns : List ℕ) (q o : List ℤ) (m : Margins) (b : Bool) → length o ≡ length ns → KeepsMargins ns (moved q o) m b → KeepsMargins ns q (needed m o) (in_box ns q && b)
needed_kept ns q o m b h k = record {
  low_dims = length-low m.low o (h ∙ sym k.low_dims) ∙ k.low_dims;
  high_dims = length-high m.high o (h ∙ sym k.high_dims) ∙ k.high_dims;
  is = (λ i. in_box ns q && k.is i) ∙ keeps_moved ns m.low m.high q o k.low_dims k.high_dims h;
}

pub widest_kept : (ns : List ℕ) (q : List ℤ) (m n : Margins) (b c : Bool) → KeepsMargins ns q m b → KeepsMargins ns q n c → KeepsMargins ns q (widest m n) (b && c)
widest_kept ns q m n b c k j = record {
  low_dims = length-greatest m.low n.low (j.low_dims ∙ sym k.low_dims) ∙ k.low_dims;
  high_dims = length-greatest m.high n.high (j.high_dims ∙ sym k.high_dims) ∙ k.high_dims;
  is = (λ i. k.is i && j.is i) ∙ keeps_greatest ns m.low n.low m.high n.high q k.low_dims j.low_dims k.high_dims j.high_dims;
}
