-- What the machine holds stands for the tokens that it read: operands, and each token.
use Rattle.std.proofs.Common.{append-nil, ◌≡◌, ℕ, nat_lt, Bool, true, false, List, [], ◌∷◌, ◌++◌, length, codes, Option, Some, None, ℤ, pos, neg_ℤ, refl, sym, ap, subst, arith, append_assoc, length-append, if◌then◌else◌}
use Rattle.std.proofs.lemmas.Bool.{ltb-true}
use Rattle.soda_words.specs.declared.operators.UnOp.{UnOp}
use Rattle.soda_words.specs.declared.operators.BinOp.TheVariants.{Min, Max}
use Rattle.soda_words.proofs.CallerLemmas.{is_word-same}
use Rattle.soda_words.specs.Names.{is_cast_word, is_word}
use Rattle.soda_words.specs.declared.symbol.Symbol.{Symbol}
use Rattle.soda_words.specs.declared.symbol.Symbol.TheVariants.{MinusSign, OpenRound, CloseRound, OpenSquare, CloseSquare, Comma}
use Rattle.soda_words.specs.declared.token.Placed.{Placed}
use Rattle.soda_words.specs.declared.token.Token.{Token}
use Rattle.soda_words.specs.declared.token.Token.TheVariants.{Name, Number, Sign, Bad}
use Rattle.soda_words.specs.declared.token.Word.{Word}
use Rattle.soda_formula.specs.Terms.{value}
use Rattle.soda_formula.specs.Grammar.{prefix_of, symbol_on, name_on, number_on, word_on, a_literal, a_cell, a_value, IsComponent, ahead, back, AreParted, last_item, item_before, AreIndexes, no_index, index_before}
use Rattle.soda_formula.specs.machine.Steps.{Frame, in_cast, in_abs, in_first, in_test, Mode, wanted, called, whole, named, at_component, at_magnitude, behind_component, at_index, at_close, indexed, State, in_state, sign_begun, after, name_followed, index_followed, opening_of, component, magnitude, component_followed, index, index_closed, opened, begun, feed, feeds, then_feed, word_mode, start}
use Rattle.soda_formula.proofs.Sound.{Open, Describes, Tells, after-tells}

-- one token more
more : (ts front us vs ws : List Placed) (p : Placed) → ts ≡ front ++ us → us ≡ vs → vs ++ p ∷ [] ≡ ws → ts ++ p ∷ [] ≡ front ++ ws
more ts front us vs ws p e d h = rw (e, d, ← h) (append_assoc front vs (p ∷ []))

parted-more : {ts : List Placed} {zs : List ℤ} → AreParted IsComponent ts zs → (line : ℕ) (us : List Placed) (others : List ℤ)
    → AreParted IsComponent us others → AreParted IsComponent (ts ++ symbol_on line Comma ∷ us) (zs ++ others)
parted-more (last_item c) line us others x = item_before line c x
parted-more (item_before {ts = ts} {us = vs} {a = a} {others = zs} l c rest) line us others x =
    let e : (ts ++ symbol_on l Comma ∷ vs) ++ symbol_on line Comma ∷ us ≡ ts ++ symbol_on l Comma
    ∷ (vs ++ symbol_on line Comma ∷ us) = append_assoc ts (symbol_on l Comma ∷ vs) (symbol_on line Comma ∷ us) in
    rw e (item_before l c (parted-more rest line us others x))

index-more : {ts : List Placed} {is : List ℕ} → AreIndexes ts is → (o line n c : ℕ)
    → AreIndexes (ts ++ symbol_on o OpenSquare ∷ number_on line n ∷ symbol_on c CloseSquare ∷ []) (is ++ n ∷ [])
index-more no_index o line n c = index_before o line n c no_index
index-more (index_before o' l' n' c' x) o line n c = index_before o' l' n' c' (index-more x o line n c)

-- what a word begins, by the five tests in turn
word-by : (w : Word) (fs : List Frame) (ts : List Placed) → Open fs ts → (a b c d e : Bool) → is_cast_word w.text ≡ a
    → is_word (codes "min") w.text ≡ b → is_word (codes "max") w.text ≡ c → is_word (codes "abs") w.text ≡ d → is_word (codes "select") w.text ≡ e
    → Describes (if a then called (in_cast w) else (if b then called (in_first Min) else
    (if c then called (in_first Max) else (if d then called in_abs else (if e then called in_test else named w))))) fs (ts ++ word_on w ∷ [])
word-by w fs ts o true b c d e ea eb ec ed ee =
    (ts, word_on w ∷ [], refl, o, (word_on w, refl, λ p. (p, refl, ea), tt))
word-by w fs ts o false true c d e ea eb ec ed ee =
    (ts, word_on w ∷ [], refl, o, (word_on w, refl, λ p. (w.line, p, w.text, refl, ap Some (is_word-same (codes "min") w.text eb)), tt))
word-by w fs ts o false false true d e ea eb ec ed ee =
    (ts, word_on w ∷ [], refl, o, (word_on w, refl, λ p. (w.line, p, w.text, refl, ap Some (is_word-same (codes "max") w.text ec)), tt))
word-by w fs ts o false false false true e ea eb ec ed ee = (
  ts,
  word_on w ∷ [],
  refl,
  o,
  (
    word_on w,
    refl,
    λ p. (
      w.line,
      p,
      ap (λ v. name_on w.line v ∷ symbol_on p OpenRound ∷ [])
          (sym (is_word-same (codes "abs") w.text ed)),
    ),
    tt,
  ),
)
word-by w fs ts o false false false false true ea eb ec ed ee = (
  ts,
  word_on w ∷ [],
  refl,
  o,
  (
    word_on w,
    refl,
    λ p. (
      w.line,
      p,
      ap (λ v. name_on w.line v ∷ symbol_on p OpenRound ∷ [])
          (sym (is_word-same (codes "select") w.text ee)),
    ),
    tt,
  ),
)
word-by w fs ts o false false false false false ea eb ec ed ee =
    (ts, word_on w ∷ [], refl, o, (refl, rw (ea, eb, ec, ed, ee)))

word-tells : (w : Word) (fs : List Frame) (ts : List Placed) → Open fs ts → Describes (word_mode w) fs (ts ++ word_on w ∷ [])
word-tells w fs ts o = word-by w fs ts o _ _ _ _ _ refl refl refl refl refl

prefix-tells : (q : Option UnOp) (s : Symbol) (fs : List Frame) (ts : List Placed) (line : ℕ) → prefix_of s ≡ q → Open fs ts
    → Tells (sign_begun q s fs) (ts ++ symbol_on line s ∷ [])
prefix-tells (Some op) s fs ts line e o = (ts, symbol_on line s ∷ [], refl, o, (line, s, refl, e), tt)
prefix-tells None OpenRound fs ts line e o = (ts, symbol_on line OpenRound ∷ [], refl, o, (line, refl), tt)
prefix-tells None _ fs ts line e o = tt

begun-tells : (k : Token) (line : ℕ) (fs : List Frame) (ts : List Placed) → Open fs ts → Tells (begun fs line k) (ts ++ record { line = line; token = k } ∷ [])
begun-tells (Name text) line fs ts o = word-tells (record { line = line; text = text }) fs ts o
begun-tells (Number n) line fs ts o = (ts, number_on line n ∷ [], refl, o, a_literal line n)
begun-tells (Sign s) line fs ts o = prefix-tells (prefix_of s) s fs ts line refl o
begun-tells Bad line fs ts o = tt

opened-tells : (k : Token) (line : ℕ) (f : Frame) (fs : List Frame) (ts : List Placed) → Describes (called f) fs ts
    → Tells (opened f fs k) (ts ++ record { line = line; token = k } ∷ [])
opened-tells (Sign OpenRound) line f fs ts (front, us, e, o, (q, d, k, u)) =
    (front, q ∷ symbol_on line OpenRound ∷ [], more ts front us (q ∷ []) (q ∷ symbol_on line OpenRound ∷ []) (symbol_on line OpenRound) e d refl, o, k line, u)
opened-tells _ line f fs ts h = tt

named-after : (k : Token) (line : ℕ) (w : Word) (fs : List Frame) (ts : List Placed) → Describes (named w) fs ts
    → Tells (after fs (value w []) k) (ts ++ record { line = line; token = k } ∷ [])
named-after k line w fs ts (front, us, e, o, (d, r)) =
    after-tells k line fs (value w []) ts front us e o (rw d (a_value w r no_index (omega arith)))

name-tells : (k : Token) (line : ℕ) (w : Word) (fs : List Frame) (ts : List Placed) → Describes (named w) fs ts
    → Tells (name_followed (opening_of k) w fs k) (ts ++ record { line = line; token = k } ∷ [])
name-tells (Sign OpenRound) line w fs ts (front, us, e, o, (d, r)) = (
  front,
  word_on w ∷ symbol_on line OpenRound ∷ [],
  more ts front us (word_on w ∷ []) (word_on w ∷ symbol_on line OpenRound ∷ [])
      (symbol_on line OpenRound) e d refl,
  o,
  (line, [], refl, r, λ vs z c. last_item c),
)
name-tells (Sign OpenSquare) line w fs ts (front, us, e, o, (d, r)) = (
  front,
  word_on w ∷ symbol_on line OpenSquare ∷ [],
  more ts front us (word_on w ∷ []) (word_on w ∷ symbol_on line OpenSquare ∷ [])
      (symbol_on line OpenSquare) e d refl,
  o,
  (line, [], refl, r, no_index, omega arith),
)
name-tells k line w fs ts h = named-after k line w fs ts h

component-tells : (k : Token) (line : ℕ) (w : Word) (zs : List ℤ) (fs : List Frame) (ts : List Placed) → Describes (at_component w zs) fs ts
    → Tells (component w zs fs k) (ts ++ record { line = line; token = k } ∷ [])
component-tells (Number n) line w zs fs ts (front, us, e, o, (p, vs, d, r, k)) = (
  front,
  word_on w ∷ symbol_on p OpenRound ∷ (vs ++ number_on line n ∷ []),
  more ts front us (word_on w ∷ symbol_on p OpenRound ∷ vs)
      (word_on w ∷ symbol_on p OpenRound ∷ (vs ++ number_on line n ∷ [])) (number_on line n) e d refl,
  o,
  (p, vs ++ number_on line n ∷ [], refl, r, k (number_on line n ∷ []) (pos n) (ahead line n)),
)
component-tells (Sign MinusSign) line w zs fs ts (front, us, e, o, (p, vs, d, r, k)) = (
  front,
  word_on w ∷ symbol_on p OpenRound ∷ (vs ++ symbol_on line MinusSign ∷ []),
  more ts front us (word_on w ∷ symbol_on p OpenRound ∷ vs)
      (word_on w ∷ symbol_on p OpenRound ∷ (vs ++ symbol_on line MinusSign ∷ [])) (symbol_on line MinusSign) e d refl,
  o,
  (p, line, vs, refl, r, k),
)
component-tells _ line w zs fs ts h = tt

magnitude-tells : (k : Token) (line : ℕ) (w : Word) (zs : List ℤ) (fs : List Frame) (ts : List Placed) → Describes (at_magnitude w zs) fs ts
    → Tells (magnitude w zs fs k) (ts ++ record { line = line; token = k } ∷ [])
magnitude-tells (Number n) line w zs fs ts (front, us, e, o, (p, minus, vs, d, r, k)) =
    let inside : List Placed = vs ++ symbol_on minus MinusSign ∷ number_on line n ∷ [] in (
      front,
      word_on w ∷ symbol_on p OpenRound ∷ inside,
      more ts front us (word_on w ∷ symbol_on p OpenRound ∷ (vs ++ symbol_on minus MinusSign ∷ []))
          (word_on w ∷ symbol_on p OpenRound ∷ inside) (number_on line n) e d
          (ap (λ v. word_on w ∷ symbol_on p OpenRound ∷ v) (append_assoc vs (symbol_on minus MinusSign ∷ []) (number_on line n ∷ []))),
      o,
      (p, inside, refl, r, k (symbol_on minus MinusSign ∷ number_on line n ∷ []) (neg_ℤ (pos n)) (back minus line n)),
    )
magnitude-tells _ line w zs fs ts h = tt

components-tell : (k : Token) (line : ℕ) (w : Word) (zs : List ℤ) (fs : List Frame) (ts : List Placed) → Describes (behind_component w zs) fs ts
    → Tells (component_followed w zs fs k) (ts ++ record { line = line; token = k } ∷ [])
components-tell (Sign Comma) line w zs fs ts (front, us, e, o, (p, vs, d, r, x)) = (
  front,
  word_on w ∷ symbol_on p OpenRound ∷ (vs ++ symbol_on line Comma ∷ []),
  more ts front us (word_on w ∷ symbol_on p OpenRound ∷ vs)
      (word_on w ∷ symbol_on p OpenRound ∷ (vs ++ symbol_on line Comma ∷ [])) (symbol_on line Comma) e d refl,
  o,
  (
    p,
    vs ++ symbol_on line Comma ∷ [],
    refl,
    r,
    λ us' z c. rw (append_assoc vs (symbol_on line Comma ∷ []) us')
        (parted-more x line us' (z ∷ []) (last_item c)),
  ),
)
components-tell (Sign CloseRound) line w zs fs ts (front, us, e, o, (p, vs, d, r, x)) = (
  front,
  word_on w ∷ symbol_on p OpenRound ∷ (vs ++ symbol_on line CloseRound ∷ []),
  more ts front us (word_on w ∷ symbol_on p OpenRound ∷ vs)
      (word_on w ∷ symbol_on p OpenRound ∷ (vs ++ symbol_on line CloseRound ∷ [])) (symbol_on line CloseRound) e d refl,
  o,
  a_cell w r
      (record { opened = p; inside = vs; closed = line; is = refl; item = x }),
)
components-tell _ line w zs fs ts h = tt

index-tells : (k : Token) (line : ℕ) (w : Word) (is : List ℕ) (fs : List Frame) (ts : List Placed) → Describes (at_index w is) fs ts
    → Tells (index w is fs k) (ts ++ record { line = line; token = k } ∷ [])
index-tells (Number n) line w is fs ts (front, us, e, o, (p, vs, d, r, x, few)) =
    let inside : List Placed = vs ++ symbol_on p OpenSquare ∷ number_on line n ∷ [] in (
      front,
      word_on w ∷ inside,
      more ts front us (word_on w ∷ (vs ++ symbol_on p OpenSquare ∷ [])) (word_on w ∷ inside) (number_on line n) e d
          (ap (λ v. word_on w ∷ v) (append_assoc vs (symbol_on p OpenSquare ∷ []) (number_on line n ∷ []))),
      o,
      (
        inside,
        refl,
        r,
        (λ c. rw (append_assoc vs (symbol_on p OpenSquare ∷ number_on line n ∷ []) (symbol_on c CloseSquare ∷ []))
            (index-more x p line n c)),
        omega (arith, length-append is (n ∷ [])),
      ),
    )
index-tells _ line w is fs ts h = tt

close-tells : (k : Token) (line : ℕ) (w : Word) (is : List ℕ) (fs : List Frame) (ts : List Placed) → Describes (at_close w is) fs ts
    → Tells (index_closed w is fs k) (ts ++ record { line = line; token = k } ∷ [])
close-tells (Sign CloseSquare) line w is fs ts (front, us, e, o, (vs, d, r, k, few)) = (
  front,
  word_on w ∷ (vs ++ symbol_on line CloseSquare ∷ []),
  more ts front us (word_on w ∷ vs)
      (word_on w ∷ (vs ++ symbol_on line CloseSquare ∷ [])) (symbol_on line CloseSquare) e d refl,
  o,
  (vs ++ symbol_on line CloseSquare ∷ [], refl, r, k line, few),
)
close-tells _ line w is fs ts h = tt

again-tells : (few : Bool) (line : ℕ) (w : Word) (is : List ℕ) (fs : List Frame) (ts : List Placed) → nat_lt (length is) 2 ≡ few
    → Describes (indexed w is) fs ts → Tells (if few then in_state (at_index w is) fs else None) (ts ++ symbol_on line OpenSquare ∷ [])
again-tells true line w is fs ts b (front, us, e, o, (vs, d, r, x, few)) = (
  front,
  word_on w ∷ (vs ++ symbol_on line OpenSquare ∷ []),
  more ts front us (word_on w ∷ vs) (word_on w ∷ (vs ++ symbol_on line OpenSquare ∷ []))
      (symbol_on line OpenSquare) e d refl,
  o,
  (line, vs, refl, r, x, ltb-true (length is) 2 b),
)
again-tells false line w is fs ts b h = tt

indexed-after : (k : Token) (line : ℕ) (w : Word) (is : List ℕ) (fs : List Frame) (ts : List Placed) → Describes (indexed w is) fs ts
    → Tells (after fs (value w is) k) (ts ++ record { line = line; token = k } ∷ [])
indexed-after k line w is fs ts (front, us, e, o, (vs, d, r, x, few)) =
    after-tells k line fs (value w is) ts front us e o (rw d (a_value w r x few))

indexed-tells : (k : Token) (line : ℕ) (w : Word) (is : List ℕ) (fs : List Frame) (ts : List Placed) → Describes (indexed w is) fs ts
    → Tells (index_followed (opening_of k) w is fs k) (ts ++ record { line = line; token = k } ∷ [])
indexed-tells (Sign OpenRound) line w is fs ts h = tt
indexed-tells (Sign OpenSquare) line w is fs ts h = again-tells (nat_lt (length is) 2) line w is fs ts refl h
indexed-tells k line w is fs ts h = indexed-after k line w is fs ts h

-- a token keeps what the state stands for
feed-tells : (m : Mode) (fs : List Frame) (line : ℕ) (k : Token) (ts : List Placed) → Describes m fs ts
    → Tells (feed m fs (record { line = line; token = k })) (ts ++ record { line = line; token = k } ∷ [])
feed-tells wanted fs line k ts h = begun-tells k line fs ts h
feed-tells (called f) fs line k ts h = opened-tells k line f fs ts h
feed-tells (whole t) fs line k ts (front, us, e, o, x) = after-tells k line fs t ts front us e o x
feed-tells (named w) fs line k ts h = name-tells k line w fs ts h
feed-tells (at_component w zs) fs line k ts h = component-tells k line w zs fs ts h
feed-tells (at_magnitude w zs) fs line k ts h = magnitude-tells k line w zs fs ts h
feed-tells (behind_component w zs) fs line k ts h = components-tell k line w zs fs ts h
feed-tells (at_index w is) fs line k ts h = index-tells k line w is fs ts h
feed-tells (at_close w is) fs line k ts h = close-tells k line w is fs ts h
feed-tells (indexed w is) fs line k ts h = indexed-tells k line w is fs ts h

then-tells : (o : Option State) (p : Placed) (ts : List Placed) → Tells o ts → Tells (then_feed o p) (ts ++ p ∷ [])
then-tells None p ts h = tt
then-tells (Some s) p ts h = feed-tells s.mode s.frames p.line p.token ts h

feeds-tell : (o : Option State) (ts us : List Placed) → Tells o ts → Tells (feeds o us) (ts ++ us)
feeds-tell o ts [] h = let P : List Placed → Type 0 = λ v. Tells o v in subst P (sym (append-nil ts)) h
feeds-tell o ts (p ∷ us) h =
    let P : List Placed → Type 0 = λ v. Tells (feeds (then_feed o p) us) v in
    subst P (append_assoc ts (p ∷ []) us) (feeds-tell (then_feed o p) (ts ++ p ∷ []) us (then-tells o p ts h))

-- the state behind some tokens stands for them
pub start-tells : (ts : List Placed) → Tells (feeds start ts) ts
start-tells ts = feeds-tell start [] ts refl
