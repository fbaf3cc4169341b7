-- Written tokens have at least so many counted tokens and open brackets.
use Rattle.std.proofs.Common.{◌≡◌, ℕ, suc, ◌+◌, ◌-◌, ◌*◌, ◌≤◌, true, false, List, [], ◌∷◌, ◌++◌, length, take, refl, sym, ap, subst, arith, append_assoc, ℤ}
use Rattle.std.specs.Prelude.{max}
use Rattle.std.proofs.lemmas.Bool.Decides.{nat_tests}
use Rattle.soda_words.specs.Names.{is_reserved}
use Rattle.soda_words.specs.declared.symbol.Symbol.{Symbol}
use Rattle.soda_words.specs.declared.symbol.Symbol.TheVariants.{OpenRound, CloseRound, Comma}
use Rattle.soda_words.specs.declared.token.Placed.{Placed}
use Rattle.soda_words.specs.declared.token.Token.TheVariants.{Sign}
use Rattle.soda_words.specs.declared.token.Word.{Word}
use Rattle.soda_formula.specs.Grammar.{symbol_on, name_on, word_on, AreParted, last_item, item_before, IsComponent, ahead, back, AreOffsets, AreIndexes, no_index, index_before}
use Rattle.soda_formula.specs.Reading.{outside, behind_name, in_offsets, counted_tokens_from, open_behind, open_brackets_from}
use Rattle.soda_parse.proofs.TokenCounts.{Closed, peak, peak_least, IsPassing, passing_closed, reserved_counts, free_counts, one_if_some}

-- no front has more brackets open, where the tokens themselves have not
pub peak_most : (n k : ℕ) (ts : List Placed) → ((j : ℕ) → open_brackets_from k (take j ts) ≤ n) → peak k ts ≤ n
peak_most n k [] h = h 0
peak_most n k (t ∷ ts) h =
    let here : k ≤ n = h 0 in
    let more : peak (open_behind k t.token) ts ≤ n = peak_most n (open_behind k t.token) ts (λ j. h (suc j)) in
    omega arith

-- at least n tokens count, and at least m brackets are open at once, wherever these tokens stand
pub record Takes (n m : ℕ) (ts : List Placed) : Type 0 where
  pub counts : (rest : List Placed) → Closed rest → n + counted_tokens_from outside rest ≤ counted_tokens_from outside (ts ++ rest)
  pub opens : (k : ℕ) (rest : List Placed) → m + k ≤ peak k (ts ++ rest)
  pub closes : (k : ℕ) (rest : List Placed) → peak k rest ≤ peak k (ts ++ rest)

-- the same with looser bounds
pub takes_less : (n m a b : ℕ) (ts : List Placed) → Takes n m ts → a ≤ n → b ≤ m → Takes a b ts
takes_less n m a b ts t le most = record {
  counts = λ rest closed. omega (arith, t.counts rest closed);
  opens = λ k rest. omega (arith, t.opens k rest);
  closes = t.closes;
}

-- a symbol that is no bracket opens none
pub passing_peak : (line : ℕ) (s : Symbol) (k : ℕ) (rest : List Placed) → IsPassing s → peak k rest ≤ peak k (symbol_on line s ∷ rest)
passing_peak line s k rest pass =
    let same : peak (open_behind k (Sign s)) rest ≡ peak k rest = ap (λ (n : ℕ). peak n rest) (pass.level k) in
    omega arith

-- two parts with a symbol between them
pub takes_joined : (n m a b line : ℕ) (s : Symbol) (ts us : List Placed) → IsPassing s → Takes n m ts → Takes a b us →
    Takes (n + 1 + a) (max m b) (ts ++ symbol_on line s ∷ us)
takes_joined n m a b line s ts us pass t u = record {
  counts = λ rest closed. rw (append_assoc ts (symbol_on line s ∷ us) rest) (omega (
    arith,
    t.counts (symbol_on line s ∷ (us ++ rest)) (passing_closed line s (us ++ rest) pass),
    u.counts rest closed,
  ));
  opens = λ k rest. rw (append_assoc ts (symbol_on line s ∷ us) rest) (omega (
    arith,
    t.opens k (symbol_on line s ∷ (us ++ rest)),
    t.closes k (symbol_on line s ∷ (us ++ rest)),
    passing_peak line s k (us ++ rest) pass,
    u.opens k rest,
  ));
  closes = λ k rest. rw (append_assoc ts (symbol_on line s ∷ us) rest) (omega (
    arith,
    t.closes k (symbol_on line s ∷ (us ++ rest)),
    passing_peak line s k (us ++ rest) pass,
    u.closes k rest,
  ));
}

-- a part in brackets
pub takes_round : (n m opened closed : ℕ) (ts : List Placed) → Takes n m ts →
    Takes (n + 2) (m + 1) (symbol_on opened OpenRound ∷ (ts ++ symbol_on closed CloseRound ∷ []))
takes_round n m opened closed ts t = record {
  counts = λ rest shut. rw (append_assoc ts (symbol_on closed CloseRound ∷ []) rest) (omega (arith, t.counts (symbol_on closed CloseRound ∷ rest) refl));
  opens = λ k rest. rw (append_assoc ts (symbol_on closed CloseRound ∷ []) rest) (omega (arith, t.opens (suc k) (symbol_on closed CloseRound ∷ rest)));
  closes = λ k rest. let less : suc k - 1 ≡ k = omega arith in let same : peak (suc k - 1) rest ≡ peak k rest = ap (λ (i : ℕ). peak i rest) less in
      rw (append_assoc ts (symbol_on closed CloseRound ∷ []) rest) (omega (arith, same, t.closes (suc k) (symbol_on closed CloseRound ∷ rest)));
}

-- a symbol before a part
pub takes_sign : (n m line : ℕ) (s : Symbol) (ts : List Placed) → IsPassing s → Takes n m ts → Takes (1 + n) m (symbol_on line s ∷ ts)
takes_sign n m line s ts pass t = record {
  counts = λ rest closed. omega (arith, t.counts rest closed);
  opens = λ k rest. omega (arith, t.opens k rest, passing_peak line s k (ts ++ rest) pass);
  closes = λ k rest. omega (arith, t.closes k rest, passing_peak line s k (ts ++ rest) pass);
}

-- a reserved word before a part
pub takes_named : (n m line : ℕ) (text : List ℕ) (ts : List Placed) → is_reserved text ≡ true → Takes n m ts → Takes (1 + n) m (name_on line text ∷ ts)
takes_named n m line text ts e t = record {
  counts = λ rest closed. omega (arith, reserved_counts line text (ts ++ rest) e, t.counts rest closed);
  opens = λ k rest. omega (arith, t.opens k rest);
  closes = λ k rest. omega (arith, t.closes k rest);
}

-- a component counts as one token, with or without a minus sign
pub component_counts : (ts : List Placed) (d : ℤ) (rest : List Placed) → IsComponent ts d →
    1 + counted_tokens_from in_offsets rest ≤ counted_tokens_from in_offsets (ts ++ rest)
component_counts ts d rest (ahead line n) = omega arith
component_counts ts d rest (back minus line n) = omega arith

-- a component opens no bracket
pub component_peak : (ts : List Placed) (d : ℤ) (k : ℕ) (rest : List Placed) → IsComponent ts d → peak k rest ≤ peak k (ts ++ rest)
component_peak ts d k rest (ahead line n) = omega arith
component_peak ts d k rest (back minus line n) = omega arith

-- components count with the commas between them
pub components_count : (ts : List Placed) (ds : List ℤ) (rest : List Placed) → AreParted IsComponent ts ds →
    2 * length ds + counted_tokens_from in_offsets rest ≤ suc (counted_tokens_from in_offsets (ts ++ rest))
components_count ts ds rest (last_item {ts = us} {a = d} item) = omega (arith, component_counts us d rest item)
components_count ts ds rest (item_before {ts = us} {us = vs} {a = d} {others = es} line item more) =
    rw (append_assoc us (symbol_on line Comma ∷ vs) rest) (omega (
      arith,
      component_counts us d (symbol_on line Comma ∷ (vs ++ rest)) item,
      components_count vs es rest more,
    ))

-- components open no bracket
pub components_peak : (ts : List Placed) (ds : List ℤ) (k : ℕ) (rest : List Placed) → AreParted IsComponent ts ds → peak k rest ≤ peak k (ts ++ rest)
components_peak ts ds k rest (last_item {ts = us} {a = d} item) = component_peak us d k rest item
components_peak ts ds k rest (item_before {ts = us} {us = vs} {a = d} {others = es} line item more) =
    rw (append_assoc us (symbol_on line Comma ∷ vs) rest) (omega (
      arith,
      component_peak us d k (symbol_on line Comma ∷ (vs ++ rest)) item,
      components_peak vs es k rest more,
    ))

-- a cell, its offsets in brackets
pub takes_round_cell : (line opened closed : ℕ) (text : List ℕ) (ds : List ℤ) (inside : List Placed) → is_reserved text ≡ false →
    AreParted IsComponent inside ds →
    Takes (2 + 2 * length ds) 1 (name_on line text ∷ symbol_on opened OpenRound ∷ (inside ++ symbol_on closed CloseRound ∷ []))
takes_round_cell line opened closed text ds inside e are = record {
  counts = λ rest shut. rw (append_assoc inside (symbol_on closed CloseRound ∷ []) rest) (omega (
    arith,
    free_counts line text (symbol_on opened OpenRound ∷ (inside ++ symbol_on closed CloseRound ∷ rest)) e,
    components_count inside ds (symbol_on closed CloseRound ∷ rest) are,
  ));
  opens = λ k rest. omega (arith, peak_least (suc k) ((inside ++ symbol_on closed CloseRound ∷ []) ++ rest));
  closes = λ k rest. let less : suc k - 1 ≡ k = omega arith in let same : peak (suc k - 1) rest ≡ peak k rest = ap (λ (i : ℕ). peak i rest) less in
      rw (append_assoc inside (symbol_on closed CloseRound ∷ []) rest) (omega (
        arith,
        same,
        components_peak inside ds (suc k) (symbol_on closed CloseRound ∷ rest) are,
      ));
}

-- a cell
pub takes_cell : (w : Word) (ts : List Placed) (ds : List ℤ) → is_reserved w.text ≡ false → AreOffsets ts ds → Takes (2 + 2 * length ds) 1 (word_on w ∷ ts)
takes_cell w ts ds e are =
    subst (λ (us : List Placed). Takes (2 + 2 * length ds) 1 (word_on w ∷ us)) (sym are.is)
    (takes_round_cell w.line are.opened are.closed w.text ds are.inside e are.item)

-- each index counts as three tokens
pub indexes_count : (ts : List Placed) (ks : List ℕ) (rest : List Placed) → AreIndexes ts ks →
    3 * length ks + counted_tokens_from outside rest ≤ counted_tokens_from outside (ts ++ rest)
indexes_count ts ks rest no_index = omega arith
indexes_count ts ks rest (index_before {ts = us} {indexes = js} opened line n closed more) = omega (arith, indexes_count us js rest more)

-- indexes behind a name count as they do elsewhere
pub named_count : (ts : List Placed) (ks : List ℕ) (rest : List Placed) → Closed rest → AreIndexes ts ks →
    3 * length ks + counted_tokens_from outside rest ≤ counted_tokens_from behind_name (ts ++ rest)
named_count ts ks rest closed no_index = omega arith
named_count ts ks rest closed (index_before {ts = us} {indexes = js} opened line n shut more) = omega (arith, indexes_count us js rest more)

-- behind indexes, as many brackets are open as before
pub indexes_close : (ts : List Placed) (ks : List ℕ) (k : ℕ) (rest : List Placed) → AreIndexes ts ks → peak k rest ≤ peak k (ts ++ rest)
indexes_close ts ks k rest no_index = omega arith
indexes_close ts ks k rest (index_before {ts = us} {indexes = js} opened line n closed more) =
    let less : suc k - 1 ≡ k = omega arith in
    let same : peak (suc k - 1) (us ++ rest) ≡ peak k (us ++ rest) = ap (λ (i : ℕ). peak i (us ++ rest)) less in
    omega (arith, same, indexes_close us js k rest more)

-- indexes open one bracket, if there are any
pub indexes_open : (ts : List Placed) (ks : List ℕ) (k : ℕ) (rest : List Placed) → AreIndexes ts ks → one_if_some (length ks) + k ≤ peak k (ts ++ rest)
indexes_open ts ks k rest no_index = omega (arith, peak_least k rest)
indexes_open ts ks k rest (index_before {ts = us} {indexes = js} opened line n closed more) = grind (arith, nat_tests)

-- a param's value, with its indexes
pub takes_value : (w : Word) (ts : List Placed) (ks : List ℕ) → is_reserved w.text ≡ false → AreIndexes ts ks →
    Takes (1 + 3 * length ks) (one_if_some (length ks)) (word_on w ∷ ts)
takes_value w ts ks e are = record {
  counts = λ rest closed. omega (arith, free_counts w.line w.text (ts ++ rest) e, named_count ts ks rest closed are);
  opens = λ k rest. omega (arith, indexes_open ts ks k rest are);
  closes = λ k rest. omega (arith, indexes_close ts ks k rest are);
}
