-- What the reader knows behind some tokens, and what it answers from that.
use Rattle.std.proofs.Common.{◌≡◌, ◌⊎◌, ℕ, zero, suc, ◌+◌, ◌<◌, ◌≤◌, List, [], ◌∷◌, ◌++◌, length, take, get_or, take-suc, Option, Some, None, Result, Ok, Err, IfOk, IfErr, option_map, refl, sym, ◌∙◌, ap, subst, arith, inl, inr}
use Rattle.soda_words.specs.declared.token.Placed.{Placed}
use Rattle.soda_formula.specs.declared.written.Written.{Written}
use Rattle.soda_formula.specs.declared.reading.FormulaFail.{FormulaFail}
use Rattle.soda_formula.specs.declared.reading.FormulaFail.TheVariants.{Wrong, Memory}
use Rattle.soda_formula.specs.declared.frame.Reader.{Reader}
use Rattle.soda_formula.specs.declared.frame.Fed.{Fed}
use Rattle.soda_formula.specs.declared.frame.Fed.TheVariants.{On, End}
use Rattle.soda_formula.specs.declared.size.Size.{Size}
use Rattle.soda_formula.specs.Terms.{Term}
use Rattle.soda_formula.specs.Grammar.{IsFormula}
use Rattle.soda_formula.specs.Reading.{Place, outside, open_behind, open_brackets_from, open_brackets, counted, place_behind, counted_tokens_from, counted_tokens, IsLarge, IsGoodPart, BeginsFormula, ReadsFormula, StopsFormula}
use Rattle.soda_formula.specs.Fails.{IfWrong}
use Rattle.soda_formula.specs.Tree.{term_of}
use Rattle.soda_formula.specs.machine.Steps.{State, feed, feeds, then_feed, start, ends, finish}
use Rattle.soda_formula.specs.machine.Views.{place_as, mode_of, frames_of, state_of, IsFed}
use Rattle.soda_formula.proofs.Complete.{feeds-append, formula-ends}
use Rattle.soda_formula.proofs.Viable.{ends-formula, fed-begins, refused-begins}

-- the place behind some tokens
abbrev pub place_from : Place → List Placed → Place
place_from p [] = p
place_from p (t ∷ ts) = place_from (place_behind p t.token) ts

open-more : (k : ℕ) (ts : List Placed) (p : Placed) → open_brackets_from k (ts ++ p ∷ []) ≡ open_behind (open_brackets_from k ts) p.token
open-more k [] p = refl
open-more k (t ∷ ts) p = open-more (open_behind k t.token) ts p

counted-more : (q : Place) (ts : List Placed) (p : Placed) → counted_tokens_from q (ts ++ p ∷ []) ≡ counted_tokens_from q ts + counted (place_from q ts) p.token
counted-more q [] p = omega arith
counted-more q (t ∷ ts) p = omega (arith, counted-more (place_behind q t.token) ts p)

place-more : (q : Place) (ts : List Placed) (p : Placed) → place_from q (ts ++ p ∷ []) ≡ place_behind (place_from q ts) p.token
place-more q [] p = refl
place-more q (t ∷ ts) p = place-more (place_behind q t.token) ts p

-- the size of some tokens
pub record IsSizeOf (part : List Placed) (size : Size) : Type 0 where
  pub brackets : open_brackets part ≡ size.brackets
  pub tokens : counted_tokens part ≡ size.counted
  pub place : place_from outside part ≡ place_as size.place

-- what the reader knows behind the first so many tokens
pub record IsRead (ts : List Placed) (n : ℕ) (reader : Reader) (size : Size) : Type 0 where
  pub within : n ≤ length ts
  pub fed : feeds start (take n ts) ≡ Some (state_of reader)
  pub sized : IsSizeOf (take n ts) size
  pub few_open : size.brackets ≤ 64
  pub few_counted : size.counted ≤ 1500
  pub good : (j : ℕ) → j ≤ n → IsGoodPart (take j ts)

-- the frame of what is read with one token more
pub size-more : (part : List Placed) (p : Placed) (size after : Size) → IsSizeOf part size → after.brackets ≡ open_behind size.brackets p.token
    → after.counted ≡ size.counted + counted (place_as size.place) p.token → place_as after.place ≡ place_behind (place_as size.place) p.token
    → IsSizeOf (part ++ p ∷ []) after
size-more part p size after h b c d =
    record {
      brackets = open-more 0 part p ∙ ap (λ k. open_behind k p.token) h.brackets ∙ sym b;
      tokens = counted-more outside part p
          ∙ ap (λ k. k + counted (place_from outside part) p.token) h.tokens ∙ ap (λ q. size.counted + counted q p.token) h.place
          ∙ sym c;
      place = place-more outside part p ∙ ap (λ q. place_behind q p.token) h.place ∙ sym d;
    }

small-part : (part : List Placed) (size : Size) → IsSizeOf part size → size.brackets ≤ 64 → size.counted ≤ 1500 → IsLarge part → ⊥
small-part part size h b c (inl x) = omega (arith, h.brackets)
small-part part size h b c (inr x) = omega (arith, h.tokens)

pub large-part : (part : List Placed) (size : Size) → IsSizeOf part size → (64 < size.brackets) ⊎ (1500 < size.counted) → IsLarge part
large-part part size h (inl x) = inl (omega (arith, h.brackets))
large-part part size h (inr x) = inr (omega (arith, h.tokens))

front-more : (ts : List Placed) (n : ℕ) (p : Placed) → n < length ts → p ≡ get_or ts n p → take (suc n) ts ≡ take n ts ++ p ∷ []
front-more ts n p h e = take-suc ts n p h ∙ ap (λ q. take n ts ++ q ∷ []) (sym e)

fed-more : (part : List Placed) (p : Placed) (s : State) (next : Option State) → feeds start part ≡ Some s → feed s.mode s.frames p ≡ next
    → feeds start (part ++ p ∷ []) ≡ next
fed-more part p s next e d = feeds-append start part (p ∷ []) ∙ ap (λ o. then_feed o p) e ∙ d

-- a part that the machine takes and that is small is good
good-part : (part : List Placed) (s : State) (size : Size) → feeds start part ≡ Some s → IsSizeOf part size → size.brackets ≤ 64 → size.counted ≤ 1500
    → IsGoodPart part
good-part part s size e h b c = record { begins = fed-begins part s e; small = small-part part size h b c }

pub read-none : (ts : List Placed) (reader : Reader) (size : Size) → Some (state_of reader) ≡ start → size.brackets ≡ 0 → size.counted ≡ 0
    → place_as size.place ≡ outside → IsRead ts 0 reader size
read-none ts reader size e b c d =
    let sized : IsSizeOf [] size = record { brackets = sym b; tokens = sym c; place = sym d } in
    let few : size.brackets ≤ 64 = omega arith in
    let little : size.counted ≤ 1500 = omega arith in
    record {
      within = omega arith;
      fed = sym e;
      sized = sized;
      few_open = few;
      few_counted = little;
      good = λ j h. good-at ts j
          (state_of reader) size h (sym e) sized few little;
    }
  where
    good-at : (ts : List Placed) (j : ℕ) (s : State) (size : Size) → j ≤ 0 → feeds start [] ≡ Some s → IsSizeOf [] size → size.brackets ≤ 64
        → size.counted ≤ 1500 → IsGoodPart (take j ts)
    good-at ts zero s size h e z b c = good-part [] s size e z b c
    good-at ts (suc j) s size h e z b c = absurd (omega arith)

good-below : (ts : List Placed) (n j : ℕ) → ((k : ℕ) → k ≤ n → IsGoodPart (take k ts)) → IsGoodPart (take (suc n) ts) → j ≤ suc n
    → (j ≤ n) ⊎ (j ≡ suc n) → IsGoodPart (take j ts)
good-below ts n j below here h (inl x) = below j x
good-below ts n j below here h (inr e) = rw e here

split-le : (j n : ℕ) → j ≤ suc n → (j ≤ n) ⊎ (j ≡ suc n)
split-le j n h = grind arith

-- one token more, which the formula goes on with, and which keeps it small
pub read-more : (ts : List Placed) (n : ℕ) (reader next : Reader) (size after : Size) (p : Placed) → IsRead ts n reader size → n < length ts
    → p ≡ get_or ts n p → Some (state_of next) ≡ feed (mode_of reader.mode) (frames_of reader.frames) p
    → after.brackets ≡ open_behind size.brackets p.token → after.counted ≡ size.counted + counted (place_as size.place) p.token
    → place_as after.place ≡ place_behind (place_as size.place) p.token → after.brackets ≤ 64 → after.counted ≤ 1500 → IsRead ts (suc n) next after
read-more ts n reader next size after p r h e f b c d few little =
    let front = front-more ts n p h e in
    let fed : feeds start (take (suc n) ts) ≡ Some (state_of next) = ap (feeds start) front
    ∙ fed-more (take n ts) p (state_of reader) (Some (state_of next)) r.fed (sym f) in
    let sized : IsSizeOf (take (suc n) ts) after = rw front (size-more (take n ts) p size after r.sized b c d) in
    record {
      within = h;
      fed = fed;
      sized = sized;
      few_open = few;
      few_counted = little;
      good = λ j k. good-below ts n j r.good
          (good-part (take (suc n) ts) (state_of next) after fed sized few little) k (split-le j n k);
    }

-- the token is one too many
pub stops-large : (ts : List Placed) (n : ℕ) (reader next : Reader) (size after : Size) (p : Placed) → IsRead ts n reader size → n < length ts
    → p ≡ get_or ts n p → Some (state_of next) ≡ feed (mode_of reader.mode) (frames_of reader.frames) p
    → after.brackets ≡ open_behind size.brackets p.token → after.counted ≡ size.counted + counted (place_as size.place) p.token
    → place_as after.place ≡ place_behind (place_as size.place) p.token → (64 < after.brackets) ⊎ (1500 < after.counted) → StopsFormula ts n
stops-large ts n reader next size after p r h e f b c d large =
    let front = front-more ts n p h e in
    let fed : feeds start (take (suc n) ts) ≡ Some (state_of next) = ap (feeds start) front
    ∙ fed-more (take n ts) p (state_of reader) (Some (state_of next)) r.fed (sym f) in
    let sized : IsSizeOf (take (suc n) ts) after = rw front (size-more (take n ts) p size after r.sized b c d) in
    record {
      within = r.within;
      good = r.good;
      wrong = λ _ g. g.small (large-part (take (suc n) ts) after sized large);
      unfinished = λ a x.
          (h, fed-begins (take (suc n) ts) (state_of next) fed);
    }

ends-at : (part : List Placed) (s : State) (found : Option Term) → feeds start part ≡ Some s → found ≡ finish s → ends (feeds start part) ≡ found
ends-at part s found e d = ap ends e ∙ sym d

not-finished : (part : List Placed) (a : Term) → ends (feeds start part) ≡ None → IsFormula part a → ⊥
not-finished part a e x = let d : None ≡ Some a = sym e ∙ formula-ends part a x in cc

-- no formula goes on with the token
refused-front : (ts : List Placed) (n : ℕ) (reader : Reader) (size : Size) (p : Placed) → IsRead ts n reader size → n < length ts → p ≡ get_or ts n p
    → feed (mode_of reader.mode) (frames_of reader.frames) p ≡ None → BeginsFormula (take (suc n) ts) → ⊥
refused-front ts n reader size p r h e f =
    refused-begins (take (suc n) ts) (ap (feeds start) (front-more ts n p h e) ∙ fed-more (take n ts) p (state_of reader) None r.fed f)

pub reads-front : (ts : List Placed) (n : ℕ) (reader : Reader) (size : Size) (p : Placed) (a : Term) → IsRead ts n reader size → n < length ts
    → p ≡ get_or ts n p → feed (mode_of reader.mode) (frames_of reader.frames) p ≡ None → Some a ≡ finish (state_of reader) → ReadsFormula ts n a
reads-front ts n reader size p a r h e f d =
    record {
      within = r.within;
      whole = ends-formula (take n ts) a (ends-at (take n ts) (state_of reader) (Some a) r.fed d);
      small = λ j k.
          (r.good j k).small;
      ended = λ _. refused-front ts n reader size p r h e f;
    }

pub stops-front : (ts : List Placed) (n : ℕ) (reader : Reader) (size : Size) (p : Placed) → IsRead ts n reader size → n < length ts
    → p ≡ get_or ts n p → feed (mode_of reader.mode) (frames_of reader.frames) p ≡ None → None ≡ finish (state_of reader) → StopsFormula ts n
stops-front ts n reader size p r h e f d =
    record {
      within = r.within;
      good = r.good;
      wrong = λ _ g. refused-front ts n reader size p r h e f g.begins;
      unfinished = λ a x. absurd
          (not-finished (take n ts) a (ends-at (take n ts) (state_of reader) None r.fed d) x);
    }

pub reads-all : (ts : List Placed) (n : ℕ) (reader : Reader) (size : Size) (a : Term) → IsRead ts n reader size → length ts ≤ n
    → Some a ≡ finish (state_of reader) → ReadsFormula ts n a
reads-all ts n reader size a r h d =
    record {
      within = r.within;
      whole = ends-formula (take n ts) a (ends-at (take n ts) (state_of reader) (Some a) r.fed d);
      small = λ j k.
          (r.good j k).small;
      ended = λ k. absurd (omega arith);
    }

pub stops-all : (ts : List Placed) (n : ℕ) (reader : Reader) (size : Size) → IsRead ts n reader size → length ts ≤ n → None ≡ finish (state_of reader)
    → StopsFormula ts n
stops-all ts n reader size r h d =
    record {
      within = r.within;
      good = r.good;
      wrong = λ k. absurd (omega arith);
      unfinished = λ a x. absurd
          (not-finished (take n ts) a (ends-at (take n ts) (state_of reader) None r.fed d) x);
    }

pub fed-on : (next : Option State) (found : Option Term) (fed : Fed) (r : Reader) → fed ≡ On r → IsFed next found fed → Some (state_of r) ≡ next
fed-on next found fed r e h = rw e at h

pub fed-end : (next : Option State) (found : Option Term) (fed : Fed) (w : Option Written) → fed ≡ End w → IsFed next found fed
    → (next ≡ None) × (option_map term_of w ≡ found)
fed-end next found fed w e h = rw e at h

-- the two clauses, from what ended
found-by : (ts : List Placed) (r : Result (Written × ℕ) FormulaFail) (found : Option Written) (count : ℕ)
    → IfOk r (λ answer. (found ≡ Some answer.0) × (answer.1 ≡ count)) → ((w : Written) → found ≡ Some w → ReadsFormula ts count (term_of w))
    → IfOk r (λ answer. ReadsFormula ts answer.1 (term_of answer.0))
found-by ts (Ok answer) found count h k = rw h.1 (k answer.0 h.0)
found-by ts (Err e) found count h k = tt

wrong-by : (ts : List Placed) (r : Result (Written × ℕ) FormulaFail) (found : Option Written) (count : ℕ)
    → IfErr r (λ fail. (found ≡ None) × (fail ≡ Wrong count)) → (found ≡ None → StopsFormula ts count) → IfWrong r (StopsFormula ts)
wrong-by ts (Ok answer) found count h k = tt
wrong-by ts (Err (Wrong n)) found count h k =
    let same : count ≡ n = let e = h.1 in cc in
    let P : ℕ → Type 0 = λ j. StopsFormula ts j in
    subst P same (k h.0)
wrong-by ts (Err Memory) found count h k = tt

pub found-front : (ts : List Placed) (n : ℕ) (reader : Reader) (size : Size) (p : Placed) (found : Option Written)
    (r : Result (Written × ℕ) FormulaFail) → IsRead ts n reader size → n < length ts → p ≡ get_or ts n p
    → (feed (mode_of reader.mode) (frames_of reader.frames) p ≡ None) × (option_map term_of found ≡ finish (state_of reader))
    → IfOk r (λ answer. (found ≡ Some answer.0) × (answer.1 ≡ n)) → IfOk r (λ answer. ReadsFormula ts answer.1 (term_of answer.0))
found-front ts n reader size p found r x h e f k =
    found-by ts r found n k (λ w d. reads-front ts n reader size p (term_of w) x h e f.0 (sym (ap (option_map term_of) d) ∙ f.1))

pub wrong-front : (ts : List Placed) (n : ℕ) (reader : Reader) (size : Size) (p : Placed) (found : Option Written)
    (r : Result (Written × ℕ) FormulaFail) → IsRead ts n reader size → n < length ts → p ≡ get_or ts n p
    → (feed (mode_of reader.mode) (frames_of reader.frames) p ≡ None) × (option_map term_of found ≡ finish (state_of reader))
    → IfErr r (λ fail. (found ≡ None) × (fail ≡ Wrong n)) → IfWrong r (StopsFormula ts)
wrong-front ts n reader size p found r x h e f k =
    wrong-by ts r found n k (λ d. stops-front ts n reader size p x h e f.0 (sym (ap (option_map term_of) d) ∙ f.1))

pub found-all : (ts : List Placed) (n count : ℕ) (reader : Reader) (size : Size) (found : Option Written) (r : Result (Written × ℕ) FormulaFail)
    → IsRead ts n reader size → n ≡ count → length ts ≤ n → option_map term_of found ≡ finish (state_of reader)
    → IfOk r (λ answer. (found ≡ Some answer.0) × (answer.1 ≡ count)) → IfOk r (λ answer. ReadsFormula ts answer.1 (term_of answer.0))
found-all ts n count reader size found r x e h f k =
    found-by ts r found count k (λ w d. rw (← e) (reads-all ts n reader size (term_of w) x h (sym (ap (option_map term_of) d) ∙ f)))

pub wrong-all : (ts : List Placed) (n count : ℕ) (reader : Reader) (size : Size) (found : Option Written) (r : Result (Written × ℕ) FormulaFail)
    → IsRead ts n reader size → n ≡ count → length ts ≤ n → option_map term_of found ≡ finish (state_of reader)
    → IfErr r (λ fail. (found ≡ None) × (fail ≡ Wrong count)) → IfWrong r (StopsFormula ts)
wrong-all ts n count reader size found r x e h f k =
    wrong-by ts r found count k (λ d. rw (← e) (stops-all ts n reader size x h (sym (ap (option_map term_of) d) ∙ f)))
