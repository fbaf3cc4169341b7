-- Statements read one behind another from the front of tokens, as the loop reads them.
use Rattle.std.proofs.Common.{◌≡◌, inl, inr, ℕ, zero, suc, ◌+◌, ◌≤◌, ◌<◌, List, [], ◌∷◌, ◌++◌, length, take, drop, map, Option, Some, None, refl, sym, ◌∙◌, ap, subst, arith, length-append, length-drop, append_assoc, append-nil}
use Rattle.std.specs.Prelude.{slice_get, MatchOption}
use Rattle.std.proofs.Math.Seq.{take-append_seam}
use Rattle.std.proofs.lemmas.List.{take-append-drop, take-append-le, map-append, drop_all}
use Rattle.soda_words.specs.declared.token.Placed.{Placed}
use Rattle.soda_formula.specs.declared.statement.Statement.{Statement}
use Rattle.soda_formula.specs.Statements.{PlainStatement, plain_statement}
use Rattle.soda_syntax.specs.Grammar.{AreStatements}
use Rattle.soda_syntax.specs.SyntaxError.{IsHead, IsTooLarge, IsGoodStart, IsGoodUpTo, IsSyntax}
use Rattle.soda_syntax.specs.machine.Refusals.{IsRefusedIn}
use Rattle.soda_syntax.specs.machine.Pieces.{ReadsStatement, StopsStatement}
use Rattle.soda_syntax.proofs.Takes.{drop_add, drop_none_short}
use Rattle.soda_syntax.proofs.Texts.{parts_text, no_empty, nothing_begins, no_empty_head, inside_small}
use Rattle.soda_syntax.proofs.Chain.{Reads, reads_none, reads_snoc, IsStop, Shrunk, shrink, IsGood, IsPast, fronts, good_front, wrong_front, no_end, all_read, large_last}
use Rattle.soda_syntax.proofs.Fronts.{is_read, is_stop}

pub drop_of_get : {A : Type 0} (n : ℕ) (xs : List A) (t : A) → slice_get xs n ≡ Some t → drop n xs ≡ t ∷ drop (suc n) xs
drop_of_get zero [] t e = cc
drop_of_get zero (x ∷ xs) t e = let h : x ≡ t = cc in ap (λ v. v ∷ xs) h
drop_of_get (suc n) [] t e = cc
drop_of_get (suc n) (x ∷ xs) t e = drop_of_get n xs t e

drop_at_none : {A : Type 0} (n : ℕ) (xs : List A) → slice_get xs n ≡ None → drop n xs ≡ []
drop_at_none zero [] e = refl
drop_at_none zero (x ∷ xs) e = cc
drop_at_none (suc n) [] e = refl
drop_at_none (suc n) (x ∷ xs) e = drop_at_none n xs e

pub none_read : (ts : List Placed) → Reads ts [] (drop 0 ts)
none_read ts = reads_none ts

-- one more statement is read
pub one_read : (ts : List Placed) (found : List Statement) (at n : ℕ) (s : Statement) → Reads ts (map plain_statement found) (drop at ts)
    → ReadsStatement (drop at ts) n (plain_statement s) → Reads ts (map plain_statement (found ++ s ∷ [])) (drop (at + n) ts)
one_read ts found at n s r is =
    let more : Reads ts (map plain_statement found ++ plain_statement s ∷ []) (drop n (drop at ts)) = reads_snoc r (take n (drop at ts))
    (drop n (drop at ts)) (plain_statement s) (sym (take-append-drop n (drop at ts))) (is_read (drop at ts) n (plain_statement s) is) in
    subst (Reads ts (map plain_statement (found ++ s ∷ []))) (sym (drop_add at n ts))
    (subst (λ x. Reads ts x (drop n (drop at ts))) (sym (map-append plain_statement found (s ∷ []))) more)

-- a statement has a token
pub some_read : (ts : List Placed) (n : ℕ) (s : PlainStatement) → ReadsStatement ts n s → 0 < n
some_read ts zero s r = absurd (no_empty (is_read ts 0 s r).whole)
some_read ts (suc n) s r = omega arith

pub read_within : (ts : List Placed) (n : ℕ) (s : PlainStatement) → ReadsStatement ts n s → n ≤ length ts
read_within ts n s r =
    elim r [
      | inl p ↦ p.at.within
      | inr k ↦ omega (arith, k.within, k.whole.within, k.all, length-drop k.at ts)
    ]

pub stop_within : (ts : List Placed) (n : ℕ) → StopsStatement ts n → n ≤ length ts
stop_within ts n r =
    elim r [
      | inl p ↦ p.at.within
      | inr k ↦ omega (arith, k.within, k.stops.within, k.all, length-drop k.at ts)
    ]

no_large_nothing : IsTooLarge [] → ⊥
no_large_nothing = inside_small [] nothing_begins (λ l. none l.head l.part l.left l.is)
  where
    none : (h p : List Placed) → IsHead h → [] ≡ h ++ p → ⊥
    none [] p k e = no_empty_head k
    none (x ∷ h) p k e = cc

-- all tokens are read
pub whole_syntax : (ts : List Placed) (ss : List PlainStatement) (at : ℕ) → length ts ≤ at → Reads ts ss (drop at ts) → IsSyntax ts ss
whole_syntax ts ss at le r = record { statements = all_read r none; small = small }
  where
    none : drop at ts ≡ []
    none = drop_all at ts le

    small : (k : ℕ) → IsTooLarge (take k ts) → ⊥
    small k large =
        elim (fronts r (take k ts) (drop k ts) (sym (take-append-drop k ts))) [
          | inl g ↦ g.small large
          | inr p ↦ past p
        ]
      where
        past : IsPast (take k ts) (drop k ts) (drop at ts) ss → ⊥
        past p = nothing p.more (sym p.is ∙ none) (large_last p.reads large)
          where
            nothing : (m : List Placed) → m ++ drop k ts ≡ [] → IsTooLarge m → ⊥
            nothing [] e l = no_large_nothing l
            nothing (x ∷ m) e l = cc

-- a front by its length
front_is : (ts less y : List Placed) (m : ℕ) → ts ≡ less ++ y → length y + m ≡ length ts → take m ts ≡ less
front_is ts less y m e h =
    let size : m ≡ length less = omega (arith, ap length e, length-append less y, h) in
    ap (take m) e ∙ (ap (λ k. take k (less ++ y)) size ∙ take-append_seam less y)

good_start : (p : List Placed) → IsGood p → IsGoodStart p
good_start p g = record { begins = parts_text p g.parts; small = g.small }

-- reading stops within the tokens or at their end
pub refused : (ts : List Placed) (ss : List PlainStatement) (at n end line : ℕ) → at < length ts → Reads ts ss (drop at ts)
    → StopsStatement (drop at ts) n → MatchOption (slice_get ts (at + n)) (line ≡ end) (λ t. line ≡ t.line) → IsRefusedIn ts end line
refused ts ss at n end line lt r stops told = by (slice_get ts (at + n)) refl
  where
    front : List Placed
    front = take n (drop at ts)

    rest : List Placed
    rest = drop n (drop at ts)

    within : at + n ≤ length ts
    within = omega (arith, stop_within (drop at ts) n stops, length-drop at ts, lt)

    rest_is : drop (at + n) ts ≡ drop n (drop at ts)
    rest_is = drop_add at n ts

    stop : IsStop (take n (drop at ts)) (drop n (drop at ts))
    stop = is_stop (drop at ts) n stops

    so_far : Shrunk ts ss (take n (drop at ts)) (drop n (drop at ts))
    so_far = shrink r (take n (drop at ts)) (drop n (drop at ts)) (sym (take-append-drop n (drop at ts)))

    rest_length : length (drop n (drop at ts)) + (at + n) ≡ length ts
    rest_length = omega (arith, length-drop (at + n) ts, ap length rest_is, within)

    taken : take (at + n) ts ≡ so_far.less
    taken = front_is ts so_far.less (drop n (drop at ts)) (at + n) so_far.is rest_length

    size : length so_far.less ≡ at + n
    size = omega (arith, ap length so_far.is, length-append so_far.less (drop n (drop at ts)), rest_length)

    good : IsGoodUpTo (at + n) ts
    good j le =
        let same : take j ts ≡ take j so_far.less = ap (take j) so_far.is ∙ take-append-le j so_far.less (drop n (drop at ts)) (omega (arith, le, size)) in
        subst IsGoodStart (sym same) (good_start (take j so_far.less) (good_front so_far.reads stop (take j so_far.less) (drop j so_far.less)
        (sym (take-append-drop j so_far.less))))

    wrong : (t : Placed) → slice_get ts (at + n) ≡ Some t → IsGoodStart (take (suc (at + n)) ts) → ⊥
    wrong t e g =
        let next : drop n (drop at ts) ≡ t ∷ drop (suc (at + n)) ts = sym rest_is ∙ drop_of_get (at + n) ts t e in
        let last : drop at ts ≡ (take n (drop at ts) ++ t ∷ []) ++ drop (suc (at + n)) ts = sym (take-append-drop n (drop at ts))
        ∙ (ap (λ v. take n (drop at ts) ++ v) next ∙ sym (append_assoc (take n (drop at ts)) (t ∷ []) (drop (suc (at + n)) ts))) in
        let k : Shrunk ts ss (take n (drop at ts) ++ t ∷ []) (drop (suc (at + n)) ts) = shrink r (take n (drop at ts) ++ t ∷ [])
        (drop (suc (at + n)) ts) last in
        let long : length (drop (suc (at + n)) ts) + suc (at + n) ≡ length ts = omega (arith, ap length next, rest_length) in
        let is : take (suc (at + n)) ts ≡ k.less = front_is ts k.less (drop (suc (at + n)) ts) (suc (at + n)) k.is long in
        wrong_front k.less ss (take n (drop at ts)) (drop n (drop at ts)) t k.reads stop (drop (suc (at + n)) ts) next (subst IsGoodStart is g)

    at_end : slice_get ts (at + n) ≡ None → (line ≡ end) → IsRefusedIn ts end line
    at_end e same =
        let none : drop n (drop at ts) ≡ [] = sym rest_is ∙ drop_at_none (at + n) ts e in
        let all : at + n ≡ length ts = omega (arith, ap length none, rest_length) in
        let whole : ts ≡ so_far.less = so_far.is ∙ (ap (λ v. so_far.less ++ v) none ∙ append-nil so_far.less) in
        let some : take n (drop at ts) ≡ [] → ⊥ = λ h. (let nothing : drop at ts ≡ [] = sym (take-append-drop n (drop at ts))
        ∙ (ap (λ v. v ++ drop n (drop at ts)) h ∙ none) in absurd (omega (arith, drop_none_short at ts nothing, lt))) in
        inr (record {
          good = subst (λ k. IsGoodUpTo k ts) all good;
          no_text = λ rs a. no_end so_far.less ss (take n (drop at ts)) so_far.reads (subst (IsStop (take n (drop at ts))) none stop) some rs
              (subst (λ x. AreStatements x rs) whole a);
          is = same;
        })

    by : (o : Option Placed) → slice_get ts (at + n) ≡ o → IsRefusedIn ts end line
    by None e = at_end e (subst (λ o. MatchOption o (line ≡ end) (λ t. line ≡ t.line)) e told)
    by (Some t) e =
        inl (record {
          number = at + n;
          token = t;
          there = e;
          first = record { good = good; wrong = wrong t e };
          is = subst (λ o. MatchOption o (line ≡ end) (λ x. line ≡ x.line)) e told;
        })
