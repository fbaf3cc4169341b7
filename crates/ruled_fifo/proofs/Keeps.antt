-- Each kind of step keeps the rule, and what a look at the queue teaches.
use Rattle.std.proofs.Common.{◌≡◌, ◌≢◌, ℕ, ℤ, zero, suc, true, false, true≢false, List, [], ◌∷◌, ◌++◌, length, set, sym, refl, ap, ◌∙◌, subst, ⊎_elim, append_assoc}
use mathlib.Core.Option.{some, some-ne-none}
use lib.ListN.{get_elem?}
use Rattle.crossbeam_queue.specs.Fifo.{Pushes, Pops, Forks, Merges, Learns}
use Rattle.crossbeam_queue.proofs.Lists.{at_set, at_snoc}
use Rattle.ruled_fifo.specs.declared.rule.View.{View}
use Rattle.ruled_fifo.specs.rule.Kept.{Kept, FitsSender, FitsTaker, FitsApart}
use Rattle.ruled_fifo.specs.rule.Steps.{newcomer, spent, sender_of, taker_of, with_sent, missed, with_taken, joined, with_drained, EndsSent, Leaves, HasRest}

-- what the rule says of one pass
abbrev Fits : ℕ → ℕ → List ℤ → List ℤ → List ℤ → ℕ → View → Type 0
Fits sender taker sent taken drained pass v = FitsSender sender sent pass v × FitsTaker taker taken drained pass v × FitsApart v

abbrev All : (ℕ → View → Type 0) → List View → Type 0
All F views = (pass : ℕ) (v : View) → get_elem? views pass ≡ some v → F pass v

-- a pass that stands in a list only once one more is at its end is that one
at_end : (l : List View) (a b : View) (j : ℕ) → get_elem? l j ≢ some b → get_elem? (l ++ a ∷ []) j ≡ some b → j ≡ length l
at_end [] a b zero n e = refl
at_end [] a b (suc j) n e = absurd (some-ne-none b (sym e))
at_end (x ∷ xs) a b zero n e = absurd (n e)
at_end (x ∷ xs) a b (suc j) n e = ap suc (at_end xs a b j n e)

-- a fact of each pass, after one pass changed
all_set : (F : ℕ → View → Type 0) (views : List View) (pass : ℕ) (w : View) → F pass w →
    ((j : ℕ) (u : View) → j ≢ pass → get_elem? views j ≡ some u → F j u) → All F (set views pass w)
all_set F views pass w mine others j u e = ⊎_elim (λ (x : (j ≡ pass) × (w ≡ u)). subst (λ (y : ℕ × View). F y.0 y.1) (λ i. (sym x.0 i, x.1 i)) mine)
    (λ (x : (j ≢ pass) × (get_elem? views j ≡ some u)). others j u x.0 x.1) (at_set views pass j w u e)

-- a pass that may do nothing fits
idle_fits : (s t : ℕ) (sent taken drained : List ℤ) (pass : ℕ) → Fits s t sent taken drained pass spent
idle_fits s t sent taken drained pass = ((λ p. absurd (true≢false (sym p))), (λ p. absurd (true≢false (sym p))), λ p. absurd (true≢false (sym p)))

-- the rule at the start
pub begins : Kept [] (newcomer ∷ [])
begins = (
  0,
  0,
  [],
  [],
  [],
  refl,
  all_set (Fits 0 0 [] [] []) (newcomer ∷ []) 0 newcomer (
    (λ _. (refl, refl)),
    (λ _. (refl, refl, refl)),
    λ _ p. absurd (true≢false p),
  ) (λ j u other e. absurd (other (at_end [] _ u j (λ x. some-ne-none u (sym x)) e))),
)

-- a push by the pass that sends
pub sends : (n port : ℕ) (v : View) (x : ℤ) → v.sends ≡ true → Pushes Kept n port v x (λ w. w ≡ with_sent v x)
sends n port v x may items views _ (sender, taker, all, taken, drained, parts, fits) at = let w : View = with_sent v x in
    let mine = fits port v at in let more = all ++ x ∷ [] in (
      w,
      (
        sender,
        taker,
        more,
        taken,
        drained,
        ap (λ l. l ++ x ∷ []) parts ∙ append_assoc taken (drained ++ items) (x ∷ []) ∙ ap (λ l. taken ++ l) (append_assoc drained items (x ∷ [])),
        all_set (Fits sender taker more taken drained) views port w ((λ _. ((mine.0 may).0, ap (λ l. l ++ x ∷ []) (mine.0 may).1)), mine.1, mine.2)
            (λ j u other e. ((λ p. absurd (other (((fits j u e).0 p).0 ∙ sym (mine.0 may).0))), (fits j u e).1, (fits j u e).2)),
      ),
      refl,
    )

-- a pop by the pass that takes
pub takes : (port : ℕ) (v : View) → v.takes ≡ true → v.sends ≡ false → Pops Kept port v (λ x w. w ≡ with_taken v x)
takes port v may apart x items views (sender, taker, all, taken, drained, parts, fits) at = let w : View = with_taken v x in
    let mine = fits port v at in let more = taken ++ x ∷ [] in
    let none : drained ≡ [] = sym (mine.1 may).2 ∙ mine.2 may apart in (
      w,
      (
        sender,
        taker,
        all,
        more,
        drained,
        parts ∙ ap (λ l. taken ++ (l ++ x ∷ items)) none ∙ sym (append_assoc taken (x ∷ []) items) ∙ ap (λ l. more ++ (l ++ items)) (sym none),
        all_set (Fits sender taker all more drained) views port w (
          mine.0,
          (λ _. (
            (mine.1 may).0,
            ap (λ l. l ++ x ∷ []) (mine.1 may).1,
            (mine.1 may).2,
          )),
          mine.2,
        )
            (λ j u other e. ((fits j u e).0, (λ p. absurd (other (((fits j u e).1 p).0 ∙ sym (mine.1 may).0))), (fits j u e).2)),
      ),
      refl,
    )

-- what is left after the values that the joined pass took out, with one value more taken out
one_more : (taken drained items : List ℤ) (x : ℤ) → taken ++ (drained ++ x ∷ items) ≡ taken ++ ((drained ++ x ∷ []) ++ items)
one_more taken drained items x = ap (λ l. taken ++ l) (sym (append_assoc drained (x ∷ []) items))

-- a pop by the joined pass
pub drains : (port : ℕ) (v : View) → v.sends ≡ true → v.takes ≡ true → Pops Kept port v (λ x w. (w ≡ with_drained v x) × HasRest w)
drains port v a b x items views (sender, taker, all, taken, drained, parts, fits) at = let w : View = with_drained v x in
    let mine = fits port v at in let more = drained ++ x ∷ [] in
    let now : all ≡ taken ++ (more ++ items) = parts ∙ one_more taken drained items x in (
      w,
      (
        sender,
        taker,
        all,
        taken,
        more,
        now,
        all_set (Fits sender taker all taken more) views port w (
          mine.0,
          (λ _. ((mine.1 b).0, (mine.1 b).1, ap (λ l. l ++ x ∷ []) (mine.1 b).2)),
          λ _ p. absurd (true≢false (sym a ∙ p)),
        )
            (λ j u other e. (
              (fits j u e).0,
              (λ p. absurd (other (((fits j u e).1 p).0 ∙ sym (mine.1 b).0))),
              λ p. absurd (other (((fits j u e).1 p).0 ∙ sym (mine.1 b).0)),
            )),
      ),
      (
        refl,
        (
          items,
          (mine.0 a).1 ∙ now ∙ ap (λ (y : List ℤ × List ℤ). y.0 ++ ((y.1 ++ x ∷ []) ++ items))
              (λ i. (sym (mine.1 b).1 i, sym (mine.1 b).2 i)),
        ),
      ),
    )

-- a try that failed changes the misses of its pass alone
pub misses : (port : ℕ) (v : View) → Forks Kept port v (missed v) spent
misses port v items views (sender, taker, all, taken, drained, parts, fits) at = let vs : List View = set views port (missed v) in
    let old : All (Fits sender taker all taken drained) vs = all_set (Fits sender taker all taken drained) views port (missed v) (fits port v at)
    (λ j u _ e. fits j u e) in (
      sender,
      taker,
      all,
      taken,
      drained,
      parts,
      λ j u e. ⊎_elim (λ x. old j u x)
          (λ (is : spent ≡ u). subst (Fits sender taker all taken drained j) is (idle_fits sender taker all taken drained j)) (at_snoc vs spent u j e),
    )

-- making the two passes
pub parts_ends : (port : ℕ) (v : View) → v.sends ≡ true → v.takes ≡ true → v.drained ≡ [] → Forks Kept port v (sender_of v) (taker_of v)
parts_ends port v a b none items views (sender, taker, all, taken, drained, parts, fits) at = let l : View = sender_of v in
    let r : View = taker_of v in let mine = fits port v at in let vs : List View = set views port l in
    let Old : ℕ → View → Type 0 = λ j u. FitsSender sender all j u × (u.takes ≢ true) in
    let old : All Old vs = all_set Old views port l ((λ _. mine.0 a), λ p. true≢false (sym p)) (λ j u other e. (
      (fits j u e).0,
      λ p. other (((fits j u e).1 p).0 ∙ sym (mine.1 b).0),
    )) in (
      sender,
      length vs,
      all,
      taken,
      drained,
      parts,
      λ j u e. ⊎_elim (λ x. ((old j u x).0, (λ p. absurd ((old j u x).1 p)), λ p. absurd ((old j u x).1 p)))
          (λ (is : r ≡ u). (
            (λ p. absurd (true≢false (sym (ap (λ (y : View). y.sends) is ∙ p)))),
            (λ p. (
              at_end vs r u j (λ x. (old j u x).1 p) e,
              ap (λ (y : View). y.taken) (sym is) ∙ (mine.1 b).1,
              ap
                  (λ (y : View). y.drained) (sym is) ∙ sym none ∙ (mine.1 b).2,
            )),
            λ _ _. ap (λ (y : View). y.drained) (sym is),
          )) (at_snoc vs r u j e),
    )

-- joining the two passes
pub merges : (port : ℕ) (v : View) (other : ℕ) (u : View) → v.sends ≡ true → u.takes ≡ true → u.sends ≡ false →
    Merges Kept port v other u (joined v u) spent
merges port v other u a b apart items views (sender, taker, all, taken, drained, parts, fits) at two at' = let both : View = joined v u in
    let mine = fits port v at in let vs : List View = set views port both in
    let was : get_elem? views other ≡ some u = ⊎_elim (λ x. absurd (two x.0)) (λ x. x.1) (at_set views port other both u at') in
    let theirs = fits other u was in
    let none : drained ≡ [] = sym (theirs.1 b).2 ∙ theirs.2 b apart in
    let New : ℕ → View → Type 0 = Fits sender port all taken drained in
    let Now : ℕ → View → Type 0 = λ j y. j ≢ other → New j y in
    let now : All Now vs = all_set Now views port both (λ _. (
      (λ _. mine.0 a),
      (λ _. (refl, (theirs.1 b).1, sym none)),
      λ _ p. absurd (true≢false p),
    )) (λ j y _ e away. (
      (fits j y e).0,
      (λ p. absurd (away (((fits j y e).1 p).0 ∙ sym (theirs.1 b).0))),
      (fits j y e).2,
    )) in (
      sender,
      port,
      all,
      taken,
      drained,
      parts,
      all_set New vs other spent (idle_fits sender port all taken drained other)
          (λ j y away e. now j y e away),
    )

-- the pass that sends learns that the queue holds the last of what it sent
pub learns_sent : (port : ℕ) (v : View) → v.sends ≡ true → Learns Kept port v (EndsSent v)
learns_sent port v a items views (sender, taker, all, taken, drained, parts, fits) at = (
  taken ++ drained,
  ((fits port v at).0 a).1 ∙ parts ∙ sym (append_assoc taken drained items),
)

-- the joined pass learns what is left
pub learns_rest : (port : ℕ) (v : View) → v.sends ≡ true → v.takes ≡ true → Learns Kept port v (Leaves v)
learns_rest port v a b items views (sender, taker, all, taken, drained, parts, fits) at = let mine = fits port v at in
    (mine.0 a).1 ∙ parts ∙ ap (λ (y : List ℤ × List ℤ). y.0 ++ (y.1 ++ items)) (λ i. (sym (mine.1 b).1 i, sym (mine.1 b).2 i))
