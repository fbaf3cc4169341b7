use Rattle.std.proofs.Common.{◌≡◌, ◌%◌, ◌+◌, ℕ, vec_len, refl, sym, ap, ◌∙◌, arith}
use Rattle.std.proofs.Math.Nat.{add-mod_right}
use Rattle.bursts.proofs.RawSteps.{word_begun}
use Rattle.bursts.proofs.raw_reader.RawReader.begin_word.Goals as goal

pub invariant_of-self : goal.invariant_of-self
invariant_of-self c =
    let s = c.args.self.now in
    record {
      bytes = s.bytes;
      small = s.small;
      some = s.some;
      some_cells = s.some_cells;
      few = s.few;
      begun = omega arith;
      within = omega arith;
      left = s.left;
      aligned = ap (λ (k : ℕ). k % s.word) c.if-self.true ∙ add-mod_right s.first s.word ∙ s.aligned;
      buffer = ap (λ b. vec_len b) c.restart.ensures.buffer ∙ s.buffer;
      place = omega (arith, c.restart.ensures.start);
    }

pub returns-then-self-clause-at : goal.returns-then-self-clause-at
returns-then-self-clause-at c = λ bytes place cells a. word_begun c.args.self.now _ bytes place cells c.if-self.true c.restart.ensures.start c.restart.ensures.filled c.restart.ensures.ended refl refl refl a
