-- How many bytes of the texts of a job were read.
use Rattle.std.proofs.Common.{◌≡◌, ◌≢◌, ◌≤◌, ℕ, ◌+◌, List, length, Option, Some, None, refl, sym, ◌∙◌, arith}
use Rattle.soda_words.specs.Limits.{most_text}
use Rattle.param_lines.specs.Params.{most_params}
use Rattle.job_files.specs.Steps.{Moves}
use Rattle.command_words.specs.Orders.{Asked}
use Rattle.sodac_cli.specs.Journal.{ReadsFew}
use Rattle.sodac_cli.specs.Work.{array_files, if_given, makes, streamed_files, text_count}

-- an option that is given
one_given : (o : Option (List ℕ)) → o ≢ None → length (if_given o) ≡ 1
one_given None given = absurd (given refl)
one_given (Some name) given = refl

pub two_texts : (a : Asked) → a.params ≢ None → text_count a ≡ 2
two_texts a given = omega (arith, one_given a.params given)

module _ (a : Asked) where
  -- nothing was read
  pub few_none : ReadsFew a (λ n. 0)
  few_none = record { program = omega arith; params = λ given. omega arith; stalls = λ streams given. omega arith }

  -- the program's text was
  pub few_program : (after : ℕ → ℕ) (place : ℕ) → Moves (λ n. 0) after 0 place → place ≤ most_text + 1 → ReadsFew a after
  few_program after place m le = record {
    program = omega (arith, m.own, le);
    params = λ given. omega (arith, m.others 1 (λ e. absurd (omega arith)));
    stalls = λ streams given.
        let other : text_count a ≢ 0 = λ e. absurd (omega (arith, e)) in
        omega (arith, m.others (text_count a) other);
  }

  module _ (places after : ℕ → ℕ) (few : ReadsFew a places) where
    -- the params' was
    pub few_params : 2 ≡ text_count a → (place : ℕ) → Moves places after 1 place → place ≤ most_params + 1 → ReadsFew a after
    few_params two place m le = record {
      program = omega (arith, few.program, m.others 0 (λ e. absurd (omega arith)));
      params = λ given. omega (arith, m.own, le);
      stalls = λ streams given.
          let other : text_count a ≢ 1 = λ e. absurd (omega (arith, e, two)) in
          omega (arith, few.stalls streams given, m.others (text_count a) other);
    }

    -- a file behind the texts was
    pub few_behind : makes a.mode ≡ array_files → (n place : ℕ) → text_count a ≤ n → Moves places after n place → ReadsFew a after
    few_behind arrays n place le m = record {
      program = let other : 0 ≢ n = λ e. absurd (omega (arith, le)) in omega (arith, few.program, m.others 0 other);
      params = λ given.
          let two = two_texts a given in
          let other : 1 ≢ n = λ e. absurd (omega (arith, le, two)) in
          omega (arith, few.params given, m.others 1 other);
      stalls = λ streams given. let both : array_files ≡ streamed_files = sym arrays ∙ streams in absurd (cc);
    }
