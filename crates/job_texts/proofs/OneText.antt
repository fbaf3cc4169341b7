-- The reading of one more text.
use Rattle.std.proofs.Common.{◌≡◌, ◌<◌, ℕ, ◌+◌, true, List, [], ◌∷◌, ◌++◌, length, unwrap_or, Option, Some, Result, Ok, Err, IfOk, IsErrOf, refl, sym, ap, subst, ◌∙◌, arith, inl, inr}
use Rattle.std.proofs.lemmas.List.{length-append}
use Rattle.std.specs.Global.{Global}
use Rattle.std.specs.declared.vec.Vec.{Vec}
use Rattle.soda_io.specs.Store.{KeepsBytes, Store, left}
use Rattle.soda_io.specs.declared.error.IoErr.{IoErr}
use Rattle.soda_io.specs.declared.error.IoErr.TheVariants as io
use Rattle.soda_io.specs.declared.role.FileRole.TheVariants.{Program}
use Rattle.whole_files.specs.declared.reading.ReadFail.{ReadFail}
use Rattle.whole_files.specs.declared.reading.ReadFail.TheVariants as read
use Rattle.job_files.specs.Contents.{IsThere}
use Rattle.job_files.specs.Files.{JobFile, asking}
use Rattle.job_files.specs.Progress.{Progress}
use Rattle.job_files.specs.Steps.{AsksNext, ReadsNext}
use Rattle.job_files.proofs.CallerLemmas.{begin, id_opened, whole_left}
use Rattle.job_texts.specs.Texts.{ReadsText}

-- the text wasn't opened
module _ (first : ℕ) (begun : Store) (files : List JobFile) (places : ℕ → ℕ) (before : ℕ) (old : Store) (f : JobFile)
    (p : Progress first begun files (length files) places before old) (most given : ℕ) (now : Store) where
  abbrev Asks : IoErr → Type 0
  Asks e = AsksNext first begun files (length files) places given now f (Err e)

  pub unopened_fault : (e : IoErr) → Asks e → e ≡ io.Failed → ReadsText first begun files places given now f most (Err read.Failed)
  unopened_fault e asks same = record {
    after = places;
    count = 0;
    few = omega arith;
    moves = record { own = p.well.unasked (length files) (omega arith); others = λ k other. refl };
    fault = let P : IoErr → Type 0 = λ x. Asks x in subst P same asks;
  }

  pub unopened_memory : (e : IoErr) → Asks e → e ≡ io.Memory → ReadsText first begun files places given now f most (Err read.Memory)
  unopened_memory e asks same = inl (let P : IoErr → Type 0 = λ x. Asks x in subst P same asks)

-- what the call that opened it did
module _ (name : List ℕ) (before : ℕ) (old : Store) (mid_given : ℕ) (mid : Store) (id : ℕ)
    (opens : (first : ℕ) (begun : Store) (asked : List JobFile) (ended : ℕ) (places : ℕ → ℕ) (f : JobFile) → asking f ≡ (true, name)
    → Progress first begun asked ended places before old → AsksNext first begun asked ended places mid_given mid f (Ok id)) where
  -- seen as the first of all files
  abbrev file : JobFile
  file = record { role = Program; opened = true; name = name }

  alone : AsksNext before old [] 0 (λ n. 0) mid_given mid file (Ok id)
  alone = opens before old [] 0 (λ n. 0) file refl (begin before old)

  pub text_opened : mid.opened id ≡ true
  text_opened =
      let w = alone in
      ap (λ (k : ℕ). mid.opened k) w.0 ∙ id_opened before old (file ∷ []) 0 (λ n. 0) mid_given mid w.1 0 file refl

  module _ (opening_keeps : KeepsBytes old mid) (is_there : IsThere old.bytes name) where
    pub text_left : old.bytes name ≡ Some (left mid id)
    text_left =
        let w = alone in
        let whole : left mid id ≡ is_there.0 = ap (λ (k : ℕ). left mid k) w.0
        ∙ whole_left before old (file ∷ []) 0 (λ n. 0) mid_given mid w.1 0 file refl refl
        ∙ ap (λ (bytes : Option (List ℕ)). unwrap_or bytes []) (opening_keeps name ∙ is_there.1) in
        is_there.1 ∙ ap (λ (bytes : List ℕ). Some bytes) (sym whole)

    pub text_whole : (r : Result (Vec ℕ Global) ReadFail) → IfOk r (λ v. v.items ≡ left mid id) → IfOk r (λ v. old.bytes name ≡ Some v.items)
    text_whole (Ok v) whole = text_left ∙ ap (λ (bytes : List ℕ). Some bytes) (sym whole)
    text_whole (Err e) whole = tt

    pub text_long : (most : ℕ) (r : Result (Vec ℕ Global) ReadFail) → (IsErrOf r read.TooLong → most < length (left mid id)) → IsErrOf r read.TooLong
        → (bytes : List ℕ) × (old.bytes name ≡ Some bytes) × (most < length bytes)
    text_long most r long is = (left mid id, text_left, long is)

  -- and then it was read, or that failed
  module _ (most given : ℕ) (now : Store)
      (r : Result (Vec ℕ Global) ReadFail)
      (reads : (first : ℕ) (begun : Store) (asked : List JobFile) (ended : ℕ) (places : ℕ → ℕ) → id ≡ first + ended → ended < length asked
      → Progress first begun asked ended places mid_given mid → ReadsNext first begun asked ended places given now most r)
      (first : ℕ) (begun : Store) (files : List JobFile) (places : ℕ → ℕ) (f : JobFile) (is : asking f ≡ (true, name))
      (p : Progress first begun files (length files) places before old) where
    nothing : places (length files) ≡ 0
    nothing = p.well.unasked (length files) (omega arith)

    reading : ReadsNext first begun (files ++ f ∷ []) (length files) places given now most r
    reading =
        let w = opens first begun files (length files) places f is p in
        reads first begun (files ++ f ∷ []) (length files) places w.0 (omega (arith, length-append files (f ∷ []))) w.1

    of_reading : (s : Result (Vec ℕ Global) ReadFail) → ReadsNext first begun (files ++ f ∷ []) (length files) places given now most s
        → ReadsText first begun files places given now f most s
    of_reading (Ok v) m = record {
      after = m.0;
      moves = record { own = omega (arith, m.1.own, nothing); others = m.1.others };
      progress = m.2;
    }
    of_reading (Err read.TooLong) m = record {
      after = m.0;
      moves = record { own = omega (arith, m.1.own, nothing); others = m.1.others };
      progress = m.2;
    }
    of_reading (Err read.Failed) m = record {
      after = m.0;
      count = m.1;
      few = omega (arith, m.2, nothing);
      moves = m.3;
      fault = m.4;
    }
    of_reading (Err read.Memory) m = inr (m.1, omega (arith, m.2, nothing), record { after = m.0; moves = m.3; progress = m.4 })

    pub text_read : ReadsText first begun files places given now f most r
    text_read = of_reading r reading
