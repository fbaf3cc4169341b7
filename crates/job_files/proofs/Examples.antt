-- The definitions at a small job with a program, an input and an output, by computation.
use Rattle.std.proofs.Common.{◌≡◌, ◌≢◌, ℕ, true, false, List, [], ◌∷◌, ◌++◌, Option, Some, None, refl, ap, arith}
use Rattle.std.proofs.lemmas.List.Elements.{All-cons, All-head, All-nil}
use Rattle.soda_io.specs.declared.call.FileCall.{FileCall}
use Rattle.soda_io.specs.declared.call.FileCall.TheVariants.{Open, Create, Read, Write}
use Rattle.soda_io.specs.declared.role.FileRole.TheVariants.{Program, Input, Output}
use Rattle.whole_files.specs.Journal.{gots}
use Rattle.job_files.specs.Contents.{AreApart, emptied}
use Rattle.job_files.specs.Files.{JobFile, created_of}
use Rattle.job_files.proofs.Entries.{Asking}
use Rattle.job_files.specs.Progress.{IsDone, IsFailedUse, IsRefusedAsking, MetNoEnd, MetTheEnd, askings, created, given_from}

abbrev program : JobFile
program = record { role = Program; opened = true; name = 1 ∷ [] }

abbrev files : List JobFile
files = program ∷ record { role = Input 0; opened = true; name = 2 ∷ [] } ∷ record { role = Output 0; opened = false; name = 3 ∷ [] } ∷ []

-- all calls of the job, whose first id is 7
abbrev calls : List FileCall
calls = Open (1 ∷ []) (Some 7) ∷ Read 7 9 (Some 3) ∷ Read 7 6 (Some 0) ∷ Open (2 ∷ []) (Some 8) ∷ Create (3 ∷ []) (Some 9) ∷ Read 8 5 (Some 2) ∷ Read 8 3
    (Some 0) ∷ Write 9 2 (Some 2) ∷ []

files_asked_for : askings calls ≡ given_from 7 files
files_asked_for = refl

reads_of_program : gots 7 calls ≡ Some 3 ∷ Some 0 ∷ []
reads_of_program = refl

program_read_out : MetTheEnd (gots 7 calls)
program_read_out = record {
  before = Some 3 ∷ [];
  last = refl;
  none = All-cons (λ (g : Option ℕ). g ≢ Some 0) (Some 3) [] (λ e. cc)
      (All-nil (λ (g : Option ℕ). g ≢ Some 0));
}

output_unread : gots 9 calls ≡ []
output_unread = refl

names_created : created calls ≡ (3 ∷ []) ∷ []
names_created = refl

names_to_create : created_of files ≡ (3 ∷ []) ∷ []
names_to_create = refl

-- a file that is read on behind its end
behind : (before : List (Option ℕ)) → Some 0 ∷ Some 0 ∷ [] ≡ before ++ Some 0 ∷ [] → MetNoEnd before → ⊥
behind [] last none = cc
behind (g ∷ gs) last none = let end : g ≡ Some 0 = cc in All-head (λ (h : Option ℕ). h ≢ Some 0) g gs none end

read_behind_the_end : MetTheEnd (Some 0 ∷ Some 0 ∷ []) → ⊥
read_behind_the_end m = behind m.before m.last m.none

-- an id that isn't the next one
abbrev first_id : List Asking → Option ℕ
first_id [] = None
first_id ((opened, name, id) ∷ qs) = id

other_id : askings (Open (1 ∷ []) (Some 8) ∷ []) ≡ given_from 7 (program ∷ []) → ⊥
other_id e = let ids : ◌≡◌ {A = Option ℕ} (Some 8) (Some 7) = ap first_id e in let bad : ◌≡◌ {A = ℕ} 8 7 = cc in absurd (omega arith)

-- a read by an id that was given before the job, and by one that wasn't given
earlier_id : IsDone 7 3 (Read 6 9 (Some 1)) → ⊥
earlier_id done = absurd (omega (arith, done.0))

later_id : IsDone 7 3 (Read 10 9 (Some 1)) → ⊥
later_id done = absurd (omega (arith, done.1))

-- a failed opening of the program's file, and of another
program_refused : IsRefusedAsking program (Open (1 ∷ []) None)
program_refused = (refl, refl)

other_refused : IsRefusedAsking program (Open (2 ∷ []) None) → ⊥
other_refused r = let e : 1 ∷ [] ≡ 2 ∷ [] = r.1 in let bad : ◌≡◌ {A = ℕ} 1 2 = cc in absurd (omega arith)

-- a read of a file that was read to its end, and failed: the next to be read is another
failed_behind_the_end : IsFailedUse 7 8 (Read 7 9 None) → ⊥
failed_behind_the_end r = absurd (omega (arith, r.1))

-- two outputs of one name
one_name_twice : AreApart (emptied (3 ∷ []) ∷ emptied (3 ∷ []) ∷ []) → ⊥
one_name_twice a = All-head (λ (o : List ℕ × List ℕ). o.0 ≢ 3 ∷ []) (emptied (3 ∷ [])) [] a.0 refl
