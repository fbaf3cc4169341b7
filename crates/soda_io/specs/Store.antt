-- A store of files: the bytes of each name, the name and place of each id, and the journal of calls.
use Rattle.std.specs.Prelude.{◌≡◌, ◌≢◌, ◌↔◌, ℕ, ◌+◌, ◌<◌, ◌≤◌, All, Bool, true, false, List, [], ◌∷◌, ◌++◌, take, drop, unwrap_or, Some, None, Ok, Err, OnOk, OnErr, IfOk, IsErr}
use Rattle.std.specs.Prelude.{Result}
use Rattle.std.specs.Prelude.{Option}
use Rattle.soda_io.specs.Limits.{most_ids}
use Rattle.soda_io.specs.declared.error.IoErr.{IoErr}
use Rattle.soda_io.specs.declared.error.IoErr.TheVariants.{Failed, Memory}
use Rattle.soda_io.specs.declared.call.FileCall.{FileCall}
use Rattle.soda_io.specs.declared.call.FileCall.TheVariants.{Open, Create, Read, Write}

pub record Store : Type 0 where
  -- what a name holds; None where there is no such name
  pub bytes : List ℕ → Option (List ℕ)
  -- of an id: its name, whether `open` gave it, and how many bytes were read by it
  pub name : ℕ → List ℕ
  pub opened : ℕ → Bool
  pub place : ℕ → ℕ
  -- the journal: one entry for each call that answered `Ok` or `Failed`
  pub calls : List FileCall

-- the bytes of an id's name
abbrev pub content : Store → ℕ → List ℕ
content s id = unwrap_or (s.bytes (s.name id)) []

-- those that a read by the id has still to give
abbrev pub left : Store → ℕ → List ℕ
left s id = drop (s.place id) (content s id)

-- the journal's entry of a call
abbrev pub logged : (Option ℕ → FileCall) → Result ℕ IoErr → List FileCall
logged entry (Ok n) = entry (Some n) ∷ []
logged entry (Err Failed) = entry None ∷ []
logged entry (Err Memory) = []

-- one more than the id that an entry names, and 0 where it names none
abbrev pub named : FileCall → ℕ
named (Open name (Some id)) = id + 1
named (Open name None) = 0
named (Create name (Some id)) = id + 1
named (Create name None) = 0
named (Read id asked got) = id + 1
named (Write id given taken) = id + 1

-- a journal's entries name no id but those that were given
abbrev pub NamesGiven : ℕ → List FileCall → Type 0
NamesGiven given calls = All (λ e. named e ≤ given) calls

-- no call changes the name of an id that was given before it, nor which call gave it
pub record KeepsIds (given : ℕ) (old new : Store) : Type 0 where
  pub name : (k : ℕ) → k < given → new.name k ≡ old.name k
  pub opened : (k : ℕ) → k < given → new.opened k ≡ old.opened k

-- the bytes of every name stay
abbrev pub KeepsBytes : Store → Store → Type 0
KeepsBytes old new = (n : List ℕ) → new.bytes n ≡ old.bytes n

-- the bytes of this name alone change
pub record Puts (name value : List ℕ) (old new : List ℕ → Option (List ℕ)) : Type 0 where
  pub own : new name ≡ Some value
  pub others : (n : List ℕ) → n ≢ name → new n ≡ old n

-- the places of the ids that were given before stay
abbrev pub KeepsPlaces : ℕ → Store → Store → Type 0
KeepsPlaces given old new = (k : ℕ) → k < given → new.place k ≡ old.place k

-- this id is of this name, and stands at the first byte
pub record IsFresh (s : Store) (id : ℕ) (its_name : List ℕ) (by_open : Bool) : Type 0 where
  pub name : s.name id ≡ its_name
  pub opened : s.opened id ≡ by_open
  pub place : s.place id ≡ 0

-- what `open` does; `given` is how many ids were given before the call
pub record Opens (given : ℕ) (old new : Store) (name : List ℕ) (result : Result ℕ IoErr) : Type 0 where
  pub ids : KeepsIds given old new
  pub bytes : KeepsBytes old new
  pub places : KeepsPlaces given old new
  pub calls : new.calls ≡ old.calls ++ logged (Open name) result
  pub fresh : IfOk result (λ id. IsFresh new id name true)
  pub missing : old.bytes name ≡ None → IsErr result

-- what `create` does: at Ok the name is there and empty
pub record Creates (given : ℕ) (old new : Store) (name : List ℕ) (result : Result ℕ IoErr) : Type 0 where
  pub ids : KeepsIds given old new
  pub places : KeepsPlaces given old new
  pub calls : new.calls ≡ old.calls ++ logged (Create name) result
  pub err : OnErr result (KeepsBytes old new)
  pub emptied : OnOk result (Puts name [] old.bytes new.bytes)
  pub fresh : IfOk result (λ id. IsFresh new id name false)

-- what `read` does: at `Ok n` the next n bytes stand at the front of the buffer, which is `buf` after the call
pub record Reads (given : ℕ) (old new : Store) (id asked : ℕ) (buf : List ℕ) (result : Result ℕ IoErr)
    : Type 0 where
  pub ids : KeepsIds given old new
  pub bytes : KeepsBytes old new
  pub others : (k : ℕ) → k < given → k ≢ id → new.place k ≡ old.place k
  pub calls : new.calls ≡ old.calls ++ logged (Read id asked) result
  pub err : OnErr result (new.place id ≡ old.place id)
  pub place : IfOk result (λ n. new.place id ≡ old.place id + n)
  pub got : IfOk result (λ n. left old id ≡ take n buf ++ left new id)
  pub end : IfOk result (λ n. (n ≡ 0) ↔ (left old id ≡ []))

-- what `write` does: at `Ok n` the first n of the bytes stand at the end of the id's name
pub record Writes (given : ℕ) (old new : Store) (id : ℕ) (bytes : List ℕ) (length : ℕ) (result : Result ℕ IoErr)
    : Type 0 where
  pub ids : KeepsIds given old new
  pub places : KeepsPlaces given old new
  pub calls : new.calls ≡ old.calls ++ logged (Write id length) result
  pub err : OnErr result (KeepsBytes old new)
  pub appended : IfOk result (λ n. Puts (old.name id) (content old id ++ take n bytes) old.bytes new.bytes)

-- the id that a call of `open` or `create` gives: the number of those given before, which Ok alone raises;
-- no more ids than the limit are given
abbrev pub Gives : ℕ → ℕ → Result ℕ IoErr → Type 0
Gives before now (Ok id) = (id ≡ before) × (now ≡ before + 1) × (now ≤ most_ids)
Gives before now (Err e) = now ≡ before

-- a store that tells nothing
abbrev pub nothing : Store
nothing = record { bytes = λ _. None; name = λ _. []; opened = λ _. false; place = λ _. 0; calls = [] }
