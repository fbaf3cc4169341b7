-- The loops over the front of a list of bytes.
use Rattle.std.proofs.Common.{◌≡◌, ℕ, ◌≤◌, List, ◌++◌, length, take, drop}
use Rattle.param_lines.specs.pieces.Fronts.{line_front, line_rest, run_front, run_rest, space_rest}

-- the first bytes are no line feeds
pub record IsBeforeFeed (count : ℕ) (bytes : List ℕ) : Type 0 where
  pub within : count ≤ length bytes
  pub front : take count bytes ++ line_front (drop count bytes) ≡ line_front bytes
  pub rest : line_rest (drop count bytes) ≡ line_rest bytes

-- the first bytes are white space
pub record IsSpace (count : ℕ) (bytes : List ℕ) : Type 0 where
  pub within : count ≤ length bytes
  pub rest : space_rest (drop count bytes) ≡ space_rest bytes

-- the first bytes are no white space
pub record IsBeforeSpace (count : ℕ) (bytes : List ℕ) : Type 0 where
  pub within : count ≤ length bytes
  pub front : take count bytes ++ run_front (drop count bytes) ≡ run_front bytes
  pub rest : run_rest (drop count bytes) ≡ run_rest bytes
