use Rattle.std.proofs.Common.{◌≡◌, ◌+◌, ◌++◌, take, List, ℕ, ℤ, false}
use Rattle.array_bytes.specs.Machine.Scans.{IsScanOf, KeepsKind}
use Rattle.array_bytes.proofs.text_scan.TextScan.scan.Given as goal

abbrev pub invariant-loop-index : goal.invariant-loop-index
invariant-loop-index l = record {
  kind : KeepsKind l.initial.self l.self;
  spent : l.self.left + l.index ≡ l.initial.self.left;
  number : l.self.number ≡ l.initial.self.number;
  scan : (before : List ℕ) (cells : List ℤ) → IsScanOf false l.initial.self before cells → IsScanOf false l.self (before ++ take l.index l.bytes) cells;
}
