use Rattle.std.proofs.Common.{◌≡◌, ◌-◌, ◌≤◌, true, length, take}
use Rattle.std.specs.List.{list_all}
use Rattle.soda_words.specs.Names.{is_digit}
use Rattle.design_lines.proofs.cursor.digit_count.Given as goal

-- digits so far
abbrev pub invariant-loop-count : goal.invariant-loop-count
invariant-loop-count l = record {
  within : l.count ≤ length l.text;
  digits : list_all is_digit (take l.count l.text) ≡ true;
}

abbrev pub decreases-loop-count : goal.decreases-loop-count
decreases-loop-count l = length l.text - l.count
