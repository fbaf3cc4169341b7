use Rattle.std.proofs.Common.{◌≡◌, ◌+◌, ◌++◌, take, ℕ, List, ℤ, false, length, refl, sym, subst, ap, ◌∙◌, arith}
use Rattle.std.proofs.lemmas.List.{append-nil, take_all}
use Rattle.array_bytes.specs.Machine.Scans.{IsScanOf}
use Rattle.array_bytes.proofs.ScanSteps.{all_on, count_on, kind_on, one_more, range_on, scan_stops, spend_on}
use Rattle.array_bytes.proofs.text_scan.TextScan.scan.Goals as goal

pub loop-index-init : goal.loop-index-init
loop-index-init c = record {
  kind = record { ty = refl; cells = refl };
  spent = omega arith;
  number = refl;
  scan = λ before cells a. let P : List ℕ → Type 0 = λ xs. IsScanOf false c.args.self.now xs cells in subst P (sym (append-nil before)) a;
}

pub loop-index-preserved : goal.loop-index-preserved
loop-index-preserved c = record {
  kind = kind_on c.args.self.now c.loop-index.self c.take.new.self c.loop-index.invariant.kind c.take.ensures.kind;
  spent = omega (arith, c.in-Nothing.ensures.spent, c.loop-index.invariant.spent);
  number = c.in-Nothing.ensures.next ∙ c.loop-index.invariant.number;
  scan = λ before cells a.
      let P : List ℕ → Type 0 = λ xs. IsScanOf false c.take.new.self xs cells in
      subst P (one_more before c.args.bytes.now c.loop-index.index c.loop-index-test.true)
      (c.in-Nothing.ensures.took (before ++ take c.loop-index.index c.args.bytes.now) cells (c.loop-index.invariant.scan before cells a));
}

pub returns-in_default : goal.returns-in_default
returns-in_default c = record {
  count = omega arith;
  all = all_on _ c.take.result c.in_default.not-Nothing;
  kind = kind_on c.args.self.now c.loop-index.self c.take.new.self c.loop-index.invariant.kind c.take.ensures.kind;
  spent = spend_on c.args.self.now.left c.loop-index.self.left c.take.new.self.left c.loop-index.index c.take.result c.loop-index.invariant.spent c.take.ensures.spent;
  next = count_on c.args.self.now.number c.loop-index.self.number c.take.new.self.number c.take.result c.loop-index.invariant.number c.take.ensures.next;
  range = range_on c.args.self.now.ty c.loop-index.self.ty c.take.result c.loop-index.invariant.kind.ty c.take.ensures.range;
  own = c.take.ensures.own;
  found = λ before cells a. scan_stops c.take.new.self before c.args.bytes.now cells c.loop-index.index c.loop-index-test.true c.take.result c.in_default.not-Nothing
      (c.take.ensures.took (before ++ take c.loop-index.index c.args.bytes.now) cells (c.loop-index.invariant.scan before cells a));
}

pub returns : goal.returns
returns c =
    let all : take c.loop-index.index c.args.bytes.now ≡ c.args.bytes.now = take_all c.loop-index.index c.args.bytes.now c.loop-index-test.false in
    record {
      count = omega arith;
      all = refl;
      kind = c.loop-index.invariant.kind;
      spent = omega (arith, c.loop-index.invariant.spent);
      next = c.loop-index.invariant.number;
      range = tt;
      own = tt;
      found = λ before cells a.
          let P : List ℕ → Type 0 = λ xs. IsScanOf false c.loop-index.self (before ++ xs) cells in
          (refl, subst P all (c.loop-index.invariant.scan before cells a));
    }
