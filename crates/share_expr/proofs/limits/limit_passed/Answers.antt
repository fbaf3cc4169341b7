use Rattle.std.proofs.Common.{arith}
use Rattle.share_expr.proofs.Passed.{live_found, none_found, offset_found, reads_found, tensors_found}
use Rattle.share_expr.proofs.limits.limit_passed.Goals as goal

pub returns-in-Some : goal.returns-in-Some
returns-in-Some c = offset_found c.args.parts.now c.as_slice.result.now c.as_slice.ensures c.in-Some.magnitude c.in-Some.ensures

pub returns-then-tensors-gt-MOST_TENSORS : goal.returns-then-tensors-gt-MOST_TENSORS
returns-then-tensors-gt-MOST_TENSORS c =
    tensors_found c.args.parts.now c.as_slice.result.now c.as_slice.ensures c.in_default.ensures c.len-tensors.result c.len-tensors.ensures c.if-tensors-gt-MOST_TENSORS.true

pub returns-then-live-gt-MOST_LIVE : goal.returns-then-live-gt-MOST_LIVE
returns-then-live-gt-MOST_LIVE c =
    live_found c.args.parts.now c.as_slice.result.now c.as_slice.ensures c.in_default.ensures c.len-tensors.result c.len-tensors.ensures (omega arith) c.in_ok-live.live c.in_ok-live.ensures c.if-live-gt-MOST_LIVE.true

pub returns-then-reads : goal.returns-then-reads
returns-then-reads c =
    reads_found c.args.parts.now c.as_slice.result.now c.as_slice.ensures c.in_default.ensures c.len-tensors.result c.len-tensors.ensures (omega arith) c.in_ok-live.live c.in_ok-live.ensures (omega arith) c.in_ok-reads.reads c.in_ok-reads.ensures c.if-reads.true

pub returns : goal.returns
returns c =
    none_found c.args.parts.now c.as_slice.result.now c.as_slice.ensures c.in_default.ensures c.len-tensors.result c.len-tensors.ensures (omega arith) c.in_ok-live.live c.in_ok-live.ensures (omega arith) c.in_ok-reads.reads c.in_ok-reads.ensures (omega arith)
