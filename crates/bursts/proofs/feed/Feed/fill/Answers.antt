use Rattle.std.proofs.Common.{◌≡◌, ◌≤◌, ◌+◌, ◌-◌, ◌++◌, [], ℕ, List, length, take, drop, Result, Ok, Err, refl, sym, ap, ◌∙◌, arith}
use Rattle.soda_io.specs.declared.error.IoErr.{IoErr}
use Rattle.std.proofs.lemmas.List.{with_items_is}
use borrow.Rule.Slice.PartMut.{post_of}
use Rattle.bursts.proofs.Filled.{asked_size, grown, met, put_size, read_end, read_failed, read_refused, read_some, same_unread}
use Rattle.bursts.proofs.feed.Feed.fill.Goals as goal

abbrev ok : ℕ → Result ℕ IoErr
ok n = Ok n

abbrev err : IoErr → Result ℕ IoErr
err e = Err e

pub returns-in-Ok-eq0-clause-file : goal.returns-in-Ok-eq0-clause-file
returns-in-Ok-eq0-clause-file g c = λ told.
    let f = c.args.self.now in
    let xs = c.deref_mut.result.now in
    let room : f.filled + c.args.most ≤ length xs = omega (arith, c.deref_mut.ensures.len, c.requires.room) in
    let buf = c.read.new.buf in
    let size : length buf ≡ c.args.most = c.read.auto.buf ∙ asked_size xs f.filled c.args.most room in
    let ws = take f.filled xs ++ (buf ++ post_of f.filled (f.filled + c.args.most - f.filled) xs) in
    let held = with_items_is f.buffer ws (put_size xs buf f.filled c.args.most room size ∙ c.deref_mut.ensures.len) in
    let h = met _ _ _ _ _ _ _ _ (ap ok c.in-Ok-eq0.field-0-test) (c.in-Ok-eq0.ensures.store told) in
    let x = read_end _ _ _ _ _ _ _ f.ended (asked_size xs f.filled c.args.most room) c.if-self.false h in
    record { ids = x.ids; bytes = x.bytes; others = x.others; more = []; grown = ap (λ (ys : List ℕ). take (f.filled - f.start) (drop f.start ys)) held ∙ same_unread xs c.read.new.buf (post_of f.filled (f.filled + c.args.most - f.filled) xs) f.start f.filled f.within (omega arith) ∙ ap (λ (ys : List ℕ). take (f.filled - f.start) (drop f.start ys) ++ []) c.deref_mut.ensures.value; some = x.some; none = x.none; got = x.got; place = x.place; end = x.end; calls = x.calls }

pub returns-in-Ok-clause-file : goal.returns-in-Ok-clause-file
returns-in-Ok-clause-file g c = λ told.
    let f = c.args.self.now in
    let xs = c.deref_mut.result.now in
    let room : f.filled + c.args.most ≤ length xs = omega (arith, c.deref_mut.ensures.len, c.requires.room) in
    let buf = c.read.new.buf in
    let size : length buf ≡ c.args.most = c.read.auto.buf ∙ asked_size xs f.filled c.args.most room in
    let ws = take f.filled xs ++ (buf ++ post_of f.filled (f.filled + c.args.most - f.filled) xs) in
    let held = with_items_is f.buffer ws (put_size xs buf f.filled c.args.most room size ∙ c.deref_mut.ensures.len) in
    let x = read_some _ _ _ _ _ _ _ f.ended (asked_size xs f.filled c.args.most room) c.if-self.false c.in-Ok.count (c.in-Ok.ensures.store told) c.in-Ok.count-test.1 c.in-Ok.ensures.count in
    record { ids = x.ids; bytes = x.bytes; others = x.others; more = take c.in-Ok.count c.read.new.buf; grown = ap (λ (ys : List ℕ). take (f.filled + c.in-Ok.count - f.start) (drop f.start ys)) held ∙ grown xs c.read.new.buf (post_of f.filled (f.filled + c.args.most - f.filled) xs) f.start f.filled c.in-Ok.count f.within (omega arith) c.in-Ok.ensures.count ∙ ap (λ (ys : List ℕ). take (f.filled - f.start) (drop f.start ys) ++ take c.in-Ok.count c.read.new.buf) c.deref_mut.ensures.value; some = x.some; none = x.none; got = x.got; place = x.place; end = x.end; calls = x.calls }

pub returns-in-Err-Failed-clause-file : goal.returns-in-Err-Failed-clause-file
returns-in-Err-Failed-clause-file g c = λ told.
    let f = c.args.self.now in
    let xs = c.deref_mut.result.now in
    let room : f.filled + c.args.most ≤ length xs = omega (arith, c.deref_mut.ensures.len, c.requires.room) in
    let buf = c.read.new.buf in
    let size : length buf ≡ c.args.most = c.read.auto.buf ∙ asked_size xs f.filled c.args.most room in
    let ws = take f.filled xs ++ (buf ++ post_of f.filled (f.filled + c.args.most - f.filled) xs) in
    let held = with_items_is f.buffer ws (put_size xs buf f.filled c.args.most room size ∙ c.deref_mut.ensures.len) in
    let h = met _ _ _ _ _ _ _ _ (ap err c.in-Err-Failed.field-0-is) (c.in-Err-Failed.ensures.store told) in
    let x = read_failed _ _ _ _ _ _ _ f.ended (asked_size xs f.filled c.args.most room) c.if-self.false c.requires.given h in
    record { ids = x.ids; bytes = x.bytes; others = x.others; more = []; grown = ap (λ (ys : List ℕ). take (f.filled - f.start) (drop f.start ys)) held ∙ same_unread xs c.read.new.buf (post_of f.filled (f.filled + c.args.most - f.filled) xs) f.start f.filled f.within (omega arith) ∙ ap (λ (ys : List ℕ). take (f.filled - f.start) (drop f.start ys) ++ []) c.deref_mut.ensures.value; some = x.some; none = x.none; got = x.got; place = x.place; end = x.end; calls = x.calls }

pub returns-in-Err-Memory-clause-file : goal.returns-in-Err-Memory-clause-file
returns-in-Err-Memory-clause-file g c = λ told.
    let f = c.args.self.now in
    let xs = c.deref_mut.result.now in
    let room : f.filled + c.args.most ≤ length xs = omega (arith, c.deref_mut.ensures.len, c.requires.room) in
    let buf = c.read.new.buf in
    let size : length buf ≡ c.args.most = c.read.auto.buf ∙ asked_size xs f.filled c.args.most room in
    let ws = take f.filled xs ++ (buf ++ post_of f.filled (f.filled + c.args.most - f.filled) xs) in
    let held = with_items_is f.buffer ws (put_size xs buf f.filled c.args.most room size ∙ c.deref_mut.ensures.len) in
    let h = met _ _ _ _ _ _ _ _ (ap err c.in-Err-Memory.field-0-is) (c.in-Err-Memory.ensures.store told) in
    let x = read_refused _ _ _ _ _ _ _ f.ended (asked_size xs f.filled c.args.most room) c.if-self.false c.requires.given h in
    record { ids = x.ids; bytes = x.bytes; others = x.others; more = []; grown = ap (λ (ys : List ℕ). take (f.filled - f.start) (drop f.start ys)) held ∙ same_unread xs c.read.new.buf (post_of f.filled (f.filled + c.args.most - f.filled) xs) f.start f.filled f.within (omega arith) ∙ ap (λ (ys : List ℕ). take (f.filled - f.start) (drop f.start ys) ++ []) c.deref_mut.ensures.value; some = x.some; none = x.none; got = x.got; place = x.place; end = x.end; calls = x.calls }
