-- `farthest` meets its contract: at each turn one slope takes all pages before place q.
use Rattle.slopes.proofs.Following.{line_one, followed_start, followed_small, followed_stops, followed_ends, line_none, followed_on}
use Rattle.slopes.proofs.reach.farthest.Goals as goal

pub loop-q-init : goal.loop-q-init
loop-q-init c =
    let p = c.requires in
    followed_start c.args.s.now _ p _ _ c.new-suiting.ensures

pub narrow_by-requires : goal.narrow_by-requires
narrow_by-requires c =
    let p = c.requires in
    let n = followed_small c.args.s.now _ p _ _ _ c.loop-q.invariant in
    (c.loop-q-test.true, p, n.0, n.1)

pub returns-then-not-some_left : goal.returns-then-not-some_left
returns-then-not-some_left c =
    let p = c.requires in
    let here = c.loop-q.invariant in
    let inside = c.loop-q-test.true in
    followed_stops c.args.s.now _ p _ _ _ here inside
    (line_none c.args.s.now _ p _ _ _ here _ (line_one _ _) inside _ _ c.narrow_by.ensures _ c.some_left.ensures c.if-not-some_left.true)

pub loop-q-preserved-then-q-e : goal.loop-q-preserved-then-q-e
loop-q-preserved-then-q-e c =
    let p = c.requires in
    followed_on c.args.s.now _ p _ _ _ c.loop-q.invariant _ (line_one _ _) c.loop-q-test.true _ _ c.narrow_by.ensures _ c.some_left.ensures
    c.if-not-some_left.false

pub narrow_by-requires-in-loop-q : goal.narrow_by-requires-in-loop-q
narrow_by-requires-in-loop-q c =
    let p = c.requires in
    let n = followed_small c.args.s.now _ p _ _ _ c.loop-q.invariant in
    (c.line_end-e.ensures.1, p, n.0, n.1)

pub within_line-requires : goal.within_line-requires
within_line-requires c =
    let p = c.requires in
    let here = c.loop-q.invariant in
    let line = c.line_end-e.ensures in
    let none = line_none c.args.s.now _ p _ _ _ here _ line.0 line.1 _ _ c.narrow_by-in-loop-q.ensures _ c.some_left-in-loop-q.ensures
    c.if-not-some_left-2.true in
    (p, here.past, line.0.low, line.1, here.suits, here.one, none)

pub loop-q-preserved : goal.loop-q-preserved
loop-q-preserved c =
    let p = c.requires in
    let line = c.line_end-e.ensures in
    followed_on c.args.s.now _ p _ _ _ c.loop-q.invariant _ line.0 line.1 _ _ c.narrow_by-in-loop-q.ensures _ c.some_left-in-loop-q.ensures
    c.if-not-some_left-2.false

pub returns : goal.returns
returns c =
    let p = c.requires in
    followed_ends c.args.s.now _ p _ _ _ c.loop-q.invariant c.loop-q-test.false
