-- `within_line` meets its contract: at each turn one slope takes all pages before place q.
use Rattle.std.proofs.Common.{◌≡◌, ◌<◌, arith}
use Rattle.slopes.proofs.Following.{line_one, followed_small, followed_stops, line_none, followed_on}
use Rattle.slopes.proofs.reach.within_line.Goals as goal

pub narrow_by-requires : goal.narrow_by-requires
narrow_by-requires c =
    let p = c.requires in
    let n = followed_small c.args.s.now _ p.0 _ _ _ c.loop-q.invariant in
    (omega (arith, p.3), p.0, n.0, n.1)

pub returns-then-not-some_left : goal.returns-then-not-some_left
returns-then-not-some_left c =
    let low = c.narrow_by.new.self.low in
    let high = c.narrow_by.new.self.high in
    let p = c.requires in
    let here = c.loop-q.invariant in
    let inside : c.loop-q.q < c.args.s.now.end = omega (arith, p.3) in
    followed_stops c.args.s.now _ p.0 _ _ _ here inside
    (line_none c.args.s.now _ p.0 _ _ _ here _ (line_one _ _) inside low high c.narrow_by.ensures _ c.some_left.ensures
    c.if-not-some_left.true)

pub loop-q-preserved : goal.loop-q-preserved
loop-q-preserved c =
    let low = c.narrow_by.new.self.low in
    let high = c.narrow_by.new.self.high in
    let p = c.requires in
    followed_on c.args.s.now _ p.0 _ _ _ c.loop-q.invariant _ (line_one _ _) (omega (arith, p.3)) low high c.narrow_by.ensures _ c.some_left.ensures
    c.if-not-some_left.false

pub returns : goal.returns
returns c =
    let p = c.requires in
    let here : c.args.e ≡ c.loop-q.q = omega arith in
    rw here (followed_stops c.args.s.now _ p.0 _ _ _ c.loop-q.invariant (omega (arith, p.3)) (rw here at p.6))
