-- `longest_of` meets its contract: at each turn no slope before `next` takes more than the longest so far.
use Rattle.std.proofs.Common.{◌≡◌, ◌+◌, ◌<◌, ◌≤◌, max, arith, sym, ◌∙◌}
use Rattle.slopes.specs.Slopes.{longest_of}
use Rattle.slopes.proofs.SearchLonger.{Among, among-behind, all_taken, searched-start, searched-taken, searched-turn, searched-end}
use Rattle.slopes.proofs.reach.longest_of.Goals as goal
use Rattle.slopes.proofs.reach.longest_of.Goals.{then-m-size+else-i-size, else-m-size}

pub loop-next-init : goal.loop-next-init
loop-next-init c =
    let p = c.requires in
    searched-start c.args.s.now _ _ p.2 p.3 _ _ _ p.1 p.4 p.5 c.undone-next.ensures.1

pub overflow_add-i : goal.overflow_add-i
overflow_add-i c =
    let p = c.requires in
    omega (arith, searched-taken c.args.s.now _ _ p.2 p.3 _ _ _ _ c.loop-next.invariant _ _ c.min-a.ensures c.loop-next-test.true c.longer-m.ensures, c.args.s.now.seeking.end, c.args.s.now.seeking.size)

pub returns-then-i-size : goal.returns-then-i-size
returns-then-i-size c =
    let p = c.requires in
    let t = searched-taken c.args.s.now _ _ p.2 p.3 _ _ _ _ c.loop-next.invariant _ _ c.min-a.ensures c.loop-next-test.true c.longer-m.ensures in
    all_taken c.args.s.now _ _ t.0 t.1 c.if-i-size.true

pub overflow_add-i-then-m-size : goal.overflow_add-i-then-m-size
overflow_add-i-then-m-size c =
    let p = c.requires in
    omega (arith, searched-taken c.args.s.now _ _ p.2 p.3 _ _ _ _ c.loop-next.invariant _ _ c.min-a.ensures c.loop-next-test.true c.longer-m.ensures, c.args.s.now.seeking.end, c.args.s.now.seeking.size)

pub slopes_to-w-requires : goal.slopes_to-w-requires
slopes_to-w-requires c =
    let p = c.requires in
    let t = searched-taken c.args.s.now _ _ p.2 p.3 _ _ _ _ c.loop-next.invariant _ _ c.min-a.ensures c.loop-next-test.true c.longer-m.ensures in
    (omega (arith, p.0, t.0), omega (arith, t.2))

pub loop-next-preserved : goal.loop-next-preserved
loop-next-preserved c =
    let p = c.requires in
    let s = c.args.s.now in
    let v = c.loop-next.invariant in
    let now = c.if-m-size in
    let t = searched-taken c.args.s.now _ _ p.2 p.3 _ _ _ _ v _ _ c.min-a.ensures c.loop-next-test.true c.longer-m.ensures in
    let known : (s.place + now.size < s.end) × (now.w.last ≤ 255) × Among s now.size now.w.first now.w.last
    × (now.size ≡ max c.loop-next.size (longest_of s.g s.written.now s.place c.min-a.result 31)) =
    elim c.if-m-size.branch [
      | then-m-size+else-i-size w ↦
          rw (w.size-is, w.w-is)
          (omega (arith, t.2), w.slopes_to-w.ensures.0, among-behind s _ _ _ w.slopes_to-w.ensures.1, c.longer-m.ensures)
      | else-m-size w ↦ rw (w.size-is, w.w-is) (v.inside, v.few, v.among, sym w.if-m-size.false ∙ c.longer-m.ensures)
    ] in
    searched-turn c.args.s.now _ _ p.2 p.3 _ _ _ _ v _ _ c.min-a.ensures c.loop-next-test.true known.3 _ _ _ _ known.0 known.1 known.2 c.max.ensures
    c.undone-next-in-loop-next.ensures.1

pub returns : goal.returns
returns c =
    let p = c.requires in
    searched-end c.args.s.now _ _ p.2 p.3 _ _ _ _ c.loop-next.invariant c.loop-next-test.false
