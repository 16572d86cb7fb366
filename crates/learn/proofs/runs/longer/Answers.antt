-- `longer` meets its contract: the longest run is the accurate one, or the best of those that are longer.
use Rattle.std.proofs.Common.{List, ℕ, ◌≡◌, ◌+◌, ◌<◌, ◌≤◌, length, arith, subst, ◌∙◌}
use Rattle.model.specs.Demand2.{bounds_of}
use Rattle.slopes.specs.declared.windows.Sought.{Sought}
use Rattle.slopes.specs.Slopes.{longest_of, bettered}
use Rattle.slopes.specs.Counting.{as_fit, no_fit}
use Rattle.slopes.specs.declared.counting.Fit.{Fit}
use Rattle.learn.specs.declared.runs.Run.{Run}
use Rattle.learn.specs.Runs.{IsRun, on_pages, accurate_at}
use Rattle.learn.proofs.Grouping.{seeking_ends}
use Rattle.learn.proofs.AccurateAt.{filled}
use Rattle.learn.proofs.FullGroup.{group-small}
use Rattle.learn.proofs.Choosing.{RunBy, longest-inside, stays-accurate, goes-approximate}
use Rattle.learn.proofs.runs.longer.Goals as goal

module _ (s : Sought) (first : ℕ) (r : Run) (is : IsRun r (accurate_at (bounds_of s.g first s.written.now) s.written.now s.place)) where
  abbrev w : List ℕ
  w = s.written.now

  -- the accurate run takes a page
  some : 1 ≤ r.taken
  some = omega (arith, is.1, filled w s.place (bounds_of s.g first w))

  here : s.place < length w
  here = omega (arith, s.seeking.inside, s.seeking.end)

  -- what a longer one takes
  few : s.place + r.taken < s.end → 1 ≤ s.g → longest_of s.g w s.place 0 255 ≤ 255
  few room g =
      omega (
        arith,
        group-small _ _ _ s.seeking.ascends (seeking_ends s) (bounds_of s.g first w) (omega (arith, is.1, room)),
        longest-inside s.g first _ _ here g _ s.seeking.ascends (seeking_ends s),
      )

  found : (f : Fit) (n : ℕ) → 1 ≤ s.g → n ≡ longest_of s.g w s.place 0 255 → as_fit f ≡ bettered s.g w s.place (no_fit n) 0 256 → r.taken < n
      → RunBy (bounds_of s.g first w) w s.place (on_pages first (as_fit f)) s.end
  found f n g long best more =
      goes-approximate _ _ _ _ here g _ s.seeking.ascends (seeking_ends s) _ _ long best (omega (arith, more, is.1))

pub longest-size-requires : goal.longest-size-requires
longest-size-requires c =
    let p = c.requires in
    (some c.args.s.now _ _ p.0, p.1)

pub best-requires : goal.best-requires
best-requires c =
    let p = c.requires in
    let long : c.longest-size.result ≡ longest_of c.args.s.now.g c.args.s.now.written.now c.args.s.now.place 0 255 =
    omega (arith, c.longest-size.ensures, c.if-size-n.false) in
    let more : c.args.r.taken < c.longest-size.result = omega (arith, c.longest-size.ensures, c.if-size-n.false) in
    (omega (arith, more, some c.args.s.now _ _ p.0), omega (arith, long, few c.args.s.now _ _ p.0 p.1 p.2), long)

pub approximate-requires : goal.approximate-requires
approximate-requires c =
    let p = c.requires in
    let long : c.longest-size.result ≡ longest_of c.args.s.now.g c.args.s.now.written.now c.args.s.now.place 0 255 =
    omega (arith, c.longest-size.ensures, c.if-size-n.false) in
    let u = found c.args.s.now _ _ p.0 c.best.result _ p.2 long c.best.ensures (omega (arith, c.longest-size.ensures, c.if-size-n.false)) in
    (omega (arith, u.room, c.args.s.now.seeking.end), u.filled, u.rising, u.slope, omega (arith, u.intercept, p.3))

-- no slope goes farther
pub returns-then-size-n-clause-run : goal.returns-then-size-n-clause-run
returns-then-size-n-clause-run c =
    let p = c.requires in
    let s = c.args.s.now in
    let e = stays-accurate s.g c.args.first s.written.now s.place (here s _ _ p.0) p.2
    (omega (arith, c.longest-size.ensures, c.if-size-n.true, p.0.1)) in
    subst (IsRun _) e p.0

pub returns-then-size-n-clause-le_taken : goal.returns-then-size-n-clause-le_taken
returns-then-size-n-clause-le_taken c =
    let p = c.requires in
    (some c.args.s.now _ _ p.0, omega (arith, p.1))

pub returns-else-size-n-clause-run : goal.returns-else-size-n-clause-run
returns-else-size-n-clause-run c =
    let p = c.requires in
    let long : c.longest-size.result ≡ longest_of c.args.s.now.g c.args.s.now.written.now c.args.s.now.place 0 255 =
    omega (arith, c.longest-size.ensures, c.if-size-n.false) in
    let u = found c.args.s.now _ _ p.0 c.best.result _ p.2 long c.best.ensures (omega (arith, c.longest-size.ensures, c.if-size-n.false)) in
    let t = c.approximate.ensures in
    (t.0 ∙ u.learned, t.1 ∙ u.taken)

pub returns-else-size-n-clause-le_taken : goal.returns-else-size-n-clause-le_taken
returns-else-size-n-clause-le_taken c =
    let p = c.requires in
    let long : c.longest-size.result ≡ longest_of c.args.s.now.g c.args.s.now.written.now c.args.s.now.place 0 255 =
    omega (arith, c.longest-size.ensures, c.if-size-n.false) in
    let u = found c.args.s.now _ _ p.0 c.best.result _ p.2 long c.best.ensures (omega (arith, c.longest-size.ensures, c.if-size-n.false)) in
    let t = c.approximate.ensures in
    (omega (arith, t.1, u.filled), omega (arith, t.1, u.room))
