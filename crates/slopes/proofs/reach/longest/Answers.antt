-- `longest` meets its contract.
use Rattle.std.proofs.Common.{ℕ, ◌≡◌, ◌+◌, ◌-◌, ◌≤◌, arith}
use Rattle.slopes.specs.Slopes.{longest_of}
use Rattle.slopes.specs.declared.windows.Sought.{Sought}
use Rattle.slopes.proofs.SearchLonger.{among-behind, longest-part, longest-few, none_longer, all_taken}
use Rattle.slopes.proofs.reach.longest.Goals as goal

-- 32 slopes go to place q
found : (s : Sought) (done q : ℕ) → done ≤ 224 → q ≡ s.place + longest_of s.g s.written.now s.place done 31
    → (q - s.place ≡ longest_of s.g s.written.now s.place done 31) × (s.place + (q - s.place) ≤ s.end) × (q - s.place ≤ longest_of s.g s.written.now s.place 0 255)
found s done q h e =
    let n = longest-few s done 31 (omega arith) in
    let m = longest-part s done h in
    (omega arith, omega arith, omega arith)

pub returns-then-w : goal.returns-then-w
returns-then-w c = none_longer c.args.s.now _ _ _ (among-behind c.args.s.now _ _ _ c.slopes_to-w.ensures.1) c.if-w.true

pub returns-then-i-t : goal.returns-then-i-t
returns-then-i-t c =
    all_taken c.args.s.now _ _ (omega arith) (omega (arith, (found c.args.s.now _ _ c.guess-done.ensures c.farthest.ensures).2)) c.if-i-t.true

pub slopes_to-v-requires : goal.slopes_to-v-requires
slopes_to-v-requires c =
    (omega arith, omega (arith, (found c.args.s.now _ _ c.guess-done.ensures c.farthest.ensures).1))

pub longest_of-requires-2 : goal.longest_of-requires-2
longest_of-requires-2 c =
    let p = c.requires in
    let r = c.slopes_to-v.ensures in
    let f = found c.args.s.now _ _ c.guess-done.ensures c.farthest.ensures in
    (omega arith, omega (arith, f.1), c.guess-done.ensures, omega (arith, f.0), r.0, among-behind c.args.s.now _ _ _ r.1)

pub returns : goal.returns
returns c = omega (arith, c.longest_of-2.ensures, (found c.args.s.now _ _ c.guess-done.ensures c.farthest.ensures).2)
