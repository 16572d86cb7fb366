-- With one free block a collection takes at least two blocks, by any test and name that fit the page map: the valid pages are few
-- enough. Assumes nothing.
use mathlib.Core.Path.{◌≡◌, refl, sym, ◌∙◌, ap}
use mathlib.Core.List.{List, [], ◌∷◌, map}
use mathlib.Core.Option.{Option}
use mathlib.Core.Bool.{Bool, true, false}
use Prim.Native.Nat.{ℕ, suc, ◌+◌, ◌*◌, ◌-◌, ◌≤◌, ◌<◌}
use native.Mathlib.Omega.{arith}
use lib.Dec.{leb}
use lib.ListN.{length, length-append, length-map}
use borrow.Author.Tests.{le-leb}
use Rattle.model.specs.Lists.{elem, distinct}
use Rattle.model.specs.Device.{Device, within_limits}
use Rattle.model.specs.State.{free_blocks, used_blocks}
use Rattle.model.proofs.Lists.{elem_here}
use Rattle.model.proofs.Counting.{From, from, map-distinct, sum, two_fit, pigeonhole}
use Rattle.model.proofs.Blocks.{free_and_used}
use Rattle.model.proofs.Limits.{Limits, limits}
use Rattle.calls.specs.Choice.{Used, used_by, ranked, take_while, victims_by, pages_of, no_gain}
use Rattle.calls.proofs.Ranking.{sizes, Ordered, first, ranked-ordered, ranked-sum, ranked-length}
use Rattle.calls.proofs.Choosing.{used-own, own_only, own-distinct, used-distinct}
use Rattle.calls.proofs.Naming.{Names}

-- the number of valid pages, block by block and together
sizes-sum : (l : List Used) → sum (sizes l) ≡ length (pages_of l)
unfolding sizes sum pages_of
sizes-sum [] = refl
sizes-sum (u ∷ l) = ap (λ (n : ℕ). length u.pages + n) (sizes-sum l) ∙ sym (length-append u.pages (pages_of l))

sizes-length : (l : List Used) → length (sizes l) ≡ length l
unfolding sizes
sizes-length [] = refl
sizes-length (u ∷ l) = ap suc (sizes-length l)

-- two blocks that fit are taken, so there is something to gain
take_two : (B : ℕ) (u w : Used) (l : List Used) → length u.pages + length w.pages ≤ B → no_gain (take_while B (u ∷ w ∷ l)) ≡ false
unfolding take_while no_gain
take_two B u w l h =
    let a : leb (length u.pages) B ≡ true = le-leb (length u.pages) B (omega arith) in
    let b : leb (length w.pages) (B - length u.pages) ≡ true = le-leb (length w.pages) (B - length u.pages) (omega arith) in
    rw (a, b, take_while)

-- Of two or more blocks in order, with valid pages for at most half of their room, two are taken.
two_taken : (B : ℕ) (l : List Used) → Ordered l → 2 ≤ length l → 2 * sum (sizes l) ≤ length l * B → no_gain (take_while B l) ≡ false
unfolding sizes
two_taken B [] o h k = absurd (omega arith)
two_taken B (u ∷ []) o h k = absurd (omega arith)
two_taken B (u ∷ w ∷ l) (first f (first g o)) h k =
    let n : length (sizes l) ≡ length l = sizes-length l in
    let e : length (length u.pages ∷ length w.pages ∷ sizes l) ≡ length (u ∷ w ∷ l) = omega arith in
    take_two B u w l (two_fit (length u.pages) (length w.pages) B (sizes l) (f (length w.pages) (elem_here (length w.pages) (sizes l))) g (rw e k))

module _ (d : Device) (place : ℕ → Option ℕ) (valid : ℕ → Bool) (name : ℕ → ℕ) (n : Names d.N place valid name) where
  -- there are no more valid pages than logical pages
  valid-few : (ps : List ℕ) → ((p : ℕ) → elem p ps ≡ true → valid p ≡ true) → distinct ps ≡ true → length ps ≤ d.N
  valid-few ps t h =
      let k : length (map name ps) ≤ d.N = pigeonhole d.N (map name ps) (map-distinct name ps once h) (λ x m. below x (from name ps x m)) in
      omega (arith, length-map ps name)
    where
      once : (p q : ℕ) → elem p ps ≡ true → elem q ps ≡ true → name p ≡ name q → p ≡ q
      once p q a b e = cc ((n.only p (t p a)).1, (n.only q (t q b)).1)

      below : (x : ℕ) → From name ps x → x < d.N
      below x r = rw r.gives at (n.only r.source (t r.source r.among)).0

  -- With one free block there is something to gain: a collection always helps.
  pub gain : (counts : List ℕ) → within_limits d ≡ true → length counts ≡ d.M → length (free_blocks 0 counts) ≡ 1 → no_gain (victims_by valid d counts) ≡ false
  unfolding victims_by
  gain counts within counted h =
      let ks : List ℕ = used_blocks 0 counts in
      let us : List Used = map (used_by valid d) ks in
      let few : length (pages_of us) ≤ d.N = valid-few (pages_of us) (λ p m. (own_only valid d us (used-own valid d ks) p m).0) (own-distinct valid d us (used-own valid d ks) (used-distinct valid d counts)) in
      let total : sum (sizes (ranked us)) ≡ length (pages_of us) = ranked-sum us ∙ sizes-sum us in
      let l : Limits d = limits d within in
      let size : length (ranked us) ≡ d.M - 1 = ranked-length us ∙ length-map ks (used_by valid d) ∙ omega (arith, free_and_used 0 counts) in
      two_taken d.B (ranked us) (ranked-ordered us) (omega (arith, l.least_M, size)) (rw size (omega (arith, few, total, l.most_N)))
