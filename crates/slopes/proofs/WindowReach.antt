-- How far a slope goes from a place on: as far as its window has an intercept. Assumes nothing.
use mathlib.Core.Path.{◌≡◌, refl, sym, ◌∙◌, ap}
use mathlib.Core.List.{List, []}
use mathlib.Core.Bool.{Bool, true, false, true≢false}
use Prim.Native.Nat.{ℕ, zero, suc, ◌+◌, ◌*◌, ◌-◌, ◌/◌, ◌%◌, ◌≤◌, ◌<◌, min, max}
use native.Mathlib.Omega.{arith}
use lib.Dec.{leb, ltb}
use lib.ListN.{length}
use borrow.Author.Tests.{leb-true, le-leb, ltb-true, ltb-false}
use Rattle.model.specs.Device.{ceil}
use Rattle.model.specs.Learning.{Intercepts, Reach, suiting, common, longer, extend, reach}
use Rattle.slopes.specs.Places.{page_at, ahead_of, offsets_behind}
use Rattle.slopes.specs.Slopes.{place_bounds, suit_at, window, takes, reach_of}
use Rattle.slopes.specs.declared.windows.Sought.{Sought}
use Rattle.slopes.proofs.AheadOf.{Goes, ahead-goes}

module _ (g : ℕ) (w : List ℕ) (a i : ℕ) where
  -- windows only narrow
  takes-before : (m : ℕ) → takes g w a i (suc m) ≡ true → takes g w a i m ≡ true
  unfolding takes window common
  takes-before m h =
      let u : Intercepts = window g w a i m in
      let v : Intercepts = suit_at g w a (i + suc m) in
      let q : max u.least v.least ≤ min u.most v.most = leb-true _ _ h in
      let r : u.least ≤ u.most = omega arith in
      le-leb _ _ r

  takes_first : (m n : ℕ) → takes g w a i (m + n) ≡ true → takes g w a i m ≡ true
  takes_first m zero h = let e : m + 0 ≡ m = omega arith in rw e at h
  takes_first m (suc n) h =
      let e : m + suc n ≡ suc (m + n) = omega arith in
      takes_first m n (takes-before (m + n) (rw e at h))

  pub takes-less : (m n : ℕ) → m ≤ n → takes g w a i n ≡ true → takes g w a i m ≡ true
  takes-less m n h t = let e : m + (n - m) ≡ n = omega arith in takes_first m (n - m) (rw e t)

  -- one intercept suits the first page
  pub takes_one : i < length w → takes g w a i 0 ≡ true
  unfolding takes window suit_at suiting
  takes_one h = le-leb _ _ (go (i - g) (i + g) (ceil (a * (page_at w i % 256)) 256) (omega arith) (omega arith))
    where
      go : (u v c : ℕ) → u ≤ i → i ≤ v → (max u 0 + 256) - c ≤ (min v (length w - 1) + 256) - c
      go u v c p q = omega arith

-- how far slope a goes on, before place e, if it takes the m + 1 pages from place i on
record Extended (g : ℕ) (w : List ℕ) (a i e m : ℕ) (r : Reach) : Type 0 where
  few : i + suc (m + r.size) ≤ e
  suit : r.suit ≡ window g w a i (m + r.size)
  took : takes g w a i (m + r.size) ≡ true
  ends : i + suc (m + r.size) < e → takes g w a i (suc (m + r.size)) ≡ false

module _ (g : ℕ) (w : List ℕ) (a i k e : ℕ) (inside : e ≤ length w) (group : (q : ℕ) → i ≤ q → q < e → page_at w q / 256 ≡ k)
    (ended : ahead_of w k e ≡ []) where
  -- how far it goes behind the m + 1 pages, the next of them at place p
  abbrev behind : ℕ → ℕ → Reach
  behind m p = extend (place_bounds g w) a (window g w a i m) p (ahead_of w k p)

  stays : (m : ℕ) (r : Reach) → r ≡ record { size = 0; suit = window g w a i m } → i + suc m ≤ e → takes g w a i m ≡ true
      → (i + suc m < e → takes g w a i (suc m) ≡ false) → Extended g w a i e m r
  stays m r is few took ends =
      let z : m + 0 ≡ m = omega arith in
      rw is (record { few = omega arith; suit = rw z; took = rw z took; ends = rw z ends })

  deeper : (m : ℕ) (r t : Reach) → t ≡ longer r → Extended g w a i e (suc m) r → Extended g w a i e m t
  unfolding longer
  deeper m r t is x =
      let z : m + suc r.size ≡ suc m + r.size = omega arith in
      rw is (record { few = omega (arith, x.few); suit = rw z x.suit; took = rw z x.took; ends = rw z x.ends })

  -- the page at place p leaves an intercept, or none
  module _ (m p : ℕ) (here : p ≡ i + suc m) (on : Goes w k p) where
    narrowed : common (window g w a i m) (suiting (place_bounds g w) a (page_at w p % 256) p) ≡ window g w a i (suc m)
    unfolding window suit_at
    narrowed = ap (λ (q : ℕ). common (window g w a i m) (suiting (place_bounds g w) a (page_at w q % 256) q)) here

    goes_on_lem : takes g w a i (suc m) ≡ true → behind m p ≡ longer (behind (suc m) (p + 1))
    unfolding extend takes
    goes_on_lem t =
        let c : Intercepts = common (window g w a i m) (suiting (place_bounds g w) a (page_at w p % 256) p) in
        let q : leb c.least c.most ≡ true = rw narrowed t in
        let z : suc p ≡ p + 1 = omega arith in
        ap (extend (place_bounds g w) a (window g w a i m) p) on.is
        ∙ rw (q, extend) (ap (λ (x : Intercepts). longer (extend (place_bounds g w) a x (suc p) (ahead_of w k (p + 1)))) narrowed)
        ∙ ap (λ (n : ℕ). longer (extend (place_bounds g w) a (window g w a i (suc m)) n (ahead_of w k (p + 1)))) z

    breaks : takes g w a i (suc m) ≡ false → behind m p ≡ record { size = 0; suit = window g w a i m }
    unfolding extend takes
    breaks t =
        let c : Intercepts = common (window g w a i m) (suiting (place_bounds g w) a (page_at w p % 256) p) in
        let q : leb c.least c.most ≡ false = rw narrowed t in
        ap (extend (place_bounds g w) a (window g w a i m) p) on.is ∙ rw (q, extend)

  extended : (d m p : ℕ) → p ≡ i + suc m → p + d ≡ e → takes g w a i m ≡ true → Extended g w a i e m (behind m p)
  unfolding extend
  extended zero m p here left took =
      let z : p ≡ e = omega arith in
      stays m (behind m p) (ap (extend (place_bounds g w) a (window g w a i m) p) (ap (ahead_of w k) z ∙ ended)) (omega arith) took (λ h. absurd (omega arith))
  extended (suc d) m p here left took = go (takes g w a i (suc m)) refl (extended d (suc m) (p + 1) (omega arith) (omega arith))
    where
      on : Goes w k p
      on = ahead-goes w k p (omega arith) (group p (omega arith) (omega arith))

      go : (t : Bool) → takes g w a i (suc m) ≡ t → (takes g w a i (suc m) ≡ true → Extended g w a i e (suc m) (behind (suc m) (p + 1)))
          → Extended g w a i e m (behind m p)
      go true t ih = deeper m _ _ (goes_on_lem m p here on t) (ih t)
      go false t ih = stays m (behind m p) (breaks m p here on t) (omega arith) took (λ h. t)

module _ (s : Sought) where
  abbrev w : List ℕ
  w = s.written.now

  -- one page, and as many behind it as leave an intercept
  record Reached (a : ℕ) (r : Reach) : Type 0 where
    more : Reach
    is : r ≡ longer more
    extends : Extended s.g w a s.place s.end 0 more

  reached : (a : ℕ) → Reached a (reach_of s.g w s.place a)
  unfolding reach_of reach offsets_behind window suit_at
  reached a =
      let z : suc s.place ≡ s.place + 1 = omega arith in
      let k : ℕ = page_at w s.place / 256 in
      let t = takes_one s.g w a s.place (omega (arith, s.seeking.inside, s.seeking.end)) in
      record {
        more = _;
        is = ap (λ (p : ℕ). longer (extend (place_bounds s.g w) a (window s.g w a s.place 0) p (ahead_of w k (s.place + 1)))) z;
        extends = extended s.g w a s.place k s.end s.seeking.end s.seeking.group s.seeking.ended (s.end - (s.place + 1)) 0 (s.place + 1) (omega arith) (omega (arith, s.seeking.inside)) t;
      }

  pub reach_few : (a : ℕ) → a ≤ 256 → (1 ≤ (reach_of s.g w s.place a).size) × (s.place + (reach_of s.g w s.place a).size ≤ s.end)
  unfolding longer
  reach_few a h = let x = reached a in rw x.is (omega arith, omega (arith, x.extends.few))

  pub takes_reached : (a m : ℕ) → a ≤ 256 → s.place + m < s.end → takes s.g w a s.place m ≡ true → m < (reach_of s.g w s.place a).size
  unfolding longer
  takes_reached a m h k t = let x = reached a in rw x.is (go x.more.size x.extends.ends (ltb m (suc x.more.size)) refl)
    where
      go : (n : ℕ) → (s.place + suc (0 + n) < s.end → takes s.g w a s.place (suc (0 + n)) ≡ false) → (b : Bool) → ltb m (suc n) ≡ b → m < suc n
      go n ends true e = ltb-true m (suc n) e
      go n ends false e =
          let far : suc n ≤ m = ltb-false m (suc n) e in
          absurd (true≢false (sym (takes-less s.g w a s.place (suc (0 + n)) m (omega arith) t) ∙ ends (omega arith)))

  pub reached_takes : (a m : ℕ) → a ≤ 256 → m < (reach_of s.g w s.place a).size → takes s.g w a s.place m ≡ true
  unfolding longer
  reached_takes a m h k =
      let x = reached a in
      let q : m < suc x.more.size = rw x.is at k in
      takes-less s.g w a s.place m (0 + x.more.size) (omega arith) x.extends.took

  pub reach-suit : (a : ℕ) → a ≤ 256 → (reach_of s.g w s.place a).suit ≡ window s.g w a s.place ((reach_of s.g w s.place a).size - 1)
  unfolding longer
  reach-suit a h =
      let x = reached a in
      let z : 0 + x.more.size ≡ suc x.more.size - 1 = omega arith in
      rw x.is (x.extends.suit ∙ ap (window s.g w a s.place) z)
