-- A record shrinks to the first and last numbers that a test picks: whoever has found these has the record. Assumes nothing.
use mathlib.Core.Path.{◌≡◌, refl, sym, ◌∙◌}
use mathlib.Core.List.{List, [], ◌∷◌}
use mathlib.Core.Option.{Option, none, some, map}
use mathlib.Core.Bool.{Bool, true, false, true≢false, ◌&&◌}
use Prim.Native.Nat.{ℕ, ◌-◌, ◌%◌, ◌≤◌, ◌<◌}
use native.Mathlib.Omega.{arith}
use lib.IntN.{ℤ}
use Rattle.model.specs.Lists.{last_of, select}
use Rattle.model.specs.Record.{Record}
use Rattle.model.specs.Levels.{shrunk_to, shrunk_to_any}
use Rattle.model.proofs.Bools.{and_l, and_r, and_i, is_false}
use Rattle.model.proofs.Lists.{Picked, picked, Asc, asc_select, asc_head, asc_top, last_elem, elem_here, no_elem}
use Rattle.model.proofs.Shrink.{step-sub}
use Rattle.record.specs.declared.Record as declared
use Rattle.record.specs.Read.{bare}
use Rattle.record.specs.Scan.{on_stride, First, Last}
use Rattle.record.proofs.Strides.{Stands, on_stride_lem, stride_on, step_sum}

-- the record's four numbers that are left, by what the test picks
abbrev pub shrunk_by : (ℕ → Bool) → Record → Option declared.Record
shrunk_by t r = map bare (shrunk_to_any r (select t 256 0))

module _ (t : ℕ → Bool) (r : Record) where
  none_picked : ((o : ℕ) → o < 256 → t o ≡ false) → none ≡ shrunk_by t r
  unfolding shrunk_to_any
  none_picked n = go (select t 256 0) (picked t 256 0)
    where
      go : (l : List ℕ) → Picked t 256 0 l → none ≡ map bare (shrunk_to_any r l)
      go [] p = refl
      go (x ∷ l) p =
          let q = p.only x (elem_here x l) in
          absurd (true≢false (sym q.0 ∙ n x (omega (arith, q.2))))

  module _ (f g : ℕ) (small : g < 256) (tf : t f ≡ true) (tg : t g ≡ true)
      (least : (o : ℕ) → o < 256 → t o ≡ true → f ≤ o) (most : (o : ℕ) → o < 256 → t o ≡ true → o ≤ g) where
    some_picked : some (record { start = f; span = g - f; word = r.word; intercept = r.intercept }) ≡ shrunk_by t r
    unfolding shrunk_to_any shrunk_to
    some_picked = go (select t 256 0) (picked t 256 0) (asc_select t 256 0)
      where
        go : (l : List ℕ) → Picked t 256 0 l → Asc 0 l
            → some (record { start = f; span = g - f; word = r.word; intercept = r.intercept }) ≡ map bare (shrunk_to_any r l)
        go [] p a = no_elem g (p.every g (omega arith) (omega arith) tg)
        go (x ∷ l) p a =
            let fg : f ≤ g = least g small tg in
            let i = p.only x (elem_here x l) in
            let j = p.only (last_of x l) (last_elem x l) in
            let u : f ≤ x = least x (omega (arith, i.2)) i.0 in
            let v : x ≤ f = asc_head a f (p.every f (omega arith) (omega arith) tf) in
            let y : last_of x l ≤ g = most (last_of x l) (omega (arith, j.2)) j.0 in
            let z : g ≤ last_of x l = asc_top a g (p.every g (omega arith) (omega arith) tg) in
            let e : f ≡ x = omega arith in
            let k : g ≡ last_of x l = omega arith in
            rw (e, k)

-- a test that picks those of s, s + d, .. to e that pass another
module _ (t u : ℕ → Bool) (s d e : ℕ) (small : e ≤ 255) (is : (o : ℕ) → o < 256 → t o ≡ (on_stride s d e o && u o)) where
  picks : (o : ℕ) → o < 256 → t o ≡ true → Stands s d e o × (u o ≡ true)
  picks o h k =
      let a = sym (is o h) ∙ k in
      (stride_on s d e o (and_l (on_stride s d e o) (u o) a), and_r (on_stride s d e o) (u o) a)

  of_picks : (o : ℕ) → Stands s d e o → u o ≡ true → t o ≡ true
  of_picks o a q = is o (omega (arith, a.high)) ∙ and_i _ _ (on_stride_lem a) q

  module _ (r : Record) (f : ℕ) (first : First u s d e f) where
    least : (o : ℕ) → o < 256 → t o ≡ true → f ≤ o
    least o h k =
        let (a, q) = picks o h k in
        let n : o < f → ⊥ = λ l. true≢false (sym q ∙ first.0.before o a.low l a.step) in
        omega arith

    pub none_left : e < f → none ≡ shrunk_by t r
    none_left h = none_picked t r (λ o k. is_false (t o) (λ y. absurd (let z : ⊥ = omega (arith, least o k y, (picks o k y).0.high) in z)))

    module _ (g : ℕ) (inside : f ≤ e) (last : Last u f d e g) where
      most : (o : ℕ) → o < 256 → t o ≡ true → o ≤ g
      most o h k =
          let (a, q) = picks o h k in
          let p : (o - f) % d ≡ 0 = step-sub s f o d first.0.low (least o h k) first.0.step a.step in
          let n : g < o → ⊥ = λ l. true≢false (sym q ∙ last.0.after o l a.high p) in
          omega arith

      pub some_left : (z : ℤ) → z ≡ r.intercept → some (record { start = f; span = g - f; word = r.word; intercept = z }) ≡ shrunk_by t r
      some_left z same =
          let a = first.0 in
          let b = last.0 in
          let low : s ≤ g = omega (arith, a.low, b.low) in
          let at_f : t f ≡ true = of_picks f (record { low = a.low; high = inside; step = a.step }) (first.1 inside) in
          let at_g : t g ≡ true = of_picks g (record { low = low; high = b.high; step = step_sum s f g d a.low b.low a.step b.step }) last.1 in
          rw same (some_picked t r f g (omega (arith, b.high)) at_f at_g least most)
