-- What the tests of covers, member and meets answer, one law for each way to return. Assumes nothing.
use mathlib.Core.Path.{◌≡◌, refl, sym, ◌∙◌}
use mathlib.Core.Bool.{true≢false, Bool, true, false, ◌&&◌}
use Prim.Native.Nat.{ℕ, ◌+◌, ◌-◌, ◌/◌, ◌%◌, ◌≤◌, ◌<◌}
use native.Mathlib.Omega.{arith}
use native.Mathlib.Nat.{mod-one}
use lib.Dec.{leb, eqb}
use borrow.Author.Tests.{leb-true, leb-false, le-leb, eqb-true, eqb-false, eq-eqb, ne_eqb}
use Rattle.model.specs.Lists.{elem}
use Rattle.model.specs.Record.{Record, Kind, single, accurate, approximate, kind, is_approximate, covers, member_as, member}
use Rattle.model.specs.Levels.{meets}
use Rattle.model.proofs.Bools.{and_l, and_r, and_i, iff_bool, is_false}
use Rattle.record.proofs.Words.{kind-zero, kind_even, kind_odd}

-- a number at most a sum, and the rest of it
split : (a b c : ℕ) → a ≤ c → leb (c - a) b ≡ leb c (a + b)
split a b c h =
    iff_bool _ _ (λ e. le-leb c (a + b) (omega (arith, leb-true (c - a) b e))) (λ e. le-leb (c - a) b (omega (arith, leb-true c (a + b) e)))

module _ (r : Record) (o : ℕ) where
  pub member-owned : r.word % 2 ≡ 1 → elem o r.owned ≡ member r o
  unfolding member member_as
  member-owned h = rw (kind_odd _ h)

  pub member-single : r.word ≡ 0 → eqb o r.start ≡ member r o
  unfolding member member_as
  member-single h = rw (kind-zero _ h)

  -- an offset in the range is as far behind the start as it is modulo 256, and one outside is farther than the span
  module _ (byte : o < 256) (top : r.start + r.span ≤ 255) where
    module _ (far : r.span < (o + 256 - r.start) % 256) where
      uncovered : covers r o ≡ false
      unfolding covers
      uncovered = is_false _ (λ h. omega (arith, leb-true r.start o (and_l (leb r.start o) _ h), leb-true o (r.start + r.span) (and_r (leb r.start o) _ h)))

      pub member-outside : (is_approximate (kind r) ≡ true → elem o r.owned ≡ true → covers r o ≡ true) → false ≡ member r o
      unfolding member member_as is_approximate
      member-outside within = go (kind r) within
        where
          go : (k : Kind) → (is_approximate k ≡ true → elem o r.owned ≡ true → covers r o ≡ true) → false ≡ member_as k r o
          go single f = sym (ne_eqb o r.start (λ e. omega arith))
          go (accurate d) f = rw uncovered
          go (approximate a) f = sym (is_false _ (λ h. true≢false (sym (f refl h) ∙ uncovered)))

    covered : (o + 256 - r.start) % 256 ≤ r.span → covers r o ≡ true
    unfolding covers
    covered near = and_i _ _ (le-leb r.start o (omega arith)) (le-leb o (r.start + r.span) (omega arith))

    pub covers-near : leb ((o + 256 - r.start) % 256) r.span ≡ covers r o
    covers-near = go (leb ((o + 256 - r.start) % 256) r.span) refl
      where
        go : (t : Bool) → leb ((o + 256 - r.start) % 256) r.span ≡ t → t ≡ covers r o
        go true e = sym (covered (leb-true _ _ e))
        go false e = sym (uncovered (leb-false _ _ e))

    module _ (near : (o + 256 - r.start) % 256 ≤ r.span) (even : r.word % 2 ≡ 1 → ⊥) where
      strided : (r.word ≡ 0 → ⊥) → member r o ≡ eqb ((o - r.start) % (r.word / 2)) 0
      unfolding member member_as
      strided some = rw (kind_even _ some even, covered near)

      pub member-every : (r.word ≡ 0 → r.span ≡ 0) → r.word ≤ 2 → true ≡ member r o
      member-every point low = go (eqb r.word 0) refl
        where
          go : (t : Bool) → eqb r.word 0 ≡ t → true ≡ member r o
          go true q = let z : r.word ≡ 0 = eqb-true _ _ q in sym (eq-eqb o r.start (omega (arith, point z))) ∙ member-single z
          go false q =
              let n : r.word ≡ 0 → ⊥ = eqb-false _ _ q in
              let z : r.word ≡ 2 = omega arith in
              rw (strided n, z, mod-one (o - r.start))

      pub member-strided : 2 < r.word → eqb ((o + 256 - r.start) % 256 % (r.word / 2)) 0 ≡ member r o
      member-strided h =
          let e : (o + 256 - r.start) % 256 ≡ o - r.start = omega arith in
          rw e (sym (strided (λ z. omega arith)))

module _ (r s : Record) where
  pub meets-above : r.start < s.start → leb (s.start - r.start) r.span ≡ meets r s
  unfolding meets
  meets-above h =
      let le : r.start ≤ s.start + s.span = omega arith in
      rw (le-leb _ _ le) (split r.start r.span s.start (omega arith))

  pub meets_from : s.start ≤ r.start → leb (r.start - s.start) s.span ≡ meets r s
  unfolding meets
  meets_from h = let le : s.start ≤ r.start + r.span = omega arith in rw (le-leb _ _ le) (split _ _ _ h ∙ and-true _)
    where
      and-true : (t : Bool) → t ≡ (t && true)
      and-true true = refl
      and-true false = refl
