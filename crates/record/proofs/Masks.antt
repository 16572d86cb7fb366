-- What a mask leaves of a record's members, as those of a stride that stay: by kind. Assumes nothing.
use mathlib.Core.Path.{◌≡◌, refl, sym, ◌∙◌, ap}
use mathlib.Core.List.{List}
use mathlib.Core.Bool.{Bool, true, false, not, ◌&&◌}
use Prim.Native.Nat.{ℕ, ◌+◌, ◌-◌, ◌*◌, ◌/◌, ◌%◌, ◌≤◌, ◌<◌}
use native.Mathlib.Omega.{arith}
use native.Mathlib.Nat.{mod-lt, mod-one, mod-le, mod-add-div', mul-mod_left}
use lib.Dec.{eqb}
use lib.ListN.{get_or}
use borrow.Author.Tests.{eqb-true, eq-eqb}
use Rattle.model.specs.Record.{Record, end, covers, member, member_as, accurate}
use Rattle.model.proofs.Bools.{iff_bool}
use Rattle.model.proofs.Shrink.{On, on_of, of_on, member_as_lem}
use Rattle.record.specs.Scan.{masked, stays, on_stride}
use Rattle.record.proofs.Words.{kind_even}
use Rattle.record.proofs.Members.{member-single}
use Rattle.record.proofs.Strides.{on_stride_lem, stride_on, gap}

pub stays-taken : (m : List ℕ) (o : ℕ) → eqb (get_or m o 0) 0 ≡ stays m o
unfolding stays
stays-taken m o = twice (eqb (get_or m o 0) 0)
  where
    twice : (t : Bool) → t ≡ not (not t)
    twice true = refl
    twice false = refl

-- the last whole stride of a span l from s on: it is one, and no other goes further
module _ (s l d : ℕ) (some : 0 < d) where
  pub whole : (s + (l - l % d) - s) % d ≡ 0
  whole =
      let e : s + (l - l % d) - s ≡ l / d * d = omega (arith, mod-add-div' l d) in
      rw e (mul-mod_left (l / d) d)

  top : (o : ℕ) → s ≤ o → o ≤ s + l → (o - s) % d ≡ 0 → o ≤ s + (l - l % d)
  top o h k p = let n : s + (l - l % d) < o → ⊥ = beyond in omega arith
    where
      beyond : s + (l - l % d) < o → ⊥
      beyond g =
          let m : l % d < d = mod-lt l some in
          let a : s ≤ s + (l - l % d) = omega arith in
          let b : s + (l - l % d) ≤ o = omega arith in
          let c : o < s + (l - l % d) + d = omega (arith, mod-le l d) in
          omega (arith, gap s d (s + (l - l % d)) o a b c whole p)

-- a single's members and an accurate record's are the offsets of a stride
module _ (r : Record) (o : ℕ) where
  pub single-members : r.word ≡ 0 → member r o ≡ on_stride r.start 1 r.start o
  single-members w = sym (member-single r o w) ∙ iff_bool _ _ there back
    where
      there : eqb o r.start ≡ true → on_stride r.start 1 r.start o ≡ true
      there e =
          let q : o ≡ r.start = eqb-true _ _ e in
          on_stride_lem (record { low = omega arith; high = omega arith; step = mod-one (o - r.start) })

      back : on_stride r.start 1 r.start o ≡ true → eqb o r.start ≡ true
      back e =
          let q = stride_on r.start 1 r.start o e in
          eq-eqb o r.start (omega (arith, q.low, q.high))

  pub accurate-members : (r.word ≡ 0 → ⊥) → (r.word % 2 ≡ 1 → ⊥) → member r o ≡ on_stride r.start (r.word / 2) (end r) o
  unfolding on_stride member_as covers
  accurate-members more even = member_as_lem r (accurate (r.word / 2)) o (kind_even _ more even)

module _ (r : Record) (m : List ℕ) where
  pub single_picks : r.word ≡ 0 → (o : ℕ) → o < 256 → (member r o && not (masked m o)) ≡ (on_stride r.start 1 r.start o && stays m o)
  unfolding stays
  single_picks w o h = ap (λ (t : Bool). t && not (masked m o)) (single-members r o w)

  pub strided_picks : (r.word ≡ 0 → ⊥) → (r.word % 2 ≡ 1 → ⊥) → (o : ℕ) → o < 256
      → (member r o && not (masked m o)) ≡ (on_stride r.start (r.word / 2) (r.start + (r.span - r.span % (r.word / 2))) o && stays m o)
  unfolding stays
  strided_picks more even o h = ap (λ (t : Bool). t && not (masked m o)) (member_as_lem r _ o (kind_even _ more even) ∙ iff_bool _ _ there back)
    where
      there : member_as (accurate (r.word / 2)) r o ≡ true → on_stride r.start (r.word / 2) (r.start + (r.span - r.span % (r.word / 2))) o ≡ true
      there y =
          let i : On (r.word / 2) r o = on_of _ r o y in
          let some : 0 < r.word / 2 = omega arith in
          on_stride_lem (record { low = i.low; high = top _ _ _ some o i.low i.high i.step; step = i.step })

      back : on_stride r.start (r.word / 2) (r.start + (r.span - r.span % (r.word / 2))) o ≡ true → member_as (accurate (r.word / 2)) r o ≡ true
      back y =
          let q = stride_on _ (r.word / 2) _ o y in
          of_on _ r o (record { low = q.low; high = omega (arith, q.high); step = q.step })
