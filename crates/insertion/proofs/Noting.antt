-- The owners of a mask's offsets are noted, offset by offset: a note stays, and the sum of their numbers tells whether there is one. Assumes nothing.
use mathlib.Core.Path.{◌≡◌, refl, sym, ◌∙◌, ap}
use mathlib.Core.List.{List}
use mathlib.Core.Bool.{Bool, true, false, not}
use Prim.Native.Nat.{ℕ, ◌+◌, ◌*◌, ◌≤◌, ◌<◌}
use native.Mathlib.Omega.{arith}
use lib.Dec.{eqb}
use lib.ListN.{length, set, length-set}
use lib.Seq.{get_or-set_same, get_or-set_other}
use borrow.Author.Tests.{eqb-true, eqb-false, ne_eqb}
use Rattle.record.specs.Scan.{masked}
use Rattle.group.specs.Layout.{owner_of}
use Rattle.slots.specs.Owners.{either}
use Rattle.insertion.specs.InsertSlots.{Noting}

-- a note set, and the others
note_here : (m : List ℕ) (i : ℕ) → i < length m → masked (set m i 1) i ≡ true
note_here m i h = ap (λ (x : ℕ). not (eqb x 0)) (get_or-set_same m i 1 0 h)

note_stays : (m : List ℕ) (i j : ℕ) → i < length m → masked m j ≡ true → masked (set m i 1) j ≡ true
note_stays m i j h e = go (eqb j i) refl
  where
    go : (t : Bool) → eqb j i ≡ t → masked (set m i 1) j ≡ true
    go true q = ap (masked (set m i 1)) (eqb-true j i q) ∙ note_here m i h
    go false q = ap (λ (x : ℕ). not (eqb x 0)) (get_or-set_other m i j 1 0 (eqb-false j i q)) ∙ e

-- those before offset o are noted, and their numbers' sum is `any`
pub record Tallied (b mask losers : List ℕ) (start any o : ℕ) : Type 0 where
  pub size : length losers ≡ 257
  pub sum : any ≤ 256 * o
  pub notes : (k : ℕ) → start ≤ k → k < o → masked mask k ≡ true → 0 < owner_of b k → (masked losers (owner_of b k) ≡ true) × (0 < any)

module _ (b mask : List ℕ) (start : ℕ) where
  pub tally-start : (losers : List ℕ) → length losers ≡ 257 → Tallied b mask losers start 0 start
  tally-start losers long = record { size = long; sum = omega arith; notes = λ k h l. absurd (let z : ⊥ = omega arith in z) }

  module _ (losers : List ℕ) (any o w l : ℕ) (so : Tallied b mask losers start any o) (low : o < 256) (small : (k : ℕ) → k < 256 → owner_of b k ≤ 256)
      (is : w ≡ owner_of b o) (picked : l ≡ either (masked mask o) w 0) where
    pub tally-low : l ≤ 256
    unfolding either
    tally-low = go (masked mask o) picked
      where
        go : (t : Bool) → l ≡ either t w 0 → l ≤ 256
        go true e = omega (arith, small o low)
        go false e = omega arith

    pub tally-inside : l < length losers
    tally-inside = omega (arith, so.size, tally-low)

    pub tally-turn : Tallied b mask (set losers l 1) start (any + l) (o + 1)
    unfolding either
    tally-turn = record { size = length-set losers l 1 ∙ so.size; sum = omega (arith, so.sum, tally-low); notes = λ k h j m p. go k h j m p (eqb k o) refl }
      where
        go : (k : ℕ) → start ≤ k → k < o + 1 → masked mask k ≡ true → 0 < owner_of b k → (t : Bool) → eqb k o ≡ t → (masked (set losers l 1) (owner_of b k) ≡ true) × (0 < any + l)
        go k h j m p true e =
            let i : k ≡ o = eqb-true k o e in
            let taken : masked mask o ≡ true = ap (masked mask) (sym i) ∙ m in
            let number : l ≡ owner_of b o = picked ∙ ap (λ (t : Bool). either t w 0) taken ∙ is in
            let same : owner_of b k ≡ l = ap (owner_of b) i ∙ sym number in
            (ap (masked (set losers l 1)) same ∙ note_here losers l tally-inside, omega arith)
        go k h j m p false e =
            let n : k ≡ o → ⊥ = eqb-false k o e in
            let before = so.notes k h (omega arith) m p in
            (note_stays losers l (owner_of b k) tally-inside before.0, omega (arith, before.1))

  pub tally-end : (losers : List ℕ) (any o end : ℕ) → end ≤ o → Tallied b mask losers start any o → Noting b mask losers start end (not (eqb any 0))
  tally-end losers any o end h so = record {
    size = so.size;
    notes = λ k i j m p. let a = so.notes k i (omega arith) m p in (a.0, ap not (ne_eqb any 0 (λ e. omega (arith, a.1))));
  }
