-- A line's numbers are found in the buffer that they were stored in: those that it has, and 0 behind them. Assumes nothing.
use mathlib.Core.Path.{◌≡◌, refl, sym, ap, ◌∙◌}
use mathlib.Core.List.{List, [], ◌∷◌}
use Prim.Native.Nat.{ℕ, zero, suc, ◌≤◌}
use native.Mathlib.Omega.{arith}
use lib.ListN.{length, get_or, take, replicate, length-replicate}
use lib.Seq.{length-take-le}
use Rattle.model.specs.Lists.{store}
use Rattle.octets.proofs.Stores.{take-store, store_all}
use Rattle.std.specs.Prelude.{Some}
use Rattle.lines.specs.Script.{line_of, numbers_of}
use Rattle.lines.specs.Reading.{line_answer}
use Rattle.lines.specs.declared.read.Call.{Call}
use Rattle.lines.proofs.Lines.{answered}
use Rattle.listing.specs.Session.{device_of}

-- the numbers that were stored
pub stored-numbers : (m count : ℕ) (ns : List ℕ) → count ≡ length ns → count ≤ m → take count (store (replicate m 0) 0 ns) ≡ ns
stored-numbers m count ns e h =
    take-store count (replicate m 0) 0 ns
    ∙ store_all (take count (replicate m 0)) ns (sym (length-take-le count (replicate m 0) (omega (arith, length-replicate {A = ℕ} m 0)) ∙ e))

zeros : (m k : ℕ) → ◌≡◌ {A = ℕ} (get_or (replicate m 0) k 0) 0
zeros zero k = refl
zeros (suc m) zero = refl
zeros (suc m) (suc k) = zeros m k

-- number k, 0 where there is none
pub stored-number : (m : ℕ) (ns : List ℕ) (k : ℕ) → length ns ≤ m → get_or (store (replicate m 0) 0 ns) k 0 ≡ get_or ns k 0
unfolding store
stored-number zero [] k h = refl
stored-number zero (v ∷ ns) k h = absurd (omega arith)
stored-number (suc m) [] zero h = refl
stored-number (suc m) [] (suc k) h = zeros m k
stored-number (suc m) (v ∷ ns) zero h = refl
stored-number (suc m) (v ∷ ns) (suc k) h = stored-number m ns k (omega arith)

-- the device that a format's are
pub stored-device : (m : ℕ) (ns : List ℕ) → length ns ≤ m → device_of (store (replicate m 0) 0 ns) ≡ device_of ns
stored-device m ns h = rw (stored-number m ns 0 h, stored-number m ns 1 h, stored-number m ns 2 h, stored-number m ns 3 h)

-- what stands in the buffer behind the reading of a call
module _ (l buffer : List ℕ) (a : Call) (e : Some a ≡ line_answer (line_of l)) (stored : buffer ≡ store (replicate 64 0) 0 (numbers_of (line_of l))) where
  -- its numbers
  pub front-is : take a.count buffer ≡ numbers_of (line_of l)
  front-is =
      let k = answered l a e in
      ap (take a.count) stored ∙ stored-numbers 64 a.count (numbers_of (line_of l)) k.count k.few

  -- number k of them
  pub number-is : (k : ℕ) → get_or buffer k 0 ≡ get_or (numbers_of (line_of l)) k 0
  number-is k =
      let m = answered l a e in
      ap (λ (s : List ℕ). get_or s k 0) stored ∙ stored-number 64 (numbers_of (line_of l)) k (omega (arith, m.few, m.count))

  -- a format's device
  pub device-is : device_of buffer ≡ device_of (numbers_of (line_of l))
  device-is =
      let k = answered l a e in
      ap (λ (s : List ℕ). device_of s) stored ∙ stored-device 64 (numbers_of (line_of l)) (omega (arith, k.few, k.count))
