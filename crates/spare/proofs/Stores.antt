-- A part of a list that was written is a store in the list. Assumes nothing.
use mathlib.Core.Path.{◌≡◌, refl, ap, ◌∙◌}
use mathlib.Core.List.{List}
use Prim.Native.Nat.{ℕ, ◌+◌, ◌*◌, ◌-◌, ◌≤◌}
use native.Mathlib.Omega.{arith}
use borrow.Rule.Slice.PartMut.{put_mid}
use lib.ListN.{length, replicate, take, drop, length-drop, length-replicate}
use lib.Seq.{length-take-le}
use Rattle.model.specs.Lists.{store}
use Rattle.model.specs.Device.{Device, entries_per_block}
use Rattle.model.specs.Spare.{nobody, erase}
use Rattle.octets.proofs.Stores.{lent_back}

-- what stands in a list where m elements from place `at` on were filled through a part of it
pub part_filled : (s t : List ℕ) (at m v : ℕ) → at + m ≤ length s → t ≡ replicate (length (take (at + m - at) (drop at s))) v
    → put_mid at (at + m - at) s t ≡ store s at (replicate m v)
part_filled s t at m v h e =
    let n : at + m - at ≡ m = omega arith in
    let part : length (take (at + m - at) (drop at s)) ≡ m = rw n (length-take-le m (drop at s) (rw (length-drop at s) (omega arith))) in
    let is : t ≡ replicate m v = e ∙ rw part refl in
    let long : length t ≡ at + m - at = rw is (length-replicate m v ∙ omega arith) in
    lent_back (at + m - at) at s t long (omega arith) ∙ ap (store s at) is

-- an erase fills the entries of block k, n to a block
pub erase-fill : (d : Device) (k : ℕ) (s : List ℕ) (n : ℕ) → n ≡ entries_per_block d → store s (k * n) (replicate n nobody) ≡ erase d k s
unfolding erase
erase-fill d k s n e = rw e refl
