-- The windows of 32 slopes over the pages that are counted. Assumes nothing.
use mathlib.Core.Path.{◌≡◌}
use mathlib.Core.List.{List}
use Prim.Native.Nat.{ℕ, ◌+◌, ◌≤◌}
use lib.ListN.{length}
use Rattle.slopes.specs.Slopes.{Windows}
use Rattle.slopes.specs.Counting.{SmallLow}
use Rattle.slopes.proofs.Narrowing.{window-small}

pub windows_at : (g : ℕ) (w : List ℕ) (a i m n : ℕ) (l h : List ℕ) → m ≡ n → Windows g w a i m l h → Windows g w a i n l h
windows_at g w a i m n l h e t = rw e at t

-- no least intercept is large
pub windows_low : (g : ℕ) (w : List ℕ) (a i m : ℕ) (l h : List ℕ) → length w ≤ 256 → i + m ≤ 255 → Windows g w a i m l h → SmallLow l
windows_low g w a i m l h few last t k b = rw (t k b).0 (window-small g w (a + k) i m few last).0
