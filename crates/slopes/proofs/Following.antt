-- 32 slopes are followed from line to line, until none of them takes the next page. Assumes nothing.
use mathlib.Core.Path.{◌≡◌, sym, ◌∙◌}
use mathlib.Core.List.{List}
use mathlib.Core.Bool.{Bool, true, false}
use Prim.Native.Nat.{ℕ, ◌+◌, ◌-◌, ◌≤◌, ◌<◌}
use native.Mathlib.Omega.{arith}
use lib.Dec.{leb}
use lib.ListN.{get_or}
use Rattle.slopes.specs.Slopes.{takes, longest_of, some_of, Small, NarrowedBy, Windows, Line}
use Rattle.slopes.specs.declared.windows.Sought.{Sought}
use Rattle.slopes.proofs.LineWindows.{window-line}
use Rattle.slopes.proofs.WindowReach.{takes_one}
use Rattle.slopes.proofs.Narrowing.{windows_small, windows_by}
use Rattle.slopes.proofs.SomeOf.{some_here}
use Rattle.slopes.proofs.SlopesLeft.{left-takes}
use Rattle.slopes.proofs.LongestOf.{longest_is}

-- one of the slopes from a on takes the pages from the sought place to place q
abbrev pub one_takes : Sought → ℕ → ℕ → Bool
one_takes s a q = some_of (λ k. takes s.g s.written.now (a + k) s.place (q - s.place)) 32

-- one takes all pages before place q, and l and h are what suits them
pub record Followed (s : Sought) (a q : ℕ) (l h : List ℕ) : Type 0 where
  pub past : s.place < q
  pub to : q ≤ s.end
  pub suits : Windows s.g s.written.now a s.place (q - 1 - s.place) l h
  pub one : one_takes s a (q - 1) ≡ true

-- a place is a line by itself
pub line_one : (w : List ℕ) (q : ℕ) → Line w q q
line_one w q = record { low = omega arith; steps = λ j x y. let e : j ≡ q = omega arith in rw e }

module _ (s : Sought) (a : ℕ) (low : a ≤ 224) where
  abbrev w : List ℕ
  w = s.written.now

  pub followed_start : (l h : List ℕ) → Windows s.g w a s.place 0 l h → Followed s a (s.place + 1) l h
  followed_start l h first =
      let z : s.place + 1 - 1 - s.place ≡ 0 = omega arith in
      record {
        past = omega arith;
        to = omega (arith, s.seeking.inside);
        suits = rw z first;
        one = rw z (some_here _ 32 0 (omega arith) (takes_one s.g w (a + 0) s.place (omega (arith, s.seeking.inside, s.seeking.end))));
      }

  module _ (q : ℕ) (l h : List ℕ) (here : Followed s a q l h) where
    pub followed_small : Small l × Small h
    followed_small = windows_small s.g w a s.place low _ l h s.seeking.size (omega (arith, here.past, here.to, s.seeking.end, s.seeking.size)) here.suits

    -- none takes the page at place q
    pub followed_stops : q < s.end → one_takes s a q ≡ false → q ≡ s.place + longest_of s.g w s.place a 31
    followed_stops inside none =
        let z : q - 1 - s.place ≡ q - s.place - 1 = omega arith in
        omega (arith, longest_is s a (q - s.place) low (omega (arith, here.past)) (omega (arith, here.past)) (rw z at here.one) (λ i. none), here.past)

    pub followed_ends : s.end ≤ q → q ≡ s.place + longest_of s.g w s.place a 31
    followed_ends end =
        let z : q - 1 - s.place ≡ q - s.place - 1 = omega arith in
        omega (arith, longest_is s a (q - s.place) low (omega (arith, here.past)) (omega (arith, here.past, here.to)) (rw z at here.one) (λ i. absurd (omega (arith, here.past))), here.past)

    -- the line from place q to place e
    module _ (e : ℕ) (line : Line w q e) (inside : e < s.end) (l' h' : List ℕ) (by : NarrowedBy s.g w a e l h l' h') (r : Bool)
        (left : r ≡ some_of (λ k. leb (get_or l' k 0) (get_or h' k 0)) 32) where
      next : Windows s.g w a s.place (e - s.place) l' h'
      next = windows_by s.g w a s.place low (q - 1 - s.place) (e - s.place) e l h l' h' (λ b m. window-line s b q e m here.past inside line) here.suits by

      line-takes : r ≡ one_takes s a e
      line-takes = left-takes s.g w a s.place (e - s.place) l' h' r next left

      pub line_none : r ≡ false → one_takes s a e ≡ false
      line_none t = sym line-takes ∙ t

      pub followed_on : r ≡ true → Followed s a (e + 1) l' h'
      followed_on t =
          let z : e + 1 - 1 ≡ e = omega arith in
          record { past = omega (arith, here.past, line.low); to = omega arith; suits = rw z next; one = rw z (sym line-takes ∙ t) }
