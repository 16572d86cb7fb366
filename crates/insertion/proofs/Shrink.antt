-- Shrinking looks at a test for the offsets below 256 only, as a table of them holds it. Assumes nothing.
use mathlib.Core.Path.{◌≡◌, refl, sym, ◌∙◌, ap}
use mathlib.Core.List.{List, ◌∷◌}
use mathlib.Core.Bool.{Bool, true, false, not, ◌&&◌}
use Prim.Native.Nat.{ℕ, zero, suc, ◌+◌, ◌≤◌, ◌<◌}
use native.Mathlib.Omega.{arith}
use Rattle.model.specs.Lists.{select}
use Rattle.model.specs.Record.{Record, member}
use Rattle.model.specs.Levels.{shrunk_to_any, shrink}

select_same : (t u : ℕ → Bool) (n x : ℕ) → ((o : ℕ) → x ≤ o → o < x + n → t o ≡ u o) → select t n x ≡ select u n x
unfolding select
select_same t u zero x h = refl
select_same t u (suc n) x h =
    go (t x) refl (h x (omega arith) (omega arith)) (select_same t u n (suc x) (λ (o : ℕ) (a : suc x ≤ o) (b : o < suc x + n). h o (omega arith) (omega arith)))
  where
    go : (c : Bool) → t x ≡ c → t x ≡ u x → select t n (suc x) ≡ select u n (suc x) → select t (suc n) x ≡ select u (suc n) x
    go true p e ih =
        let q : u x ≡ true = sym e ∙ p in
        rw (p, q, select) (ap (λ (l : List ℕ). x ∷ l) ih)
    go false p e ih =
        let q : u x ≡ false = sym e ∙ p in
        rw (p, q, select) ih

-- Tests that agree below 256 leave the same of a record.
pub shrink_same : (t u : ℕ → Bool) (r : Record) → ((o : ℕ) → o < 256 → t o ≡ u o) → shrink t r ≡ shrink u r
unfolding shrink
shrink_same t u r h =
    ap (shrunk_to_any r) (select_same (λ o. member r o && not (t o)) (λ o. member r o && not (u o)) 256 0 (λ (o : ℕ) (a : 0 ≤ o) (b : o < 0 + 256). ap (λ (c : Bool). member r o && not c) (h o (omega arith))))
