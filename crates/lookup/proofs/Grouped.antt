-- The logical pages of one group compared by their forecasts: those that no list has are settled; forecasts that differ belong to lookups that
-- aren't alike; a state compared with itself tells whether a lookup refuses 7. Assumes nothing.
use mathlib.Core.Path.{◌≡◌, refl, sym, ap, ◌∙◌}
use mathlib.Core.List.{List}
use mathlib.Core.Logic.{◌⊎◌, inl, inr}
use mathlib.Core.Bool.{Bool, true, false, true≢false, ◌&&◌}
use Prim.Native.Nat.{ℕ, ◌+◌, ◌%◌, ◌≤◌, ◌<◌}
use native.Mathlib.Omega.{arith}
use lib.Dec.{eqb}
use lib.ListN.{get_or}
use borrow.Author.Tests.{eqb-true}
use Rattle.model.specs.Device.{Device, pages}
use Rattle.model.proofs.Bools.{and_l, and_r, is_false}
use Rattle.calls.specs.Refusals.{Refusal, not_named}
use Rattle.calls.specs.Outcome.{agreed, refused}
use Rattle.calls.specs.Lookup.{Looked, at, nowhere, unnamed}
use Rattle.calls.specs.Agreement.{each_below, is_named, found_so, missed_so, alike}
use Rattle.calls.proofs.Agreeing.{each_below_lem}
use Rattle.calls.proofs.Alike.{below_each}
use Rattle.forecast.specs.Forecast.{level_unit}
use Rattle.state.proofs.Telling.{none_held, number_of, told-number}
use Rattle.lookup.specs.Agreeing.{compared_from, ToldFrom, Listed, Picked, Settled, Left}
use Rattle.lookup.specs.Passes.{Differ}
use Rattle.lookup.proofs.Each.{each_not}
use Rattle.lookup.proofs.Told.{alike_from, alike_self}

module _ (d e : Device) (spare spare' : List ℕ) (p q : ℕ → Looked) (x m : ℕ) (l : List ℕ) (tp : ToldFrom d spare p x m l) (tq : ToldFrom e spare' q x m l) where
  -- where no record holds the page, it is 'not written' in both
  unheld : (o : ℕ) → o < m → get_or l o 0 % level_unit ≡ 0 → Settled (p (x + o)) (q (x + o))
  unfolding is_named
  unheld o h z =
      let a = none_held d spare (x + o) (get_or l o 0) (p (x + o)) (tp o h) z in
      record { same = a ∙ sym (none_held e spare' (x + o) (get_or l o 0) (q (x + o)) (tq o h) z); named = ap is_named a }

  module _ (held : List ℕ) (end : ℕ) (first : Picked (λ o. get_or l o 0 % level_unit ≡ 0) (λ j. j) m held end) where
    pub held_low : (i : ℕ) → i < end → get_or held i 0 < m
    held_low i h = let f = first.from i h in omega (arith, f.0, f.1)

    pub all_left : (astray : List ℕ) (n : ℕ) → Picked (λ o. Settled (p (x + o)) (q (x + o))) (λ j. get_or held j 0) end astray n → Left p q x m astray n
    all_left astray n second = record {
      low = λ i h. let f = second.from i h in omega (arith, f.1, held_low (second.source i) f.0);
      rest = λ o h. go o h (first.rest o h);
    }
      where
        go : (o : ℕ) → o < m → (get_or l o 0 % level_unit ≡ 0) ⊎ Listed held end o → Settled (p (x + o)) (q (x + o)) ⊎ Listed astray n o
        go o h (inl z) = inl (unheld o h z)
        go o h (inr y) = rw y.is at (second.rest y.place y.inside)

-- two lookups that are alike have the same forecast
alike-number : (a b : Looked) → alike a b ≡ true → number_of a ≡ number_of b
unfolding alike found_so missed_so number_of
alike-number (at p q n) (at p' q' n') e =
    let c : q ≡ q' = eqb-true q q' (and_r (eqb p p') _ (and_l (eqb p p' && eqb q q') _ e)) in
    let f : n ≡ n' = eqb-true n n' (and_r (eqb p p' && eqb q q') _ e) in
    rw (c, f)
alike-number (at p q n) (nowhere n') e = absurd (true≢false (sym e))
alike-number (at p q n) unnamed e = absurd (true≢false (sym e))
alike-number (nowhere n) (at p' q' n') e = absurd (true≢false (sym e))
alike-number (nowhere n) (nowhere n') e = let f : n ≡ n' = eqb-true n n' e in rw f
alike-number (nowhere n) unnamed e = absurd (true≢false (sym e))
alike-number unnamed b e = absurd (true≢false (sym e))

-- a state compared with itself: all named, or 7
module _ (p : ℕ → Looked) (x m : ℕ) where
  abbrev named : Bool
  named = each_below m (λ o. is_named (p (x + o)))

  self_named : named ≡ true → agreed true ≡ compared_from p p x m
  unfolding compared_from
  self_named e = rw (e, each_below_lem m (alike_from p p x m) (λ o h. alike_self (p (x + o)) (below_each m (λ y. is_named (p (x + y))) e o h)), compared_from)

  self_unnamed : named ≡ false → (q : ℕ → Looked) → refused not_named ≡ compared_from p q x m
  unfolding compared_from
  self_unnamed e q = rw (e, compared_from)

  pub self_answers : (t : Bool) → agreed t ≡ compared_from p p x m → named ≡ true
  self_answers t y = go named refl
    where
      go : (u : Bool) → named ≡ u → named ≡ true
      go true f = f
      go false f = let z : refused not_named ≡ agreed t = self_unnamed f p ∙ sym y in let w : ◌≡◌ {A = ℕ} 0 1 = cc in absurd (omega arith)

  pub self_refuses : (r : Refusal) → refused r ≡ compared_from p p x m → (refused r ≡ refused not_named) × (named ≡ false)
  self_refuses r y = go named refl
    where
      go : (u : Bool) → named ≡ u → (refused r ≡ refused not_named) × (named ≡ false)
      go true f = let z : refused r ≡ agreed true = y ∙ sym (self_named f) in let w : ◌≡◌ {A = ℕ} 0 1 = cc in absurd (omega arith)
      go false f = (y ∙ sym (self_unnamed f p), f)

  pub first_seven : named ≡ false → (q : ℕ → Looked) → refused not_named ≡ compared_from p q x m
  first_seven e q = self_unnamed e q

  pub second_seven : named ≡ false → (q : ℕ → Looked) → refused not_named ≡ compared_from q p x m
  unfolding compared_from
  second_seven e q = go (each_below m (λ o. is_named (q (x + o)))) refl
    where
      go : (t : Bool) → each_below m (λ o. is_named (q (x + o))) ≡ t → refused not_named ≡ compared_from q p x m
      go true f = rw (f, e, compared_from)
      go false f = rw (f, compared_from)

-- forecasts that differ
module _ (d e : Device) (few : pages d ≤ 1048576) (few' : pages e ≤ 1048576) (spare spare' : List ℕ) (p q : ℕ → Looked) (x m : ℕ) (l k : List ℕ)
    (tp : ToldFrom d spare p x m l) (tq : ToldFrom e spare' q x m k) where
  pub differ_no : each_below m (λ o. is_named (p (x + o))) ≡ true → each_below m (λ o. is_named (q (x + o))) ≡ true → Differ l k m → agreed false ≡ compared_from p q x m
  unfolding compared_from
  differ_no f g apart = rw (f, g, each_not m apart.place (alike_from p q x m) apart.inside unlike, compared_from)
    where
      unlike : alike_from p q x m apart.place ≡ false
      unlike = is_false _ (λ y. apart.apart (
          told-number d spare _ _ few _ (tp apart.place apart.inside) (below_each m (λ o. is_named (p (x + o))) f apart.place apart.inside)
          ∙ alike-number _ _ y
          ∙ sym (told-number e spare' _ _ few' _ (tq apart.place apart.inside) (below_each m (λ o. is_named (q (x + o))) g apart.place apart.inside))))
