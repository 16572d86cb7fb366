-- A lookup by its forecast: the number says the levels, and whether a record holds the page, and the page that it predicts, if that exists.
-- Assumes nothing.
use mathlib.Core.Path.{◌≡◌, refl, sym, ap, ◌∙◌}
use mathlib.Core.List.{List}
use mathlib.Core.Option.{Option, none, some}
use mathlib.Core.Bool.{Bool, true, false, true≢false}
use Prim.Native.Nat.{ℕ, ◌+◌, ◌-◌, ◌*◌, ◌/◌, ◌%◌, ◌≤◌, ◌<◌}
use native.Mathlib.Omega.{arith}
use lib.Dec.{ltb, eqb}
use lib.ListN.{get_or}
use borrow.Author.Tests.{ltb-true, ltb-false, eqb-true, eqb-false}
use Rattle.model.specs.Device.{Device, pages, group_of, offset_of}
use Rattle.model.specs.Record.{Record, kind, rise, predict}
use Rattle.model.specs.Spare.{page_named}
use Rattle.model.specs.Levels.{listing, holder, levels_to}
use Rattle.model.specs.Marks.{is_marked}
use Rattle.model.specs.State.{State, group_at}
use Rattle.calls.specs.Refusals.{not_named}
use Rattle.calls.specs.Outcome.{found, not_written, refused}
use Rattle.calls.specs.Lookup.{Looked, at, nowhere, unnamed, looked_at, looked_by, descend, seek, answer_of}
use Rattle.calls.specs.Agreement.{is_named}
use Rattle.calls.proofs.Marked.{seek-marked, seek_unmarked}
use Rattle.calls.proofs.Refusing.{none_some}
use Rattle.record.specs.Read.{existing}
use Rattle.forecast.specs.Forecast.{level_unit, page_zero, near, page_forecast, forecast, Forecasts}
use Rattle.forecast.proofs.Nearing.{near_most, near_some, near-low, near_far, near_there}
use Rattle.state.specs.Telling.{Tells, plainly, MarkedOut}
use Rattle.state.proofs.Seeking.{no_page_lem, page_named_lem, page-unnamed, page-plain}

module _ (d : Device) (spare : List ℕ) (x f : ℕ) where
  -- a record holds the page, or none does
  record Held (a : Looked) : Type 0 where
    pub record' : Record
    pub looked : a ≡ looked_at d spare x (f / level_unit) (predict record' (offset_of x))
    pub number : f % level_unit ≡ near record'.intercept + rise (kind record') (offset_of x)
    pub small : rise (kind record') (offset_of x) < 1024

  module _ (a : Looked) (t : Tells d spare x a f) where
    pub none_held : f % level_unit ≡ 0 → a ≡ nowhere (f / level_unit)
    unfolding looked_by page_forecast
    none_held z = go t.held refl
      where
        go : (h : Option Record) → t.held ≡ h → a ≡ nowhere (f / level_unit)
        go none e =
            let n : f ≡ t.levels * level_unit + 0 = rw e at t.number in
            let l : a ≡ nowhere t.levels = rw e at t.looked in
            l ∙ ap nowhere (let q : t.levels ≡ f / level_unit = omega (arith, n) in q)
        go (some r) e =
            let n : f ≡ t.levels * level_unit + (near r.intercept + rise (kind r) (offset_of x)) = rw e at t.number in
            absurd (omega (arith, n, near_some r.intercept, near_most r.intercept, t.small r e, z))

    some_held : (f % level_unit ≡ 0 → ⊥) → Held a
    unfolding looked_by page_forecast
    some_held z = go t.held refl
      where
        go : (h : Option Record) → t.held ≡ h → Held a
        go none e =
            let n : f ≡ t.levels * level_unit + 0 = rw e at t.number in
            absurd (z (let q : f % level_unit ≡ 0 = omega (arith, n) in q))
        go (some r) e =
            let n : f ≡ t.levels * level_unit + (near r.intercept + rise (kind r) (offset_of x)) = rw e at t.number in
            let b : f / level_unit ≡ t.levels = omega (arith, n, near_most r.intercept, t.small r e) in
            let l : a ≡ looked_at d spare x t.levels (predict r (offset_of x)) = rw e at t.looked in
            record { record' = r; looked = rw b l; number = omega (arith, n, near_most r.intercept, t.small r e); small = t.small r e }

  -- the answer, by the page's number
  module _ (few : pages d ≤ 1048576) (a : Looked) (t : Tells d spare x a f) where
    pub told_none : f % level_unit ≡ 0 → not_written (f / level_unit) ≡ answer_of a
    unfolding answer_of
    told_none z = ap answer_of (sym (none_held a t z))

    module _ (more : f % level_unit ≡ 0 → ⊥) where
      h : Held a
      h = some_held a t more

      outside : none ≡ existing (pages d) (predict h.record' (offset_of x)) → refused not_named ≡ answer_of a
      outside e = no_page_lem d spare x (f / level_unit) _ e ∙ ap answer_of (sym h.looked)

      pub told-low : f % level_unit < page_zero → refused not_named ≡ answer_of a
      unfolding predict
      told-low l = outside (sym (near-low (rise (kind h.record') (offset_of x)) (pages d) h.small few h.record'.intercept (omega (arith, l, h.number))))

      module _ (l : page_zero ≤ f % level_unit) where
        pub told_far : pages d ≤ f % level_unit - page_zero → refused not_named ≡ answer_of a
        unfolding predict
        told_far k = outside (sym (near_far (rise (kind h.record') (offset_of x)) (pages d) h.small few h.record'.intercept (omega (arith, l, h.number)) (omega (arith, k, h.number))))

        module _ (k : f % level_unit - page_zero < pages d) where
          there : some (f % level_unit - page_zero) ≡ existing (pages d) (predict h.record' (offset_of x))
          unfolding predict
          there =
              let n : f % level_unit - page_zero ≡ near h.record'.intercept + rise (kind h.record') (offset_of x) - page_zero = omega (arith, h.number) in
              rw n (sym (near_there (rise (kind h.record') (offset_of x)) (pages d) h.small few h.record'.intercept (omega (arith, l, h.number)) (omega (arith, k, h.number))))

          pub told-unnamed : none ≡ page_named d spare (f % level_unit - page_zero) x → refused not_named ≡ answer_of a
          told-unnamed e = page-unnamed d spare x (f / level_unit) _ _ there e ∙ ap answer_of (sym h.looked)

          pub told-found : (p : ℕ) → some p ≡ page_named d spare (f % level_unit - page_zero) x → found p (f % level_unit - page_zero) (f / level_unit) ≡ answer_of a
          told-found p e = page_named_lem d spare x (f / level_unit) _ _ p there e ∙ ap answer_of (sym h.looked)

          pub told-plainly : some (f % level_unit - page_zero) ≡ page_named d spare (f % level_unit - page_zero) x → a ≡ plainly f
          told-plainly e = h.looked ∙ sym (page-plain d spare x (f / level_unit) _ _ there e)

-- the forecast that a lookup has which doesn't refuse 7
unfoldable pub number_of : Looked → ℕ
number_of (at p q n) = n * level_unit + (page_zero + q)
number_of (nowhere n) = n * level_unit
number_of unnamed = 0

not_seven : (a : Looked) → is_named a ≡ true → refused not_named ≡ answer_of a → ⊥
unfolding is_named answer_of
not_seven (at p q n) e r = let z : ◌≡◌ {A = ℕ} 0 1 = cc in omega arith
not_seven (nowhere n) e r = let z : ◌≡◌ {A = ℕ} 0 1 = cc in omega arith
not_seven unnamed e r = true≢false (sym e)

found_at : (a : Looked) (p q n : ℕ) → found p q n ≡ answer_of a → a ≡ at p q n
unfolding answer_of
found_at (at p' q' n') p q n e = cc
found_at (nowhere m) p q n e = let z : ◌≡◌ {A = ℕ} 0 1 = cc in absurd (omega arith)
found_at unnamed p q n e = let z : ◌≡◌ {A = ℕ} 0 1 = cc in absurd (omega arith)

pub told-number : (d : Device) (spare : List ℕ) (x f : ℕ) → pages d ≤ 1048576 → (a : Looked) → Tells d spare x a f → is_named a ≡ true → f ≡ number_of a
unfolding number_of
told-number d spare x f few a t named = go (eqb (f % level_unit) 0) refl (ltb (f % level_unit) page_zero) refl (ltb (f % level_unit - page_zero) (pages d)) refl
  where
    go : (u : Bool) → eqb (f % level_unit) 0 ≡ u → (v : Bool) → ltb (f % level_unit) page_zero ≡ v → (w : Bool) → ltb (f % level_unit - page_zero) (pages d) ≡ w → f ≡ number_of a
    go true e v g w h =
        let z : f % level_unit ≡ 0 = eqb-true _ _ e in
        rw (none_held d spare x f a t z) (omega (arith, z))
    go false e true g w h = absurd (not_seven a named (told-low d spare x f few a t (eqb-false _ _ e) (ltb-true _ _ g)))
    go false e false g false h = absurd (not_seven a named (told_far d spare x f few a t (eqb-false _ _ e) (ltb-false _ _ g) (ltb-false _ _ h)))
    go false e false g true h = by (page_named d spare (f % level_unit - page_zero) x) refl
      where
        by : (o : Option ℕ) → page_named d spare (f % level_unit - page_zero) x ≡ o → f ≡ number_of a
        by none q = absurd (not_seven a named (told-unnamed d spare x f few a t (eqb-false _ _ e) (ltb-false _ _ g) (ltb-true _ _ h) (sym q)))
        by (some p) q =
            let more : page_zero ≤ f % level_unit = ltb-false _ _ g in
            rw (found_at a p (f % level_unit - page_zero) (f / level_unit) (told-found d spare x f few a t (eqb-false _ _ e) more (ltb-true _ _ h) p (sym q))) (omega (arith, more))

-- A marked page's forecast is 0; another's is the group's.
module _ (s : State) (spare : List ℕ) (x f : ℕ) where
  marked_tells : is_marked s.marks x ≡ true → f ≡ 0 → Tells s.device spare x (seek s spare x) f
  unfolding looked_by page_forecast
  marked_tells e z = record { levels = 0; held = none; looked = seek-marked s spare x e; number = z; small = λ r h. none_some h }

  unmarked_tells : is_marked s.marks x ≡ false → f ≡ forecast (group_at s (group_of x)) (offset_of x)
      → ((r : Record) → holder (offset_of x) (listing (group_at s (group_of x))) ≡ some r → rise (kind r) (offset_of x) < 1024) → Tells s.device spare x (seek s spare x) f
  unfolding descend forecast
  unmarked_tells e n low = record {
    levels = levels_to (offset_of x) (group_at s (group_of x));
    held = holder (offset_of x) (listing (group_at s (group_of x)));
    looked = seek_unmarked s spare x e;
    number = n;
    small = low;
  }

-- The forecasts of the group that holds the logical pages from x on, with 0 for each marked one, are those of their lookups.
module _ (d : Device) (s : State) (x m : ℕ) (numbers : s.device ≡ d) (first : x % 256 ≡ 0) (few : m ≤ 256) (l k : List ℕ)
    (told : Forecasts (group_at s (group_of x)) l) (out : MarkedOut s.marks x m l k) (spare : List ℕ) where
  pub tells_page : (o : ℕ) → o < m → Tells d spare (x + o) (seek s spare (x + o)) (get_or k o 0)
  tells_page o h = rw (← numbers) (go (is_marked s.marks (x + o)) refl)
    where
      place : group_of (x + o) ≡ group_of x
      place = omega (arith, first)

      offset : offset_of (x + o) ≡ o
      offset = omega (arith, first)

      go : (t : Bool) → is_marked s.marks (x + o) ≡ t → Tells s.device spare (x + o) (seek s spare (x + o)) (get_or k o 0)
      go true e = marked_tells s spare (x + o) (get_or k o 0) e (out.marked o h e)
      go false e = unmarked_tells s spare (x + o) (get_or k o 0) e (rw (place, offset) (out.kept o h e ∙ told.each o (omega arith))) (rw (place, offset) (told.small o (omega arith)))
