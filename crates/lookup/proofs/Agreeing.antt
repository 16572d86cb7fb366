-- The ways in which an agreement ends: its refusals in order, and its answer, group after group where N is equal.
-- Assumes nothing.
use mathlib.Core.Path.{◌≡◌, refl, sym, ap, ◌∙◌}
use mathlib.Core.List.{List, ◌++◌}
use mathlib.Core.Option.{none, some}
use mathlib.Core.Bool.{Bool, true, false, ◌&&◌, true≢false}
use Prim.Native.Nat.{ℕ, ◌+◌, ◌-◌, ◌≤◌}
use native.Mathlib.Omega.{arith}
use lib.Dec.{eqb}
use borrow.Author.Tests.{eq-eqb, ne_eqb, not-false}
use Rattle.std.proofs.Math.Bool.{and_comm}
use Rattle.model.specs.Device.{Device, group_of}
use Rattle.model.specs.State.{State, group_at}
use Rattle.model.specs.Sound.{sound_group, sound_state}
use Rattle.model.proofs.Bools.{is_false, and_r}
use Rattle.calls.specs.Refusals.{Refusal, not_sound, not_named, first_refusal, opening_with}
use Rattle.calls.specs.Outcome.{Answer, agreed, refused}
use Rattle.calls.specs.Lookup.{seek}
use Rattle.calls.specs.Agreement.{each_below, is_named, alike, sound_checks, all_named, agree_checks, agrees, agree_done}
use Rattle.calls.specs.History.{agree_call, lend, lent_to, checks_of, effect}
use Rattle.calls.proofs.Refusing.{front-refuses, others_decide, refuses_at, clears, is_clear}
use Rattle.state.specs.Shaped.{Passed}
use Rattle.state.specs.Ran.{device_slices, Ran}
use Rattle.state.proofs.Refusing.{ran-refused, ran-accepted, opened_with_lem}
use Rattle.state.proofs.Handing.{sound_at}
use Rattle.lookup.specs.Agreeing.{compared, compared_from}
use Rattle.lookup.proofs.Each.{each_join}

-- the refusals of a state with its spare area, and its lookups
module _ (s : State) (spare : List ℕ) where
  abbrev pub named_at : ℕ → Bool
  named_at x = is_named (seek s spare x)

  -- it is opened, and sound or not
  module _ (e : first_refusal (opening_with s spare) ≡ none) where
    pub check_unsound : sound_state s ≡ false → first_refusal (sound_checks s spare) ≡ some not_sound
    check_unsound f = others_decide (opening_with s spare) _ e ∙ refuses_at 0 _ refl tt (rw f)

    pub check-clear : sound_state s ≡ true → first_refusal (sound_checks s spare) ≡ none
    check-clear f = others_decide (opening_with s spare) _ e ∙ is_clear _ (rw f, tt)

  pub clear-passed : (d : Device) → first_refusal (sound_checks s spare) ≡ none → s.device ≡ d → Passed d s spare
  clear-passed d e n =
      let p = clears (sound_checks s spare) e in
      let o = opened_with_lem s spare d (is_clear (opening_with s spare) (p.0, (p.1.0, (p.1.1.0, tt)))) n in
      record { shape = o.0; fits = o.1; sound = not-false _ p.1.1.1.0 }

-- a state that passed them
module _ (d : Device) (s : State) (spare : List ℕ) (h : Passed d s spare) where
  -- every group's forecasts can be made
  pub can_foretell : (x : ℕ) → sound_group d.N (group_of x) (group_at s (group_of x)) ≡ true
  can_foretell x = sound_at d s h.shape h.sound (group_of x)

  pub all_named_is : all_named s spare ≡ each_below d.N (named_at s spare)
  unfolding all_named
  all_named_is = ap (λ (e : Device). each_below e.N (named_at s spare)) h.shape.numbers

-- the two states
module _ (s : State) (spare : List ℕ) (s' : State) (spare' : List ℕ) where
  abbrev pub alike_at : ℕ → Bool
  alike_at x = alike (seek s spare x) (seek s' spare' x)

  -- what the m logical pages from x on come to
  abbrev pub from_here : ℕ → ℕ → Answer
  from_here x m = compared_from (seek s spare) (seek s' spare') x m

  -- The lookups of the logical pages before x: all are named, in both states, and `same` says whether they are alike.
  pub record Compared (x : ℕ) (same : Bool) : Type 0 where
    pub named : each_below x (named_at s spare) ≡ true
    pub named' : each_below x (named_at s' spare') ≡ true
    pub told : each_below x alike_at ≡ same

  -- m more of them
  module _ (x m : ℕ) where
    -- they come to 7, or each is named
    data Next : Answer → Type 0 where
      seven : (each_below (x + m) (named_at s spare) && each_below (x + m) (named_at s' spare')) ≡ false → Next (refused not_named)
      all : each_below m (λ o. named_at s spare (x + o)) ≡ true → each_below m (λ o. named_at s' spare' (x + o)) ≡ true → Next (agreed (each_below m (λ o. alike_at (x + o))))

    next : Next (from_here x m)
    unfolding compared_from
    next = go (each_below m (λ o. named_at s spare (x + o))) refl (each_below m (λ o. named_at s' spare' (x + o))) refl
      where
        go : (t : Bool) → each_below m (λ o. named_at s spare (x + o)) ≡ t → (u : Bool) → each_below m (λ o. named_at s' spare' (x + o)) ≡ u → Next (from_here x m)
        go true e true f = rw (e, f, compared_from) (all e f)
        go true e false f = rw (e, f, compared_from) (seven (rw (each_join x m (named_at s' spare'), f) (none (each_below (x + m) (named_at s spare)))))
          where
            none : (t : Bool) → (t && false) ≡ false
            none true = refl
            none false = refl
        go false e u f = rw (e, compared_from) (seven (rw (each_join x m (named_at s spare), e)))

    joined : (same t : Bool) → Compared x same → each_below m (λ o. named_at s spare (x + o)) ≡ true → each_below m (λ o. named_at s' spare' (x + o)) ≡ true
        → each_below m (λ o. alike_at (x + o)) ≡ t → Compared (x + m) (same && t)
    joined same t c e f q = record {
      named = rw (each_join x m (named_at s spare), e) c.named;
      named' = rw (each_join x m (named_at s' spare'), f) c.named';
      told = rw (each_join x m alike_at, q, c.told) (and_comm t same);
    }

    by_next : (a : Answer) → Next a → (same : Bool) → Compared x same → (t : Bool) → agreed t ≡ a → Compared (x + m) (same && t)
    by_next _ (seven n) same c t y = let z : ◌≡◌ {A = ℕ} 0 1 = cc in absurd (omega arith)
    by_next _ (all e f) same c t y = joined same t c e f (let z : each_below m (λ o. alike_at (x + o)) ≡ t = cc in z)

    pub more_told : (same : Bool) → Compared x same → (t : Bool) → agreed t ≡ from_here x m → Compared (x + m) (same && t)
    more_told same c t y = by_next (from_here x m) next same c t y

    -- they come to 7: so do all
    seven_next : (a : Answer) → Next a → (r : Refusal) → refused r ≡ a → (refused r ≡ refused not_named) × ((each_below (x + m) (named_at s spare) && each_below (x + m) (named_at s' spare')) ≡ false)
    seven_next _ (seven n) r y = (y, n)
    seven_next _ (all e f) r y = let z : ◌≡◌ {A = ℕ} 0 1 = cc in absurd (omega arith)

    pub more_refuses : (r : Refusal) → refused r ≡ from_here x m → (refused r ≡ refused not_named) × ((each_below (x + m) (named_at s spare) && each_below (x + m) (named_at s' spare')) ≡ false)
    more_refuses r y = seven_next (from_here x m) next r y

  -- behind the checks of both: 7, for either ..
  pub first_unnamed : all_named s spare ≡ false → refused not_named ≡ compared s spare s' spare'
  unfolding compared
  first_unnamed e = rw (e, compared)

  pub second-unnamed : all_named s' spare' ≡ false → refused not_named ≡ compared s spare s' spare'
  unfolding compared
  second-unnamed e = go (all_named s spare) refl
    where
      go : (t : Bool) → all_named s spare ≡ t → refused not_named ≡ compared s spare s' spare'
      go true q = rw (q, e, compared)
      go false q = first_unnamed q

  -- .. otherwise the answer: no where N differs, else what the lookups say
  module _ (d d' : Device) (h : Passed d s spare) (h' : Passed d' s' spare') where
    numbers_decide : agrees s spare s' spare' ≡ (eqb d.N d'.N && each_below d.N alike_at)
    unfolding agrees
    numbers_decide =
        ap (λ (e : Device). eqb e.N s'.device.N && each_below e.N alike_at) h.shape.numbers
        ∙ ap (λ (e : Device). eqb d.N e.N && each_below d.N alike_at) h'.shape.numbers

    answers : all_named s spare ≡ true → all_named s' spare' ≡ true → (t : Bool) → (eqb d.N d'.N && each_below d.N alike_at) ≡ t → agreed t ≡ compared s spare s' spare'
    unfolding compared
    answers e f t q = rw (e, f, compared) (ap agreed (sym q ∙ sym numbers_decide))

    pub other_numbers : all_named s spare ≡ true → all_named s' spare' ≡ true → (d.N ≡ d'.N → ⊥) → agreed false ≡ compared s spare s' spare'
    other_numbers e f q = answers e f false (rw (ne_eqb d.N d'.N q))

    module _ (q : d.N ≡ d'.N) where
      -- every page was compared
      pub all_compared : (x : ℕ) (same : Bool) → Compared x same → x ≡ d.N → (t : Bool) → same ≡ t → agreed t ≡ compared s spare s' spare'
      all_compared x same c l t e =
          answers (all_named_is d s spare h ∙ (rw l at c.named)) (all_named_is d' s' spare' h' ∙ (rw (l ∙ q) at c.named')) t
          (rw (eq-eqb d.N d'.N q, ← l) (c.told ∙ e))

      -- a page before y is not named, in one of them
      pub early-refuses : (y : ℕ) → y ≤ d.N → (each_below y (named_at s spare) && each_below y (named_at s' spare')) ≡ false → refused not_named ≡ compared s spare s' spare'
      early-refuses y low n = go (each_below y (named_at s spare)) refl n
        where
          behind : (f : ℕ → Bool) → each_below y f ≡ false → each_below d.N f ≡ false
          behind f e =
              let all : d.N ≡ y + (d.N - y) = omega arith in
              rw (all, each_join y (d.N - y) f, e) (is_false _ (λ z. true≢false (sym (and_r (each_below (d.N - y) (λ o. f (y + o))) false z))))

          go : (u : Bool) → each_below y (named_at s spare) ≡ u → (u && each_below y (named_at s' spare')) ≡ false → refused not_named ≡ compared s spare s' spare'
          go true e f = second-unnamed (all_named_is d' s' spare' h' ∙ (rw q at (behind (named_at s' spare') f)))
          go false e f = first_unnamed (all_named_is d s spare h ∙ behind (named_at s spare) e)

  -- agreement writes nothing: any state and spare area stay
  module _ (state other : List ℕ) where
    refuses : (r : Refusal) → first_refusal (agree_checks s spare s' spare') ≡ some r → Ran (agree_call s spare s' spare') state other (refused r) (device_slices state other)
    unfolding checks_of lent_to lend
    refuses r e = ran-refused (agree_call s spare s' spare') state other _ r e refl refl

    -- the refusals of the first state, then of the second
    pub first_refuses : (r : Refusal) → first_refusal (sound_checks s spare) ≡ some r → Ran (agree_call s spare s' spare') state other (refused r) (device_slices state other)
    unfolding agree_checks
    first_refuses r e = refuses r (front-refuses _ _ (front-refuses (sound_checks s spare) (sound_checks s' spare') e))

    module _ (e : first_refusal (sound_checks s spare) ≡ none) where
      pub second-refuses : (r : Refusal) → first_refusal (sound_checks s' spare') ≡ some r → Ran (agree_call s spare s' spare') state other (refused r) (device_slices state other)
      unfolding agree_checks
      second-refuses r f = refuses r (front-refuses _ _ (others_decide (sound_checks s spare) (sound_checks s' spare') e ∙ f))

      -- then what comparing gives
      pub ran-compared : first_refusal (sound_checks s' spare') ≡ none → (a : Answer) → a ≡ compared s spare s' spare' → Ran (agree_call s spare s' spare') state other a (device_slices state other)
      unfolding agree_checks compared checks_of lent_to lend effect agree_done
      ran-compared f a q = go (all_named s spare && all_named s' spare') refl
        where
          front : first_refusal (sound_checks s spare ++ sound_checks s' spare') ≡ none
          front = others_decide (sound_checks s spare) (sound_checks s' spare') e ∙ f

          go : (t : Bool) → (all_named s spare && all_named s' spare') ≡ t → Ran (agree_call s spare s' spare') state other a (device_slices state other)
          go true n = ran-accepted (agree_call s spare s' spare') state other a _ (others_decide _ _ front ∙ is_clear _ (rw n, tt)) (q ∙ rw (n, compared)) refl (λ _. refl)
          go false n =
              let z : a ≡ refused not_named = q ∙ rw (n, compared) in
              rw z (refuses not_named (others_decide _ _ front ∙ refuses_at 0 _ refl tt (rw n)))

-- a state compared with itself tells whether a lookup refuses 7
module _ (s : State) (spare : List ℕ) where
  self_is : (t : Bool) → all_named s spare ≡ t → compared s spare s spare ≡ elim t [ true ↦ agreed (agrees s spare s spare) | false ↦ refused not_named ]
  unfolding compared
  self_is true e = rw (e, compared)
  self_is false e = rw (e, compared)

  pub self_answers : (t : Bool) → agreed t ≡ compared s spare s spare → all_named s spare ≡ true
  self_answers t y = go (all_named s spare) refl
    where
      go : (u : Bool) → all_named s spare ≡ u → all_named s spare ≡ true
      go true e = e
      go false e = let z : agreed t ≡ refused not_named = y ∙ self_is false e in let w : ◌≡◌ {A = ℕ} 0 1 = cc in absurd (omega arith)

  pub self_refuses : (r : Refusal) → refused r ≡ compared s spare s spare → (refused r ≡ refused not_named) × (all_named s spare ≡ false)
  self_refuses r y = go (all_named s spare) refl
    where
      go : (u : Bool) → all_named s spare ≡ u → (refused r ≡ refused not_named) × (all_named s spare ≡ false)
      go true e = let z : refused r ≡ agreed (agrees s spare s spare) = y ∙ self_is true e in let w : ◌≡◌ {A = ℕ} 0 1 = cc in absurd (omega arith)
      go false e = (y ∙ self_is false e, e)
