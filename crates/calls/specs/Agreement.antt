-- Document 01, 'Operations': agreement; document 02, f: what it also wants. Assumes nothing.
use Rattle.std.specs.Prelude.{List, [], ◌∷◌, ◌++◌, Bool, true, false, not, ◌&&◌, ℕ, zero, suc, eqb}
use Rattle.model.specs.State.{State}
use Rattle.model.specs.Sound.{sound_state}
use Rattle.calls.specs.Refusals.{Check, ◌when◌, not_sound, not_named, opening_with}
use Rattle.calls.specs.Outcome.{Lent, agreed, Outcome}
use Rattle.calls.specs.Lookup.{Looked, at, nowhere, unnamed, seek}

-- every number below n passes the test
unfoldable pub each_below : ℕ → (ℕ → Bool) → Bool
each_below zero t = true
each_below (suc n) t = t n && each_below n t

unfoldable pub is_named : Looked → Bool
is_named (at p q n) = true
is_named (nowhere n) = true
is_named unnamed = false

-- a lookup gives this page, this predicted page and this count of levels
unfoldable pub found_so : (page predicted levels : ℕ) → Looked → Bool
found_so p q n (at p' q' n') = eqb p p' && eqb q q' && eqb n n'
found_so p q n (nowhere n') = false
found_so p q n unnamed = false

-- a lookup gives 'not written', which has no predicted page, and this count of levels
unfoldable pub missed_so : (levels : ℕ) → Looked → Bool
missed_so n (at p' q' n') = false
missed_so n (nowhere n') = eqb n n'
missed_so n unnamed = false

-- "every lookup gives the same page, or 'not written' in both"; document 02: "Agreement now also wants the same predicted page and the
-- same count of levels for each logical page", of one that is not written too
unfoldable pub alike : Looked → Looked → Bool
alike (at p q n) b = found_so p q n b
alike (nowhere n) b = missed_so n b
alike unnamed b = false

-- "It refuses 1, 2, 3": for one state with its spare area
abbrev pub sound_checks : State → List ℕ → List Check
sound_checks s spare = opening_with s spare ++ (not_sound when not (sound_state s) ∷ [])

-- no lookup of a logical page below N refuses 7
unfoldable pub all_named : State → List ℕ → Bool
all_named s spare = each_below s.device.N (λ x. is_named (seek s spare x))

-- "for the first state, then the second, then 7 if any lookup does"
unfoldable pub agree_checks : State → List ℕ → State → List ℕ → List Check
agree_checks s spare s' spare' =
    sound_checks s spare ++ sound_checks s' spare' ++ (not_named when not (all_named s spare && all_named s' spare') ∷ [])

-- "yes if N is equal and every lookup" gives the same in both
unfoldable pub agrees : State → List ℕ → State → List ℕ → Bool
agrees s spare s' spare' =
    eqb s.device.N s'.device.N && each_below s.device.N (λ x. alike (seek s spare x) (seek s' spare' x))

-- It writes nothing.
unfoldable pub agree_done : State → List ℕ → State → List ℕ → Lent → Outcome
agree_done s spare s' spare' x = record { answer = agreed (agrees s spare s' spare'); after = x }
