-- While the invariant holds, a call is never refused for device numbers, the lengths of state and spare area, or soundness: its first
-- refusal is the page map's. Assumes nothing.
use mathlib.Core.Path.{◌≡◌, refl, ap}
use mathlib.Core.List.{List, []}
use mathlib.Core.Option.{Option}
use mathlib.Core.Bool.{Bool, true, false, not, ◌||◌}
use Prim.Native.Nat.{ℕ}
use native.Mathlib.Omega.{arith}
use lib.Dec.{eqb}
use borrow.Author.Tests.{eq-eqb, le-ltb}
use Rattle.model.specs.Lists.{or_else}
use Rattle.model.specs.Device.{Device, within_limits, head_length, regions, regions_length, state_length, spare_length, group_of}
use Rattle.model.specs.State.{State, group_at}
use Rattle.model.specs.Sound.{sound_state, sound_group}
use Rattle.model.proofs.Bools.{and_l, neither}
use Rattle.model.proofs.SoundGroups.{group_sound}
use Rattle.calls.specs.Refusals.{Refusal, bad_numbers, bad_length, first_refusal, wrong_length, numbers_missing, wrong_state, wrong_spare}
use Rattle.calls.specs.Format.{format_checks}
use Rattle.calls.specs.Flush.{flush_checks}
use Rattle.calls.specs.Lookup.{lookup_checks}
use Rattle.calls.specs.Discard.{discard_checks}
use Rattle.calls.specs.Collection.{collect_checks}
use Rattle.calls.specs.Compaction.{compact_checks}
use Rattle.calls.specs.Listing.{list_checks}
use Rattle.calls.specs.Why.{why_checks}
use Rattle.calls.specs.Outcome.{with_out}
use Rattle.calls.specs.History.{format_call, flush_call, lookup_call, discard_call, collect_call, compact_call, list_call, why_call, lend}
use Rattle.calls.specs.PageMap.{PageMap, map_checks}
use Rattle.calls.proofs.Refusing.{right-length}
use Rattle.calls.proofs.Invariant.{Inv}
use Rattle.calls.proofs.Found.{map_of}
use Rattle.calls.proofs.Collected.{same_victims, same_moves}

-- two checks for one refusal are one
joined : (a b : Bool) (r : Refusal) (later : Option Refusal) → or_else a r (or_else b r later) ≡ or_else (not (not (a || b))) r later
unfolding or_else
joined true b r later = refl
joined false true r later = refl
joined false false r later = refl

-- A format is refused by the numbers it is given and the two lengths.
pub format_checks_lem : (d : Device) (s : State) (spare : List ℕ) (m : PageMap)
    → first_refusal (format_checks d (lend s spare [] [])) ≡ first_refusal (map_checks (not (not (eqb s.bytes (state_length d)) || wrong_length spare (spare_length d))) (format_call d) m)
unfolding format_checks map_checks lend first_refusal
format_checks_lem d s spare m = ap (or_else (not (within_limits d)) bad_numbers) (joined _ _ bad_length _)

module _ (s : State) (spare : List ℕ) (place : ℕ → Option ℕ) (v : Inv s spare place) where
  -- The device numbers are there ..
  pub numbers_there : numbers_missing s ≡ false
  unfolding numbers_missing state_length regions_length regions head_length
  numbers_there = neither _ _ (le-ltb s.bytes head_length (omega (arith, v.bytes))) (ap not v.limits)

  -- .. state and spare area have the lengths they give ..
  pub state-right : wrong_state s ≡ false
  unfolding wrong_state
  state-right = ap not (eq-eqb s.bytes (state_length s.device) v.bytes)

  pub spare-right : wrong_spare s spare ≡ false
  unfolding wrong_spare
  spare-right = right-length spare (spare_length s.device) v.spared

  -- .. and each group is sound.
  sound_group_lem : (k : ℕ) → sound_group s.device.N k (group_at s k) ≡ true
  unfolding sound_state group_at
  sound_group_lem k = group_sound s.device.N k s.groups (and_l _ _ v.sound)

  abbrev m : PageMap
  m = map_of s place

  -- A flush refuses first what the map's refuses first ..
  pub flush_checks_lem : (batch plan : List ℕ) → first_refusal (flush_checks batch (lend s spare plan [])) ≡ first_refusal (map_checks true (flush_call batch plan) m)
  unfolding flush_checks map_checks lend first_refusal or_else
  flush_checks_lem batch plan = rw (numbers_there, state-right, spare-right, v.sound)

  -- .. and so does a lookup ..
  pub lookup_checks_lem : (x : ℕ) → first_refusal (lookup_checks x (lend s spare [] [])) ≡ first_refusal (map_checks true (lookup_call x) m)
  unfolding lookup_checks map_checks lend first_refusal or_else
  lookup_checks_lem x = rw (numbers_there, state-right, spare-right, sound_group_lem (group_of x))

  -- .. a discard, which refuses as lookup does ..
  pub discard_checks_lem : (x : ℕ) → first_refusal (discard_checks x (lend s spare [] [])) ≡ first_refusal (map_checks true (discard_call x) m)
  unfolding map_checks
  discard_checks_lem x = lookup_checks_lem x

  -- .. a compaction ..
  pub compact_checks_lem : (k : ℕ) → first_refusal (compact_checks k (lend s spare [] [])) ≡ first_refusal (map_checks true (compact_call k) m)
  unfolding compact_checks map_checks lend first_refusal or_else
  compact_checks_lem k = rw (numbers_there, state-right, sound_group_lem k)

  -- .. a listing ..
  pub list_checks_lem : (k : ℕ) (out : List ℕ) → first_refusal (list_checks k (with_out out (lend s spare [] []))) ≡ first_refusal (map_checks true (list_call k out) m)
  unfolding list_checks map_checks lend first_refusal or_else
  list_checks_lem k out = rw (numbers_there, state-right, sound_group_lem k)

  -- .. a telling of why ..
  pub why_checks_lem : (x : ℕ) (out : List ℕ) → first_refusal (why_checks x (with_out out (lend s spare [] []))) ≡ first_refusal (map_checks true (why_call x out) m)
  unfolding why_checks map_checks lend first_refusal or_else
  why_checks_lem x out = rw (numbers_there, state-right, sound_group_lem (group_of x))

  -- .. and a collection, whose choice is the map's.
  pub collect_checks_lem : (plan erased : List ℕ) → first_refusal (collect_checks (lend s spare plan erased)) ≡ first_refusal (map_checks true (collect_call plan erased) m)
  unfolding collect_checks map_checks lend first_refusal or_else
  collect_checks_lem plan erased = rw (numbers_there, state-right, spare-right, v.sound, same_moves s spare place v, same_victims s spare place v)
