-- What is read from bytes whose numbers and length are known: the regions, and their cells. Assumes nothing.
use mathlib.Core.Path.{◌≡◌, sym, ap, ◌∙◌}
use mathlib.Core.Bool.{true}
use mathlib.Core.List.{List, []}
use Prim.Native.Nat.{ℕ, ◌+◌, ◌*◌, ◌≤◌, ◌<◌}
use native.Mathlib.Omega.{arith}
use lib.ListN.{length, get_or}
use Rattle.model.specs.Device.{Device, within_limits, group_count, marks_count, count_length, marks_length, group_length, regions, state_length}
use Rattle.model.specs.Levels.{Group}
use Rattle.model.specs.State.{State, with_counts, with_marks, with_groups, group_at}
use Rattle.octets.specs.Little.{le16}
use Rattle.octets.proofs.Same.{part_at, length_part}
use Rattle.octets.proofs.ReadWrite.{le16_same}
use Rattle.front.specs.Reading.{numbers_at, read_counts}
use Rattle.front.proofs.Tables.{length_from, get_or_from, from_same}
use Rattle.front.proofs.CountsRead.{length-read}
use Rattle.group.specs.Reading.{read_group}
use Rattle.state.specs.Regions.{count_region, marks_region, group_region, cell, read_region}
use Rattle.state.specs.Reading.{read_count, read_marks, count_place, marks_place, group_place, read_state}
use Rattle.state.specs.Shaped.{Shaped, count_of}
use Rattle.state.proofs.Places.{count_at, end_at}
use Rattle.state.proofs.Regions.{cell-inside}

-- The counts, which the front reads, are those of the table of regions.
count-cell : (d : Device) (s : List ℕ) (k : ℕ) → le16 s (16 + 2 * k) ≡ read_count (cell d count_region s k)
unfolding read_count cell regions count_length
count-cell d s k =
    let e : 16 + 2 * k ≡ count_place d k = omega (arith, count_at d k) in
    ap (le16 s) e ∙ sym (le16_same (part_at 2 s (count_place d k)))

pub counts_region : (d : Device) (s : List ℕ) → read_counts d s ≡ read_region read_count d count_region s
unfolding read_counts read_region regions
counts_region d s = from_same (λ k. le16 s (16 + 2 * k)) (λ k. read_count (cell d count_region s k)) 0 d.M (λ k a l. count-cell d s k)

module _ (d : Device) (s : List ℕ) (h : Shaped d (read_state s)) where
  pub long : length s ≡ state_length d
  unfolding read_state
  long = h.long

  pub numbers_are : numbers_at s ≡ d
  unfolding read_state
  numbers_are = h.numbers

  -- what the front's functions ask for
  pub front_in : (16 + 2 * d.M ≤ length s) × (within_limits d ≡ true)
  front_in = (omega (arith, long, end_at d), h.limits)

  pub counts_are : (read_state s).counts ≡ read_counts d s
  unfolding read_state
  counts_are = ap (λ (e : Device). read_counts e s) numbers_are

  pub marks_are : (read_state s).marks ≡ read_region read_marks d marks_region s
  unfolding read_state
  marks_are = ap (λ (e : Device). read_region read_marks e marks_region s) numbers_are

  pub groups_are : (read_state s).groups ≡ read_region read_group d group_region s
  unfolding read_state
  groups_are = ap (λ (e : Device). read_region read_group e group_region s) numbers_are

  pub length-counts : length (read_state s).counts ≡ d.M
  length-counts = ap length counts_are ∙ length-read d s

  pub length-marks : length (read_state s).marks ≡ marks_count d
  unfolding read_region regions
  length-marks = ap length marks_are ∙ length_from _ 0 (marks_count d)

  pub length-groups : length (read_state s).groups ≡ group_count d
  unfolding read_region regions
  length-groups = ap length groups_are ∙ length_from _ 0 (group_count d)

  pub count_is : (k : ℕ) → get_or (read_counts d s) k 0 ≡ count_of (read_state s) k
  unfolding count_of
  count_is k = ap (λ (cs : List ℕ). get_or cs k 0) (sym counts_are)

  marks_is : (k : ℕ) → k < marks_count d → get_or (read_state s).marks k 0 ≡ read_marks (cell d marks_region s k)
  unfolding read_region regions
  marks_is k l = ap (λ (ms : List ℕ). get_or ms k 0) marks_are ∙ get_or_from (λ i. read_marks (cell d marks_region s i)) (marks_count d) k 0 l

  pub group_is : (k : ℕ) → k < group_count d → group_at (read_state s) k ≡ read_group (cell d group_region s k)
  unfolding group_at read_region regions
  group_is k l = ap (λ (gs : List Group). get_or gs k []) groups_are ∙ get_or_from (λ i. read_group (cell d group_region s i)) (group_count d) k [] l

  -- a byte of the marks lies in the state at its place, p
  pub marks_in : (k p : ℕ) → k < marks_count d → p ≡ marks_place d k → p < length s
  unfolding regions marks_length
  marks_in k p l e = omega (arith, e, cell-inside d marks_region k l, long)

  pub marks-read : (k p r : ℕ) → k < marks_count d → p ≡ marks_place d k → r ≡ get_or s p 0 → r ≡ get_or (read_state s).marks k 0
  unfolding read_marks cell regions marks_length
  marks-read k p r l e f =
      let q : p ≡ marks_place d k + 0 = omega arith in
      f ∙ ap (λ (i : ℕ). get_or s i 0) q ∙ sym (marks_is k l ∙ (part_at 1 s (marks_place d k)).each 0 (omega arith))

  -- and a group's
  pub group_in : (k : ℕ) → k < group_count d → group_place d k + group_length ≤ length s
  unfolding regions
  group_in k l = omega (arith, cell-inside d group_region k l, long)

  pub length-group : (k : ℕ) → k < group_count d → length (cell d group_region s k) ≡ group_length
  unfolding cell regions
  length-group k l = length_part s (group_place d k) group_length (group_in k l)

-- other counts, other marks, other groups: the same shape
pub shaped-counts : (d : Device) (cs : List ℕ) (s : State) → Shaped d s → Shaped d (with_counts cs s)
unfolding with_counts
shaped-counts d cs s h = record { numbers = h.numbers; limits = h.limits; long = h.long }

pub shaped-marks : (d : Device) (ms : List ℕ) (s : State) → Shaped d s → Shaped d (with_marks ms s)
unfolding with_marks
shaped-marks d ms s h = record { numbers = h.numbers; limits = h.limits; long = h.long }

pub shaped-groups : (d : Device) (gs : List Group) (s : State) → Shaped d s → Shaped d (with_groups gs s)
unfolding with_groups
shaped-groups d gs s h = record { numbers = h.numbers; limits = h.limits; long = h.long }
