-- All groups of a state stay sound when a batch's records are taken in and when one group is replaced. Assumes nothing.
use mathlib.Core.Path.{◌≡◌, refl}
use mathlib.Core.List.{List, [], ◌∷◌, flatten}
use mathlib.Core.Bool.{true}
use Prim.Native.Nat.{ℕ, zero, suc, ◌+◌, ◌≤◌}
use native.Mathlib.Omega.{arith}
use lib.ListN.{length, get_or, set, replicate}
use Rattle.model.specs.Lists.{all, distinct}
use Rattle.model.specs.Learning.{Run, records_for}
use Rattle.model.specs.Levels.{Group, record_count, take_in_all}
use Rattle.model.specs.Sound.{sound_record, owned_offsets, sound_group, sound_groups}
use Rattle.model.proofs.Bools.{and_l, and_r, and_i}
use Rattle.model.proofs.SoundGroup.{take_in-sound}

-- The empty group is sound.
pub empty-sound : (N k : ℕ) → sound_group N k [] ≡ true
unfolding sound_group record_count flatten all distinct owned_offsets
empty-sound N k = refl

-- Empty groups are.
pub replicate-sound : (N j n : ℕ) → sound_groups N j (replicate n []) ≡ true
unfolding sound_groups
replicate-sound N j zero = refl
replicate-sound N j (suc n) = and_i _ _ (empty-sound N j) (replicate-sound N (suc j) n)

-- Taking in a batch's records, sound ones and at most 256 for each group, keeps the groups sound.
pub take_in_all-sound : (N j : ℕ) (rs : List Run) (gs : List Group) → sound_groups N j gs ≡ true
    → ((k : ℕ) → all (sound_record N k) (records_for k rs) ≡ true) → ((k : ℕ) → length (records_for k rs) ≤ 256)
    → sound_groups N j (take_in_all j rs gs) ≡ true
unfolding sound_groups take_in_all
take_in_all-sound N j rs [] h a m = refl
take_in_all-sound N j rs (g ∷ gs) h a m =
    and_i _ _ (take_in-sound N j (records_for j rs) g (and_l (sound_group N j g) _ h) (a j) (m j)) (take_in_all-sound N (suc j) rs gs (and_r (sound_group N j g) _ h) a m)

group_at_lem : (N j i k : ℕ) (gs : List Group) → j + i ≡ k → sound_groups N j gs ≡ true → sound_group N k (get_or gs i []) ≡ true
unfolding sound_groups
group_at_lem N j i k [] e h = empty-sound N k
group_at_lem N j zero k (g ∷ gs) e h = let q : k ≡ j = omega arith in rw q (and_l (sound_group N j g) _ h)
group_at_lem N j (suc i) k (g ∷ gs) e h = group_at_lem N (suc j) i k gs (omega arith) (and_r (sound_group N j g) _ h)

-- Each group of sound ones is sound for its place.
pub group_sound : (N k : ℕ) (gs : List Group) → sound_groups N 0 gs ≡ true → sound_group N k (get_or gs k []) ≡ true
group_sound N k gs h = group_at_lem N 0 k k gs (omega arith) h

set_at : (N j i k : ℕ) (gs : List Group) (g : Group) → j + i ≡ k → sound_groups N j gs ≡ true → sound_group N k g ≡ true → sound_groups N j (set gs i g) ≡ true
unfolding sound_groups
set_at N j i k [] g e h s = refl
set_at N j zero k (f ∷ gs) g e h s =
    let q : k ≡ j = omega arith in
    and_i _ _ (rw q at s) (and_r (sound_group N j f) _ h)
set_at N j (suc i) k (f ∷ gs) g e h s =
    and_i _ _ (and_l (sound_group N j f) _ h) (set_at N (suc j) i k gs g (omega arith) (and_r (sound_group N j f) _ h) s)

-- A group replaced by one that is sound for its place leaves the groups sound.
pub set-sound : (N k : ℕ) (gs : List Group) (g : Group) → sound_groups N 0 gs ≡ true → sound_group N k g ≡ true → sound_groups N 0 (set gs k g) ≡ true
set-sound N k gs g h s = set_at N 0 k k gs g (omega arith) h s
