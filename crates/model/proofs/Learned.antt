-- A batch's learned runs: they cut the batch into parts, in order, and their records are sound. Assumes nothing.
use mathlib.Core.Path.{◌≡◌, refl, sym, ◌∙◌, ap}
use mathlib.Core.List.{List, [], ◌∷◌}
use mathlib.Core.Bool.{Bool, true, false, ◌&&◌}
use Prim.Native.Nat.{ℕ, zero, suc, ◌+◌, ◌*◌, ◌-◌, ◌≤◌, ◌<◌, suc-le-suc}
use native.Mathlib.Omega.{arith}
use native.Mathlib.Nat.{le_refl}
use lib.Dec.{ltb, leb, eqb}
use lib.ListN.{length, get_or, take, drop}
use borrow.Author.Tests.{eqb-true, le-leb, lt-ltb}
use Rattle.model.specs.Lists.{all, elem}
use Rattle.model.specs.Device.{group_of, offset_of}
use Rattle.model.specs.Record.{end, member}
use Rattle.model.specs.Learning.{Run, Bounds, runs, learn, records_for}
use Rattle.model.specs.Sound.{sound_record}
use Rattle.model.specs.Demand2.{bounds_of}
use Rattle.model.proofs.Bools.{and_i, all_head, all_tail, all_cons}
use Rattle.model.proofs.Lists.{Asc, elem-get_or}
use Rattle.model.proofs.Parts.{Below, elem-rest}
use Rattle.model.proofs.Runs.{Part, Parted, runs_parted}

-- The runs of a batch cut it into parts, in order.
pub learn_parted : (g p : ℕ) (written : List ℕ) → Asc 0 written → Parted (bounds_of g p written) p written (learn g p written)
unfolding learn
learn_parted g p written a = runs_parted (bounds_of g p written) (length written) p written (le_refl _) a (omega arith) (omega arith)

-- A record's members are exactly the offsets of its run's pages.
pub part-members : (b : Bounds) (p : ℕ) (l : List ℕ) (r : Run) → Part b p l r → (o : ℕ) → o < 256
    → member r.learned o ≡ elem (256 * r.group + o) (take r.taken l)
part-members b p l r c o h =
    let x : ℕ = 256 * r.group + o in
    let k : group_of x ≡ r.group = omega arith in
    let m : offset_of x ≡ o = omega arith in
    ap (member r.learned) (sym m) ∙ c.members x k

-- the records' soundness: a part's record ends in the group and inside N
part_sound : (b : Bounds) (N p : ℕ) (l : List ℕ) (r : Run) → Below N l → Part b p l r → sound_record N r.group r.learned ≡ true
unfolding sound_record
part_sound b N p l r s c =
    let y : ℕ = get_or l (r.taken - 1) 0 in
    let o : ℕ = end r.learned in
    let e : o ≡ offset_of y = c.ends in
    let k : group_of y ≡ r.group = c.grouped (r.taken - 1) (omega (arith, c.filled)) in
    let m : y < N = s y (elem-get_or l (r.taken - 1) (omega (arith, c.filled, c.inside))) in
    let u : o ≤ 255 = omega (arith, e) in
    let v : 256 * r.group + o < N = omega (arith, e, k, m) in
    and_i (leb o 255 && ltb (256 * r.group + o) N) _ (and_i (leb o 255) _ (le-leb o 255 u) (lt-ltb (256 * r.group + o) N v)) c.sound

-- each run's record is sound in the run's group
abbrev sound_run : ℕ → Run → Bool
sound_run N r = sound_record N r.group r.learned

parted_sound : (b : Bounds) (N p : ℕ) (l : List ℕ) (rs : List Run) → Below N l → Parted b p l rs → all (sound_run N) rs ≡ true
unfolding all
parted_sound b N p l [] s c = refl
parted_sound b N p l (r ∷ rs) s c =
    all_cons (sound_run N) r rs (part_sound b N p l r s c.0)
    (parted_sound b N (p + r.taken) (drop r.taken l) rs (λ x h. s x (elem-rest x r.taken l h)) c.1)

-- Each learned record is sound in its group, where the batch's pages are below N.
pub learn-sound : (N g p : ℕ) (written : List ℕ) → Asc 0 written → Below N written
    → all (λ (r : Run). sound_record N r.group r.learned) (learn g p written) ≡ true
learn-sound N g p written a s = parted_sound (bounds_of g p written) N p written (learn g p written) s (learn_parted g p written a)

group_sound : (N k : ℕ) (rs : List Run) → all (sound_run N) rs ≡ true → all (sound_record N k) (records_for k rs) ≡ true
unfolding all records_for
group_sound N k [] h = refl
group_sound N k (r ∷ rs) h = go (eqb r.group k) refl (group_sound N k rs (all_tail (sound_run N) r rs h))
  where
    go : (t : Bool) → eqb r.group k ≡ t → all (sound_record N k) (records_for k rs) ≡ true
        → all (sound_record N k) (records_for k (r ∷ rs)) ≡ true
    go true e ih = rw (e, records_for) (all_cons (sound_record N k) r.learned (records_for k rs)
        (rw (eqb-true r.group k e) at (all_head (sound_run N) r rs h)) ih)
    go false e ih = rw (e, records_for) ih

-- The learned records of a group are sound in it.
pub records-sound : (N g p k : ℕ) (written : List ℕ) → Asc 0 written → Below N written
    → all (sound_record N k) (records_for k (learn g p written)) ≡ true
records-sound N g p k written a s = group_sound N k (learn g p written) (learn-sound N g p written a s)

records-length : (k : ℕ) (rs : List Run) → length (records_for k rs) ≤ length rs
unfolding records_for
records-length k [] = omega arith
records-length k (r ∷ rs) = go (eqb r.group k) refl (records-length k rs)
  where
    go : (t : Bool) → eqb r.group k ≡ t → length (records_for k rs) ≤ length rs → length (records_for k (r ∷ rs)) ≤ length (r ∷ rs)
    go true e h = rw (e, records_for) (omega arith)
    go false e h = rw (e, records_for) (omega arith)

runs-length : (b : Bounds) (n p : ℕ) (l : List ℕ) → length (runs b n p l) ≤ n
unfolding runs
runs-length b zero p l = omega arith
runs-length b (suc n) p [] = omega arith
runs-length b (suc n) p (x ∷ l) = suc-le-suc (runs-length b n _ _)

-- There are no more runs than pages.
pub learn-length : (g p : ℕ) (written : List ℕ) → length (learn g p written) ≤ length written
unfolding learn
learn-length g p written = runs-length (bounds_of g p written) (length written) p written

-- There are no more records for a group than pages.
pub records_for-length : (g p k : ℕ) (written : List ℕ) → length (records_for k (learn g p written)) ≤ length written
records_for-length g p k written = omega (arith, records-length k (learn g p written), learn-length g p written)
