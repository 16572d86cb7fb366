-- What is met after a batch is learned: each of its pages, predicted near; for any other what was met before. Assumes nothing.
use mathlib.Core.Path.{◌≡◌, refl, sym, ◌∙◌, ap}
use mathlib.Core.List.{List, [], ◌∷◌}
use mathlib.Core.Option.{Option, none, some}
use mathlib.Core.Bool.{true≢false, Bool, true, false}
use Prim.Native.Nat.{ℕ, ◌+◌, ◌-◌, ◌≤◌, ◌<◌}
use native.Mathlib.Omega.{arith}
use lib.Dec.{ltb, eqb}
use lib.ListN.{length, get_or, take, drop, length-drop}
use lib.Seq.{get_or-drop, get_or-take, length-take-le}
use lib.IntN.{pos}
use borrow.Author.Tests.{ltb-true, ltb-false, eqb-true, eqb-false}
use Rattle.model.specs.Lists.{elem, or_else}
use Rattle.model.specs.Device.{group_of, offset_of}
use Rattle.model.specs.Record.{member, predict}
use Rattle.model.specs.Learning.{Run, Bounds, learn, records_for}
use Rattle.model.specs.Demand2.{Near, bounds_of}
use Rattle.model.proofs.Bools.{is_false}
use Rattle.model.proofs.Lists.{Asc, At, elem_at}
use Rattle.model.proofs.Parts.{elem-take, elem_first, elem-rest, first_only, asc_drop}
use Rattle.model.proofs.Line.{Line, line_of, line_predict, met, overlay}
use Rattle.model.proofs.Runs.{Part, Parted}
use Rattle.model.proofs.Learned.{learn_parted}

-- what is met for logical page x once the runs are learned
abbrev met_in : List Run → ℕ → Option Line → Option Line
met_in rs x old = overlay (offset_of x) (records_for (group_of x) rs) old

-- one run more: its record lies over what was met before exactly where the page is of its part
part-over : (b : Bounds) (p x : ℕ) (l : List ℕ) (r : Run) (rs : List Run) (old : Option Line) → Part b p l r
    → met_in (r ∷ rs) x old ≡ met_in rs x (or_else (elem x (take r.taken l)) (line_of r.learned) old)
unfolding records_for overlay or_else
part-over b p x l r rs old c = go (eqb r.group (group_of x)) refl
  where
    apart : eqb r.group (group_of x) ≡ false → elem x (take r.taken l) ≡ false
    apart e = is_false _ (λ h.
        let a : At x (take r.taken l) = elem_at x (take r.taken l) h in
        let k : a.index < r.taken = omega (arith, a.inside, length-take-le r.taken l c.inside) in
        let q : get_or l a.index 0 ≡ x = sym (get_or-take r.taken l a.index 0 k) ∙ a.here in
        eqb-false r.group (group_of x) e (sym (c.grouped a.index k) ∙ ap (λ (m : ℕ). group_of m) q))

    go : (t : Bool) → eqb r.group (group_of x) ≡ t
        → met_in (r ∷ rs) x old ≡ met_in rs x (or_else (elem x (take r.taken l)) (line_of r.learned) old)
    go true e = rw (e, records_for) (rw (c.members x (sym (eqb-true r.group (group_of x) e))))
    go false e = rw (e, apart e, records_for)

-- what is met is a line that predicts within the bounds for page p
record Found (b : Bounds) (p o : ℕ) (met : Option Line) : Type 0 where
  line : Line
  found : met ≡ some line
  near : Near b p (line_predict line o)

-- what is met for logical page x after the pages l were written from page p on, where old was met before
record Result (b : Bounds) (p : ℕ) (l : List ℕ) (x : ℕ) (old met : Option Line) : Type 0 where
  other : elem x l ≡ false → met ≡ old
  mine : (i : ℕ) → i < length l → get_or l i 0 ≡ x → Found b (p + i) (offset_of x) met

part_result : (b : Bounds) (p x : ℕ) (l : List ℕ) (r : Run) {z : ℕ} (old met : Option Line) → Asc z l → Part b p l r
    → Result b (p + r.taken) (drop r.taken l) x (or_else (elem x (take r.taken l)) (line_of r.learned) old) met
    → Result b p l x old met
unfolding or_else line_predict predict
part_result b p x l r {z} old met a c rest = record { other = others; mine = λ i h e. mines (ltb i n) i h e refl }
  where
    n : ℕ
    n = r.taken

    over : Bool → Option Line
    over t = or_else t (line_of r.learned) old

    others : elem x l ≡ false → met ≡ old
    others e =
        let t : elem x (take n l) ≡ false = is_false _ (λ q. true≢false (sym (elem_first x n l q) ∙ e)) in
        let u : elem x (drop n l) ≡ false = is_false _ (λ q. true≢false (sym (elem-rest x n l q) ∙ e)) in
        rest.other u ∙ ap over t

    mines : (t : Bool) (i : ℕ) → i < length l → get_or l i 0 ≡ x → ltb i n ≡ t → Found b (p + i) (offset_of x) met
    mines true i h e q =
        let k : i < n = ltb-true i n q in
        let m : elem x (take n l) ≡ true = rw e at (elem-take l n i k c.inside) in
        record { line = line_of r.learned; found = rest.other (first_only {x = z} x n l a m) ∙ ap over m; near = rw e at (c.near i k) }
    mines false i h e q =
        let k : n ≤ i = ltb-false i n q in
        let f : n + (i - n) ≡ i = omega arith in
        let f' : p + n + (i - n) ≡ p + i = omega arith in
        let w : get_or (drop n l) (i - n) 0 ≡ x = get_or-drop n l (i - n) 0 ∙ ap (λ (j : ℕ). get_or l j 0) f ∙ e in
        rw f' at (rest.mine (i - n) (rw length-drop (omega arith)) w)

parted_result : (b : Bounds) (p x : ℕ) (l : List ℕ) (rs : List Run) {z : ℕ} (old : Option Line) → Asc z l → Parted b p l rs
    → Result b p l x old (met_in rs x old)
unfolding records_for overlay
parted_result b p x l [] old a c = record { other = λ e. refl; mine = λ i h e. absurd (omega (arith, ap length c)) }
parted_result b p x l (r ∷ rs) {z} old a c =
    rw (part-over b p x l r rs old c.0)
    (part_result b p x l r {z = z} old _ a c.0 (parted_result b (p + r.taken) x (drop r.taken l) rs {z = 0} _
    (asc_drop r.taken l a) c.1))

-- What a lookup meets for the logical page at place i of the batch: a line that predicts a page of the batch, at most g from
-- the one where it lies.
pub record Hit (g p : ℕ) (written : List ℕ) (i : ℕ) (met : Option Line) : Type 0 where
  pub line : Line
  pub page : ℕ
  pub found : met ≡ some line
  pub predicted : line_predict line (offset_of (get_or written i 0)) ≡ pos page
  pub from : p ≤ page
  pub to : page < p + length written
  pub above : p + i ≤ page + g
  pub below : page ≤ p + i + g

-- Each logical page of the batch is met in its group's learned records, whatever was met before.
pub learn-hit : (g p : ℕ) (written : List ℕ) → Asc 0 written → (i : ℕ) → i < length written → (old : Option Line)
    → Hit g p written i (overlay (offset_of (get_or written i 0)) (records_for (group_of (get_or written i 0)) (learn g p written)) old)
learn-hit g p written a i h old = go ((parted_result (bounds_of g p written) p x written (learn g p written) old a
    (learn_parted g p written a)).mine i h refl)
  where
    x : ℕ
    x = get_or written i 0

    go : {met : Option Line} → Found (bounds_of g p written) (p + i) (offset_of x) met → Hit g p written i met
    go f = let n = f.near in record {
      line = f.line;
      page = n.page;
      found = f.found;
      predicted = n.is;
      from = n.from;
      to = omega (arith, n.to, h);
      above = n.above;
      below = n.below;
    }

-- For any other logical page what was met before is met.
pub learn_miss : (g p : ℕ) (written : List ℕ) → Asc 0 written → (x : ℕ) → elem x written ≡ false → (old : Option Line)
    → overlay (offset_of x) (records_for (group_of x) (learn g p written)) old ≡ old
learn_miss g p written a x e old = (parted_result (bounds_of g p written) p x written (learn g p written) old a
    (learn_parted g p written a)).other e

parted_met : (b : Bounds) (p x : ℕ) (l : List ℕ) (rs : List Run) {z : ℕ} → Asc z l → Parted b p l rs → met (offset_of x) (records_for (group_of x) rs) ≡ met_in rs x none
unfolding records_for overlay met or_else
parted_met b p x l [] a c = refl
parted_met b p x l (r ∷ rs) {z} a c = go (eqb r.group (group_of x)) (member r.learned (offset_of x)) refl refl (parted_met b (p + r.taken) x (drop r.taken l) rs {z = 0} (asc_drop r.taken l a) c.1)
  where
    -- the runs behind don't have a page of this one's part
    behind : eqb r.group (group_of x) ≡ true → member r.learned (offset_of x) ≡ true → met_in rs x (some (line_of r.learned)) ≡ some (line_of r.learned)
    behind e m =
        let t : elem x (take r.taken l) ≡ true = sym (c.0.members x (sym (eqb-true r.group (group_of x) e))) ∙ m in
        (parted_result b (p + r.taken) x (drop r.taken l) rs {z = 0} (some (line_of r.learned)) (asc_drop r.taken l a) c.1).other (first_only {x = z} x r.taken l a t)

    go : (t u : Bool) → eqb r.group (group_of x) ≡ t → member r.learned (offset_of x) ≡ u → met (offset_of x) (records_for (group_of x) rs) ≡ met_in rs x none → met (offset_of x) (records_for (group_of x) (r ∷ rs)) ≡ met_in (r ∷ rs) x none
    go false u e m ih = rw (e, records_for) ih
    go true true e m ih = rw (e, records_for) (rw m (sym (behind e m)))
    go true false e m ih = rw (e, records_for) (rw m ih)

-- A logical page is a member of at most one learned record of its group: the first met is the last put over the others.
pub learn-met : (g p : ℕ) (written : List ℕ) → Asc 0 written → (x : ℕ) → met (offset_of x) (records_for (group_of x) (learn g p written)) ≡ overlay (offset_of x) (records_for (group_of x) (learn g p written)) none
learn-met g p written a x = parted_met (bounds_of g p written) p x written (learn g p written) a (learn_parted g p written a)
