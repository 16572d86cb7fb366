-- A table is sound exactly if no count exceeds B and as many pages are marked among the written ones as entries name one. Then what is
-- counted for each block is its entry in the table's tally. Assumes nothing.
use mathlib.Core.Path.{◌≡◌, refl, sym, ap, ap₂, ◌∙◌}
use mathlib.Core.List.{List, [], ◌∷◌}
use mathlib.Core.Bool.{Bool, true, false, ◌&&◌, and-true, and-false}
use Prim.Native.Nat.{ℕ, suc, ◌+◌, ◌≤◌, ◌<◌}
use native.Mathlib.Omega.{arith}
use lib.Dec.{leb, eqb}
use lib.ListN.{length, get_or}
use Rattle.model.specs.Lists.{all, elem, distinct, select}
use Rattle.model.specs.Device.{Device, pages, first_page}
use Rattle.model.specs.Marks.{is_marked}
use Rattle.calls.specs.PageMap.{is_some}
use Rattle.calls.specs.Choice.{used_by}
use Rattle.choice.specs.Tally.{free_entry, entry_by, entries_by, tally_by}
use Rattle.plain.specs.Table.{Table, no_page, sound_entry, named_pages, sound_table, naming}
use Rattle.plainstate.specs.Bits.{counted_from}
use Rattle.plainstate.specs.Tally.{tally_of, entry_for, entries_from}
use Rattle.plainstate.proofs.Sizes.{block-end}
use Rattle.plainstate.proofs.Tallying.{count-few}
use Rattle.plainstate.proofs.Counted.{counted-sound, block-counted, select-inside, counted_same}

-- entries that are counted alike are alike
module _ (v w : ℕ → Bool) (d : Device) where
  same_entries : (k : ℕ) (cs : List ℕ)
      → ((j : ℕ) → j < length cs → length (select v (get_or cs j 0) (first_page d (k + j))) ≡ length (select w d.B (first_page d (k + j))))
      → entries_from v d k cs ≡ entries_by w d k cs
  unfolding entries_from entries_by entry_for entry_by used_by
  same_entries k [] same = refl
  same_entries k (c ∷ cs) same =
      let z : k + 0 ≡ k = omega arith in
      let here : length (select v c (first_page d k)) ≡ length (select w d.B (first_page d k)) = rw z at (same 0 (omega arith)) in
      ap₂ (λ (n : ℕ) (l : List ℕ). elim (eqb c 0) [ true ↦ free_entry | false ↦ n ] ∷ l) here
      (same_entries (suc k) cs (λ j h. let y : suc k + j ≡ k + suc j = omega arith in rw y (same (suc j) (omega arith))))

-- a block's written pages are pages of the device
room : (d : Device) (cs : List ℕ) (j : ℕ) → j < d.M → get_or cs j 0 ≤ d.B → first_page d j + get_or cs j 0 ≤ pages d
unfolding first_page
room d cs j h b = omega (arith, b, block-end d j h)

module _ (d : Device) (t : Table) (numbers : t.device ≡ d) where
  counted : (u : Bool) → u ≡ all (λ c. leb c d.B) t.counts → all (λ c. leb c t.device.B) t.counts ≡ u
  counted u q = ap (λ (c : Device). all (λ x. leb x c.B) t.counts) numbers ∙ sym q

  pub count_unsound : false ≡ all (λ c. leb c d.B) t.counts → false ≡ sound_table t
  unfolding sound_table
  count_unsound f =
      sym (ap (λ (u : Bool). (all (sound_entry t) t.entries && distinct (named_pages t.entries)) && u) (counted false f)
      ∙ and-false (all (sound_entry t) t.entries && distinct (named_pages t.entries)))

  module _ (small : pages d ≤ no_page) (sized : length t.counts ≡ d.M) (few : true ≡ all (λ c. leb c d.B) t.counts)
      (bits : List ℕ) (marked : (p : ℕ) → p < pages d → is_marked bits p ≡ elem p t.entries) where
    small_here : pages t.device ≤ no_page
    small_here = rw numbers small

    sized_here : length t.counts ≡ t.device.M
    sized_here = sized ∙ ap (λ (c : Device). c.M) (sym numbers)

    pub counting-sound : (m n : ℕ) → m ≡ counted_from (is_marked bits) d 0 t.counts → n ≡ length (named_pages t.entries) → eqb m n ≡ sound_table t
    unfolding sound_table
    counting-sound m n x y =
        ap₂ eqb (x ∙ counted_same (is_marked bits) (λ p. elem p t.entries) d marked 0 t.counts (omega (arith, sized)) (sym few)) y
        ∙ ap (λ (c : Device). eqb (counted_from (λ p. elem p t.entries) c 0 t.counts) (length (named_pages t.entries))) (sym numbers)
        ∙ counted-sound t small_here sized_here (counted true few)
        ∙ sym (ap (λ (u : Bool). (all (sound_entry t) t.entries && distinct (named_pages t.entries)) && u) (counted true few) ∙ and-true _)

    pub counting-tally : sound_table t ≡ true → entries_from (is_marked bits) d 0 t.counts ≡ tally_of t
    unfolding tally_by
    counting-tally so =
        same_entries (is_marked bits) (λ p. is_some (naming p 0 t.entries)) d 0 t.counts at_block
        ∙ ap (λ (c : Device). entries_by (λ p. is_some (naming p 0 t.entries)) c 0 t.counts) (sym numbers)
      where
        at_block : (j : ℕ) → j < length t.counts
            → length (select (is_marked bits) (get_or t.counts j 0) (first_page d (0 + j))) ≡ length (select (λ p. is_some (naming p 0 t.entries)) d.B (first_page d (0 + j)))
        at_block j h =
            let z : 0 + j ≡ j = omega arith in
            let b = count-few t.counts d.B j (sym few) h in
            let counted_at_lem : length (select (λ p. elem p t.entries) (get_or t.counts j 0) (first_page d j)) ≡ length (select (λ p. is_some (naming p 0 t.entries)) d.B (first_page d j)) =
            rw numbers at (block-counted t small_here sized_here so j (omega (arith, h, sized_here))) in
            rw z (ap length (select-inside (is_marked bits) (λ p. elem p t.entries) d marked (get_or t.counts j 0) (first_page d j) (room d t.counts j (omega (arith, h, sized)) b)) ∙ counted_at_lem)
