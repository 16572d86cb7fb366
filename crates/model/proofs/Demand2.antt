-- Demand 2, whole: the records learned from a batch are exactly those of the greedy rule, and reading them with the spare area that
-- programming leaves gives back exactly the batch's logical pages, each with its page. Said in specs/Demand2.antt. Assumes nothing.
use mathlib.Core.Path.{◌≡◌, refl, sym, ◌∙◌, ap}
use mathlib.Core.List.{List}
use mathlib.Core.Option.{none, some}
use mathlib.Core.Bool.{Bool, true, false}
use Prim.Native.Nat.{ℕ, ◌+◌, ◌-◌, ◌≤◌, ◌<◌}
use native.Mathlib.Omega.{arith}
use native.Mathlib.Nat.{le_refl}
use lib.Dec.{ltb}
use lib.IntN.{pos}
use lib.ListN.{length, get_or}
use borrow.Author.Tests.{ltb-true, ltb-false, lt-ltb}
use Rattle.model.specs.Lists.{all, elem}
use Rattle.model.specs.Device.{Device, within_limits, pages, first_page, offset_of, group_of, names_per_page, spare_length}
use Rattle.model.specs.Record.{Record, predict}
use Rattle.model.specs.Spare.{nobody, entry, page_named, program_block}
use Rattle.model.specs.Learning.{Run, sorted, logicals, learn, records_for}
use Rattle.model.specs.Demand2.{read_at, read_by, reads_back, entry_left, Demanded, Demand2}
use Rattle.model.proofs.Lists.{Asc, of_asc}
use Rattle.model.proofs.Parts.{all_below}
use Rattle.model.proofs.Limits.{limits, page-inside, N_below-nobody}
use Rattle.model.proofs.Image.{Image, program_block-image}
use Rattle.model.proofs.PageNamed.{page_named_lem}
use Rattle.model.proofs.Line.{overlay}
use Rattle.model.proofs.Holder.{met_none, met_some, predict-line}
use Rattle.model.proofs.GreedyRuns.{learn-greedy}
use Rattle.model.proofs.GreedyOnly.{greedy_only}
use Rattle.model.proofs.Sorting.{sorted_asc, sorted-elem, sorted-length, logicals-length}
use Rattle.model.proofs.Hits.{Hit, learn-hit, learn_miss, learn-met}

read_at_lem : (d : Device) (spare : List ℕ) (x q : ℕ) → q < pages d → read_at d spare x (pos q) ≡ page_named d spare q x
unfolding read_at
read_at_lem d spare x q h = rw (lt-ltb q (pages d) h, read_at)

-- A batch of a device within limits, put on block k of a spare area that was lent.
module _ (d : Device) (batch : List ℕ) (k : ℕ) (lent : List ℕ) (within : within_limits d ≡ true) (size : length batch ≤ d.B)
    (logical : all (λ x. ltb x d.N) batch ≡ true) (block : k < d.M) (entire : length lent ≡ spare_length d) where
  abbrev first : ℕ
  first = first_page d k

  abbrev written : List ℕ
  written = logicals (sorted batch)

  abbrev learned : List Run
  learned = learn d.g first written

  abbrev spare : List ℕ
  spare = program_block d written k lent

  abbrev records : ℕ → List Record
  records x = records_for (group_of x) learned

  asc : Asc 0 written
  asc = sorted_asc batch

  fits : length written ≤ d.B
  fits = omega (arith, logicals-length (sorted batch), sorted-length batch, size)

  named : (x : ℕ) → elem x written ≡ true → x < nobody
  named x q = omega (arith, all_below d.N batch logical x (sym (sorted-elem x batch) ∙ q), N_below-nobody d (limits d within))

  image : Image d spare k written (length written)
  image = program_block-image d written k lent block fits entire

  read_each : (i : ℕ) → i < length written → reads_back d spare learned (get_or written i 0) ≡ some (first + i)
  unfolding reads_back read_by
  read_each i b = found (learn-hit d.g first written asc i b none)
    where
      x : ℕ
      x = get_or written i 0

      found : Hit d.g first written i (overlay (offset_of x) (records x) none) → reads_back d spare learned x ≡ some (first + i)
      found t =
          let near : ℕ = t.page - first in
          let q : t.page ≡ first + near = omega (arith, t.from) in
          let inside : near < length written = omega (arith, t.to, t.from) in
          let exists : t.page < pages d = rw q (page-inside d k near block (omega (arith, fits))) in
          let m = met_some (offset_of x) (records x) t.line (learn-met d.g first written asc x ∙ t.found) in
          let z : predict m.0 (offset_of x) ≡ pos t.page = predict-line m.0 t.line (offset_of x) m.2 ∙ t.predicted in
          let there : page_named d spare t.page x ≡ some (first + i) =
          page_named_lem d spare k written (length written) i near x t.page image asc fits (le_refl _) named block b refl q inside (omega (arith, t.above, t.from))
          (omega (arith, t.below, t.from)) in
          ap (read_by d spare x) m.1 ∙ ap (read_at d spare x) z ∙ read_at_lem d spare x t.page exists ∙ there

  read_other : (x : ℕ) → elem x batch ≡ false → reads_back d spare learned x ≡ none
  unfolding reads_back read_by
  read_other x n = ap (read_by d spare x) (met_none (offset_of x) (records x)
      (learn-met d.g first written asc x ∙ learn_miss d.g first written asc x (sorted-elem x batch ∙ n) none))

  entry_left_lem : (i j : ℕ) → i < d.B → j < names_per_page d → entry d spare (first + i) j ≡ entry_left d written i j
  unfolding entry_left
  entry_left_lem i j b m = go (ltb i (length written)) refl
    where
      go : (t : Bool) → ltb i (length written) ≡ t → entry d spare (first + i) j ≡ entry_left d written i j
      go true e = rw (e, entry_left) (image.written i j (ltb-true i (length written) e) b m)
      go false e = rw (e, entry_left) (image.unwritten i j (ltb-false i (length written) e) b m)

  demanded : Demanded d batch k written learned spare
  demanded = record {
    ascends = of_asc written asc;
    same = λ x. sorted-elem x batch;
    greedy = learn-greedy d.g first written asc;
    only = λ rs q. greedy_only q (learn-greedy d.g first written asc);
    each = read_each;
    no_other = read_other;
    entries = entry_left_lem;
  }

-- Demand 2.
pub demand_2 : Demand2
demand_2 = demanded
