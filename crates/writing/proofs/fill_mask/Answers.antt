-- The next page's offset is marked; at the end no page is ahead. Assumes nothing.
use Rattle.std.proofs.Common.{◌≡◌, ◌||◌, ◌+◌, ◌-◌, ◌%◌, ◌≤◌, ◌<◌, ℕ, Bool, true, false, List, ◌∷◌, length, get_or, set, drop, eqb, refl, ◌∙◌, add-one, drop-cons, drop_of_length-le, arith}
use lib.Seq.{get_or-set_same, get_or-set_other}
use borrow.Author.Tests.{eqb-true, eqb-false}
use Rattle.model.specs.Lists.{elem}
use Rattle.model.specs.Demand2.{offsets}
use Rattle.record.specs.Scan.{masked}
use Rattle.writing.proofs.fill_mask.Goals as goal

either : (t u : Bool) → (t || u) ≡ (u || t)
either true true = refl
either true false = refl
either false true = refl
either false false = refl

mask_one : (m : List ℕ) (x o : ℕ) (l : List ℕ) → x < length m → (masked (set m x 1) o || elem o l) ≡ (masked m o || elem o (x ∷ l))
unfolding elem
mask_one m x o l h = go (eqb o x) refl
  where
    go : (t : Bool) → eqb o x ≡ t → (masked (set m x 1) o || elem o l) ≡ (masked m o || elem o (x ∷ l))
    go true e = rw (e, elem, eqb-true o x e, get_or-set_same m x 1 0 h) (either true (masked m x))
    go false e = rw (e, elem, get_or-set_other m x o 1 0 (eqb-false o x e))

module _ (pages m : List ℕ) (i : ℕ) where
  abbrev x : ℕ
  x = get_or pages i 0 % 256

  mask_next : i < length pages → x < length m → (o : ℕ) → (masked (set m x 1) o || elem o (offsets (drop (i + 1) pages))) ≡ (masked m o || elem o (offsets (drop i pages)))
  unfolding offsets
  mask_next h k o = rw (drop-cons pages i 0 h, add-one i) (mask_one m x o _ k)

  mask_end : length pages ≤ i → (o : ℕ) → masked m o ≡ (masked m o || elem o (offsets (drop i pages)))
  unfolding offsets elem
  mask_end h o = rw (drop_of_length-le pages h) (either false (masked m o))

pub loop-page-init : goal.loop-page-init
loop-page-init c = let z : c.args.at + c.args.n - c.args.at ≡ c.args.n = omega arith in λ o h. rw (z, c.requires.1 o h)

pub loop-page-preserved : goal.loop-page-preserved
loop-page-preserved c = λ o h. mask_next _ _ _ c.loop-page-test.true (omega (arith, c.requires.0)) o ∙ c.loop-page.invariant o h

pub returns : goal.returns
returns c = λ o h. mask_end _ _ _ c.loop-page-test.false o ∙ c.loop-page.invariant o h
