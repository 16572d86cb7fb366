-- `accurate` meets its contract: one page alone, or as far as the stride of the first two goes.
use Rattle.std.proofs.Common.{List, ℕ, Bool, true, false, ◌≡◌, ◌+◌, ◌-◌, ◌/◌, ◌%◌, ◌≤◌, arith, sym, ◌∙◌}
use Rattle.model.specs.Lists.{ascending}
use Rattle.model.specs.Sound.{is_empty}
use Rattle.model.proofs.Ascent.{rises_to}
use Rattle.slopes.specs.Places.{page_at, ahead_of}
use Rattle.slopes.proofs.AheadOf.{Goes, ahead_some, ahead_none}
use Rattle.learn.proofs.AccurateAt.{single_at, strided_at, stride-small, quotient_small}
use Rattle.learn.proofs.Differences.{less, whole}
use Rattle.learn.proofs.runs.accurate.Goals as goal

-- a page of the group stands at the next place, ..
goes : (w : List ℕ) (i : ℕ) (r : Bool) → r ≡ is_empty (ahead_of w (page_at w i / 256) (i + 1)) → r ≡ false → Goes w (page_at w i / 256) (i + 1)
goes w i r e f = ahead_some _ _ _ (sym e ∙ f)

-- .. one stride on
small : (w : List ℕ) (i : ℕ) (r : Bool) → ascending w ≡ true → r ≡ is_empty (ahead_of w (page_at w i / 256) (i + 1)) → r ≡ false
    → (1 ≤ page_at w (i + 1) - page_at w i) × (page_at w (i + 1) - page_at w i ≤ 255)
small w i r asc e f = stride-small w i asc (goes w i r e f)

pub returns-then-ended-clause-by_index : goal.returns-then-ended-clause-by_index
returns-then-ended-clause-by_index c =
    let none = ahead_none _ _ _ (sym c.ended.ensures ∙ c.if-ended.true) in
    λ g. single_at _ _ _ _ none (whole _ (omega arith))

pub bounds-written-i-2 : goal.bounds-written-i-2
bounds-written-i-2 c = (goes _ _ _ c.ended.ensures c.if-ended.false).inside

pub overflow_sub-d : goal.overflow_sub-d
overflow_sub-d c = omega (arith, small _ _ _ c.requires.0 c.ended.ensures c.if-ended.false)

pub stride_end-e-requires : goal.stride_end-e-requires
stride_end-e-requires c = ((goes _ _ _ c.ended.ensures c.if-ended.false).inside, c.requires.0)

pub overflow_sub-result : goal.overflow_sub-result
overflow_sub-result c =
    let e = c.stride_end-e.ensures in
    rises_to _ _ _ c.requires.0 (omega (arith, e.0)) e.1

pub overflow_mul-result : goal.overflow_mul-result
overflow_mul-result c = omega (arith, small _ _ _ c.requires.0 c.ended.ensures c.if-ended.false)

pub overflow_sub-result-2 : goal.overflow_sub-result-2
overflow_sub-result-2 c = omega (arith, small _ _ _ c.requires.0 c.ended.ensures c.if-ended.false)

pub nonzero_div-result : goal.nonzero_div-result
nonzero_div-result c = omega (arith, small _ _ _ c.requires.0 c.ended.ensures c.if-ended.false)

pub returns-clause-by_index : goal.returns-clause-by_index
returns-clause-by_index c =
    let w = c.args.written.now in
    let i = c.args.i in
    let asc = c.requires.0 in
    let e = c.stride_end-e.ensures in
    let q = quotient_small (page_at w i % 256) (page_at w (i + 1) - page_at w i) (omega arith)
    (small _ _ _ asc c.ended.ensures c.if-ended.false).1 in
    λ g. strided_at _ _ asc (goes _ _ _ c.ended.ensures c.if-ended.false) _ e.0 _ _ (less _ _ (omega arith) (omega (arith, q)))
