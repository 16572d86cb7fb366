use Rattle.std.proofs.Common.{◌≡◌, ◌<◌, ◌≤◌, ◌+◌, ◌*◌, min, refl, ◌∙◌, arith}
use Rattle.std.proofs.lemmas.Result.{err_from_is_err_and}
use Rattle.model.specs.Device.{group_count}
use Rattle.calls.specs.Agreement.{each_below}
use Rattle.answers.specs.Answers.{answer_by}
use Rattle.state.proofs.Places.{small}
use Rattle.lookup.proofs.Agreeing.{can_foretell, more_told, more_refuses, all_compared, early-refuses}
use Rattle.lookup.proofs.compare.compare.Goals as goal

pub loop-k-init : goal.loop-k-init
unfolding each_below
loop-k-init c =
    let z : min (256 * 0) c.args.a.d.n ≡ 0 = omega arith in
    record { told = rw z (record { named = refl; named' = refl; told = refl }); first = refl; second = refl }

pub overflow_mul-x : goal.overflow_mul-x
unfolding group_count
overflow_mul-x c = omega (arith, c.loop-k-test.true, c.group_count-k-end.ensures, (small _ c.args.a.d.limits).pages)

pub overflow_sub-a : goal.overflow_sub-a
unfolding group_count
overflow_sub-a c = omega (arith, c.loop-k-test.true, c.group_count-k-end.ensures)

pub foretell_pages-requires : goal.foretell_pages-requires
unfolding group_count
foretell_pages-requires c =
    let pre = c.args.a.passed in
    let x : 256 * c.loop-k.k < c.args.a.d.n = omega (arith, c.loop-k-test.true, c.group_count-k-end.ensures) in
    (pre.shape, can_foretell _ _ _ pre _, omega arith, x, omega (arith, c.min-m.ensures, x), omega (arith, c.min-m.ensures), c.loop-k.invariant.first)

pub foretell_pages-requires-in-loop-k : goal.foretell_pages-requires-in-loop-k
unfolding group_count
foretell_pages-requires-in-loop-k c =
    let x : 256 * c.loop-k.k < c.args.a.d.n = omega (arith, c.loop-k-test.true, c.group_count-k-end.ensures) in
    (c.args.b.passed.shape, can_foretell _ _ _ c.args.b.passed _, omega arith, omega (arith, x, c.requires), omega (arith, c.min-m.ensures, x, c.requires), omega (arith, c.min-m.ensures), c.loop-k.invariant.second)

pub compare_group-requires : goal.compare_group-requires
unfolding group_count
compare_group-requires c = (
  omega (arith, c.loop-k-test.true, c.group_count-k-end.ensures, (small _ c.args.a.d.limits).pages),
  omega (arith, c.min-m.ensures),
  c.foretell_pages.ensures.1,
  c.foretell_pages-in-loop-k.ensures.1,
)

pub returns-in_err-same : goal.returns-in_err-same
unfolding group_count answer_by
returns-in_err-same c =
    let e = err_from_is_err_and c.from_residual.result c.from_residual.ensures.1 in
    let next : 256 * c.loop-k.k + c.min-m.result ≤ c.args.a.d.n = omega (arith, c.loop-k-test.true, c.group_count-k-end.ensures, c.min-m.ensures) in
    let seven = more_refuses _ _ _ _ _ _ _ (c.in_err-same.ensures _ _ (c.foretell_pages.ensures.0 _) (c.foretell_pages-in-loop-k.ensures.0 _)) in
    rw (e.1, e.2) (seven.0 ∙ early-refuses _ _ _ _ _ _ c.args.a.passed c.args.b.passed c.requires _ next seven.1)

pub loop-k-preserved : goal.loop-k-preserved
unfolding group_count answer_by
loop-k-preserved c =
    let here : min (256 * c.loop-k.k) c.args.a.d.n ≡ 256 * c.loop-k.k = omega (arith, c.loop-k-test.true, c.group_count-k-end.ensures) in
    let next : min (256 * (c.loop-k.k + 1)) c.args.a.d.n ≡ 256 * c.loop-k.k + c.min-m.result = omega (arith, c.loop-k-test.true, c.group_count-k-end.ensures, c.min-m.ensures) in
    record {
      told = rw next (more_told _ _ _ _ _ _ _ (rw here at c.loop-k.invariant.told) _ (c.in_ok-same.ensures _ _ (c.foretell_pages.ensures.0 _) (c.foretell_pages-in-loop-k.ensures.0 _)));
      first = c.foretell_pages.ensures.1;
      second = c.foretell_pages-in-loop-k.ensures.1;
    }

pub returns : goal.returns
unfolding group_count answer_by
returns c =
    let ended : min (256 * c.loop-k.k) c.args.a.d.n ≡ c.args.a.d.n = omega (arith, c.loop-k-test.false, c.group_count-k-end.ensures) in
    all_compared _ _ _ _ _ _ c.args.a.passed c.args.b.passed c.requires _ _ c.loop-k.invariant.told ended _ refl
