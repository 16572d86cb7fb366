-- A run's pages are in the batch; the runs end where one lies in another group, or with the last. Assumes nothing.
use Rattle.std.proofs.Common.{◌-◌, refl, sym, ◌∙◌, arith}
use Rattle.writing.specs.Handed.{runs_end}
use Rattle.writing.proofs.Places.{place_next, group_here, pages-inside, page-inside}
use Rattle.writing.proofs.RunsEnd.{end_on, end_here}
use Rattle.writing.proofs.end_of.Goals as goal

pub loop-run-init : goal.loop-run-init
unfolding runs_end
loop-run-init c = record { page = c.requires.2.page; end = rw c.requires.3 refl }

pub offset_bounds-written-page : goal.offset_bounds-written-page
offset_bounds-written-page c = omega (arith, page-inside _ _ _ c.loop-run.invariant.page _ _ c.requires.0 c.loop-run-test.true)

pub bounds-written-page : goal.bounds-written-page
bounds-written-page c = page-inside _ _ _ c.loop-run.invariant.page _ _ c.requires.0 c.loop-run-test.true

pub returns-then-written-page : goal.returns-then-written-page
returns-then-written-page c =
    let so = c.loop-run.invariant in
    sym (end_here _ _ _ _ _ (λ l e. c.if-written-page.true (group_here _ _ _ so.page _ ∙ e))) ∙ so.end

pub offset_bounds-taken-run : goal.offset_bounds-taken-run
offset_bounds-taken-run c = omega (arith, c.requires.0.counts)

pub bounds-taken-run : goal.bounds-taken-run
bounds-taken-run c = omega (arith, c.requires.0.counts)

pub overflow_add-page : goal.overflow_add-page
overflow_add-page c = omega (arith, pages-inside _ _ _ c.loop-run.invariant.page _ _ c.requires.0 c.loop-run-test.true)

pub loop-run-preserved : goal.loop-run-preserved
loop-run-preserved c =
    let so = c.loop-run.invariant in
    record {
      page = place_next _ _ _ so.page;
      end = sym (end_on _ _ _ _ _ c.loop-run-test.true (sym (group_here _ _ _ so.page _) ∙ omega (arith, c.if-written-page.false))) ∙ so.end;
    }

pub returns : goal.returns
returns c =
    let so = c.loop-run.invariant in
    let last = sym (end_here _ _ c.args.k c.loop-run.run (c.args.n - c.loop-run.run) (λ l. absurd (let z : ⊥ = omega (arith, l, c.loop-run-test.false) in z))) ∙ so.end in
    omega (arith, last, c.requires.1)
