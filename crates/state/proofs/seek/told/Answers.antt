-- The page's number says whether a record holds the page, and whether the predicted page exists; its entries name one or nobody.
use Rattle.std.proofs.Common.{◌≡◌, None, Some, sym, ap, ◌∙◌, arith}
use Rattle.std.proofs.lemmas.Result.{err_from_is_err_and}
use Rattle.model.specs.Device.{pages}
use Rattle.model.specs.Options.{as_option}
use Rattle.front.specs.Read.{numbers_of}
use Rattle.answers.specs.declared.Refusal.TheVariants.{NotNamed}
use Rattle.answers.specs.Answers.{answer_by, found_or_not, refusal_of}
use Rattle.state.proofs.Places.{pages-small}
use Rattle.state.proofs.Telling.{told_none, told-low, told_far, told-unnamed, told-found}
use Rattle.state.proofs.seek.told.Goals as goal

pub returns-then-c-eq0 : goal.returns-then-c-eq0
unfolding answer_by found_or_not pages
returns-then-c-eq0 c a t = told_none _ _ _ _ (pages-small (numbers_of c.args.d) c.args.d.limits) a t c.if-c-eq0.true

pub returns-then-c-lt-PAGE_0 : goal.returns-then-c-lt-PAGE_0
unfolding answer_by refusal_of pages
returns-then-c-lt-PAGE_0 c a t = told-low _ _ _ _ (pages-small (numbers_of c.args.d) c.args.d.limits) a t c.if-c-eq0.false c.if-c-lt-PAGE_0.true

pub overflow_mul-d : goal.overflow_mul-d
overflow_mul-d c = omega (arith, pages-small (numbers_of c.args.d) c.args.d.limits)

pub returns-then-d-q : goal.returns-then-d-q
unfolding answer_by refusal_of pages
returns-then-d-q c a t = told_far _ _ _ _ (pages-small (numbers_of c.args.d) c.args.d.limits) a t c.if-c-eq0.false c.if-c-lt-PAGE_0.false c.if-d-q.true

pub page_named-requires : goal.page_named-requires
unfolding pages
page_named-requires c = (c.requires, c.if-d-q.false)

pub returns-in_err-p : goal.returns-in_err-p
unfolding answer_by refusal_of pages as_option
returns-in_err-p c a t =
    let p = err_from_is_err_and c.from_residual.result c.from_residual.ensures.1 in
    let nobody : c.page_named.result ≡ None = grind arith in
    let why : c.in_err-p.field-0.0 ≡ NotNamed = grind arith in
    rw (p.1, p.2, why) (told-unnamed _ _ _ _ (pages-small (numbers_of c.args.d) c.args.d.limits) a t c.if-c-eq0.false c.if-c-lt-PAGE_0.false c.if-d-q.false (sym (ap as_option nobody) ∙ c.page_named.ensures))

pub returns : goal.returns
unfolding answer_by found_or_not pages as_option
returns c a t =
    let some' : c.page_named.result ≡ Some c.in_ok-p.p = grind arith in
    told-found _ _ _ _ (pages-small (numbers_of c.args.d) c.args.d.limits) a t c.if-c-eq0.false c.if-c-lt-PAGE_0.false c.if-d-q.false _ (sym (ap as_option some') ∙ c.page_named.ensures)
