-- The predicted page exists or not, and its entries name one or nobody.
use Rattle.std.proofs.Common.{◌≡◌, None, Some, [], sym, ap, ◌∙◌, arith}
use Rattle.std.proofs.lemmas.Result.{err_from_is_err_and}
use Rattle.model.specs.Device.{pages}
use Rattle.model.specs.Options.{as_option}
use Rattle.front.specs.Read.{numbers_of}
use Rattle.answers.specs.declared.Refusal.TheVariants.{NotNamed}
use Rattle.answers.specs.Answers.{answer_by, found_or_not, refusal_of}
use Rattle.state.proofs.Places.{pages-small}
use Rattle.state.proofs.Seeking.{no_page_lem, page_exists, page_named_lem, page-unnamed}
use Rattle.state.proofs.seek.named.Goals as goal

pub overflow_mul-d : goal.overflow_mul-d
overflow_mul-d c = omega (arith, pages-small (numbers_of c.args.d) c.args.d.limits)

pub returns-in_err-q : goal.returns-in_err-q
unfolding answer_by refusal_of pages as_option
returns-in_err-q c L =
    let p = err_from_is_err_and c.from_residual.result c.from_residual.ensures.1 in
    let outside : c.page.result ≡ None = grind arith in
    let why : c.in_err-q.field-0.0 ≡ NotNamed = grind arith in
    rw (p.1, p.2, why) (no_page_lem _ _ _ _ _ (sym (ap as_option outside) ∙ c.page.ensures L))

pub page_named-requires : goal.page_named-requires
unfolding pages as_option
page_named-requires c =
    let inside : c.page.result ≡ Some c.in_ok-q.q = grind arith in
    (c.requires.0, page_exists (numbers_of c.args.d) c.args.spare.now c.args.page c.args.n _ _ (sym (ap as_option inside) ∙ c.page.ensures []))

pub returns-in_err-p : goal.returns-in_err-p
unfolding answer_by refusal_of pages as_option
returns-in_err-p c L =
    let p = err_from_is_err_and c.from_residual-in_err-p.result c.from_residual-in_err-p.ensures.1 in
    let inside : c.page.result ≡ Some c.in_ok-q.q = grind arith in
    let nobody : c.page_named.result ≡ None = grind arith in
    let why : c.in_err-p.field-0.0 ≡ NotNamed = grind arith in
    rw (p.1, p.2, why) (page-unnamed _ _ _ _ _ _ (sym (ap as_option inside) ∙ c.page.ensures L) (sym (ap as_option nobody) ∙ c.page_named.ensures))

pub returns : goal.returns
unfolding answer_by found_or_not pages as_option
returns c L =
    let inside : c.page.result ≡ Some c.in_ok-q.q = grind arith in
    let one : c.page_named.result ≡ Some c.in_ok-p.p = grind arith in
    page_named_lem _ _ _ _ _ _ _ (sym (ap as_option inside) ∙ c.page.ensures L) (sym (ap as_option one) ∙ c.page_named.ensures)
