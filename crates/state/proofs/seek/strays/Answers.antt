-- Where the page that the number says exists and its middle entry names the logical page, that is the page that holds it.
use Rattle.std.proofs.Common.{◌≡◌, ◌<◌, ◌+◌, ◌-◌, ◌*◌, ◌%◌, ℕ, ap, ◌∙◌, arith}
use Rattle.std.proofs.Math.Option.{some}
use Rattle.std.proofs.lemmas.Bool.{leb-false, eqb-true, not-false}
use native.Mathlib.Nat.{mul-pos}
use Rattle.model.specs.Device.{pages}
use Rattle.model.specs.Spare.{middle, page_named}
use Rattle.model.proofs.Bools.{or_none}
use Rattle.model.proofs.Limits.{limits}
use Rattle.front.specs.Read.{numbers_of}
use Rattle.spare.proofs.Naming.{named-predicted}
use Rattle.state.proofs.Places.{pages-small}
use Rattle.state.proofs.Telling.{told-plainly}
use Rattle.state.proofs.seek.strays.Goals.{then-q-pages, else-q-pages}
use Rattle.state.proofs.seek.strays.Goals as goal

pub overflow_mul-pages : goal.overflow_mul-pages
overflow_mul-pages c = omega (arith, pages-small (numbers_of c.args.d) c.args.d.limits)

pub middle-requires : goal.middle-requires
unfolding pages
middle-requires c =
    let l = limits (numbers_of c.args.d) c.args.d.limits in
    let m : 0 < c.args.d.m = omega (arith, l.least_M) in
    let b : 0 < c.args.d.b = omega (arith, l.least_B) in
    let some_pages : 0 < c.args.d.m * c.args.d.b = mul-pos m b in (
      c.requires,
      elim c.if-q-pages.branch [ then-q-pages w ↦ omega (arith, w.at-is, w.if-q-pages.true) | else-q-pages w ↦ omega (arith, w.at-is, some_pages) ],
    )

pub returns : goal.returns
unfolding pages
returns c e a t =
    let few = pages-small (numbers_of c.args.d) c.args.d.limits in
    let said : ℕ = (c.args.f % 2097152 + 2096127) % 2097152 in
    let no = or_none _ _ e in
    let there : said < c.args.d.m * c.args.d.b = leb-false _ _ no.0 in
    let is : c.if-q-pages.at ≡ said = elim c.if-q-pages.branch [ then-q-pages w ↦ w.at-is | else-q-pages w ↦ omega (arith, there, w.if-q-pages.false) ] in
    let number : c.args.f % 2097152 ≡ said + 1025 = omega (arith, there, few) in
    let same : said ≡ c.args.f % 2097152 - 1025 = omega (arith, number) in
    let at : c.middle.result ≡ middle (numbers_of c.args.d) c.args.spare.now said = c.middle.ensures ∙ ap (middle (numbers_of c.args.d) c.args.spare.now) is in
    let named : some said ≡ page_named (numbers_of c.args.d) c.args.spare.now said c.args.page = named-predicted _ _ _ _ _ at (eqb-true _ _ (not-false _ no.1)) in
    told-plainly _ _ _ _ few a t (λ z. omega (arith, number, z)) (omega (arith, number)) (omega (arith, same, there)) (rw same at named)
