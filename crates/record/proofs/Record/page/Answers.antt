-- `page` meets its contract: by the prediction's sign and the number of pages.
use Rattle.std.proofs.Common.{arith, ap, ◌≡◌, ◌∙◌, to_z, of_z, w64}
use Rattle.std.proofs.lemmas.Int.{ints}
use lib.IntN.{pos}
use mir.Facts.{to_z-of_z}
use Rattle.model.specs.Options.{as_option}
use Rattle.record.specs.Read.{existing}
use Rattle.record.proofs.Pages.{page_negative, page-inside, page-beyond}
use Rattle.record.proofs.Record.page.Goals as goal
use Rattle.record.proofs.Record.page.Goals.{else-z-ge0-via-then-z-ge0+else-z-from, else-z-ge0-via-else-z-ge0}

pub returns-then-z-from : goal.returns-then-z-from
unfolding as_option
returns-then-z-from c = λ L.
    let is = to_z-of_z {w = w64} (record { sfits = c.predict-z.type_inv }) ∙ c.predict-z.ensures L in
    let most : to_z w64 (of_z w64 c.from.result) ≡ pos c.args.pages = omega (arith, ints) in
    page-inside _ _ c.if-z-ge0.true (rw most at c.if-z-from.true) ∙ ap (existing _) is

pub returns-else-z-ge0 : goal.returns-else-z-ge0
unfolding as_option
returns-else-z-ge0 c = λ L.
    let is = to_z-of_z {w = w64} (record { sfits = c.predict-z.type_inv }) ∙ c.predict-z.ensures L in
    elim c.else-z-ge0.branch [
      | else-z-ge0-via-then-z-ge0+else-z-from w ↦
          let most : to_z w64 (of_z w64 w.from.result) ≡ pos c.args.pages = omega (arith, ints) in
          page-beyond _ _ (rw most at w.if-z-from.false) ∙ ap (existing _) is
      | else-z-ge0-via-else-z-ge0 w ↦ page_negative _ _ w.if-z-ge0.false ∙ ap (existing _) is
    ]
