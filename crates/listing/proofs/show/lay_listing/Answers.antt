-- Behind the head line the lines of the first i records are laid out; each takes at most 56 characters.
use native.Mathlib.Omega.{arith}
use mathlib.Core.Path.{◌≡◌}
use Rattle.lines.proofs.Texts.{laid_then}
use Rattle.listing.proofs.Listed.{head_length_lem, no_lines, lines_laid}
use Rattle.listing.proofs.show.lay_listing.Goals as goal

pub loop-i-init : goal.loop-i-init
loop-i-init c =
    let head = c.lay_head-at in
    (omega arith, no_lines _ c.args.listing.now _ (omega (arith, head.ensures.inside, head.auto.out)))

pub lay_listed-at-requires : goal.lay_listed-at-requires
lay_listed-at-requires c =
    let head = c.lay_head-at in
    (omega (arith, head_length_lem head.ensures, head.auto.out), omega arith)

pub loop-i-preserved : goal.loop-i-preserved
loop-i-preserved c =
    let loop = c.loop-i in
    let line = c.lay_listed-at in
    (omega (arith, line.ensures.1), lines_laid loop.i c.args.listing.now loop.invariant.1 line.ensures.0)

pub returns : goal.returns
returns c =
    let all : c.loop-i.i ≡ c.args.n = omega arith in
    laid_then c.lay_head-at.ensures (rw all at c.loop-i.invariant.1)
