-- `shrunk` meets its contract: the two searches have found the first and the last that the test picks.
use Rattle.std.proofs.Common.{rules, ap, ◌∙◌}
use mir.Facts.{to_z-of_z}
use Rattle.model.proofs.Shrink.{step-sub}
use Rattle.model.specs.Options.{as_option}
use Rattle.record.specs.Scan.{stays}
use Rattle.record.proofs.Masks.{stays-taken}
use Rattle.record.proofs.Scans.{found_some, found_none}
use Rattle.record.proofs.Ends.{none_left, some_left}
use Rattle.record.proofs.Record.shrunk.Goals as goal

pub returns-in_err-start : goal.returns-in_err-start
unfolding as_option
returns-in_err-start c = λ L t is.
    let first = c.in_err-start.ensures.found (stays c.args.mask.now) (λ o r low high post. search (stays-taken, rules)) in
    let (f, w, h) = found_none (stays c.args.mask.now) c.args.s c.args.d c.args.e first in
    ap as_option c.from_residual.ensures ∙ none_left t (stays c.args.mask.now) _ _ _ c.requires.4 is _ f w h

pub last-requires-clause-bounds : goal.last-requires-clause-bounds
unfolding as_option
last-requires-clause-bounds c =
    let first = c.in_ok-start.ensures.found (stays c.args.mask.now) (λ o r low high post. search (stays-taken, rules)) in
    let (w, h) = found_some (stays c.args.mask.now) c.args.s c.args.d c.args.e _ first in
    (c.requires.1, h, c.requires.4, step-sub _ _ _ _ w.0.low h w.0.step c.requires.5)

pub overflow_sub-span : goal.overflow_sub-span
unfolding as_option
overflow_sub-span c =
    let first = c.in_ok-start.ensures.found (stays c.args.mask.now) (λ o r low high post. search (stays-taken, rules)) in
    let (w, h) = found_some (stays c.args.mask.now) c.args.s c.args.d c.args.e _ first in
    (c.last.ensures (stays c.args.mask.now) (λ o r low high post. search (stays-taken, rules)) (w.1 h)).0.low

pub returns : goal.returns
unfolding as_option
returns c = λ L t is.
    let first = c.in_ok-start.ensures.found (stays c.args.mask.now) (λ o r low high post. search (stays-taken, rules)) in
    let (w, h) = found_some (stays c.args.mask.now) c.args.s c.args.d c.args.e _ first in
    let last = c.last.ensures (stays c.args.mask.now) (λ o r low high post. search (stays-taken, rules)) (w.1 h) in
    some_left t (stays c.args.mask.now) _ _ _ c.requires.4 is _ _ w _ h last _ (search (to_z-of_z, rules))
