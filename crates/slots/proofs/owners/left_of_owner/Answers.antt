-- `left_of_owner` meets its contract: the first and last offsets that stay are what is left, and the pass hands them on.
use Prim.Native.Nat.{ℕ, ◌+◌}
use mathlib.Core.Bool.{Bool}
use borrow.Author.Rules.{rules}
use Rattle.model.specs.Options.{as_option}
use Rattle.record.specs.Scan.{masked}
use Rattle.record.proofs.Scans.{found_some, found_none}
use Rattle.group.specs.Layout.{owner_of}
use Rattle.slots.specs.Owners.{left_to, start_left}
use Rattle.slots.proofs.Leaving.{nothing_left, something_left, owners-left}
use Rattle.slots.proofs.owners.left_of_owner.Goals as goal

pub returns-in_default : goal.returns-in_default
unfolding as_option start_left
returns-in_default c =
    let t : ℕ → Bool = λ (o : ℕ). left_to c.args.r.start (masked c.args.taken.now o) (owner_of c.args.b.now o) in
    let first = c.in_default.ensures.found t (λ o r low high post. search rules) in
    let (f, w, h) = found_none t c.args.r.start 1 (c.args.r.start + c.args.r.span) first in
    owners-left c.args.r c.requires.4 _ _ c.args.taken.now _ c.requires.5 c.hand_on.ensures
    (nothing_left c.args.r c.requires.4 _ c.args.taken.now c.requires.2 c.requires.5 _ w h)

pub overflow_sub-span : goal.overflow_sub-span
unfolding as_option
overflow_sub-span c =
    let t : ℕ → Bool = λ (o : ℕ). left_to c.args.r.start (masked c.args.taken.now o) (owner_of c.args.b.now o) in
    let first = c.in-Some.ensures.found t (λ o r low high post. search rules) in
    let (w, h) = found_some t c.args.r.start 1 (c.args.r.start + c.args.r.span) _ first in
    (c.last.ensures t (λ o r low high post. search rules) (w.1 h)).0.low

pub returns : goal.returns
unfolding as_option start_left
returns c =
    let t : ℕ → Bool = λ (o : ℕ). left_to c.args.r.start (masked c.args.taken.now o) (owner_of c.args.b.now o) in
    let first = c.in-Some.ensures.found t (λ o r low high post. search rules) in
    let (w, h) = found_some t c.args.r.start 1 (c.args.r.start + c.args.r.span) _ first in
    owners-left c.args.r c.requires.4 _ _ c.args.taken.now _ c.requires.5 c.hand_on-2.ensures
    (something_left c.args.r c.requires.4 _ c.args.taken.now c.requires.2 c.requires.5 _ _ _ w h
    (c.last.ensures t (λ o r low high post. search rules) (w.1 h)) (search rules))
