-- A device that is taken has room, and its format is accepted.
use native.Mathlib.Omega.{arith}
use Prim.Native.Nat.{◌≤◌}
use lib.ListN.{length}
use mathlib.Core.Path.{refl, sym, ◌∙◌}
use Rattle.front.specs.Read.{numbers_of}
use Rattle.calls.specs.Outcome.{number}
use Rattle.answers.specs.Answers.{answer_by}
use Rattle.listing.proofs.Room.{not_within, inside}
use Rattle.listing.proofs.Parts.{takes_device_lem, takes_as, not_refused, obeyed_split, split-length}
use Rattle.listing.proofs.lent.Memory.format.Goals as goal

pub returns-in_default : goal.returns-in_default
returns-in_default c = ((not_within _ c.in_default.ensures, refl, refl), refl, refl)

pub split_at_mut-part-requires : goal.split_at_mut-part-requires
split_at_mut-part-requires c =
    let i = inside (numbers_of c.in-Some.d) (sym c.takes.ensures ∙ c.if-not-takes.false) in
    omega (arith, i.state, c.state_len-s.ensures, c.requires.bytes)

pub split_at_mut-entries-requires : goal.split_at_mut-entries-requires
split_at_mut-entries-requires c =
    let i = inside (numbers_of c.in-Some.d) (sym c.takes.ensures ∙ c.if-not-takes.false) in
    omega (arith, i.spare, c.spare_len-p.ensures, c.requires.entries)

pub returns-in_err-format : goal.returns-in_err-format
unfolding number answer_by
returns-in_err-format c =
    let t = sym c.takes.ensures ∙ c.if-not-takes.false in
    let i = inside (numbers_of c.in-Some.d) t in
    let state = c.split_at_mut-part.ensures in
    let spare = c.split_at_mut-entries.ensures in
    let part : c.state_len-s.result ≤ length c.args.self.now.state = omega (arith, i.state, c.state_len-s.ensures, c.requires.bytes) in
    let entries : c.spare_len-p.result ≤ length c.args.self.now.spare = omega (arith, i.spare, c.spare_len-p.ensures, c.requires.entries) in
    absurd
    (not_refused _ _ _ _ _ _ _ _ t c.state_len-s.ensures c.spare_len-p.ensures c.requires.bytes c.requires.entries
    (obeyed_split c.in_err-format.ensures refl part entries state.front state.back spare.front spare.back refl refl c.format.auto.state c.format.auto.spare))

pub returns : goal.returns
unfolding number answer_by
returns c =
    let t = sym c.takes.ensures ∙ c.if-not-takes.false in
    let i = inside (numbers_of c.in-Some.d) t in
    let state = c.split_at_mut-part.ensures in
    let spare = c.split_at_mut-entries.ensures in
    let part : c.state_len-s.result ≤ length c.args.self.now.state = omega (arith, i.state, c.state_len-s.ensures, c.requires.bytes) in
    let entries : c.spare_len-p.result ≤ length c.args.self.now.spare = omega (arith, i.spare, c.spare_len-p.ensures, c.requires.entries) in
    takes_as _ _ _ _ _ c.in-Some.ensures (takes_device_lem (numbers_of c.in-Some.d) _ _ _ _ _ _ _ t c.state_len-s.ensures c.spare_len-p.ensures c.requires.bytes c.requires.entries
    (split-length _ _ _ _ _ part state.front state.back c.format.auto.state ∙ c.requires.bytes)
    (split-length _ _ _ _ _ entries spare.front spare.back c.format.auto.spare ∙ c.requires.entries)
    (obeyed_split c.in_ok-format.ensures refl part entries state.front state.back spare.front spare.back refl refl c.format.auto.state c.format.auto.spare))
