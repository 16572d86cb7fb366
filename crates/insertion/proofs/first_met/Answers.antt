-- `first_met` meets its contract: the early ones of level 0 end where the test of their ends turns.
use Prim.Native.Nat.{ℕ}
use borrow.Author.Rules.{rules}
use lib.ListN.{get_or}
use mathlib.Core.Bool.{Bool}
use Rattle.group.specs.Layout.{slots_of}
use Rattle.group.specs.Answers.{no_slot}
use Rattle.insertion.specs.Searches.{is_early}
use Rattle.insertion.proofs.Searches.{early_found}
use Rattle.insertion.proofs.first_met.Goals as goal

pub returns : goal.returns
returns c =
    let t : ℕ → Bool = λ (i : ℕ). is_early c.args.start (get_or (slots_of c.args.b.now) i no_slot) in
    let so = c.border.ensures t (λ i r inside post. search rules) in
    (so.inside, early_found _ _ _ _ so)
