-- `level_end` meets its contract: the slots of level 0 end where the test of their levels turns.
use Prim.Native.Nat.{ℕ}
use borrow.Author.Rules.{rules}
use lib.Dec.{eqb}
use lib.ListN.{length, get_or}
use mathlib.Core.Bool.{Bool}
use Rattle.group.specs.Layout.{slots_of}
use Rattle.group.specs.Answers.{no_slot}
use Rattle.insertion.specs.Searches.{Border}
use Rattle.insertion.proofs.Searches.{level_found}
use Rattle.insertion.proofs.level_end.Goals as goal

pub returns : goal.returns
returns c =
    let t : ℕ → Bool = λ (i : ℕ). eqb (get_or (slots_of c.args.b.now) i no_slot).level 0 in
    let so : Border t (length (slots_of c.args.b.now)) c.border.result c.border.result = rw c.used-n.ensures.1 at (c.border.ensures t (λ i r inside post. search rules)) in
    (so.inside, level_found _ _ so)
