-- A marked page's lookup is 'not written' with 0 levels looked at, and its page is not valid; that of another page goes down the levels.
-- Assumes nothing.
use mathlib.Core.Path.{◌≡◌, refl, ◌∙◌, ap}
use mathlib.Core.List.{List}
use mathlib.Core.Bool.{true, false, ◌&&◌, and-false}
use Prim.Native.Nat.{ℕ}
use lib.Dec.{ltb}
use Rattle.model.specs.Spare.{middle}
use Rattle.model.specs.Marks.{is_marked}
use Rattle.model.specs.State.{State}
use Rattle.calls.specs.Outcome.{Outcome}
use Rattle.calls.specs.Lookup.{Looked, nowhere, descend, seek, answer_of, lookup_done}
use Rattle.calls.specs.Collection.{gives, valid}
use Rattle.calls.specs.History.{lend, lent_to, checks_of, effect, run}
use Rattle.calls.specs.Marked.{MarkedUnwritten, MarkedInvalid}
use Rattle.calls.proofs.Decided.{unless-accepts}

module _ (s : State) (spare : List ℕ) (x : ℕ) where
  -- Of a marked page no record is looked at ..
  pub seek-marked : is_marked s.marks x ≡ true → seek s spare x ≡ nowhere 0
  unfolding seek
  seek-marked e = rw (e, seek) refl

  -- .. and another's are.
  pub seek_unmarked : is_marked s.marks x ≡ false → seek s spare x ≡ descend s spare x
  unfolding seek
  seek_unmarked e = rw (e, seek) refl

-- "lookup then says 'not written' with 0 levels looked at", and never refuses 7
pub marked-unwritten : MarkedUnwritten
unfolding run lent_to checks_of effect lookup_done lend answer_of
marked-unwritten s spare x m e = ap (λ (o : Outcome). o.answer) (unless-accepts _ _ _ e) ∙ ap answer_of (seek-marked s spare x m)

-- "Collection treats its page as not valid"
pub marked_invalid : MarkedInvalid
unfolding valid gives
marked_invalid s spare p m = ap (λ (o : Looked). ltb x s.device.N && gives p o) (seek-marked s spare x m) ∙ and-false (ltb x s.device.N)
  where
    x : ℕ
    x = middle s.device spare p
