-- A group whose two words are 0 is read as an empty one, whatever its other bytes hold. Assumes nothing.
use mathlib.Core.Path.{◌≡◌, ◌∙◌}
use mathlib.Core.List.{List, []}
use Prim.Native.Nat.{ℕ}
use native.Mathlib.Omega.{arith}
use lib.ListN.{length}
use Rattle.model.specs.Device.{group_length}
use Rattle.model.specs.Lists.{store}
use Rattle.model.proofs.Lists.{length-store}
use Rattle.octets.specs.Little.{le16, bytes2}
use Rattle.octets.proofs.Same.{stored-below}
use Rattle.octets.proofs.ReadWrite.{le16_same, le16-stored}
use Rattle.group.specs.Layout.{used_place, flag_place, used_of, flag_of}
use Rattle.group.specs.Reading.{read_group}
use Rattle.group.proofs.Holding.{none_read}

pub empty-read : (b t u : List ℕ) → length b ≡ group_length → t ≡ store b used_place (bytes2 0) → u ≡ store t flag_place (bytes2 0) → read_group u ≡ []
unfolding group_length used_of flag_of
empty-read b t u size e f =
    let long : length t ≡ group_length = rw e (length-store b used_place (bytes2 0) ∙ size) in
    let used : le16 t used_place ≡ 0 = rw e (le16-stored b used_place 0 (omega arith) (omega arith)) in
    none_read u
    (rw f (le16_same (stored-below 2 t flag_place (bytes2 0) used_place (omega arith)) ∙ used))
    (rw f (le16-stored t flag_place 0 (omega arith) (omega arith)))
