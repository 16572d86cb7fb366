-- What is known of a level 0 record under an inserted one, by its fate. Assumes nothing.
use mathlib.Core.Path.{◌≡◌, refl}
use mathlib.Core.Option.{Option, none, some}
use mathlib.Core.Bool.{Bool, true, false}
use Prim.Native.Nat.{ℕ, ◌<◌}
use Rattle.model.specs.Record.{Record, member}
use Rattle.model.specs.Levels.{meets, shrink, Fate, stays, sinks, goes, fate_left, fate}
use Rattle.model.proofs.Shrink.{Shrunk, Outcome, gone, left, shrink-outcome}

-- It stays whole, beside r; what is left of it stays beside r, or sinks because it meets r; r has all its members.
pub data View (r s : Record) : Fate → Type 0 where
  whole : meets s r ≡ false → View r s (stays s)
  part : {u : Record} → Shrunk (member r) s u → meets u r ≡ false → View r s (stays u)
  lower : {u : Record} → Shrunk (member r) s u → View r s (sinks u)
  nothing : ((o : ℕ) → o < 256 → member s o ≡ true → member r o ≡ true) → View r s goes

-- a record's fate with what is known then
pub view : (r s : Record) → View r s (fate r s)
unfolding fate fate_left
view r s = go (meets s r) refl
  where
    put : (u : Record) → Shrunk (member r) s u → (t : Bool) → meets u r ≡ t → View r s (fate_left r (some u))
    put u k true p = rw (p, fate_left) (lower k)
    put u k false p = rw (p, fate_left) (part k p)

    cut : (x : Option Record) → Outcome (member r) s x → View r s (fate_left r x)
    cut none (gone k) = nothing k
    cut (some u) (left k) = put u k (meets u r) refl

    go : (t : Bool) → meets s r ≡ t → View r s (fate r s)
    go true q = rw (q, fate) (cut (shrink (member r) s) (shrink-outcome (member r) s))
    go false q = rw (q, fate) (whole q)
