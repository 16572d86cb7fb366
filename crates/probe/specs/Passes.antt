-- What the function on a block's spare entries answers, where its condition is met and where it isn't. Assumes nothing.
use Rattle.std.specs.Prelude.{◌≡◌, List, Bool, true, false, ◌&&◌, ℕ, ltb, leb, eqb}
use Rattle.model.specs.Device.{Device, within_limits, entries_per_block, spare_length}
use Rattle.model.specs.Spare.{pass_block}
use Rattle.probe.specs.Groups.{outside}

-- device numbers within their limits, l spare entries as they give, a block that exists, p written pages that it has, a stop at most its end
unfoldable pub programmable : Device → ℕ → ℕ → ℕ → ℕ → Bool
programmable d l p k stop =
    within_limits d && (eqb l (spare_length d) && (ltb k d.M && (leb p d.B && leb stop (entries_per_block d))))

-- The pass over block k, stopped after so many entries; asked of a programmable one.
unfoldable pub Programs : Bool → Device → List ℕ → ℕ → ℕ → List ℕ → List ℕ → ℕ → Type 0
Programs true d written k stop spare spare' r = (r ≡ 0) × (spare' ≡ pass_block d written k stop spare)
Programs false d written k stop spare spare' r = (r ≡ outside) × (spare' ≡ spare)
