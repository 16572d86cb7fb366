-- Bytes that move inside a list, and a packed array of slots of one width in it. Assumes nothing.
use Rattle.std.specs.Prelude.{ℕ, zero, suc, ◌+◌, ◌*◌, List, [], ◌∷◌, take, drop}
use Rattle.model.specs.Lists.{store}

-- the list with its n bytes from place q on stored from place p on
unfoldable pub moved : List ℕ → ℕ → ℕ → ℕ → List ℕ
unfolding store
moved s p q n = store s p (take n (drop q s))

-- the bytes of slot i, of slots of `width` bytes that stand one after the other from place base on
unfoldable pub slot_at : ℕ → ℕ → List ℕ → ℕ → List ℕ
slot_at width base s i = take width (drop (base + i * width) s)

-- the first n slots
unfoldable pub slots : ℕ → ℕ → ℕ → List ℕ → List (List ℕ)
unfolding slot_at
slots width base zero s = []
slots width base (suc n) s = slot_at width base s 0 ∷ slots width (base + width) n s

-- the list with v before its element i, or at its end
unfoldable pub insert_at : {A : Type 0} → ℕ → A → List A → List A
insert_at zero v l = v ∷ l
insert_at (suc i) v [] = v ∷ []
insert_at (suc i) v (x ∷ l) = x ∷ insert_at i v l

-- the list without its element i
unfoldable pub remove_at : {A : Type 0} → ℕ → List A → List A
remove_at i [] = []
remove_at zero (x ∷ l) = l
remove_at (suc i) (x ∷ l) = x ∷ remove_at i l
