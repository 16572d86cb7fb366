-- The places of a sorted batch: the page at a place, and the offsets of its group from there on. Assumes nothing.
use Rattle.std.specs.Prelude.{List, ◌∷◌, ℕ, ◌+◌, ◌/◌, ◌%◌, get_or, drop}
use Rattle.model.specs.Learning.{ahead}

-- the page at place i
abbrev pub page_at : List ℕ → ℕ → ℕ
page_at w i = get_or w i 0

-- the offsets from place j on that lie in group k
unfoldable pub ahead_of : List ℕ → ℕ → ℕ → List ℕ
ahead_of w k j = ahead k (drop j w)

-- the offsets behind place i, in its page's group
unfoldable pub offsets_behind : List ℕ → ℕ → List ℕ
unfolding ahead_of
offsets_behind w i = ahead_of w (page_at w i / 256) (i + 1)

-- the offsets from place i on, in its page's group
abbrev pub offsets_from : List ℕ → ℕ → List ℕ
offsets_from w i = page_at w i % 256 ∷ offsets_behind w i
