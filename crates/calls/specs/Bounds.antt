-- How large the values of an answer get, whatever the call is lent. Assumes nothing.
use Rattle.std.specs.Prelude.{ℕ, ◌≤◌, ◌<◌}
use Rattle.model.specs.Levels.{group_limit}
use Rattle.calls.specs.Outcome.{Answer, formatted, flushed, found, not_written, discarded, collected, compacted, agreed, listed, explained, refused}

-- the pages of the largest device, 4,096 × 256
abbrev pub page_limit : ℕ
page_limit = 1048576

-- pages below that, at most 256 pages of a block, 512 levels and records of a group, 4,096 blocks
unfoldable pub Bounded : Answer → Type 0
Bounded formatted = Unit {0}
Bounded (flushed p n) = (p < page_limit) × (n ≤ 256)
Bounded (found p q n) = (p < page_limit) × (q < page_limit) × (n ≤ group_limit)
Bounded (not_written n) = n ≤ group_limit
Bounded discarded = Unit {0}
Bounded (collected p n e) = (p < page_limit) × (n ≤ 256) × (e ≤ 4096)
Bounded (compacted n) = n ≤ group_limit
Bounded (agreed t) = Unit {0}
Bounded (listed n) = n ≤ group_limit
Bounded (explained n) = n ≤ group_limit
Bounded (refused r) = Unit {0}
