-- How much memory the listing program has. Assumes nothing.
use Rattle.std.specs.Prelude.{ℕ}

-- "up to 64 decimal numbers, each right-justified in 8", behind an operation in 2 columns: 514 bytes, and one more to tell a longer line
abbrev pub line_room : ℕ
line_room = 515

-- "N up to 1,024 and 8,192 spare entries"
abbrev pub page_room : ℕ
page_room = 1024

abbrev pub spare_room : ℕ
spare_room = 8192

-- so at most 2,048 blocks, of 4 pages with an entry each, and the state of 1,024 logical pages with them
abbrev pub block_room : ℕ
block_room = 2048

abbrev pub state_room : ℕ
state_room = 26784

-- the largest block has 256 pages
abbrev pub plan_room : ℕ
plan_room = 256

-- what one line prints: at most a head line of 35 characters and 512 records' lines of at most 56
abbrev pub reply_room : ℕ
reply_room = 28707
