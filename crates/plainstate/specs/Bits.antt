-- How a table is tested: with a bit for each page of the device (model's Marks), which an entry that names it sets. Nothing is asked
-- meanwhile. The table is sound if the written pages have as many bits set as there are entries that name a page: one that names no
-- written page, or one that another names too, has set none of these. Assumes nothing.
use Rattle.std.specs.Prelude.{◌≡◌, List, [], ◌∷◌, Bool, true, false, ◌&&◌, ◌||◌, ℕ, suc, ◌+◌, ◌<◌, ltb, leb, eqb, length, take}
use Rattle.model.specs.Lists.{elem, select}
use Rattle.model.specs.Device.{Device, first_page}
use Rattle.model.specs.Marks.{is_marked}
use Rattle.plain.specs.Table.{no_page, named_pages}

-- no page is marked
abbrev pub Blank : List ℕ → Type 0
Blank bits = (p : ℕ) → is_marked bits p ≡ false

-- page p is one of those from a up to e
unfoldable pub inside : (a e p : ℕ) → Bool
inside a e p = leb a p && ltb p e

-- beside the pages that were marked, those from a up to e are
abbrev pub Marked : (a e : ℕ) (before after : List ℕ) → Type 0
Marked a e before after = (p : ℕ) → is_marked after p ≡ (inside a e p || is_marked before p)

-- what each bit of a byte counts
unfoldable pub bit_values : List ℕ
bit_values = 1 ∷ 2 ∷ 4 ∷ 8 ∷ 16 ∷ 32 ∷ 64 ∷ 128 ∷ []

-- of the n pages of the device those are marked that the first x entries name
abbrev pub NamedTo : (n x : ℕ) (es bits : List ℕ) → Type 0
NamedTo n x es bits = (p : ℕ) → p < n → is_marked bits p ≡ elem p (take x es)

-- 1 where an entry names a page, or a number that is no page's, else 0
unfoldable pub names : ℕ → ℕ
names e = elim (eqb e no_page) [ true ↦ 0 | false ↦ 1 ]

-- how many of the first x entries do
abbrev pub named_to : (x : ℕ) (es : List ℕ) → ℕ
named_to x es = length (named_pages (take x es))

-- the pages that pass a test, among each block's written ones, all together; the first count is block k's
unfoldable pub counted_from : (ℕ → Bool) → Device → ℕ → List ℕ → ℕ
counted_from v d k [] = 0
counted_from v d k (c ∷ cs) = length (select v c (first_page d k)) + counted_from v d (suc k) cs
