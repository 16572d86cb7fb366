-- Document 02, d: the plain engine's state, "one 32-bit page number per logical page". Assumes nothing.
use Rattle.std.specs.Prelude.{List, [], ◌∷◌, Bool, true, false, ◌&&◌, ◌||◌, ℕ, suc, ◌/◌, ◌%◌, ltb, leb, eqb, get_or}
use Rattle.std.proofs.Math.Option.{Option, none, some}
use Rattle.model.specs.Lists.{all, distinct, or_else}
use Rattle.model.specs.Device.{Device, pages, Region, head_length, count_length, regions_length}

-- The state holds M, B, N, g, each block's count of written pages (0 is free) and for each logical page its entry. Beside them its
-- length in bytes.
pub record Table : Type 0 where
  pub bytes : ℕ
  pub device : Device
  pub counts : List ℕ
  pub entries : List ℕ

-- the table with other counts; with other entries
abbrev pub with_counts : List ℕ → Table → Table
with_counts cs t = record { bytes = t.bytes; device = t.device; counts = cs; entries = t.entries }

abbrev pub with_entries : List ℕ → Table → Table
with_entries es t = record { bytes = t.bytes; device = t.device; counts = t.counts; entries = es }

-- the bytes of an entry: "one 32-bit page number"
unfoldable pub entry_length : ℕ
entry_length = 4

-- docs/LAYOUT.md: head, counts, entries
unfoldable pub table_regions : Device → List Region
table_regions d =
    record { cells = 1; width = head_length }
    ∷ record { cells = d.M; width = count_length }
    ∷ record { cells = d.N; width = entry_length }
    ∷ []

unfoldable pub table_length : Device → ℕ
table_length d = regions_length (table_regions d)

-- "4,294,967,295 (not written)"
unfoldable pub no_page : ℕ
no_page = 4294967295

-- the entry of logical page x
abbrev pub entry_at : Table → ℕ → ℕ
entry_at t x = get_or t.entries x no_page

-- the page that an entry names, if any
unfoldable pub page_of : ℕ → Option ℕ
page_of e = elim (eqb e no_page) [ true ↦ none | false ↦ some e ]

-- "a written page": it exists, and its place in its block is below the block's count
unfoldable pub is_written : Table → ℕ → Bool
is_written t p = ltb p (pages t.device) && ltb (p % t.device.B) (get_or t.counts (p / t.device.B) 0)

-- an entry is sound if it isn't one "that is neither 4,294,967,295 (not written) nor a written page"
unfoldable pub sound_entry : Table → ℕ → Bool
sound_entry t e = eqb e no_page || is_written t e

-- the pages that entries name
unfoldable pub named_pages : List ℕ → List ℕ
named_pages [] = []
named_pages (e ∷ es) = elim (eqb e no_page) [ true ↦ named_pages es | false ↦ e ∷ named_pages es ]

-- "for flush and collection also two entries naming one page, or a count above B"
unfoldable pub sound_table : Table → Bool
sound_table t =
    all (sound_entry t) t.entries
    && distinct (named_pages t.entries)
    && all (λ c. leb c t.device.B) t.counts

-- the first of the entries, the first of them logical page x's, that names page p: its logical page
unfoldable pub naming : ℕ → ℕ → List ℕ → Option ℕ
naming p x [] = none
naming p x (e ∷ es) = or_else (eqb e p) x (naming p (suc x) es)
