-- What the functions on a batch answer, where their conditions are met and where they aren't. Assumes nothing.
use Rattle.std.specs.Prelude.{◌≡◌, List, Bool, true, false, ◌&&◌, ℕ, ◌+◌, ◌*◌, ltb, leb, length}
use Rattle.model.specs.Lists.{all, ascending, store}
use Rattle.model.specs.Learning.{sorted, logicals, sources, learn}
use Rattle.record.specs.Coding.{record_width}
use Rattle.learn.specs.Runs.{counts}
use Rattle.probe.specs.Encoded.{encoded}
use Rattle.probe.specs.Groups.{outside}

-- a batch of at most 256 pages, each below 2^20, for lists of p and s entries that are not shorter
unfoldable pub sortable : List ℕ → ℕ → ℕ → Bool
sortable batch p s = leb (length batch) 256 && (leb (length batch) p && (leb (length batch) s && all (λ x. ltb x 1048576) batch))

-- The batch sorted: how many pages there are, the logical pages and the index of each one's last arrival; asked of a sortable one.
unfoldable pub Sorts : Bool → List ℕ → List ℕ → List ℕ → List ℕ → List ℕ → ℕ → Type 0
Sorts true batch pages arrivals pages' arrivals' r =
    (r ≡ length (sorted batch)) × (pages' ≡ store pages 0 (logicals (sorted batch))) × (arrivals' ≡ store arrivals 0 (sources (sorted batch)))
Sorts false batch pages arrivals pages' arrivals' r = (r ≡ outside) × (pages' ≡ pages) × (arrivals' ≡ arrivals)

-- an ascending batch of at most 256 pages on pages below 2^21, a bound up to 15, and room for o bytes and t numbers
unfoldable pub learnable : List ℕ → ℕ → ℕ → ℕ → ℕ → Bool
learnable written first g o t =
    leb (length written) 256
    && (leb (first + length written) 2097152 && (leb g 15 && (leb (record_width * length written) o && (leb (length written) t && ascending written))))

-- The batch learned: how many records there are, their bytes, and how many pages each takes; asked of a learnable one.
unfoldable pub Learns : Bool → List ℕ → ℕ → ℕ → List ℕ → List ℕ → List ℕ → List ℕ → ℕ → Type 0
Learns true written first g out taken out' taken' r =
    (r ≡ length (learn g first written)) × (out' ≡ store out 0 (encoded (learn g first written))) × (taken' ≡ store taken 0 (counts (learn g first written)))
Learns false written first g out taken out' taken' r = (r ≡ outside) × (out' ≡ out) × (taken' ≡ taken)
