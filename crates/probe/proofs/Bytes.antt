-- The records' bytes go one behind the other, and those left to store make the whole. Assumes nothing.
use mathlib.Core.Path.{◌≡◌, refl, sym, ap, ◌∙◌}
use mathlib.Core.List.{List, [], ◌∷◌}
use Prim.Native.Nat.{ℕ, ◌+◌, ◌*◌, ◌≤◌, ◌<◌}
use native.Mathlib.Omega.{arith}
use lib.ListN.{length}
use Rattle.model.specs.Lists.{store}
use Rattle.model.specs.Learning.{Bounds, Run}
use Rattle.model.proofs.Lists.{length-store, store_nil}
use Rattle.octets.proofs.Stores.{store_then}
use Rattle.record.specs.declared.Record.{Record}
use Rattle.record.specs.Read.{bare}
use Rattle.record.specs.Coding.{eight}
use Rattle.record.proofs.Coding.{length-eight}
use Rattle.learn.specs.Runs.{run_at}
use Rattle.learn.proofs.Storing.{all, rest, rest-start, rest-after, rest_none, Stored}
use Rattle.probe.specs.Encoded.{encoded}

-- the bytes of one run more, of none
encoded_next : (s : List ℕ) (n : ℕ) (r : Run) (rs : List Run)
    → store s (8 * n) (encoded (r ∷ rs)) ≡ store (store s (8 * n) (eight (bare r.learned))) (8 * (n + 1)) (encoded rs)
unfolding encoded
encoded_next s n r rs =
    let v : List ℕ = eight (bare r.learned) in
    let e : 8 * n + length v ≡ 8 * (n + 1) = omega (arith, length-eight (bare r.learned)) in
    sym (store_then s (8 * n) v (encoded rs)) ∙ ap (λ (p : ℕ). store (store s (8 * n) v) p (encoded rs)) e

encoded_none : (s : List ℕ) (p : ℕ) (rs : List Run) → rs ≡ [] → store s p (encoded rs) ≡ s
unfolding encoded
encoded_none s p rs e = rw e (store_nil s p)

-- the bytes of n runs are stored, up to place i
pub record Bytes (b : Bounds) (w out₀ out : List ℕ) (i n : ℕ) : Type 0 where
  pub kept : length out ≡ length out₀
  pub bytes : store out₀ 0 (encoded (all b w)) ≡ store out (8 * n) (encoded (rest b w i n))

pub bytes-start : (b : Bounds) (w out : List ℕ) → Bytes b w out out 0 0
bytes-start b w out = record { kept = refl; bytes = ap (λ (rs : List Run). store out 0 (encoded rs)) (rest-start b w) }

module _ (b : Bounds) (w taken₀ taken : List ℕ) (i n : ℕ) (s : Stored b w taken₀ taken i n) (out₀ out : List ℕ) (l : Bytes b w out₀ out i n) where
  -- one run more: the code's record r is the run's, and it takes t pages
  pub bytes_next : i < length w → 1 ≤ (run_at b w i).taken → (t : ℕ) → t ≡ (run_at b w i).taken → (r : Record) → r ≡ bare (run_at b w i).learned → (u : List ℕ) → u ≡ store out (8 * n) (eight r)
      → Bytes b w out₀ u (i + t) (n + 1)
  bytes_next h f t et r er u eu = record {
    kept = ap length eu ∙ length-store out (8 * n) (eight r) ∙ l.kept;
    bytes =
        l.bytes ∙ ap (λ (rs : List Run). store out (8 * n) (encoded rs)) (rest-after b w taken₀ taken i n s h f t et) ∙ encoded_next out n (run_at b w i) (rest b w (i + t) (n + 1))
        ∙ ap (λ (v : List ℕ). store v (8 * (n + 1)) (encoded (rest b w (i + t) (n + 1)))) (sym (eu ∙ ap (λ (c : Record). store out (8 * n) (eight c)) er));
  }

  -- all of them
  pub bytes_all : length w ≤ i → out ≡ store out₀ 0 (encoded (all b w))
  bytes_all h = sym (l.bytes ∙ encoded_none out (8 * n) _ (rest_none b w taken₀ taken i n s h))
