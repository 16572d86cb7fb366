-- The owner of an offset by the flag, the number of levels by the slots there are, and the entries one by one: each case of the
-- definition. Assumes nothing.
use mathlib.Core.Path.{◌≡◌, refl, sym, ap, ◌∙◌}
use mathlib.Core.List.{List}
use mathlib.Core.Bool.{Bool, true, false}
use Prim.Native.Nat.{ℕ, zero, suc, ◌+◌, ◌-◌, ◌<◌}
use native.Mathlib.Omega.{arith}
use native.Mathlib.Numerals.{add-one}
use lib.Dec.{eqb}
use lib.ListN.{length, get_or, set}
use lib.Seq.{get_or-set_same, get_or-set_other, ext_get_or}
use borrow.Author.Tests.{eqb-true, eqb-false, eq-eqb, ne_eqb}
use Rattle.group.specs.Layout.{flag_of, entry_of, entries_from, entries_of, owner_of, slot_level, levels_at}

pub owner_none : (b : List ℕ) (o : ℕ) → flag_of b ≡ 0 → owner_of b o ≡ 0
unfolding owner_of
owner_none b o e = rw (eq-eqb _ _ e, owner_of)

pub owner-entry : (b : List ℕ) (o : ℕ) → (flag_of b ≡ 0 → ⊥) → owner_of b o ≡ entry_of b o
unfolding owner_of
owner-entry b o n = rw (ne_eqb _ _ n, owner_of)

pub levels_none : (b : List ℕ) (i : ℕ) → i ≡ 0 → levels_at b i ≡ 0
unfolding levels_at
levels_none b i e = rw e

pub levels_some : (b : List ℕ) (i n : ℕ) → (i ≡ 0 → ⊥) → n ≡ slot_level b (i - 1) → n + 1 ≡ levels_at b i
unfolding levels_at
levels_some b i n h e = let q : i ≡ suc (i - 1) = omega arith in rw (q, e, add-one (slot_level b (i - 1)))

-- the entries one by one
length-entries_from : (b : List ℕ) (o n : ℕ) → length (entries_from b o n) ≡ n
unfolding entries_from
length-entries_from b o zero = refl
length-entries_from b o (suc n) = ap suc (length-entries_from b (suc o) n)

get_or-entries_from : (b : List ℕ) (o n x : ℕ) → x < n → get_or (entries_from b o n) x 0 ≡ entry_of b (o + x)
unfolding entries_from
get_or-entries_from b o zero x h = absurd (omega arith)
get_or-entries_from b o (suc n) zero h = let e : o + 0 ≡ o = omega arith in rw e
get_or-entries_from b o (suc n) (suc x) h = let e : o + suc x ≡ suc o + x = omega arith in rw e (get_or-entries_from b (suc o) n x (omega arith))

pub length-entries : (b : List ℕ) → length (entries_of b) ≡ 256
length-entries b = length-entries_from b 0 256

pub get_or-entries : (b : List ℕ) (x : ℕ) → x < 256 → get_or (entries_of b) x 0 ≡ entry_of b x
get_or-entries b x h = let e : 0 + x ≡ x = omega arith in get_or-entries_from b 0 256 x h ∙ ap (entry_of b) e

-- a list that has the first o entries, with the next put down; and with all of them
pub entries-turn : (b c : List ℕ) (o v : ℕ) → o < length c → v ≡ entry_of b o → ((x : ℕ) → x < o → get_or c x 0 ≡ entry_of b x) → (x : ℕ) → x < o + 1 → get_or (set c o v) x 0 ≡ entry_of b x
entries-turn b c o v h e f x l = go (eqb x o) refl
  where
    go : (t : Bool) → eqb x o ≡ t → get_or (set c o v) x 0 ≡ entry_of b x
    go true q = let p : x ≡ o = eqb-true _ _ q in rw (p, get_or-set_same c o v 0 h) e
    go false q = let n : x ≡ o → ⊥ = eqb-false _ _ q in get_or-set_other c o x v 0 n ∙ f x (omega arith)

pub entries-done : (b c : List ℕ) → length c ≡ 256 → ((x : ℕ) → x < 256 → get_or c x 0 ≡ entry_of b x) → c ≡ entries_of b
entries-done b c n f = ext_get_or 0 c (entries_of b) (n ∙ sym (length-entries b)) (λ x l. let k : x < 256 = omega arith in f x k ∙ sym (get_or-entries b x k))
