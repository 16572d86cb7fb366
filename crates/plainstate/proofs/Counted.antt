-- The written pages that entries name, counted block by block: where no count exceeds B, a table is sound exactly if they are as many as
-- the entries that name a page. Assumes nothing.
use mathlib.Core.Path.{◌≡◌, refl, sym, ap, ap₂, ◌∙◌}
use mathlib.Core.List.{List, [], ◌∷◌}
use mathlib.Core.Logic.{◌≢◌}
use mathlib.Core.Bool.{true≢false, Bool, true, false, not, ◌&&◌, ◌||◌, and-true, and-false}
use Prim.Native.Nat.{ℕ, zero, suc, ◌+◌, ◌*◌, ◌-◌, ◌/◌, ◌%◌, ◌≤◌, ◌<◌}
use native.Mathlib.Omega.{arith}
use lib.Dec.{ltb, leb, eqb}
use lib.ListN.{length, get_or}
use borrow.Author.Tests.{ltb-true, leb-true, eqb-true, eqb-false, lt-ltb, le-ltb, eq-eqb, ne_eqb}
use Rattle.model.specs.Lists.{all, elem, distinct, select, or_else}
use Rattle.model.specs.Device.{Device, pages, first_page}
use Rattle.model.proofs.Bools.{and_l, and_r, and_i, iff_bool, all_head, all_tail}
use Rattle.model.proofs.Lists.{elem_under, elem-get_or, each_all}
use Rattle.model.proofs.Limits.{page-inside, page-block, page-split}
use Rattle.calls.specs.PageMap.{is_some}
use Rattle.plain.specs.Table.{Table, no_page, is_written, sound_entry, named_pages, sound_table, naming}
use Rattle.plain.proofs.Choosing.{select_same}
use Rattle.plainstate.specs.Bits.{counted_from}

-- 1 where the test holds
one : Bool → ℕ
one true = 1
one false = 0

-- how many of the n numbers from x on pass the test
abbrev many : (ℕ → Bool) → ℕ → ℕ → ℕ
many v n x = length (select v n x)

module _ (v : ℕ → Bool) where
  many_next : (n x : ℕ) → many v (suc n) x ≡ one (v x) + many v n (suc x)
  unfolding select one
  many_next n x = go (v x) (select v n (suc x))
    where
      go : (t : Bool) (l : List ℕ) → length {A = ℕ} (elim t [ true ↦ x ∷ l | false ↦ l ]) ≡ one t + length l
      go true l = omega arith
      go false l = omega arith

  many_none : (n x : ℕ) → ((o : ℕ) → x ≤ o → o < x + n → v o ≡ false) → many v n x ≡ 0
  unfolding select one
  many_none zero x h = refl
  many_none (suc n) x h =
      let z : one (v x) ≡ 0 = ap one (h x (omega arith) (omega arith)) in
      let ih : many v n (suc x) ≡ 0 = many_none n (suc x) (λ o a b. h o (omega arith) (omega arith)) in
      many_next n x ∙ omega arith

  -- the first a numbers, then the b others
  many-split : (a b x : ℕ) → many v (a + b) x ≡ many v a x + many v b (x + a)
  unfolding select
  many-split zero b x =
      let e : 0 + b ≡ b = omega arith in
      let f : x + 0 ≡ x = omega arith in
      let z : many v b x ≡ 0 + many v b x = omega arith in
      ap (λ (n : ℕ). many v n x) e ∙ z ∙ ap (λ (y : ℕ). 0 + many v b y) (sym f)
  many-split (suc a) b x =
      let e : suc a + b ≡ suc (a + b) = omega arith in
      let f : suc x + a ≡ x + suc a = omega arith in
      let ih : many v (a + b) (suc x) ≡ many v a (suc x) + many v b (suc x + a) = many-split a b (suc x) in
      let s : many v (suc a) x ≡ one (v x) + many v a (suc x) = many_next a x in
      let z : one (v x) + (many v a (suc x) + many v b (suc x + a)) ≡ (one (v x) + many v a (suc x)) + many v b (suc x + a) = omega arith in
      ap (λ (n : ℕ). many v n x) e ∙ many_next (a + b) x ∙ ap (λ (m : ℕ). one (v x) + m) ih ∙ z
      ∙ ap₂ (λ (m : ℕ) (y : ℕ). m + many v b y) (sym s) f

-- a test that holds where one of two does, which never hold together
many_add : (v u w : ℕ → Bool) (n x : ℕ) → ((o : ℕ) → one (v o) ≡ one (u o) + one (w o)) → many v n x ≡ many u n x + many w n x
unfolding select
many_add v u w zero x h = refl
many_add v u w (suc n) x h =
    let ih : many v n (suc x) ≡ many u n (suc x) + many w n (suc x) = many_add v u w n (suc x) h in
    let a : many v (suc n) x ≡ one (v x) + many v n (suc x) = many_next v n x in
    let b : many u (suc n) x ≡ one (u x) + many u n (suc x) = many_next u n x in
    let c : many w (suc n) x ≡ one (w x) + many w n (suc x) = many_next w n x in
    let e : one (v x) ≡ one (u x) + one (w x) = h x in
    omega arith

-- one number
many-single : (e n x : ℕ) → x ≤ e → e < x + n → many (λ p. eqb p e) n x ≡ 1
unfolding select one
many-single e zero x h l = absurd (omega arith)
many-single e (suc n) x h l = many_next (λ p. eqb p e) n x ∙ go (eqb x e) refl (λ k. many-single e n (suc x) k (omega arith))
  where
    go : (t : Bool) → eqb x e ≡ t → (suc x ≤ e → many (λ p. eqb p e) n (suc x) ≡ 1) → one (eqb x e) + many (λ p. eqb p e) n (suc x) ≡ 1
    go true q ih =
        let r : x ≡ e = eqb-true x e q in
        let z : one (eqb x e) ≡ 1 = ap one q in
        let none : many (λ p. eqb p e) n (suc x) ≡ 0 = many_none (λ p. eqb p e) n (suc x) (λ o a b. ne_eqb o e (λ s. absurd (omega arith))) in
        omega arith
    go false q ih =
        let r : x ≢ e = eqb-false x e q in
        let z : one (eqb x e) ≡ 0 = ap one q in
        let rest : many (λ p. eqb p e) n (suc x) ≡ 1 = ih (omega arith) in
        omega arith

many-once : (e n : ℕ) (t : Bool) → (t ≡ true → e < n) → many (λ p. eqb p e && t) n 0 ≡ one t
unfolding one
many-once e n true h =
    ap length (select_same (λ p. eqb p e && true) (λ p. eqb p e) n 0 (λ o a b. and-true (eqb o e)))
    ∙ many-single e n 0 (omega arith) (let l : e < n = h refl in omega arith)
many-once e n false h = many_none (λ p. eqb p e && false) n 0 (λ o a b. and-false (eqb o e))

one_both : (a b : Bool) → one a ≡ one (a && not b) + one (b && a)
unfolding one
one_both true true = refl
one_both true false = refl
one_both false true = refl
one_both false false = refl

suc-eqb : (a b : ℕ) → eqb (1 + a) (suc b) ≡ eqb a b
suc-eqb a b =
    iff_bool (eqb (1 + a) (suc b)) (eqb a b)
    (λ h. let e : 1 + a ≡ suc b = eqb-true (1 + a) (suc b) h in eq-eqb a b (omega arith))
    (λ h. let e : a ≡ b = eqb-true a b h in eq-eqb (1 + a) (suc b) (omega arith))

module _ (w : ℕ → Bool) where
  -- how many of a list's numbers pass the test and don't stand further behind
  lasts : List ℕ → ℕ
  lasts [] = 0
  lasts (e ∷ l) = one (w e && not (elem e l)) + lasts l

  -- a first number is counted beside the others where it is one of these
  first_adds : (p e : ℕ) (l : List ℕ) → one (elem p (e ∷ l) && w p) ≡ one (eqb p e && (w e && not (elem e l))) + one (elem p l && w p)
  unfolding elem one
  first_adds p e l = go (eqb p e) refl
    where
      go : (t : Bool) → eqb p e ≡ t
          → one (elim (eqb p e) [ true ↦ true | false ↦ elem p l ] && w p) ≡ one (eqb p e && (w e && not (elem e l))) + one (elem p l && w p)
      go true q = rw q (one_both (w p) (elem p l) ∙ ap (λ (z : ℕ). one (w z && not (elem z l)) + one (elem p l && w p)) (eqb-true p e q))
      go false q = rw q (omega arith)

  -- So many of the numbers below n are in the list and pass, where none from n on passes.
  many-lasts : (n : ℕ) → ((p : ℕ) → w p ≡ true → p < n) → (l : List ℕ) → many (λ p. elem p l && w p) n 0 ≡ lasts l
  unfolding elem lasts
  many-lasts n h [] = many_none (λ p. elem p [] && w p) n 0 (λ o a b. refl)
  many-lasts n h (e ∷ l) =
      many_add (λ p. elem p (e ∷ l) && w p) (λ p. eqb p e && (w e && not (elem e l))) (λ p. elem p l && w p) n 0 (λ p. first_adds p e l)
      ∙ ap₂ (λ (a b : ℕ). a + b) (many-once e n (w e && not (elem e l)) (λ q. h e (and_l (w e) (not (elem e l)) q))) (many-lasts n h l)

  lasts_most : (l : List ℕ) → lasts l ≤ length l
  unfolding lasts one
  lasts_most [] = omega arith
  lasts_most (e ∷ l) = go (w e && not (elem e l)) (lasts_most l)
    where
      go : (t : Bool) → lasts l ≤ length l → one t + lasts l ≤ suc (length l)
      go true h = omega arith
      go false h = omega arith

  -- They are all of the list exactly if all of it passes and is distinct.
  lasts_all : (l : List ℕ) → eqb (lasts l) (length l) ≡ (all w l && distinct l)
  unfolding lasts one all distinct
  lasts_all [] = refl
  lasts_all (e ∷ l) = go (w e) (elem e l) (lasts_all l) (lasts_most l)
    where
      few : lasts l ≤ length l → eqb (0 + lasts l) (suc (length l)) ≡ false
      few h = ne_eqb (0 + lasts l) (suc (length l)) (λ q. absurd (omega arith))

      go : (t u : Bool) → eqb (lasts l) (length l) ≡ (all w l && distinct l) → lasts l ≤ length l
          → eqb (one (t && not u) + lasts l) (suc (length l)) ≡ ((t && all w l) && (not u && distinct l))
      go true true ih h = few h ∙ sym (and-false (all w l))
      go true false ih h = suc-eqb (lasts l) (length l) ∙ ih
      go false u ih h = few h

-- a test that only the first c of n numbers pass
select_first : (v w : ℕ → Bool) (n c x : ℕ) → c ≤ n → ((o : ℕ) → x ≤ o → o < x + c → w o ≡ true) → ((o : ℕ) → x + c ≤ o → o < x + n → w o ≡ false)
    → select (λ o. v o && w o) n x ≡ select v c x
unfolding select
select_first v w zero zero x l f g = refl
select_first v w zero (suc c) x l f g = absurd (omega arith)
select_first v w (suc n) zero x l f g =
    ap₂ (λ (b : Bool) (m : List ℕ). elim b [ true ↦ x ∷ m | false ↦ m ]) (ap (λ (t : Bool). v x && t) (g x (omega arith) (omega arith)) ∙ and-false (v x))
    (select_first v w n zero (suc x) (omega arith) (λ o a b. absurd (omega arith)) (λ o a b. g o (omega arith) (omega arith)))
select_first v w (suc n) (suc c) x l f g =
    ap₂ (λ (b : Bool) (m : List ℕ). elim b [ true ↦ x ∷ m | false ↦ m ]) (ap (λ (t : Bool). v x && t) (f x (omega arith) (omega arith)) ∙ and-true (v x))
    (select_first v w n c (suc x) (omega arith) (λ o a b. f o (omega arith) (omega arith)) (λ o a b. g o (omega arith) (omega arith)))

-- a block's pages are the device's
block_inside : (d : Device) (k p : ℕ) → k < d.M → first_page d k ≤ p → p < first_page d k + d.B → p < pages d
block_inside d k p m a b = let z : first_page d k + (p - first_page d k) ≡ p = omega arith in rw z at (page-inside d k (p - first_page d k) m (omega arith))

-- Tests that agree on the device's pages pick the same of them, and count the same.
module _ (v w : ℕ → Bool) (d : Device) (same : (p : ℕ) → p < pages d → v p ≡ w p) where
  pub select-inside : (n x : ℕ) → x + n ≤ pages d → select v n x ≡ select w n x
  select-inside n x h = select_same v w n x (λ o a b. same o (omega arith))

  pub counted_same : (k : ℕ) (cs : List ℕ) → k + length cs ≤ d.M → all (λ c. leb c d.B) cs ≡ true → counted_from v d k cs ≡ counted_from w d k cs
  unfolding counted_from
  counted_same k [] m few = refl
  counted_same k (c ∷ cs) m few =
      let l : c ≤ d.B = leb-true c d.B (all_head _ c cs few) in
      ap₂ (λ (x y : ℕ). x + y)
      (ap length (select_same v w c (first_page d k) (λ o a b. same o (block_inside d k o (omega arith) a (omega arith)))))
      (counted_same (suc k) cs (omega arith) (all_tail _ c cs few))

module _ (t : Table) where
  -- page p of block k is written if its place is below the block's count
  written-place : (k p : ℕ) → k < t.device.M → first_page t.device k ≤ p → p < first_page t.device k + t.device.B
      → (is_written t p ≡ ltb (p % t.device.B) (get_or t.counts k 0)) × (first_page t.device k + p % t.device.B ≡ p)
  unfolding is_written
  written-place k p m l h =
      let i : ℕ = p - first_page t.device k in
      let w : i < t.device.B = omega arith in
      let q : first_page t.device k + i ≡ p = omega arith in
      let b : p / t.device.B ≡ k = ap (λ (x : ℕ). x / t.device.B) (sym q) ∙ page-block t.device k i w in (
        ap₂ (λ (u : Bool) (x : ℕ). u && ltb (p % t.device.B) (get_or t.counts x 0)) (lt-ltb p (pages t.device) (block_inside t.device k p m l h)) b,
        ap (λ (x : ℕ). first_page t.device x + p % t.device.B) (sym b) ∙ page-split t.device p,
      )

  -- so block k's written pages are its first ones
  block_written : (v : ℕ → Bool) (k c : ℕ) → k < t.device.M → get_or t.counts k 0 ≡ c → c ≤ t.device.B
      → select (λ p. v p && is_written t p) t.device.B (first_page t.device k) ≡ select v c (first_page t.device k)
  block_written v k c m e few = select_first v (is_written t) t.device.B c (first_page t.device k) few below above
    where
      below : (o : ℕ) → first_page t.device k ≤ o → o < first_page t.device k + c → is_written t o ≡ true
      below o a b =
          let r = written-place k o m a (omega (arith, few)) in
          r.0 ∙ lt-ltb (o % t.device.B) (get_or t.counts k 0) (omega (arith, r.1, e))

      above : (o : ℕ) → first_page t.device k + c ≤ o → o < first_page t.device k + t.device.B → is_written t o ≡ false
      above o a b =
          let r = written-place k o m (omega arith) b in
          r.0 ∙ le-ltb (o % t.device.B) (get_or t.counts k 0) (omega (arith, r.1, e))

  -- and the count over the blocks from k on is that over their pages
  blocks-written : (v : ℕ → Bool) (k : ℕ) (cs : List ℕ) → k + length cs ≤ t.device.M → ((i : ℕ) → i < length cs → get_or t.counts (k + i) 0 ≡ get_or cs i 0)
      → all (λ c. leb c t.device.B) cs ≡ true
      → counted_from v t.device k cs ≡ many (λ p. v p && is_written t p) (length cs * t.device.B) (first_page t.device k)
  unfolding counted_from select first_page
  blocks-written v k [] m g few =
      let z : 0 * t.device.B ≡ 0 = omega arith in
      sym (ap (λ (n : ℕ). many (λ p. v p && is_written t p) n (k * t.device.B)) z)
  blocks-written v k (c ∷ cs) m g few =
      let z : k + 0 ≡ k = omega arith in
      let b : k * t.device.B + t.device.B ≡ suc k * t.device.B = omega arith in
      let n : t.device.B + length cs * t.device.B ≡ suc (length cs) * t.device.B = omega arith in
      ap₂ (λ (x y : ℕ). x + y)
      (ap length (sym (block_written v k c (omega arith) (ap (λ (j : ℕ). get_or t.counts j 0) (sym z) ∙ g 0 (omega arith)) (leb-true c t.device.B (all_head _ c cs few)))))
      (blocks-written v (suc k) cs (omega arith)
      (λ i h. let s : suc k + i ≡ k + suc i = omega arith in ap (λ (j : ℕ). get_or t.counts j 0) s ∙ g (suc i) (omega arith)) (all_tail _ c cs few))
      ∙ ap (λ (x : ℕ). many (λ p. v p && is_written t p) t.device.B (k * t.device.B) + many (λ p. v p && is_written t p) (length cs * t.device.B) x) (sym b)
      ∙ sym (many-split (λ p. v p && is_written t p) t.device.B (length cs * t.device.B) (k * t.device.B))
      ∙ ap (λ (x : ℕ). many (λ p. v p && is_written t p) x (k * t.device.B)) n

-- the pages among the entries are those named
elem-named : (p : ℕ) → p ≢ no_page → (es : List ℕ) → elem p es ≡ elem p (named_pages es)
unfolding elem named_pages
elem-named p n [] = refl
elem-named p n (e ∷ es) = go (eqb e no_page) refl (elem-named p n es)
  where
    go : (t : Bool) → eqb e no_page ≡ t → elem p es ≡ elem p (named_pages es) → elem p (e ∷ es) ≡ elem p (named_pages (e ∷ es))
    go true q ih = rw (q, ne_eqb p e (λ s. n (s ∙ eqb-true e no_page q)), named_pages, elem) ih
    go false q ih = rw (q, named_pages) (elem_under p e es (named_pages es) ih)

-- a page has a first entry that names it if it is among them
naming-elem : (p x : ℕ) (es : List ℕ) → is_some (naming p x es) ≡ elem p es
unfolding naming elem or_else is_some
naming-elem p x [] = refl
naming-elem p x (e ∷ es) = go (eqb e p) (eqb p e) turned (naming-elem p (suc x) es)
  where
    turned : eqb e p ≡ eqb p e
    turned = iff_bool (eqb e p) (eqb p e) (λ h. eq-eqb p e (sym (eqb-true e p h))) (λ h. eq-eqb e p (sym (eqb-true p e h)))

    go : (a b : Bool) → a ≡ b → is_some (naming p (suc x) es) ≡ elem p es → is_some (or_else a x (naming p (suc x) es)) ≡ elim b [ true ↦ true | false ↦ elem p es ]
    go true true q ih = refl
    go true false q ih = absurd (true≢false q)
    go false true q ih = absurd (true≢false (sym q))
    go false false q ih = ih

module _ (t : Table) where
  -- the entries are sound if the pages named are written
  all_named_lem : (es : List ℕ) → all (sound_entry t) es ≡ all (is_written t) (named_pages es)
  unfolding all named_pages sound_entry
  all_named_lem [] = refl
  all_named_lem (e ∷ es) = go (eqb e no_page) (all_named_lem es)
    where
      go : (b : Bool) → all (sound_entry t) es ≡ all (is_written t) (named_pages es)
          → ((b || is_written t e) && all (sound_entry t) es) ≡ all (is_written t) (elim b [ true ↦ named_pages es | false ↦ e ∷ named_pages es ])
      go true ih = ih
      go false ih = ap (λ (u : Bool). is_written t e && u) ih

  -- of sound entries, those that are a page are written
  named_only : (es : List ℕ) → all (sound_entry t) es ≡ true → (p : ℕ) → p ≢ no_page → (elem p es && is_written t p) ≡ elem p es
  unfolding sound_entry
  named_only es h p n =
      iff_bool (elem p es && is_written t p) (elem p es) (and_l (elem p es) (is_written t p))
      (λ q. and_i (elem p es) (is_written t p) q (ap (λ (u : Bool). u || is_written t p) (sym (ne_eqb p no_page n)) ∙ each_all (sound_entry t) es h p q))

  -- Where no count exceeds B, the written pages that entries name are as many as the entries that name a page exactly if each of these
  -- names a written page and no two name one.
  module _ (small : pages t.device ≤ no_page) (sized : length t.counts ≡ t.device.M) where
    no_page_lem : (p : ℕ) → p < pages t.device → p ≢ no_page
    no_page_lem p h q = absurd (omega arith)

    named-written : all (λ c. leb c t.device.B) t.counts ≡ true
        → counted_from (λ p. elem p t.entries) t.device 0 t.counts ≡ lasts (is_written t) (named_pages t.entries)
    unfolding is_written pages first_page
    named-written few =
        let z : 0 * t.device.B ≡ 0 = omega arith in
        blocks-written t (λ p. elem p t.entries) 0 t.counts (omega arith) (λ i h. let s : 0 + i ≡ i = omega arith in ap (λ (j : ℕ). get_or t.counts j 0) s) few
        ∙ ap₂ (λ (n x : ℕ). many (λ p. elem p t.entries && is_written t p) n x) (ap (λ (m : ℕ). m * t.device.B) sized) z
        ∙ ap length (select_same (λ p. elem p t.entries && is_written t p) (λ p. elem p (named_pages t.entries) && is_written t p) (pages t.device) 0
        (λ p a b. ap (λ (u : Bool). u && is_written t p) (elem-named p (no_page_lem p (omega arith)) t.entries)))
        ∙ many-lasts (is_written t) (pages t.device) (λ p h. ltb-true p (pages t.device) (and_l (ltb p (pages t.device)) _ h)) (named_pages t.entries)

    pub counted-sound : all (λ c. leb c t.device.B) t.counts ≡ true
        → eqb (counted_from (λ p. elem p t.entries) t.device 0 t.counts) (length (named_pages t.entries))
        ≡ (all (sound_entry t) t.entries && distinct (named_pages t.entries))
    counted-sound few =
        ap (λ (n : ℕ). eqb n (length (named_pages t.entries))) (named-written few)
        ∙ lasts_all (is_written t) (named_pages t.entries)
        ∙ ap (λ (u : Bool). u && distinct (named_pages t.entries)) (sym (all_named_lem t.entries))

    -- On a sound table the written pages of a block that entries name are all its pages that an entry names.
    pub block-counted : sound_table t ≡ true → (k : ℕ) → k < t.device.M
        → length (select (λ p. elem p t.entries) (get_or t.counts k 0) (first_page t.device k))
        ≡ length (select (λ p. is_some (naming p 0 t.entries)) t.device.B (first_page t.device k))
    unfolding sound_table
    block-counted sound k m = ap length (sym (block_written t (λ p. elem p t.entries) k (get_or t.counts k 0) m refl few) ∙ same)
      where
        few : get_or t.counts k 0 ≤ t.device.B
        few =
            leb-true (get_or t.counts k 0) t.device.B
            (each_all (λ c. leb c t.device.B) t.counts (and_r (all (sound_entry t) t.entries && distinct (named_pages t.entries)) _ sound) (get_or t.counts k 0)
            (elem-get_or t.counts k (omega arith)))

        each : all (sound_entry t) t.entries ≡ true
        each = and_l _ (distinct (named_pages t.entries)) (and_l _ (all (λ c. leb c t.device.B) t.counts) sound)

        same : select (λ p. elem p t.entries && is_written t p) t.device.B (first_page t.device k)
            ≡ select (λ p. is_some (naming p 0 t.entries)) t.device.B (first_page t.device k)
        same =
            select_same _ _ t.device.B (first_page t.device k)
            (λ p a b. named_only t.entries each p (no_page_lem p (block_inside t.device k p m a b)) ∙ sym (naming-elem p 0 t.entries))
