-- The book beside the page map, through a discard: it is the logical page's last event, and every page carries what it carried.
-- Assumes nothing.
use mathlib.Core.Path.{◌≡◌, refl, sym, ◌∙◌, ap}
use mathlib.Core.Bool.{Bool, true, false, ◌||◌}
use Prim.Native.Nat.{ℕ, ◌<◌}
use native.Mathlib.Omega.{arith}
use lib.Dec.{eqb}
use Rattle.model.proofs.Bools.{or_none}
use Rattle.calls.specs.Book.{Event, discard, write_of, Book, discard_entry, last_discard, enter}
use Rattle.calls.specs.PageMap.{PageMap, map_discard}
use Rattle.calls.proofs.MapDiscarding.{discard_other, still_there}
use Rattle.calls.proofs.Carrying.{Kept}

-- the last event of the logical page, and of another
last_here : (x : ℕ) (last : ℕ → Event) (y : ℕ) → eqb y x ≡ true → last_discard x last y ≡ discard
unfolding last_discard
last_here x last y e = rw (e, last_discard) refl

last_other : (x : ℕ) (last : ℕ → Event) (y : ℕ) → eqb y x ≡ false → last_discard x last y ≡ last y
unfolding last_discard
last_other x last y e = rw (e, last_discard) refl

-- The book agrees with the page map after a discard.
pub discard-kept : (m : PageMap) (b : Book) → Kept b m → (x : ℕ) → Kept (enter (discard_entry x) b) (map_discard x m)
unfolding enter map_discard
discard-kept m b c x = record {
  device = c.device;
  missing = λ y h e q.
      let n = or_none (eqb y x) (m.discarded y) q in
      last_other x b.last y n.0 ∙ c.missing y h (sym (discard_other x m.place y n.0) ∙ e) n.1;
  gone = λ y h. gone y h (eqb y x) refl;
  present = λ y p h e.
      let s = still_there x m.place y p e in
      let a = c.present y p h s.1 in
      (a.0, ap write_of (last_other x b.last y s.0) ∙ a.1, a.2);
  once = c.once;
  past = λ p a e. omega (arith, c.past p a e);
}
  where
    gone : (y : ℕ) → y < m.device.N → (t : Bool) → eqb y x ≡ t → (t || m.discarded y) ≡ true → last_discard x b.last y ≡ discard
    gone y h true e q = last_here x b.last y e
    gone y h false e q = last_other x b.last y e ∙ c.gone y h q
