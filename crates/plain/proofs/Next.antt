-- The page map after a call is settled by whether the call was accepted: so machines that simulate it and accept the same calls show the
-- same map. Assumes nothing.
use mathlib.Core.Path.{◌≡◌, refl, sym, ap}
use mathlib.Core.Bool.{Bool, true, false}
use Rattle.calls.specs.Outcome.{Answer, accepted}
use Rattle.calls.specs.History.{Call}
use Rattle.calls.specs.PageMap as maps
use Rattle.calls.specs.PageMap.{PageMap, map_done, no_lists, MapPast, map_idle, map_after, MapMakes}
use Rattle.calls.proofs.MapDemand.{answers-accepted}
use Rattle.plain.specs.Table.{Table}
use Rattle.plain.specs.Calls.{Common, as_call, Outcome}
use Rattle.plain.specs.Engines.{Only, compaction, agreement, listing, telling}
use Rattle.plain.proofs.Invariant.{Shown}
use Rattle.plain.proofs.Ending.{Ended, refuses, accepts}
use Rattle.plain.proofs.Refining.{lent_same}

-- the map after a call, accepted or not
abbrev pub next : Call → Bool → PageMap → PageMap
next c true m = (map_done c m).map
next c false m = m

-- What a call on the map leads to.
pub made_next : (h : MapPast) (c : Call) (a : Answer) (h' : MapPast) → MapMakes h c a h' → h'.map ≡ next c (accepted a) h.map
unfolding map_idle map_after accepted
made_next h c a h' (maps.refuses sized _ r e) = refl
made_next h c a h' (maps.accepts sized _ _ e p) = ap (λ (t : Bool). next c t h.map) (sym (answers-accepted h.map c a p))
made_next h c a h' (maps.others s spare s' spare' r) = refl

-- A call of the learned engine alone leaves the map.
pub only_next : (c : Call) (t : Bool) (m : PageMap) → Only c → next c t m ≡ m
unfolding map_done no_lists
only_next c true m (compaction k) = refl
only_next c true m (agreement s spare s' spare') = refl
only_next c true m (listing k out) = refl
only_next c true m (telling x out) = refl
only_next c false m o = refl

-- A call of the plain engine leaves a table that shows that map.
pub ended_next : (c : Common) (t : Table) (m : PageMap) (o : Outcome) → Ended c t m o → (accepted o.answer ≡ false → Shown t m)
    → Shown o.after.table (next (as_call c) (accepted o.answer) m)
unfolding accepted
ended_next c t m o (refuses sized r e) s = rw (lent_same c t) (s refl)
ended_next c t m o (accepts sized e d) s = rw (answers-accepted m _ _ d.answers) d.shown
