-- The two engines agree from a format on: both show the same page map after every list of calls. Assumes nothing.
use mathlib.Core.Path.{◌≡◌, refl, sym, ◌∙◌, ap, subst}
use mathlib.Core.Bool.{true≢false, true}
use Rattle.model.specs.Device.{Device, within_limits}
use Rattle.calls.specs.Outcome as learned
use Rattle.calls.specs.Outcome.{Answer, accepted}
use Rattle.calls.specs.Format.{format_done}
use Rattle.calls.specs.Book.{blank_book}
use Rattle.calls.specs.History as history
use Rattle.calls.specs.History.{Call, format_call, effect, step}
use Rattle.calls.specs.PageMap.{PageMap, MapPast}
use Rattle.calls.proofs.Decided.{unless-accepts}
use Rattle.calls.proofs.Found.{map_of}
use Rattle.calls.proofs.Refining as learned_refining
use Rattle.plain.specs.Table.{Table}
use Rattle.plain.specs.Calls.{Common, format, as_call, run}
use Rattle.plain.specs.Engines.{Same, formats, flushes, finds, misses, discards, collects, refuses, Pair, Sized, both, alone, Only, Together, nothing, then, beside, EnginesAgree}
use Rattle.plain.proofs.Invariant.{Shown}
use Rattle.plain.proofs.Ending.{format-ends, ends}
use Rattle.plain.proofs.Agreeing.{Agreed, format-clear, format-agreed, agreed}
use Rattle.plain.proofs.Next.{next, made_next, only_next, ended_next}

-- a pair of engines' slices as the learned engine has them, and a page map; the book beside them doesn't matter here
abbrev past : Pair → history.Past
past h = record { state = h.state; spare = h.spare; book = blank_book }

abbrev map_past : PageMap → MapPast
map_past m = record { map = m; book = blank_book }

-- both engines show one page map
record Joined (h : Pair) : Type 0 where
  map : PageMap
  learned : learned_refining.Shows (past h) (map_past map)
  plain : Shown h.table map

-- the same with another book
forget : (h : history.Past) (k : MapPast) → learned_refining.Shows h k → learned_refining.Shows (record { state = h.state; spare = h.spare; book = blank_book }) (map_past k.map)
forget h k s = record { device = s.device; counts = s.counts; marks = s.marks; inv = s.inv; book = refl }

-- the same answer is accepted in both or in none
same_accepted : (a a' : Answer) → Same a a' → accepted a ≡ accepted a'
unfolding accepted
same_accepted a a' formats = refl
same_accepted a a' (flushes p n) = refl
same_accepted a a' (finds p q n q' n') = refl
same_accepted a a' (misses n n') = refl
same_accepted a a' discards = refl
same_accepted a a' (collects p n e) = refl
same_accepted a a' (refuses r) = refl

-- the next call, where both show one page map
joined-agreed : (h : Pair) → Joined h → (c : Common) → Sized c h → Agreed (history.run (as_call c) h.state h.spare) (run c h.table)
joined-agreed h j c z =
    let l = j.learned in
    let same : j.map ≡ map_of h.state j.map.place = λ i. record { device = sym l.device i; counts = sym l.counts i; place = j.map.place; discarded = sym l.marks i } in
    let s : Shown h.table (map_of h.state j.map.place) = subst (λ (m : PageMap). Shown h.table m) same j.plain in
    subst (λ (t : Table). Agreed (history.run (as_call c) h.state h.spare) (run c t)) (sym s.is)
    (agreed h.state h.spare j.map.place l.inv s.entries s.inv c (subst (λ (t : Table). Sized c (record { state = h.state; spare = h.spare; table = t })) s.is z))

-- what a call of the learned engine leads to
learned_next : (h : Pair) (j : Joined h) (c : Call)
    → (k : MapPast) × learned_refining.Shows (record { state = (step c (past h)).state; spare = (step c (past h)).spare; book = blank_book }) (map_past k.map)
    × (k.map ≡ next c (accepted (history.run c h.state h.spare).answer) j.map)
learned_next h j c =
    let one = (learned_refining.refines).steps (past h) (map_past j.map) j.learned c _ (step c (past h)) (record { answered = refl; left = refl }) in
    (one.0, forget (step c (past h)) one.0 one.2, made_next (map_past j.map) c _ one.0 one.1)

-- a call that both have leads to the same page map
both-joined : (h : Pair) → Joined h → (c : Common) → Sized c h → Joined (both c h)
unfolding both step history.past_after
both-joined h j c z =
    let l = learned_next h j (as_call c) in
    let same = same_accepted _ _ (joined-agreed h j c z).answers in
    let p = ended_next c h.table j.map (run c h.table) (ends h.table j.map j.plain c) (λ e. j.plain) in
    record { map = l.0.map; learned = l.1; plain = rw (l.2, same) p }

-- one that the learned engine has alone leaves the page map
alone-joined : (h : Pair) → Joined h → (c : Call) → Only c → Joined (alone c h)
unfolding alone step history.past_after
alone-joined h j c o =
    let l = learned_next h j c in
    let same : l.0.map ≡ j.map = l.2 ∙ only_next c (accepted (history.run c h.state h.spare).answer) j.map o in
    record { map = l.0.map; learned = l.1; plain = rw same j.plain }

-- so does a list of calls
together : (h h' : Pair) → Joined h → Together h h' → Joined h'
together h h' j (nothing _) = j
together h h' j (then _ c _ z l) = together (both c h) h' (both-joined h j c z) l
together h h' j (beside _ c _ o l) = together (alone c h) h' (alone-joined h j c o) l

-- the learned engine accepts a format of numbers within limits
format-accepted : (d : Device) (h : Pair) → within_limits d ≡ true → Sized (format d) h → accepted (history.run (format_call d) h.state h.spare).answer ≡ true
unfolding history.run history.lent_to history.checks_of effect format_done accepted
format-accepted d h e z = ap (λ (o : learned.Outcome). accepted o.answer) (unless-accepts _ _ _ (format-clear d h e z))

-- a format gives both the blank page map
format-joined : (d : Device) (h : Pair) → within_limits d ≡ true → Sized (format d) h → Joined (both (format d) h)
unfolding both as_call step history.past_after
format-joined d h e z =
    let t = format-accepted d h e z in
    let one = (learned_refining.refines).starts (past h) d _ (step (format_call d) (past h)) (record { answered = refl; left = refl }) t in
    let same = same_accepted _ _ (format-agreed d h z).answers in
    let p = ended_next (format d) h.table one.0.map (run (format d) h.table) (format-ends d h.table one.0.map) (λ f. absurd (true≢false (sym t ∙ same ∙ f))) in
    record { map = one.1.map; learned = forget _ one.1 one.3; plain = rw (made_next one.0 (format_call d) _ one.1 one.2, same) p }

-- "From a format, the same calls with rightly sized slices give the same pages, plans, erased lists and refusals in both engines."
pub engines_agree : EnginesAgree
engines_agree h f c z =
    let a = joined-agreed h (together _ h (format-joined f.device f.start f.numbers f.sized) f.calls) c z in
    record { answers = a.answers; plans = a.plans; erased = a.erased }
