-- The two engines agree on the bytes: read, a run of both engines' functions is a call of both definitions, and these agree. Assumes
-- nothing.
use mathlib.Core.Path.{◌≡◌, sym, ◌∙◌, ap, subst}
use Rattle.calls.specs.Outcome as learned
use Rattle.calls.specs.History as history
use Rattle.calls.specs.History.{Call}
use Rattle.plain.specs.Calls as plain
use Rattle.plain.specs.Calls.{Common, format, flush, lookup, discard, collect, as_call}
use Rattle.plain.specs.Engines as engines
use Rattle.plain.specs.Engines.{both, alone}
use Rattle.plain.proofs.Agreeing.{Agreed, format-agreed}
use Rattle.plain.proofs.EnginesAgree.{engines_agree}
use Rattle.plainstate.specs.Reading.{read_table}
use Rattle.state.specs.Reading.{read_state}
use Rattle.history.specs.Engines.{Pair, Sized, RunsBoth, RunsOne, after_both, after_one, Together, nothing, then, beside, FromFormat, Alike, EnginesAgree}

-- the slices as they are read
abbrev read : Pair → engines.Pair
read h = record { state = read_state h.state; spare = h.spare; table = read_table h.plain_state }

-- what is read knows the slices' lengths
read-sized : (c : Common) (h : Pair) → Sized c h → engines.Sized c (read h)
unfolding Sized engines.Sized read_state read_table
read-sized (format d) h z = z
read-sized (flush batch plan) h z = tt
read-sized (lookup x) h z = tt
read-sized (discard x) h z = tt
read-sized (collect plan erased) h z = tt

-- A run of both, read, is a call of both ..
read-both : (c : Common) (h : Pair) (r : RunsBoth c h) → both c (read h) ≡ read (after_both c h r)
unfolding both
read-both c h r = λ i. record {
  state = sym (ap (λ (x : learned.Lent). x.state) r.ran.leaves) i;
  spare = sym (ap (λ (x : learned.Lent). x.spare) r.ran.leaves) i;
  table = sym (ap (λ (x : plain.Lent). x.table) r.plain_ran.leaves) i;
}

-- .. and one of the learned engine alone is one there.
read_one : (c : Call) (h : Pair) (r : RunsOne c h) → alone c (read h) ≡ read (after_one c h r)
unfolding alone
read_one c h r = λ i. record {
  state = sym (ap (λ (x : learned.Lent). x.state) r.ran.leaves) i;
  spare = sym (ap (λ (x : learned.Lent). x.spare) r.ran.leaves) i;
  table = read_table h.plain_state;
}

-- so is a list of them
read_together : (h h' : Pair) → Together h h' → engines.Together (read h) (read h')
read_together h h' (nothing _) = engines.nothing (read h)
read_together h h' (then _ c _ z r l) =
    engines.then (read h) c (read h') (read-sized c h z)
    (subst (λ (k : engines.Pair). engines.Together k (read h')) (sym (read-both c h r)) (read_together (after_both c h r) h' l))
read_together h h' (beside _ c _ r l) =
    engines.beside (read h) c (read h') r.only
    (subst (λ (k : engines.Pair). engines.Together k (read h')) (sym (read_one c h r)) (read_together (after_one c h r) h' l))

read-format : (h : Pair) → FromFormat h → engines.FromFormat (read h)
read-format h f = record {
  start = read f.start;
  device = f.device;
  numbers = f.numbers;
  sized = read-sized (format f.device) f.start f.sized;
  calls =
      subst (λ (k : engines.Pair). engines.Together k (read h)) (sym (read-both (format f.device) f.start f.formats))
      (read_together _ h f.calls);
}

-- definitions that agree on what is read make the runs alike
alike : (c : Common) (h : Pair) (r : RunsBoth c h)
    → Agreed (history.run (as_call c) (read_state h.state) h.spare) (plain.run c (read_table h.plain_state)) → Alike c h r
alike c h r a = record {
  answers = rw (r.ran.answered, r.plain_ran.answered) a.answers;
  plans = ap (λ (x : learned.Lent). x.plan) r.ran.leaves ∙ a.plans ∙ sym (ap (λ (x : plain.Lent). x.plan) r.plain_ran.leaves);
  erased = ap (λ (x : learned.Lent). x.erased) r.ran.leaves ∙ a.erased ∙ sym (ap (λ (x : plain.Lent). x.erased) r.plain_ran.leaves);
}

-- "From a format, the same calls with rightly sized slices give the same pages, plans, erased lists and refusals in both engines."
pub engines_agree_on_bytes : EnginesAgree
engines_agree_on_bytes = record {
  formats = λ h d z r. alike (format d) h r (format-agreed d (read h) (read-sized (format d) h z));
  calls = λ h f c z r.
      let a = engines_agree (read h) (read-format h f) c (read-sized c h z) in
      alike c h r (record { answers = a.answers; plans = a.plans; erased = a.erased });
}
