-- The ways in which a lookup ends: refused, the page not written, or found. Assumes nothing.
use mathlib.Core.Path.{◌≡◌, refl, sym, ap, ◌∙◌}
use mathlib.Core.List.{List}
use mathlib.Core.Logic.{◌≢◌}
use mathlib.Core.Option.{Option, none, some}
use Prim.Native.Nat.{ℕ}
use borrow.Author.Tests.{eq-eqb, ne_eqb}
use Rattle.calls.specs.Refusals.{Refusal, first_refusal}
use Rattle.calls.specs.Outcome.{refused, found, not_written}
use Rattle.plain.specs.Table.{Table, no_page, entry_at, page_of}
use Rattle.plain.specs.Calls.{lookup, lent_to, entry_checks, checks_of, looked_up, answer_of, leaves}
use Rattle.plainstate.specs.Reading.{read_table}
use Rattle.plainstate.specs.Ran.{state_slices, Ran}
use Rattle.plainstate.proofs.Running.{ran-refused, ran-accepted}

module _ (state : List ℕ) (x : ℕ) where
  abbrev t : Table
  t = read_table state

  pub lookup-refused : (r : Refusal) → first_refusal (entry_checks x t) ≡ some r → Ran (lookup x) state (refused r) (state_slices state)
  unfolding checks_of lent_to
  lookup-refused r e = ran-refused (lookup x) state _ r e refl refl

  module _ (clear : first_refusal (entry_checks x t) ≡ none) (e : ℕ) (read : e ≡ entry_at t x) where
    looked : (o : Option ℕ) → page_of e ≡ o → Ran (lookup x) state (looked_up o) (state_slices state)
    unfolding checks_of answer_of leaves
    looked o q = ran-accepted (lookup x) state _ (looked_up o) clear (ap looked_up (sym q ∙ ap page_of read)) refl (λ _. refl)

    pub lookup-misses : e ≡ no_page → Ran (lookup x) state (not_written 0) (state_slices state)
    unfolding page_of looked_up
    lookup-misses n = looked none (rw (eq-eqb e no_page n, page_of))

    pub lookup-finds : e ≢ no_page → Ran (lookup x) state (found e e 0) (state_slices state)
    unfolding page_of looked_up
    lookup-finds n = looked (some e) (rw (ne_eqb e no_page n, page_of))
