-- The ways in which telling why ends: each refusal in order, a discarded page, the entries. Assumes nothing.
use mathlib.Core.Path.{◌≡◌, refl, sym, ap, ◌∙◌}
use mathlib.Core.List.{List, [], flatten}
use mathlib.Core.Option.{none, some}
use mathlib.Core.Bool.{Bool, true, false, not}
use Prim.Native.Nat.{ℕ, ◌≤◌, ◌<◌}
use lib.Dec.{leb}
use lib.ListN.{length}
use borrow.Author.Tests.{le-leb, lt-leb}
use Rattle.model.specs.Lists.{store}
use Rattle.model.specs.Device.{Device, group_of, offset_of}
use Rattle.model.specs.Marks.{is_marked}
use Rattle.model.specs.State.{State, group_at}
use Rattle.model.specs.Sound.{sound_group}
use Rattle.model.proofs.Lists.{store_nil}
use Rattle.calls.specs.Refusals.{Refusal, bad_length, not_sound, out_of_range, first_refusal, opening}
use Rattle.calls.specs.Outcome.{Lent, with_out, explained, refused}
use Rattle.calls.specs.Why.{Reason, reasons_in, reasons, reasons_bytes, why_length, why_checks, why_done}
use Rattle.calls.specs.History.{why_call, lend, lent_to, checks_of, effect}
use Rattle.calls.proofs.Refusing.{front-refuses, others_decide, refuses_at, is_clear, right-length, wrong_length_lem}
use Rattle.state.specs.Reading.{read_state}
use Rattle.state.specs.Ran.{listing_slices, Ran}
use Rattle.state.proofs.Refusing.{ran-refused, ran-accepted}

module _ (state spare : List ℕ) (x : ℕ) (out : List ℕ) where
  abbrev s : State
  s = read_state state

  abbrev lent : Lent
  lent = with_out out (lend s spare [] [])

  refuses : (r : Refusal) → first_refusal (why_checks x lent) ≡ some r → Ran (why_call x out) state spare (refused r) (listing_slices state spare out)
  unfolding checks_of lent_to lend
  refuses r e = ran-refused (why_call x out) state spare _ r e refl refl

  pub why-closed : (r : Refusal) → first_refusal (opening s) ≡ some r → Ran (why_call x out) state spare (refused r) (listing_slices state spare out)
  unfolding why_checks lend
  why-closed r e = refuses r (front-refuses (opening s) _ e)

  module _ (d : Device) (passed : (first_refusal (opening s) ≡ none) × (s.device ≡ d)) where
    abbrev sound_in : Device → Bool
    sound_in d = sound_group d.N (group_of x) (group_at s (group_of x))

    pub why_length_lem : (length out ≡ why_length → ⊥) → Ran (why_call x out) state spare (refused bad_length) (listing_slices state spare out)
    unfolding why_checks lend
    why_length_lem f = refuses bad_length (others_decide (opening s) _ passed.0 ∙ refuses_at 0 _ refl tt (wrong_length_lem out why_length f))

    module _ (fits : length out ≡ why_length) where
      pub why_range : d.N ≤ x → Ran (why_call x out) state spare (refused out_of_range) (listing_slices state spare out)
      unfolding why_checks lend
      why_range l =
          refuses out_of_range (others_decide (opening s) _ passed.0 ∙ refuses_at 1 _ refl (right-length out why_length fits, tt) (rw (passed.1, le-leb d.N x l)))

      module _ (inside : x < d.N) where
        there : leb s.device.N x ≡ false
        there = rw (passed.1, lt-leb d.N x inside)

        sound_is : (t : Bool) → sound_in d ≡ t → not (sound_in s.device) ≡ not t
        sound_is t e = ap (λ (c : Device). not (sound_in c)) passed.1 ∙ ap not e

        pub why_unsound : sound_in d ≡ false → Ran (why_call x out) state spare (refused not_sound) (listing_slices state spare out)
        unfolding why_checks lend
        why_unsound f =
            refuses not_sound (others_decide (opening s) _ passed.0 ∙ refuses_at 2 _ refl (right-length out why_length fits, (there, tt)) (sound_is false f))

        clear : sound_in d ≡ true → first_refusal (why_checks x lent) ≡ none
        unfolding why_checks lend
        clear f = others_decide (opening s) _ passed.0 ∙ is_clear _ (right-length out why_length fits, (there, (sound_is true f, tt)))

        ends : sound_in d ≡ true → (l : List Reason) → reasons s x ≡ l → (n : ℕ) (out' : List ℕ) → n ≡ length l → out' ≡ store out 0 (reasons_bytes l)
            → Ran (why_call x out) state spare (explained n) (listing_slices state spare out')
        unfolding checks_of lent_to lend effect why_done
        ends f l r n out' e q =
            let explained_is : explained n ≡ explained (length (reasons s x)) = ap explained (e ∙ ap length (sym r)) in
            let left_is : out' ≡ store out 0 (reasons_bytes (reasons s x)) = q ∙ ap (λ (v : List Reason). store out 0 (reasons_bytes v)) (sym r) in
            ran-accepted (why_call x out) state spare (explained n) _ (clear f) explained_is (ap (λ (v : List ℕ). with_out v lent) left_is) (λ _. refl)

        pub why-marked : sound_in d ≡ true → is_marked s.marks x ≡ true → Ran (why_call x out) state spare (explained 0) (listing_slices state spare out)
        unfolding reasons flatten
        why-marked f m = ends f [] (rw (m, reasons) refl) 0 out refl (sym (store_nil out 0))

        pub why_done_lem : sound_in d ≡ true → is_marked s.marks x ≡ false → (n : ℕ) (out' : List ℕ) → n ≡ length (reasons_in (offset_of x) (group_at s (group_of x)))
            → out' ≡ store out 0 (reasons_bytes (reasons_in (offset_of x) (group_at s (group_of x)))) → Ran (why_call x out) state spare (explained n) (listing_slices state spare out')
        unfolding reasons
        why_done_lem f m n out' e q = ends f (reasons_in (offset_of x) (group_at s (group_of x))) (rw (m, reasons) refl) n out' e q
