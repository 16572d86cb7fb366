-- The part behind `at` is blank.
use Prim.Native.Nat.{ℕ, ◌+◌, ◌-◌}
use native.Mathlib.Omega.{arith}
use mathlib.Core.Path.{◌≡◌, ap, ◌∙◌}
use lib.ListN.{length, take, drop, replicate, length-replicate, length-drop}
use Rattle.std.proofs.lemmas.List.{length-take}
use Rattle.lines.proofs.Texts.{laid_part}
use Rattle.lines.proofs.print.put_blanks.Goals as goal

pub returns : goal.returns
returns c =
    let start = c.args in
    let n = c.saturating_sub.result in
    let long : length (take (start.at + n - start.at) (drop start.at start.out.now)) ≡ start.width - start.used = simp (length-take, length-drop) (omega arith) in
    laid_part _ _ _ _ _ (c.fill.ensures.after (λ y e. e) ∙ ap (λ (n : ℕ). replicate n 32) long) (omega (arith, length-replicate {A = ℕ} (start.width - start.used) 32)) (omega arith)
