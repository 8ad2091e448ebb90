use Prim.Native.Nat.{ℕ, ◌+◌, ◌≤◌, ◌<◌}
use mathlib.Core.Path.{◌≡◌, sym}
use mathlib.Core.List.{List}
use native.Mathlib.Omega.{arith}
use borrow.Author.Tests.{lt-ltb, le-ltb}
use lib.ListN.{length, get_or}
use Rattle.machine.proofs.InPlace.{in-place-none, in-place-more, in-place-skip, in-place-end}
use Rattle.retreat.specs.Undo.{copied_word}
use Rattle.retreat.proofs.copy.Goals as goal

module _ (stack : List ℕ) (b count i w : ℕ) where
  copied-low : i < count → copied_word stack b count i w ≡ get_or stack (b + i) 0
  unfolding copied_word
  copied-low l = rw (lt-ltb i count l)

  copied-high : count ≤ i → copied_word stack b count i w ≡ w
  unfolding copied_word
  copied-high l = rw (le-ltb i count l)

pub loop-i-init : goal.loop-i-init
loop-i-init c = in-place-none _ _

pub loop-i-preserved : goal.loop-i-preserved
loop-i-preserved c = in-place-more _ c.loop-i.invariant (omega arith) _ (sym (copied-low _ _ _ _ _ (omega arith)))

pub returns : goal.returns
returns c =
    let d = c.args in
    let whole = in-place-skip _ c.loop-i.invariant (length d.control.now) (omega arith) (λ k a b. sym (copied-high _ _ _ k _ (omega arith))) in
    in-place-end _ whole (omega arith) _ (λ k w v h. h)
