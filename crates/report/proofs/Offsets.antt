-- A refusal of a file names an offset within it, or its length. Assumes nothing.
use Prim.Native.Nat.{ℕ, zero, suc, ◌+◌, ◌≤◌, ◌<◌}
use mathlib.Core.Path.{◌≡◌, refl, subst}
use mathlib.Core.Bool.{Bool, true, false}
use mathlib.Core.List.{List, [], ◌∷◌}
use native.Mathlib.Omega.{arith}
use lib.Dec.{eqb, leb}
use lib.ListN.{length}
use borrow.Author.Tests.{leb-false}
use Rattle.machine.specs.Layout.{Image}
use Rattle.machine.specs.Refusals.{legal_sizes}
use Rattle.freeze.specs.declared.FileRefusal.TheVariants.{Sizes, Cut, Kind, Room, After, Differ}
use Rattle.freeze.specs.Kinds.{pick, COUNTS, CONTROL, STACK, HEAP, TRAIL, END, record_size}
use Rattle.freeze.specs.Verdicts.{FileVerdict, accepted, refused, verdict_of, gate, or_else, first_of}
use Rattle.freeze.specs.Records.{kind_at, record_verdict, records_verdict}
use Rattle.freeze.specs.Thaw.{lengths_of, counts_in, within, control_at, stack_at, heap_at, trail_at, end_at, past_end, agree, image_in, thaw_verdict}

-- an offset that is not above a bound
abbrev Inside : ℕ → FileVerdict → Type 0
Inside most accepted = Unit {0}
Inside most (refused number offset) = offset ≤ most

module _ (file : List ℕ) where
  abbrev Here : FileVerdict → Type 0
  Here = Inside (length file)

  gate-here : (b : Bool) (v : FileVerdict) → (b ≡ false → Here v) → Here (gate b v)
  gate-here true v h = tt
  gate-here false v h = h refl

  -- the checks from the front, one after the other
  none_here : Here (first_of [])
  unfolding first_of
  none_here = tt

  or-here : (v w : FileVerdict) → Here v → Here w → Here (or_else v w)
  unfolding or_else
  or-here accepted w h k = k
  or-here (refused number offset) w h k = h

  more-here : (v : FileVerdict) (vs : List FileVerdict) → Here v → Here (first_of vs) → Here (first_of (v ∷ vs))
  unfolding first_of
  more-here v vs h k = or-here v (first_of vs) h k

  pick-here : (b : Bool) (v w : FileVerdict) → (b ≡ true → Here v) → (b ≡ false → Here w) → Here (pick b v w)
  pick-here true v w h k = h refl
  pick-here false v w h k = k refl

  -- a record that is missing, cut or of another kind
  record-here : (right : ℕ → Bool) (at : ℕ) → Here (record_verdict right file at)
  unfolding record_verdict verdict_of
  record-here right at =
      let whole = leb (at + record_size (kind_at file at)) (length file) in
      let kind = right (kind_at file at) in
      pick-here (leb (length file) at) (verdict_of (Cut (length file))) (pick kind (pick whole accepted (verdict_of (Cut at))) (verdict_of (Kind at))) (λ e. omega arith)
      (λ e.
      let h : at < length file = leb-false _ _ e in
      pick-here kind (pick whole accepted (verdict_of (Cut at))) (verdict_of (Kind at)) (λ k. pick-here whole accepted (verdict_of (Cut at)) (λ w. tt) (λ w. omega arith)) (λ k. omega arith))

  records-here : (kind at n : ℕ) → Here (records_verdict file kind at n)
  unfolding records_verdict
  records-here kind at zero = tt
  records-here kind at (suc n) = or-here _ _ (record-here (λ k. eqb k kind) at) (records-here kind (at + record_size kind) n)

  pub thaw-here : (lent : Image) → Here (thaw_verdict lent file)
  unfolding thaw_verdict verdict_of
  thaw-here lent =
      let n = counts_in file in
      more-here _ _ (gate-here (legal_sizes lent) (verdict_of Sizes) (λ e. omega arith))
      (more-here _ _ (records-here COUNTS 0 1)
      (more-here _ _ (gate-here (within n (lengths_of lent)) (verdict_of Room) (λ e. omega arith))
      (more-here _ _ (records-here CONTROL control_at n.control)
      (more-here _ _ (records-here STACK (stack_at n) n.stack)
      (more-here _ _ (records-here HEAP (heap_at n) n.heap)
      (more-here _ _ (records-here TRAIL (trail_at n) n.trail)
      (more-here _ _ (records-here END (end_at n) 1)
      (more-here _ _ (gate-here (leb (length file) (past_end n)) (verdict_of (After (past_end n))) (λ e. let h : past_end n < length file = leb-false _ _ e in omega arith))
      (more-here _ _ (gate-here (agree n (image_in n file)) (verdict_of Differ) (λ e. omega arith)) none_here)))))))))

  pub offset-within : (lent : Image) (number offset : ℕ) → thaw_verdict lent file ≡ refused number offset → offset ≤ length file
  offset-within lent number offset e = subst Here e (thaw-here lent)
