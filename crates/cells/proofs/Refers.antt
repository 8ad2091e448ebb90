-- The heap's two passes together: where no cell's last cell is far, a STRUCT refers well by its functor, and any other word does. Assumes
-- nothing.
use Prim.Native.Nat.{ℕ, ◌≤◌}
use mathlib.Core.Path.{◌≡◌, ap, ◌∙◌}
use mathlib.Core.Bool.{true, false, not}
use native.Mathlib.Omega.{arith}
use lib.ListN.{get_or}
use Rattle.std.proofs.lemmas.Grind.{common_steps}
use Rattle.cell.specs.Word.{extent}
use Rattle.machine.specs.Layout.{Image, H, reg, heap_most}
use Rattle.machine.specs.Refusals.{refers_well, bad_heap}
use Rattle.cells.specs.Cells.{last_of, far_in, marked_in, functor_well, struct_good, Clean, Every}

near-same : (X : Image) (i : ℕ) → far_in X.heap (reg X H) i ≡ false → reg X H ≤ heap_most → refers_well (reg X H) X.heap (get_or X.heap i 0) ≡ struct_good X i
unfolding refers_well struct_good functor_well far_in last_of extent
near-same X i l m = grind (arith, common_steps)

pub heap-clean : (X : Image) → reg X H ≤ heap_most → Clean (marked_in X.heap) (far_in X.heap (reg X H)) (reg X H) → Every (struct_good X) (reg X H) true → Clean (marked_in X.heap) (bad_heap X) (reg X H)
unfolding bad_heap
heap-clean X m c e = record { unmarked = c.unmarked; well = λ i l. ap not (near-same X i (c.well i l) m ∙ e i l) }
