-- An image by its four areas, for the proofs of functions that are lent them one by one. Assumes nothing.
use Prim.Native.Nat.{ℕ}
use mathlib.Core.List.{List}
use Rattle.machine.specs.Layout.{Image}

abbrev pub image_of : List ℕ → List ℕ → List ℕ → List ℕ → Image
image_of control stack heap trail = record { control = control; stack = stack; heap = heap; trail = trail }
