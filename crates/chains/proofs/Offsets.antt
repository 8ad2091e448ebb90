-- The role of a word of a frame and of a choice point by its distance from the start: first the fields, then the cells. Assumes nothing.
use Prim.Native.Nat.{ℕ, suc, ◌+◌, ◌-◌, ◌≤◌, ◌<◌}
use mathlib.Core.Path.{◌≡◌}
use native.Mathlib.Omega.{arith}
use borrow.Author.Tests.{lt-ltb, le-ltb}
use Rattle.machine.specs.Layout.{P, fixed, frame_fixed}
use Rattle.machine.specs.Roles.{cell, own, code_of}
use Rattle.chains.specs.Noting.{frame_role, point_role}

pub point-field : (j : ℕ) → j < fixed → point_role j ≡ code_of (own P) + j
point-field j l = rw (lt-ltb j fixed l)

pub point-cell : (j : ℕ) → fixed ≤ j → point_role j ≡ code_of cell
point-cell j l = rw (le-ltb j fixed l)

pub frame-cell : (j : ℕ) → frame_fixed ≤ j → frame_role j ≡ code_of cell
frame-cell j l = let e : j ≡ suc (suc (j - 2)) = omega arith in rw e
