-- What a stack word becomes by its note, and a control word by its place: each test of `move_noted`, `move_t` and `move_control_word` is decided
-- by the case at hand. Assumes nothing.
use Prim.Native.Nat.{ℕ, ◌+◌, ◌≤◌, ◌<◌}
use mathlib.Core.Path.{◌≡◌, refl}
use mathlib.Core.Logic.{◌≢◌}
use mathlib.Core.Bool.{Bool}
use mathlib.Core.List.{List}
use native.Mathlib.Omega.{arith}
use lib.ListN.{get_or}
use borrow.Author.Tests.{ne_eqb, lt-ltb, le-ltb, le-leb, lt-leb}
use Rattle.machine.specs.Layout.{T, H, N, place_of, fixed, field}
use Rattle.machine.specs.Roles.{cell, own, code_of}
use Rattle.machine.specs.Moved.{below, move_word}
use Rattle.slide.specs.Slides.{move_noted, move_control_word, move_t}

module _ (cells : ℕ → Bool) (note w : ℕ) where
  pub move-cell : note ≡ code_of cell → move_noted cells note w ≡ move_word (below cells) w
  unfolding move_noted
  move-cell e = rw e

  pub move-boundary : note ≡ code_of (own H) → move_noted cells note w ≡ below cells w
  unfolding move_noted
  move-boundary e = rw e

  pub move-other : note ≢ code_of cell → note ≢ code_of (own H) → move_noted cells note w ≡ w
  unfolding move_noted
  move-other m n = rw (ne_eqb note (code_of cell) m, ne_eqb note (code_of (own H)) n)

module _ (entries : ℕ → Bool) (notes : List ℕ) (i w : ℕ) where
  pub move_t-field : get_or notes i 0 ≡ code_of (own T) → move_t entries notes i w ≡ below entries w
  unfolding move_t
  move_t-field e = rw e

  pub move_t-other : get_or notes i 0 ≢ code_of (own T) → move_t entries notes i w ≡ w
  unfolding move_t
  move_t-other n = rw (ne_eqb (get_or notes i 0) (code_of (own T)) n)

module _ (cells : ℕ → Bool) (total kept : ℕ) (control : List ℕ) where
  pub control-T : (w : ℕ) → move_control_word cells total kept control (place_of T) w ≡ kept
  unfolding move_control_word
  control-T w = refl

  pub control-H : (w : ℕ) → move_control_word cells total kept control (place_of H) w ≡ total
  unfolding move_control_word
  control-H w = refl

  pub control-argument : (i w : ℕ) → fixed ≤ i → i < fixed + field control 0 N → move_control_word cells total kept control i w ≡ move_word (below cells) w
  unfolding move_control_word
  control-argument i w a b = rw (ne_eqb i (place_of T) (omega arith), ne_eqb i (place_of H) (omega arith), le-leb fixed i a, lt-ltb i (fixed + field control 0 N) b)

  pub control-low : (i w : ℕ) → i ≢ place_of T → i ≢ place_of H → i < fixed → move_control_word cells total kept control i w ≡ w
  unfolding move_control_word
  control-low i w m n l = rw (ne_eqb i (place_of T) m, ne_eqb i (place_of H) n, lt-leb fixed i l)

  pub control-high : (i w : ℕ) → fixed + field control 0 N ≤ i → move_control_word cells total kept control i w ≡ w
  unfolding move_control_word
  control-high i w l = rw (ne_eqb i (place_of T) (omega arith), ne_eqb i (place_of H) (omega arith), le-leb fixed i (omega arith), le-ltb i (fixed + field control 0 N) l)
