-- The test by which a root or a parent is found says what the word refers to. Assumes nothing.
use Prim.Native.Nat.{ℕ, ◌+◌}
use mathlib.Core.Path.{◌≡◌}
use mathlib.Core.Bool.{true}
use mathlib.Core.List.{List}
use borrow.Author.Tests.{le-leb, lt-ltb, leb-true, ltb-true}
use lib.Dec.{leb, ltb}
use Rattle.cell.specs.Word.{value_of, extent, Refers}
use Rattle.machine.proofs.Tests.{and-true, and_left, and_right}
use Rattle.holder.specs.Tracing.{refers_to}

pub refers-true : (heap : List ℕ) (w x : ℕ) → Refers heap w x → refers_to heap w x ≡ true
refers-true heap w x r = and-true (leb (value_of w) x) (ltb x (value_of w + extent heap w)) (le-leb (value_of w) x r.0) (lt-ltb x (value_of w + extent heap w) r.1)

pub true-refers : (heap : List ℕ) (w x : ℕ) → refers_to heap w x ≡ true → Refers heap w x
true-refers heap w x e = (
  leb-true (value_of w) x (and_left (leb (value_of w) x) (ltb x (value_of w + extent heap w)) e),
  ltb-true x (value_of w + extent heap w) (and_right (leb (value_of w) x) (ltb x (value_of w + extent heap w)) e),
)
