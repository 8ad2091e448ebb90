-- The roots that the search reads are those of the image, and the root that is found is the one that the chain starts from: the first that refers
-- to its first cell. Assumes nothing.
use Prim.Native.Nat.{ℕ, ◌<◌}
use mathlib.Core.Path.{◌≡◌, sym, ◌∙◌}
use mathlib.Core.Logic.{inl, inr}
use mathlib.Core.Bool.{true}
use mathlib.Core.List.{List}
use borrow.Author.Tests.{eqb-true, eq-eqb}
use lib.ListN.{length, get_or}
use lib.Dec.{eqb}
use Rattle.cell.specs.Word.{Refers}
use Rattle.machine.specs.declared.Area.TheVariants.{Stack}
use Rattle.machine.specs.declared.Place.{Place}
use Rattle.machine.specs.Layout.{Image, N, reg, argument, word}
use Rattle.machine.specs.Roles.{cell, code_of, note_at, is_cell}
use Rattle.std.specs.Prelude.{Option, Some, None}
use Rattle.std.specs.Option.{unwrap_or}
use Rattle.machine.specs.Lowest.{Lowest}
use Rattle.machine.proofs.Tests.{true-false, same_bool, and-true, and_left, and_right}
use Rattle.machine.proofs.Chains.{role-low}
use Rattle.machine.proofs.Roles.{has-is}
use Rattle.machine.proofs.Accepted.{Accepted}
use Rattle.chains.specs.Notes.{Noted}
use Rattle.order.specs.Queue.{Queued, Path}
use Rattle.order.proofs.Roots.{RootsOf, Stands, roots-by}
use Rattle.order.proofs.Searches.{root-cases, root-saved, root-cell}
use Rattle.queue.specs.Filled.{root_word, root_count}
use Rattle.holder.specs.Tracing.{refers_to, argument_refers, cell_refers, FirstRoot, in_control, on_stack}
use Rattle.holder.proofs.Seeks.{refers-true, true-refers}

module _ {X : Image} (a : Accepted X) {work : List ℕ} (noted : Noted X work (length X.heap)) where
  noted-cell : (i : ℕ) → i < length X.stack → eqb (note_at work (length X.heap) i) (code_of cell) ≡ is_cell X i
  noted-cell i l =
      same_bool (eqb (note_at work (length X.heap) i) (code_of cell)) (is_cell X i)
      (λ e. (noted.role i l cell).0 (eqb-true (note_at work (length X.heap) i) (code_of cell) e))
      (λ e. eq-eqb (note_at work (length X.heap) i) (code_of cell) ((noted.role i l cell).1 e))

  cell-low : (i : ℕ) → is_cell X i ≡ true → i < length X.stack
  cell-low i e = role-low X a.linked i cell (has-is X i cell e)

  pub roots-of : RootsOf X (root_word X.control X.stack X.heap work) (root_count X.control X.stack)
  unfolding root_word
  roots-of = roots-by X (λ i. eqb (note_at work (length X.heap) i) (code_of cell)) noted-cell cell-low

  -- ---- the tests by which the root is looked for, of this image

  argument-test : (x i : ℕ) → Refers X.heap (argument X.control 0 i) x → argument_refers X.control X.heap x i ≡ true
  unfolding argument_refers
  argument-test x i r = refers-true X.heap (argument X.control 0 i) x r

  test-argument : (x i : ℕ) → argument_refers X.control X.heap x i ≡ true → Refers X.heap (argument X.control 0 i) x
  unfolding argument_refers
  test-argument x i e = true-refers X.heap (argument X.control 0 i) x e

  cell-test : (x i : ℕ) → is_cell X i ≡ true → Refers X.heap (word X i) x → cell_refers X.stack X.heap work x i ≡ true
  unfolding cell_refers word
  cell-test x i c r =
      and-true (eqb (note_at work (length X.heap) i) (code_of cell)) (refers_to X.heap (get_or X.stack i 0) x) (noted-cell i (cell-low i c) ∙ c) (refers-true X.heap (get_or X.stack i 0) x r)

  test-cell : (x i : ℕ) → i < length X.stack → cell_refers X.stack X.heap work x i ≡ true → (is_cell X i ≡ true) × Refers X.heap (word X i) x
  unfolding cell_refers word
  test-cell x i l e =
      let note = eqb (note_at work (length X.heap) i) (code_of cell) in
      let refers = refers_to X.heap (get_or X.stack i 0) x in
      (sym (noted-cell i l) ∙ and_left note refers e, true-refers X.heap (get_or X.stack i 0) x (and_right note refers e))

  -- ---- the root that is found

  module _ {word : ℕ → ℕ} {roots : ℕ} (o : RootsOf X word roots) {cells from : List ℕ} (q : Queued X.heap word roots cells from) {j r : ℕ} {path : List ℕ} (p : Path roots cells from j r path) where
    abbrev x : ℕ
    x = get_or path 0 0

    -- else a cell of the stack
    stands-on : Lowest (argument_refers X.control X.heap x) (reg X N) None → (found : Option ℕ) → Lowest (cell_refers X.stack X.heap work x) (length X.stack) found
        → Stands X r Stack (unwrap_or found (length X.stack))
    stands-on n None m =
        elim (root-cases o q p) [
          | inl t ↦ true-false (argument-test x t.0 t.2) (n t.0 t.1)
          | inr t ↦ true-false (cell-test x t.0 t.2 t.3) (m t.0 t.1)
        ]
    stands-on n (Some i) m =
        let h = test-cell x i m.0 m.1 in
        root-cell o q p (λ k l t. true-false (argument-test x k t) (n k l)) i h.0 h.1 (λ k l c t. true-false (cell-test x k c t) (m.2 k l))

    pub root_stands : {root : Place} → FirstRoot X.control X.stack X.heap work x root → Stands X r root.area root.index
    root_stands (in_control {k = k} l) = root-saved o q p k l.0 (test-argument x k l.1) (λ i m h. true-false (argument-test x i h) (l.2 i m))
    root_stands (on_stack found n m) = stands-on n found m
