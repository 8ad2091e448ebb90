-- An admitted image can be marked, and what is marked then is exactly what is reached: the roots that the notes give are the roots of the
-- image. Assumes nothing.
use Prim.Native.Nat.{ℕ, ◌≤◌, ◌<◌}
use mathlib.Core.Path.{◌≡◌}
use mathlib.Core.Logic.{⊎_elim, ◌↔◌}
use mathlib.Core.List.{List}
use native.Mathlib.Omega.{arith}
use lib.ListN.{length, get_or}
use Rattle.machine.specs.Layout.{Image, H, reg, word}
use Rattle.machine.specs.Roles.{cell}
use Rattle.machine.specs.Refusals.{work_words}
use Rattle.machine.specs.Reached.{Root, in_control, on_stack, Reach, from_root, from_cell, Reached}
use Rattle.machine.proofs.Chains.{role-low}
use Rattle.machine.proofs.Roles.{has-is}
use Rattle.machine.proofs.Accepted.{Accepted, Names, To, First, by_heap, by_stack, by_control, Clear}
use Rattle.machine.proofs.Inside.{refers-low, names-nothing}
use Rattle.chains.specs.Notes.{Noted}
use Rattle.mark.specs.Marks.{Marked, Start, Within, AnyCell, ClearAmong, Markable, MarksReached}
use Rattle.mark.specs.Marks as marks

-- a word that names a stack word refers to no heap cell
pub names-within : {X : Image} {w : ℕ} (h : ℕ) → Names X w → Within h X.heap w
names-within {X} h n x r = absurd (names-nothing n X.heap x r)

-- what is reached from more roots is more
pub reach-more : {heap : List ℕ} {S S' : ℕ → Type 0} → ((w : ℕ) → S w → S' w) → {x : ℕ} → Reach heap S x → Reach heap S' x
reach-more f (from_root {w = w} s r) = from_root (f w s) r
reach-more f (from_cell p r) = from_cell (reach-more f p) r

module _ {X : Image} (a : Accepted X) {work : List ℕ} (noted : Noted X work (length X.heap)) where
  start-root : (w : ℕ) → Start X.control X.stack X.heap work w → Root X w
  unfolding word
  start-root w (marks.in_control i l) = in_control i l
  start-root w (marks.on_stack i l e) = on_stack i ((noted.role i l cell).0 e)

  root-start : (w : ℕ) → Root X w → Start X.control X.stack X.heap work w
  unfolding word
  root-start w (in_control i l) = marks.in_control i l
  root-start w (on_stack i e) =
      let l = role-low X a.linked i cell (has-is X i cell e) in
      marks.on_stack i l ((noted.role i l cell).1 e)

  start-within : (w : ℕ) → Start X.control X.stack X.heap work w → Within (reg X H) X.heap w
  unfolding word
  start-within w (marks.in_control i l) = ⊎_elim (λ g. refers-low g) (λ n. names-within (reg X H) n) (a.refer.control i l)
  start-within w (marks.on_stack i l e) =
      ⊎_elim (λ g. refers-low g) (λ n. names-within (reg X H) n.0) (a.refer.stack i (has-is X i cell ((noted.role i l cell).0 e)))

  -- refusal 17, said of a root and of every cell
  root-clear : (w : ℕ) → Root X w → Clear X w × ((x : ℕ) → To w x → First X x)
  unfolding word
  root-clear w (in_control i l) = (a.clear.control i l, λ x t. by_control i l t)
  root-clear w (on_stack i e) = let c = has-is X i cell e in (a.clear.stack i c, λ x t. by_stack i c t)

  any-clear : (w : ℕ) → AnyCell X.control X.stack X.heap work w → Clear X w × ((x : ℕ) → To w x → First X x)
  any-clear w (marks.on_heap y l) = (a.clear.heap y l, λ x t. by_heap y l t)
  any-clear w (marks.root s) = root-clear w (start-root w s)

  cells-clear : ClearAmong X.heap (AnyCell X.control X.stack X.heap work)
  cells-clear w c x r other f = (any-clear w c).0 x r other ((any-clear f.word f.among).1 x f.to)

  pub markable : work_words X ≤ length work → ((x : ℕ) → x < length X.heap → get_or work x 0 ≡ 0) → Markable X.control X.stack X.heap work
  markable room blank = record {
    room = room;
    small = a.sizes.heap;
    arguments = a.fits.control;
    top = a.fits.heap;
    unmarked = λ x l. blank x (omega (arith, a.fits.heap));
    cells = λ y l. refers-low (a.refer.heap y l);
    roots = start-within;
    clear = cells-clear;
  }

  pub marks-reached : {work' : List ℕ} → MarksReached X.control X.stack X.heap work work' → (x : ℕ) → x < reg X H → Marked work' x ↔ Reached X x
  marks-reached m x l = (λ p. reach-more start-root ((m.exactly x l).0 p), λ p. (m.exactly x l).1 (reach-more root-start p))
