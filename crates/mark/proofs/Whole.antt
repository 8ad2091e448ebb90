-- A marked first cell means that its arguments are marked. Pushing keeps this: where a first cell is newly marked, a word that was looked into
-- refers to it; by refusal 17 that word is a STRUCT with this very first cell, so its arguments were pushed with it. Assumes nothing.
use Prim.Native.Nat.{ℕ, ◌≤◌}
use mathlib.Core.Path.{◌≡◌, refl, sym, ap, subst}
use mathlib.Core.Logic.{inl, inr, ⊎_elim}
use mathlib.Core.List.{List}
use native.Mathlib.Omega.{arith}
use lib.ListN.{get_or}
use Rattle.cell.specs.Word.{STRUCT, value_of, tag_of, arity_of, Refers}
use Rattle.cell.proofs.Words.{extent-struct}
use Rattle.machine.specs.Refusals.{struct_to}
use Rattle.machine.proofs.Tests.{true-false, either}
use Rattle.machine.proofs.Accepted.{To}
use Rattle.machine.proofs.FirstCells.{to-iff}
use Rattle.mark.specs.Marks.{FirstAmong, ClearAmong}
use Rattle.mark.specs.Whole.{Whole, Passable, Picked, at}
use Rattle.mark.specs.Pending.{Pushed}
use Rattle.mark.specs.Roots.{Named}
use Rattle.mark.proofs.Stacks.{grown-sound, grown-keeps}

-- x is in P for a word among Words, all of whose cells are in P
pub record Source (heap : List ℕ) (Words : ℕ → Type 0) (P : ℕ → Type 0) (x : ℕ) : Type 0 where
  word : ℕ
  among : Words word
  refers : Refers heap word x
  all : (y : ℕ) → Refers heap word y → P y

-- two STRUCTs on one first cell refer to the same cells
same-arguments : (heap : List ℕ) (v w : ℕ) → tag_of w ≡ STRUCT → To v (value_of w) → (x : ℕ) → Refers heap w x → Refers heap v x
same-arguments heap v w e t x r =
    let functor = ap (λ (y : ℕ). arity_of (get_or heap y 0)) t.first in
    omega (arith, functor, t.first, extent-struct heap w e, extent-struct heap v t.struct)

module _ (heap : List ℕ) {Words : ℕ → Type 0} where
  -- only a STRUCT can mark a first cell: a word that refers to one is a STRUCT on it
  only-struct : ClearAmong heap Words → (v w : ℕ) → Words v → Words w → tag_of w ≡ STRUCT → Refers heap v (value_of w) → To v (value_of w)
  only-struct clear v w k l e r =
      let first : FirstAmong Words (value_of w) = record { word = w; among = l; to = record { struct = e; first = refl } } in
      elim (either (struct_to v (value_of w))) [
        | inl q ↦ (to-iff v (value_of w)).0 q
        | inr q ↦ absurd (clear v k (value_of w) r (λ t. true-false ((to-iff v (value_of w)).1 t) q) first)
      ]

  -- pushing what words of these refer to keeps them whole
  pub whole-pushed : {P : ℕ → Type 0} {marks m : List ℕ} {top t : ℕ} → ClearAmong heap Words → ((x : ℕ) → P x → Source heap Words P x) → Pushed heap P marks top m t → Whole heap Words marks → Whole heap Words m
  whole-pushed clear from p k = record {
    arguments = λ w l e marked x r.
        ⊎_elim
        (λ new.
        let s = from (value_of w) new in
        p.all x (s.all x (same-arguments heap s.word w e (only-struct clear s.word w s.among l e s.refers) x r)))
        (λ old. grown-keeps p.grown x (k.arguments w l e old x r))
        (grown-sound p.grown (value_of w) marked);
  }

module _ {heap : List ℕ} {Words : ℕ → Type 0} {marks : List ℕ} (k : Passable heap Words marks) where
  pub passable-pushed : {P : ℕ → Type 0} {m : List ℕ} {top t : ℕ} → ((x : ℕ) → P x → Source heap Words P x) → Pushed heap P marks top m t → Passable heap Words m
  passable-pushed from p = record { clear = k.clear; whole = whole-pushed heap k.clear from p k.whole }

  -- some of the words
  pub passable-part : {Some : ℕ → Type 0} → ((w : ℕ) → Some w → Words w) → Passable heap Some marks
  passable-part f = record {
    clear = λ w l x r n first. k.clear w (f w l) x r n (record { word = first.word; among = f first.word first.among; to = first.to });
    whole = record { arguments = λ w l. k.whole.arguments w (f w l) };
  }

  -- one word
  pub whole-at : (v : ℕ) → Words v → Whole heap (λ (w : ℕ). w ≡ v) marks
  whole-at v l = (passable-part (λ w q. subst Words (sym q) l)).whole

-- ---- where pushed cells come from

pub from-word : (heap : List ℕ) {Words : ℕ → Type 0} (w : ℕ) → Words w → (x : ℕ) → Refers heap w x → Source heap Words (Refers heap w) x
from-word heap w l x r = record { word = w; among = l; refers = r; all = λ y s. s }

pub from_named : {heap words : List ℕ} {Words Is : ℕ → Type 0} {n : ℕ} → ((w : ℕ) → Picked words Is n w → Words w) → (x : ℕ) → Named heap words Is n x → Source heap Words (Named heap words Is n) x
from_named {words = words} f x r = record {
  word = get_or words r.at 0;
  among = f (get_or words r.at 0) (at r.at r.below r.picked);
  refers = r.refers;
  all = λ y s. record { at = r.at; below = r.below; picked = r.picked; refers = s };
}

pub picked_more : {words : List ℕ} {Is : ℕ → Type 0} {m n : ℕ} → m ≤ n → (w : ℕ) → Picked words Is m w → Picked words Is n w
picked_more l w (at i h s) = at i (omega arith) s
