-- A root of an accepted image, after the call that named it: the notes are blank, a walk notes every role, and cleared again the work words are as that
-- call left them. Assumes nothing.
use Prim.Native.Nat.{ℕ, ◌+◌, ◌≤◌, ◌<◌}
use mathlib.Core.Path.{◌≡◌, refl, sym, ap, ◌∙◌, subst}
use mathlib.Core.Bool.{true}
use mathlib.Core.List.{List}
use native.Mathlib.Omega.{arith}
use Rattle.std.specs.Prelude.{Result, Ok, Err, IsOk}
use lib.ListN.{length, drop, length-append, length-drop, length-replicate}
use Rattle.machine.specs.declared.Area.{Area}
use Rattle.machine.specs.declared.Area.TheVariants.{Stack}
use Rattle.machine.specs.Layout.{Image}
use Rattle.machine.specs.Chains.{walk, fault_of, whole, broken}
use Rattle.machine.specs.Roles.{has, is_cell, cell}
use Rattle.machine.specs.Refusals.{work_words, enough}
use Rattle.machine.proofs.Accepted.{Accepted}
use Rattle.machine.proofs.Chains.{role-low}
use Rattle.machine.proofs.Checks.{enough-iff}
use Rattle.machine.proofs.Roles.{has-is, apart-iff}
use Rattle.machine.proofs.Verdicts.{verdict-accepted}
use Rattle.machine.proofs.Walks.{whole-linked}
use Rattle.machine.proofs.Works.{cleared_to, uses-all, lent-cleared}
use Rattle.chains.specs.Notes.{Blank, Walks, Noted}
use Rattle.chains.proofs.Conflicts.{noted-of-walk, conflict-noted}
use Rattle.admit.specs.Admits.{Blanked}
use Rattle.admit.proofs.Admitting.{blanked, cleared-rest}
use Rattle.order.specs.Chains.{RootAt, on_stack}
use Rattle.telling.specs.declared.owners.Owner.{Owner}
use Rattle.telling.specs.Parts.{Shown, Owned, Owns, Rooted}
use Rattle.telling.proofs.Firsts.{owner_of, First, first-owner, gives-low, first-shown}

whole-broken : {i : ℕ} → whole ≡ broken i → ⊥
whole-broken e = let z : ◌≡◌ {A = ℕ} 0 1 = cc in omega arith

module _ {X : Image} {work : List ℕ} {area : Area} {index : ℕ} (a : Rooted X work area index) where
  pub accepts : Accepted X × (work_words X ≤ length a.lent)
  accepts = verdict-accepted (length a.lent) X a.passes

  enough-lent : enough (length a.lent) X ≡ true
  enough-lent = (enough-iff X (length a.lent)).1 (accepts.0.sizes, accepts.1)

  is-cleared : work ≡ cleared_to X a.lent
  is-cleared = a.cleared ∙ sym (lent-cleared X a.lent a.lent enough-lent refl)

  same-long : length work ≡ length a.lent
  same-long = rw (is-cleared, uses-all X) (simp (length-append, length-drop, length-replicate {A = ℕ} (work_words X) 0) (omega (arith, accepts.1)))

  is-blank : Blanked X work
  is-blank = blanked X a.lent enough-lent work is-cleared same-long

  pub rooted-blank : Blank X.control X.stack work (length X.heap)
  rooted-blank = record {
    registers = omega (arith, accepts.0.sizes.least);
    room = omega (arith, is-blank.room);
    zero = λ i l. is-blank.blank (length X.heap + i) (omega arith);
  }

  sees-all : fault_of X (walk X) ≡ whole
  sees-all = (whole-linked X).1 accepts.0.linked

  -- no chain is broken
  pub walk-ends : {walked : List ℕ} (r : Result Unit ℕ) → Walks X work (length X.heap) r walked → IsOk r
  walk-ends (Ok u) w = refl
  walk-ends (Err i) w = absurd (whole-broken (sym sees-all ∙ w.stopped))

  module _ {walked : List ℕ} (w : Walks X work (length X.heap) (Ok tt) walked) where
    pub walk-noted : Noted X walked (length X.heap)
    walk-noted = noted-of-walk X walked (length X.heap) w.noted (λ i l. conflict-noted X walked (length X.heap) w.noted i l ∙ (apart-iff X sees-all).1 accepts.0.apart i l)

    pub walked-cleared : (exit : List ℕ) → exit ≡ cleared_to X walked → exit ≡ work
    walked-cleared exit e =
        let behind : drop (work_words X) walked ≡ drop (work_words X) a.lent =
        w.after ∙ ap (drop (work_words X)) is-cleared ∙ cleared-rest X a.lent enough-lent in
        e ∙ lent-cleared X a.lent walked enough-lent behind ∙ sym a.cleared

-- ---- a cell of the stack

cell-here : {X : Image} {i w : ℕ} → RootAt X Stack i w → is_cell X i ≡ true
cell-here (on_stack i c) = c

module _ {X : Image} {work : List ℕ} {i : ℕ} (a : Rooted X work Stack i) where
  first : First X i (walk X)
  unfolding has
  first = first-owner X i (walk X) (cell-here a.root)

  pub root-low : i < length X.stack
  root-low = role-low X (accepts a).0.linked i cell (has-is X i cell (cell-here a.root))

  module _ {walked : List ℕ} (w : Walks X work (length X.heap) (Ok tt) walked) where
    shown : Shown (drop (length X.heap) walked) i (owner_of first.thing)
    shown = first-shown (accepts a).0.linked (walk-noted a w) i first

    pub root-owned : Owned (drop (length X.heap) walked) i
    root-owned = record {
      inside = omega (arith, root-low, w.same, (rooted-blank a).room, length-drop (length X.heap) walked);
      owner = owner_of first.thing;
      shown = shown;
    }

    pub root-owns : {owner : Owner} → ((o : Owner) → Shown (drop (length X.heap) walked) i o → owner ≡ o) → Owns X i owner
    root-owns {owner} f =
        let e = f _ shown in
        subst (Owns X i) (sym e) (record { low = gives-low X i first.thing first.has-cell; text = first.told })
