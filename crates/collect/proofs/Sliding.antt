-- An admitted and counted image can be slid, area by area: what each pass needs follows from what was checked. Assumes nothing.
use Prim.Native.Nat.{ℕ, ◌+◌, ◌≤◌, ◌<◌}
use mathlib.Core.Path.{◌≡◌, refl, sym, ap, ◌∙◌}
use mathlib.Core.Logic.{◌≢◌, ◌⊎◌, inl, inr, ⊎_elim, ◌↔◌}
use mathlib.Core.Bool.{Bool, true}
use mathlib.Core.List.{List, ◌++◌}
use native.Mathlib.Omega.{arith}
use lib.ListN.{length, get_or, take, length-append, get_or-append}
use lib.Seq.{length-take-le, get_or-take}
use Rattle.std.proofs.lemmas.List.{get_or-append-add}
use Rattle.machine.specs.Layout.{Image, Field, T, H, place_of, reg, at, word}
use Rattle.machine.specs.Roles.{Role, cell, own, has, code_of, note_at}
use Rattle.machine.specs.Moved.{each}
use Rattle.machine.proofs.Chains.{Point, Is, in_point, point-bounds}
use Rattle.machine.proofs.Layouts.{at-word}
use Rattle.machine.proofs.Roles.{has-is, code-inj}
use Rattle.machine.proofs.Each.{length-each, each_at}
use Rattle.machine.proofs.Accepted.{Accepted, Good, Names}
use Rattle.machine.proofs.Inside.{value_low, heap-entry, stack-entry}
use Rattle.counts.specs.Counts.{Counting, Low, Movable}
use Rattle.counts.proofs.Counting.{counting-low}
use Rattle.chains.specs.Notes.{Noted}
use Rattle.slide.specs.Slides.{move_t, HeapSlides, StackSlides, ControlSlides, TrailSlides}
use Rattle.slide.proofs.Words.{move_t-other}
use Rattle.collect.specs.Phases.{Slidable}
use Rattle.collect.proofs.Rising.{trail-rises}

-- notes that stay say the same
pub noted-same : {X : Image} {work : List ℕ} (work' : List ℕ) (notes : ℕ) → ((i : ℕ) → note_at work' notes i ≡ note_at work notes i) → Noted X work notes → Noted X work' notes
noted-same work' notes e n = record {
  role = λ i l r. (λ q. (n.role i l r).0 (sym (e i) ∙ q), λ h. e i ∙ (n.role i l r).1 h);
  known = λ i l. ⊎_elim (λ q. inl (e i ∙ q)) (λ q. inr (q.0, e i ∙ q.1)) (n.known i l);
}

-- `Noted`, of the notes as a list of their own
pub record Notes (X : Image) (notes : List ℕ) : Type 0 where
  pub role : (i : ℕ) → i < length X.stack → (r : Role) → (get_or notes i 0 ≡ code_of r) ↔ (has X i r ≡ true)
  pub known : (i : ℕ) → i < length X.stack → (get_or notes i 0 ≡ 0) ⊎ ((r : Role) × (get_or notes i 0 ≡ code_of r))

notes_of : {X : Image} {work notes : List ℕ} {at : ℕ} → ((i : ℕ) → note_at work at i ≡ get_or notes i 0) → Noted X work at → Notes X notes
notes_of e n = record {
  role = λ i l r. (λ q. (n.role i l r).0 (e i ∙ q), λ h. sym (e i) ∙ (n.role i l r).1 h);
  known = λ i l. ⊎_elim (λ q. inl (sym (e i) ∙ q)) (λ q. inr (q.0, sym (e i) ∙ q.1)) (n.known i l);
}

-- the work words in two parts: a count for each heap cell below H, and a note for each stack word
pub record Parted (X : Image) (cells : ℕ → Bool) (counts notes : List ℕ) : Type 0 where
  pub top : length counts ≡ reg X H
  pub counting : Counting cells (length counts) counts
  pub room : length X.stack ≤ length notes
  pub noted : Notes X notes

pub parted : {X : Image} {work notes : List ℕ} {n : ℕ} (s : Slidable X work n) (front : List ℕ) → work ≡ front ++ notes → length front ≡ length X.heap → Parted X s.cells (take (reg X H) front) notes
parted {X} {work} {notes} s front e l =
    let h = reg X H in
    let low : h ≤ length front = omega (arith, s.accepted.fits.heap, l) in
    let top : length (take h front) ≡ h = length-take-le h front low in
    record {
      top = top;
      counting = record {
        at = λ x m.
            let b : x < h = omega (arith, top) in
            get_or-take h front x 0 b ∙ sym (get_or-append front notes 0 x (omega (arith, low))) ∙ sym (ap (λ (ws : List ℕ). get_or ws x 0) e) ∙ s.counting.at x b;
      };
      room = omega (arith, s.room, ap (λ (ws : List ℕ). length ws) e, length-append front notes, l);
      noted = notes_of (λ i. rw (← l, e) (get_or-append-add front notes i 0)) s.noted;
    }

pub good-movable : {h : ℕ} {heap : List ℕ} {w : ℕ} → Good h heap w → Movable h w
good-movable g n l = value_low g n

pub names-movable : {X : Image} {w : ℕ} (h : ℕ) → Names X w → Movable h w
names-movable h s n l = absurd (omega (arith, s.high))

module _ {X : Image} (a : Accepted X) {cells : ℕ → Bool} {counts notes : List ℕ} (p : Parted X cells counts notes) where
  low : Low (length counts) counts
  low = counting-low p.counting (omega (arith, p.top, a.fits.heap, a.sizes.heap)) (omega arith)

  -- what a note says
  is : (i : ℕ) → i < length X.stack → (r : Role) → get_or notes i 0 ≡ code_of r → Is X i r
  is i l r e = has-is X i r ((p.noted.role i l r).0 e)

  record Owned (i : ℕ) (f : Field) : Type 0 where
    b : ℕ
    point : Point X b
    word-is : get_or X.stack i 0 ≡ at X b f
    place : i ≡ b + place_of f

  owned-of : (i : ℕ) (f : Field) (r : Role) → r ≡ own f → Is X i r → Owned i f
  unfolding word
  owned-of i f r e (in_point b p g q) =
      let s : g ≡ f = cc in
      record { b = b; point = p; word-is = rw (q, s) (sym (at-word X b f)); place = rw s at q }
  owned-of i f r e (Is.slot x k v l m) = let z : ◌≡◌ {A = ℕ} 0 1 = cc in absurd (omega arith)
  owned-of i f r e (Is.saved b p l m) = let z : ◌≡◌ {A = ℕ} 0 1 = cc in absurd (omega arith)
  owned-of i f r e (Is.size x k v q) = let z : ◌≡◌ {A = ℕ} 0 1 = cc in absurd (omega arith)
  owned-of i f r e (Is.link x k v q) = let z : ◌≡◌ {A = ℕ} 0 1 = cc in absurd (omega arith)

  owned : (i : ℕ) → i < length X.stack → (f : Field) → get_or notes i 0 ≡ code_of (own f) → Owned i f
  owned i l f e = owned-of i f (own f) refl (is i l (own f) e)

  pub heap-slides : HeapSlides X.heap counts
  heap-slides = record {
    low = low;
    inside = omega (arith, p.top, a.fits.heap);
    cells = λ x l. rw p.top (good-movable (a.refer.heap x (omega (arith, p.top))));
  }

  pub control-slides : ControlSlides X.control counts
  control-slides = record {
    low = low;
    inside = a.fits.control;
    cells = λ i l. rw p.top (⊎_elim (λ g. good-movable g) (λ n. names-movable (reg X H) n) (a.refer.control i l));
  }

  pub trail-slides : TrailSlides X.trail X.stack counts notes (reg X T)
  trail-slides = record {
    room = p.room;
    inside = a.fits.trail;
    small = omega (arith, a.fits.trail, a.sizes.trail);
    heap_entries = λ i l m. rw p.top (heap-entry (a.trail i l) m);
    stack_entries = λ i l m. stack-entry (a.trail i l) m;
    last = λ i l e. let o = owned i l T e in omega (arith, o.word-is, (point-bounds X a.linked o.b o.point).trail);
    rising = λ i j l m e f.
        let o = owned i (omega arith) T e in
        let q = owned j m T f in
        omega (arith, o.word-is, q.word-is, trail-rises a.linked o.b q.b o.point q.point (omega (arith, o.place, q.place)));
  }

  -- the T fields are done first, and no other word is touched by that
  module _ (entries : ℕ → Bool) where
    untouched : (i : ℕ) → i < length X.stack → (r : Role) → r ≢ own T → get_or notes i 0 ≡ code_of r → get_or (each (move_t entries notes) 0 X.stack) i 0 ≡ get_or X.stack i 0
    untouched i l r n e =
        each_at (move_t entries notes) X.stack i l
        ∙ move_t-other entries notes i (get_or X.stack i 0) (λ q. n (code-inj r (own T) (sym e ∙ q)))

    pub stack-slides : StackSlides (each (move_t entries notes) 0 X.stack) counts notes
    unfolding word
    stack-slides =
        let same : length (each (move_t entries notes) 0 X.stack) ≡ length X.stack = length-each (move_t entries notes) 0 X.stack in
        record {
          low = low;
          room = omega (arith, same, p.room);
          cells = λ i l e.
              let m : i < length X.stack = omega (arith, same) in
              rw (p.top, untouched i m cell (λ q. let z : ◌≡◌ {A = ℕ} 0 1 = cc in omega arith) e)
              (⊎_elim (λ g. good-movable g) (λ n. names-movable (reg X H) n.0) (a.refer.stack i (is i m cell e)));
          boundaries = λ i l e.
              let m : i < length X.stack = omega (arith, same) in
              let o = owned i m H e in
              rw (p.top, untouched i m (own H) (λ q. let z : ◌≡◌ {A = ℕ} 0 1 = cc in omega arith) e) (omega (arith, o.word-is, (point-bounds X a.linked o.b o.point).heap));
        }
