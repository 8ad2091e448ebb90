-- The work words as they are lent: `front`, one word for each heap cell, of which those below H are marked, and `notes`, one for each stack
-- word. What is read in them at entry, and what they hold when the words below H come back as m. Assumes nothing.
use Prim.Native.Nat.{ℕ, ◌+◌, ◌≤◌, ◌<◌}
use mathlib.Core.Path.{◌≡◌, refl, sym, ap, ◌∙◌}
use mathlib.Core.List.{List, ◌++◌}
use native.Mathlib.Omega.{arith}
use native.Mathlib.Decide.{dec_lt}
use lib.ListN.{get_or, length, take, drop, length-take, length-append, get_or-append, get_or-eq_default}
use lib.Seq.{length-take-le, length_front, get_or-take, get_or-drop}
use Rattle.std.proofs.lemmas.List.{drop-append-le, get_or-append-add}
use Rattle.std.proofs.lemmas.Slice.{drop-append-drop}
use Rattle.machine.specs.Layout.{H, field}
use Rattle.machine.specs.Roles.{note_at}
use Rattle.mark.specs.Marks.{Marked, Markable}

-- a part from an index on, word by word
pub part-at : (from n : ℕ) (words : List ℕ) (i : ℕ) → i < length (take n (drop from words)) → get_or (take n (drop from words)) i 0 ≡ get_or words (from + i) 0
part-at from n words i l =
    get_or-take n (drop from words) i 0 (omega (arith, length-take n (drop from words))) ∙ get_or-drop from words i 0

pub record Parted (control stack heap work front notes : List ℕ) : Type 0 where
  pub markable : Markable control stack heap work
  pub parts : work ≡ front ++ notes
  pub long : length front ≡ length heap

pub parted : {control stack heap work front notes : List ℕ} → Markable control stack heap work → work ≡ front ++ notes → length front ≡ length heap → Parted control stack heap work front notes
parted k p l = record { markable = k; parts = p; long = l }

module _ {control stack heap work front notes : List ℕ} (c : Parted control stack heap work front notes) where
  abbrev h : ℕ
  h = field control 0 H

  pub low : h ≤ length front
  low = omega (arith, c.markable.top, c.long)

  pub front_length : length (take h front) ≡ h
  front_length = length-take-le h front low

  pub front-clear : (x : ℕ) → Marked (take h front) x → ⊥
  front-clear x m =
      elim (dec_lt x h) [
        | yes l ↦ omega (arith, get_or-take h front x 0 l, ap (λ (l : List ℕ). get_or l x 0) c.parts, get_or-append front notes 0 x (omega (arith, low)), c.markable.unmarked x l)
        | no l ↦ omega (arith, get_or-eq_default (take h front) 0 {n = x} (omega (arith, front_length)))
      ]

  pub note-same : (i : ℕ) → note_at work (length heap) i ≡ get_or notes i 0
  note-same i = rw (← c.long, c.parts) (get_or-append-add front notes i 0)

  -- ---- the words below H come back as m

  module _ (m : List ℕ) (same : length m ≡ h) where
    kept : length (m ++ drop h front) ≡ length front
    kept = length_front front m h (same ∙ sym front_length)

    pub put_at : (x : ℕ) → x < h → get_or (m ++ drop h front ++ notes) x 0 ≡ get_or m x 0
    put_at x l = get_or-append (m ++ drop h front) notes 0 x (omega (arith, kept, low)) ∙ get_or-append m (drop h front) 0 x (omega (arith, same))

    pub put_rest : drop h (m ++ drop h front ++ notes) ≡ drop h work
    put_rest =
        rw (c.parts, drop-append-le h (m ++ drop h front) notes (omega (arith, kept, low)), drop-append-le h front notes low, drop-append-drop h front m h (omega arith) same) refl

    pub put_length : length (m ++ drop h front ++ notes) ≡ length work
    put_length = omega (arith, kept, ap length c.parts, length-append (m ++ drop h front) notes, length-append front notes)
