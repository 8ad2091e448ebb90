-- Bytes written one after the other: two runs of them are one, and an area's records are such a run. Assumes nothing.
use Prim.Native.Nat.{ℕ, suc, ◌+◌, ◌*◌, ◌≤◌, ◌<◌}
use mathlib.Core.Path.{◌≡◌, refl, sym, ap, ◌∙◌, subst}
use mathlib.Core.List.{List, [], ◌∷◌, ◌++◌}
use native.Mathlib.Omega.{arith}
use native.Mathlib.Nat.{add-zero, add-suc, suc-add}
use native.Mathlib.Numerals.{add-one}
use lib.ListN.{length, get_or, set, take, drop, length-append}
use lib.Seq.{sets, length-sets, take-suc, take-length, length-take-le, drop-drop}
use borrow.Rule.Slice.PartMut.{put_mid}
use Rattle.std.proofs.lemmas.List.{append_assoc}
use Rattle.std.proofs.lemmas.List.Edits.{sets-eq}
use Rattle.freeze.specs.Kinds.{word_body, body_of, past}
use Rattle.freeze.specs.Freeze.{bytes_of, records}
use Rattle.freeze.specs.Parts.{Writes}

sets-append : (l : List ℕ) (i : ℕ) (a b : List ℕ) → sets l i (a ++ b) ≡ sets (sets l i a) (i + length a) b
sets-append l i [] b = rw add-zero
sets-append l i (x ∷ a) b = sets-append (set l i x) (suc i) a b ∙ ap (λ (k : ℕ). sets (sets (set l i x) (suc i) a) k b) (suc-add i (length a) ∙ sym (add-suc i (length a)))

pub writes-join : {output : List ℕ} {at : ℕ} {a : List ℕ} {r : ℕ} {left : List ℕ} {b : List ℕ} {r' : ℕ} {left' : List ℕ}
    → Writes output at a r left → Writes left r b r' left' → Writes output at (a ++ b) r' left'
writes-join {output} {at} {a} {r} {left} {b} w v = record {
  next = omega (arith, w.next, v.next, length-append a b);
  written =
      v.written ∙ ap (λ (l : List ℕ). sets l r b) w.written ∙ ap (λ (k : ℕ). sets (sets output at a) k b) w.next ∙ sym (sets-append output at a b);
}

pub writes-none : (output : List ℕ) (at : ℕ) → Writes output at [] at output
writes-none output at = record { next = sym (add-zero at); written = refl }

pub writes_byte : (output : List ℕ) (at b : ℕ) → Writes output at (b ∷ []) (at + 1) (set output at b)
writes_byte output at b = record { next = refl; written = refl }

-- bytes copied into the part from an offset on
pub writes-copied : (output : List ℕ) (at k : ℕ) (bytes new : List ℕ) → new ≡ bytes → k ≡ length bytes → at + length bytes ≤ length output
    → Writes output at bytes (at + length bytes) (put_mid at k output new)
writes-copied output at k bytes new same l h = record {
  next = refl;
  written =
      rw (same, l, drop-drop (length bytes) at output)
      (sym (sets-eq bytes output at h ∙ append_assoc (take at output) bytes (drop (at + length bytes) output)));
}

pub writes-same : {output : List ℕ} {at : ℕ} {a : List ℕ} {r : ℕ} {left : List ℕ} → Writes output at a r left → length left ≡ length output
writes-same {output} {at} {a} w = ap length w.written ∙ length-sets output at a

-- a word's record has 5 bytes
pub length-records : (kind : ℕ) (ws : List ℕ) → length (records kind ws) ≡ length ws * (1 + word_body)
unfolding records
length-records kind [] = refl
length-records kind (w ∷ ws) = omega (arith, length-records kind ws)

pub word-past : (at kind n : ℕ) → body_of kind ≡ word_body → past at kind n ≡ at + n * (1 + word_body)
word-past at kind n e = ap (λ (b : ℕ). at + n * (1 + b)) e

records-append : (kind : ℕ) (a b : List ℕ) → records kind (a ++ b) ≡ records kind a ++ records kind b
unfolding records
records-append kind [] b = refl
records-append kind (w ∷ a) b = ap (λ (r : List ℕ). kind ∷ (bytes_of w ++ r)) (records-append kind a b)

records-more : (kind : ℕ) (area : List ℕ) (j : ℕ) → j < length area → records kind (take (j + 1) area) ≡ records kind (take j area) ++ (kind ∷ bytes_of (get_or area j 0))
unfolding records
records-more kind area j h = ap (λ (k : ℕ). records kind (take k area)) (add-one j) ∙ ap (records kind) (take-suc area j 0 h) ∙ records-append kind (take j area) (get_or area j 0 ∷ [])

-- the invariant of the loop over words: the records of those so far are written
module _ (words : List ℕ) (kind : ℕ) (output₀ : List ℕ) (from : ℕ) where
  pub record Writing (output : List ℕ) (at j : ℕ) : Type 0 where
    pub begun : j ≤ length words
    pub written : Writes output₀ from (records kind (take j words)) at output

  pub writing-none : Writing output₀ from 0
  unfolding records
  writing-none = record { begun = omega arith; written = writes-none output₀ from }

  pub writing-place : (output : List ℕ) (at j : ℕ) → Writing output at j → at ≡ from + j * (1 + word_body)
  writing-place output at j i =
      i.written.next ∙ ap (λ (n : ℕ). from + n) (length-records kind (take j words) ∙ ap (λ (n : ℕ). n * (1 + word_body)) (length-take-le j words i.begun))

  -- the next record has room
  pub writing-room : (output : List ℕ) (at j : ℕ) → Writing output at j → body_of kind ≡ word_body → {n : ℕ} → length words ≡ n → past from kind n ≤ length output₀ → j < length words
      → at + (1 + word_body) ≤ length output
  writing-room output at j i word {n} l room h = omega (arith, writing-place output at j i, word-past from kind n word, writes-same i.written)

  pub writing_more : (output : List ℕ) (at j : ℕ) {r : ℕ} {left : List ℕ} → Writing output at j → j < length words
      → Writes (set output at kind) (at + 1) (bytes_of (get_or words j 0)) r left → Writing left r (j + 1)
  writing_more output at j {r} {left} i h w = record {
    begun = omega arith;
    written =
        subst (λ (bs : List ℕ). Writes output₀ from bs r left) (sym (records-more kind words j h))
        (writes-join i.written (writes-join (writes_byte output at kind) w));
  }

  pub writing-ends : (output : List ℕ) (at j : ℕ) → Writing output at j → length words ≤ j → Writes output₀ from (records kind words) at output
  writing-ends output at j i h =
      let s : j ≡ length words = omega (arith, i.begun) in
      subst (λ (l : List ℕ). Writes output₀ from (records kind l) at output) (ap (λ (n : ℕ). take n words) s ∙ take-length words) i.written
