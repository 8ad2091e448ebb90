-- Where the first file of a window ends: at its counts record at least, at the longest file's end at most, and as in any longer window.
-- Assumes nothing.
use Prim.Native.Nat.{ℕ, zero, suc, ◌+◌, ◌≤◌, ◌<◌, min}
use mathlib.Core.Path.{◌≡◌, refl, ap, ◌∙◌}
use mathlib.Core.Logic.{⊎_elim}
use mathlib.Core.Bool.{Bool, true, false, cond}
use mathlib.Core.List.{List, [], ◌∷◌}
use native.Mathlib.Omega.{arith}
use lib.ListN.{length, take, length-take}
use lib.Seq.{get_or-take, take-take}
use Rattle.machine.proofs.Tests.{either}
use Rattle.freeze.specs.declared.AreaCounts.{AreaCounts}
use Rattle.freeze.specs.Kinds.{COUNTS, record_size, body_of}
use Rattle.freeze.specs.Records.{number_at}
use Rattle.freeze.specs.Thaw.{counts_in, within, control_at, past_end}
use Rattle.freeze.specs.Parts as files
use Rattle.freeze.proofs.KindLaws.{counts-body, file-size}
use Rattle.freeze.proofs.ThawLaws.{within-each}
use Rattle.report.specs.First.{sizes, span, first_file, file_most}
use Rattle.report.specs.Parts.{Sized}

-- the counts record, one kind and sixteen bytes
abbrev pub head : ℕ
head = 17

pub head-is : control_at ≡ head
head-is = omega (arith, counts-body)

pub size_is : record_size COUNTS ≡ head
size_is = omega (arith, counts-body)

pub file-most : past_end sizes ≡ file_most
unfolding body_of
file-most = refl

module _ (room : AreaCounts) (rest : List ℕ) where
  pub span-within : within (counts_in rest) room ≡ true → span room rest ≡ past_end (counts_in rest)
  unfolding span
  span-within e = ap (λ (b : Bool). cond b (past_end (counts_in rest)) control_at) e

  pub span-beyond : within (counts_in rest) room ≡ false → span room rest ≡ head
  unfolding span
  span-beyond e = ap (λ (b : Bool). cond b (past_end (counts_in rest)) control_at) e ∙ head-is

  pub span-least : head ≤ span room rest
  span-least =
      ⊎_elim
      (λ e. omega (arith, span-within e, file-size (counts_in rest), counts-body))
      (λ e. omega (arith, span-beyond e))
      (either (within (counts_in rest) room))

  pub span-most : Sized room → span room rest ≤ file_most
  span-most s =
      ⊎_elim
      (λ e.
      let w = within-each (counts_in rest) room e in
      omega (arith, span-within e, file-size (counts_in rest), file-size sizes, file-most, w.control, w.stack, w.heap, w.trail, s.control, s.stack, s.heap, s.trail))
      (λ e. omega (arith, span-beyond e))
      (either (within (counts_in rest) room))

  -- counts within that room are small
  pub small-counts : Sized room → within (counts_in rest) room ≡ true → files.Small (counts_in rest)
  small-counts s e =
      let w = within-each (counts_in rest) room e in
      record {
        control = omega (arith, w.control, s.control);
        stack = omega (arith, w.stack, s.stack);
        heap = omega (arith, w.heap, s.heap);
        trail = omega (arith, w.trail, s.trail);
      }

  pub first_short : length rest < head → length rest ≡ length (first_file room rest)
  first_short h = simp length-take (omega (arith, span-least))

  pub first_head : head ≤ length rest → within (counts_in rest) room ≡ false → head ≡ length (first_file room rest)
  first_head h e = simp length-take (omega (arith, span-beyond e))

  pub first-whole : (n : ℕ) → n ≡ past_end (counts_in rest) → within (counts_in rest) room ≡ true → min n (length rest) ≡ length (first_file room rest)
  first-whole n q e = simp length-take (omega (arith, span-within e))

  pub first-most : Sized room → length (first_file room rest) ≤ file_most
  first-most s = simp length-take (omega (arith, span-most s))

-- as many bytes as the first file has are the first file
taken_own : (k : ℕ) (l : List ℕ) → take (length (take k l)) l ≡ take k l
taken_own zero l = refl
taken_own (suc k) [] = refl
taken_own (suc k) (x ∷ l) = ap (λ (m : List ℕ). x ∷ m) (taken_own k l)

pub first_taken : (room : AreaCounts) (rest : List ℕ) → take (length (first_file room rest)) rest ≡ first_file room rest
first_taken room rest = taken_own (span room rest) rest

-- the first bytes of a window, whatever comes after them
module _ (w : ℕ) (rest : List ℕ) where
  number-window : (i : ℕ) → i + 4 ≤ w → number_at (take w rest) i ≡ number_at rest i
  unfolding number_at
  number-window i h =
      simp (get_or-take w rest i 0 (omega arith), get_or-take w rest (i + 1) 0 (omega arith), get_or-take w rest (i + 2) 0 (omega arith), get_or-take w rest (i + 3) 0 (omega arith))

  pub counts-window : head ≤ w → counts_in (take w rest) ≡ counts_in rest
  unfolding counts_in
  counts-window h = simp (number-window 1 (omega arith), number-window 5 (omega arith), number-window 9 (omega arith), number-window 13 (omega arith))

-- a window as long as the longest file, or all that is left, begins with the same file as the rest itself
pub first-window : (room : AreaCounts) → Sized room → (w : ℕ) (rest : List ℕ) → file_most ≤ w → first_file room (take w rest) ≡ first_file room rest
unfolding span
first-window room s w rest h =
    let same : span room (take w rest) ≡ span room rest = ap (λ (n : AreaCounts). cond (within n room) (past_end n) control_at) (counts-window w rest (omega arith)) in
    ap (λ (k : ℕ). take k (take w rest)) same ∙ take-take (span room rest) w rest (omega (arith, span-most room rest s))
