-- The lines of the numbers under which images were refused: those of one count more, and the loop over them. Assumes nothing.
use Prim.Native.Nat.{ℕ, suc, ◌+◌, ◌*◌, ◌≤◌, ◌<◌}
use mathlib.Core.Path.{◌≡◌, sym, ap, ◌∙◌, subst}
use mathlib.Core.Logic.{◌≢◌}
use mathlib.Core.List.{List, [], ◌∷◌, ◌++◌, append_assoc, append-nil}
use native.Mathlib.Omega.{arith}
use native.Mathlib.Nat.{add-zero, add-suc, suc-add}
use native.Mathlib.Numerals.{add-one}
use borrow.Author.Tests.{ne_eqb}
use lib.ListN.{length, get_or, take}
use lib.Seq.{take-suc, take_all, length-take-le}
use Rattle.text.specs.Puts.{PutsShort}
use Rattle.text.proofs.Puttings.{puts_none, short-join, short-within}
use Rattle.text.specs.Line.{ascii, spaced, numbers, line}
use Rattle.report.specs.Text.{number_line, number_lines}
use Rattle.report.specs.Most.{number_line_most}

-- no line where nothing was refused
pub no_line : (output : List ℕ) (at number : ℕ) {count : ℕ} → count ≡ 0 → PutsShort number_line_most output at (number_line number count) at output
unfolding number_line
no_line output at number {count} z = subst (λ (n : ℕ). PutsShort number_line_most output at (number_line number n) at output) (sym z) (record { puts = puts_none output at; short = omega arith })

-- and else a word and two numbers
pub some-line : (number count : ℕ) → count ≢ 0 → {output : List ℕ} {at r : ℕ} {left : List ℕ}
    → PutsShort number_line_most output at (ascii "refused" ++ (spaced number ++ (spaced count ++ ascii "\n"))) r left → PutsShort number_line_most output at (number_line number count) r left
unfolding number_line line numbers
some-line number count n {output} {at} {r} {left} w =
    let e : number_line number count ≡ ascii "refused" ++ (spaced number ++ (spaced count ++ ascii "\n")) = simp (ne_eqb count 0 n, append_assoc, append-nil) in
    subst (λ (t : List ℕ). PutsShort number_line_most output at t r left) (sym e) w

lines_more : (k : ℕ) (counts : List ℕ) (count : ℕ) → number_lines k (counts ++ (count ∷ [])) ≡ number_lines k counts ++ number_line (k + length counts) count
unfolding number_lines
lines_more k [] count = append-nil (number_line k count) ∙ ap (λ (n : ℕ). number_line n count) (sym (add-zero k))
lines_more k (c ∷ counts) count =
    ap (λ (t : List ℕ). number_line k c ++ t) (lines_more (suc k) counts count ∙ ap (λ (n : ℕ). number_lines (suc k) counts ++ number_line n count) (suc-add k (length counts) ∙ sym (add-suc k (length counts))))
    ∙ sym (append_assoc (number_line k c) (number_lines (suc k) counts) (number_line (k + length (c ∷ counts)) count))

-- the invariant of the loop: the lines of the numbers so far are put
pub record Numbering (counts output₀ : List ℕ) (from : ℕ) (output : List ℕ) (at i : ℕ) : Type 0 where
  pub begun : i ≤ length counts
  pub put : PutsShort (i * number_line_most) output₀ from (number_lines 0 (take i counts)) at output

module _ (counts : List ℕ) where
  pub numbering-none : (output : List ℕ) (from : ℕ) → Numbering counts output from output from 0
  unfolding number_lines
  numbering-none output from = record { begun = omega arith; put = record { puts = puts_none output from; short = omega arith } }

  pub numbering-more : {output₀ : List ℕ} {from : ℕ} {output : List ℕ} {at i r : ℕ} {left : List ℕ}
      → Numbering counts output₀ from output at i → i < length counts → PutsShort number_line_most output at (number_line i (get_or counts i 0)) r left → Numbering counts output₀ from left r (i + 1)
  numbering-more {output₀} {from} {output} {at} {i} {r} {left} p h w =
      let e : number_lines 0 (take (i + 1) counts) ≡ number_lines 0 (take i counts) ++ number_line i (get_or counts i 0) = ap (λ (k : ℕ). number_lines 0 (take k counts)) (add-one i) ∙ ap (number_lines 0) (take-suc counts i 0 h) ∙ lines_more 0 (take i counts) (get_or counts i 0) ∙ ap (λ (k : ℕ). number_lines 0 (take i counts) ++ number_line k (get_or counts i 0)) (omega (arith, length-take-le i counts (omega arith))) in
      record {
        begun = omega arith;
        put = subst (λ (t : List ℕ). PutsShort ((i + 1) * number_line_most) output₀ from t r left) (sym e) (short-within (omega arith) (short-join p.put w));
      }

  pub numbering-ends : {output₀ : List ℕ} {from : ℕ} {output : List ℕ} {at i : ℕ}
      → Numbering counts output₀ from output at i → length counts ≤ i → PutsShort (length counts * number_line_most) output₀ from (number_lines 0 counts) at output
  numbering-ends {output₀} {from} {output} {at} {i} p h =
      let e : i ≡ length counts = omega (arith, p.begun) in
      subst (λ (t : List ℕ). PutsShort (length counts * number_line_most) output₀ from t at output) (ap (number_lines 0) (take_all i counts h)) (short-within (omega arith) p.put)
