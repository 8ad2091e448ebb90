-- Words put in front of an area one after the other: what is left to put gives the whole. Assumes nothing.
use Prim.Native.Nat.{ℕ, suc, ◌+◌, ◌-◌, ◌≤◌, ◌<◌}
use mathlib.Core.Path.{◌≡◌, sym, ap, ◌∙◌}
use mathlib.Core.List.{List, ◌++◌}
use native.Mathlib.Omega.{arith}
use native.Mathlib.Nat.{zero-add}
use native.Mathlib.Numerals.{add-one}
use lib.ListN.{length, set, take, drop, drop_of_length-le}
use lib.Seq.{sets, sets-eq, length-take-le}
use Rattle.std.proofs.lemmas.List.{append-nil}
use Rattle.freeze.specs.Kinds.{word_body, body_of, record_size, past}
use Rattle.freeze.specs.Verdicts.{accepted}
use Rattle.freeze.specs.Records.{records_verdict, word_in, words}
use Rattle.freeze.specs.Thaw.{front}
use Rattle.freeze.specs.Parts.{Whole, Fills}
use Rattle.freeze.proofs.RecordLaws.{expected}
use Rattle.freeze.proofs.WordLaws.{length-words, records-passed}
use Rattle.freeze.proofs.Checking.{Checking, checking-more}

-- what is put at the start of an area is its front
pub sets-front : (area new : List ℕ) → length new ≤ length area → sets area 0 new ≡ front area new
sets-front area new h = sets-eq new area 0 (omega arith) ∙ ap (λ (k : ℕ). new ++ drop k area) (zero-add (length new))

module _ (file : List ℕ) (kind from count : ℕ) (area₀ : List ℕ) where
  pub record Filling (at j : ℕ) (items : List ℕ) : Type 0 where
    pub checked : Checking file kind from count at j
    pub left : sets (take count area₀) 0 (words file kind from count) ≡ sets items j (words file kind at (count - j))

  -- the record that comes next is one of those that have passed
  pub filling-passed : (at j : ℕ) (items : List ℕ) → Filling at j items → records_verdict file kind from count ≡ accepted → j < count → expected file kind at ≡ accepted
  filling-passed at j items i e h =
      let s : count - j ≡ suc (count - (j + 1)) = omega arith in
      (records-passed file kind at (count - (j + 1)) (sym (ap (records_verdict file kind at) s) ∙ sym i.checked.left ∙ e)).0

  pub filling-more : (at j : ℕ) (items : List ℕ) → Filling at j items → records_verdict file kind from count ≡ accepted → j < count
      → Filling (at + record_size kind) (j + 1) (set items j (word_in file at 0))
  unfolding words
  filling-more at j items i e h =
      let s : count - j ≡ suc (count - (j + 1)) = omega arith in
      record {
        checked = checking-more file kind from count at j i.checked h (filling-passed at j items i e h);
        left = i.left ∙ ap (λ (m : ℕ). sets items j (words file kind at m)) s
            ∙ ap (λ (k : ℕ). sets (set items j (word_in file at 0)) k (words file kind (at + record_size kind) (count - (j + 1)))) (sym (add-one j));
      }

  pub filling-ends : (at j : ℕ) (items : List ℕ) → Filling at j items → count ≤ length area₀ → count ≤ j → Fills file kind from count area₀ at (items ++ drop count area₀)
  unfolding words
  filling-ends at j items i h z =
      let s : j ≡ count = omega (arith, i.checked.begun) in
      let none : count - j ≡ 0 = omega arith in
      let ws = words file kind from count in
      let l : length ws ≡ count = length-words file kind from count in
      let m : length (take count area₀) ≡ count = length-take-le count area₀ h in
      let same : items ≡ ws =
      sym (i.left ∙ ap (λ (m : ℕ). sets items j (words file kind at m)) none)
      ∙ sets-front (take count area₀) ws (omega arith) ∙ ap (λ (l : List ℕ). ws ++ l) (drop_of_length-le (take count area₀) {i = length ws} (omega arith)) ∙ append-nil ws in
      record { next = i.checked.place ∙ ap (past from kind) s; filled = rw (same, l) }

-- records that have passed are whole, from an offset that is given in another way
pub whole_from : {file : List ℕ} {kind n from at : ℕ} → from ≡ at → body_of kind ≡ word_body → records_verdict file kind at n ≡ accepted → Whole file kind from n
whole_from {file} {kind} {n} e w p = record { word = w; whole = ap (λ (x : ℕ). records_verdict file kind x n) e ∙ p }
