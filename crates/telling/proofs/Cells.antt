-- The lines of a chain's cells: a line a cell, in their order, and how long they can be. Assumes nothing.
use Prim.Native.Nat.{ℕ, suc, ◌*◌, ◌^◌, ◌≤◌, ◌<◌}
use mathlib.Core.Path.{◌≡◌, refl, sym, ap, ◌∙◌, subst}
use mathlib.Core.Bool.{Bool, true, false}
use mathlib.Core.List.{List, [], ◌∷◌, ◌++◌, append_assoc, append-nil}
use native.Mathlib.Omega.{arith}
use lib.Dec.{eqb}
use lib.ListN.{length, get_or, take, length-append, length-take}
use lib.Seq.{get_or-take}
use Rattle.cell.specs.Word.{VAR, STRUCT, LIST, value_of, tag_of}
use Rattle.machine.specs.Answers.{pick_words}
use Rattle.text.specs.Decimal.{decimal}
use Rattle.text.specs.Line.{ascii, spaced}
use Rattle.text.proofs.Decimals.{decimal-short}
use Rattle.text.proofs.Puttings.{Row}
use Rattle.freeze.specs.RoundTrips.{Words}
use Rattle.telling.specs.Text.{tag_name, cell_line, cell_lines}
use Rattle.telling.specs.Tells.{cell_most}

module _ (heap : List ℕ) where
  lines-append : (xs ys : List ℕ) → cell_lines heap (xs ++ ys) ≡ cell_lines heap xs ++ cell_lines heap ys
  unfolding cell_lines
  lines-append [] ys = refl
  lines-append (x ∷ xs) ys = ap (λ (t : List ℕ). cell_line heap x ++ t) (lines-append xs ys) ∙ sym (append_assoc (cell_line heap x) (cell_lines heap xs) (cell_lines heap ys))

  pub lines-row : Row (cell_lines heap)
  unfolding cell_lines
  lines-row = record { none = refl; more = λ xs x. lines-append xs (x ∷ []) }

  pub line-one : (x : ℕ) → cell_line heap x ≡ cell_lines heap (x ∷ [])
  unfolding cell_lines
  line-one x = sym (append-nil (cell_line heap x))

pick-short : (b : Bool) {m : ℕ} (s t : List ℕ) → length s ≤ m → length t ≤ m → length (pick_words b s t) ≤ m
pick-short true s t p q = p
pick-short false s t p q = q

tag-short : (tag : ℕ) → length (tag_name tag) ≤ 7
unfolding tag_name
tag-short tag = pick-short (eqb tag VAR) _ _ (omega arith) (pick-short (eqb tag STRUCT) _ _ (omega arith) (pick-short (eqb tag LIST) _ _ (omega arith) (omega arith)))

line-short : (heap : List ℕ) (x : ℕ) → Words heap → x < 2 ^ 32 → length (cell_line heap x) ≤ cell_most
unfolding cell_line spaced
line-short heap x h l =
    let w = get_or heap x 0 in
    omega (
      arith,
      length-append (decimal x) (tag_name (tag_of w) ++ (spaced (value_of w) ++ ascii "\n")),
      length-append (tag_name (tag_of w)) (spaced (value_of w) ++ ascii "\n"),
      length-append (spaced (value_of w)) (ascii "\n"),
      decimal-short 9 x (omega arith),
      tag-short (tag_of w),
      decimal-short 9 (value_of w) (omega (arith, h x)),
    )

pub lines-short : (heap xs : List ℕ) → Words heap → ((i : ℕ) → i < length xs → get_or xs i 0 < 2 ^ 32) → length (cell_lines heap xs) ≤ cell_most * length xs
unfolding cell_lines
lines-short heap [] h w = omega arith
lines-short heap (x ∷ xs) h w =
    omega (arith, length-append (cell_line heap x) (cell_lines heap xs), line-short heap x h (w 0 (omega arith)), lines-short heap xs h (λ i l. w (suc i) (omega arith)))

-- the first words of a room
pub room-short : (heap room : List ℕ) (count : ℕ) → Words heap → Words room → length (cell_lines heap (take count room)) ≤ cell_most * length room
room-short heap room count h w =
    let l = length-take count room in
    omega (
      arith,
      l,
      lines-short heap (take count room) h (λ i m. subst (λ (x : ℕ). x < 2 ^ 32) (sym (get_or-take count room i 0 (omega arith))) (w i)),
    )
