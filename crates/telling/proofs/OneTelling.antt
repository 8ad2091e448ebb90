-- The promise of `tell` fixes everything: its answer, the output, the areas, the work words and the room. Assumes nothing.
use Prim.Native.Nat.{ℕ, ◌≤◌}
use mathlib.Core.Path.{◌≡◌, sym, ap, ◌∙◌}
use mathlib.Core.List.{List}
use native.Mathlib.Omega.{arith}
use lib.ListN.{length}
use Rattle.machine.specs.Layout.{Image}
use Rattle.machine.specs.Answers.{work_after}
use Rattle.freeze.specs.Verdicts as files
use Rattle.listing.specs.Text.{file_text}
use Rattle.listing.specs.Lists.{thawed, taken, over}
use Rattle.listing.proofs.OneListing.{file-apart}
use Rattle.holder.proofs.Unique.{outcome-unique}
use Rattle.telling.specs.Text.{said_text}
use Rattle.telling.specs.Tells.{Left, Outcomes, bad_file, told, Tells}

module _ {file : List ℕ} {lent : Image} {work : List ℕ} {x : ℕ} {room : List ℕ} where
  pub one-outcome : {a b : Left} → Outcomes file lent work x room a → Outcomes file lent work x room b → a ≡ b
  one-outcome (bad_file n o e) (bad_file n' o' e') =
      let s : files.refused n o ≡ files.refused n' o' = sym e ∙ e' in
      let p : n ≡ n' = cc in
      let q : o ≡ o' = cc in
      λ i. record { text = file_text (p i) (q i); areas = lent; work = work; room = room }
  one-outcome (bad_file n o e) (told s r e' f) = absurd (file-apart (sym e' ∙ e))
  one-outcome (told s r e f) (bad_file n o e') = absurd (file-apart (sym e ∙ e'))
  one-outcome (told s r e f) (told s' r' e' f') =
      let u = outcome-unique f f' in
      λ i. record {
        text = said_text (taken file lent) (u.0 i) (u.1 i);
        areas = thawed file lent;
        work = work_after (taken file lent) work;
        room = u.1 i;
      }

  pub one-telling : {output output₁ output₂ work₁ work₂ room₁ room₂ : List ℕ} {r₁ r₂ : ℕ} {left₁ left₂ : Image}
      → Tells file lent work x room output r₁ left₁ work₁ room₁ output₁ → Tells file lent work x room output r₂ left₂ work₂ room₂ output₂
      → (r₁ ≡ r₂) × (left₁ ≡ left₂) × (work₁ ≡ work₂) × (room₁ ≡ room₂) × (output₁ ≡ output₂)
  one-telling {output} a b =
      let o = one-outcome a.outcome b.outcome in
      let t : a.text ≡ b.text = ap (λ (z : Left). z.text) o in (
        omega (arith, a.answer, b.answer, ap length t),
        ap (λ (z : Left). z.areas) o,
        ap (λ (z : Left). z.work) o,
        ap (λ (z : Left). z.room) o,
        a.written ∙ ap (over output) t ∙ sym b.written,
      )

-- a room and an output of the program's sizes: no text is cut
pub never-cut : {file : List ℕ} {lent : Image} {work : List ℕ} {x : ℕ} {room output output' work' room' : List ℕ} {r : ℕ} {left : Image}
    → (t : Tells file lent work x room output r left work' room' output') → length room ≤ 2048 → 59512 ≤ length output → r ≡ length t.text
never-cut t l o = omega (arith, t.answer, t.most)
