-- The promise of `list` fixes everything: its answer, the output, the areas and the work words. Assumes nothing.
use Prim.Native.Nat.{ℕ, ◌≤◌}
use mathlib.Core.Path.{◌≡◌, sym, ap, ◌∙◌}
use mathlib.Core.List.{List}
use native.Mathlib.Omega.{arith}
use lib.ListN.{length}
use Rattle.machine.specs.Layout.{Image}
use Rattle.machine.specs.Refusals.{Where, accepted, refused}
use Rattle.machine.specs.Answers.{work_after}
use Rattle.machine.proofs.Verdicts.{verdict-accepted}
use Rattle.machine.proofs.Unique.{one-image, one_answer}
use Rattle.freeze.specs.Verdicts as files
use Rattle.listing.specs.Text.{file_text, refused_text, collected_text}
use Rattle.listing.specs.Lists.{thawed, taken, joined, Outcome, Outcomes, bad_file, refused_image, collected, over, Lists}

pub file-apart : {number offset : ℕ} → files.accepted ≡ files.refused number offset → ⊥
file-apart e = let z : ◌≡◌ {A = ℕ} 0 1 = cc in omega arith

apart : {number : ℕ} {place : Where} → accepted ≡ refused number place → ⊥
apart e = let z : ◌≡◌ {A = ℕ} 0 1 = cc in omega arith

module _ {file : List ℕ} {lent : Image} {work : List ℕ} where
  pub one-outcome : {a b : Outcome} → Outcomes file lent work a → Outcomes file lent work b → a ≡ b
  one-outcome (bad_file n o e) (bad_file n' o' e') =
      let s : files.refused n o ≡ files.refused n' o' = sym e ∙ e' in
      let p : n ≡ n' = cc in
      let q : o ≡ o' = cc in
      λ i. record { text = file_text (p i) (q i); areas = lent; work = work }
  one-outcome (bad_file n o e) (refused_image n' p' e' f') = absurd (file-apart (sym e' ∙ e))
  one-outcome (bad_file n o e) (collected Y e' f' t') = absurd (file-apart (sym e' ∙ e))
  one-outcome (refused_image n p e f) (bad_file n' o' e') = absurd (file-apart (sym e ∙ e'))
  one-outcome (refused_image n p e f) (refused_image n' p' e' f') =
      let s : refused n p ≡ refused n' p' = sym f ∙ f' in
      let a : n ≡ n' = cc in
      let b : p ≡ p' = cc in
      λ i. record { text = refused_text (a i) (b i); areas = thawed file lent; work = work_after (taken file lent) work }
  one-outcome (refused_image n p e f) (collected Y e' f' t') = absurd (apart (sym f' ∙ f))
  one-outcome (collected Y e f t) (bad_file n' o' e') = absurd (file-apart (sym e ∙ e'))
  one-outcome (collected Y e f t) (refused_image n' p' e' f') = absurd (apart (sym f ∙ f'))
  one-outcome (collected Y e f t) (collected Z e' f' t') =
      let y = one-image t t' (verdict-accepted (length work) (taken file lent) f).0 in
      let c = one_answer t t' in
      λ i. record { text = collected_text (c i) (y i); areas = joined (thawed file lent) (y i); work = work_after (taken file lent) work }

  pub one-listing : {output output₁ output₂ work₁ work₂ : List ℕ} {r₁ r₂ : ℕ} {left₁ left₂ : Image}
      → Lists file lent work output r₁ left₁ work₁ output₁ → Lists file lent work output r₂ left₂ work₂ output₂
      → (r₁ ≡ r₂) × (left₁ ≡ left₂) × (work₁ ≡ work₂) × (output₁ ≡ output₂)
  one-listing {output} a b =
      let o = one-outcome a.outcome b.outcome in
      let t : a.text ≡ b.text = ap (λ (x : Outcome). x.text) o in (
        omega (arith, a.answer, b.answer, ap length t),
        ap (λ (x : Outcome). x.areas) o,
        ap (λ (x : Outcome). x.work) o,
        a.written ∙ ap (over output) t ∙ sym b.written,
      )

-- areas of the listing program's sizes, and its output: no text is cut
pub never-cut : {file : List ℕ} {lent : Image} {work output output' work' : List ℕ} {r : ℕ} {left : Image} → (l : Lists file lent work output r left work' output')
    → length lent.control ≤ 262 → length lent.stack ≤ 1024 → length lent.heap ≤ 2048 → length lent.trail ≤ 512 → 43008 ≤ length output
    → r ≡ length l.text
never-cut l c s h t o = omega (arith, l.answer, l.most)
