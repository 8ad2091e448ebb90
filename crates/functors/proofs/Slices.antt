-- The heap's cells below h, and the saved arguments, as lists of their own: what holds of each word of the area holds of each word of the
-- list, and back. Assumes nothing.
use Prim.Native.Nat.{ℕ, ◌+◌, ◌-◌, ◌≤◌, ◌<◌}
use mathlib.Core.Path.{◌≡◌, sym, ap, subst, ◌∙◌}
use mathlib.Core.Bool.{Bool}
use mathlib.Core.List.{List}
use native.Mathlib.Omega.{arith}
use lib.ListN.{length, get_or, take, drop}
use Rattle.std.specs.Prelude.{Option, Some, None}
use Rattle.std.proofs.lemmas.List.{get_or-take, get_or-drop, length-take-le, length-drop}
use Rattle.machine.specs.Layout.{fixed, argument}
use Rattle.machine.specs.Lowest.{Lowest}

-- n words of an area, which `read` reads there
pub record Part (words : List ℕ) (read : ℕ → ℕ) (n : ℕ) : Type 0 where
  pub count : length words ≡ n
  pub word : (i : ℕ) → i < n → get_or words i 0 ≡ read i

pub heap-part : (heap : List ℕ) (h : ℕ) → h ≤ length heap → Part (take h heap) (λ i. get_or heap i 0) h
heap-part heap h l = record {
  count = length-take-le h heap l;
  word = λ i m. get_or-take h heap i 0 m;
}

pub control-part : (control : List ℕ) (n : ℕ) → fixed + n ≤ length control → Part (take (fixed + n - fixed) (drop fixed control)) (λ i. argument control 0 i) n
unfolding argument
control-part control n l =
    let e : fixed + n - fixed ≡ n = omega arith in
    rw e (record {
      count = length-take-le n (drop fixed control) (omega (arith, length-drop fixed control));
      word = λ i m. get_or-take n (drop fixed control) i 0 m ∙ get_or-drop fixed control i 0;
    })

module _ (words : List ℕ) (read : ℕ → ℕ) (n : ℕ) (p : Part words read n) where
  pub each-word : (P : ℕ → Type 0) → ((i : ℕ) → i < n → P (read i)) → (i : ℕ) → i < length words → P (get_or words i 0)
  each-word P f i l = let m : i < n = omega (arith, p.count) in subst P (sym (p.word i m)) (f i m)

  pub each-read : (P : ℕ → Type 0) → ((i : ℕ) → i < length words → P (get_or words i 0)) → (i : ℕ) → i < n → P (read i)
  each-read P f i l = subst P (p.word i l) (f i (omega (arith, p.count)))

  pub lowest-read : (bad : ℕ → Bool) (r : Option ℕ) → Lowest (λ i. bad (get_or words i 0)) (length words) r → Lowest (λ i. bad (read i)) n r
  lowest-read bad None f = λ i l. sym (ap bad (p.word i l)) ∙ f i (omega (arith, p.count))
  lowest-read bad (Some i) f =
      let l : i < n = omega (arith, f.0, p.count) in
      (l, sym (ap bad (p.word i l)) ∙ f.1, λ j m. sym (ap bad (p.word j (omega arith))) ∙ f.2 j m)
