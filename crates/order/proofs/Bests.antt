-- No chain to a cell comes before the queue's path to it: paths come in the queue's order, since their sources do, and a cell's source is the first
-- that refers to it, so it stands no later than the last cell but one of any chain. By the chain from its end. Assumes nothing.
use Prim.Native.Nat.{ℕ, ◌+◌, ◌<◌, ◌≤◌}
use mathlib.Core.Path.{◌≡◌, refl, subst}
use mathlib.Core.Logic.{inl, inr}
use mathlib.Core.List.{List, [], ◌∷◌, ◌++◌}
use native.Mathlib.Omega.{arith}
use native.Mathlib.Decide.{dec_lt, ℕ_discrete}
use lib.ListN.{get_or, length-append}
use Rattle.order.specs.Queue.{Queued, Path, by_root, by_cell, Line, direct, onward}
use Rattle.order.specs.Chains.{lower, NotAfter}
use Rattle.order.proofs.Orders.{here, there, Before, before-after, before_more, before-end, after-refl, after-trans, after_more, above-refl}
use Rattle.order.proofs.Sources.{source-root}
use Rattle.order.proofs.Paths.{path-long, path-unique, path-exists}
use Rattle.order.proofs.Lines.{line-long, line-place, source-at, from_first}

module _ {heap : List ℕ} {word : ℕ → ℕ} {roots : ℕ} {cells from : List ℕ} (q : Queued heap word roots cells from) where
  same-path : {i k r s : ℕ} {path line : List ℕ} → i ≡ k → Path roots cells from i r path → Path roots cells from k s line → r ∷ path ≡ s ∷ line
  same-path {r = r} {path = path} e p p' = let u = path-unique (subst (λ (z : ℕ). Path roots cells from z r path) e p) p' in cc (u.0, u.1)

  -- paths come in the queue's order
  pub path-before : {i k r s : ℕ} {path line : List ℕ} → i < k → Path roots cells from i r path → Path roots cells from k s line → Before (r ∷ path) (s ∷ line)
  path-before {i = i} l (by_root a m) (by_root {j = k} b n) =
      elim (q.rising i k l b) [
        | inl o ↦ inr (refl, here o)
        | inr o ↦ inr (refl, rw o.0 (there (here o.1)))
      ]
  path-before l (by_root a m) (by_cell {j = k} {path = line} b e p) = inl (omega (arith, path-long p, length-append line (get_or cells k 0 ∷ [])))
  path-before {i = i} l (by_cell a e p) (by_root {j = k} b n) =
      elim (q.rising i k l b) [
        | inl o ↦ absurd (omega arith)
        | inr o ↦ absurd (omega arith)
      ]
  path-before {i = i} l (by_cell {i = h} {r = r} {path = path} a e p) (by_cell {j = k} {i = h'} {r = s} {path = line} b e' p') =
      elim (q.rising i k l b) [
        | inl o ↦ before_more (r ∷ path) (s ∷ line) (get_or cells i 0) (get_or cells k 0) (path-before (omega arith) p p')
        | inr o ↦
            subst (λ (z : List ℕ). Before ((r ∷ path) ++ (get_or cells i 0 ∷ [])) (z ++ (get_or cells k 0 ∷ []))) (same-path (omega arith) p p')
            (before-end (r ∷ path) (get_or cells i 0) (get_or cells k 0) o.1)
      ]

  pub path-after : {i k r s : ℕ} {path line : List ℕ} → i ≤ k → Path roots cells from i r path → Path roots cells from k s line → NotAfter (r ∷ path) (s ∷ line)
  path-after {i} {k} {r} {s} {path} l p p' =
      elim (dec_lt i k) [
        | yes m ↦ before-after (path-before m p p')
        | no m ↦ subst (λ (z : List ℕ). NotAfter (r ∷ path) z) (same-path (omega arith) p p') (after-refl (r ∷ path))
      ]

  pub path-best : {s j r x : ℕ} {path line : List ℕ} → Path roots cells from j r path → Line heap word roots s line x → get_or cells j 0 ≡ x → NotAfter (r ∷ path) (s ∷ line)
  path-best {s = s} (by_root {j = j} a m) (direct {x = x} l f) e =
      let b = from_first q j s a (rw (source-root heap word roots cells s l, e) f) in
      elim (ℕ_discrete (get_or from j 0) s) [
        | yes o ↦ inr (refl, rw (o, e) (above-refl (s ∷ x ∷ [])))
        | no o ↦ let h : get_or from j 0 < s = omega arith in inr (refl, lower h)
      ]
  path-best {s = s} (by_cell {j = j} a o p) (direct l f) e =
      let b = from_first q j s a (rw (source-root heap word roots cells s l, e) f) in
      absurd (omega arith)
  path-best (by_root a m) (onward {cells = line} {x = x} d f) e = inl (omega (arith, line-long d, length-append line (x ∷ [])))
  path-best {s = s} (by_cell {j = j} {r = r} {path = path} a o p) (onward {cells = line} {x = x} d f) e =
      let at = line-place q d in
      let t = path-exists q at.0 at.1 in
      let b = from_first q j (roots + at.0) a (rw (source-at q at.0 at.2, e) f) in
      rw e (after_more (r ∷ path) (s ∷ line) x (after-trans (r ∷ path) (t.0 ∷ t.1) (s ∷ line) (path-after (omega arith) p t.2) (path-best {j = at.0} t.2 d at.2)))
