-- From root numbers to places: with the roots in the order of their places, control before stack, the chains of the queue are those of the image, in
-- the same order, so the queue's path to a cell is the best chain to it, and the queue's cells are those that are reached. By the two kinds of roots.
-- Assumes nothing.
use Prim.Native.Nat.{ℕ, ◌+◌, ◌-◌, ◌<◌}
use mathlib.Core.Path.{◌≡◌, refl, sym, ◌∙◌, subst}
use mathlib.Core.Logic.{◌⊎◌, inl, inr}
use mathlib.Core.Bool.{Bool, true, false}
use mathlib.Core.List.{List, ◌∷◌}
use native.Mathlib.Omega.{arith}
use native.Mathlib.Decide.{dec_lt}
use borrow.Author.Tests.{lt-ltb, le-ltb}
use lib.ListN.{length, get_or}
use lib.Dec.{ltb}
use Rattle.cell.specs.Word.{pick, CONST, Refers}
use Rattle.cell.specs.Word as words
use Rattle.cell.proofs.Words.{const-refers-nothing, cell-tag}
use Rattle.machine.specs.declared.Area.{Area}
use Rattle.machine.specs.declared.Area.TheVariants.{Stack, Control}
use Rattle.machine.specs.Layout.{Image, N, fixed, reg, argument}
use Rattle.machine.specs.Layout as layout
use Rattle.machine.specs.Roles.{is_cell}
use Rattle.machine.specs.Reached.{Reached}
use Rattle.machine.proofs.Tests.{either}
use Rattle.machine.proofs.Lists.{In}
use Rattle.order.specs.Queue.{Queued, Path, Line}
use Rattle.order.specs.Chains.{RootAt, in_control, on_stack, Chain, direct, onward, rank, places, NotAbove, lower, same, NotAfter, Best}
use Rattle.order.proofs.Sources.{in-at}
use Rattle.order.proofs.Paths.{path-exists}
use Rattle.order.proofs.Lines.{path-line, line-met}
use Rattle.order.proofs.Bests.{path-best}
use Rattle.order.proofs.Chains.{chain-reached, reached-chain}

-- the s-th word is the s-th saved argument, and after them there is one for each stack word, which refers to something only if it is a cell
pub record RootsOf (X : Image) (word : ℕ → ℕ) (roots : ℕ) : Type 0 where
  pub count : roots ≡ reg X N + length X.stack
  pub saved : (i : ℕ) → i < reg X N → word i ≡ argument X.control 0 i
  pub cell : (i : ℕ) → i < length X.stack → is_cell X i ≡ true → word (reg X N + i) ≡ layout.word X i
  pub other : (i : ℕ) → i < length X.stack → is_cell X i ≡ false → (x : ℕ) → Refers X.heap (word (reg X N + i)) x → ⊥
  pub inside : (i : ℕ) → is_cell X i ≡ true → i < length X.stack

-- such words, by a test that says which stack words are cells
abbrev pub roots_by : Image → (ℕ → Bool) → ℕ → ℕ
roots_by X test s =
    pick (ltb s (reg X N)) (argument X.control 0 s) (pick (test (s - reg X N)) (get_or X.stack (s - reg X N) 0) (words.cell 0 CONST))

pub roots-by : (X : Image) (test : ℕ → Bool) → ((i : ℕ) → i < length X.stack → test i ≡ is_cell X i) → ((i : ℕ) → is_cell X i ≡ true → i < length X.stack)
    → RootsOf X (roots_by X test) (reg X N + length X.stack)
unfolding layout.word
roots-by X test t h = record {
  count = refl;
  saved = λ i l. rw (lt-ltb i (reg X N) l);
  cell = λ i l e. past i ∙ rw (t i l, e);
  other = λ i l e x f. const-refers-nothing X.heap (words.cell 0 CONST) (cell-tag 0 CONST (omega arith)) x (rw (empty i l e) at f);
  inside = h;
}
  where
    past : (i : ℕ) → roots_by X test (reg X N + i) ≡ pick (test i) (get_or X.stack i 0) (words.cell 0 CONST)
    past i =
        let e : reg X N + i - reg X N ≡ i = omega arith in
        rw (le-ltb (reg X N + i) (reg X N) (omega arith), e)

    empty : (i : ℕ) → i < length X.stack → is_cell X i ≡ false → roots_by X test (reg X N + i) ≡ words.cell 0 CONST
    empty i l e = past i ∙ rw (t i l, e)

-- where the root of a number stands
pub data Stands (X : Image) : ℕ → Area → ℕ → Type 0 where
  saved : (i : ℕ) → i < reg X N → Stands X i Control (fixed + i)
  cell : (i : ℕ) → Stands X (reg X N + i) Stack i

pub stands-exists : (X : Image) (s : ℕ) → (area : Area) × (index : ℕ) × Stands X s area index
stands-exists X s =
    elim (dec_lt s (reg X N)) [
      | yes l ↦ (Control, fixed + s, saved s l)
      | no l ↦
          let e : reg X N + (s - reg X N) ≡ s = omega arith in
          (Stack, s - reg X N, subst (λ (t : ℕ). Stands X t Stack (s - reg X N)) e (cell (s - reg X N)))
    ]

above_cases : {x y : ℕ} {xs ys : List ℕ} → NotAbove (x ∷ xs) (y ∷ ys) → (x < y) ⊎ ((x ≡ y) × NotAbove xs ys)
above_cases (lower l) = inl l
above_cases (same p) = inr (refl, p)

-- lower numbers stand at lower places
stands-below : {X : Image} {r s i k : ℕ} {area area' : Area} {xs ys : List ℕ} → Stands X r area i → Stands X s area' k → r < s → NotAbove (places area i xs) (places area' k ys)
stands-below (saved i l) (saved k m) o = let h : fixed + i < fixed + k = omega arith in same (lower h)
stands-below (saved i l) (cell k) o = let h : rank Control < rank Stack = omega arith in lower h
stands-below (cell i) (saved k m) o = absurd (omega arith)
stands-below (cell i) (cell k) o = let h : i < k = omega arith in same (lower h)

stands_same : {X : Image} {r s i k : ℕ} {area area' : Area} {xs ys : List ℕ} → Stands X r area i → Stands X s area' k → r ≡ s → NotAbove xs ys → NotAbove (places area i xs) (places area' k ys)
stands_same (saved i l) (saved k m) o p = let e : i ≡ k = omega arith in rw e (same (same p))
stands_same (saved i l) (cell k) o p = absurd (omega arith)
stands_same (cell i) (saved k m) o p = absurd (omega arith)
stands_same (cell i) (cell k) o p = let e : i ≡ k = omega arith in rw e (same (same p))

pub stands_after : {X : Image} {r s i k : ℕ} {area area' : Area} {xs ys : List ℕ} → Stands X r area i → Stands X s area' k → NotAfter (r ∷ xs) (s ∷ ys) → NotAfter (places area i xs) (places area' k ys)
stands_after a b (inl l) = inl (omega arith)
stands_after a b (inr p) =
    elim (above_cases p.1) [
      | inl l ↦ inr (omega arith, stands-below a b l)
      | inr q ↦ inr (omega arith, stands_same a b q.0 q.1)
    ]

module _ {X : Image} {word : ℕ → ℕ} {roots : ℕ} (o : RootsOf X word roots) where
  pub line-chain : {s x : ℕ} {area : Area} {index : ℕ} {line : List ℕ} → Stands X s area index → Line X.heap word roots s line x → Chain X area index line x
  line-chain (saved i l) (Line.direct m f) = direct (in_control i l) (rw (o.saved i l) at f)
  line-chain (cell i) (Line.direct {x = x} m f) =
      let b : i < length X.stack = omega (arith, o.count) in
      elim (either (is_cell X i)) [
        | inl e ↦ direct (on_stack i e) (rw (o.cell i b e) at f)
        | inr e ↦ absurd (o.other i b e x f)
      ]
  line-chain t (Line.onward d f) = onward (line-chain t d) f

  root-number : {area : Area} {index w : ℕ} → RootAt X area index w → (s : ℕ) × Stands X s area index × (s < roots) × (word s ≡ w)
  root-number (in_control i l) = (i, saved i l, omega (arith, o.count), o.saved i l)
  root-number (on_stack i e) = let b = o.inside i e in (reg X N + i, cell i, omega (arith, o.count), o.cell i b e)

  pub chain-line : {area : Area} {index : ℕ} {x : ℕ} {cells : List ℕ} → Chain X area index cells x → (s : ℕ) × Stands X s area index × Line X.heap word roots s cells x
  chain-line (direct {x = x} r f) = let t = root-number r in (t.0, t.1, Line.direct t.2 (subst (λ (w : ℕ). Refers X.heap w x) (sym t.3) f))
  chain-line (onward c f) = let t = chain-line c in (t.0, t.1, Line.onward t.2 f)

  module _ {cells from : List ℕ} (q : Queued X.heap word roots cells from) where
    -- the queue's path to a cell is the best chain to it
    pub path-chain : {j r : ℕ} {area : Area} {index : ℕ} {path : List ℕ} → Path roots cells from j r path → Stands X r area index → Best X (get_or cells j 0) area index path
    path-chain p t = record {
      chain = line-chain t (path-line q p);
      best = λ area' index' cells' c. let d = chain-line c in stands_after t d.1 (path-best q p d.2 refl);
    }

    -- the queue's cells are those that are reached
    pub reached-met : {x : ℕ} → Reached X x → In x cells
    reached-met h = let c = reached-chain h in line-met q (chain-line c.3).2

    pub met-reached : {x : ℕ} → In x cells → Reached X x
    met-reached m =
        let p = in-at m in
        let t = path-exists q p.0 p.1 in
        let s = stands-exists X t.0 in
        rw p.2 at (chain-reached (line-chain s.2 (path-line q t.2)))
