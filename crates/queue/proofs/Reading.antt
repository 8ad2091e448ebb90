-- One source after the other, and of a source one cell after the other: what is known of the queue grows with each. Assumes nothing.
use Prim.Native.Nat.{ℕ, ◌+◌, ◌-◌, ◌≤◌, ◌<◌}
use mathlib.Core.Path.{◌≡◌, refl, sym, ◌∙◌, subst}
use mathlib.Core.Logic.{◌⊎◌, inl, inr, ⊎_elim}
use mathlib.Core.List.{List, [], ◌∷◌, ◌++◌}
use native.Mathlib.Omega.{arith}
use native.Mathlib.Nat.{not-suc-le-zero}
use native.Mathlib.Decide.{ℕ_discrete, dec_lt}
use borrow.Author.Tests.{lt-ltb, le-ltb}
use lib.ListN.{get_or, length, length-append, get_or-append}
use lib.Seq.{get_or_at}
use Rattle.cell.specs.Word.{Refers}
use Rattle.machine.proofs.Lists.{In, here, in-nil, in-cons, in_left, in_right, in-append}
use Rattle.order.specs.Queue.{source, Queued}
use Rattle.queue.specs.Reading.{Reading}

-- ---- one more at the end of a list

module _ (l : List ℕ) (x : ℕ) where
  pub snoc-length : length (l ++ (x ∷ [])) ≡ length l + 1
  snoc-length = length-append l (x ∷ [])

  pub snoc_old : (j : ℕ) → j < length l → get_or (l ++ (x ∷ [])) j 0 ≡ get_or l j 0
  snoc_old j h = get_or-append l (x ∷ []) 0 j h

  pub snoc_new : (j : ℕ) → j ≡ length l → get_or (l ++ (x ∷ [])) j 0 ≡ x
  snoc_new j e = get_or_at l x [] 0 j (sym e)

  pub snoc-in : In x (l ++ (x ∷ []))
  snoc-in = in_right l (here refl)

  pub snoc-cases : {y : ℕ} → In y (l ++ (x ∷ [])) → In y l ⊎ (y ≡ x)
  snoc-cases m = ⊎_elim (λ a. inl a) (λ b. inr (⊎_elim (λ e. e) (λ n. in-nil n) (in-cons b))) (in-append l m)

-- a place of the longer list is an old one or the last
pub last_or : (n j : ℕ) → j < n + 1 → (j < n) ⊎ (j ≡ n)
last_or n j h = elim (ℕ_discrete j n) [ yes e ↦ inr e | no e ↦ inl (omega arith) ]

module _ (heap : List ℕ) (word : ℕ → ℕ) (roots : ℕ) where
  abbrev at : List ℕ → ℕ → ℕ
  at cells r = source heap word roots cells r

  -- ---- sources

  pub root-source : (cells : List ℕ) (s : ℕ) → s < roots → at cells s ≡ word s
  unfolding source
  root-source cells s h = rw (lt-ltb s roots h)

  pub cell-source : (cells : List ℕ) (i : ℕ) → at cells (roots + i) ≡ get_or heap (get_or cells i 0) 0
  unfolding source
  cell-source cells i =
      let e : roots + i - roots ≡ i = omega arith in
      rw (le-ltb (roots + i) roots (omega arith), e)

  -- a source that is there already stays when a cell joins
  pub same_source : (cells : List ℕ) (x s : ℕ) → s < roots + length cells → at (cells ++ (x ∷ [])) s ≡ at cells s
  unfolding source
  same_source cells x s h =
      elim (dec_lt s roots) [
        | yes l ↦ rw (lt-ltb s roots l)
        | no l ↦ rw (le-ltb s roots (omega arith), snoc_old cells x (s - roots) (omega arith))
      ]

  -- ---- before the first source, and after the last

  pub reading-none : Reading heap word roots 0 0 [] []
  reading-none = record {
    paired = refl;
    earlier = λ j l. absurd (not-suc-le-zero l);
    come = λ j l. absurd (not-suc-le-zero l);
    below = λ j l e. absurd (not-suc-le-zero l);
    refers = λ j l. absurd (not-suc-le-zero l);
    first = λ j r l o f. not-suc-le-zero l;
    rising = λ j k o l. absurd (not-suc-le-zero l);
    all = λ r x l f. absurd (not-suc-le-zero l);
    here = λ x l f. absurd (not-suc-le-zero l);
  }

  pub reading-end : {cells from : List ℕ} {s : ℕ} → roots + length cells ≤ s → Reading heap word roots s 0 cells from → Queued heap word roots cells from
  reading-end h r = record {
    paired = r.paired;
    earlier = r.earlier;
    refers = r.refers;
    first = r.first;
    rising = r.rising;
    all = λ q x l f. r.all q x (omega arith) f;
  }

  module _ {s z : ℕ} {cells from : List ℕ} (r : Reading heap word roots s z cells from) where
    -- ---- cells that the source does not refer to are passed over

    pub reading-skip : (a : ℕ) → z ≤ a → ((x : ℕ) → z ≤ x → x < a → Refers heap (at cells s) x → In x cells) → Reading heap word roots s a cells from
    reading-skip a h f = record {
      paired = r.paired;
      earlier = r.earlier;
      come = r.come;
      below = λ j l e. omega (arith, r.below j l e);
      refers = r.refers;
      first = r.first;
      rising = r.rising;
      all = r.all;
      here = λ x l q. elim (dec_lt x z) [ yes b ↦ r.here x b q | no b ↦ f x (omega arith) l q ];
    }

    -- ---- the source is read

    pub reading-next : ((x : ℕ) → Refers heap (at cells s) x → x < z) → Reading heap word roots (s + 1) 0 cells from
    reading-next f = record {
      paired = r.paired;
      earlier = r.earlier;
      come = λ j l. omega (arith, r.come j l);
      below = λ j l e. absurd (omega (arith, r.come j l));
      refers = r.refers;
      first = r.first;
      rising = r.rising;
      all = λ q x l g.
          elim (ℕ_discrete q s) [
            | yes e ↦ let g' = subst (λ (n : ℕ). Refers heap (at cells n) x) e g in r.here x (f x g') g'
            | no e ↦ r.all q x (omega arith) g
          ];
      here = λ x l g. absurd (not-suc-le-zero l);
    }

    -- ---- the cell z joins

    module _ (h : s < roots + length cells) (ref : Refers heap (at cells s) z) (new : In z cells → ⊥) where
      abbrev cells' : List ℕ
      cells' = cells ++ (z ∷ [])

      abbrev from' : List ℕ
      from' = from ++ (s ∷ [])

      old-from : (j : ℕ) → j < length cells → get_or from' j 0 ≡ get_or from j 0
      old-from j o = snoc_old from s j (omega (arith, r.paired))

      new-from : (j : ℕ) → j ≡ length cells → get_or from' j 0 ≡ s
      new-from j e = snoc_new from s j (omega (arith, r.paired))

      split : (j : ℕ) → j < length cells' → (j < length cells) ⊎ (j ≡ length cells)
      split j l = last_or (length cells) j (omega (arith, snoc-length cells z))

      new-refers : (j : ℕ) → j < length cells' → Refers heap (at cells' (get_or from' j 0)) (get_or cells' j 0)
      new-refers j l =
          elim (split j l) [
            | inl o ↦ rw (old-from j o, snoc_old cells z j o, same_source cells z (get_or from j 0) (omega (arith, r.earlier j o))) (r.refers j o)
            | inr e ↦ rw (new-from j e, snoc_new cells z j e, same_source cells z s h) ref
          ]

      new-first : (j q : ℕ) → j < length cells' → q < get_or from' j 0 → Refers heap (at cells' q) (get_or cells' j 0) → ⊥
      new-first j q l b g =
          elim (split j l) [
            | inl o ↦
                r.first j q o (omega (arith, old-from j o))
                (rw (snoc_old cells z j o, same_source cells z q (omega (arith, old-from j o, r.earlier j o))) at g)
            | inr e ↦ new (r.all q z (omega (arith, new-from j e)) (rw (snoc_new cells z j e, same_source cells z q (omega (arith, new-from j e))) at g))
          ]

      new-rising : (j k : ℕ) → j < k → k < length cells' → (get_or from' j 0 < get_or from' k 0) ⊎ ((get_or from' j 0 ≡ get_or from' k 0) × (get_or cells' j 0 < get_or cells' k 0))
      new-rising j k b l =
          elim (split k l) [
            | inl o ↦ let i : j < length cells = omega arith in rw (old-from j i, old-from k o, snoc_old cells z j i, snoc_old cells z k o) (r.rising j k b o)
            | inr e ↦
                let i : j < length cells = omega arith in
                rw (old-from j i, new-from k e, snoc_old cells z j i, snoc_new cells z k e)
                (elim (ℕ_discrete (get_or from j 0) s) [
                  | yes q ↦ inr (q, r.below j i q)
                  | no q ↦ inl (omega (arith, r.come j i))
                ])
          ]

      pub reading-new : Reading heap word roots s (z + 1) cells' from'
      reading-new = record {
        paired = omega (arith, snoc-length cells z, snoc-length from s, r.paired);
        earlier = λ j l.
            elim (split j l) [
              | inl o ↦ omega (arith, old-from j o, r.earlier j o)
              | inr e ↦ omega (arith, new-from j e)
            ];
        come = λ j l.
            elim (split j l) [
              | inl o ↦ omega (arith, old-from j o, r.come j o)
              | inr e ↦ omega (arith, new-from j e)
            ];
        below = λ j l q.
            elim (split j l) [
              | inl o ↦ omega (arith, snoc_old cells z j o, r.below j o (sym (old-from j o) ∙ q))
              | inr e ↦ omega (arith, snoc_new cells z j e)
            ];
        refers = new-refers;
        first = new-first;
        rising = new-rising;
        all = λ q x l g. in_left (z ∷ []) (r.all q x l (rw (same_source cells z q (omega arith)) at g));
        here = λ x l g.
            elim (ℕ_discrete x z) [
              | yes e ↦ rw e (snoc-in cells z)
              | no e ↦ in_left (z ∷ []) (r.here x (omega arith) (rw (same_source cells z s h) at g))
            ];
      }
