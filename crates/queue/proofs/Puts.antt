-- One cell joins the queue: which parts of the work words change, and that there is room for it. Assumes nothing.
use Prim.Native.Nat.{ℕ, zero, suc, ◌+◌, ◌-◌, ◌*◌, ◌≤◌, ◌<◌}
use mathlib.Core.Path.{◌≡◌, ap, ◌∙◌, subst}
use mathlib.Core.Logic.{◌≢◌}
use mathlib.Core.List.{List, [], ◌∷◌}
use native.Mathlib.Omega.{arith}
use native.Mathlib.Nat.{le_of_suc-le-suc, not-suc-le-zero}
use native.Mathlib.Decide.{ℕ_discrete, dec_lt}
use lib.ListN.{get_or, set, length, length-set}
use lib.Seq.{get_or-set_same, get_or-set_other}
use Rattle.machine.specs.Layout.{heap_most}
use Rattle.queue.specs.Filled.{met_bit, level_bit, entry_of}
use Rattle.queue.specs.Entering.{unmet, Fit, meet, put}
use Rattle.queue.proofs.Words.{plus_one, plus-entry}

-- ---- how many are not met

pub unmet-le : (q : List ℕ) → unmet q ≤ length q
unfolding unmet
unmet-le [] = omega arith
unmet-le (w ∷ ws) = omega (arith, unmet-le ws)

pub unmet-set : (q : List ℕ) (x v : ℕ) → x < length q → unmet (set q x v) + (1 - met_bit (get_or q x 0)) ≡ unmet q + (1 - met_bit v)
unfolding unmet
unmet-set [] x v h = absurd (not-suc-le-zero h)
unmet-set (w ∷ ws) zero v h = omega arith
unmet-set (w ∷ ws) (suc x) v h = omega (arith, unmet-set ws x v (le_of_suc-le-suc h))

pub unmet-same : (q : List ℕ) (x v : ℕ) → x < length q → met_bit v ≡ met_bit (get_or q x 0) → unmet (set q x v) ≡ unmet q
unmet-same q x v h e = omega (arith, unmet-set q x v h)

pub some-unmet : (q : List ℕ) (x : ℕ) → x < length q → met_bit (get_or q x 0) ≡ 0 → 0 < unmet q
some-unmet q x h e = omega (arith, unmet-set q x 1 h)

-- ---- one store: a part of the words that it leaves as it was is the same everywhere

pub set-part : (part : ℕ → ℕ) (q : List ℕ) (i v j : ℕ) → i < length q → part v ≡ part (get_or q i 0) → part (get_or (set q i v) j 0) ≡ part (get_or q j 0)
set-part part q i v j h e =
    elim (ℕ_discrete j i) [
      | yes o ↦ rw (o, get_or-set_same q i v 0 h) e
      | no o ↦ ap part (get_or-set_other q i j v 0 o)
    ]

-- ---- a cell that is not met joins

pub meet-length : (q : List ℕ) (x : ℕ) → length (meet q x) ≡ length q
unfolding meet
meet-length q x = length-set q x (get_or q x 0 + 1)

pub put-length : (q : List ℕ) (t x : ℕ) → length (put q t x) ≡ length q
unfolding put
put-length q t x = length-set (meet q x) t (get_or (meet q x) t 0 + x * 4) ∙ meet-length q x

module _ (q : List ℕ) (t x : ℕ) (h : x < length q) (k : t < length q) (e : met_bit (get_or q x 0) ≡ 0) where
  abbrev one : (met_bit (get_or q x 0 + 1) ≡ 1) × (level_bit (get_or q x 0 + 1) ≡ level_bit (get_or q x 0)) × (entry_of (get_or q x 0 + 1) ≡ entry_of (get_or q x 0))
  one = plus_one (get_or q x 0) e

  meet-entry : (j : ℕ) → entry_of (get_or (meet q x) j 0) ≡ entry_of (get_or q j 0)
  unfolding meet
  meet-entry j = set-part entry_of q x (get_or q x 0 + 1) j h one.2

  meet-level : (j : ℕ) → level_bit (get_or (meet q x) j 0) ≡ level_bit (get_or q j 0)
  unfolding meet
  meet-level j = set-part level_bit q x (get_or q x 0 + 1) j h one.1

  meet-met : met_bit (get_or (meet q x) x 0) ≡ 1
  unfolding meet
  meet-met = ap met_bit (get_or-set_same q x (get_or q x 0 + 1) 0 h) ∙ one.0

  meet-other : (j : ℕ) → j ≢ x → get_or (meet q x) j 0 ≡ get_or q j 0
  unfolding meet
  meet-other j o = get_or-set_other q x j (get_or q x 0 + 1) 0 o

  pub meet-free : (j : ℕ) → get_or q j 0 < 2 → get_or (meet q x) j 0 < 2
  unfolding meet
  meet-free j l =
      elim (ℕ_discrete j x) [
        | yes i ↦ rw (i, get_or-set_same q x (get_or q x 0 + 1) 0 h) (omega (arith, subst (λ (n : ℕ). get_or q n 0 < 2) i l))
        | no i ↦ rw (meet-other j i) l
      ]

  meet-unmet : unmet (meet q x) + 1 ≡ unmet q
  unfolding meet
  meet-unmet = omega (arith, unmet-set q x (get_or q x 0 + 1) h, one.0)

  k' : t < length (meet q x)
  k' = omega (arith, meet-length q x)

  put_same : (j : ℕ) → met_bit (get_or (put q t x) j 0) ≡ met_bit (get_or (meet q x) j 0)
  unfolding put
  put_same j = set-part met_bit (meet q x) t (get_or (meet q x) t 0 + x * 4) j k' (plus-entry (get_or (meet q x) t 0) x).0

  pub put-met : met_bit (get_or (put q t x) x 0) ≡ 1
  put-met = put_same x ∙ meet-met

  pub put-met-other : (j : ℕ) → j ≢ x → met_bit (get_or (put q t x) j 0) ≡ met_bit (get_or q j 0)
  put-met-other j o = put_same j ∙ ap met_bit (meet-other j o)

  pub put-level : (j : ℕ) → level_bit (get_or (put q t x) j 0) ≡ level_bit (get_or q j 0)
  unfolding put
  put-level j = set-part level_bit (meet q x) t (get_or (meet q x) t 0 + x * 4) j k' (plus-entry (get_or (meet q x) t 0) x).1 ∙ meet-level j

  pub put-entry : entry_of (get_or (put q t x) t 0) ≡ entry_of (get_or q t 0) + x
  unfolding put
  put-entry =
      ap entry_of (get_or-set_same (meet q x) t (get_or (meet q x) t 0 + x * 4) 0 k') ∙ (plus-entry (get_or (meet q x) t 0) x).2
      ∙ ap (λ (n : ℕ). n + x) (meet-entry t)

  put_other : (j : ℕ) → j ≢ t → get_or (put q t x) j 0 ≡ get_or (meet q x) j 0
  unfolding put
  put_other j o = get_or-set_other (meet q x) t j (get_or (meet q x) t 0 + x * 4) 0 o

  pub put-entry-other : (j : ℕ) → j ≢ t → entry_of (get_or (put q t x) j 0) ≡ entry_of (get_or q j 0)
  put-entry-other j o = ap entry_of (put_other j o) ∙ meet-entry j

  put-unmet : unmet (put q t x) + 1 ≡ unmet q
  unfolding put
  put-unmet =
      omega (arith, meet-unmet, unmet-same (meet q x) t (get_or (meet q x) t 0 + x * 4) k' (plus-entry (get_or (meet q x) t 0) x).0)

  put-free : (j : ℕ) → j ≢ t → get_or q j 0 < 2 → get_or (put q t x) j 0 < 2
  put-free j o l = rw (put_other j o) (meet-free j l)

-- ---- the room

-- no word is too large for what is added to it
pub fit_word : (q : List ℕ) (t : ℕ) → Fit q t → (j : ℕ) → get_or q j 0 < 4 * heap_most
fit_word q t f j =
    elim (dec_lt j t) [
      | yes l ↦ omega (arith, f.inside j l, f.small)
      | no l ↦ omega (arith, f.free j (omega arith))
    ]

module _ (q : List ℕ) (t x : ℕ) (f : Fit q t) (h : x < length q) (e : met_bit (get_or q x 0) ≡ 0) where
  pub place : t < length q
  place = omega (arith, f.room, some-unmet q x h e)

  pub tail-entry : entry_of (get_or q t 0) ≡ 0
  tail-entry = omega (arith, f.free t (omega arith))

  pub fit-put : Fit (put q t x) (t + 1)
  fit-put =
      let same = put-length q t x in
      record {
        small = omega (arith, same, f.small);
        room = omega (arith, same, f.room, put-unmet q t x h place e);
        inside = λ j l.
            elim (ℕ_discrete j t) [
              | yes o ↦ rw (o, same, put-entry q t x h place e, tail-entry) (omega arith)
              | no o ↦ rw (same, put-entry-other q t x h place e j o) (f.inside j (omega arith))
            ];
        free = λ j l. put-free q t x h place e j (omega arith) (f.free j (omega arith));
      }
