-- Texts put one after the other: two of them are one, and what has no room changes nothing. Assumes nothing.
use Prim.Native.Nat.{ℕ, suc, ◌+◌, ◌-◌, ◌≤◌, ◌<◌, min}
use mathlib.Core.Path.{◌≡◌, refl, sym, ap, ◌∙◌, subst}
use mathlib.Core.Logic.{⊎_elim}
use mathlib.Core.List.{List, [], ◌∷◌, ◌++◌, append_assoc, append-nil}
use mathlib.Mathlib.Data.Bool.Basic.{dichotomy}
use native.Mathlib.Omega.{arith}
use native.Mathlib.Nat.{add-zero, add-suc, suc-add}
use native.Mathlib.Numerals.{add-one}
use lib.Dec.{leb}
use lib.ListN.{length, get_or, set, take, length-append}
use lib.Seq.{sets, length-sets, set_out, take-suc, take_all}
use borrow.Author.Tests.{leb-true, leb-false}
use Rattle.text.specs.Line.{spaced, numbers}
use Rattle.text.specs.Puts.{Puts, PutsShort}

sets-append : (l : List ℕ) (i : ℕ) (a b : List ℕ) → sets l i (a ++ b) ≡ sets (sets l i a) (i + length a) b
sets-append l i [] b = rw add-zero
sets-append l i (x ∷ a) b = sets-append (set l i x) (suc i) a b ∙ ap (λ (k : ℕ). sets (sets (set l i x) (suc i) a) k b) (suc-add i (length a) ∙ sym (add-suc i (length a)))

sets-out : (l : List ℕ) (i : ℕ) (a : List ℕ) → length l ≤ i → sets l i a ≡ l
sets-out l i [] h = refl
sets-out l i (x ∷ a) h = ap (λ (m : List ℕ). sets m (suc i) a) (set_out l i x h) ∙ sets-out l (suc i) a (omega arith)

pub puts_none : (output : List ℕ) (at : ℕ) → Puts output at [] at output
puts_none output at = record { next = omega arith; written = refl }

pub puts-byte : (output : List ℕ) (at b : ℕ) → at < length output → Puts output at (b ∷ []) (at + 1) (set output at b)
puts-byte output at b h = record { next = omega arith; written = refl }

pub puts-out : (output : List ℕ) (at : ℕ) (text : List ℕ) → length output ≤ at → Puts output at text at output
puts-out output at text h = record { next = omega arith; written = sym (sets-out output at text h) }

pub puts-same : {output : List ℕ} {at : ℕ} {a : List ℕ} {r : ℕ} {left : List ℕ} → Puts output at a r left → length left ≡ length output
puts-same {output} {at} {a} w = ap length w.written ∙ length-sets output at a

-- where the second text begins, or nothing has room any more
second-begins : (output : List ℕ) (at : ℕ) (a b : List ℕ) (r : ℕ) → r ≡ at + min (length a) (length output - at)
    → sets (sets output at a) r b ≡ sets (sets output at a) (at + length a) b
second-begins output at a b r e =
    ⊎_elim
    (λ q.
    let h : length output < at + length a = leb-false _ _ q in
    let s : length (sets output at a) ≡ length output = length-sets output at a in
    sets-out (sets output at a) r b (omega arith) ∙ sym (sets-out (sets output at a) (at + length a) b (omega arith)))
    (λ q. let h : at + length a ≤ length output = leb-true _ _ q in ap (λ (k : ℕ). sets (sets output at a) k b) (omega arith))
    (dichotomy (leb (at + length a) (length output)))

pub puts-join : {output : List ℕ} {at : ℕ} {a : List ℕ} {r : ℕ} {left : List ℕ} {b : List ℕ} {r' : ℕ} {left' : List ℕ}
    → Puts output at a r left → Puts left r b r' left' → Puts output at (a ++ b) r' left'
puts-join {output} {at} {a} {r} {left} {b} w v = record {
  next = omega (arith, w.next, v.next, length-append a b, puts-same w);
  written =
      v.written ∙ ap (λ (l : List ℕ). sets l r b) w.written ∙ second-begins output at a b r w.next ∙ sym (sets-append output at a b);
}

-- one text for another that is equal to it
pub puts-as : {output : List ℕ} {at : ℕ} {a b : List ℕ} {r : ℕ} {left : List ℕ} → a ≡ b → Puts output at a r left → Puts output at b r left
puts-as {output} {at} {a} {b} {r} {left} e w = subst (λ (t : List ℕ). Puts output at t r left) e w

-- the text of a value for the text of one that is equal to it
pub puts_of : {A : Type 0} (text : A → List ℕ) {x y : A} {output : List ℕ} {at r : ℕ} {left : List ℕ} → x ≡ y → Puts output at (text y) r left → Puts output at (text x) r left
puts_of text e w = puts-as (sym (ap text e)) w

-- a short text after a short text
pub short-join : {m n : ℕ} {output : List ℕ} {at : ℕ} {a : List ℕ} {r : ℕ} {left : List ℕ} {b : List ℕ} {r' : ℕ} {left' : List ℕ}
    → PutsShort m output at a r left → PutsShort n left r b r' left' → PutsShort (m + n) output at (a ++ b) r' left'
short-join {a = a} {b = b} w v = record { puts = puts-join w.puts v.puts; short = omega (arith, length-append a b, w.short, v.short) }

pub short-exact : {output : List ℕ} {at : ℕ} {a : List ℕ} {r : ℕ} {left : List ℕ} → Puts output at a r left → PutsShort (length a) output at a r left
short-exact w = record { puts = w; short = omega arith }

pub short-within : {m n : ℕ} {output : List ℕ} {at : ℕ} {a : List ℕ} {r : ℕ} {left : List ℕ} → m ≤ n → PutsShort m output at a r left → PutsShort n output at a r left
short-within h w = record { puts = w.puts; short = omega (arith, w.short) }

pub short-of : {A : Type 0} (text : A → List ℕ) {x y : A} {m : ℕ} {output : List ℕ} {at r : ℕ} {left : List ℕ} → x ≡ y → PutsShort m output at (text y) r left → PutsShort m output at (text x) r left
short-of text {m = m} {output = output} {at = at} {r = r} {left = left} e w = subst (λ (t : List ℕ). PutsShort m output at t r left) (sym (ap text e)) w

-- a row of items as a text: the text of one item more comes after the text of those before it
pub record Row (text : List ℕ → List ℕ) : Type 0 where
  pub none : text [] ≡ []
  pub more : (items : List ℕ) (item : ℕ) → text (items ++ (item ∷ [])) ≡ text items ++ text (item ∷ [])

pub bytes-row : Row (λ bytes. bytes)
bytes-row = record { none = refl; more = λ bytes byte. refl }

numbers-append : (ns ms : List ℕ) → numbers (ns ++ ms) ≡ numbers ns ++ numbers ms
unfolding numbers
numbers-append [] ms = refl
numbers-append (n ∷ ns) ms = ap (λ (t : List ℕ). spaced n ++ t) (numbers-append ns ms) ∙ sym (append_assoc (spaced n) (numbers ns) (numbers ms))

pub numbers-row : Row numbers
unfolding numbers
numbers-row = record { none = refl; more = λ ns n. numbers-append ns (n ∷ []) }

pub numbers-one : (n : ℕ) → spaced n ≡ numbers (n ∷ [])
unfolding numbers
numbers-one n = sym (append-nil (spaced n))

-- the invariant of a loop over a row: the text of the items so far is put
pub record Putting (text : List ℕ → List ℕ) (items output₀ : List ℕ) (from : ℕ) (output : List ℕ) (at i : ℕ) : Type 0 where
  pub begun : i ≤ length items
  pub put : Puts output₀ from (text (take i items)) at output

module _ (text : List ℕ → List ℕ) (row : Row text) (items : List ℕ) where
  pub putting-none : (output : List ℕ) (from : ℕ) → Putting text items output from output from 0
  putting-none output from = record { begun = omega arith; put = puts-as (sym row.none) (puts_none output from) }

  pub putting-more : {output₀ : List ℕ} {from : ℕ} {output : List ℕ} {at i r : ℕ} {left : List ℕ}
      → Putting text items output₀ from output at i → i < length items → Puts output at (text (get_or items i 0 ∷ [])) r left → Putting text items output₀ from left r (i + 1)
  putting-more {i = i} p h w = record {
    begun = omega arith;
    put =
        puts-as (sym (ap (λ (k : ℕ). text (take k items)) (add-one i) ∙ ap text (take-suc items i 0 h) ∙ row.more (take i items) (get_or items i 0)))
        (puts-join p.put w);
  }

  pub putting-ends : {output₀ : List ℕ} {from : ℕ} {output : List ℕ} {at i : ℕ}
      → Putting text items output₀ from output at i → length items ≤ i → Puts output₀ from (text items) at output
  putting-ends {i = i} p h = puts-as (ap text (take_all i items h)) p.put
