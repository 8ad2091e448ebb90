-- The digits of a number: those of a number below ten, those of another by its tenth, and that together they are its decimal form.
-- Assumes nothing.
use Prim.Native.Nat.{ℕ, zero, suc, ◌+◌, ◌-◌, ◌*◌, ◌/◌, ◌%◌, ◌≤◌, ◌<◌}
use mathlib.Core.Path.{◌≡◌, refl, sym, ap, ◌∙◌, subst}
use mathlib.Core.Logic.{⊎_elim}
use mathlib.Core.List.{List, [], ◌∷◌, ◌++◌}
use mathlib.Mathlib.Data.Bool.Basic.{dichotomy}
use native.Mathlib.Omega.{arith}
use native.Mathlib.Nat.{pos_of_ne-zero}
use lib.Arith.{lt_of_le-ne}
use lib.Dec.{ltb}
use lib.ListN.{length, get_or, length-append, get_or-append}
use lib.Seq.{get_or_at}
use borrow.Author.Tests.{ltb-true, ltb-false, lt-ltb, le-ltb}
use Rattle.text.specs.Decimal.{zero_digit, base, digits, decimal, read_on, IsDecimal}

digits-one : (k n : ℕ) → n < base → digits (suc k) n ≡ (zero_digit + n % base) ∷ []
unfolding digits
digits-one k n h = rw (lt-ltb n base h)

digits_more : (k n : ℕ) → base ≤ n → digits (suc k) n ≡ digits k (n / base) ++ ((zero_digit + n % base) ∷ [])
unfolding digits
digits_more k n h = rw (le-ltb n base h)

-- more places than a number has digits make no more digits
digits-enough : (k m n : ℕ) → n < k → n < m → digits k n ≡ digits m n
digits-enough zero m n h g = absurd (omega arith)
digits-enough (suc k) zero n h g = absurd (omega arith)
digits-enough (suc k) (suc m) n h g =
    ⊎_elim
    (λ q.
    let s : base ≤ n = ltb-false _ _ q in
    digits_more k n s
    ∙ ap (λ (ds : List ℕ). ds ++ ((zero_digit + n % base) ∷ [])) (digits-enough k m (n / base) (omega arith) (omega arith))
    ∙ sym (digits_more m n s))
    (λ q. let s : n < base = ltb-true _ _ q in digits-one k n s ∙ sym (digits-one m n s))
    (dichotomy (ltb n base))

pub decimal-one : (n : ℕ) → n < base → decimal n ≡ (zero_digit + n % base) ∷ []
decimal-one n h = digits-one n n h

pub decimal-more : (n : ℕ) → base ≤ n → decimal n ≡ decimal (n / base) ++ ((zero_digit + n % base) ∷ [])
decimal-more n h =
    digits_more n n h ∙ ap (λ (ds : List ℕ). ds ++ ((zero_digit + n % base) ∷ [])) (digits-enough n (suc (n / base)) (n / base) (omega arith) (omega arith))

-- ten, a hundred, a thousand, ..
abbrev pub tens : ℕ → ℕ
tens zero = base
tens (suc k) = tens k * base

pub decimal-short : (k n : ℕ) → n < tens k → length (decimal n) ≤ suc k
decimal-short zero n h = omega (arith, ap length (decimal-one n h))
decimal-short (suc k) n h =
    ⊎_elim
    (λ q.
    let s : base ≤ n = ltb-false _ _ q in
    omega (arith, ap length (decimal-more n s), length-append (decimal (n / base)) ((zero_digit + n % base) ∷ []), decimal-short k (n / base) (omega arith)))
    (λ q. let s : n < base = ltb-true _ _ q in omega (arith, ap length (decimal-one n s)))
    (dichotomy (ltb n base))

read_on-more : (m : ℕ) (ds : List ℕ) (d : ℕ) → read_on m (ds ++ (d ∷ [])) ≡ read_on m ds * base + (d - zero_digit)
unfolding read_on
read_on-more m [] d = refl
read_on-more m (e ∷ ds) d = read_on-more (m * base + (e - zero_digit)) ds d

-- one digit
one-is : (n : ℕ) → n < base → IsDecimal n ((zero_digit + n % base) ∷ [])
unfolding read_on
one-is n h = record {
  digit = one-digit;
  value = omega arith;
  none = λ z. ap (λ (m : ℕ). (zero_digit + m % base) ∷ []) z;
  leading = λ p q. omega arith;
}
  where
    one-digit : (i : ℕ) → i < 1 → (zero_digit ≤ get_or ((zero_digit + n % base) ∷ []) i 0) × (get_or ((zero_digit + n % base) ∷ []) i 0 < zero_digit + base)
    one-digit zero l = (omega arith, omega arith)
    one-digit (suc i) l = absurd (omega arith)

-- the digits of the tenth, and one more
abbrev Digit : ℕ → Type 0
Digit d = (zero_digit ≤ d) × (d < zero_digit + base)

digits-snoc : (ds : List ℕ) (d : ℕ) → ((i : ℕ) → i < length ds → Digit (get_or ds i 0)) → Digit d → (i : ℕ) → i < length (ds ++ (d ∷ [])) → Digit (get_or (ds ++ (d ∷ [])) i 0)
digits-snoc ds d before last i l =
    ⊎_elim
    (λ q.
    let h : length ds ≤ i = ltb-false _ _ q in
    subst Digit (sym (get_or_at ds d [] 0 i (omega (arith, length-append ds (d ∷ []))))) last)
    (λ q. let h : i < length ds = ltb-true _ _ q in subst Digit (sym (get_or-append ds (d ∷ []) 0 i h)) (before i h))
    (dichotomy (ltb i (length ds)))

more-is : (n : ℕ) (ds : List ℕ) → base ≤ n → IsDecimal (n / base) ds → IsDecimal n (ds ++ ((zero_digit + n % base) ∷ []))
unfolding read_on
more-is n [] h p = absurd (let v : 0 ≡ n / base = p.value in omega arith)
more-is n (e ∷ ds) h p = record {
  digit = digits-snoc (e ∷ ds) (zero_digit + n % base) p.digit (omega arith, omega arith);
  value = omega (arith, read_on-more 0 (e ∷ ds) (zero_digit + n % base), p.value);
  none = λ z. absurd (omega arith);
  leading = λ q. p.leading (omega arith);
}

by-tenths : (k n : ℕ) → n < k → IsDecimal n (decimal n)
by-tenths zero n h = absurd (omega arith)
by-tenths (suc k) n h =
    ⊎_elim
    (λ q.
    let s : base ≤ n = ltb-false _ _ q in
    subst (IsDecimal n) (sym (decimal-more n s)) (more-is n (decimal (n / base)) s (by-tenths k (n / base) (omega arith))))
    (λ q. let s : n < base = ltb-true _ _ q in subst (IsDecimal n) (sym (decimal-one n s)) (one-is n s))
    (dichotomy (ltb n base))

pub decimal-is : (n : ℕ) → IsDecimal n (decimal n)
decimal-is n = by-tenths (suc n) n (omega arith)

-- no other text is: the last digit is n % 10, and the digits before it, if there are any, are the decimal form of n / 10
data Ended : List ℕ → Type 0 where
  empty : Ended []
  ends : (ds : List ℕ) (d : ℕ) → Ended (ds ++ (d ∷ []))

ended : (l : List ℕ) → Ended l
ended [] = empty
ended (x ∷ l) = cons-ended x (ended l)
  where
    cons-ended : (x : ℕ) {l : List ℕ} → Ended l → Ended (x ∷ l)
    cons-ended x empty = ends [] x
    cons-ended x (ends ds d) = ends (x ∷ ds) d

pub read_on-grows : (m : ℕ) (ds : List ℕ) → m ≤ read_on m ds
unfolding read_on
read_on-grows m [] = omega arith
read_on-grows m (d ∷ ds) = omega (arith, read_on-grows (m * base + (d - zero_digit)) ds)

last-digit : (n : ℕ) (ds : List ℕ) (d : ℕ) → IsDecimal n (ds ++ (d ∷ [])) → (d ≡ zero_digit + n % base) × (read_on 0 ds ≡ n / base)
last-digit n ds d p =
    let at : get_or (ds ++ (d ∷ [])) (length ds) 0 ≡ d = get_or_at ds d [] 0 (length ds) refl in
    let g = subst Digit at (p.digit (length ds) (omega (arith, length-append ds (d ∷ [])))) in
    (omega (arith, g, read_on-more 0 ds d, p.value), omega (arith, g, read_on-more 0 ds d, p.value))

-- of two digits or more the first is no zero, so n is ten at least
first-digits : (n e : ℕ) (ds : List ℕ) (d : ℕ) → IsDecimal n ((e ∷ ds) ++ (d ∷ [])) → IsDecimal (n / base) (e ∷ ds) × (base ≤ n)
unfolding read_on
first-digits n e ds d p =
    let v = last-digit n (e ∷ ds) d p in
    let some : 0 < n = pos_of_ne-zero (λ z. omega (arith, ap length (p.none z), length-append ds (d ∷ []))) in
    let f : 49 ≤ e = lt_of_le-ne (p.digit 0 (omega arith)).0 (λ q. p.leading some (sym q)) in
    let tenth : 1 ≤ n / base = omega (arith, v.1, read_on-grows (0 * base + (e - zero_digit)) ds) in (
      record {
        digit = λ i l. subst Digit (get_or-append (e ∷ ds) (d ∷ []) 0 i l) (p.digit i (omega (arith, length-append (e ∷ ds) (d ∷ []))));
        value = v.1;
        none = λ z. absurd (omega arith);
        leading = λ q. p.leading some;
      },
      omega arith,
    )

only-after : {text : List ℕ} → Ended text → (n : ℕ) → IsDecimal n text → ((ds : List ℕ) (m : ℕ) → length ds < length text → IsDecimal m ds → ds ≡ decimal m) → text ≡ decimal n
unfolding read_on
only-after empty n p shorter = let z = ap length (p.none (sym p.value)) in absurd (omega arith)
only-after (ends [] d) n p shorter =
    let v = last-digit n [] d p in
    ap (λ (x : ℕ). x ∷ []) v.0 ∙ sym (decimal-one n (omega (arith, v.1)))
only-after (ends (e ∷ ds) d) n p shorter =
    let f = first-digits n e ds d p in
    ap (λ (x : ℕ). (e ∷ ds) ++ (x ∷ [])) (last-digit n (e ∷ ds) d p).0
    ∙ ap (λ (t : List ℕ). t ++ ((zero_digit + n % base) ∷ [])) (shorter (e ∷ ds) (n / base) (omega (arith, length-append ds (d ∷ []))) f.0)
    ∙ sym (decimal-more n f.1)

only-within : (k n : ℕ) (text : List ℕ) → length text ≤ k → IsDecimal n text → text ≡ decimal n
only-within zero n text h p = only-after (ended text) n p (λ ds m l q. absurd (omega arith))
only-within (suc k) n text h p = only-after (ended text) n p (λ ds m l q. only-within k m ds (omega arith) q)

pub decimal-only : (n : ℕ) (text : List ℕ) → IsDecimal n text → text ≡ decimal n
decimal-only n text p = only-within (length text) n text (omega arith) p
