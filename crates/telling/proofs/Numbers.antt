-- Reading a number digit by digit: what is left to read says what the whole text is read as. Assumes nothing.
use Prim.Native.Nat.{ℕ, ◌+◌, ◌-◌, ◌*◌, ◌≤◌, ◌<◌}
use mathlib.Core.Path.{◌≡◌, refl, sym, ap, ◌∙◌}
use mathlib.Core.Bool.{Bool, true, false, ◌&&◌}
use mathlib.Core.List.{List, [], ◌∷◌}
use native.Mathlib.Omega.{arith}
use native.Mathlib.Numerals.{add-one}
use lib.Dec.{leb, ltb}
use lib.ListN.{length, get_or, drop}
use lib.Seq.{drop-cons, drop-length}
use borrow.Author.Tests.{lt-ltb, le-ltb, le-leb, lt-leb}
use Rattle.machine.proofs.Tests.{and-true, and-unless}
use Rattle.text.specs.Decimal.{zero_digit, base, read_on}
use Rattle.text.proofs.Decimals.{read_on-grows}
use Rattle.std.specs.Prelude.{Some, None}
use Rattle.telling.specs.Number.{is_digit, all_digits, word_limit, is_index, index_if, asked_of}

-- the digits before i are read, and their number is n
pub record Reading (text : List ℕ) (n i : ℕ) : Type 0 where
  pub within : i ≤ length text
  pub low : n < word_limit
  pub digits : all_digits text ≡ all_digits (drop i text)
  pub value : read_on 0 text ≡ read_on n (drop i text)

-- the number with one digit more
abbrev pub with_digit : ℕ → ℕ → ℕ
with_digit n d = n * base + (d - zero_digit)

pub reading-none : (text : List ℕ) → Reading text 0 0
reading-none text = record { within = omega arith; low = omega arith; digits = refl; value = refl }

bad-if : (text : List ℕ) → is_index text ≡ false → None ≡ asked_of text
unfolding asked_of
bad-if text e = sym (ap (λ (b : Bool). index_if b (read_on 0 text)) e)

-- nothing at all is no number
pub nothing-read : (text : List ℕ) → length text ≡ 0 → None ≡ asked_of text
unfolding is_index
nothing-read text z = bad-if text (ap (λ (b : Bool). b && (all_digits text && ltb (read_on 0 text) word_limit)) (lt-leb 1 (length text) (omega arith)))

module _ {text : List ℕ} {n i : ℕ} (r : Reading text n i) where
  module _ (h : i < length text) where
    next : drop i text ≡ get_or text i 0 ∷ drop (i + 1) text
    next = drop-cons text i 0 h ∙ ap (λ (k : ℕ). get_or text i 0 ∷ drop k text) (sym (add-one i))

    digits-next : all_digits text ≡ (is_digit (get_or text i 0) && all_digits (drop (i + 1) text))
    unfolding all_digits
    digits-next = r.digits ∙ ap all_digits next

    value-next : read_on 0 text ≡ read_on (with_digit n (get_or text i 0)) (drop (i + 1) text)
    unfolding read_on
    value-next = r.value ∙ ap (read_on n) next

    pub reading-more : {m : ℕ} → is_digit (get_or text i 0) ≡ true → m ≡ with_digit n (get_or text i 0) → m < word_limit → Reading text m (i + 1)
    reading-more d e l = record {
      within = omega arith;
      low = l;
      digits = digits-next ∙ ap (λ (b : Bool). b && all_digits (drop (i + 1) text)) d;
      value = value-next ∙ ap (λ (m : ℕ). read_on m (drop (i + 1) text)) (sym e);
    }

    -- a byte that is no digit
    pub reading-stray : is_digit (get_or text i 0) ≡ false → None ≡ asked_of text
    unfolding is_index
    reading-stray d =
        bad-if text
        (and-unless (leb 1 (length text)) _ (λ q. ap (λ (b : Bool). b && ltb (read_on 0 text) word_limit) (digits-next ∙ ap (λ (b : Bool). b && all_digits (drop (i + 1) text)) d)))

    -- no further digit makes a number smaller
    pub reading-large : word_limit ≤ with_digit n (get_or text i 0) → None ≡ asked_of text
    unfolding is_index
    reading-large l =
        let g = read_on-grows (with_digit n (get_or text i 0)) (drop (i + 1) text) in
        bad-if text (and-unless (leb 1 (length text)) _ (λ q. and-unless (all_digits text) _ (λ p. le-ltb (read_on 0 text) word_limit (omega (arith, g, value-next)))))

  module _ (h : length text ≤ i) where
    at-end : drop i text ≡ []
    at-end = let e : i ≡ length text = omega (arith, r.within) in ap (λ (k : ℕ). drop k text) e ∙ drop-length text

    value-end : read_on 0 text ≡ n
    unfolding read_on
    value-end = r.value ∙ ap (read_on n) at-end

    digits-end : all_digits text ≡ true
    unfolding all_digits
    digits-end = r.digits ∙ ap all_digits at-end

    is-index : 0 < length text → is_index text ≡ true
    unfolding is_index
    is-index z =
        and-true _ _ (le-leb 1 (length text) z)
        (and-true _ _ digits-end (lt-ltb (read_on 0 text) word_limit (omega (arith, value-end, r.low))))

    pub reading-ends : 0 < length text → Some n ≡ asked_of text
    unfolding asked_of
    reading-ends z = ap Some (sym value-end) ∙ sym (ap (λ (b : Bool). index_if b (read_on 0 text)) (is-index z))
