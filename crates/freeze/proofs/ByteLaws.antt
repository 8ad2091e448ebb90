-- A word and its four bytes, there and back, at an offset of a file; and the records of an area, there and back. Assumes nothing.
use Prim.Native.Nat.{ℕ, zero, suc, ◌+◌, ◌*◌, ◌-◌, ◌/◌, ◌%◌, ◌^◌, ◌≤◌, ◌<◌}
use mathlib.Core.Path.{◌≡◌, refl, sym, ap, ◌∙◌}
use mathlib.Core.List.{List, [], ◌∷◌, ◌++◌}
use native.Mathlib.Omega.{arith}
use native.Mathlib.Nat.{add-zero, suc-mul, div-div-eq-div-mul}
use native.Mathlib.Numerals.{add-one}
use lib.ListN.{length, get_or, drop, length-drop}
use lib.Dec.{eqb}
use lib.Seq.{drop-cons, drop-drop, get_or-drop}
use borrow.Author.Tests.{eq-eqb}
use Rattle.freeze.specs.Kinds.{word_body, body_of, record_size, past}
use Rattle.freeze.specs.Verdicts.{accepted}
use Rattle.freeze.specs.Records.{kind_at, records_verdict, number_at, word_in, words}
use Rattle.freeze.specs.Freeze.{bytes_of, records}
use Rattle.freeze.specs.RoundTrips.{Words, Bytes}
use Rattle.freeze.proofs.RecordLaws.{passed-kind, record-whole}
use Rattle.freeze.proofs.WordLaws.{records-passed, records-join}

-- one division by 256 after the other
by_two : (w : ℕ) → w / 65536 ≡ w / 256 / 256
by_two w = sym (div-div-eq-div-mul w 256 256)

by_three : (w : ℕ) → w / 16777216 ≡ w / 256 / 256 / 256
by_three w = sym (ap (λ (x : ℕ). x / 256) (div-div-eq-div-mul w 256 256) ∙ div-div-eq-div-mul w 65536 256)

-- four bytes make a word, and it has just these bytes
pub number-of-bytes : (w : ℕ) → w < 2 ^ 32 → w % 256 + 256 * (w / 256 % 256) + 65536 * (w / 65536 % 256) + 16777216 * (w / 16777216 % 256) ≡ w
number-of-bytes w h = rw (by_two w, by_three w) (omega arith)

bytes-of-number : (a b c d : ℕ) → a < 256 → b < 256 → c < 256 → d < 256 → bytes_of (a + 256 * b + 65536 * c + 16777216 * d) ≡ a ∷ b ∷ c ∷ d ∷ []
bytes-of-number a b c d p q r s =
    let n = a + 256 * b + 65536 * c + 16777216 * d in
    let e : n % 256 ≡ a = omega arith in
    let f : n / 256 ≡ b + 256 * c + 65536 * d = omega arith in
    let g : n / 256 / 256 ≡ c + 256 * d = rw f (omega arith) in
    let h : n / 256 / 256 / 256 ≡ d = rw g (omega arith) in
    let f' : n / 256 % 256 ≡ b = rw f (omega arith) in
    let g' : n / 65536 % 256 ≡ c = rw (by_two n, g) (omega arith) in
    let h' : n / 16777216 % 256 ≡ d = rw (by_three n, h) (omega arith) in
    rw (e, f', g', h')

-- byte k of what stands from an offset on
pub from_at : (file xs : List ℕ) (at k : ℕ) → drop at file ≡ xs → get_or file (at + k) 0 ≡ get_or xs k 0
from_at file xs at k e = sym (get_or-drop at file k 0) ∙ ap (λ (l : List ℕ). get_or l k 0) e

past-at : (file : List ℕ) (at k : ℕ) (xs ys : List ℕ) → drop at file ≡ xs ++ ys → length xs ≡ k → drop (at + k) file ≡ drop k (xs ++ ys)
past-at file at k xs ys e h = sym (drop-drop k at file) ∙ ap (drop k) e

-- the word whose bytes stand at an offset
pub word_of : (file : List ℕ) (at w : ℕ) (rest : List ℕ) → w < 2 ^ 32 → drop at file ≡ bytes_of w ++ rest
    → (number_at file at ≡ w) × (drop (at + word_body) file ≡ rest) × (at + word_body ≤ length file)
unfolding number_at
word_of file at w rest h e =
    let b0 : get_or file at 0 ≡ w % 256 = ap (λ (i : ℕ). get_or file i 0) (sym (add-zero at)) ∙ from_at file _ at 0 e in
    let l : length file - at ≡ length (bytes_of w ++ rest) = sym (length-drop at file) ∙ ap length e in
    (rw (b0, from_at file _ at 1 e, from_at file _ at 2 e, from_at file _ at 3 e) (number-of-bytes w h), past-at file at word_body (bytes_of w) rest e refl, omega arith)

-- the bytes of the word at an offset
pub drop-word : (file : List ℕ) (at : ℕ) → Bytes file → at + word_body ≤ length file → drop at file ≡ bytes_of (number_at file at) ++ drop (at + word_body) file
unfolding number_at
drop-word file at bytes h =
    one at (omega arith) ∙ ap (λ (l : List ℕ). get_or file at 0 ∷ l)
    (one (at + 1) (omega arith) ∙ ap (λ (l : List ℕ). get_or file (at + 1) 0 ∷ l)
    (further 1 1 ∙ one (at + 2) (omega arith) ∙ ap (λ (l : List ℕ). get_or file (at + 2) 0 ∷ l)
    (further 2 1 ∙ one (at + 3) (omega arith) ∙ ap (λ (l : List ℕ). get_or file (at + 3) 0 ∷ l) (further 3 1))))
    ∙ sym (ap (λ (l : List ℕ). l ++ drop (at + word_body) file)
    (bytes-of-number (get_or file at 0) (get_or file (at + 1) 0) (get_or file (at + 2) 0) (get_or file (at + 3) 0) (bytes at) (bytes (at + 1)) (bytes (at + 2)) (bytes (at + 3))))
  where
    one : (i : ℕ) → i < length file → drop i file ≡ get_or file i 0 ∷ drop (i + 1) file
    one i l = drop-cons file i 0 l ∙ ap (λ (k : ℕ). get_or file i 0 ∷ drop k file) (sym (add-one i))

    further : (j k : ℕ) → drop (at + j + k) file ≡ drop (at + (j + k)) file
    further j k = ap (λ (i : ℕ). drop i file) (let e : at + j + k ≡ at + (j + k) = omega arith in e)

-- the word of a record's body, at the byte after the kind
body-word : (file : List ℕ) (at : ℕ) → word_in file at 0 ≡ number_at file (at + 1)
body-word file at = ap (number_at file) (let e : at + 1 + 0 * word_body ≡ at + 1 = omega arith in e)

module _ (file : List ℕ) (kind : ℕ) (word : body_of kind ≡ word_body) where
  next-record : (at : ℕ) → at + record_size kind ≡ at + 1 + word_body
  next-record at = omega (arith, word)

  -- records that stand at an offset are read as they were written
  pub record ReadAs (at : ℕ) (ws rest : List ℕ) : Type 0 where
    pub verdict : records_verdict file kind at (length ws) ≡ accepted
    pub same : words file kind at (length ws) ≡ ws
    pub further : drop (past at kind (length ws)) file ≡ rest

  pub read_as : (at : ℕ) (ws rest : List ℕ) → Words ws → drop at file ≡ records kind ws ++ rest → ReadAs at ws rest
  unfolding records records_verdict words
  read_as at [] rest small e = record { verdict = refl; same = refl; further = ap (λ (i : ℕ). drop i file) (let z : past at kind 0 ≡ at = omega arith in z) ∙ e }
  read_as at (w ∷ ws) rest small e =
      let body : drop (at + 1) file ≡ bytes_of w ++ (records kind ws ++ rest) = sym (drop-drop 1 at file) ∙ ap (drop 1) e in
      let b = word_of file (at + 1) w (records kind ws ++ rest) (small 0) body in
      let k : kind_at file at ≡ kind = ap (λ (i : ℕ). get_or file i 0) (sym (add-zero at)) ∙ from_at file _ at 0 e in
      let more = read_as (at + record_size kind) ws rest (λ i. small (suc i)) (ap (λ (i : ℕ). drop i file) (next-record at) ∙ b.1) in
      record {
        verdict = records-join file kind at (length ws)
            (record-whole (λ k. eqb k kind) file at (eq-eqb _ _ k) (omega (arith, ap record_size k, next-record at, b.2))) more.verdict;
        same = λ i. (body-word file at ∙ b.0) i ∷ more.same i;
        further = ap (λ (i : ℕ). drop i file) (let z : past at kind (suc (length ws)) ≡ past (at + record_size kind) kind (length ws) = omega (arith, suc-mul (length ws) (record_size kind)) in z) ∙ more.further;
      }

  -- records that have passed are what is written of their words
  pub written_as : Bytes file → (at n : ℕ) → records_verdict file kind at n ≡ accepted → drop at file ≡ records kind (words file kind at n) ++ drop (past at kind n) file
  unfolding records words
  written_as bytes at zero e = ap (λ (i : ℕ). drop i file) (let z : at ≡ past at kind 0 = omega arith in z)
  written_as bytes at (suc n) e =
      let p = records-passed file kind at n e in
      let k = passed-kind file kind at p.0 in
      let start : drop at file ≡ get_or file at 0 ∷ drop (at + 1) file = drop-cons file at 0 (omega arith) ∙ ap (λ (i : ℕ). get_or file at 0 ∷ drop i file) (sym (add-one at)) in
      let body = drop-word file (at + 1) bytes (omega (arith, next-record at)) in
      let more = written_as bytes (at + record_size kind) n p.1 in
      let end : past (at + record_size kind) kind n ≡ past at kind (suc n) = omega (arith, suc-mul n (record_size kind)) in
      start ∙ ap (λ (x : ℕ). x ∷ drop (at + 1) file) k.0 ∙ ap (λ (l : List ℕ). kind ∷ l)
      (body ∙ ap (λ (w : ℕ). bytes_of w ++ drop (at + 1 + word_body) file) (sym (body-word file at))
      ∙ ap (λ (i : ℕ). bytes_of (word_in file at 0) ++ drop i file) (sym (next-record at))
      ∙ ap (λ (l : List ℕ). bytes_of (word_in file at 0) ++ l) (more ∙ ap (λ (i : ℕ). records kind (words file kind (at + record_size kind) n) ++ drop i file) end))
