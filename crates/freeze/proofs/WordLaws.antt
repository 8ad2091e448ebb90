-- Laws of the words that records in a row hold: how many, which stands where, that their bytes are in the file, and the fields of the
-- control words. Assumes nothing.
use Prim.Native.Nat.{ℕ, zero, suc, ◌+◌, ◌*◌, ◌≤◌, ◌<◌}
use mathlib.Core.Path.{◌≡◌, refl, ap, ◌∙◌}
use mathlib.Core.List.{List}
use native.Mathlib.Omega.{arith}
use native.Mathlib.Nat.{suc-mul, le_of_suc-le-suc, not-suc-le-zero}
use lib.ListN.{length, get_or}
use Rattle.freeze.specs.declared.AreaCounts.{AreaCounts}
use Rattle.freeze.specs.Kinds.{CONTROL, record_size}
use Rattle.freeze.specs.Verdicts.{accepted}
use Rattle.freeze.specs.Records.{records_verdict, word_in, words}
use Rattle.freeze.specs.Thaw.{control_at, image_in}
use Rattle.freeze.proofs.VerdictLaws.{both-passed, or_else-accepted}
use Rattle.freeze.proofs.RecordLaws.{expected, passed-kind}

module _ (file : List ℕ) (kind : ℕ) where
  pub length-words : (at n : ℕ) → length (words file kind at n) ≡ n
  unfolding words
  length-words at zero = refl
  length-words at (suc n) = ap suc (length-words (at + record_size kind) n)

  -- the first of several that pass, and the others
  pub records-passed : (at n : ℕ) → records_verdict file kind at (suc n) ≡ accepted → (expected file kind at ≡ accepted) × (records_verdict file kind (at + record_size kind) n ≡ accepted)
  unfolding records_verdict
  records-passed at n e = both-passed (expected file kind at) (records_verdict file kind (at + record_size kind) n) e

  pub records-join : (at n : ℕ) → expected file kind at ≡ accepted → records_verdict file kind (at + record_size kind) n ≡ accepted → records_verdict file kind at (suc n) ≡ accepted
  unfolding records_verdict
  records-join at n e f = or_else-accepted (records_verdict file kind (at + record_size kind) n) e ∙ f

  -- record i begins i records further on
  next_place : (at i : ℕ) → at + record_size kind + i * record_size kind ≡ at + suc i * record_size kind
  next_place at i = omega (arith, suc-mul i (record_size kind))

  pub words-get : (at n i : ℕ) → i < n → get_or (words file kind at n) i 0 ≡ word_in file (at + i * record_size kind) 0
  unfolding words
  words-get at zero i h = absurd (not-suc-le-zero h)
  words-get at (suc n) zero h = ap (λ (x : ℕ). word_in file x 0) (let e : at ≡ at + 0 * record_size kind = omega arith in e)
  words-get at (suc n) (suc i) h = words-get (at + record_size kind) n i (le_of_suc-le-suc h) ∙ ap (λ (x : ℕ). word_in file x 0) (next_place at i)

  pub records-bound : (at n i : ℕ) → records_verdict file kind at n ≡ accepted → i < n → at + i * record_size kind + record_size kind ≤ length file
  records-bound at zero i e h = absurd (not-suc-le-zero h)
  records-bound at (suc n) zero e h = let p = passed-kind file kind at (records-passed at n e).0 in omega arith
  records-bound at (suc n) (suc i) e h =
      let p = records-bound (at + record_size kind) n i (records-passed at n e).1 (le_of_suc-le-suc h) in
      omega (arith, p, next_place at i)

-- a control word is the word of the record that stands there, whose bytes are in the file
module _ (file : List ℕ) (n : AreaCounts) (p from size : ℕ) (a : from ≡ control_at) (s : size ≡ record_size CONTROL) (h : p < n.control) where
  pub control-word-in : get_or (image_in n file).control p 0 ≡ word_in file (from + p * size) 0
  unfolding image_in
  control-word-in = rw (words-get file CONTROL control_at n.control p h, a, s)

  pub control-word-bound : records_verdict file CONTROL control_at n.control ≡ accepted → from + p * size + record_size CONTROL ≤ length file
  control-word-bound e = rw (a, s) (records-bound file CONTROL control_at n.control p e h)
