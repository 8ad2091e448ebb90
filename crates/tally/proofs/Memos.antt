-- The lengths of chains noted in the stack's work words: notes made one after the other, and all taken away again. Assumes nothing.
use Prim.Native.Nat.{ℕ, ◌≤◌, ◌<◌}
use mathlib.Core.Path.{◌≡◌, sym, ◌∙◌}
use mathlib.Core.List.{List, ◌++◌}
use native.Mathlib.Omega.{arith}
use lib.ListN.{length, get_or, take, drop, replicate, length-take, length-replicate, get_or-replicate, take-append-drop}
use lib.Seq.{get_or-take, ext_get_or}
use Rattle.chains.proofs.Stores.{kept-none, kept-join, kept-after}
use Rattle.tally.specs.Parts.{Memo, Notes}

-- zeros written over zeros
pub zeros-stay : (words : List ℕ) (n : ℕ) → n ≤ length words → ((i : ℕ) → i < n → get_or words i 0 ≡ 0) → replicate n 0 ++ drop n words ≡ words
zeros-stay words n l z = rw (← zeros) (take-append-drop n words)
  where
    zeros : take n words ≡ replicate n 0
    zeros =
        ext_get_or
        0
        (take n words)
        (replicate n 0)
        (simp (length-take, length-replicate {A = ℕ} n 0) (omega arith))
        (λ i h.
        let k : i < n = omega (arith, length-take n words) in
        get_or-take n words i 0 k ∙ z i k ∙ sym (get_or-replicate n i 0 0 k))

module _ {stack : List ℕ} where
  pub notes-none : {notes : List ℕ} → Memo stack notes → Notes stack notes notes
  notes-none m = record { memo = m; rest = kept-none }

  pub notes-join : {u v w : List ℕ} → Notes stack u v → Notes stack v w → Notes stack u w
  notes-join a b = record { memo = b.memo; rest = kept-join a.rest b.rest }

  -- the notes taken away again, all words are as they were where they were blank
  pub notes-cleared : (notes notes' : List ℕ) → Notes stack notes notes' → ((i : ℕ) → i < length stack → get_or notes i 0 ≡ 0)
      → replicate (length stack) 0 ++ drop (length stack) notes' ≡ notes
  notes-cleared notes notes' n blank =
      rw (kept-after (omega arith) n.rest) (zeros-stay notes (length stack) (omega (arith, n.memo.room, n.rest.same)) blank)
