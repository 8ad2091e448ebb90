-- The table of body lengths: its rule at each of its 32 entries by one test that antt computes, the mark past its end, and the length
-- of each kind in use. Assumes nothing.
use Prim.Native.Nat.{ℕ, ◌+◌, ◌*◌, ◌≤◌, ◌<◌}
use mathlib.Core.Path.{◌≡◌, refl}
use mathlib.Core.Bool.{true}
use mathlib.Core.List.{List, [], ◌∷◌}
use native.Mathlib.Omega.{arith}
use lib.Dec.{eqb}
use lib.ListN.{get_or}
use borrow.Author.Tests.{ne_eqb, le-leb, lt-leb, eqb-true}
use Rattle.freeze.specs.declared.AreaCounts.{AreaCounts}
use Rattle.freeze.specs.Kinds.{COUNTS, CONTROL, STACK, HEAP, TRAIL, END, UNUSED, word_body, body_of, record_size}
use Rattle.freeze.specs.Thaw.{past_end}
use Rattle.std.proofs.lemmas.Bool.{agree_below_at}

abbrev pub bodies : List ℕ
bodies =
    UNUSED ∷ 16 ∷ 4 ∷ 4 ∷ 4 ∷ 4 ∷ 0 ∷ UNUSED
    ∷ UNUSED ∷ UNUSED ∷ UNUSED ∷ UNUSED ∷ UNUSED ∷ UNUSED ∷ UNUSED ∷ UNUSED
    ∷ UNUSED ∷ UNUSED ∷ UNUSED ∷ UNUSED ∷ UNUSED ∷ UNUSED ∷ UNUSED ∷ UNUSED
    ∷ UNUSED ∷ UNUSED ∷ UNUSED ∷ UNUSED ∷ UNUSED ∷ UNUSED ∷ UNUSED ∷ UNUSED
    ∷ []

-- the table's rule, read with any default
pub table-rule : (kind d : ℕ) → kind < 32 → get_or bodies kind d ≡ body_of kind
unfolding body_of
table-rule kind d h = eqb-true _ _ (agree_below_at (λ k. eqb (get_or bodies k d) (body_of k)) (λ k. true) 32 kind refl h)

-- no kind past the table is used
pub past-table : (kind : ℕ) → 32 ≤ kind → body_of kind ≡ UNUSED
unfolding body_of
past-table kind h =
    simp (ne_eqb kind COUNTS (λ e. omega arith), le-leb CONTROL kind (omega arith), lt-leb kind TRAIL (omega arith), ne_eqb kind END (λ e. omega arith))

pub counts-body : body_of COUNTS ≡ 16
unfolding body_of
counts-body = refl

pub control-word : body_of CONTROL ≡ word_body
unfolding body_of
control-word = refl

pub stack-word : body_of STACK ≡ word_body
unfolding body_of
stack-word = refl

pub heap-word : body_of HEAP ≡ word_body
unfolding body_of
heap-word = refl

pub trail-word : body_of TRAIL ≡ word_body
unfolding body_of
trail-word = refl

pub end_body : body_of END ≡ 0
unfolding body_of
end_body = refl

-- the size of a whole file
pub file-size : (n : AreaCounts) → past_end n ≡ record_size COUNTS + (n.control + n.stack + n.heap + n.trail) * (1 + word_body) + record_size END
unfolding body_of
file-size n = omega arith
