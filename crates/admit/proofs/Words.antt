-- The checks of words together give the table's verdict on 5 to 7 and 17: each that passes is skipped, and the first that does not is the
-- answer. Assumes nothing.
use Rattle.std.specs.Prelude.{Result, Ok, Err}
use Prim.Native.Nat.{ℕ}
use mathlib.Core.Path.{◌≡◌, refl, sym, ◌∙◌}
use mathlib.Core.List.{List, []}
use native.Mathlib.Omega.{arith}
use lib.ListN.{length}
use Rattle.machine.specs.declared.Refusal.{Refusal}
use Rattle.machine.specs.Layout.{Image}
use Rattle.machine.specs.Refusals.{Verdict, accepted, or_else, first_of, cell_checks, entry_checks, first_checks}
use Rattle.machine.specs.Answers.{verdict_of}
use Rattle.machine.proofs.Firsts.{else-passes, else-refuses, else-assoc}
use Rattle.machine.proofs.Injective.{refusal-refuses}
use Rattle.cells.specs.Cells.{checked_to}
use Rattle.functors.specs.Functors.{Checkable, ChecksFirst}
use Rattle.admit.specs.Admits.{WordsNoted, ChecksWords, ChecksNoted}

-- ---- verdicts one after the other

cells-then : (X : Image) (later : List Verdict) → first_of (cell_checks X later) ≡ or_else (first_of (cell_checks X [])) (first_of later)
unfolding first_of or_else
cells-then X later = sym (simp else-assoc)

entries-then : (X : Image) (later : List Verdict) → first_of (cell_checks X (entry_checks X later)) ≡ or_else (first_of (cell_checks X (entry_checks X []))) (first_of later)
unfolding first_of or_else
entries-then X later = sym (simp else-assoc)

-- a refusal is the answer; what passes is answered by the checks after it
refused-first : (r : Refusal) {v : Verdict} → verdict_of r ≡ v → (u : Verdict) → verdict_of r ≡ or_else v u
refused-first r e u = e ∙ sym (else-refuses _ u (λ q. refusal-refuses r (e ∙ q)))

passed_then : {given v u : Verdict} → accepted ≡ v → given ≡ u → given ≡ or_else v u
passed_then e f = f ∙ sym (else-passes _ _ (sym e))

-- ---- words

module _ {X : Image} where
  pub words-refused : {r : Refusal} → checked_to (Err r) ≡ first_of (cell_checks X []) → ChecksWords X (Err r)
  unfolding checked_to
  words-refused {r} e = record { gives = refused-first r e _ ∙ sym (cells-then X (entry_checks X [])) }

  pub words-passed : {r : Result (Unit {0}) Refusal} → checked_to (Ok tt) ≡ first_of (cell_checks X []) → checked_to r ≡ first_of (entry_checks X []) → ChecksWords X r
  unfolding checked_to
  words-passed e f = record { gives = passed_then e f ∙ sym (cells-then X (entry_checks X [])) }

  -- and first cells
  module _ {work : List ℕ} where
    pub noted-refused : {r : Refusal} → ChecksWords X (Err r) → ChecksNoted X work (Err r) work
    unfolding checked_to
    noted-refused {r} c = record { gives = refused-first r c.gives _ ∙ sym (entries-then X (first_checks X)); stays = refl }

    pub noted-passed : {r : Result (Unit {0}) Refusal} {work' : List ℕ} → ChecksWords X (Ok tt) → ChecksFirst X work r work' → ChecksNoted X work r work'
    unfolding checked_to
    noted-passed c f = record { gives = passed_then c.gives f.gives ∙ sym (entries-then X (first_checks X)); stays = f.stays }

    pub noted-checkable : WordsNoted X work → ChecksWords X (Ok tt) → Checkable X work (length X.heap)
    unfolding checked_to
    noted-checkable n c = record {
      sizes = n.sizes;
      fits = n.fits;
      behind = omega arith;
      right = n.right;
      blank = λ x l. n.blank x (omega (arith, n.fits.heap));
      passed = sym c.gives;
    }
