-- What the writer of a freeze file answers and leaves in the lent output. Document 01, 'Freeze file'. Assumes nothing.
use Rattle.std.specs.Prelude.{ℕ, ◌/◌, ◌%◌, ◌≡◌, List, [], ◌∷◌, ◌++◌, length, take, leb, Result, Ok, Err}
use Rattle.machine.specs.Layout.{Image}
use Rattle.machine.specs.Refusals.{legal_sizes, fits}
use Rattle.freeze.specs.declared.AreaCounts.{AreaCounts}
use Rattle.freeze.specs.declared.FileRefusal.{FileRefusal}
use Rattle.freeze.specs.declared.FileRefusal.TheVariants.{Sizes, Registers, Output}
use Rattle.freeze.specs.Kinds.{COUNTS, CONTROL, STACK, HEAP, TRAIL, END}
use Rattle.freeze.specs.Verdicts.{FileVerdict, accepted, verdict_of, gate, first_of, if_accepted}
use Rattle.freeze.specs.Thaw.{counts_of, front}

-- "numbers little-endian"
abbrev pub bytes_of : ℕ → List ℕ
bytes_of w = w % 256 ∷ w / 256 % 256 ∷ w / 65536 % 256 ∷ w / 16777216 % 256 ∷ []

-- "one byte of kind, then a body": a record of one kind for each word
unfoldable pub records : ℕ → List ℕ → List ℕ
records kind [] = []
records kind (w ∷ ws) = kind ∷ (bytes_of w ++ records kind ws)

unfoldable pub counts_record : AreaCounts → List ℕ
counts_record n = COUNTS ∷ (bytes_of n.control ++ (bytes_of n.stack ++ (bytes_of n.heap ++ bytes_of n.trail)))

-- "One kind 1, then all of 2, 3, 4, 5 in order, as many as counted, then 6."
unfoldable pub file_of : AreaCounts → Image → List ℕ
file_of n X =
    counts_record n
    ++ (records CONTROL (take n.control X.control)
    ++ (records STACK (take n.stack X.stack)
    ++ (records HEAP (take n.heap X.heap) ++ (records TRAIL (take n.trail X.trail) ++ (END ∷ [])))))

-- "Control count is 7 + n, heap count H, trail count T, stack count the stack's length."
abbrev pub frozen : Image → List ℕ
frozen X = file_of (counts_of X) X

-- "The writer refuses 1 (likewise), 2, then 15 when the output is too short"
unfoldable pub freeze_verdict : Image → List ℕ → FileVerdict
freeze_verdict X output =
    first_of
    (gate (legal_sizes X) (verdict_of Sizes)
    ∷ gate (fits X) (verdict_of Registers)
    ∷ gate (leb (length (frozen X)) (length output)) (verdict_of Output)
    ∷ [])

-- "Accepted, .. the writer its byte count"; with a refusal it is 0
pub record FreezeAnswer : Type 0 where
  pub verdict : FileVerdict
  pub bytes : ℕ

unfoldable pub freeze_answer_of : Result ℕ FileRefusal → FreezeAnswer
freeze_answer_of (Ok bytes) = record { verdict = accepted; bytes = bytes }
freeze_answer_of (Err refusal) = record { verdict = verdict_of refusal; bytes = 0 }

unfoldable pub freeze_answer : FileVerdict → Image → FreezeAnswer
freeze_answer verdict X = record { verdict = verdict; bytes = if_accepted verdict (length (frozen X)) 0 }

-- What `freeze` promises, of all areas and every lent output: its answer r and the output at exit. ".. and then writes nothing";
-- "output past that stays"
pub record Freezes (X : Image) (output : List ℕ) (r : Result ℕ FileRefusal) (left : List ℕ) : Type 0 where
  pub answer : freeze_answer_of r ≡ freeze_answer (freeze_verdict X output) X
  pub bytes : left ≡ if_accepted (freeze_verdict X output) (front output (frozen X)) output
