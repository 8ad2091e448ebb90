-- What the reader of a freeze file answers and leaves in the four lent areas. Document 01, 'Freeze file'. Assumes nothing.
use Rattle.std.specs.Prelude.{ℕ, ◌+◌, ◌≡◌, Bool, ◌&&◌, List, [], ◌∷◌, ◌++◌, length, drop, eqb, leb, Result, Ok, Err}
use Rattle.machine.specs.Layout.{Image, T, H, N, fixed, reg}
use Rattle.machine.specs.Refusals.{legal_sizes}
use Rattle.freeze.specs.declared.AreaCounts.{AreaCounts}
use Rattle.freeze.specs.declared.FileRefusal.{FileRefusal}
use Rattle.freeze.specs.declared.FileRefusal.TheVariants.{Sizes, Room, After, Differ}
use Rattle.freeze.specs.Kinds.{COUNTS, CONTROL, STACK, HEAP, TRAIL, END, past}
use Rattle.freeze.specs.Verdicts.{FileVerdict, accepted, verdict_of, gate, first_of, if_accepted}
use Rattle.freeze.specs.Records.{records_verdict, word_in, words}

abbrev pub image_of : List ℕ → List ℕ → List ℕ → List ℕ → Image
image_of control stack heap trail = record { control = control; stack = stack; heap = heap; trail = trail }

-- "Control count is 7 + n, heap count H, trail count T, stack count the stack's length."
unfoldable pub counts_of : Image → AreaCounts
counts_of X = record { control = fixed + reg X N; stack = length X.stack; heap = reg X H; trail = reg X T }

abbrev pub lengths_of : Image → AreaCounts
lengths_of X = record { control = length X.control; stack = length X.stack; heap = length X.heap; trail = length X.trail }

unfoldable pub within : AreaCounts → AreaCounts → Bool
within n room =
    leb n.control room.control && (leb n.stack room.stack && (leb n.heap room.heap && leb n.trail room.trail))

-- "counts: control, stack, heap, trail", in the record at the file's start
unfoldable pub counts_in : List ℕ → AreaCounts
counts_in file = record { control = word_in file 0 0; stack = word_in file 0 1; heap = word_in file 0 2; trail = word_in file 0 3 }

-- "One kind 1, then all of 2, 3, 4, 5 in order, as many as counted, then 6.": where each of them starts
abbrev pub control_at : ℕ
control_at = past 0 COUNTS 1

abbrev pub stack_at : AreaCounts → ℕ
stack_at n = past control_at CONTROL n.control

abbrev pub heap_at : AreaCounts → ℕ
heap_at n = past (stack_at n) STACK n.stack

abbrev pub trail_at : AreaCounts → ℕ
trail_at n = past (heap_at n) HEAP n.heap

abbrev pub end_at : AreaCounts → ℕ
end_at n = past (trail_at n) TRAIL n.trail

abbrev pub past_end : AreaCounts → ℕ
past_end n = past (end_at n) END 1

-- the words that a file with these counts holds
unfoldable pub image_in : AreaCounts → List ℕ → Image
image_in n file = record {
  control = words file CONTROL control_at n.control;
  stack = words file STACK (stack_at n) n.stack;
  heap = words file HEAP (heap_at n) n.heap;
  trail = words file TRAIL (trail_at n) n.trail;
}

-- 14: "counts that differ from the control words, or a control count below 7"
unfoldable pub agree : AreaCounts → Image → Bool
agree n X =
    leb fixed n.control
    && (eqb n.control (counts_of X).control && (eqb n.heap (counts_of X).heap && eqb n.trail (counts_of X).trail))

abbrev pub area_stages : AreaCounts → List ℕ → List FileVerdict
area_stages n file =
    records_verdict file CONTROL control_at n.control
    ∷ records_verdict file STACK (stack_at n) n.stack
    ∷ records_verdict file HEAP (heap_at n) n.heap
    ∷ records_verdict file TRAIL (trail_at n) n.trail
    ∷ []

abbrev pub end_stages : AreaCounts → List ℕ → List FileVerdict
end_stages n file =
    records_verdict file END (end_at n) 1
    ∷ gate (leb (length file) (past_end n)) (verdict_of (After (past_end n)))
    ∷ gate (agree n (image_in n file)) (verdict_of Differ)
    ∷ []

-- "It refuses, as found from the front": the counts record, then 12, the areas, the end, 13, and 14 "tested last"
abbrev pub file_stages : AreaCounts → List ℕ → List FileVerdict
file_stages room file =
    records_verdict file COUNTS 0 1
    ∷ gate (within (counts_in file) room) (verdict_of Room)
    ∷ (area_stages (counts_in file) file ++ end_stages (counts_in file) file)

unfoldable pub thaw_verdict : Image → List ℕ → FileVerdict
thaw_verdict lent file = first_of (gate (legal_sizes lent) (verdict_of Sizes) ∷ file_stages (lengths_of lent) file)

-- "Accepted, the reader answers the four counts"; with a refusal they are 0
pub record ThawAnswer : Type 0 where
  pub verdict : FileVerdict
  pub counts : AreaCounts

abbrev pub no_counts : AreaCounts
no_counts = record { control = 0; stack = 0; heap = 0; trail = 0 }

unfoldable pub thaw_answer_of : Result AreaCounts FileRefusal → ThawAnswer
thaw_answer_of (Ok counts) = record { verdict = accepted; counts = counts }
thaw_answer_of (Err refusal) = record { verdict = verdict_of refusal; counts = no_counts }

unfoldable pub thaw_answer : FileVerdict → List ℕ → ThawAnswer
thaw_answer verdict file = record { verdict = verdict; counts = if_accepted verdict (counts_in file) no_counts }

-- the words of the second in front of the words of the first, which stay from there on
abbrev pub front : List ℕ → List ℕ → List ℕ
front area new = new ++ drop (length new) area

-- "The reader fills the fronts of four lent areas and leaves the rest of them."
unfoldable pub filled : Image → Image → Image
filled lent X = record {
  control = front lent.control X.control;
  stack = front lent.stack X.stack;
  heap = front lent.heap X.heap;
  trail = front lent.trail X.trail;
}

-- What `thaw` promises, of every file and all lent areas: its answer r and the areas at exit. "A refused file changes nothing lent."
pub record Thaws (file : List ℕ) (lent : Image) (r : Result AreaCounts FileRefusal) (left : Image) : Type 0 where
  pub answer : thaw_answer_of r ≡ thaw_answer (thaw_verdict lent file) file
  pub areas : left ≡ if_accepted (thaw_verdict lent file) (filled lent (image_in (counts_in file) file)) lent
