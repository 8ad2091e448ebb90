-- `counts::count` meets its contract. The loop's invariant: the words that were passed are counts, and d cells below are kept. Assumes
-- nothing.
use Prim.Native.Nat.{◌≤◌}
use Rattle.counts.proofs.Counting.{Turn}
use Rattle.counts.proofs.count.Given as goal

abbrev pub invariant-loop-word : goal.invariant-loop-word
invariant-loop-word l = (l.d ≤ l.word-index) × Turn l.initial.word-items l.word-items l.d l.word-index
