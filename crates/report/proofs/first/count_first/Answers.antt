-- `report::first::count_first` meets its contract: an accepted file fills the fronts that are lent on, so that the image is what the file holds (`Countings`).
-- Assumes nothing.
use Prim.Native.Nat.{ℕ, ◌≤◌}
use mathlib.Core.Path.{◌≡◌, ◌∙◌, subst}
use mathlib.Core.List.{List}
use native.Mathlib.Omega.{arith}
use lib.ListN.{length}
use lib.Seq.{length-take-le}
use Rattle.machine.specs.Layout.{Image}
use Rattle.freeze.specs.declared.AreaCounts.{AreaCounts}
use Rattle.freeze.specs.Thaw.{image_of, lengths_of}
use Rattle.tally.specs.Totals.{Lent}
use Rattle.report.specs.First.{room_of}
use Rattle.report.specs.Parts.{Fronts}
use Rattle.report.proofs.Countings.{fronts_in, counts-first, figured}
use Rattle.report.proofs.first.count_first.Goals as goal
use Rattle.report.proofs.first.count_first.Goals.{After-fronts-front}

-- the lent areas
abbrev lent : After-fronts-front → Image
lent c = image_of c.args.control.now c.args.stack.now c.args.heap.now c.args.trail.now

-- the fronts that are lent on, of the room in the lent areas
fronts : (c : After-fronts-front) → Fronts (room_of (lent c)) c.args.file.now c.fronts-front.result
unfolding room_of
fronts c = subst (λ (room : AreaCounts). Fronts room c.args.file.now c.fronts-front.result) c.room_in-room.ensures c.fronts-front.ensures

module _ (file : List ℕ) (lent : Image) (n : AreaCounts) (f : Fronts (room_of lent) file n) where
  control-fits : n.control ≤ length lent.control
  unfolding room_of
  control-fits = omega (arith, f.control)

  stack-fits : n.stack ≤ length lent.stack
  unfolding room_of
  stack-fits = omega (arith, f.stack)

  heap-fits : n.heap ≤ length lent.heap
  unfolding room_of
  heap-fits = omega (arith, f.heap)

  trail-fits : n.trail ≤ length lent.trail
  unfolding room_of
  trail-fits = omega (arith, f.trail)

  fits : lengths_of (fronts_in n lent) ≡ n
  fits = λ i. record {
    control = length-take-le n.control lent.control control-fits i;
    stack = length-take-le n.stack lent.stack stack-fits i;
    heap = length-take-le n.heap lent.heap heap-fits i;
    trail = length-take-le n.trail lent.trail trail-fits i;
  }

  -- no more is lent on than a file may have
  sized : Lent (fronts_in n lent)
  unfolding room_of
  sized =
      record {
        heap = omega (arith, length-take-le n.heap lent.heap heap-fits, f.heap);
        stack = omega (arith, length-take-le n.stack lent.stack stack-fits, f.stack);
        trail = omega (arith, length-take-le n.trail lent.trail trail-fits, f.trail);
      }

pub returns : goal.returns
returns c =
    let k = (goal.at.returns c).After-fronts-front in
    let n = c.fronts-front.result in
    let file = c.args.file.now in
    let run = c.count_file in
    let whole = fits file (lent k) n (fronts k) in
    let left : lengths_of (image_of run.new.control run.new.stack run.new.heap run.new.trail) ≡ n = (λ i. record { control = run.auto.control i; stack = run.auto.stack i; heap = run.auto.heap i; trail = run.auto.trail i }) ∙ whole in
    record {
      counts_first = counts-first file (lent k) c.args.work.now n (fronts k) whole run.ensures left;
      figured = figured run.ensures (sized file (lent k) n (fronts k));
    }
