-- `tally::figures` meets its contract: the parts require what stands after a collection, and give its figures (`Figuring`). Assumes
-- nothing.
use native.Mathlib.Omega.{arith}
use Rattle.machine.specs.Layout.{field}
use Rattle.tally.proofs.Figuring.{control-fits, heap-fits, keepable, own-chained, all_pointed, blank-memo, cleared, heap-words, none_yet, figures-are}
use Rattle.tally.proofs.figures.Goals as goal

pub bounds-view-5 : goal.bounds-view-5
bounds-view-5 c = omega (arith, control-fits c.requires)

pub keep_heap-kept-requires : goal.keep_heap-kept-requires
unfolding field
keep_heap-kept-requires c = let a = c.requires in record { count_in_bounds = heap-fits a; keepable = keepable a }

pub count_chains-tally-requires : goal.count_chains-tally-requires
unfolding field
count_chains-tally-requires c = let a = c.requires in
    record {
      fixed_in_bounds = control-fits a;
      chained = own-chained a;
      pointed = all_pointed a;
      memo = blank-memo a;
      points_value = none_yet a c.keep_heap-kept.ensures c.trail.ensures;
    }

pub slice_bounds-notes-count : goal.slice_bounds-notes-count
slice_bounds-notes-count c = omega (arith, heap-words c.requires)

pub slice_bounds-notes-start : goal.slice_bounds-notes-start
slice_bounds-notes-start c = omega (arith, heap-words c.requires)

pub returns : goal.returns
unfolding field
returns c =
    let n = c.count_chains-tally.ensures in
    record {
      value = λ a. figures-are a c.keep_heap-kept.ensures c.trail.ensures n;
      work_unchanged = cleared c.requires n.points.noted c.clear.ensures;
    }
