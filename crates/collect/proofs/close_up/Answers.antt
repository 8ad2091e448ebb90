-- `collect::close_up` meets its contract: each pass finds what it needs in the admitted and counted image, and together they leave the
-- collection. Assumes nothing.
use Prim.Native.Nat.{ℕ}
use mathlib.Core.Path.{sym, subst}
use mathlib.Core.List.{List}
use native.Mathlib.Omega.{arith}
use lib.ListN.{get_or, take}
use Rattle.machine.specs.Layout.{T, H, place_of, field}
use Rattle.machine.proofs.Images.{image_of}
use Rattle.slide.specs.Slides.{StackSlides, TrailSlid}
use Rattle.collect.proofs.Sliding.{Parted, parted, heap-slides, stack-slides, control-slides, trail-slides}
use Rattle.collect.proofs.Phases.{closes, counted-total, total-low, kept_low}
use Rattle.collect.proofs.close_up.Goals as goal
use Rattle.collect.proofs.close_up.Goals.{After-slide_trail-kept}

-- the work words are parted
parts : (c : After-slide_trail-kept) → let a = c.args in Parted (image_of a.control.now a.stack.now a.heap.now a.trail.now) c.requires.cells (take (get_or a.control.now (place_of H) 0) c.split_at.result.0.now) c.split_at.result.1.now
unfolding field
parts c = parted c.requires _ c.split_at.ensures.by_index.0 c.split_at.ensures.front_len

-- what `slide_trail` has left, for the cells that are kept
slid : (c : After-slide_trail-kept) → let a = c.args in TrailSlid c.requires.cells a.trail.now a.stack.now c.split_at.result.1.now (get_or a.control.now (place_of T) 0) c.slide_trail-kept.new.trail c.slide_trail-kept.new.stack c.slide_trail-kept.result
unfolding field
slid c = c.slide_trail-kept.ensures c.requires.cells (parts c).counting

pub slice_bounds-counts-end : goal.slice_bounds-counts-end
unfolding field
slice_bounds-counts-end c = sym (parted c.requires _ c.split_at.ensures.by_index.0 c.split_at.ensures.front_len).top

pub slide_trail-kept-requires : goal.slide_trail-kept-requires
unfolding field
slide_trail-kept-requires c = trail-slides c.requires.accepted (parted c.requires _ c.split_at.ensures.by_index.0 c.split_at.ensures.front_len)

pub slide_stack-requires : goal.slide_stack-requires
unfolding field
slide_stack-requires c =
    let a = c.args in
    let e = (goal.at.slide_stack-requires c).After-slide_trail-kept in
    subst (λ (l : List ℕ). StackSlides l (take (get_or a.control.now (place_of H) 0) c.split_at.result.0.now) c.split_at.result.1.now) (sym (slid e).fields)
    (stack-slides c.requires.accepted (parts e) _)

pub overflow_cast-kept : goal.overflow_cast-kept
unfolding field
overflow_cast-kept c =
    let p = c.requires in
    let e = (goal.at.overflow_cast-kept c).After-slide_trail-kept in
    omega (arith, kept_low p (parts e) (slid e), p.accepted.fits.trail, p.accepted.sizes.trail)

pub slide_control-requires : goal.slide_control-requires
unfolding field
slide_control-requires c = control-slides c.requires.accepted (parts (goal.at.slide_control-requires c).After-slide_trail-kept)

pub slide_heap-requires : goal.slide_heap-requires
unfolding field
slide_heap-requires c = heap-slides c.requires.accepted (parts (goal.at.slide_heap-requires c).After-slide_trail-kept)

pub overflow_sub-cells : goal.overflow_sub-cells
unfolding field
overflow_sub-cells c = total-low c.requires

pub overflow_sub-entries : goal.overflow_sub-entries
unfolding field
overflow_sub-entries c = let e = (goal.at.overflow_sub-entries c).After-slide_trail-kept in kept_low c.requires (parts e) (slid e)

pub returns : goal.returns
unfolding field
returns c =
    let p = c.requires in
    let e = (goal.at.returns c).After-slide_trail-kept in
    let k = parts e in
    closes p k _ _ _ _ _ (record {
      stack₁ = c.slide_trail-kept.new.stack;
      slid = slid e;
      stack_is = c.slide_stack.ensures p.cells k.counting (counted-total p k);
      control-is = c.slide_control.ensures p.cells k.counting;
      heap_is = c.slide_heap.ensures p.cells k.counting;
    })
