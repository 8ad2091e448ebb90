-- The figures of an image: its cells by tag, its trail entries, its choice points and its deepest chain. Document 02, order 1. Assumes nothing.
use Rattle.std.specs.Prelude.{ℕ, suc, ◌-◌, max, Bool, ◌&&◌, not, List, [], ◌∷◌, length, get_or, eqb}
use Rattle.cell.specs.Word.{VAR, STRUCT, LIST, CONST, tag_of}
use Rattle.machine.specs.Layout.{Image, E, T, H, reg, at}
use Rattle.machine.specs.Chains.{Thing, frame, point, fuel_of, frames, walk}
use Rattle.machine.specs.Moved.{below}
use Rattle.tally.specs.declared.Tags.{Tags}
use Rattle.tally.specs.declared.Tally.{Tally}

-- "each of the four tags"
pub data Tag : Type 0 where
  var structure list constant : Tag

abbrev pub number_of : Tag → ℕ
number_of var = VAR
number_of structure = STRUCT
number_of list = LIST
number_of constant = CONST

-- how many have the tag
abbrev pub of_tag : Tag → Tags → ℕ
of_tag var tags = tags.var
of_tag structure tags = tags.structure
of_tag list tags = tags.list
of_tag constant tags = tags.constant

-- so many of each tag
abbrev pub tags_by : (Tag → ℕ) → Tags
tags_by count = record { var = count var; structure = count structure; list = count list; constant = count constant }

-- the counted figures, by name; the deepest chain is not counted
pub data Figure : Type 0 where
  kept dropped : Tag → Figure
  entries_kept entries_dropped choice_points : Figure

abbrev pub figure : Figure → Tally → ℕ
figure (kept tag) tally = of_tag tag tally.kept
figure (dropped tag) tally = of_tag tag tally.dropped
figure entries_kept tally = tally.entries_kept
figure entries_dropped tally = tally.entries_dropped
figure choice_points tally = tally.points

-- a tally with these counted figures and this deepest chain
abbrev pub tally_by : (Figure → ℕ) → ℕ → Tally
tally_by count deepest = record {
  kept = tags_by (λ tag. count (kept tag));
  dropped = tags_by (λ tag. count (dropped tag));
  entries_kept = count entries_kept;
  entries_dropped = count entries_dropped;
  points = count choice_points;
  deepest = deepest;
}

abbrev pub has_tag : Tag → ℕ → Bool
has_tag tag w = eqb (tag_of w) (number_of tag)

-- "heap cells .. by each of the four tags as read": those of a set, among the first words of a heap
unfoldable pub tagged : List ℕ → (ℕ → Bool) → Tag → ℕ → ℕ
tagged heap set tag count = below (λ x. set x && has_tag tag (get_or heap x 0)) count

-- "choice points": those that the walk meets
unfoldable pub points_in : List Thing → ℕ
points_in [] = 0
points_in (frame e k limit ∷ things) = points_in things
points_in (point b limit t h ∷ things) = suc (points_in things)

-- the frames in the chain from e. How large the first is seen, and where it must have ended, does not change their number.
unfoldable pub chain_from : Image → ℕ → ℕ
chain_from X e = length (frames (fuel_of X) X e 0 0)

-- the largest chain from the E of a choice point
unfoldable pub deepest_in : Image → List Thing → ℕ
deepest_in X [] = 0
deepest_in X (frame e k limit ∷ things) = deepest_in X things
deepest_in X (point b limit t h ∷ things) = max (chain_from X (at X b E)) (deepest_in X things)

-- "deepest frame chain", in frames: from the control's E or a choice point's
unfoldable pub deepest_of : Image → ℕ
deepest_of X = max (chain_from X (reg X E)) (deepest_in X (walk X))

-- "heap cells kept and dropped by each of the four tags as read, trail entries kept and dropped, choice points": the heap cells of one
-- set and the trail entries of the other being kept
unfoldable pub count_of : (ℕ → Bool) → (ℕ → Bool) → Image → Figure → ℕ
count_of cells entries X (kept tag) = tagged X.heap cells tag (reg X H)
count_of cells entries X (dropped tag) = tagged X.heap (λ x. not (cells x)) tag (reg X H)
count_of cells entries X entries_kept = below entries (reg X T)
count_of cells entries X entries_dropped = reg X T - below entries (reg X T)
count_of cells entries X choice_points = points_in (walk X)

unfoldable pub tally_of : (ℕ → Bool) → (ℕ → Bool) → Image → Tally
tally_of cells entries X = tally_by (count_of cells entries X) (deepest_of X)
