-- Cells counted by tag: one cell more, and the two loops over a heap that a tally takes cell by cell. Assumes nothing.
use Prim.Native.Nat.{ℕ, ◌+◌, ◌-◌, ◌≤◌, ◌<◌}
use mathlib.Core.Path.{◌≡◌, refl, sym, ap, ◌∙◌}
use mathlib.Core.Bool.{Bool, true, ◌&&◌}
use mathlib.Core.List.{List}
use native.Mathlib.Omega.{arith}
use native.Mathlib.Numerals.{add-one}
use lib.ListN.{length, take, get_or}
use lib.Seq.{length-take-le, get_or-take}
use Rattle.machine.specs.Moved.{below}
use Rattle.machine.proofs.Below.{below-le, below-mono}
use Rattle.tally.specs.declared.Tags.{Tags}
use Rattle.tally.specs.declared.Tally.{Tally}
use Rattle.tally.specs.Figures.{Tag, var, structure, list, constant, of_tag, tags_by, has_tag, tagged}
use Rattle.tally.specs.Totals.{empty, hit, limit, with_read, with_kept, Room}
use Rattle.tally.specs.Parts.{in_heap, read_tally, kept_tally, Keepable}

-- what stands under a tag
pub of-by : (count : Tag → ℕ) (tag : Tag) → of_tag tag (tags_by count) ≡ count tag
of-by count var = refl
of-by count structure = refl
of-by count list = refl
of-by count constant = refl

-- counts that are known under each tag
pub tags-by : (tags : Tags) (count : Tag → ℕ) → ((tag : Tag) → of_tag tag tags ≡ count tag) → tags ≡ tags_by count
tags-by tags count e = λ i. record { var = e var i; structure = e structure i; list = e list i; constant = e constant i }

pub tagged-most : (heap : List ℕ) (set : ℕ → Bool) (tag : Tag) (count : ℕ) → tagged heap set tag count ≤ count
unfolding tagged
tagged-most heap set tag count = below-le (λ x. set x && has_tag tag (get_or heap x 0)) count

-- the words that a loop over the first ones of a list takes
module _ (words : List ℕ) (count : ℕ) (inside : count ≤ length words) (x : ℕ) where
  pub front-below : x < length (take count words) → x < count
  front-below l = omega (arith, length-take-le count words inside)

  pub front-word : x < length (take count words) → get_or (take count words) x 0 ≡ get_or words x 0
  front-word l = get_or-take count words x 0 (front-below l)

  pub front-end : x ≤ length (take count words) → length (take count words) ≤ x → x ≡ count
  front-end l m = omega (arith, length-take-le count words inside)

module _ (heap : List ℕ) where
  pub in-none : (tag : Tag) → in_heap heap 0 tag ≡ 0
  unfolding tagged below
  in-none tag = refl

  pub in-more : (x : ℕ) (tag : Tag) → in_heap heap (x + 1) tag ≡ in_heap heap x tag + hit (get_or heap x 0) tag
  unfolding tagged below
  in-more x tag = rw add-one

  pub in-mono : (x y : ℕ) (tag : Tag) → x ≤ y → in_heap heap x tag ≤ in_heap heap y tag
  unfolding tagged
  in-mono x y tag l = below-mono (λ x. has_tag tag (get_or heap x 0)) x y l

  pub read_none : read_tally heap 0 ≡ empty
  read_none = λ i. record {
    kept = empty.kept;
    dropped = tags_by (λ tag. in-none tag i);
    entries_kept = 0;
    entries_dropped = 0;
    points = 0;
    deepest = 0;
  }

  read_more : (x : ℕ) → read_tally heap (x + 1) ≡ with_read (read_tally heap x) (get_or heap x 0)
  read_more x = λ i. record {
    kept = empty.kept;
    dropped = tags_by (λ tag. in-more x tag i);
    entries_kept = 0;
    entries_dropped = 0;
    points = 0;
    deepest = 0;
  }

  pub read_next : (x : ℕ) {tally next : Tally} → tally ≡ read_tally heap x → next ≡ with_read tally (get_or heap x 0) → next ≡ read_tally heap (x + 1)
  read_next x e n = n ∙ ap (λ (t : Tally). with_read t (get_or heap x 0)) e ∙ sym (read_more x)

  pub read-room : (x : ℕ) → x + 1 < limit → Room (read_tally heap x).dropped
  read-room x l tag = omega (arith, tagged-most heap (λ y. true) tag x, of-by (in_heap heap x) tag)

  module _ (tally : Tally) where
    pub keep-none : kept_tally tally heap 0 ≡ tally
    keep-none = λ i. record {
      kept = tags_by (λ tag. none_kept tag i);
      dropped = tags_by (λ tag. none_dropped tag i);
      entries_kept = tally.entries_kept;
      entries_dropped = tally.entries_dropped;
      points = tally.points;
      deepest = tally.deepest;
    }
      where
        none_kept : (tag : Tag) → of_tag tag tally.kept + in_heap heap 0 tag ≡ of_tag tag tally.kept
        none_kept tag = omega (arith, in-none tag)

        none_dropped : (tag : Tag) → of_tag tag tally.dropped - in_heap heap 0 tag ≡ of_tag tag tally.dropped
        none_dropped tag = omega (arith, in-none tag)

    keep-more : (x : ℕ) → kept_tally tally heap (x + 1) ≡ with_kept (kept_tally tally heap x) (get_or heap x 0)
    keep-more x = λ i. record {
      kept = tags_by (λ tag. more-kept tag i);
      dropped = tags_by (λ tag. more-dropped tag i);
      entries_kept = tally.entries_kept;
      entries_dropped = tally.entries_dropped;
      points = tally.points;
      deepest = tally.deepest;
    }
      where
        more-kept : (tag : Tag) → of_tag tag tally.kept + in_heap heap (x + 1) tag ≡ of_tag tag tally.kept + in_heap heap x tag + hit (get_or heap x 0) tag
        more-kept tag = omega (arith, in-more x tag)

        more-dropped : (tag : Tag) → of_tag tag tally.dropped - in_heap heap (x + 1) tag ≡ of_tag tag tally.dropped - in_heap heap x tag - hit (get_or heap x 0) tag
        more-dropped tag = omega (arith, in-more x tag)

    pub keep-next : (x : ℕ) {so_far next : Tally} → so_far ≡ kept_tally tally heap x → next ≡ with_kept so_far (get_or heap x 0) → next ≡ kept_tally tally heap (x + 1)
    keep-next x e n = n ∙ ap (λ (t : Tally). with_kept t (get_or heap x 0)) e ∙ sym (keep-more x)

    module _ (count : ℕ) (k : Keepable tally heap count) (x : ℕ) (l : x < count) where
      pub keep-room : Room (kept_tally tally heap x).kept
      keep-room tag = omega (arith, tagged-most heap (λ y. true) tag x, of-by (λ t. of_tag t tally.kept + in_heap heap x t) tag, k.room tag)

      -- the next cell was read and is not kept yet
      pub keep_one : (tag : Tag) → hit (get_or heap x 0) tag ≤ of_tag tag (kept_tally tally heap x).dropped
      keep_one tag = omega (arith, of-by (λ t. of_tag t tally.dropped - in_heap heap x t) tag, in-more x tag, in-mono (x + 1) count tag (omega arith), k.enough tag)
