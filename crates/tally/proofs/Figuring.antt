-- An image that was read and collected: what the functions on it require, and that together they count its figures. Assumes nothing.
use Prim.Native.Nat.{ℕ, ◌+◌, ◌-◌, max, ◌≤◌, ◌<◌}
use mathlib.Core.Path.{◌≡◌, sym, ap, ◌∙◌, subst}
use mathlib.Core.Bool.{not}
use mathlib.Core.List.{List, ◌++◌}
use native.Mathlib.Omega.{arith}
use lib.ListN.{length, get_or, take, drop, replicate, length-drop}
use lib.Seq.{get_or-take, get_or-drop}
use borrow.Rule.Slice.PartMut.{put_mid, put_same}
use Rattle.std.proofs.lemmas.List.{take_rest}
use Rattle.machine.specs.declared.Counts.{Counts}
use Rattle.machine.specs.Layout.{Image, E, B, H, fixed, reg, field, word}
use Rattle.machine.specs.Moved.{below, CollectedTo}
use Rattle.machine.specs.Chains.{walk}
use Rattle.machine.proofs.Accepted.{Accepted}
use Rattle.machine.proofs.Layouts.{stack-word}
use Rattle.machine.proofs.Below.{below-le}
use Rattle.machine.proofs.Moves.{Fate, fated, Reads, moved-reads}
use Rattle.tally.specs.declared.Tally.{Tally}
use Rattle.tally.specs.Figures.{Tag, of_tag, tags_by, tagged, points_in, chain_from, deepest_in, deepest_of, count_of, tally_of}
use Rattle.tally.specs.Parts.{in_heap, kept_tally, Keepable, with_trail, Chain, Points, Chained, Pointed, Memo, Notes, CountsChains, AfterCollection}
use Rattle.tally.proofs.Tagged.{of-by}
use Rattle.tally.proofs.Keeping.{tagged-split, kept-tags}
use Rattle.tally.proofs.Chains.{one-chain}
use Rattle.tally.proofs.Points.{one-points}
use Rattle.tally.proofs.Memos.{notes-cleared}
use Rattle.tally.proofs.Walking.{Alike, own-chain, all-points}

pub collected-reads : {X Y : Image} → Accepted X → (to : CollectedTo X Y) → Reads to.cells to.entries X Y
collected-reads {X} a to = subst (λ (Z : Image). Reads to.cells to.entries X Z) (sym to.leaves) (moved-reads to.cells to.entries X a)

module _ {read : Tally} {entries : Counts} {left : Image} {work : List ℕ} (a : AfterCollection read entries left work) where
  abbrev X : Image
  X = a.image

  reads : Reads a.to.cells a.to.entries X left
  reads = collected-reads a.accepted a.to

  pub control-fits : fixed ≤ length left.control
  control-fits = omega (arith, reads.control-length, a.accepted.sizes.least)

  new-top : field left.control 0 H ≡ below a.to.cells (reg X H)
  new-top = reads.register H

  pub heap-fits : field left.control 0 H ≤ length left.heap
  heap-fits = omega (arith, new-top, below-le a.to.cells (reg X H), a.accepted.fits.heap, reads.heap-length)

  kept-now : (tag : Tag) → in_heap left.heap (field left.control 0 H) tag ≡ tagged X.heap a.to.cells tag (reg X H)
  kept-now tag = ap (λ (n : ℕ). in_heap left.heap n tag) new-top ∙ kept-tags a.to.cells a.to.entries X left reads tag

  read_kept : (tag : Tag) → of_tag tag read.kept ≡ 0
  read_kept tag = ap (λ (t : Tally). of_tag tag t.kept) a.cells ∙ of-by (λ g. 0) tag

  read_dropped : (tag : Tag) → of_tag tag read.dropped ≡ in_heap X.heap (reg X H) tag
  read_dropped tag = ap (λ (t : Tally). of_tag tag t.dropped) a.cells ∙ of-by (in_heap X.heap (reg X H)) tag

  pub keepable : Keepable read left.heap (field left.control 0 H)
  keepable = record {
    room = λ tag. omega (arith, read_kept tag, heap-fits, reads.heap-length, a.accepted.sizes.heap);
    enough = λ tag. omega (arith, kept-now tag, read_dropped tag, tagged-split X.heap a.to.cells tag (reg X H));
  }

  alike : Alike X left.stack
  alike = record {
    same_length = reads.stack-length;
    same = λ i r p e. sym (stack-word left i) ∙ reads.role i r p ∙ ap (λ (f : Fate). fated (below a.to.cells) (below a.to.entries) f (word X i)) e;
  }

  chain-now : Chain left.stack (field left.control 0 E) (chain_from X (reg X E))
  chain-now = subst (λ (e : ℕ). Chain left.stack e (chain_from X (reg X E))) (sym (reads.register E)) (own-chain X a.accepted.linked left.stack alike)

  points-now : Points left.stack (field left.control 0 B) (points_in (walk X)) (deepest_in X (walk X))
  points-now = subst (λ (b : ℕ). Points left.stack b (points_in (walk X)) (deepest_in X (walk X))) (sym (reads.register B)) (all-points X a.accepted.linked left.stack alike)

  pub own-chained : Chained left.stack (field left.control 0 E)
  own-chained = record { frames = chain_from X (reg X E); chain = chain-now }

  pub all_pointed : Pointed left.stack (field left.control 0 B)
  all_pointed = record { points = points_in (walk X); frames = deepest_in X (walk X); chains = points-now }

  pub heap-words : length left.heap ≤ length work
  heap-words = omega (arith, a.room, reads.heap-length)

  -- the notes as they are lent: the work words behind the heap's
  abbrev pub behind : ℕ
  behind = length work - length left.heap

  abbrev pub notes-lent : List ℕ
  notes-lent = take behind (drop (length left.heap) work)

  blank : (i : ℕ) → i < length left.stack → get_or notes-lent i 0 ≡ 0
  blank i l =
      let k : i < behind = omega (arith, a.room, reads.heap-length, reads.stack-length) in
      get_or-take behind (drop (length left.heap) work) i 0 k ∙ get_or-drop (length left.heap) work i 0
      ∙ a.blank (length left.heap + i) (omega (arith, reads.heap-length, reads.stack-length))

  -- nothing is noted yet
  pub blank-memo : Memo left.stack notes-lent
  blank-memo = record {
    room = rw (take_rest work (length left.heap)) (omega (arith, length-drop (length left.heap) work, a.room, reads.heap-length, reads.stack-length));
    noted = λ e l p. absurd (omega (arith, blank e l));
  }

  -- the notes taken away again, the work words are as they were
  pub cleared : {notes' words : List ℕ} → Notes left.stack notes-lent notes' → words ≡ replicate (length left.stack - 0) 0 ++ drop (length left.stack) notes'
      → put_mid (length left.heap) behind work words ≡ work
  cleared {notes'} n e =
      let z : length left.stack - 0 ≡ length left.stack = omega arith in
      rw (e, z, notes-cleared notes-lent notes' n blank) (put_same (length left.heap) behind work)

  -- what is counted before the chains
  pub none_yet : {kept counted : Tally} → kept ≡ kept_tally read left.heap (field left.control 0 H) → counted ≡ with_trail kept entries → counted.points ≡ 0
  none_yet k e = ap (λ (t : Tally). t.points) e ∙ ap (λ (t : Tally). t.points) k ∙ ap (λ (t : Tally). t.points) a.cells

  figures-counted : {r : Tally} {notes notes' : List ℕ} → CountsChains left.control left.stack (with_trail (kept_tally read left.heap (field left.control 0 H)) entries) notes r notes'
      → r ≡ tally_of a.to.cells a.to.entries X
  unfolding tally_of count_of deepest_of
  figures-counted c = c.points.next ∙ (λ i. record {
    kept = tags_by (λ tag. kept-is tag i);
    dropped = tags_by (λ tag. dropped-is tag i);
    entries_kept = a.kept i;
    entries_dropped = a.dropped i;
    points = points-are i;
    deepest = deepest-is i;
  })
    where
      kept-is : (tag : Tag) → of_tag tag read.kept + in_heap left.heap (field left.control 0 H) tag ≡ tagged X.heap a.to.cells tag (reg X H)
      kept-is tag = omega (arith, read_kept tag, kept-now tag)

      dropped-is : (tag : Tag) → of_tag tag read.dropped - in_heap left.heap (field left.control 0 H) tag ≡ tagged X.heap (λ x. not (a.to.cells x)) tag (reg X H)
      dropped-is tag = omega (arith, read_dropped tag, kept-now tag, tagged-split X.heap a.to.cells tag (reg X H))

      found : (c.points.points ≡ points_in (walk X)) × (c.points.frames ≡ deepest_in X (walk X))
      found = one-points c.points.chains points-now

      points-are : read.points + 0 + c.points.points ≡ points_in (walk X)
      points-are = omega (arith, ap (λ (t : Tally). t.points) a.cells, found.0)

      deepest-is : max (max read.deepest c.own) c.points.frames ≡ max (chain_from X (reg X E)) (deepest_in X (walk X))
      deepest-is = omega (arith, ap (λ (t : Tally). t.deepest) a.cells, found.1, one-chain c.chain chain-now)

  pub figures-are : {kept counted r : Tally} {notes notes' : List ℕ} → kept ≡ kept_tally read left.heap (field left.control 0 H) → counted ≡ with_trail kept entries
      → CountsChains left.control left.stack counted notes r notes' → r ≡ tally_of a.to.cells a.to.entries X
  figures-are {r = r} {notes = notes} {notes' = notes'} k e c =
      figures-counted (subst (λ (t : Tally). CountsChains left.control left.stack t notes r notes') (e ∙ ap (λ (t : Tally). with_trail t entries) k) c)
