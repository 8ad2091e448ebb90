-- What the inner functions of the tally promise one another. No public promise cites this page. Assumes nothing.
use Rattle.std.specs.Prelude.{ℕ, suc, ◌+◌, ◌-◌, max, ◌≤◌, ◌<◌, ◌≡◌, ◌≢◌, true, Ok, Err, List, length, get_or}
use Rattle.std.specs.Coded.{Π_prop, le_prop}
use mathlib.Core.HLevel.{⊥_prop}
use native.Mathlib.Nat.{ℕ_set}
use Rattle.machine.specs.declared.Counts.{Counts}
use Rattle.machine.specs.declared.Refusal.{Refusal}
use Rattle.machine.specs.Layout.{Image, E, B, T, H, fixed, none, field, link_place, reg}
use Rattle.machine.specs.Refusals.{accepted, verdict, work_words}
use Rattle.machine.specs.Moved.{below, CollectedTo}
use Rattle.machine.specs.Answers.{verdict_of, work_after}
use Rattle.machine.proofs.Accepted.{Accepted}
use Rattle.chains.specs.Noting.{Kept}
use Rattle.tally.specs.declared.Tags.{Tags}
use Rattle.tally.specs.declared.Tally.{Tally}
use Rattle.tally.specs.declared.Uncounted.TheVariants as uncounted
use Rattle.tally.specs.Figures.{Tag, of_tag, tags_by, tagged, tally_of}
use Rattle.tally.specs.Totals.{empty, limit}
use Rattle.tally.specs.Counts.{Counted}

abbrev pub RoomFor : Tags → Tags → Type 0
RoomFor a b = (tag : Tag) → of_tag tag a + of_tag tag b < limit

-- the counts of a collection's trail entries; one chain more; one choice point more, with its chain
abbrev pub with_trail : Tally → Counts → Tally
with_trail tally entries = record {
  kept = tally.kept;
  dropped = tally.dropped;
  entries_kept = entries.kept;
  entries_dropped = entries.dropped;
  points = tally.points;
  deepest = tally.deepest;
}

abbrev pub with_chains : Tally → ℕ → ℕ → Tally
with_chains tally points frames = record {
  kept = tally.kept;
  dropped = tally.dropped;
  entries_kept = tally.entries_kept;
  entries_dropped = tally.entries_dropped;
  points = tally.points + points;
  deepest = max tally.deepest frames;
}

abbrev pub with_chain : Tally → ℕ → Tally
with_chain tally frames = with_chains tally 0 frames

abbrev pub with_point : Tally → ℕ → Tally
with_point tally frames = with_chains tally 1 frames

-- ---- the heap

-- how many of the first cells of a heap have a tag
abbrev pub in_heap : List ℕ → ℕ → Tag → ℕ
in_heap heap count tag = tagged heap (λ x. true) tag count

-- the first cells of a heap, read
abbrev pub read_tally : List ℕ → ℕ → Tally
read_tally heap count = record {
  kept = empty.kept;
  dropped = tags_by (in_heap heap count);
  entries_kept = 0;
  entries_dropped = 0;
  points = 0;
  deepest = 0;
}

-- of the cells that were read, the first cells of a heap kept
abbrev pub kept_tally : Tally → List ℕ → ℕ → Tally
kept_tally tally heap count = record {
  kept = tags_by (λ tag. of_tag tag tally.kept + in_heap heap count tag);
  dropped = tags_by (λ tag. of_tag tag tally.dropped - in_heap heap count tag);
  entries_kept = tally.entries_kept;
  entries_dropped = tally.entries_dropped;
  points = tally.points;
  deepest = tally.deepest;
}

pub record Keepable (tally : Tally) (heap : List ℕ) (count : ℕ) : Type 0 where
  pub room : (tag : Tag) → of_tag tag tally.kept + count < limit
  pub enough : (tag : Tag) → in_heap heap count tag ≤ of_tag tag tally.dropped

-- ---- the chains

abbrev pub link_in : List ℕ → ℕ → ℕ
link_in stack e = get_or stack (e + link_place) 0

-- a chain of so many frames from e, each inside the stack and above its parent
pub data Chain (stack : List ℕ) : ℕ → ℕ → Type 0 where
  nothing : {e : ℕ} → e ≡ none → Chain stack e 0
  frame : {e n : ℕ} → e ≢ none → e + link_place < length stack → (link_in stack e ≢ none → link_in stack e < e) → Chain stack (link_in stack e) n → Chain stack e (suc n)

-- there is one such chain at most
pub Chain-prop : {stack : List ℕ} {e n : ℕ} → IsProp (Chain stack e n)
Chain-prop (nothing p) (nothing q) = λ i. nothing (ℕ_set _ _ p q i)
Chain-prop (frame s l f c) (frame t m g d) = λ i. frame (Π_prop (λ _. ⊥_prop) s t i) (le_prop l m i) (Π_prop (λ _. le_prop) f g i) (Chain-prop c d i)

-- so many choice points from b, and so many frames in the largest of their chains
pub data Points (stack : List ℕ) : ℕ → ℕ → ℕ → Type 0 where
  nothing : {b : ℕ} → b ≡ none → Points stack b 0 0
  point : {b n points frames : ℕ} → b ≢ none → b + fixed ≤ length stack → (field stack b B ≢ none → field stack b B < b) → Chain stack (field stack b E) n
      → Points stack (field stack b B) points frames → Points stack b (suc points) (max n frames)

pub record Chained (stack : List ℕ) (e : ℕ) : Type 0 where
  pub frames : ℕ
  pub chain : Chain stack e frames

pub record Pointed (stack : List ℕ) (b : ℕ) : Type 0 where
  pub points : ℕ
  pub frames : ℕ
  pub chains : Points stack b points frames

-- the notes, a word for each stack word: what is noted of one is the length of the chain from it
pub record Memo (stack notes : List ℕ) : Type 0 where
  pub room : length stack ≤ length notes
  pub noted : (e : ℕ) → e < length stack → 0 < get_or notes e 0 → Chain stack e (get_or notes e 0)

pub Memo-prop : (stack notes : List ℕ) → IsProp (Memo stack notes)
Memo-prop stack notes a b = λ i. record { room = le_prop a.room b.room i; noted = Π_prop (λ _. Π_prop λ _. Π_prop λ _. Chain-prop) a.noted b.noted i }

-- notes are made, and no other word is written
pub record Notes (stack notes notes' : List ℕ) : Type 0 where
  pub memo : Memo stack notes'
  pub rest : Kept 0 (length stack) notes notes'

-- the chain from e, and what is noted of it
pub record Chains (stack : List ℕ) (e : ℕ) (notes : List ℕ) (n : ℕ) (notes' : List ℕ) : Type 0 where
  pub chain : Chain stack e n
  pub noted : Notes stack notes notes'

-- the choice points from b are counted
pub record CountsPoints (stack : List ℕ) (b : ℕ) (tally : Tally) (notes : List ℕ) (r : Tally) (notes' : List ℕ) : Type 0 where
  pub points : ℕ
  pub frames : ℕ
  pub chains : Points stack b points frames
  pub next : r ≡ with_chains tally points frames
  pub noted : Notes stack notes notes'

-- and the control area's own chain
pub record CountsChains (control stack : List ℕ) (tally : Tally) (notes : List ℕ) (r : Tally) (notes' : List ℕ) : Type 0 where
  pub own : ℕ
  pub chain : Chain stack (field control 0 E) own
  pub points : CountsPoints stack (field control 0 B) (with_chain tally own) notes r notes'

-- ---- one image

-- What stands when an image is read and collected: the image as it was read, what was read of it, and what the collector answered and left.
pub record AfterCollection (read : Tally) (entries : Counts) (left : Image) (work : List ℕ) : Type 0 where
  pub image : Image
  pub accepted : Accepted image
  pub to : CollectedTo image left
  pub cells : read ≡ read_tally image.heap (reg image H)
  pub kept : entries.kept ≡ below to.entries (reg image T)
  pub dropped : entries.dropped ≡ reg image T - below to.entries (reg image T)
  pub room : work_words image ≤ length work
  pub blank : (i : ℕ) → i < work_words image → get_or work i 0 ≡ 0

-- the image X, which is refused, or collected and counted
pub data CountsImage (X : Image) (work : List ℕ) : Counted → Image → List ℕ → Type 0 where
  refused_image : (refusal : Refusal) → verdict (length work) X ≡ verdict_of refusal → CountsImage X work (Err (uncounted.Image refusal)) X (work_after X work)
  counted : (Y : Image) → verdict (length work) X ≡ accepted → (to : CollectedTo X Y)
      → CountsImage X work (Ok (tally_of to.cells to.entries X)) Y (work_after X work)
