-- From the search to the answer: what it leaves can be traced, what it has not met is dead, and what is traced is the best chain. Assumes nothing.
use Prim.Native.Nat.{ℕ, ◌+◌, ◌<◌, ◌≤◌}
use mathlib.Core.Path.{◌≡◌, refl, sym, ◌∙◌, subst}
use mathlib.Core.List.{List, ◌++◌}
use native.Mathlib.Omega.{arith}
use lib.ListN.{length, get_or, drop}
use Rattle.cell.specs.Word.{value_of}
use Rattle.cell.proofs.Words.{extent-struct}
use Rattle.machine.specs.declared.Area.{Area}
use Rattle.machine.specs.Layout.{Image, H, reg, field, argument}
use Rattle.machine.specs.Roles.{note_at}
use Rattle.machine.specs.Refusals.{accepted, verdict}
use Rattle.machine.proofs.Lists.{In}
use Rattle.machine.proofs.Parts.{rest_at}
use Rattle.chains.specs.Notes.{Noted}
use Rattle.mark.specs.Marks.{Within, Markable, in_control, on_stack}
use Rattle.order.specs.Queue.{Path}
use Rattle.order.specs.Chains.{Best}
use Rattle.order.proofs.Sources.{in-at, at_in}
use Rattle.order.proofs.Paths.{path-exists}
use Rattle.order.proofs.Levels.{parent, path-length}
use Rattle.order.proofs.Roots.{Stands, stands-exists, path-chain, reached-met}
use Rattle.queue.specs.Filled.{met_bit, root_count, Filled}
use Rattle.collect.specs.Phases.{Reachable}
use Rattle.collect.proofs.Marking.{markable}
use Rattle.collect.proofs.Sliding.{noted-same}
use Rattle.std.specs.Prelude.{Some, None, Result, Ok, Err}
use Rattle.holder.specs.declared.Held.{Held}
use Rattle.holder.specs.declared.Untold.{Untold}
use Rattle.holder.specs.declared.Untold.TheVariants as untold
use Rattle.holder.specs.Answers.{Told, held, dead, said_of, Outcome, no_cell, is_dead, room_short, is_held}
use Rattle.holder.specs.Tracing.{entry_at, HasFunctor, Searched, Answered, short, found, Holds, Explained}
use Rattle.holder.proofs.Paths.{trace-path}
use Rattle.holder.proofs.Roots.{roots-of, root_stands}

-- a STRUCT whose cells are in the heap has its functor there
within-functor : {h : ℕ} (heap : List ℕ) (w : ℕ) → h ≤ length heap → Within h heap w → HasFunctor heap w
within-functor heap w l f t = omega (arith, f (value_of w) (omega (arith, extent-struct heap w t)))

module _ {control stack heap work work' : List ℕ} {tail : ℕ} (m : Markable control stack heap work) (f : Filled control stack heap work work' tail) where
  -- the search writes no note
  pub notes-stay : (i : ℕ) → note_at work' (length heap) i ≡ note_at work (length heap) i
  notes-stay i = rest_at (field control 0 H) work' work f.rest (length heap + i) (omega (arith, m.top))

  -- the cell at a place lies below H
  place-low : (i : ℕ) → i < tail → entry_at work' i < field control 0 H
  place-low i l = omega (arith, f.entries i l, f.low (get_or f.cells i 0) (at_in f.cells i (omega (arith, f.count))))

  pub searched : {x : ℕ} → In x f.cells → Searched control stack heap work' tail x
  searched {x} i =
      let p = in-at i in
      let low : p.0 < tail = omega (arith, p.1, f.count) in
      record {
        traceable = record {
          small = m.small;
          places = record {
            room = omega (arith, f.most, m.top, m.room, f.same);
            inside = λ k l. omega (arith, place-low k l, m.top);
            functor = λ k l. within-functor heap (get_or heap (entry_at work' k) 0) m.top (m.cells (entry_at work' k) (place-low k l));
          };
          top = f.levelled.top (omega (arith, f.queued.paired, f.count));
          parents = λ a b k l s o t.
              let u = parent f.queued f.levelled k (omega (arith, f.count)) s o t in
              let before : u.at < tail = omega (arith, u.high, s.low) in
              record { at = u.at; low = u.low; high = u.high; refers = rw (f.entries u.at before, f.entries k l) u.refers };
        };
        arguments = record {
          whole = m.arguments;
          functor = λ k l. within-functor heap (argument control 0 k) m.top (m.roots (argument control 0 k) (in_control k l));
        };
        cells = record {
          room = omega (arith, m.room, f.same);
          functor = λ k l e. within-functor heap (get_or stack k 0) m.top (m.roots (get_or stack k 0) (on_stack k l (sym (notes-stay k) ∙ e)));
        };
        at = p.0;
        low = low;
        there = f.entries p.0 low ∙ p.2;
      }

-- what is answered of a cell that the search has met
abbrev pub told : Result Held Untold → Told
told (Ok h) = Ok (Some h)
told (Err e) = Err e

pub can-mark : {X : Image} {work : List ℕ} → Reachable X work → Markable X.control X.stack X.heap work
can-mark r = markable r.accepted r.noted r.room r.blank

module _ {X : Image} {work work' : List ℕ} {tail : ℕ} (r : Reachable X work) (f : Filled X.control X.stack X.heap work work' tail) where
  noted-after : Noted X work' (length X.heap)
  noted-after = noted-same work' (length X.heap) (notes-stay (can-mark r) f) r.noted

  -- the cell at place j is x: so the path of the queue to it is the best chain to x
  best-at : {j s x : ℕ} {area : Area} {index : ℕ} {path : List ℕ} → j < tail → entry_at work' j ≡ x → Path (root_count X.control X.stack) f.cells f.from j s path
      → Stands X s area index → Best X x area index path
  best-at {j} {area = area} {index = index} {path = path} l e p t =
      subst (λ (y : ℕ). Best X y area index path) (sym (f.entries j l) ∙ e) (path-chain (roots-of r.accepted r.noted) f.queued p t)

  -- ---- the cases of the answer

  pub not-met-dead : {lent x : ℕ} {room : List ℕ} → verdict lent X ≡ accepted → x < reg X H → (met_bit (get_or work' x 0) ≡ 1 → ⊥) → Outcome X lent x room dead room
  not-met-dead {x = x} v l n = is_dead v l (λ h. n ((f.met x l).1 (reached-met (roots-of r.accepted r.noted) f.queued h)))

  pub answered-outcome : {lent x j : ℕ} {room : List ℕ} {answer : Result Held Untold} {room' : List ℕ} → verdict lent X ≡ accepted → x < reg X H → j < tail → entry_at work' j ≡ x
      → Answered X.control X.stack X.heap work' j room answer room' → Outcome X lent x room (said_of (told answer)) room'
  unfolding said_of
  answered-outcome {j = j} v l o e (short s) =
      let p = path-exists f.queued j (omega (arith, f.count)) in
      let t = stands-exists X p.0 in
      room_short v l (best-at o e p.2 t.2) (omega (arith, path-length f.queued f.levelled p.2))
  answered-outcome {lent = lent} {x = x} {room = room} v l o e (found {path = path} {root = root} s t g) =
      let p = trace-path f t o in
      let b = best-at o e p.1 (root_stands r.accepted noted-after (roots-of r.accepted r.noted) f.queued p.1 g) in
      let n = path-length f.queued f.levelled p.1 in
      subst (λ (k : ℕ). Outcome X lent x room (held root.area root.index k) (path ++ drop (length path) room)) n (is_held v l b (omega arith))

  pub explained-dead : {x : ℕ} {room : List ℕ} → x < reg X H → (met_bit (get_or work' x 0) ≡ 1 → ⊥) → Explained X x room work work' (Ok None) room
  unfolding said_of
  explained-dead l n = record { outcome = λ lent v. not-met-dead v l n; rest = f.rest; same = f.same }

  pub explained-held : {x : ℕ} {room : List ℕ} {answer : Result Held Untold} {room' : List ℕ} → x < reg X H → Holds X.control X.stack X.heap work' tail x room answer room'
      → Explained X x room work work' (told answer) room'
  explained-held l h = record { outcome = λ lent v. answered-outcome v l h.low h.there h.answered; rest = f.rest; same = f.same }

pub explained-none : {X : Image} {x : ℕ} {room work : List ℕ} → reg X H ≤ x → Explained X x room work work (Err untold.NoCell) room
unfolding said_of
explained-none l = record { outcome = λ lent v. no_cell v l; rest = refl; same = refl }
