-- From phase to phase: what is marked and counted can be slid, and what is slid is the collection. Assumes nothing.
use Rattle.std.specs.Prelude.{Ok}
use Prim.Native.Nat.{ℕ, ◌+◌, ◌-◌, ◌≤◌}
use mathlib.Core.Path.{◌≡◌, sym, ap, ◌∙◌}
use mathlib.Core.List.{List}
use native.Mathlib.Omega.{arith}
use borrow.Author.Tests.{ltb-true, lt-ltb}
use lib.ListN.{length, get_or}
use Rattle.machine.specs.Layout.{Image, T, H, reg}
use Rattle.machine.specs.Refusals.{accepted}
use Rattle.machine.specs.Moved.{below, move_word, each, close_up, CollectedTo}
use Rattle.machine.specs.Answers.{answer_of, counted}
use Rattle.machine.proofs.Below.{below-le}
use Rattle.machine.proofs.Moves.{moved-is}
use Rattle.machine.proofs.Parts.{rest_at}
use Rattle.counts.specs.Counts.{marked_in, Counted}
use Rattle.mark.specs.Marks.{MarksReached}
use Rattle.slide.specs.Slides.{entries_of, move_cell, move_control_word, TrailSlid}
use Rattle.collect.specs.Phases.{Reachable, Slidable, Reaches, Closes}
use Rattle.collect.proofs.Marking.{marks-reached}
use Rattle.collect.proofs.Sliding.{noted-same, Parted}
use Rattle.collect.proofs.Joining.{exact-entries, stack-joined, control-joined}

pub reaches : {X : Image} {work work₂ work₃ : List ℕ} {n : ℕ} → Reachable X work → MarksReached X.control X.stack X.heap work work₂ → Counted work₂ (reg X H) work₃ n → Reaches X work work₃ n
reaches {X} {work} {work₂} {work₃} {n} r m k =
    let exactly = marks-reached r.accepted r.noted m in
    let rest = k.rest ∙ m.rest in
    record {
      slidable = record {
        accepted = r.accepted;
        room = omega (arith, r.room, k.same, m.same);
        cells = marked_in work₂;
        exact = λ x l. (λ e. (exactly x l).0 (ltb-true 0 (get_or work₂ x 0) e), λ p. lt-ltb 0 (get_or work₂ x 0) ((exactly x l).1 p));
        counting = k.counting;
        total = k.total;
        noted = noted-same work₃ (length X.heap) (λ i. rest_at (reg X H) work₃ work rest (length X.heap + i) (omega (arith, r.accepted.fits.heap))) r.noted;
      };
      rest = rest;
      same = k.same ∙ m.same;
    }

-- the four numbers of an answer
answered : (h t n k : ℕ) {c e : ℕ} → n ≡ c → k ≡ e → answer_of (Ok (record { cells = record { kept = n; dropped = h - n }; entries = record { kept = k; dropped = t - k } })) ≡ record { verdict = accepted; cells_kept = c; cells_dropped = h - c; entries_kept = e; entries_dropped = t - e }
unfolding answer_of
answered h t n k p q = rw (p, q)

pub total-low : {X : Image} {work : List ℕ} {n : ℕ} → Slidable X work n → n ≤ reg X H
total-low {X} s = omega (arith, s.total, below-le s.cells (reg X H))

module _ {X : Image} {work : List ℕ} {n : ℕ} (s : Slidable X work n) {counts notes : List ℕ} (k : Parted X s.cells counts notes) where
  -- how many cells are kept, by the counts
  pub counted-total : n ≡ below s.cells (length counts)
  counted-total = s.total ∙ ap (below s.cells) (sym k.top)

  -- what the four passes leave
  pub record Passes (control stack heap trail : List ℕ) (kept : ℕ) : Type 0 where
    pub stack₁ : List ℕ
    pub slid : TrailSlid s.cells X.trail X.stack notes (reg X T) trail stack₁ kept
    pub stack_is : stack ≡ each (move_cell s.cells notes) 0 stack₁
    pub control-is : control ≡ each (move_control_word s.cells n kept X.control) 0 X.control
    pub heap_is : heap ≡ close_up s.cells (move_word (below s.cells)) (length counts) X.heap

  pub collected-to : (control stack heap trail : List ℕ) (kept : ℕ) → Passes control stack heap trail kept → CollectedTo X (record { control = control; stack = stack; heap = heap; trail = trail })
  collected-to control stack heap trail kept p = record {
    cells = s.cells;
    entries = entries_of s.cells notes X.trail;
    exact_cells = s.exact;
    exact_entries = exact-entries s.accepted s.cells s.exact k.noted;
    leaves = moved-is s.cells (entries_of s.cells notes X.trail) X (record { control = control; stack = stack; heap = heap; trail = trail })
        (p.control-is ∙ control-joined s.accepted s.cells s.exact k.noted (entries_of s.cells notes X.trail) n kept s.total p.slid.kept)
        (p.stack_is ∙ ap (each (move_cell s.cells notes) 0) p.slid.fields ∙ stack-joined s.accepted s.cells s.exact k.noted (entries_of s.cells notes X.trail))
        (p.heap_is ∙ ap (λ (h : ℕ). close_up s.cells (move_word (below s.cells)) h X.heap) k.top)
        p.slid.entries;
  }

  -- the counts that are answered
  pub closes : (control stack heap trail : List ℕ) (kept : ℕ) → Passes control stack heap trail kept → Closes X (record { control = control; stack = stack; heap = heap; trail = trail }) (record { cells = record { kept = n; dropped = reg X H - n }; entries = record { kept = kept; dropped = reg X T - kept } })
  unfolding counted collected-to
  closes control stack heap trail kept p = record {
    to = collected-to control stack heap trail kept p;
    answer = answered (reg X H) (reg X T) n kept s.total p.slid.kept;
  }

  pub kept_low : {trail stack : List ℕ} {kept : ℕ} → TrailSlid s.cells X.trail X.stack notes (reg X T) trail stack kept → kept ≤ reg X T
  kept_low t = omega (arith, t.kept, below-le (entries_of s.cells notes X.trail) (reg X T))
