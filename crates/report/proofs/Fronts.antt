-- As much of each area as a file is read into: with it the file is refused as with all the room, and an accepted file fills it.
-- Assumes nothing.
use Prim.Native.Nat.{ℕ, ◌+◌, ◌≤◌, ◌<◌, min, max}
use mathlib.Core.Path.{◌≡◌, sym, ap, ◌∙◌, subst}
use mathlib.Core.Bool.{true}
use mathlib.Core.List.{List, ◌∷◌, ◌++◌}
use native.Mathlib.Omega.{arith}
use lib.ListN.{length, length-replicate}
use borrow.Author.Tests.{leb-true}
use Rattle.machine.specs.Layout.{Image, fixed, heap_most, stack_most, trail_most, arguments_most}
use Rattle.machine.specs.Refusals.{legal_sizes}
use Rattle.machine.proofs.Tests.{same_bool}
use Rattle.freeze.specs.declared.AreaCounts.{AreaCounts}
use Rattle.freeze.specs.declared.FileRefusal.TheVariants.{Sizes, Room}
use Rattle.freeze.specs.Kinds.{COUNTS}
use Rattle.freeze.specs.Verdicts.{accepted, verdict_of, gate, first_of}
use Rattle.freeze.specs.Records.{records_verdict}
use Rattle.freeze.specs.Thaw.{lengths_of, within, counts_in, agree, area_stages, end_stages, file_stages, thaw_verdict}
use Rattle.freeze.proofs.VerdictLaws.{first_of-passed}
use Rattle.freeze.proofs.RecordLaws.{passed-kind}
use Rattle.freeze.proofs.WordLaws.{records-passed}
use Rattle.freeze.proofs.ThawLaws.{both_true, Within, within-each, within_all, Passed, file-passed}
use Rattle.freeze.proofs.FreezeLaws.{legal-each, legal-all}
use Rattle.report.specs.First.{room_of, areas_of}
use Rattle.report.specs.Parts.{Sized, Fronts}
use Rattle.report.proofs.Firsts.{head, size_is}

pub room-sized : (lent : Image) → Sized (room_of lent)
unfolding room_of
room-sized lent = record { control = omega arith; stack = omega arith; heap = omega arith; trail = omega arith }

lengths-areas : (room : AreaCounts) → lengths_of (areas_of room) ≡ room
unfolding areas_of
lengths-areas room = λ i. record {
  control = length-replicate {A = ℕ} room.control 0 i;
  stack = length-replicate {A = ℕ} room.stack 0 i;
  heap = length-replicate {A = ℕ} room.heap 0 i;
  trail = length-replicate {A = ℕ} room.trail 0 i;
}

-- legal sizes, of areas of so many words
record LegalCounts (n : AreaCounts) : Type 0 where
  heap : n.heap ≤ heap_most
  stack : n.stack ≤ stack_most
  trail : n.trail ≤ trail_most
  least : fixed ≤ n.control
  most : n.control ≤ fixed + arguments_most

legal-counts : (X : Image) (n : AreaCounts) → lengths_of X ≡ n → legal_sizes X ≡ true → LegalCounts n
legal-counts X n e l =
    let g = legal-each X l in
    subst LegalCounts e (record { heap = g.heap; stack = g.stack; trail = g.trail; least = g.least; most = g.most })

counts-legal : (X : Image) (n : AreaCounts) → lengths_of X ≡ n → LegalCounts n → legal_sizes X ≡ true
counts-legal X n e l =
    let g = subst LegalCounts (sym e) l in
    legal-all X (record { heap = g.heap; stack = g.stack; trail = g.trail; least = g.least; most = g.most })

-- of the areas the verdict reads whether their sizes are legal and whether they have room
same-verdict : (file : List ℕ) (A B : Image) → legal_sizes A ≡ legal_sizes B → within (counts_in file) (lengths_of A) ≡ within (counts_in file) (lengths_of B)
    → thaw_verdict A file ≡ thaw_verdict B file
unfolding thaw_verdict
same-verdict file A B l w = λ i.
    first_of
    (gate (l i) (verdict_of Sizes)
    ∷ records_verdict file COUNTS 0 1
    ∷ gate (w i) (verdict_of Room)
    ∷ (area_stages (counts_in file) file ++ end_stages (counts_in file) file))

accepted-passed : (A : Image) (file : List ℕ) → thaw_verdict A file ≡ accepted → Passed (lengths_of A) (counts_in file) file
unfolding thaw_verdict
accepted-passed A file e = file-passed (lengths_of A) file (first_of-passed (gate (legal_sizes A) (verdict_of Sizes)) (file_stages (lengths_of A) file) e).1

module _ (room : AreaCounts) (sized : Sized room) (file : List ℕ) where
  abbrev n : AreaCounts
  n = counts_in file

  -- what an accepted file counts is within the room, and it has a control area
  accepted-counts : thaw_verdict (areas_of room) file ≡ accepted → Within n room × (fixed ≤ n.control) × (head ≤ length file)
  unfolding agree
  accepted-counts e =
      let p = accepted-passed (areas_of room) file e in
      let whole = passed-kind file COUNTS 0 (records-passed file COUNTS 0 0 p.counts).0 in (
        subst (λ (r : AreaCounts). Within n r) (lengths-areas room) (within-each n (lengths_of (areas_of room)) p.room),
        leb-true _ _ (both_true _ _ p.agrees).0,
        omega (arith, whole.1, size_is),
      )

  -- a file without a whole counts record is refused in any room
  pub fronts-short : length file < head → Fronts room file room
  fronts-short h = record {
    control = omega arith;
    stack = omega arith;
    heap = omega arith;
    trail = omega arith;
    same = λ F e.
        same-verdict file F (areas_of room)
        (same_bool _ _ (λ l. counts-legal (areas_of room) room (lengths-areas room) (legal-counts F room e l)) (λ l. counts-legal F room e (legal-counts (areas_of room) room (lengths-areas room) l)))
        (ap (within n) (e ∙ sym (lengths-areas room)));
    exact = λ e. absurd (omega (arith, (accepted-counts e).2));
  }

  -- the counted fronts, and of the control area its fixed part at least, as a legal one has
  abbrev pub counted : AreaCounts
  counted = record {
    control = min room.control (max fixed n.control);
    stack = min room.stack n.stack;
    heap = min room.heap n.heap;
    trail = min room.trail n.trail;
  }

  legal-same : (F : Image) → lengths_of F ≡ counted → legal_sizes F ≡ legal_sizes (areas_of room)
  legal-same F e =
      same_bool _ _
      (λ l.
      let g = legal-counts F counted e l in
      counts-legal (areas_of room) room (lengths-areas room) (record {
        heap = omega (arith, sized.heap);
        stack = omega (arith, sized.stack);
        trail = omega (arith, sized.trail);
        least = omega (arith, g.least);
        most = omega (arith, sized.control);
      }))
      (λ l.
      let g = legal-counts (areas_of room) room (lengths-areas room) l in
      counts-legal F counted e (record {
        heap = omega (arith, sized.heap);
        stack = omega (arith, sized.stack);
        trail = omega (arith, sized.trail);
        least = omega (arith, g.least);
        most = omega (arith, sized.control);
      }))

  within_same : within n counted ≡ within n room
  within_same =
      same_bool _ _
      (λ w.
      let g = within-each n counted w in
      within_all n room (record { control = omega (arith, g.control); stack = omega (arith, g.stack); heap = omega (arith, g.heap); trail = omega (arith, g.trail) }))
      (λ w.
      let g = within-each n room w in
      within_all n counted (record { control = omega (arith, g.control); stack = omega (arith, g.stack); heap = omega (arith, g.heap); trail = omega (arith, g.trail) }))

  counted-exact : Within n room → fixed ≤ n.control → counted ≡ n
  counted-exact w l =
      let c : counted.control ≡ n.control = omega (arith, w.control) in
      let s : counted.stack ≡ n.stack = omega (arith, w.stack) in
      let h : counted.heap ≡ n.heap = omega (arith, w.heap) in
      let t : counted.trail ≡ n.trail = omega (arith, w.trail) in
      λ i. record { control = c i; stack = s i; heap = h i; trail = t i }

  pub fronts-counted : Fronts room file counted
  fronts-counted = record {
    control = omega arith;
    stack = omega arith;
    heap = omega arith;
    trail = omega arith;
    same = λ F e. same-verdict file F (areas_of room) (legal-same F e) (ap (within n) e ∙ within_same ∙ ap (within n) (sym (lengths-areas room)));
    exact = λ e. let a = accepted-counts e in counted-exact a.0 a.1;
  }
