-- One file: a bad file, a refused image and a counted one, each with what is promised of it. Assumes nothing.
use Rattle.std.specs.Prelude.{Ok, Err}
use Prim.Native.Nat.{ℕ, ◌≤◌}
use mathlib.Core.Path.{◌≡◌, sym, ap, ◌∙◌, subst}
use mathlib.Core.List.{List}
use native.Mathlib.Omega.{arith}
use lib.ListN.{length}
use lib.Seq.{length-take-le}
use Rattle.machine.specs.Layout.{Image, H, fixed, reg}
use Rattle.machine.specs.Answers.{work_after}
use Rattle.freeze.specs.declared.AreaCounts.{AreaCounts}
use Rattle.freeze.specs.declared.FileRefusal.{FileRefusal}
use Rattle.freeze.specs.Verdicts as files
use Rattle.freeze.specs.Thaw.{counts_of, lengths_of, counts_in, filled, thaw_verdict, Thaws}
use Rattle.freeze.specs.RoundTrips.{Bytes, just_stack}
use Rattle.freeze.proofs.ThawLaws.{within-each, accepted-answer, thaws-filled}
use Rattle.freeze.proofs.WriteAgain.{counts_same}
use Rattle.listing.specs.Lists.{thawed, taken, joined}
use Rattle.listing.proofs.Listings.{join-back, bad-left, taken_is, thawed-is, read_fits}
use Rattle.tally.specs.declared.Uncounted.TheVariants as uncounted
use Rattle.tally.specs.Parts.{CountsImage, refused_image, counted}
use Rattle.tally.specs.Counts as counts
use Rattle.tally.specs.Counts.{Counted, CountsFile}

module _ (file : List ℕ) (lent : Image) (work : List ℕ) where
  pub file-bad : (q : FileRefusal) (left : Image) → Thaws file lent (Err q) left → CountsFile file lent work (Err (uncounted.File q)) left work
  file-bad q left t = let b = bad-left file lent work q left t in subst (λ (Z : Image). CountsFile file lent work (Err (uncounted.File q)) Z work) (sym b.1) (counts.bad_file q b.0)

  module _ (ok : thaw_verdict lent file ≡ files.accepted) where
    image-file : {r : Counted} {Y : Image} {work' : List ℕ} → CountsImage (taken file lent) work r Y work' → CountsFile file lent work r (joined (thawed file lent) Y) work'
    image-file (refused_image q v) =
        subst (λ (Z : Image). CountsFile file lent work (Err (uncounted.Image q)) Z (work_after (taken file lent) work)) (sym (join-back (counts_in file).stack (thawed file lent)))
        (counts.refused_image q ok v)
    image-file (counted Y v to) = counts.counted Y ok v to

  module _ (n : AreaCounts) (areas : Image) (t : Thaws file lent (Ok n) areas) where
    -- what is read fits the areas
    pub stack-fits : length areas.stack ≡ length lent.stack → n.stack ≤ length areas.stack
    stack-fits e = omega (arith, (read_fits file lent work n areas t).0, e)

    pub control-fits : length areas.control ≡ length lent.control → fixed ≤ length areas.control
    control-fits e = omega (arith, (read_fits file lent work n areas t).1, e)

    pub heap-fits : Bytes file → n.stack ≤ length areas.stack → length areas.heap ≡ length lent.heap → reg areas H ≤ length areas.heap
    unfolding filled counts_of
    heap-fits bytes s e =
        let a = thaws-filled file lent n areas t in
        let c = counts_same file bytes n a.1 (lengths_of lent) a.2 (just_stack n.stack areas) lent.control (ap (λ (Z : Image). Z.control) a.3) (length-take-le n.stack areas.stack s) in
        omega (arith, ap (λ (m : AreaCounts). m.heap) c, (within-each n (lengths_of lent) a.2.room).heap, e)

    pub file-counted : {r : Counted} {Y left : Image} {work' : List ℕ} → CountsImage (just_stack n.stack areas) work r Y work' → left ≡ joined areas Y → CountsFile file lent work r left work'
    file-counted {r} {Y} {left} {work'} c e =
        subst (λ (Z : Image). CountsFile file lent work r Z work') (sym (e ∙ ap (λ (Z : Image). joined Z Y) (thawed-is file lent work n areas t)))
        (image-file (accepted-answer file n t.answer).0 (subst (λ (Z : Image). CountsImage Z work r Y work') (taken_is file lent work n areas t) c))
