-- What `why_held` promises: a refused image is answered by its refusal, and an admitted one by its explanation. Assumes nothing.
use Rattle.std.specs.Prelude.{Ok, Err}
use Prim.Native.Nat.{ℕ}
use mathlib.Core.Path.{◌≡◌, sym, ◌∙◌, subst}
use mathlib.Core.Logic.{◌≢◌}
use mathlib.Core.List.{List}
use native.Mathlib.Omega.{arith}
use lib.ListN.{length, drop}
use Rattle.machine.specs.declared.Refusal.{Refusal}
use Rattle.machine.specs.Layout.{Image, H, reg}
use Rattle.machine.specs.Refusals.{Verdict, accepted, work_words, verdict}
use Rattle.machine.proofs.Verdicts.{verdict-iff, accepted-enough}
use Rattle.machine.proofs.Injective.{refusal-refuses}
use Rattle.machine.proofs.Works.{cleared_to, lent-cleared}
use Rattle.machine.proofs.Parts.{rest-later}
use Rattle.cells.specs.Cells.{checked_to}
use Rattle.admit.specs.Admits.{Admits}
use Rattle.collect.proofs.Collecting.{passes}
use Rattle.holder.specs.declared.Untold.TheVariants as untold
use Rattle.holder.specs.Answers.{Told, refusal, said_of, Outcome, refused_image, Explains}
use Rattle.holder.specs.Tracing.{Explained}

module _ {X : Image} {work work' : List ℕ} {x : ℕ} {room : List ℕ} where
  pub explains-refused : {r : Refusal} → Admits X work (Err r) work' → Explains X work x room (Err (untold.Image r)) work' room
  unfolding checked_to said_of
  explains-refused {r} a =
      let no : verdict (length work) X ≢ accepted = λ e. refusal-refuses r (a.gives ∙ e) in
      record {
        outcome = subst (λ (v : Verdict). Outcome X (length work) x room (refusal v) room) (sym a.gives) (refused_image no);
        cleared = a.refused no;
      }

  pub explains-passed : Admits X work (Ok tt) work' → {work'' room' last : List ℕ} {r : Told} → Explained X x room work' work'' r room' → last ≡ cleared_to X work'' → Explains X work x room r last room'
  explains-passed a {work''} e q =
      let v = (verdict-iff (length work) X).0 (passes a) in
      let behind : drop (work_words X) work'' ≡ drop (work_words X) work = rest-later (reg X H) work'' work' e.rest (work_words X) (omega (arith, v.0.fits.heap)) ∙ (a.passed (passes a)).rest in
      record {
        outcome = e.outcome (length work) (passes a);
        cleared = q ∙ lent-cleared X work work'' (accepted-enough (length work) X (passes a)) behind;
      }
