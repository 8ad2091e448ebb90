-- One image: what the collector's answer says of it, and that the figures are counted in the image as it was read. Assumes nothing.
use Rattle.std.specs.Prelude.{Ok, Err}
use Prim.Native.Nat.{ℕ}
use mathlib.Core.Path.{◌≡◌, refl, sym, ap, ◌∙◌, subst}
use mathlib.Core.Bool.{Bool}
use mathlib.Core.List.{List, ◌++◌}
use native.Mathlib.Omega.{arith}
use lib.ListN.{length, drop, replicate, length-append, length-drop, length-replicate, get_or-replicate, get_or-append}
use Rattle.machine.specs.declared.Refusal.{Refusal}
use Rattle.machine.specs.declared.Collected.{Collected}
use Rattle.machine.specs.Layout.{Image, H, reg}
use Rattle.machine.specs.Refusals.{Verdict, accepted, refused, verdict, work_words}
use Rattle.machine.specs.Answers.{Answer, answer_of, counted, verdict_of, pick_words, work_after, Collects}
use Rattle.machine.proofs.Firsts.{refused-not}
use Rattle.machine.proofs.Checks.{enough-iff}
use Rattle.machine.proofs.Injective.{refusal-refuses}
use Rattle.machine.proofs.Verdicts.{verdict-accepted}
use Rattle.tally.specs.declared.Tally.{Tally}
use Rattle.tally.specs.declared.Uncounted.TheVariants as uncounted
use Rattle.tally.specs.Figures.{tally_of}
use Rattle.tally.specs.Parts as parts
use Rattle.tally.specs.Parts.{read_tally, AfterCollection, CountsImage}

module _ {X Y : Image} {work work' : List ℕ} where
  -- an answer that is no refusal
  module _ {done : Collected} (c : Collects X work (Ok done) Y work') where
    pub done-accepted : verdict (length work) X ≡ accepted
    unfolding answer_of
    done-accepted = by (verdict (length work) X) refl
      where
        by : (v : Verdict) → verdict (length work) X ≡ v → verdict (length work) X ≡ accepted
        by accepted e = e
        by (refused n p) e = sym (ap (λ (a : Answer). a.verdict) (c.refused (λ q. refused-not n p (sym e ∙ q))).0)

    -- the work words are blank, and long enough
    blank-words : work' ≡ replicate (work_words X) 0 ++ drop (work_words X) work
    unfolding work_after
    blank-words =
        let v = verdict-accepted (length work) X done-accepted in
        c.cleared ∙ ap (λ (b : Bool). pick_words b (replicate (work_words X) 0 ++ drop (work_words X) work) work) ((enough-iff X (length work)).1 (v.0.sizes, v.1))

    pub after-collection : {read : Tally} → read ≡ read_tally X.heap (reg X H) → AfterCollection read done.entries Y work'
    unfolding answer_of counted
    after-collection e =
        let v = verdict-accepted (length work) X done-accepted in
        let d = c.collected done-accepted in
        let long = length-replicate {A = ℕ} (work_words X) 0 in
        record {
          image = X;
          accepted = v.0;
          to = d.0;
          cells = e;
          kept = ap (λ (a : Answer). a.entries_kept) d.1;
          dropped = ap (λ (a : Answer). a.entries_dropped) d.1;
          room = rw blank-words (simp (length-append, length-drop, length-replicate {A = ℕ} (work_words X) 0) (omega arith));
          blank = λ i l. rw blank-words (get_or-append (replicate (work_words X) 0) (drop (work_words X) work) 0 i (rw long l) ∙ get_or-replicate (work_words X) i 0 0 l);
        }

    pub image-counted : {read tally : Tally} {work'' : List ℕ} → read ≡ read_tally X.heap (reg X H)
        → ((a : AfterCollection read done.entries Y work') → tally ≡ tally_of a.to.cells a.to.entries a.image) → work'' ≡ work'
        → CountsImage X work (Ok tally) Y work''
    unfolding after-collection
    image-counted {tally = tally} e f w =
        let d = c.collected done-accepted in
        subst (λ (u : List ℕ). CountsImage X work (Ok tally) Y u) (sym (w ∙ c.cleared))
        (subst (λ (t : Tally). CountsImage X work (Ok t) Y (work_after X work)) (sym (f (after-collection e))) (parts.counted Y done-accepted d.0))

  -- a refusal
  module _ {q : Refusal} (c : Collects X work (Err q) Y work') where
    refused-given : (verdict (length work) X ≡ verdict_of q) × (Y ≡ X)
    unfolding answer_of counted
    refused-given = by (verdict (length work) X) refl
      where
        by : (v : Verdict) → verdict (length work) X ≡ v → (verdict (length work) X ≡ verdict_of q) × (Y ≡ X)
        by accepted e = absurd (refusal-refuses q (ap (λ (a : Answer). a.verdict) (c.collected e).1))
        by (refused n p) e = let d = c.refused (λ z. refused-not n p (sym e ∙ z)) in (sym (ap (λ (a : Answer). a.verdict) d.0), d.1)

    pub image-refused : CountsImage X work (Err (uncounted.Image q)) Y work'
    image-refused =
        subst (λ (u : List ℕ). CountsImage X work (Err (uncounted.Image q)) Y u) (sym c.cleared)
        (subst (λ (Z : Image). CountsImage X work (Err (uncounted.Image q)) Z (work_after X work)) (sym refused-given.1) (parts.refused_image q refused-given.0))
