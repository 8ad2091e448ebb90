-- What the reader of files, the answer and the lines promise, put together: the outcome of a telling in each of its two cases, and the output with the
-- text over its front. Assumes nothing.
use Prim.Native.Nat.{ℕ}
use mathlib.Core.Path.{◌≡◌, refl, sym, ◌∙◌, subst}
use mathlib.Core.List.{List}
use native.Mathlib.Omega.{arith}
use lib.ListN.{length}
use Rattle.machine.specs.Layout.{Image}
use Rattle.text.specs.Puts.{PutsShort}
use Rattle.freeze.specs.declared.AreaCounts.{AreaCounts}
use Rattle.freeze.specs.declared.FileRefusal.{FileRefusal}
use Rattle.freeze.specs.Thaw.{thaw_verdict, Thaws}
use Rattle.freeze.specs.RoundTrips.{just_stack}
use Rattle.freeze.proofs.VerdictLaws.{refusal-refuses}
use Rattle.freeze.proofs.ThawLaws.{accepted-answer}
use Rattle.std.specs.Prelude.{Ok, Err}
use Rattle.freeze.specs.Verdicts as files
use Rattle.listing.specs.Lines.{file_verdict_text}
use Rattle.listing.specs.Lists.{thawed, taken, line_most}
use Rattle.listing.proofs.Listings.{sets_over, bad-left, taken_is, thawed-is}
use Rattle.holder.specs.Answers.{Told, said_of, Explains}
use Rattle.telling.specs.Text.{said_text}
use Rattle.telling.specs.Tells.{Outcomes, bad_file, told, text_most, Tells}

module _ (file : List ℕ) (lent : Image) (work : List ℕ) (x : ℕ) (room : List ℕ) where
  abbrev leaves : List ℕ → Image → List ℕ → List ℕ → Type 0
  leaves text areas work' room' = Outcomes file lent work x room (record { text = text; areas = areas; work = work'; room = room' })

  tells-of : {output text output' : List ℕ} {r : ℕ} {areas : Image} {work' room' : List ℕ} → PutsShort (text_most room) output 0 text r output' → leaves text areas work' room'
      → Tells file lent work x room output r areas work' room' output'
  tells-of {output} {text} p o = record {
    text = text;
    outcome = o;
    most = p.short;
    answer = omega (arith, p.puts.next);
    written = p.puts.written ∙ sets_over output text;
  }

  refused-outcome : (v : files.FileVerdict) → thaw_verdict lent file ≡ v → (v ≡ files.accepted → ⊥) → leaves (file_verdict_text v) lent work room
  unfolding file_verdict_text
  refused-outcome files.accepted e n = absurd (n refl)
  refused-outcome (files.refused number offset) e n = bad_file number offset e

  pub tells-bad : (q : FileRefusal) (left : Image) → Thaws file lent (Err q) left → {output output' : List ℕ} {r : ℕ}
      → PutsShort line_most output 0 (file_verdict_text (files.verdict_of q)) r output' → Tells file lent work x room output r left work room output'
  tells-bad q left t p =
      let b = bad-left file lent work q left t in
      tells-of (record { puts = p.puts; short = omega (arith, p.short) })
      (subst (λ (Z : Image). leaves (file_verdict_text (files.verdict_of q)) Z work room) (sym b.1) (refused-outcome (files.verdict_of q) b.0 (refusal-refuses q)))

  module _ (n : AreaCounts) (areas : Image) (t : Thaws file lent (Ok n) areas) (why : Told) (work' room' : List ℕ) where
    said-outcome : {work'' : List ℕ} → Explains (just_stack n.stack areas) work x room why work' room' → work'' ≡ work' → leaves (said_text (just_stack n.stack areas) (said_of why) room') areas work'' room'
    said-outcome {work''} e s =
        let k = taken_is file lent work n areas t in
        let f = subst (λ (Z : Image). Explains Z work x room why work' room') k e in
        subst (λ (Z : Image). leaves (said_text Z (said_of why) room') areas work'' room') (sym k)
        (subst (λ (Z : Image). leaves (said_text (taken file lent) (said_of why) room') Z work'' room') (sym (thawed-is file lent work n areas t))
        (subst (λ (w : List ℕ). leaves (said_text (taken file lent) (said_of why) room') (thawed file lent) w room') (sym (s ∙ f.cleared))
        (told (said_of why) room' (accepted-answer file n t.answer).0 f.outcome)))

    -- the lines leave the work words as the answer did
    pub tells-said : {work'' : List ℕ} → Explains (just_stack n.stack areas) work x room why work' room' → work'' ≡ work' → length room' ≡ length room → {output output' : List ℕ} {r : ℕ}
        → PutsShort (text_most room') output 0 (said_text (just_stack n.stack areas) (said_of why) room') r output' → Tells file lent work x room output r areas work'' room' output'
    tells-said e s l p = tells-of (record { puts = p.puts; short = omega (arith, p.short) }) (said-outcome e s)
