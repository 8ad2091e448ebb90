-- What the reader of files, the collector and the lines promise, put together: the outcome of a listing in each of its three cases, and
-- the output with the text over its front. Assumes nothing.
use Prim.Native.Nat.{ℕ, zero, suc, ◌≤◌}
use mathlib.Core.Path.{◌≡◌, refl, sym, ap, ◌∙◌, subst}
use mathlib.Core.List.{List, [], ◌∷◌, ◌++◌}
use native.Mathlib.Omega.{arith}
use lib.ListN.{length, take, set}
use lib.Seq.{sets, take_all, length-take-le}
use Rattle.machine.specs.declared.Refusal.{Refusal}
use Rattle.machine.specs.declared.Collected.{Collected}
use Rattle.machine.specs.Layout.{Image, fixed}
use Rattle.machine.specs.declared.Refusal.TheVariants.{Sizes, Registers, Chain, Roles, Bits, Reference, Entry, First, NoChoicePoint, ControlShort}
use Rattle.machine.specs.Refusals.{Where, nowhere, Verdict, accepted, refused, verdict}
use Rattle.machine.specs.Answers.{Answer, place_in, verdict_of, answer_of, counted, work_after, Collects}
use Rattle.freeze.specs.declared.AreaCounts.{AreaCounts}
use Rattle.freeze.specs.declared.FileRefusal.{FileRefusal}
use Rattle.std.specs.Prelude.{Ok, Err}
use Rattle.freeze.specs.Verdicts as files
use Rattle.freeze.specs.Thaw.{counts_in, image_in, filled, front, thaw_verdict, Thaws}
use Rattle.freeze.specs.RoundTrips.{just_stack}
use Rattle.freeze.proofs.VerdictLaws.{refusal-refuses, if_accepted-refusal}
use Rattle.freeze.proofs.ThawLaws.{within-each, refused-answer, accepted-answer, thaws-filled}
use Rattle.freeze.proofs.FreezeLaws.{legal-each}
use Rattle.listing.specs.Text.{collected_text}
use Rattle.text.specs.Puts.{Puts, PutsShort}
use Rattle.text.proofs.Puttings.{puts-same}
use Rattle.listing.specs.Lines.{verdict_text, file_verdict_text}
use Rattle.listing.specs.Lists.{thawed, taken, joined, Outcomes, bad_file, refused_image, collected, over, line_most, text_most, Lists, CountsBytes}

-- a text put from the start is over the front
sets-later : (o : ℕ) (os : List ℕ) (i : ℕ) (text : List ℕ) → sets (o ∷ os) (suc i) text ≡ o ∷ sets os i text
sets-later o os i [] = refl
sets-later o os i (b ∷ bs) = sets-later o (set os i b) (suc i) bs

sets-nothing : (i : ℕ) (text : List ℕ) → sets {A = ℕ} [] i text ≡ []
sets-nothing i [] = refl
sets-nothing i (b ∷ bs) = sets-nothing (suc i) bs

pub sets_over : (output text : List ℕ) → sets output 0 text ≡ over output text
sets_over output [] = ap (λ (l : List ℕ). l ++ output) (sym (take_all (length output) [] (omega arith)))
sets_over [] (b ∷ bs) = sets-nothing 1 bs
sets_over (o ∷ os) (b ∷ bs) = sets-later b os 0 bs ∙ ap (λ (l : List ℕ). b ∷ l) (sets_over os bs)

module _ {output text : List ℕ} {r : ℕ} {left : List ℕ} (p : Puts output 0 text r left) where
  pub puts-counts : CountsBytes r left
  puts-counts =
      let s = puts-same p in
      let h : r ≤ length left = omega (arith, p.next) in
      (h, sym (length-take-le r left h))

  puts-lists : (file : List ℕ) (lent : Image) (work : List ℕ) (areas : Image) (work' : List ℕ)
      → Outcomes file lent work (record { text = text; areas = areas; work = work' }) → length text ≤ text_most lent → Lists file lent work output r areas work' left
  puts-lists file lent work areas work' o m = record {
    text = text;
    outcome = o;
    most = m;
    answer = omega (arith, p.next);
    written = p.written ∙ sets_over output text;
  }

front-back : (n : ℕ) (l : List ℕ) → front l (take n l) ≡ l
front-back zero l = refl
front-back (suc n) [] = refl
front-back (suc n) (x ∷ l) = ap (λ (m : List ℕ). x ∷ m) (front-back n l)

pub accepted-refused : {number : ℕ} {place : Where} → accepted ≡ refused number place → ⊥
accepted-refused e = let z : ◌≡◌ {A = ℕ} 0 1 = cc in omega arith

pub refusal-numbered : (q : Refusal) → (number : ℕ) × (place : Where) × (verdict_of q ≡ refused number place)
unfolding verdict_of
refusal-numbered Sizes = (1, nowhere, refl)
refusal-numbered Registers = (2, nowhere, refl)
refusal-numbered (Chain p) = (3, place_in p, refl)
refusal-numbered (Roles p) = (4, place_in p, refl)
refusal-numbered (Bits p) = (5, place_in p, refl)
refusal-numbered (Reference p) = (6, place_in p, refl)
refusal-numbered (Entry p) = (7, place_in p, refl)
refusal-numbered (First p) = (17, place_in p, refl)
refusal-numbered NoChoicePoint = (8, nowhere, refl)
refusal-numbered ControlShort = (9, nowhere, refl)

-- the front of a stack put back where it was
pub join-back : (n : ℕ) (areas : Image) → joined areas (just_stack n areas) ≡ areas
unfolding joined
join-back n areas = λ i. record { control = areas.control; stack = front-back n areas.stack i; heap = areas.heap; trail = areas.trail }

module _ (file : List ℕ) (lent : Image) (work : List ℕ) where
  refused-outcome : (v : files.FileVerdict) → thaw_verdict lent file ≡ v → (v ≡ files.accepted → ⊥) → Outcomes file lent work (record { text = file_verdict_text v; areas = lent; work = work })
  unfolding file_verdict_text
  refused-outcome files.accepted e n = absurd (n refl)
  refused-outcome (files.refused number offset) e n = bad_file number offset e

  -- a bad file changes nothing
  pub bad-left : (q : FileRefusal) (left : Image) → Thaws file lent (Err q) left → (thaw_verdict lent file ≡ files.verdict_of q) × (left ≡ lent)
  bad-left q left t =
      let e = refused-answer file q t.answer in
      (e, t.areas ∙ ap (λ (v : files.FileVerdict). files.if_accepted v (thawed file lent) lent) e ∙ if_accepted-refusal {A = Image} q _ _)

  outcome-bad : (q : FileRefusal) (left : Image) → Thaws file lent (Err q) left
      → Outcomes file lent work (record { text = file_verdict_text (files.verdict_of q); areas = left; work = work })
  outcome-bad q left t =
      let b = bad-left q left t in
      subst (λ (Z : Image). Outcomes file lent work (record { text = file_verdict_text (files.verdict_of q); areas = Z; work = work })) (sym b.1)
      (refused-outcome (files.verdict_of q) b.0 (refusal-refuses q))

  -- what was collected is what was read, with the counted front of the stack
  pub taken_is : (n : AreaCounts) (areas : Image) → Thaws file lent (Ok n) areas → just_stack n.stack areas ≡ taken file lent
  taken_is n areas t =
      let a = thaws-filled file lent n areas t in
      ap (just_stack n.stack) a.3 ∙ ap (λ (m : AreaCounts). just_stack m.stack (filled lent (image_in m file))) a.1

  pub thawed-is : (n : AreaCounts) (areas : Image) → Thaws file lent (Ok n) areas → areas ≡ thawed file lent
  thawed-is n areas t =
      let a = thaws-filled file lent n areas t in
      a.3 ∙ ap (λ (m : AreaCounts). filled lent (image_in m file)) a.1

  module _ (ok : thaw_verdict lent file ≡ files.accepted) (Y : Image) (work' : List ℕ) where
    abbrev leaves : List ℕ → Image → List ℕ → Type 0
    leaves text areas w = Outcomes file lent work (record { text = text; areas = areas; work = w })

    done-by : (v : Verdict) → verdict (length work) (taken file lent) ≡ v → (done : Collected) → Collects (taken file lent) work (Ok done) Y work'
        → leaves (collected_text (answer_of (Ok done)) Y) (joined (thawed file lent) Y) work'
    unfolding answer_of
    done-by accepted e done c =
        let d = c.collected e in
        subst (λ (w : List ℕ). leaves (collected_text (answer_of (Ok done)) Y) (joined (thawed file lent) Y) w) (sym c.cleared)
        (subst (λ (a : Answer). leaves (collected_text a Y) (joined (thawed file lent) Y) (work_after (taken file lent) work)) (sym d.1) (collected Y ok e d.0))
    done-by (refused number place) e done c =
        let d = c.refused (λ q. accepted-refused (sym q ∙ e)) in
        absurd (accepted-refused (ap (λ (a : Answer). a.verdict) d.0 ∙ e))

    refused-by : (v : Verdict) → verdict (length work) (taken file lent) ≡ v → (q : Refusal) → Collects (taken file lent) work (Err q) Y work'
        → leaves (verdict_text (verdict_of q)) (joined (thawed file lent) Y) work'
    unfolding answer_of counted verdict_text
    refused-by accepted e q c =
        let d = c.collected e in
        let n = refusal-numbered q in
        absurd (accepted-refused (sym (ap (λ (a : Answer). a.verdict) d.1) ∙ n.2))
    refused-by (refused number place) e q c =
        let d = c.refused (λ q. accepted-refused (sym q ∙ e)) in
        let s : joined (thawed file lent) Y ≡ thawed file lent = ap (joined (thawed file lent)) d.1 ∙ join-back (counts_in file).stack (thawed file lent) in
        subst (λ (w : List ℕ). leaves (verdict_text (verdict_of q)) (joined (thawed file lent) Y) w) (sym c.cleared)
        (subst (λ (Z : Image). leaves (verdict_text (verdict_of q)) Z (work_after (taken file lent) work)) (sym s)
        (subst (λ (v : Verdict). leaves (verdict_text v) (thawed file lent) (work_after (taken file lent) work)) (sym (ap (λ (a : Answer). a.verdict) d.0 ∙ e))
        (refused_image number place ok e)))

  module _ (n : AreaCounts) (areas : Image) (t : Thaws file lent (Ok n) areas) (Y : Image) (work' : List ℕ) where
    read_ok : thaw_verdict lent file ≡ files.accepted
    read_ok = (accepted-answer file n t.answer).0

    -- a collection
    outcome-done : (done : Collected) → Collects (just_stack n.stack areas) work (Ok done) Y work'
        → Outcomes file lent work (record { text = collected_text (answer_of (Ok done)) Y; areas = joined areas Y; work = work' })
    outcome-done done c =
        subst (λ (Z : Image). Outcomes file lent work (record { text = collected_text (answer_of (Ok done)) Y; areas = joined Z Y; work = work' })) (sym (thawed-is n areas t))
        (done-by read_ok Y work' _ refl done (subst (λ (Z : Image). Collects Z work (Ok done) Y work') (taken_is n areas t) c))

    -- a refused image
    outcome-refused : (q : Refusal) → Collects (just_stack n.stack areas) work (Err q) Y work'
        → Outcomes file lent work (record { text = verdict_text (verdict_of q); areas = joined areas Y; work = work' })
    outcome-refused q c =
        subst (λ (Z : Image). Outcomes file lent work (record { text = verdict_text (verdict_of q); areas = joined Z Y; work = work' })) (sym (thawed-is n areas t))
        (refused-by read_ok Y work' _ refl q (subst (λ (Z : Image). Collects Z work (Err q) Y work') (taken_is n areas t) c))

    pub lists-done : (done : Collected) (shown left : Image) → shown ≡ Y → left ≡ joined areas Y → text_most shown ≤ text_most lent
        → Collects (just_stack n.stack areas) work (Ok done) Y work'
        → {output output' : List ℕ} {r : ℕ} → PutsShort (text_most shown) output 0 (collected_text (answer_of (Ok done)) shown) r output'
        → Lists file lent work output r left work' output'
    lists-done done shown left s e m c p =
        puts-lists p.puts file lent work left work'
        (subst (λ (Z : Image). Outcomes file lent work (record { text = collected_text (answer_of (Ok done)) shown; areas = Z; work = work' })) (sym e)
        (subst (λ (Z : Image). Outcomes file lent work (record { text = collected_text (answer_of (Ok done)) Z; areas = joined areas Y; work = work' })) (sym s) (outcome-done done c)))
        (omega (arith, p.short, m))

    pub lists-refused : (q : Refusal) (left : Image) → left ≡ joined areas Y → Collects (just_stack n.stack areas) work (Err q) Y work'
        → {output output' : List ℕ} {r : ℕ} → PutsShort line_most output 0 (verdict_text (verdict_of q)) r output' → Lists file lent work output r left work' output'
    lists-refused q left e c p =
        puts-lists p.puts file lent work left work'
        (subst (λ (Z : Image). Outcomes file lent work (record { text = verdict_text (verdict_of q); areas = Z; work = work' })) (sym e) (outcome-refused q c))
        (omega (arith, p.short))

  pub lists-bad : (q : FileRefusal) (left : Image) → Thaws file lent (Err q) left
      → {output output' : List ℕ} {r : ℕ} → PutsShort line_most output 0 (file_verdict_text (files.verdict_of q)) r output' → Lists file lent work output r left work output'
  lists-bad q left t p = puts-lists p.puts file lent work left work (outcome-bad q left t) (omega (arith, p.short))

  -- what is read fits the areas
  pub read_fits : (n : AreaCounts) (areas : Image) → Thaws file lent (Ok n) areas → (n.stack ≤ length lent.stack) × (fixed ≤ length lent.control)
  read_fits n areas t =
      let a = thaws-filled file lent n areas t in
      ((within-each n _ a.2.room).stack, (legal-each lent a.0).least)
