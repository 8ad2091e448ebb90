-- What the parts of a step promise, put together: which outcome a file has, and what `next` leaves. Assumes nothing.
use Rattle.std.specs.Prelude.{Some, None, Ok, Err}
use Prim.Native.Nat.{ℕ, ◌+◌, ◌≤◌, ◌<◌}
use mathlib.Core.Path.{◌≡◌, refl, sym, ◌∙◌, subst}
use mathlib.Core.List.{List, [], ◌∷◌, ◌++◌}
use native.Mathlib.Omega.{arith}
use lib.ListN.{length, length-take}
use Rattle.machine.specs.declared.Refusal.{Refusal}
use Rattle.machine.specs.Layout.{Image}
use Rattle.machine.specs.Refusals.{refused}
use Rattle.freeze.specs.declared.FileRefusal.{FileRefusal}
use Rattle.freeze.specs.declared.FileRefusal.TheVariants.{After}
use Rattle.freeze.specs.Verdicts as files
use Rattle.freeze.specs.Thaw.{thaw_verdict}
use Rattle.listing.specs.Text.{file_text}
use Rattle.tally.specs.declared.Tally.{Tally}
use Rattle.tally.specs.declared.Uncounted.TheVariants as uncounted
use Rattle.tally.specs.Totals.{files_most}
use Rattle.text.specs.Line.{ascii}
use Rattle.report.specs.declared.Month.{Month}
use Rattle.report.specs.declared.Step.{Step}
use Rattle.report.specs.Text.{counted_file, refused_file, closing}
use Rattle.report.specs.First.{room_of, areas_of, first_file, image_of_file}
use Rattle.report.specs.Reports.{with_figures, with_refused, closes, goes_on, Opened, ended, too_many, bad_file, refused_image, counted}
use Rattle.report.specs.Nexts.{Answers, Nexts}
use Rattle.report.specs.Parts as parts
use Rattle.report.proofs.Firsts.{span-least, first-most}
use Rattle.report.proofs.Fronts.{room-sized}
use Rattle.report.proofs.Offsets.{offset-within}

empty : (l : List ℕ) → length l ≡ 0 → l ≡ []
empty [] e = refl
empty (x ∷ l) e = absurd (omega arith)

module _ (lent : Image) (work : List ℕ) (month : Month) (window : List ℕ) where
  abbrev pub file : List ℕ
  file = first_file (room_of lent) window

  some-file : 0 < length window → 0 < length file
  some-file h = simp length-take (omega (arith, span-least (room_of lent) window))

  no-file : length window ≡ 0 → file ≡ []
  no-file z = empty file (simp length-take (omega arith))

  pub bad-verdict : {refusal : FileRefusal} {left : Image} {work' : List ℕ} → parts.CountsFirst file lent work (Err (uncounted.File refusal)) left work' → thaw_verdict (areas_of (room_of lent)) file ≡ files.verdict_of refusal
  bad-verdict (parts.bad_file _ v) = v

  -- the offset of a fault is not far from the start of the file
  pub near : (refusal : FileRefusal) → thaw_verdict (areas_of (room_of lent)) file ≡ files.verdict_of refusal → parts.Near refusal
  near refusal v number offset e = omega (arith, offset-within file (areas_of (room_of lent)) number offset (v ∙ e), first-most (room_of lent) window (room-sized lent))

  opened : 0 < length window → month.files < files_most → Opened month file
  opened h room = record { some = some-file h; room = room }

  module _ {output : List ℕ} {at : ℕ} {r : Step} {output' : List ℕ} where
    pub next-ended : length window ≡ 0 → Answers None (closing month ++ ascii "end\n") output at r output' → Nexts lent work month window output at r lent work output'
    next-ended z a = record { outcome = closes (closing month ++ ascii "end\n"); steps = ended (no-file z); answer = a; areas = refl; work-is = refl }

    pub next-too_many : 0 < length window → files_most ≤ month.files → parts.Stops month (After 0) output at r output' → Nexts lent work month window output at r lent work output'
    unfolding files.verdict_of
    next-too_many h m s =
        let e = s.verdict-is in
        let n : 13 ≡ s.number = cc in
        let o : 0 ≡ s.offset = cc in
        let z : month.start + s.offset ≡ month.start = omega arith in
        let t : closing month ++ file_text s.number (month.start + s.offset) ≡ closing month ++ file_text 13 month.start = λ i. closing month ++ file_text (sym n i) (z i) in
        record {
          outcome = closes (closing month ++ file_text 13 month.start);
          steps = too_many (some-file h) m;
          answer = subst (λ (text : List ℕ). Answers None text output at r output') t s.answer;
          areas = refl;
          work-is = refl;
        }

    module _ (h : 0 < length window) (room : month.files < files_most) where
      pub next-bad : (refusal : FileRefusal) {left : Image} {work' : List ℕ} → parts.CountsFirst file lent work (Err (uncounted.File refusal)) left work' → parts.Stops month refusal output at r output'
          → Nexts lent work month window output at r left work' output'
      next-bad refusal (parts.bad_file _ v) s = record {
        outcome = closes (closing month ++ file_text s.number (month.start + s.offset));
        steps = bad_file s.number s.offset (opened h room) (v ∙ s.verdict-is);
        answer = s.answer;
        areas = refl;
        work-is = refl;
      }

      pub next-refused : (refusal : Refusal) {left : Image} {work' : List ℕ} → parts.CountsFirst file lent work (Err (uncounted.Image refusal)) left work' → parts.Refuses month (length file) refusal output at r output'
          → Nexts lent work month window output at r left work' output'
      next-refused refusal (parts.refused_image _ v w) s = record {
        outcome = goes_on (refused_file (month.files + 1) (refused s.number s.place)) (with_refused (length file) s.number month) (image_of_file file);
        steps = refused_image s.number s.place (opened h room) v (w ∙ s.verdict-is);
        answer = s.answer;
        areas = refl;
        work-is = refl;
      }

      pub next-counted : (figures : Tally) {left : Image} {work' : List ℕ} → parts.CountsFirst file lent work (Ok figures) left work'
          → Answers (Some (record { used = length file; month = with_figures (length file) figures month })) (counted_file (month.files + 1) figures) output at r output'
          → Nexts lent work month window output at r left work' output'
      next-counted figures (parts.counted Y v w to) a = record {
        outcome = goes_on (counted_file (month.files + 1) figures) (with_figures (length file) figures month) Y;
        steps = counted Y (opened h room) v w to;
        answer = a;
        areas = refl;
        work-is = refl;
      }
