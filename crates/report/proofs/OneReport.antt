-- An input has one report: a file has one outcome, since the image that a collection leaves and its figures are fixed. Assumes nothing.
use Prim.Native.Nat.{ℕ, ◌+◌, ◌<◌}
use mathlib.Core.Path.{◌≡◌, refl, sym, ap, ◌∙◌, subst}
use mathlib.Core.List.{List, [], ◌++◌}
use native.Mathlib.Omega.{arith}
use lib.ListN.{length, drop}
use Rattle.machine.specs.Layout.{Image}
use Rattle.machine.specs.Refusals.{Where, accepted, refused}
use Rattle.machine.proofs.Verdicts.{verdict-accepted}
use Rattle.machine.proofs.Unique.{one-image}
use Rattle.freeze.specs.declared.AreaCounts.{AreaCounts}
use Rattle.freeze.specs.Verdicts as files
use Rattle.listing.specs.Text.{file_text}
use Rattle.tally.proofs.OneCount.{one-tally}
use Rattle.report.specs.declared.Month.{Month}
use Rattle.report.specs.Text.{counted_file, refused_file, closing}
use Rattle.report.specs.First.{first_file, image_of_file}
use Rattle.report.specs.Reports.{with_figures, with_refused, Outcome, closes, goes_on, Steps, ended, too_many, bad_file, refused_image, counted, Reports, last, more}
use Rattle.report.specs.Streams.{OneReport}

file-apart : {number offset : ℕ} → files.accepted ≡ files.refused number offset → ⊥
file-apart e = let z : ◌≡◌ {A = ℕ} 0 1 = cc in omega arith

apart : {number : ℕ} {place : Where} → accepted ≡ refused number place → ⊥
apart e = let z : ◌≡◌ {A = ℕ} 0 1 = cc in omega arith

none-some : {l : List ℕ} → l ≡ [] → 0 < length l → ⊥
none-some e h = omega (arith, ap length e)

module _ {room : AreaCounts} {work : ℕ} {month : Month} {file : List ℕ} where
  pub one-outcome : {a b : Outcome} → Steps room work month file a → Steps room work month file b → a ≡ b
  one-outcome (ended e) (ended e') = refl
  one-outcome (ended e) (too_many s m) = absurd (none-some e s)
  one-outcome (ended e) (bad_file n o p v) = absurd (none-some e p.some)
  one-outcome (ended e) (refused_image n q p v w) = absurd (none-some e p.some)
  one-outcome (ended e) (counted Y p v w to) = absurd (none-some e p.some)
  one-outcome (too_many s m) (ended e) = absurd (none-some e s)
  one-outcome (too_many s m) (too_many s' m') = refl
  one-outcome (too_many s m) (bad_file n o p v) = absurd (omega (arith, p.room))
  one-outcome (too_many s m) (refused_image n q p v w) = absurd (omega (arith, p.room))
  one-outcome (too_many s m) (counted Y p v w to) = absurd (omega (arith, p.room))
  one-outcome (bad_file n o p v) (ended e) = absurd (none-some e p.some)
  one-outcome (bad_file n o p v) (too_many s m) = absurd (omega (arith, p.room))
  one-outcome (bad_file n o p v) (bad_file n' o' p' v') =
      let s : files.refused n o ≡ files.refused n' o' = sym v ∙ v' in
      let a : n ≡ n' = cc in
      let b : o ≡ o' = cc in
      λ i. closes (closing month ++ file_text (a i) (month.start + b i))
  one-outcome (bad_file n o p v) (refused_image n' q' p' v' w') = absurd (file-apart (sym v' ∙ v))
  one-outcome (bad_file n o p v) (counted Y p' v' w' to) = absurd (file-apart (sym v' ∙ v))
  one-outcome (refused_image n q p v w) (ended e) = absurd (none-some e p.some)
  one-outcome (refused_image n q p v w) (too_many s m) = absurd (omega (arith, p.room))
  one-outcome (refused_image n q p v w) (bad_file n' o' p' v') = absurd (file-apart (sym v ∙ v'))
  one-outcome (refused_image n q p v w) (refused_image n' q' p' v' w') =
      let s : refused n q ≡ refused n' q' = sym w ∙ w' in
      let a : n ≡ n' = cc in
      λ i. goes_on (refused_file (month.files + 1) (s i)) (with_refused (length file) (a i) month) (image_of_file file)
  one-outcome (refused_image n q p v w) (counted Y p' v' w' to) = absurd (apart (sym w' ∙ w))
  one-outcome (counted Y p v w to) (ended e) = absurd (none-some e p.some)
  one-outcome (counted Y p v w to) (too_many s m) = absurd (omega (arith, p.room))
  one-outcome (counted Y p v w to) (bad_file n' o' p' v') = absurd (file-apart (sym v ∙ v'))
  one-outcome (counted Y p v w to) (refused_image n' q' p' v' w') = absurd (apart (sym w ∙ w'))
  one-outcome (counted Y p v w to) (counted Z p' v' w' to') =
      let y = one-image to to' (verdict-accepted work (image_of_file file) w).0 in
      let t = one-tally to to' in
      λ i. goes_on (counted_file (month.files + 1) (t i)) (with_figures (length file) (t i) month) (y i)

-- the parts of an outcome
closes-goes : {text text' : List ℕ} {month : Month} {left : Image} → closes text ≡ goes_on text' month left → ⊥
closes-goes e = let z : ◌≡◌ {A = ℕ} 0 1 = cc in omega arith

module _ (room : AreaCounts) (work : ℕ) where
  one-text : {month : Month} {rest text text' : List ℕ} → Reports room work month rest text → Reports room work month rest text' → text ≡ text'
  one-text (last s) (last s') = let e = one-outcome s s' in cc
  one-text (last s) (more s' r') = absurd (closes-goes (one-outcome s s'))
  one-text (more s r) (last s') = absurd (closes-goes (sym (one-outcome s s')))
  one-text (more {month} {month'} {rest} {text} {later} {left} s r) (more {month' = month''} {text = text'} {later = later'} {left = left'} s' r') =
      let e = one-outcome s s' in
      let a : text ≡ text' = cc in
      let m : month' ≡ month'' = cc in
      let same : later ≡ later' = one-text (subst (λ (x : Month). Reports room work x (drop (length (first_file room rest)) rest) later) m r) r' in
      λ i. a i ++ same i

pub one-report : OneReport
one-report room work month rest text text' r r' = one-text room work r r'
