-- The closing lines of a report are sums over its files: each step adds its own file to the month, so that the month at the end has
-- what the month before and the files after it have together. Assumes nothing.
use Rattle.std.specs.Prelude.{Ok}
use Prim.Native.Nat.{ℕ, ◌+◌, ◌<◌}
use mathlib.Core.Path.{◌≡◌, refl, sym, ap, ◌∙◌, subst}
use mathlib.Core.List.{List, [], ◌++◌, map, append_assoc}
use native.Mathlib.Omega.{arith}
use native.Mathlib.Decide.{ℕ_discrete}
use lib.Dec.{eqb}
use lib.ListN.{length, get_or, set, length-set, length-replicate}
use lib.Seq.{get_or-set_same, get_or-set_other}
use borrow.Author.Tests.{eq-eqb, ne_eqb}
use Rattle.cell.specs.Word.{pick}
use Rattle.machine.specs.Layout.{Image}
use Rattle.freeze.specs.declared.AreaCounts.{AreaCounts}
use Rattle.listing.specs.Text.{file_text}
use Rattle.tally.specs.declared.Tally.{Tally}
use Rattle.tally.specs.Figures.{figure}
use Rattle.tally.specs.Totals.{total_from}
use Rattle.tally.proofs.Totals.{total-is-sum, deepest-is-largest}
use Rattle.text.specs.Line.{ascii}
use Rattle.report.specs.declared.Month.{Month}
use Rattle.report.specs.Text.{closing}
use Rattle.report.specs.Most.{numbers}
use Rattle.report.specs.Reports.{with_figures, with_refused, goes_on, closes, Steps, ended, too_many, bad_file, refused_image, counted, Reports, last, more}
use Rattle.report.proofs.Months.{get_or-zeros}
use Rattle.report.specs.Sums.{add_figures, add_number, figures_in, numbers_in, last_month, times, Closed, EndIsSum}

-- a store under a number counts one more under it, and none under another
one_more : (l : List ℕ) (m n : ℕ) → n < length l → get_or (set l m (get_or l m 0 + 1)) n 0 ≡ get_or l n 0 + pick (eqb m n) 1 0
one_more l m n h =
    elim (ℕ_discrete m n) [
      | yes e ↦
          subst (λ (k : ℕ). get_or (set l k (get_or l k 0 + 1)) n 0 ≡ get_or l n 0 + pick (eqb k n) 1 0) (sym e)
          (get_or-set_same l n (get_or l n 0 + 1) 0 h ∙ ap (λ (b : ℕ). get_or l n 0 + b) (sym (ap (λ b. pick b 1 0) (eq-eqb n n refl))))
      | no d ↦
          get_or-set_other l m n (get_or l m 0 + 1) 0 (λ e. d (sym e))
          ∙ omega (arith, ap (λ b. pick b 1 0) (ne_eqb m n d))
    ]

module _ {room : AreaCounts} {work : ℕ} where
  -- one step
  step-total : {month : Month} {file : List ℕ} {month' : Month} {text : List ℕ} {left : Image} (s : Steps room work month file (goes_on text month' left)) (later : List Tally)
      → total_from month.total (map Ok (add_figures s later)) ≡ total_from month'.total (map Ok later)
  unfolding add_figures with_figures with_refused total_from
  step-total (refused_image number place opened whole v) later = refl
  step-total (counted Y opened whole v to) later = refl

  step-accepted : {month : Month} {file : List ℕ} {month' : Month} {text : List ℕ} {left : Image} (s : Steps room work month file (goes_on text month' left)) (later : List Tally)
      → month.accepted + length (add_figures s later) ≡ month'.accepted + length later
  unfolding add_figures with_figures with_refused
  step-accepted (refused_image number place opened whole v) later = refl
  step-accepted (counted Y opened whole v to) later = omega arith

  step-numbers : {month : Month} {file : List ℕ} {month' : Month} {text : List ℕ} {left : Image} → Steps room work month file (goes_on text month' left) → length month'.refused ≡ length month.refused
  unfolding with_figures with_refused
  step-numbers {month} (refused_image number place opened whole v) = length-set month.refused number (get_or month.refused number 0 + 1)
  step-numbers (counted Y opened whole v to) = refl

  step-refused : {month : Month} {file : List ℕ} {month' : Month} {text : List ℕ} {left : Image} (s : Steps room work month file (goes_on text month' left)) (later : List ℕ) (n : ℕ) → n < length month.refused
      → get_or month.refused n 0 + times n (add_number s later) ≡ get_or month'.refused n 0 + times n later
  unfolding add_number with_figures with_refused times
  step-refused {month} (refused_image number place opened whole v) later n h = omega (arith, one_more month.refused number n h)
  step-refused (counted Y opened whole v to) later n h = refl

  last-closed : {month : Month} {file text : List ℕ} → Steps room work month file (closes text) → Closed month text
  last-closed {month} (ended e) = record { lines = []; end = ascii "end\n"; is = refl }
  last-closed {month} (too_many s m) = record { lines = []; end = file_text 13 month.start; is = refl }
  last-closed {month} (bad_file n o p v) = record { lines = []; end = file_text n (month.start + o); is = refl }

  -- a report
  closed_in : {month : Month} {rest text : List ℕ} (r : Reports room work month rest text) → Closed (last_month r) text
  unfolding last_month
  closed_in (last s) = last-closed s
  closed_in (more {text = text} s r) =
      let c = closed_in r in
      record { lines = text ++ c.lines; end = c.end; is = ap (λ (t : List ℕ). text ++ t) c.is ∙ sym (append_assoc text c.lines (closing (last_month r) ++ c.end)) }

  total-in : {month : Month} {rest text : List ℕ} (r : Reports room work month rest text) → (last_month r).total ≡ total_from month.total (map Ok (figures_in r))
  unfolding last_month figures_in total_from
  total-in (last s) = refl
  total-in (more s r) = total-in r ∙ sym (step-total s (figures_in r))

  accepted-in : {month : Month} {rest text : List ℕ} (r : Reports room work month rest text) → (last_month r).accepted ≡ month.accepted + length (figures_in r)
  unfolding last_month figures_in
  accepted-in (last s) = omega arith
  accepted-in (more s r) = accepted-in r ∙ sym (step-accepted s (figures_in r))

  refused-in : {month : Month} {rest text : List ℕ} (r : Reports room work month rest text) (n : ℕ) → n < length month.refused → get_or (last_month r).refused n 0 ≡ get_or month.refused n 0 + times n (numbers_in r)
  unfolding last_month numbers_in times
  refused-in (last s) n h = omega arith
  refused-in (more s r) n h = refused-in r n (omega (arith, step-numbers s)) ∙ sym (step-refused s (numbers_in r) n h)

pub end-is-sum : EndIsSum
end-is-sum room work rest text r = record {
  closed = closed_in r;
  sums = λ f. ap (figure f) (total-in r) ∙ total-is-sum f (map Ok (figures_in r));
  deepest = ap (λ (t : Tally). t.deepest) (total-in r) ∙ deepest-is-largest (map Ok (figures_in r));
  accepted = omega (arith, accepted-in r);
  refused = λ n h. omega (arith, refused-in r n (omega (arith, length-replicate {A = ℕ} numbers 0)), get_or-zeros numbers n);
}
