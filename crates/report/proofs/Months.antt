-- What a month can come to: no sum of it leaves 64 bits, and one file more leads to a month that is possible again. Assumes nothing.
use Prim.Native.Nat.{ℕ, zero, suc, ◌+◌, ◌*◌, ◌^◌, ◌≤◌, ◌<◌}
use mathlib.Core.Path.{◌≡◌, refl}
use mathlib.Core.List.{List, [], ◌∷◌}
use native.Mathlib.Omega.{arith}
use lib.ListN.{get_or, set, replicate}
use Rattle.machine.specs.declared.Refusal.{Refusal}
use Rattle.machine.specs.declared.Refusal.TheVariants.{Sizes, Registers, Chain, Roles, Bits, Reference, Entry, First, NoChoicePoint, ControlShort}
use Rattle.machine.specs.Refusals.{Where, refused}
use Rattle.machine.specs.Answers.{verdict_of}
use Rattle.tally.specs.declared.Tally.{Tally}
use Rattle.tally.specs.Totals.{files_most, Within}
use Rattle.tally.proofs.Within.{within_none, within_more, within-next}
use Rattle.report.specs.declared.Month.{Month}
use Rattle.report.specs.Most.{numbers}
use Rattle.report.specs.First.{file_most}
use Rattle.report.specs.Reports.{begun, with_figures, with_refused}
use Rattle.report.specs.Nexts.{Possible}

-- every refusal has a number that is counted
pub number_counts : (q : Refusal) (number : ℕ) (place : Where) → refused number place ≡ verdict_of q → number < numbers
unfolding verdict_of
number_counts Sizes number place e = let z : number ≡ 1 = cc in omega arith
number_counts Registers number place e = let z : number ≡ 2 = cc in omega arith
number_counts (Chain p) number place e = let z : number ≡ 3 = cc in omega arith
number_counts (Roles p) number place e = let z : number ≡ 4 = cc in omega arith
number_counts (Bits p) number place e = let z : number ≡ 5 = cc in omega arith
number_counts (Reference p) number place e = let z : number ≡ 6 = cc in omega arith
number_counts (Entry p) number place e = let z : number ≡ 7 = cc in omega arith
number_counts (First p) number place e = let z : number ≡ 17 = cc in omega arith
number_counts NoChoicePoint number place e = let z : number ≡ 8 = cc in omega arith
number_counts ControlShort number place e = let z : number ≡ 9 = cc in omega arith

pub get_or-zeros : (k i : ℕ) → ◌≡◌ {A = ℕ} (get_or (replicate k 0) i 0) 0
get_or-zeros zero i = refl
get_or-zeros (suc k) zero = refl
get_or-zeros (suc k) (suc i) = get_or-zeros k i

-- a store of a number that is not above a bound keeps all below it
set-under : (most : ℕ) (l : List ℕ) (i a : ℕ) → a ≤ most → ((j : ℕ) → get_or l j 0 ≤ most) → (j : ℕ) → get_or (set l i a) j 0 ≤ most
set-under most [] i a h p j = p j
set-under most (x ∷ l) zero a h p zero = h
set-under most (x ∷ l) zero a h p (suc j) = p (suc j)
set-under most (x ∷ l) (suc i) a h p zero = p zero
set-under most (x ∷ l) (suc i) a h p (suc j) = set-under most l i a h (λ k. p (suc k)) j

pub possible-begun : Possible begun
possible-begun = record {
  files = omega arith;
  accepted = omega arith;
  start = omega arith;
  total = within_none;
  refused = λ number. omega (arith, get_or-zeros numbers number);
}

module _ {month : Month} (p : Possible month) where
  pub offset-fits : (used : ℕ) → used ≤ file_most → month.start + used < 2 ^ 64
  offset-fits used h = omega (arith, p.start, p.files)

  start-more : (used : ℕ) → used ≤ file_most → month.start + used ≤ (month.files + 1) * file_most
  start-more used h = omega (arith, p.start)

  module _ (room : month.files < files_most) (used : ℕ) (h : used ≤ file_most) where
    pub possible-figures : {figures : Tally} → Within 1 figures → Possible (with_figures used figures month)
    unfolding with_figures
    possible-figures w = record {
      files = omega arith;
      accepted = omega (arith, p.accepted);
      start = start-more used h;
      total = within-next month.files p.total w;
      refused = λ number. omega (arith, p.refused number);
    }

    pub possible-refused : (number : ℕ) → Possible (with_refused used number month)
    unfolding with_refused
    possible-refused number = record {
      files = omega arith;
      accepted = omega (arith, p.accepted);
      start = start-more used h;
      total = within_more month.files (month.files + 1) (omega arith) p.total;
      refused = set-under (month.files + 1) month.refused number (get_or month.refused number 0 + 1) (omega (arith, p.refused number)) (λ i. omega (arith, p.refused i));
    }
