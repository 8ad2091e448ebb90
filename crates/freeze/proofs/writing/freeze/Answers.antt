-- `freeze::writing::freeze` meets its contract: at each `return` the tests that led there give the verdict; the output is written only under the last.
-- Assumes nothing.
use Prim.Native.Nat.{ℕ, ◌≤◌}
use mathlib.Core.Path.{◌≡◌, sym, ap, ◌∙◌, subst}
use mathlib.Core.Bool.{Bool, true}
use native.Mathlib.Omega.{arith}
use lib.ListN.{length}
use lib.Seq.{sets}
use borrow.Author.Tests.{le-leb, lt-leb}
use Rattle.machine.specs.Layout.{Image}
use Rattle.machine.specs.Lent.{seen}
use Rattle.machine.specs.Refusals.{legal_sizes, fits}
use Rattle.freeze.specs.declared.AreaCounts.{AreaCounts}
use Rattle.freeze.specs.declared.FileRefusal.TheVariants.{Sizes, Registers, Output}
use Rattle.freeze.specs.Thaw.{counts_of, lengths_of, within, past_end}
use Rattle.freeze.specs.Freeze.{file_of, frozen}
use Rattle.freeze.specs.Parts.{Small}
use Rattle.freeze.proofs.Filling.{sets-front}
use Rattle.freeze.proofs.ThawLaws.{Within, within-each}
use Rattle.freeze.proofs.FreezeLaws.{length-file, legal-each, small-counts, fits-within, sizes-refused, registers-refused, output-refused, freeze-accepted, freezes-refused, freezes-accepted}
use Rattle.freeze.proofs.writing.freeze.Goals as goal

-- what the test of the counts says; and where it is passed, that they are within the areas, that each is a word, and how long the file is
tested : (X : Image) (n room : AreaCounts) (r : Bool) → n ≡ counts_of X → room ≡ lengths_of X → r ≡ within n room → fits X ≡ r
tested X n room r e l w = sym (w ∙ (λ i. within (e i) (l i)) ∙ sym (fits-within X))

fit-within : (X : Image) → fits X ≡ true → Within (counts_of X) (lengths_of X)
fit-within X f = within-each _ _ (sym (fits-within X) ∙ f)

small : (X : Image) (n : AreaCounts) → n ≡ counts_of X → legal_sizes X ≡ true → fits X ≡ true → Small n
small X n e l f = subst (λ (n : AreaCounts). Small n) (sym e) (small-counts X _ (legal-each X l) (fit-within X f))

measured : (X : Image) (n : AreaCounts) (bytes : ℕ) → n ≡ counts_of X → fits X ≡ true → bytes ≡ past_end n → bytes ≡ length (frozen X)
measured X n bytes e f w = w ∙ ap past_end e ∙ sym (length-file _ X (fit-within X f))

pub returns-then-not-legal : goal.returns-then-not-legal
returns-then-not-legal c = freezes-refused _ _ Sizes (sizes-refused _ _ (sym c.if-not-legal.ensures))

pub counts_of-n-requires : goal.counts_of-n-requires
counts_of-n-requires c = (legal-each _ (sym c.if-not-legal.ensures)).least

pub returns-then-not-within : goal.returns-then-not-within
returns-then-not-within c =
    let X = seen c.args.view in
    let n = c.counts_of-n.ensures in
    freezes-refused _ _ Registers (registers-refused X _ (sym c.if-not-legal.ensures) (tested X _ _ _ n c.lengths_of.ensures c.if-not-within.ensures))

pub file_length-bytes-requires : goal.file_length-bytes-requires
file_length-bytes-requires c =
    let X = seen c.args.view in
    let n = c.counts_of-n.ensures in
    small X _ n (sym c.if-not-legal.ensures) (tested X _ _ _ n c.lengths_of.ensures c.if-not-within.ensures)

pub returns-then-output-bytes : goal.returns-then-output-bytes
returns-then-output-bytes c =
    let X = seen c.args.view in
    let n = c.counts_of-n.ensures in
    let f = tested X _ _ _ n c.lengths_of.ensures c.if-not-within.ensures in
    freezes-refused _ _ Output
    (output-refused X _ (sym c.if-not-legal.ensures) f (lt-leb (length (frozen X)) (length c.args.output.now) (omega (arith, measured X _ _ n f c.file_length-bytes.ensures))))

pub write_file-requires : goal.write_file-requires
write_file-requires c =
    let X = seen c.args.view in
    let n = c.counts_of-n.ensures in
    let f = tested X _ _ _ n c.lengths_of.ensures c.if-not-within.ensures in
    record {
      small = small X _ n (sym c.if-not-legal.ensures) f;
      trail_value = sym (fits-within X ∙ ap (λ (n : AreaCounts). within n (lengths_of X)) (sym n)) ∙ f;
      n_in_bounds = omega (arith, c.file_length-bytes.ensures);
    }

pub returns : goal.returns
returns c =
    let X = seen c.args.view in
    let output = c.args.output.now in
    let n = c.counts_of-n.ensures in
    let f = tested X _ _ _ n c.lengths_of.ensures c.if-not-within.ensures in
    let bytes = measured X _ _ n f c.file_length-bytes.ensures in
    let room : length (frozen X) ≤ length output = omega (arith, bytes) in
    freezes-accepted _ _ _ _ (freeze-accepted X _ (sym c.if-not-legal.ensures) f (le-leb (length (frozen X)) (length output) room)) bytes
    (c.write_file.ensures ∙ ap (λ (n : AreaCounts). sets output 0 (file_of n X)) n ∙ sets-front output (frozen X) room)
