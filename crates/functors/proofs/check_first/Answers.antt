-- `functors::check_first` meets its contract: no STRUCT is no refusal, else what the flags tell is searched and cleared. Assumes nothing.
use mathlib.Core.Path.{◌≡◌}
use lib.ListN.{get_or, replicate}
use Rattle.std.proofs.Common.{rules}
use Rattle.machine.specs.Layout.{field}
use Rattle.functors.proofs.Checking.{contained-at, nothing-found, searchable, all_found}
use Rattle.functors.proofs.check_first.Goals as goal

pub flag_all-requires : goal.flag_all-requires
flag_all-requires c = let k = c.requires in contained-at k k.right

pub returns-then-flag_all-eq0 : goal.returns-then-flag_all-eq0
returns-then-flag_all-eq0 c = nothing-found c.requires c.flag_all.ensures c.if-flag_all-eq0.true

pub invariant_of-find : goal.invariant_of-find
unfolding field
invariant_of-find c = record { searchable = searchable c.requires c.flag_all.ensures c.tally-total.ensures }

pub returns : goal.returns
unfolding field
returns c =
    let blank : c.fill.new.self ≡ replicate (get_or c.args.view.control.now 5 0) 0 = search rules in
    all_found c.requires c.flag_all.ensures c.tally-total.ensures c.find-checked.ensures (rw blank)
