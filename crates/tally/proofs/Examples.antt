-- Night A of document 01, counted by evaluation: its reached cells and kept trail entries as the paper gives them. Assumes nothing.
use Prim.Native.Nat.{ℕ}
use mathlib.Core.Path.{◌≡◌, refl}
use mathlib.Core.Bool.{Bool, ◌||◌}
use lib.Dec.{eqb}
use Rattle.machine.specs.Layout.{field, word}
use Rattle.machine.specs.Chains.{frames, points, walk}
use Rattle.machine.specs.Moved.{below}
use Rattle.machine.specs.NightA.{night}
use Rattle.tally.specs.Figures.{tagged, points_in, chain_from, deepest_in, deepest_of, count_of, tally_of}

-- "Reached: 1, 2, 3, 6, 7, 8."
reached : ℕ → Bool
reached x = eqb x 1 || (eqb x 2 || (eqb x 3 || (eqb x 6 || (eqb x 7 || eqb x 8))))

-- of the entries 2, 4 and 134217731 the first and the last
entries : ℕ → Bool
entries i = eqb i 0 || eqb i 2

night-figures : tally_of reached entries night
    ≡ record {
      kept = record { var = 1; structure = 0; list = 1; constant = 4 };
      dropped = record { var = 1; structure = 0; list = 0; constant = 2 };
      entries_kept = 2;
      entries_dropped = 1;
      points = 1;
      deepest = 1;
    }
unfolding field word frames points walk below tagged points_in chain_from deepest_in deepest_of count_of tally_of reached entries
night-figures = refl
