-- What the program's parts promise one another of the bytes that they hold. Assumes nothing.
use Rattle.std.specs.Prelude.{ℕ, ◌-◌, ◌≤◌, ◌≡◌, ◌⊎◌, true, List, length}
use Rattle.report.specs.First.{file_most}
use Rattle.month.specs.declared.held.Held.{Held}

-- a part of the buffer, which has room for the longest file
pub record Holds (held : Held) (buffer : List ℕ) : Type 0 where
  pub order : held.from ≤ held.to
  pub inside : held.to ≤ length buffer
  pub room : file_most ≤ length buffer

-- as many bytes as the longest file has, or all that is left
abbrev pub Enough : Held → Type 0
Enough held = (file_most ≤ held.to - held.from) ⊎ (held.ended ≡ true)
