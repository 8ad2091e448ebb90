-- `listing::lines::put_refusal` meets its contract: the line of the number that the refusal has, with its place if it has one.
-- Assumes nothing.
use Rattle.std.specs.Prelude.{Option}
use mathlib.Core.Path.{sym, ap, ◌∙◌}
use Rattle.machine.specs.declared.Place.{Place}
use Rattle.machine.specs.Refusals.{refused}
use Rattle.machine.specs.Lent.{where_in}
use Rattle.listing.specs.Lines.{verdict_text}
use Rattle.text.proofs.Puttings.{short-of}
use Rattle.listing.proofs.lines.put_refusal.Goals as goal

pub returns-in-None : goal.returns-in-None
unfolding verdict_text
returns-in-None c = short-of verdict_text (sym c.reason-reason.ensures ∙ ap (λ (s : Option Place). refused c.reason-reason.result.number (where_in s)) c.in-None.is) c.put_number_alone.ensures

pub returns-in-Some : goal.returns-in-Some
unfolding verdict_text
returns-in-Some c = short-of verdict_text (sym c.reason-reason.ensures ∙ ap (λ (s : Option Place). refused c.reason-reason.result.number (where_in s)) c.in-Some.is) c.put_placed.ensures
