-- The texts of docs/WHY.md and of Night A are what the definitions say, and so are arguments that are read. By evaluation. Assumes nothing.
use mathlib.Core.Path.{◌≡◌, refl}
use mathlib.Core.List.{[], ◌∷◌}
use Rattle.machine.specs.declared.Area.TheVariants.{Stack, Control}
use Rattle.machine.specs.NightA.{night}
use Rattle.machine.proofs.Examples.{opened}
use Rattle.text.specs.Decimal.{digits, read_on}
use Rattle.text.specs.Line.{ascii, spaced}
use Rattle.listing.specs.Text.{place_text, refused_text}
use Rattle.holder.specs.Answers.{held, dead, refusal, above}
use Rattle.std.specs.Prelude.{Some, None}
use Rattle.telling.specs.Text.{member_text, owner_text, argument_text, kind_text, site_text, root_line, tag_name, cell_line, cell_lines, said_text}
use Rattle.telling.specs.Number.{all_digits, is_index, asked_of}

-- what an evaluation opens
unfoldable told : Unit {0}
unfolding opened digits read_on spaced place_text refused_text member_text owner_text argument_text kind_text site_text root_line tag_name cell_line cell_lines said_text all_digits is_index asked_of
told = tt

-- why the end of Night A's list is held: the frame's structure holds a variable, which is bound to the list
night-held : said_text night (held Stack 2 3) (2 ∷ 6 ∷ 8 ∷ []) ≡ ascii "held by cell 1 of the frame at 0: stack 2\n2 VAR 6\n6 LIST 7\n8 CONST 0\n"
unfolding told
night-held = refl

by-argument : root_line night Control 8 ≡ ascii "held by argument 2 of the control area: control 8\n"
unfolding told
by-argument = refl

by-saved-argument : root_line night Stack 11 ≡ ascii "held by saved argument 1 of the choice point at 4: stack 11\n"
unfolding told
by-saved-argument = refl

not-held : said_text night dead [] ≡ ascii "dead\n"
unfolding told
not-held = refl

no_cell_lem : said_text night (refusal above) [] ≡ ascii "refused 18\n"
unfolding told
no_cell_lem = refl

-- zeros may lead; a sign, a blank and nothing at all are no number
asked-plain : asked_of (ascii "42") ≡ Some 42
unfolding told
asked-plain = refl

asked-zeros : asked_of (ascii "0042") ≡ Some 42
unfolding told
asked-zeros = refl

asked-largest : asked_of (ascii "4294967295") ≡ Some 4294967295
unfolding told
asked-largest = refl

asked-too-large : asked_of (ascii "4294967296") ≡ None
unfolding told
asked-too-large = refl

asked-signed : asked_of (ascii "+1") ≡ None
unfolding told
asked-signed = refl

asked-nothing : asked_of (ascii "") ≡ None
unfolding told
asked-nothing = refl
