-- `telling::put_why` meets its contract: the text of each answer, by the cases. Assumes nothing.
use native.Mathlib.Omega.{arith}
use Rattle.text.proofs.Puttings.{short-exact, short-within}
use Rattle.holder.specs.Answers.{said_of}
use Rattle.telling.specs.Text.{said_text}
use Rattle.telling.proofs.Answering.{refusal-text}
use Rattle.telling.proofs.put_why.Goals as goal

pub returns-in-Ok-None-clause-puts_short : goal.returns-in-Ok-None-clause-puts_short
unfolding said_text said_of
returns-in-Ok-None-clause-puts_short c = rw (c.in-Ok-None.is, rw c.in-Ok-None.is at c.in-Ok-None.field-0-is) (short-within (omega arith) (short-exact c.put_bytes.ensures))

pub returns-in-Err-NoCell-clause-puts_short : goal.returns-in-Err-NoCell-clause-puts_short
unfolding said_text said_of
returns-in-Err-NoCell-clause-puts_short c = rw (c.in-Err-NoCell.is, rw c.in-Err-NoCell.is at c.in-Err-NoCell.field-0-is) (short-within (omega arith) c.put_number_alone.ensures)

pub returns-in-Err-RoomShort-clause-puts_short : goal.returns-in-Err-RoomShort-clause-puts_short
unfolding said_text said_of
returns-in-Err-RoomShort-clause-puts_short c = rw (c.in-Err-RoomShort.is, rw c.in-Err-RoomShort.is at c.in-Err-RoomShort.field-0-is) (short-within (omega arith) c.put_number_alone-in-Err-RoomShort.ensures)

pub returns-in-Err-Image-clause-puts_short : goal.returns-in-Err-Image-clause-puts_short
unfolding said_of
returns-in-Err-Image-clause-puts_short c = rw (c.in-Err-Image.is, rw c.in-Err-Image.is at c.in-Err-Image.field-0-is, refusal-text) (short-within (omega arith) c.put_refusal.ensures)
