-- `freeze::reading::control_word` meets its contract: the word is that of the record that stands there.
-- Assumes nothing.
use mathlib.Core.Path.{sym, ◌∙◌}
use native.Mathlib.Omega.{arith}
use Rattle.freeze.proofs.KindLaws.{control-word}
use Rattle.freeze.proofs.WordLaws.{control-word-in, control-word-bound}
use Rattle.freeze.proofs.reading.control_word.Goals as goal

pub overflow_mul-p : goal.overflow_mul-p
overflow_mul-p c =
    let a = c.args in
    omega (arith, control-word-bound a.file.now a.n a.p a.from _ c.requires.from_value c.record_size.ensures c.requires.p_in_bounds c.requires.control_value)

pub overflow_add-from : goal.overflow_add-from
overflow_add-from c =
    let a = c.args in
    omega (arith, control-word-bound a.file.now a.n a.p a.from _ c.requires.from_value c.record_size.ensures c.requires.p_in_bounds c.requires.control_value)

pub word_in-requires : goal.word_in-requires
word_in-requires c =
    let a = c.args in
    omega (arith, control-word-bound a.file.now a.n a.p a.from _ c.requires.from_value c.record_size.ensures c.requires.p_in_bounds c.requires.control_value, control-word)

pub returns : goal.returns
returns c =
    let a = c.args in
    c.word_in.ensures ∙ sym (control-word-in a.file.now a.n a.p a.from _ c.requires.from_value c.record_size.ensures c.requires.p_in_bounds)
