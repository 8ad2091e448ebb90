-- The reader that keeps the lent file and its offset together. Document 01, 'Freeze file': "The reading of one record is offered a
-- second time". Assumes nothing.
use Rattle.std.specs.Prelude.{ℕ, ◌≡◌, List, Result}
use Rattle.std.specs.Borrow.{Bor}
use Rattle.freeze.specs.declared.FileRefusal.{FileRefusal}
use Rattle.freeze.specs.declared.Reader.{Reader}
use Rattle.freeze.specs.declared.Record.{Record}
use Rattle.freeze.specs.Records.{record_answer_of, record_at, offset_after}

-- a reader of this very file, at its start
pub record Started (file : Bor (List ℕ)) (r : Reader) : Type 0 where
  pub whole : r.file ≡ file
  pub start : r.at ≡ 0

-- "It answers kind, body start and next offset; or 11 .., 10 .., as above, the offset staying."
pub record ReadsNext (before : Reader) (answer : Result Record FileRefusal) (after : Reader) : Type 0 where
  pub answer-is : record_answer_of answer ≡ record_at before.file.now before.at
  pub same-file : after.file ≡ before.file
  pub moved : after.at ≡ offset_after before.file.now before.at
