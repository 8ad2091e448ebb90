-- What the file functions promise a caller in C: the library's promises, with each answer as numbers. Assumes nothing.
use Rattle.std.specs.Prelude.{ℕ, ◌≡◌, List}
use Rattle.machine.specs.Layout.{Image}
use Rattle.std.specs.Prelude.{Result}
use Rattle.freeze.specs.declared.AreaCounts.{AreaCounts}
use Rattle.freeze.specs.declared.FileRefusal.{FileRefusal}
use Rattle.freeze.specs.declared.Record.{Record}
use Rattle.freeze.specs.Records.{RecordAnswer, record_answer_of, record_at}
use Rattle.freeze.specs.Thaw.{ThawAnswer, thaw_answer_of, Thaws}
use Rattle.freeze.specs.Freeze.{FreezeAnswer, freeze_answer_of, Freezes}
use Rattle.engine.specs.declared.BikThawed.{BikThawed}
use Rattle.engine.specs.declared.BikFrozen.{BikFrozen}
use Rattle.engine.specs.declared.BikRecord.{BikRecord}
use Rattle.engine.specs.Reasons.{file_reason_of}

unfoldable pub thawed_of : ThawAnswer → BikThawed
thawed_of a = record {
  refusal = (file_reason_of a.verdict).number;
  offset = (file_reason_of a.verdict).offset;
  control = a.counts.control;
  stack = a.counts.stack;
  heap = a.counts.heap;
  trail = a.counts.trail;
}

-- What `bik_thaw` promises of every file and all lent areas: an answer that `thaw` may give with the areas at exit, and r is its numbers.
pub record ThawsForC (file : List ℕ) (lent : Image) (r : BikThawed) (left : Image) : Type 0 where
  pub answer : Result AreaCounts FileRefusal
  pub thaws : Thaws file lent answer left
  pub numbers : r ≡ thawed_of (thaw_answer_of answer)

unfoldable pub frozen_of : FreezeAnswer → BikFrozen
frozen_of a = record { refusal = (file_reason_of a.verdict).number; bytes = a.bytes }

-- What `bik_freeze` promises of all areas and every lent output, in the same way.
pub record FreezesForC (X : Image) (output : List ℕ) (r : BikFrozen) (left : List ℕ) : Type 0 where
  pub answer : Result ℕ FileRefusal
  pub freezes : Freezes X output answer left
  pub numbers : r ≡ frozen_of (freeze_answer_of answer)

unfoldable pub record_of : RecordAnswer → BikRecord
record_of a = record {
  refusal = (file_reason_of a.verdict).number;
  offset = (file_reason_of a.verdict).offset;
  kind = a.kind;
  body = a.body;
  next = a.next;
}

-- What `bik_record_at` promises of every file and every offset, in the same way.
pub record ReadsForC (file : List ℕ) (offset : ℕ) (r : BikRecord) : Type 0 where
  pub answer : Result Record FileRefusal
  pub reads : record_answer_of answer ≡ record_at file offset
  pub numbers : r ≡ record_of (record_answer_of answer)
