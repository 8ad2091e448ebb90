-- One record at an offset of a file, and so many of one kind in a row. Document 01, 'Freeze file'. Assumes nothing.
use Rattle.std.specs.Prelude.{ℕ, zero, suc, ◌+◌, ◌*◌, Bool, List, [], ◌∷◌, length, get_or, eqb, leb, Result, Ok, Err}
use Rattle.freeze.specs.declared.FileRefusal.{FileRefusal}
use Rattle.freeze.specs.declared.FileRefusal.TheVariants.{Cut, Kind}
use Rattle.freeze.specs.declared.Record.{Record}
use Rattle.freeze.specs.Kinds.{pick, word_body, used, record_size}
use Rattle.freeze.specs.Verdicts.{FileVerdict, accepted, verdict_of, or_else, if_accepted}

abbrev pub kind_at : List ℕ → ℕ → ℕ
kind_at file at = get_or file at 0

-- "10 file ends early (offset of the cut record, or the file's length if none has begun); 11 another kind than the expected one
-- (offset of that record, whether or not its body is whole)": the record at an offset, whose kind must pass a test
unfoldable pub record_verdict : (ℕ → Bool) → List ℕ → ℕ → FileVerdict
record_verdict right file at =
    pick (leb (length file) at) (verdict_of (Cut (length file)))
    (pick (right (kind_at file at))
    (pick (leb (at + record_size (kind_at file at)) (length file)) accepted (verdict_of (Cut at)))
    (verdict_of (Kind at)))

-- "It answers kind, body start and next offset; or 11 for an unused kind, 10 for a cut or missing record, as above": the numbers of a
-- refusal are 0
pub record RecordAnswer : Type 0 where
  pub verdict : FileVerdict
  pub kind : ℕ
  pub body : ℕ
  pub next : ℕ

unfoldable pub record_answer_of : Result Record FileRefusal → RecordAnswer
record_answer_of (Ok r) = record { verdict = accepted; kind = r.kind; body = r.body; next = r.next }
record_answer_of (Err refusal) = record { verdict = verdict_of refusal; kind = 0; body = 0; next = 0 }

unfoldable pub record_at : List ℕ → ℕ → RecordAnswer
record_at file at =
    let verdict = record_verdict used file at in
    record {
      verdict = verdict;
      kind = if_accepted verdict (kind_at file at) 0;
      body = if_accepted verdict (at + 1) 0;
      next = if_accepted verdict (at + record_size (kind_at file at)) 0;
    }

-- ".., the offset staying": where the reader stands after it read at an offset
unfoldable pub offset_after : List ℕ → ℕ → ℕ
offset_after file at = let answer = record_at file at in if_accepted answer.verdict answer.next at

-- n records of one kind in a row, the first at an offset
unfoldable pub records_verdict : List ℕ → ℕ → ℕ → ℕ → FileVerdict
records_verdict file kind at zero = accepted
records_verdict file kind at (suc n) =
    let later = records_verdict file kind (at + record_size kind) n in
    or_else (record_verdict (λ k. eqb k kind) file at) later

-- "numbers little-endian"
unfoldable pub number_at : List ℕ → ℕ → ℕ
number_at file i = get_or file i 0 + 256 * get_or file (i + 1) 0 + 65536 * get_or file (i + 2) 0 + 16777216 * get_or file (i + 3) 0

-- word j of the body of the record at an offset
abbrev pub word_in : List ℕ → ℕ → ℕ → ℕ
word_in file at j = number_at file (at + 1 + j * word_body)

-- the words of n records of one kind in a row
unfoldable pub words : List ℕ → ℕ → ℕ → ℕ → List ℕ
words file kind at zero = []
words file kind at (suc n) = word_in file at 0 ∷ words file kind (at + record_size kind) n
