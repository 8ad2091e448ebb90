-- What the inner functions of the file parts promise one another. No public promise cites this page. Assumes nothing.
use Rattle.std.specs.Prelude.{ℕ, ◌+◌, ◌^◌, ◌<◌, ◌≡◌, List, length, Result, MatchResult}
use Rattle.std.proofs.lemmas.List.Edits.{sets}
use Rattle.freeze.specs.declared.AreaCounts.{AreaCounts}
use Rattle.freeze.specs.declared.FileRefusal.{FileRefusal}
use Rattle.freeze.specs.Kinds.{word_body, body_of, past}
use Rattle.freeze.specs.Verdicts.{FileVerdict, accepted, verdict_of}
use Rattle.freeze.specs.Records.{records_verdict, words}
use Rattle.freeze.specs.Thaw.{front}

-- what a check with this verdict answers: where it comes to its end or what it finds, or why it is refused
abbrev pub Checks : {A : Type 0} → FileVerdict → A → Result A FileRefusal → Type 0
Checks v found r = MatchResult r (λ x. (v ≡ accepted) × (x ≡ found)) (λ q. v ≡ verdict_of q)

-- n whole records of one word each, from an offset on
pub record Whole (file : List ℕ) (kind at n : ℕ) : Type 0 where
  pub word : body_of kind ≡ word_body
  pub whole : records_verdict file kind at n ≡ accepted

pub record Fills (file : List ℕ) (kind at n : ℕ) (area : List ℕ) (r : ℕ) (left : List ℕ) : Type 0 where
  pub next : r ≡ past at kind n
  pub filled : left ≡ front area (words file kind at n)

pub record Writes (output : List ℕ) (at : ℕ) (bytes : List ℕ) (r : ℕ) (left : List ℕ) : Type 0 where
  pub next : r ≡ at + length bytes
  pub written : left ≡ sets output at bytes

-- counts of areas of legal size: each is a word
pub record Small (n : AreaCounts) : Type 0 where
  pub control : n.control < 2 ^ 32
  pub stack : n.stack < 2 ^ 32
  pub heap : n.heap < 2 ^ 32
  pub trail : n.trail < 2 ^ 32
