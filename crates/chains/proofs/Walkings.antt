-- A walk along one chain, of frames or of choice points: the notes written so far, and the thing that is due in place of the first one,
-- and whose first fault is that of the first one. Assumes nothing.
use Prim.Native.Nat.{ℕ, ◌+◌, ◌≤◌}
use Rattle.std.specs.Prelude.{Result, Ok, Err}
use mathlib.Core.Path.{◌≡◌}
use mathlib.Core.Logic.{◌≢◌}
use mathlib.Core.Bool.{Bool, true}
use mathlib.Core.List.{List, ◌∷◌}
use native.Mathlib.Omega.{arith}
use lib.ListN.{length, get_or}
use Rattle.machine.specs.Layout.{Image, L, E, B, T, H, N, none, at, size_of, frame_fixed, link_place}
use Rattle.machine.specs.Chains.{Thing, frame, point, index_of, Fault, whole, broken}
use Rattle.machine.proofs.Chains.{PointOk}
use Rattle.machine.proofs.Links.{Ok as Sound}
use Rattle.chains.specs.Noting.{ShowsSize, Kept, FrameNoted, PointNoted, Noting, FaultFrom, ended, found, above, inside, older, Walked}
use Rattle.chains.proofs.Stores.{kept-none, kept-join, kept-wide}
use Rattle.chains.proofs.Readings.{field_in, read-field, read-size, read-link}
use Rattle.chains.proofs.Notings.{noting-none, noting-frame, noting-again, noting-point}

-- x is due in place of x₀
pub record Walking (X : Image) (x₀ : Thing) (notes₀ : List ℕ) (x : Thing) (notes : List ℕ) : Type 0 where
  pub kept : Kept 0 (length X.stack) notes₀ notes
  pub due : (rest : List Thing) → Noting X (x₀ ∷ rest) notes₀ → Noting X (x ∷ rest) notes
  pub fault : (rest : List Thing) → Noting X (x₀ ∷ rest) notes₀ → (f : Fault) → FaultFrom X x f → FaultFrom X x₀ f

pub walking_start : {X : Image} {x : Thing} {notes : List ℕ} → Walking X x notes x notes
walking_start = record { kept = kept-none; due = λ rest n. n; fault = λ rest n f z. z }

module _ {X : Image} {x₀ : Thing} {notes₀ : List ℕ} {x : Thing} {notes : List ℕ} (w : Walking X x₀ notes₀ x notes) where
  -- the chain ends
  pub walked_none : index_of x ≡ none → Walked X x₀ notes₀ (Ok tt) notes
  walked_none e = record {
    kept = w.kept;
    noted = λ rest n. (noting-none (w.due rest n) e, w.fault rest n whole (ended e));
    stopped = λ rest n. tt;
  }

  -- the chain is broken
  pub walked-broken : index_of x ≢ none → (Sound X x → ⊥) → Walked X x₀ notes₀ (Err (index_of x)) notes
  walked-broken e f = record {
    kept = w.kept;
    noted = λ rest n. tt;
    stopped = λ rest n. w.fault rest n (broken (index_of x)) (found e f);
  }

module _ {X : Image} {x₀ : Thing} {notes₀ : List ℕ} {e k limit : ℕ} {notes notes' : List ℕ} (w : Walking X x₀ notes₀ (frame e k limit) notes) where
  module _ (some : e ≢ none) (ends : e + frame_fixed + k ≤ limit) (low : limit ≤ length X.stack) (g : FrameNoted e k notes notes') where
    frame-kept : Kept 0 (length X.stack) notes₀ notes'
    frame-kept = kept-join w.kept (kept-wide (omega arith) (omega arith) g.kept)

    pub walking-frame : Walking X x₀ notes₀ (frame (get_or X.stack (e + link_place) 0) (size_of (get_or X.stack e 0)) e) notes'
    walking-frame = record {
      kept = frame-kept;
      due = λ rest n. rw (read-link X e, read-size X e) (noting-frame (w.due rest n) some ends g);
      fault = λ rest n f z. w.fault rest n f (above some ends (rw (read-link X e, read-size X e) at z));
    }

    -- a frame noted before led to the rest of the chain, which is without fault
    pub walked-again : {r : Bool} → ShowsSize (get_or notes e 0) r → r ≡ true → Walked X x₀ notes₀ (Ok tt) notes'
    walked-again s z = record {
      kept = frame-kept;
      noted = λ rest n. let a = noting-again (w.due rest n) some ends g (omega arith) s z in (a.0, w.fault rest n whole a.1);
      stopped = λ rest n. tt;
    }

module _ {X : Image} {x₀ : Thing} {notes₀ : List ℕ} {b limit t h : ℕ} {notes notes' : List ℕ} (w : Walking X x₀ notes₀ (point b limit t h) notes) where
  module _ (some : b ≢ none) (ok : PointOk X b limit t h) (g : PointNoted b (field_in X.stack b N) notes notes') where
    -- the choice point is noted, its frame and the older choice point are due
    frame-due : (rest : List Thing) → Noting X (x₀ ∷ rest) notes₀ → Noting X (frame (at X b E) (size_of (at X b L)) b ∷ point (at X b B) b (at X b T) (at X b H) ∷ rest) notes'
    frame-due rest n = noting-point (w.due rest n) some ok (rw (read-field X b N) at g)

    module _ (low : limit ≤ length X.stack) {r : Result Unit ℕ} {notes'' : List ℕ} (f : Walked X (frame (field_in X.stack b E) (size_of (field_in X.stack b L)) b) notes' r notes'') where
      point-kept : Kept 0 (length X.stack) notes₀ notes''
      point-kept = kept-join (kept-join w.kept (kept-wide (omega arith) (omega (arith, ok.ends, read-field X b N)) g.kept)) f.kept

      -- the walk of its frames
      walked : Walked X (frame (at X b E) (size_of (at X b L)) b) notes' r notes''
      walked = rw (read-field X b E, read-field X b L) at f

    module _ (low : limit ≤ length X.stack) {notes'' : List ℕ} where
      pub walking-point : {u : Unit} → Walked X (frame (field_in X.stack b E) (size_of (field_in X.stack b L)) b) notes' (Ok u) notes'' → Walking X x₀ notes₀ (point (field_in X.stack b B) b (field_in X.stack b T) (field_in X.stack b H)) notes''
      walking-point f = rw (read-field X b B, read-field X b T, read-field X b H) (record {
        kept = point-kept low f;
        due = λ rest n. ((walked low f).noted (point (at X b B) b (at X b T) (at X b H) ∷ rest) (frame-due rest n)).0;
        fault = λ rest n g y. w.fault rest n g (older some ok ((walked low f).noted (point (at X b B) b (at X b T) (at X b H) ∷ rest) (frame-due rest n)).1 y);
      })

      pub walked-frame-broken : {i : ℕ} → Walked X (frame (field_in X.stack b E) (size_of (field_in X.stack b L)) b) notes' (Err i) notes'' → Walked X x₀ notes₀ (Err i) notes''
      walked-frame-broken {i} f = record {
        kept = point-kept low f;
        noted = λ rest n. tt;
        stopped = λ rest n. w.fault rest n (broken i) (inside some ok ((walked low f).stopped (point (at X b B) b (at X b T) (at X b H) ∷ rest) (frame-due rest n)));
      }
