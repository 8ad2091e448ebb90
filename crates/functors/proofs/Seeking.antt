-- What a search by `find`, `position` or `all` asks of each call of its test, and what it tells: the lowest index that the test holds of.
-- Assumes nothing.
use Prim.Native.Nat.{ℕ, ◌+◌, ◌-◌, ◌≤◌, ◌<◌}
use mathlib.Core.Path.{◌≡◌, refl, sym, subst, ◌∙◌}
use mathlib.Core.Bool.{Bool, true, false}
use mathlib.Core.List.{List}
use native.Mathlib.Omega.{arith}
use denote.Ref.{Bor}
use lib.ListN.{length, get_or, take, drop}
use Rattle.std.proofs.Common.{Iter}
use Rattle.std.specs.Prelude.{Option, Some, None, MatchOption}
use Rattle.std.specs.Iterator.{CallableAtEachTurn}
use Rattle.std.proofs.iter.Serving.{same}
use Rattle.std.proofs.iter.Yields.{fronts}
use Rattle.std.proofs.lemmas.Grind.{get_or_default_zero}
use Rattle.std.proofs.lemmas.Iterator.{YieldsList-from_slice}
use Rattle.std.proofs.lemmas.Iterator.Consumers.{YieldsList-turn}
use Rattle.machine.specs.Layout.{Image, H, N, fixed, reg}
use Rattle.machine.specs.Lowest.{Lowest}
use Rattle.functors.specs.Functors.{covers_in, covers_heap, covers_control, Contained, Tallied, Owned, Telling}
use Rattle.functors.proofs.Slices.{heap-part, control-part, each-word, lowest-read}

-- over a range
pub lowest-found : (bad : ℕ → Bool) (n : ℕ) (r : Option ℕ) → MatchOption r ((k : ℕ) → 0 ≤ k → k < n → k < n → bad k ≡ false) (λ i. (0 ≤ i) × (i < n) × (i < n → bad i ≡ true) × ((k : ℕ) → 0 ≤ k → k < i → k < n → bad k ≡ false)) → Lowest bad n r
lowest-found bad n None f = λ i l. f i (omega arith) l l
lowest-found bad n (Some i) f = (f.1, f.2 f.1, λ j l. f.3 j (omega arith) l (omega (arith, f.1)))

-- over a list of words: the test is asked of them alone
pub serves-words : {P : Type 0} {R : P → Bor ℕ → P → Type 0} {Q : P → Bor ℕ → Type 0} {s : Iter ℕ} {p : P} (xs : List ℕ) → s.rest.now ≡ xs → ((q : P) (x : Bor ℕ) (t : P) → R q x t → t ≡ q) → ((x : Bor ℕ) (i : ℕ) → i < length xs → x.now ≡ get_or xs i 0 → Q p x) → CallableAtEachTurn fronts R Q s p
serves-words {R = R} {Q} {p = p} xs a stays h = record {
  at = λ ys t q x u y c e.
      let w = YieldsList-turn (YieldsList-from_slice xs a) ys t y (Some x) u x refl e in
      subst (λ k. Q k x) (sym (same R stays ys p q c)) (h x (length ys) w.0 (w.1 ∙ get_or_default_zero xs (length ys) x.now w.0));
}

-- the words of an area, which were sought in a list of their own
abbrev pub Sought : List ℕ → ℕ → List ℕ → ℕ → List ℕ → Option ℕ → Type 0
Sought heap h work total words r = (firsts : ℕ → Bool) → Tallied firsts heap h work total → ((i : ℕ) → i < length words → Owned firsts (get_or words i 0)) → Lowest (λ i. covers_in firsts heap (get_or words i 0)) (length words) r

module _ {X : Image} {work : List ℕ} {notes : ℕ} (k : Contained X work notes) {firsts : ℕ → Bool} {total : ℕ} (t : Telling firsts X work notes total) where
  pub heap-lowest : (r : Option ℕ) → Sought X.heap (reg X H) work total (take (reg X H) X.heap) r → Lowest (covers_heap firsts X.heap) (reg X H) r
  unfolding covers_heap
  heap-lowest r f =
      let p = heap-part X.heap (reg X H) k.top in
      lowest-read _ _ _ p (covers_in firsts X.heap) r (f firsts t.tallied (each-word _ _ _ p (Owned firsts) t.owns.of_heap))

  pub control-lowest : (r : Option ℕ) → Sought X.heap (reg X H) work total (take (fixed + reg X N - fixed) (drop fixed X.control)) r → Lowest (covers_control firsts X.heap X.control) (reg X N) r
  unfolding covers_control
  control-lowest r f =
      let p = control-part X.control (reg X N) k.arguments in
      lowest-read _ _ _ p (covers_in firsts X.heap) r (f firsts t.tallied (each-word _ _ _ p (Owned firsts) t.owns.of_control))
