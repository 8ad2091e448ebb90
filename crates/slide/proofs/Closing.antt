-- Closing up in place, over any set, f and list: a kept word is stored behind those that were kept before it, any other is passed over,
-- or stored where the next kept one will stand.
-- The word at i is still the old one, since no more than i were kept. Assumes nothing.
use Prim.Native.Nat.{ℕ, suc, ◌+◌, ◌-◌, ◌≤◌, ◌<◌}
use mathlib.Core.Path.{◌≡◌, refl, sym, ap, ◌∙◌}
use mathlib.Core.Bool.{Bool, true, false}
use mathlib.Core.List.{List, [], ◌∷◌, ◌++◌, map-append, append-nil}
use native.Mathlib.Omega.{arith}
use native.Mathlib.Numerals.{add-one}
use lib.ListN.{length, get_or, take, drop, set, replicate, length-set, length-take}
use lib.Seq.{drop-set-lt, take-set-le, take-suc, take-suc-set}
use Rattle.std.specs.Int.{from_bool}
use Rattle.machine.specs.Moved.{cons_if, kept, close_up}
use Rattle.machine.proofs.Below.{below-zero, below_in, below_out}
use Rattle.machine.proofs.Parts.{rest_at, rest-later}
use Rattle.slide.specs.Closed.{Passed, Closed}

pub passed_none : (words : List ℕ) → Passed words words 0 0
passed_none words = record { low = omega arith; same = refl; ahead = refl }

-- what stands from i on has not been touched
pub passed-at : {words words' : List ℕ} {i to : ℕ} → Passed words words' i to → (j : ℕ) → i ≤ j → get_or words' j 0 ≡ get_or words j 0
passed-at {words} {words'} {i} p j h = rest_at i words' words p.ahead j h

-- one turn: a word that is kept is stored, any other passed over, or stored and not counted
pub data Turned (Value : ℕ → Type 0) (b : Bool) (words : List ℕ) (to : ℕ) (words' : List ℕ) (to' : ℕ) : Type 0 where
  stored : {v : ℕ} → b ≡ true → Value v → words' ≡ set words to v → to' ≡ to + 1 → Turned Value b words to words' to'
  skipped : b ≡ false → words' ≡ words → to' ≡ to → Turned Value b words to words' to'
  uncounted : (v : ℕ) → b ≡ false → words' ≡ set words to v → to' ≡ to → Turned Value b words to words' to'

-- a word is written down, and counted where it is kept
pub counted : {Value : ℕ → Type 0} {words : List ℕ} {to one : ℕ} (v : ℕ) (b : Bool) → Value v → one ≡ from_bool b → Turned Value b words to (set words to v) (to + one)
counted {to = to} v true w e = stored refl w refl (ap (λ (n : ℕ). to + n) e)
counted v false w e = uncounted v refl refl (omega arith)

pub passed-turn : {Value : ℕ → Type 0} {b : Bool} {words words' words'' : List ℕ} {i to to' : ℕ} → Passed words words' i to → Turned Value b words' to words'' to' → Passed words words'' (i + 1) to'
passed-turn {words = words} {words' = words'} {i = i} {to = to} p (stored {v} e w q r) = rw (q, r) (record {
  low = omega (arith, p.low);
  same = simp length-set p.same;
  ahead = drop-set-lt (i + 1) words' to v (omega (arith, p.low)) ∙ rest-later i words' words p.ahead (i + 1) (omega arith);
})
passed-turn {words = words} {words' = words'} {i = i} p (skipped e q r) = rw (q, r) (record {
  low = omega (arith, p.low);
  same = p.same;
  ahead = rest-later i words' words p.ahead (i + 1) (omega arith);
})
passed-turn {words = words} {words' = words'} {i = i} {to = to} p (uncounted v e q r) = rw (q, r) (record {
  low = omega (arith, p.low);
  same = simp length-set p.same;
  ahead = drop-set-lt (i + 1) words' to v (omega (arith, p.low)) ∙ rest-later i words' words p.ahead (i + 1) (omega arith);
})

-- one passing after the other
pub passed-join : {words words' words'' : List ℕ} {a z to to' : ℕ} → Passed words words' a to → a ≤ z → Passed words' words'' z to' → Passed words words'' z to'
passed-join {words} {words'} {a = a} {z = z} p h q = record {
  low = q.low;
  same = q.same ∙ p.same;
  ahead = q.ahead ∙ rest-later a words' words p.ahead z h;
}

cons_if-append : (b : Bool) (x : ℕ) (xs ys : List ℕ) → cons_if b x (xs ++ ys) ≡ cons_if b x xs ++ ys
cons_if-append true x xs ys = refl
cons_if-append false x xs ys = refl

module _ (keep : ℕ → Bool) where
  kept-snoc : (j : ℕ) (xs : List ℕ) (w : ℕ) → kept keep j (xs ++ (w ∷ [])) ≡ kept keep j xs ++ cons_if (keep (j + length xs)) w []
  unfolding kept
  kept-snoc j [] w = let e : j + 0 ≡ j = omega arith in rw e
  kept-snoc j (x ∷ xs) w =
      let e : j + suc (length xs) ≡ suc j + length xs = omega arith in
      rw (e, kept-snoc (suc j) xs w, cons_if-append)

  kept_more : (i : ℕ) (words : List ℕ) → i < length words → kept keep 0 (take (i + 1) words) ≡ kept keep 0 (take i words) ++ cons_if (keep i) (get_or words i 0) []
  kept_more i words h =
      let e : 0 + length (take i words) ≡ i = simp length-take (omega arith) in
      rw (add-one, take-suc words i 0 h, kept-snoc 0 (take i words) (get_or words i 0), e)

  module _ (f : ℕ → ℕ) (words : List ℕ) where
    pub closed_none : Closed keep f words words 0 0
    unfolding kept
    closed_none = record { count = sym (below-zero keep); front = refl }

    pub closed-turn : {Value : ℕ → Type 0} {b : Bool} {words' words'' : List ℕ} {i to to' : ℕ} → i < length words → b ≡ keep i → ((v : ℕ) → Value v → v ≡ f (get_or words i 0)) → Passed words words' i to → Turned Value b words' to words'' to' → Closed keep f words words' i to → Closed keep f words words'' (i + 1) to'
    closed-turn {words' = words'} {i = i} {to = to} h k m p (stored {v} e w q r) c =
        let o : keep i ≡ true = sym k ∙ e in
        rw (q, r) (record {
          count = rw (add-one to, add-one i) (ap suc c.count ∙ sym (below_in keep i o));
          front =
              rw (kept_more i words h, o, map-append, add-one to, take-suc-set words' to v (omega (arith, p.low, p.same)), c.front, m v w);
        })
    closed-turn {words' = words'} {i = i} {to = to} h k m p (skipped e q r) c =
        let o : keep i ≡ false = sym k ∙ e in
        rw (q, r) (record {
          count = rw add-one (c.count ∙ sym (below_out keep i o));
          front = rw (kept_more i words h, o, append-nil) c.front;
        })
    closed-turn {words' = words'} {i = i} {to = to} h k m p (uncounted v e q r) c =
        let o : keep i ≡ false = sym k ∙ e in
        rw (q, r) (record {
          count = rw add-one (c.count ∙ sym (below_out keep i o));
          front = take-set-le to words' to v (omega arith) ∙ rw (kept_more i words h, o, append-nil) c.front;
        })

    -- zeros behind the kept words
    pub closed-end : {words' : List ℕ} {n to : ℕ} → Passed words words' n to → Closed keep f words words' n to → take to words' ++ (replicate (n - to) 0 ++ drop n words') ≡ close_up keep f n words
    unfolding close_up
    closed-end p c = rw (c.front, p.ahead, c.count)
