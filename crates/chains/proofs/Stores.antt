-- What keeps all words but those of a part, and a part of the words as a list of its own. Assumes nothing.
use Prim.Native.Nat.{ℕ, ◌+◌, ◌-◌, ◌≤◌, ◌<◌}
use mathlib.Core.Path.{◌≡◌, refl, ◌∙◌}
use mathlib.Core.List.{List}
use native.Mathlib.Omega.{arith}
use native.Mathlib.Decide.{dec_lt}
use lib.ListN.{length, get_or, take, drop, length-take, length-drop}
use lib.Seq.{get_or-take, get_or-drop}
use borrow.Rule.Slice.PartMut.{put_mid, same_len_mid}
use Rattle.std.proofs.lemmas.List.{places}
use Rattle.std.proofs.Common.{rules}
use Rattle.machine.proofs.Parts.{front_same, rest-same}
use Rattle.chains.specs.Noting.{Kept}

module _ {a z : ℕ} where
  pub kept-none : {w : List ℕ} → Kept a z w w
  kept-none = record { outside = λ j o. refl; same = refl }

  pub kept-join : {u v w : List ℕ} → Kept a z u v → Kept a z v w → Kept a z u w
  kept-join k l = record { outside = λ j o. l.outside j o ∙ k.outside j o; same = l.same ∙ k.same }

  pub kept-wide : {a' z' : ℕ} {u v : List ℕ} → a' ≤ a → z ≤ z' → Kept a z u v → Kept a' z' u v
  kept-wide l m k = record { outside = λ j o. k.outside j (λ p q. o (omega arith) (omega arith)); same = k.same }

  pub kept-before : {u v : List ℕ} → Kept a z u v → take a v ≡ take a u
  kept-before {u} {v} k = front_same a v u k.same (λ i l. k.outside i (λ p q. omega arith))

  pub kept-after : {u v : List ℕ} → a ≤ z → Kept a z u v → drop z v ≡ drop z u
  kept-after {u} {v} o k = rest-same z v u k.same (λ j l. k.outside j (λ p q. omega arith))

-- ---- a part of the words, in its place: k words from a on

module _ (a k : ℕ) (w : List ℕ) where
  pub part-was : (i : ℕ) → i < k → get_or (take k (drop a w)) i 0 ≡ get_or w (a + i) 0
  part-was i q = get_or-take k (drop a w) i 0 q ∙ get_or-drop a w i 0

  module _ (part : List ℕ) (l : a + k ≤ length w) where
    pub part-is : length part ≡ length (take k (drop a w)) → (i : ℕ) → i < k → get_or (put_mid a k w part) (a + i) 0 ≡ get_or part i 0
    part-is same i q =
        let long : length part ≡ k = omega (arith, same, length-take k (drop a w), length-drop a w) in
        search (rules, places)

    pub kept-part : {z : ℕ} → a ≤ z → z ≤ a + k → Kept 0 (z - a) (take k (drop a w)) part → Kept a z w (put_mid a k w part)
    kept-part {z} m n g =
        let long : length part ≡ k = omega (arith, g.same, length-take k (drop a w), length-drop a w) in
        record {
          outside = λ j o.
              elim (dec_lt j a) [
                | yes h ↦ search (rules, places)
                | no h ↦
                    elim (dec_lt j (a + k)) [
                      | no q ↦ let past : a + k ≤ j = omega arith in search (rules, places)
                      | yes q ↦
                          let e : a + (j - a) ≡ j = omega arith in
                          rw (← e) (part-is g.same (j - a) (omega arith) ∙ g.outside (j - a) (λ c d. o (omega arith) (omega arith)) ∙ part-was (j - a) (omega arith))
                    ]
              ];
          same = same_len_mid a k w part g.same;
        }
