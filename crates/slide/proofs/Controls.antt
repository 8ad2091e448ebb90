-- The saved arguments are moved one after the other, as a part of the control area, and then T and H are written: word by word that is
-- `move_control_word`. Assumes nothing.
use Prim.Native.Nat.{ℕ, ◌+◌, ◌-◌, ◌≤◌, ◌<◌}
use mathlib.Core.Path.{◌≡◌, sym, ◌∙◌}
use mathlib.Core.Logic.{◌≢◌}
use mathlib.Core.Bool.{Bool}
use mathlib.Core.List.{List}
use native.Mathlib.Omega.{arith}
use native.Mathlib.Decide.{ℕ_discrete, dec_lt}
use borrow.Author.Rules.{rules}
use borrow.Rule.Slice.PartMut.{put_mid, mid_of}
use lib.ListN.{length, get_or, set, length-set, length-take, length-drop}
use lib.Seq.{get_or-set_same, get_or-set_other}
use Rattle.std.proofs.lemmas.List.{places}
use Rattle.machine.specs.Layout.{T, H, N, place_of, fixed, field}
use Rattle.machine.specs.Moved.{below, move_word, each}
use Rattle.machine.proofs.Each.{each-is}
use Rattle.machine.proofs.InPlace.{InPlace}
use Rattle.counts.specs.Counts.{Counting}
use Rattle.slide.specs.Slides.{move_control_word}
use Rattle.slide.proofs.Words.{control-T, control-H, control-argument, control-low, control-high}

-- what an argument w becomes, whichever set of kept cells is counted
abbrev pub Becomes : List ℕ → ℕ → ℕ → ℕ → Type 0
Becomes counts i w v = (cells : ℕ → Bool) → Counting cells (length counts) counts → v ≡ move_word (below cells) w

argument-at : (l : List ℕ) (n : ℕ) → fixed + n ≤ length l → (i : ℕ) → i < n → get_or (mid_of fixed n l) i 0 ≡ get_or l (fixed + i) 0
argument-at l n h i m = search (rules, places)

-- the first i of the n arguments are moved
module _ (l : List ℕ) (n : ℕ) {counts ys : List ℕ} {i : ℕ} (p : InPlace (Becomes counts) (mid_of fixed n l) ys i) (h : fixed + n ≤ length l) where
  pub argument-left : i < n → get_or ys i 0 ≡ get_or l (fixed + i) 0
  argument-left m = p.left i (omega arith) ∙ argument-at l n h i m

  -- all of them: what stands before and behind them stays
  module _ (all : n ≤ i) (e : n ≡ field l 0 N) (total kept : ℕ) (cells : ℕ → Bool) (c : Counting cells (length counts) counts) where
    part : length (mid_of fixed n l) ≡ n
    part = simp (length-take, length-drop) (omega arith)

    same : length ys ≡ n
    same = p.same ∙ part

    length_put : length (put_mid fixed n l ys) ≡ length l
    length_put = let s : length ys ≡ n = same in search (rules, places)

    moved-at : (x : ℕ) → x ≢ place_of T → x ≢ place_of H → get_or (put_mid fixed n l ys) x 0 ≡ move_control_word cells total kept l x (get_or l x 0)
    moved-at x t m =
        let s : length ys ≡ n = same in
        elim (dec_lt x fixed) [
          | yes o ↦
              let w : get_or (put_mid fixed n l ys) x 0 ≡ get_or l x 0 = search (rules, places) in
              w ∙ sym (control-low cells total kept l x _ t m o)
          | no o ↦
              elim (dec_lt x (fixed + n)) [
                | yes b ↦
                    let k = x - fixed in
                    let f : fixed + k ≡ x = omega arith in
                    let w : get_or (put_mid fixed n l ys) x 0 ≡ get_or ys k 0 = search (rules, places) in
                    w ∙ p.done k (omega arith) (omega (arith, part)) cells c ∙ rw (argument-at l n h k (omega arith), f) (sym (control-argument cells total kept l x _ (omega arith) (omega arith)))
                | no b ↦
                    let w : get_or (put_mid fixed n l ys) x 0 ≡ get_or l x 0 = search (rules, places) in
                    w ∙ sym (control-high cells total kept l x _ (omega arith))
              ]
        ]

    -- and T and H are written
    pub control-slid : set (set (put_mid fixed n l ys) (place_of T) kept) (place_of H) total ≡ each (move_control_word cells total kept l) 0 l
    control-slid =
        let with_t = set (put_mid fixed n l ys) (place_of T) kept in
        let long : length with_t ≡ length l = simp length-set length_put in
        each-is (move_control_word cells total kept l) l (set with_t (place_of H) total) (simp length-set length_put) (λ x b.
        elim (ℕ_discrete x (place_of H)) [
          | yes e ↦ rw (e, get_or-set_same with_t (place_of H) total 0 (omega arith)) (sym (control-H cells total kept l _))
          | no m ↦
              get_or-set_other with_t (place_of H) x total 0 m
              ∙ elim (ℕ_discrete x (place_of T)) [
                | yes e ↦ rw (e, get_or-set_same (put_mid fixed n l ys) (place_of T) kept 0 (omega (arith, length_put))) (sym (control-T cells total kept l _))
                | no t ↦ get_or-set_other (put_mid fixed n l ys) (place_of T) x kept 0 t ∙ moved-at x t m
              ]
        ])
