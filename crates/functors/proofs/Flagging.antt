-- First cells are flagged one after the other: a word's own, those of the first i words of an area, those of two areas. Assumes nothing.
use Prim.Native.Nat.{ℕ, ◌+◌, ◌≤◌, ◌<◌}
use mathlib.Core.Path.{◌≡◌, refl, sym, ap, ◌∙◌}
use mathlib.Core.Logic.{inl, inr}
use mathlib.Core.Bool.{Bool, true, false, ◌&&◌, ◌||◌}
use mathlib.Core.List.{List, ◌++◌}
use native.Mathlib.Omega.{arith}
use native.Mathlib.Decide.{dec_lt}
use borrow.Author.Tests.{lt-ltb, le-ltb, eq-eqb, ne_eqb}
use lib.Dec.{eqb}
use lib.ListN.{length, get_or, length-append, get_or-append, get_or-eq_default}
use lib.Seq.{ext_get_or}
use Rattle.std.proofs.lemmas.List.{get_or-append-add, get_or-append_right}
use Rattle.machine.specs.Roles.{cell, code_of}
use Rattle.machine.specs.Refusals.{struct_to}
use Rattle.machine.proofs.Tests.{true-false, either, or_cases, or-false, not_so, and-true, and_right, and-rest, and-unless}
use Rattle.machine.proofs.FirstCells.{of_none}
use Rattle.counts.specs.Counts.{marked_in}
use Rattle.cells.specs.Cells.{notes_cell}
use Rattle.functors.specs.Functors.{heap_to, stack_to, any_to, Aims, Flags}
use Rattle.functors.proofs.Slices.{Part}
use Rattle.functors.proofs.Some.{some-none, some_more, some_same}

-- ---- one word

-- nothing is to be flagged
pub flags-nothing : {set : ℕ → Bool} (work : List ℕ) (most : ℕ) → ((x : ℕ) → set x ≡ false) → Flags set work work 0 most
flags-nothing work most f = record {
  on = λ x e. true-false e (f x);
  off = λ x e. refl;
  none = λ z x. f x;
  few = omega arith;
  same = refl;
}

-- ---- two sets

or_swap : (a b : Bool) → (a || b) ≡ (b || a)
or_swap true true = refl
or_swap true false = refl
or_swap false true = refl
or_swap false false = refl

pub flags-join : {P Q R : ℕ → Bool} {a b c : List ℕ} {m n k l : ℕ} → Flags P a b m k → Flags Q b c n l → ((x : ℕ) → R x ≡ (P x || Q x)) → Flags R a c (m + n) (k + l)
flags-join {P} {Q} {R} p q r = record {
  on = λ x e.
      elim (either (Q x)) [
        | inl y ↦ q.on x y
        | inr y ↦
            elim (or_cases (P x) (Q x) (sym (r x) ∙ e)) [
              | inl z ↦ rw (q.off x y) (p.on x z)
              | inr z ↦ true-false z y
            ]
      ];
  off = λ x e. let o = or-false (P x) (Q x) (sym (r x) ∙ e) in q.off x o.1 ∙ p.off x o.0;
  none = λ z x. r x ∙ rw (p.none (omega arith) x, q.none (omega arith) x);
  few = omega (arith, p.few, q.few);
  same = q.same ∙ p.same;
}

pub flags-three : {P Q R : ℕ → Bool} {a b c d : List ℕ} {m n o k l j : ℕ} → Flags P a b m k → Flags Q b c n l → Flags R c d o j → Flags (λ x. R x || (P x || Q x)) a d (m + n + o) (k + l + j)
flags-three {P} {Q} {R} p q r = flags-join (flags-join p q (λ x. refl)) r (λ x. or_swap (R x) (P x || Q x))

-- ---- the words of an area

pub any-more : (test : ℕ → ℕ → Bool) (i x : ℕ) → any_to test (i + 1) x ≡ (any_to test i x || test i x)
unfolding any_to
any-more test i x = let z : 0 + i ≡ i = omega arith in some_more (λ (j : ℕ). test j x) 0 i ∙ ap (λ (j : ℕ). any_to test i x || test j x) z

pub flags-none : (test : ℕ → ℕ → Bool) (work : List ℕ) → Flags (any_to test 0) work work 0 0
unfolding any_to
flags-none test work = flags-nothing work 0 (λ x. some-none (λ (j : ℕ). test j x) 0)

pub flags-more : (test : ℕ → ℕ → Bool) {a b c : List ℕ} {m n i : ℕ} → Flags (any_to test i) a b m i → Flags (test i) b c n 1 → Flags (any_to test (i + 1)) a c (m + n) (i + 1)
flags-more test {i = i} p q = flags-join p q (any-more test i)

pub flags-skip : (test : ℕ → ℕ → Bool) {a b : List ℕ} {m i : ℕ} → Flags (any_to test i) a b m i → ((x : ℕ) → test i x ≡ false) → Flags (any_to test (i + 1)) a b m (i + 1)
flags-skip test {b = b} {m} p f = let z : m + 0 ≡ m = omega arith in rw z at (flags-more test p (flags-nothing b 1 f))

-- of a stack word only where it is noted as a cell; the notes are a list of their own
module _ (stack notes : List ℕ) (i : ℕ) where
  noted : get_or notes i 0 ≡ code_of cell → notes_cell notes 0 i ≡ true
  noted e = let z : 0 + i ≡ i = omega arith in rw z (eq-eqb (get_or notes i 0) (code_of cell) e)

  pub cell_to : get_or notes i 0 ≡ code_of cell → (x : ℕ) → struct_to (get_or stack i 0) x ≡ true → stack_to stack notes 0 i x ≡ true
  unfolding stack_to
  cell_to e x s = and-true (notes_cell notes 0 i) _ (noted e) s

  pub cell-flagged : get_or notes i 0 ≡ code_of cell → {a b : List ℕ} {m : ℕ} → Flags (struct_to (get_or stack i 0)) a b m 1 → Flags (stack_to stack notes 0 i) a b m 1
  unfolding stack_to
  cell-flagged e f = record {
    on = λ x q. f.on x (and_right (notes_cell notes 0 i) _ q);
    off = λ x q. f.off x (and-rest (notes_cell notes 0 i) _ q (noted e));
    none = λ z x. and-unless (notes_cell notes 0 i) _ (λ q. f.none z x);
    few = f.few;
    same = f.same;
  }

  pub no_cell_lem : (get_or notes i 0 ≡ code_of cell → ⊥) → (x : ℕ) → stack_to stack notes 0 i x ≡ false
  unfolding stack_to
  no_cell_lem n x =
      let z : 0 + i ≡ i = omega arith in
      let q : notes_cell notes 0 i ≡ false = rw z (ne_eqb (get_or notes i 0) (code_of cell) n) in
      rw q

-- they stand behind the heap's part of the work words
module _ {work : List ℕ} (front notes : List ℕ) {behind : ℕ} (parts : work ≡ front ++ notes) (long : length front ≡ behind) where
  note-same : (i : ℕ) → get_or notes (0 + i) 0 ≡ get_or work (behind + i) 0
  note-same i =
      let z : 0 + i ≡ i = omega arith in
      ap (λ (j : ℕ). get_or notes j 0) z ∙ sym (get_or-append-add front notes i 0) ∙ ap (λ (n : ℕ). get_or (front ++ notes) (n + i) 0) long
      ∙ ap (λ (l : List ℕ). get_or l (behind + i) 0) (sym parts)

  stack-same : (stack : List ℕ) (i x : ℕ) → stack_to stack notes 0 i x ≡ stack_to stack work behind i x
  unfolding stack_to
  stack-same stack i x = ap (λ (w : ℕ). eqb w (code_of cell) && struct_to (get_or stack i 0) x) (note-same i)

  pub noted-aims : (stack : List ℕ) {n top : ℕ} → Aims (stack_to stack work behind) n top → Aims (stack_to stack notes 0) n top
  noted-aims stack a = record { below = λ i x l e. a.below i x l (sym (stack-same stack i x) ∙ e) }

  noted-any : (stack : List ℕ) (n x : ℕ) → any_to (stack_to stack notes 0) n x ≡ any_to (stack_to stack work behind) n x
  unfolding any_to
  noted-any stack n x = some_same (λ (i : ℕ). stack_to stack notes 0 i x) (λ (i : ℕ). stack_to stack work behind i x) 0 n (λ i a b. stack-same stack i x)

  pub noted-flags : (stack : List ℕ) (n : ℕ) {a b : List ℕ} {m k : ℕ} → Flags (any_to (stack_to stack notes 0) n) a b m k → Flags (any_to (stack_to stack work behind) n) a b m k
  noted-flags stack n f = record {
    on = λ x e. f.on x (noted-any stack n x ∙ e);
    off = λ x e. f.off x (noted-any stack n x ∙ e);
    none = λ z x. sym (noted-any stack n x) ∙ f.none z x;
    few = f.few;
    same = f.same;
  }

  -- flags in the heap's part leave the notes
  pub flags-beside : {set : ℕ → Bool} {front' : List ℕ} {m k : ℕ} → Flags set front front' m k → Flags set work (front' ++ notes) m k
  flags-beside {set} {front'} f = record {
    on = λ x e.
        elim (dec_lt x (length front')) [
          | yes l ↦ get_or-append front' notes 0 x l ∙ f.on x e
          | no n ↦ absurd (omega (arith, f.on x e, get_or-eq_default front' 0 {n = x} (omega arith)))
        ];
    off = λ x e.
        elim (dec_lt x (length front)) [
          | yes l ↦ rw parts (get_or-append front' notes 0 x (omega (arith, f.same)) ∙ f.off x e ∙ sym (get_or-append front notes 0 x l))
          | no n ↦ rw parts (get_or-append_right front' notes (length front) x 0 f.same (omega arith) ∙ sym (get_or-append_right front notes (length front) x 0 refl (omega arith)))
        ];
    none = f.none;
    few = f.few;
    same = omega (arith, f.same, ap length parts, length-append front notes, length-append front' notes);
  }

-- of a list of words, as the test of the area that they are of says
module _ {words : List ℕ} {read : ℕ → ℕ} {n : ℕ} (p : Part words read n) (test : ℕ → ℕ → Bool) (like : (i x : ℕ) → test i x ≡ struct_to (read i) x) where
  word-to : (i x : ℕ) → i < n → heap_to words i x ≡ test i x
  unfolding heap_to
  word-to i x l = ap (λ (w : ℕ). struct_to w x) (p.word i l) ∙ sym (like i x)

  pub part-aims : {top : ℕ} → Aims test n top → Aims (heap_to words) (length words) top
  part-aims a = let l = p.count in record { below = λ i x m e. a.below i x (omega arith) (sym (word-to i x (omega arith)) ∙ e) }

  part-any : (x : ℕ) → any_to (heap_to words) (length words) x ≡ any_to test n x
  unfolding any_to
  part-any x = rw p.count (some_same (λ (i : ℕ). heap_to words i x) (λ (i : ℕ). test i x) 0 n (λ i a b. word-to i x (omega arith)))

  pub part-flags : {a b : List ℕ} {m : ℕ} → Flags (any_to (heap_to words) (length words)) a b m (length words) → Flags (any_to test n) a b m n
  part-flags f = record {
    on = λ x e. f.on x (part-any x ∙ e);
    off = λ x e. f.off x (part-any x ∙ e);
    none = λ z x. sym (part-any x) ∙ f.none z x;
    few = omega (arith, f.few, p.count);
    same = f.same;
  }

-- nothing is flagged at or above the top
pub aims-clear : {test : ℕ → ℕ → Bool} {n top : ℕ} → Aims test n top → (i : ℕ) → i ≤ n → (x : ℕ) → top ≤ x → any_to test i x ≡ false
unfolding any_to
aims-clear {test} a i l x t = of_none (λ (j : ℕ). test j x) 0 i (λ j p q. not_so (test j x) (λ e. omega (arith, a.below j x (omega arith) e)))

-- ---- what flags say where there were none

module _ {set : ℕ → Bool} {work work' : List ℕ} {met most : ℕ} (f : Flags set work work' met most) where
  pub flagged : (x : ℕ) → get_or work x 0 ≡ 0 → marked_in work' x ≡ set x
  flagged x z =
      elim (either (set x)) [
        | inl e ↦ lt-ltb 0 (get_or work' x 0) (omega (arith, f.on x e)) ∙ sym e
        | inr e ↦ le-ltb 0 (get_or work' x 0) (omega (arith, f.off x e)) ∙ sym e
      ]

  pub one-flag : (x : ℕ) → get_or work x 0 ≡ 0 → get_or work' x 0 ≤ 1
  one-flag x z =
      elim (either (set x)) [
        | inl e ↦ omega (arith, f.on x e)
        | inr e ↦ omega (arith, f.off x e)
      ]

  pub unflagged : met ≡ 0 → work' ≡ work
  unflagged z = ext_get_or 0 work' work f.same (λ x l. f.off x (f.none z x))
