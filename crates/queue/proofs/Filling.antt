-- The three steps of the search, one after the other: what each needs, and what the work words hold at the end. Assumes nothing.
use Prim.Native.Nat.{ℕ, ◌+◌, ◌-◌, ◌<◌}
use mathlib.Core.Path.{◌≡◌, refl, sym, ap, ◌∙◌, subst}
use mathlib.Core.List.{List, ◌++◌}
use native.Mathlib.Omega.{arith}
use native.Mathlib.Decide.{ℕ_discrete}
use borrow.Author.Tests.{lt-ltb, le-ltb}
use lib.ListN.{get_or, length, take, drop}
use Rattle.cell.proofs.Words.{const-refers-nothing}
use Rattle.machine.specs.Layout.{H, N, field, argument}
use Rattle.machine.specs.Roles.{cell, code_of}
use Rattle.mark.specs.Marks.{Within, Markable, in_control, on_stack}
use Rattle.mark.proofs.Parted.{Parted, front_length, front-clear, note-same, put_at, put_rest, put_length}
use Rattle.queue.specs.Filled.{met_bit, level_bit, entry_of, begins_at, nothing, root_word, root_count, Filled}
use Rattle.queue.specs.Entering.{Readable, ReadAll, stack_word}
use Rattle.queue.specs.Reading.{Searched, Followed}
use Rattle.queue.proofs.Puts.{unmet-le}
use Rattle.queue.proofs.Entering.{all-length, all-level, readable-after}
use Rattle.queue.proofs.Below.{stack-cell, stack-nothing}
use Rattle.queue.proofs.Turns.{searched-none, searched-all}
use Rattle.queue.proofs.Levels.{levelled-same}

module _ {control stack heap work front notes : List ℕ} (c : Parted control stack heap work front notes) where
  abbrev k : Markable control stack heap work
  k = c.markable

  abbrev h : ℕ
  h = field control 0 H

  abbrev n : ℕ
  n = field control 0 N

  abbrev word : ℕ → ℕ
  word = root_word control stack heap work

  abbrev roots : ℕ
  roots = root_count control stack

  front-zero : (x : ℕ) → get_or (take h front) x 0 ≡ 0
  front-zero x = omega (arith, front-clear c x)

  pub arguments-readable : Readable heap (argument control 0) n (take h front) 0
  arguments-readable = record {
    fit = record {
      small = omega (arith, front_length c, k.top, k.small);
      room = omega (arith, unmet-le (take h front));
      inside = λ j l. absurd (omega arith);
      free = λ j l. omega (arith, front-zero j);
    };
    deep = omega (arith, front_length c, k.top);
    within = λ s l x r. omega (arith, front_length c, k.roots (argument control 0 s) (in_control s l) x r);
  }

  -- a root's word, before and from the stack's first word on
  root-argument : (i : ℕ) → i < n → word (0 + i) ≡ argument control 0 i
  unfolding root_word
  root-argument i l = let e : 0 + i ≡ i = omega arith in rw (e, lt-ltb i n l)

  root-stack : (i : ℕ) → word (n + i) ≡ stack_word stack notes i
  unfolding root_word stack_word
  root-stack i = let e : n + i - n ≡ i = omega arith in rw (le-ltb (n + i) n (omega arith), e, note-same c i)

  stack-within : (i : ℕ) → i < length stack → Within h heap (stack_word stack notes i)
  stack-within i l =
      elim (ℕ_discrete (get_or notes i 0) (code_of cell)) [
        | yes e ↦ rw (stack-cell stack notes i e) (k.roots (get_or stack i 0) (on_stack i l (note-same c i ∙ e)))
        | no e ↦ rw (stack-nothing stack notes i e) (λ x r. absurd (const-refers-nothing heap nothing refl x r))
      ]

  -- ---- after the saved arguments

  module _ {m : List ℕ} {t : ℕ} (p : ReadAll heap (argument control 0) (take h front) 0 n m t) where
    same : length m ≡ h
    same = all-length p ∙ front_length c

    arguments-searched : Searched heap word roots (0 + n) m t
    arguments-searched =
        searched-all 0 (omega arith) root-argument arguments-readable (searched-none (take h front) (λ x l. front-zero x)) (omega arith) p

    pub cells-readable : Readable heap (stack_word stack notes) (length stack) m t
    cells-readable =
        let b = readable-after arguments-readable (omega arith) p in
        record { fit = b.fit; deep = b.deep; within = λ s l x r. omega (arith, same, stack-within s l x r) }

    -- ---- after the stack's cells

    module _ {m₁ : List ℕ} {u : ℕ} (q : ReadAll heap (stack_word stack notes) m t (length stack) m₁ u) where
      cells-keep-length : length m₁ ≡ h
      cells-keep-length = all-length q ∙ same

      cells-searched : Searched heap word roots roots m₁ u
      cells-searched =
          searched-all n (omega arith) (λ i l. root-stack i) cells-readable
          (subst (λ (s : ℕ). Searched heap word roots s m t) (omega arith) arguments-searched)
          (omega arith)
          q

      pub queue-readable : Readable heap (λ (y : ℕ). get_or heap y 0) (length m₁) m₁ u
      queue-readable =
          let b = readable-after cells-readable (omega arith) q in
          record {
            fit = b.fit;
            deep = b.deep;
            within = λ y l x r. omega (arith, cells-keep-length, k.cells y (omega (arith, cells-keep-length)) x r);
          }

      pub no-level : (j : ℕ) → begins_at m₁ j ≡ 0
      no-level j =
          all-level cells-readable (omega arith) q j ∙ all-level arguments-readable (omega arith) p j ∙ ap level_bit (front-zero j)

      -- ---- after the queue

      pub filled : {m₂ : List ℕ} {r : ℕ} → length m₂ ≡ length m₁ → ((word : ℕ → ℕ) (roots : ℕ) → Searched heap word roots roots m₁ u → Followed heap word roots m₂ r) → Filled control stack heap work (m₂ ++ drop h front ++ notes) r
      filled {m₂} {r} s f =
          let d = f word roots cells-searched in
          let l : length m₂ ≡ h = s ∙ cells-keep-length in
          let at_front = put_at c m₂ l in
          record {
            cells = d.cells;
            from = d.from;
            queued = d.queued;
            levelled = levelled-same (begins_at m₂) roots d.from (begins_at (m₂ ++ drop h front ++ notes))
                (λ j o. ap level_bit (at_front j (omega (arith, d.queued.paired, d.holds.count, d.most)))) d.levelled;
            count = d.holds.count;
            most = omega (arith, d.most);
            entries = λ j o. ap entry_of (at_front j (omega (arith, d.most))) ∙ d.holds.entries j o;
            met = λ x o.
                let i = d.holds.met x (omega arith) in
                (λ e. i.0 (sym (ap met_bit (at_front x o)) ∙ e), λ e. ap met_bit (at_front x o) ∙ i.1 e);
            low = λ x o. omega (arith, d.holds.low x o);
            rest = put_rest c m₂ l;
            same = put_length c m₂ l;
          }
