-- A source read into the work words: the queue that they hold grows by the cells that it is the first to refer to. Assumes nothing.
use Prim.Native.Nat.{ℕ, ◌+◌, ◌≤◌, ◌<◌}
use mathlib.Core.Path.{◌≡◌, refl, sym, ap, ◌∙◌, subst}
use mathlib.Core.Logic.{inl, inr, ⊎_elim, ◌↔◌}
use mathlib.Core.List.{List, [], ◌∷◌, ◌++◌}
use native.Mathlib.Omega.{arith}
use native.Mathlib.Nat.{not-suc-le-zero}
use native.Mathlib.Decide.{ℕ_discrete}
use lib.ListN.{get_or, length}
use Rattle.cell.specs.Word.{value_of, extent, Refers}
use Rattle.machine.proofs.Lists.{In, in-nil, in_left}
use Rattle.mark.specs.Marks.{Within}
use Rattle.mark.specs.Pending.{Range}
use Rattle.order.specs.Queue.{source}
use Rattle.queue.specs.Filled.{met_bit, entry_of}
use Rattle.queue.specs.Entering.{Fit, put, Joined, old, new, Entered, none, more, Read, Readable, ReadAll}
use Rattle.queue.specs.Reading.{Reading, Holds, Searched}
use Rattle.queue.proofs.Puts.{place, tail-entry, put-length, put-met, put-met-other, put-entry, put-entry-other}
use Rattle.queue.proofs.Entering.{entered-length, entered-past, entered-fit, readable-after}
use Rattle.queue.proofs.Reading.{last_or, snoc-length, snoc_old, snoc_new, snoc-in, snoc-cases, root-source, same_source, reading-none, reading-skip, reading-next, reading-new}

-- ---- the cell x joins the queue that the work words hold

module _ (q : List ℕ) (t x : ℕ) (cells : List ℕ) (f : Fit q t) (h : x < length q) (e : met_bit (get_or q x 0) ≡ 0) (k : Holds q t cells) where
  abbrev free : t < length q
  free = place q t x f h e

  put_entries : (j : ℕ) → j < t + 1 → entry_of (get_or (put q t x) j 0) ≡ get_or (cells ++ (x ∷ [])) j 0
  put_entries j l =
      elim (last_or t j l) [
        | inl o ↦ put-entry-other q t x h free e j (omega arith) ∙ k.entries j o ∙ sym (snoc_old cells x j (omega (arith, k.count)))
        | inr o ↦
            ap (λ (n : ℕ). entry_of (get_or (put q t x) n 0)) o
            ∙ omega (arith, put-entry q t x h free e, tail-entry q t x f h e)
            ∙ sym (snoc_new cells x j (omega (arith, k.count)))
      ]

  put_meets : (y : ℕ) → y < length (put q t x) → (met_bit (get_or (put q t x) y 0) ≡ 1) ↔ In y (cells ++ (x ∷ []))
  put_meets y l =
      elim (ℕ_discrete y x) [
        | yes o ↦ (λ m. rw o (snoc-in cells x), λ m. rw o (put-met q t x h free e))
        | no o ↦
            let i = k.met y (omega (arith, put-length q t x)) in (
              λ m. in_left (x ∷ []) (i.0 (sym (put-met-other q t x h free e y o) ∙ m)),
              λ m. put-met-other q t x h free e y o ∙ i.1 (⊎_elim (λ a. a) (λ b. absurd (o b)) (snoc-cases cells x m)),
            )
      ]

  holds-put : Holds (put q t x) (t + 1) (cells ++ (x ∷ []))
  holds-put = record {
    count = omega (arith, snoc-length cells x, k.count);
    entries = put_entries;
    met = put_meets;
    low = λ y m. rw (put-length q t x) (⊎_elim (λ a. k.low y a) (λ b. rw b h) (snoc-cases cells x m));
  }

-- ---- the cells of the source s, one after the other

module _ (heap : List ℕ) (word : ℕ → ℕ) (roots s : ℕ) (cells from : List ℕ) where
  -- the queue, and what it came from, after more has been read: the cells of the source r below z, and all sources before r. What is new came from s.
  pub record Turn (r z : ℕ) (q : List ℕ) (t : ℕ) : Type 0 where
    pub cells' : List ℕ
    pub from' : List ℕ
    pub reading : Reading heap word roots r z cells' from'
    pub holds : Holds q t cells'
    pub longer : length cells ≤ length cells'
    pub source' : source heap word roots cells' s ≡ source heap word roots cells s
    pub kept : (j : ℕ) → j < length from → get_or from' j 0 ≡ get_or from j 0
    pub fresh : (j : ℕ) → length from ≤ j → j < length from' → get_or from' j 0 ≡ s

  module _ (h : s < roots + length cells) (p : length from ≡ length cells) where
    turn-joined : {q : List ℕ} {t x : ℕ} {q' : List ℕ} {t' : ℕ} → Fit q t → x < length q → Refers heap (source heap word roots cells s) x → Turn s x q t → Joined q t x q' t' → Turn s (x + 1) q' t'
    turn-joined {x = x} f l ref b (old e) = record {
      cells' = b.cells';
      from' = b.from';
      reading = reading-skip heap word roots b.reading (x + 1) (omega arith)
          (λ y o m g. subst (λ (n : ℕ). In n b.cells') (omega arith) ((b.holds.met x l).0 e));
      holds = b.holds;
      longer = b.longer;
      source' = b.source';
      kept = b.kept;
      fresh = b.fresh;
    }
    turn-joined {q} {t = t} {x = x} f l ref b (new e) =
        let h' : s < roots + length b.cells' = omega (arith, b.longer) in
        let n : length b.from' ≡ length b.cells' = b.reading.paired in
        record {
          cells' = b.cells' ++ (x ∷ []);
          from' = b.from' ++ (s ∷ []);
          reading = reading-new heap word roots b.reading h' (rw b.source' ref) (λ m. omega (arith, (b.holds.met x l).1 m));
          holds = holds-put q t x b.cells' f l e b.holds;
          longer = omega (arith, b.longer, snoc-length b.cells' x);
          source' = same_source heap word roots b.cells' x s h' ∙ b.source';
          kept = λ j o. snoc_old b.from' s j (omega (arith, b.longer)) ∙ b.kept j o;
          fresh = λ j o m.
              elim (last_or (length b.from') j (omega (arith, snoc-length b.from' s))) [
                | inl i ↦ snoc_old b.from' s j i ∙ b.fresh j o i
                | inr i ↦ snoc_new b.from' s j i
              ];
        }

    turn-entered : {a t : ℕ} {q : List ℕ} {z : ℕ} {q' : List ℕ} {t' : ℕ} → Fit q t → ((y : ℕ) → Range a z y → y < length q) → ((y : ℕ) → Range a z y → Refers heap (source heap word roots cells s) y) → Turn s a q t → Entered a q t z q' t' → Turn s z q' t'
    turn-entered f l ref b none = b
    turn-entered {a} f l ref b (more {x = x} g i) =
        let past = entered-past g in
        turn-joined
        (entered-fit f (λ y r. l y (omega arith)) g)
        (omega (arith, entered-length g, l x (omega arith)))
        (ref x (omega arith))
        (turn-entered f (λ y r. l y (omega arith)) (λ y r. ref y (omega arith)) b g)
        i

    -- the whole source, which is the word w
    pub turn-read : {t t' : ℕ} {q q' : List ℕ} (w : ℕ) → source heap word roots cells s ≡ w → Reading heap word roots s 0 cells from → Holds q t cells → Fit q t → Within (length q) heap w → Read heap w q t q' t' → Turn (s + 1) 0 q' t'
    turn-read {t} {t'} {q} {q'} w e r k f l i =
        let start : Turn s (value_of w) q t = record {
          cells' = cells;
          from' = from;
          reading = reading-skip heap word roots r (value_of w) (omega arith) (λ x o m g. absurd (omega (arith, ap value_of e)));
          holds = k;
          longer = omega arith;
          source' = refl;
          kept = λ j o. refl;
          fresh = λ j o m. absurd (omega arith);
        } in
        let b : Turn s (value_of w + extent heap w) q' t' = turn-entered f l (λ y g. rw e g) start i in
        record {
          cells' = b.cells';
          from' = b.from';
          reading = reading-next heap word roots b.reading (λ x g. (rw (b.source', e) at g).1);
          holds = b.holds;
          longer = b.longer;
          source' = b.source';
          kept = b.kept;
          fresh = b.fresh;
        }

-- ---- roots, one after the other

module _ {heap : List ℕ} {word : ℕ → ℕ} {roots : ℕ} where
  -- nothing is read yet
  pub searched-none : (q : List ℕ) → ((x : ℕ) → x < length q → get_or q x 0 ≡ 0) → Searched heap word roots 0 q 0
  searched-none q f = record {
    cells = [];
    from = [];
    reading = reading-none heap word roots;
    holds = record {
      count = refl;
      entries = λ j l. absurd (not-suc-le-zero l);
      met = λ x l. (λ e. absurd (omega (arith, ap met_bit (f x l))), λ m. in-nil m);
      low = λ x m. in-nil m;
    };
  }

  -- the sources from k on are the words that have been read
  pub searched-all : {t n : ℕ} {q : List ℕ} {words : ℕ → ℕ} {m : ℕ} {q' : List ℕ} {t' : ℕ} (k : ℕ) → k + n ≤ roots → ((i : ℕ) → i < n → word (k + i) ≡ words i) → Readable heap words n q t → Searched heap word roots k q t → m ≤ n → ReadAll heap words q t m q' t' → Searched heap word roots (k + m) q' t'
  searched-all {t} {q = q} k h e d b l none = subst (λ (i : ℕ). Searched heap word roots i q t) (omega arith) b
  searched-all {words = words} {q' = q'} {t' = t'} k h e d b l (more {n = m} g i) =
      let b' = searched-all k h e d b (omega arith) g in
      let d' = readable-after d (omega arith) g in
      let s = root-source heap word roots b'.cells (k + m) (omega arith) ∙ e m (omega arith) in
      let r = turn-read heap word roots (k + m) b'.cells b'.from (omega arith) b'.reading.paired (words m) s b'.reading b'.holds d'.fit (d'.within m (omega arith)) i in
      subst (λ (i : ℕ). Searched heap word roots i q' t') (omega arith)
      (record { cells = r.cells'; from = r.from'; reading = r.reading; holds = r.holds })
