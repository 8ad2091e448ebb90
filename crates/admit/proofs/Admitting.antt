-- The parts of `admit` together give the table's verdict: each check that passes is skipped, and the first that does not is the answer.
-- Assumes nothing.
use Rattle.std.specs.Prelude.{Result, Ok, Err, Option, Some, None}
use Prim.Native.Nat.{ℕ, ◌+◌, ◌≤◌, ◌<◌}
use mathlib.Core.Path.{◌≡◌, refl, sym, ap, subst, ◌∙◌}
use mathlib.Core.Logic.{◌≢◌, ⊎_elim}
use mathlib.Core.Bool.{true, false}
use mathlib.Core.List.{List, ◌∷◌, ◌++◌}
use native.Mathlib.Omega.{arith}
use borrow.Author.Tests.{eq-eqb, eqb-true, ltb-true, lt-ltb}
use lib.ListN.{length, get_or, drop, replicate, length-replicate, get_or-replicate, get_or-append}
use lib.Seq.{drop_at}
use Rattle.machine.specs.declared.Area.TheVariants.{Stack}
use Rattle.machine.specs.declared.Place.{Place}
use Rattle.machine.specs.declared.Refusal.{Refusal}
use Rattle.machine.specs.declared.Refusal.TheVariants.{Sizes, Registers, Chain, Roles}
use Rattle.machine.specs.Layout.{Image}
use Rattle.machine.specs.Chains.{whole, walk, fault_of}
use Rattle.machine.specs.Roles.{Role, cell, CL, CE, own, code_of, is_cell, is_field, conflict, note_at}
use Rattle.machine.specs.Refusals.{nowhere, in_area, refused, scan, first_of, work_words, enough, fits, chain_check, cell_checks, entry_checks, first_checks, image_checks, verdict}
use Rattle.machine.specs.Answers.{verdict_of, work_after}
use Rattle.machine.proofs.Tests.{same_bool}
use Rattle.machine.proofs.Chains.{role-low}
use Rattle.machine.proofs.Walks.{whole-linked}
use Rattle.machine.proofs.Roles.{has-is, is-has, field-iff}
use Rattle.machine.proofs.Firsts.{first-skips, passes-gate, refuses-gate, refused-not, first-given}
use Rattle.machine.specs.Lowest.{Lowest}
use Rattle.machine.proofs.Lowest.{found, scan-lowest}
use Rattle.machine.proofs.Checks.{enough-iff, fits_iff}
use Rattle.machine.proofs.Injective.{refusal-refuses}
use Rattle.machine.proofs.Works.{cleared_to, uses-all, lent-cleared}
use Rattle.machine.proofs.Parts.{front_at}
use Rattle.chains.specs.Notes.{several_at, Walks, Noted}
use Rattle.chains.proofs.Conflicts.{noted-of-walk, conflict-noted}
use Rattle.cells.specs.Cells.{checked_to, notes_cell, notes_field, Right}
use Rattle.admit.specs.Admits.{Admits, Blanked, WordsNoted, ChecksNoted, ChecksImage}

-- ---- the notes are right

module _ {X : Image} {work : List ℕ} {notes : ℕ} (w : fault_of X (walk X) ≡ whole) (n : Noted X work notes) where
  cell-noted : (i : ℕ) → i < length X.stack → notes_cell work notes i ≡ is_cell X i
  cell-noted i l = same_bool _ _ (λ e. (n.role i l cell).0 (eqb-true _ _ e)) (λ e. eq-eqb _ _ ((n.role i l cell).1 e))

  past-cell : (r : Role) → r ≢ cell → code_of cell < code_of r
  past-cell cell m = absurd (m refl)
  past-cell CL m = omega arith
  past-cell CE m = omega arith
  past-cell (own f) m = omega arith

  field-noted : (i : ℕ) → i < length X.stack → notes_field work notes i ≡ is_field X i
  field-noted i l =
      same_bool _ _
      (λ e.
      let m = ltb-true (code_of cell) (note_at work notes i) e in
      ⊎_elim
      (λ z. absurd (omega (arith, m, z)))
      (λ q. (field-iff X w i).1 (q.0, (λ z. omega (arith, m, q.1, ap code_of z), has-is X i q.0 ((n.role i l q.0).0 q.1))))
      (n.known i l))
      (λ e.
      let f = (field-iff X w i).0 e in
      lt-ltb (code_of cell) (note_at work notes i) (omega (arith, past-cell f.0 f.1.0, (n.role i l f.0).1 (is-has X w i f.0 f.1.1))))

  pub notes-right : notes + length X.stack ≤ length work → Right X work notes
  notes-right room = record {
    room = room;
    cells = cell-noted;
    fields = field-noted;
    inside = λ i e. role-low X ((whole-linked X).0 w) i cell (has-is X i cell e);
  }

-- ---- the image

abbrev pub on_stack : ℕ → Place
on_stack i = record { area = Stack; index = i }

module _ (X : Image) (work : List ℕ) where
  -- what a failed check leaves
  stopped : (r : Refusal) {work' : List ℕ} → verdict_of r ≡ first_of (image_checks X) → drop (work_words X) work' ≡ drop (work_words X) work → length work' ≡ length work → ChecksImage X work (Err r) work'
  unfolding checked_to
  stopped r e d l = record { gives = e; passed = λ q. absurd (refusal-refuses r (e ∙ q)); rest = d; same = l }

  pub registers-stop : fits X ≡ false → ChecksImage X work (Err Registers) work
  unfolding verdict_of
  registers-stop f = stopped Registers (sym (first-given _ _ (refuses-gate _ _ f))) refl refl

  module _ (f : fits X ≡ true) (work' : List ℕ) where
    registers-pass : first_of (image_checks X) ≡ first_of (chain_check (fault_of X (walk X)) ∷ scan (conflict X) (length X.stack) (λ i. refused 4 (in_area Stack i)) ∷ cell_checks X (entry_checks X (first_checks X)))
    registers-pass = first-skips _ _ (passes-gate _ _ f)

    pub chain-stop : {i : ℕ} → Walks X work (length X.heap) (Err i) work' → ChecksImage X work (Err (Chain (on_stack i))) work'
    unfolding verdict_of
    chain-stop {i} w =
        stopped (Chain (on_stack i)) (sym (registers-pass ∙ first-given _ _ (ap chain_check w.stopped))) w.after w.same

    module _ (w : Walks X work (length X.heap) (Ok tt) work') where
      chain-pass : first_of (image_checks X) ≡ first_of (scan (conflict X) (length X.stack) (λ i. refused 4 (in_area Stack i)) ∷ cell_checks X (entry_checks X (first_checks X)))
      chain-pass = registers-pass ∙ first-skips _ _ (ap chain_check w.noted.0)

      -- the notes of several roles are those of the words in conflict
      conflicts : (i : ℕ) → i < length X.stack → several_at work' (length X.heap) i ≡ conflict X i
      conflicts = conflict-noted X work' (length X.heap) w.noted

      same-lowest : (r : Option ℕ) → Lowest (several_at work' (length X.heap)) (length X.stack) r → Lowest (conflict X) (length X.stack) r
      same-lowest None f = λ i l. sym (conflicts i l) ∙ f i l
      same-lowest (Some i) f = (f.0, sym (conflicts i f.0) ∙ f.1, λ j l. sym (conflicts j (omega (arith, f.0))) ∙ f.2 j l)

      scanned : (r : Option ℕ) → Lowest (several_at work' (length X.heap)) (length X.stack) r → scan (conflict X) (length X.stack) (λ j. refused 4 (in_area Stack j)) ≡ found (λ j. refused 4 (in_area Stack j)) r
      scanned r f = scan-lowest (conflict X) (length X.stack) (λ j. refused 4 (in_area Stack j)) r (same-lowest r f)

      pub roles-stop : (i : ℕ) → Lowest (several_at work' (length X.heap)) (length X.stack) (Some i) → ChecksImage X work (Err (Roles (on_stack i))) work'
      unfolding verdict_of
      roles-stop i f = stopped (Roles (on_stack i)) (sym (chain-pass ∙ first-given _ _ (scanned (Some i) f))) w.after w.same

      module _ (few : Lowest (several_at work' (length X.heap)) (length X.stack) None) where
        pub noted : Noted X work' (length X.heap)
        noted = noted-of-walk X work' (length X.heap) w.noted few

        front : Blanked X work → (x : ℕ) → x < length X.heap → get_or work' x 0 ≡ 0
        front b x l = front_at (length X.heap) work' work w.before x l ∙ b.blank x (omega arith)

        pub words-noted : Blanked X work → WordsNoted X work'
        words-noted b = record {
          sizes = b.sizes;
          fits = (fits_iff X).0 f;
          room = omega (arith, b.room, w.same);
          blank = front b;
          right = notes-right w.noted.0 noted (omega (arith, b.room, w.same));
        }

        pub noted-checked : {r : Result (Unit {0}) Refusal} {work'' : List ℕ} → Blanked X work → ChecksNoted X work' r work'' → ChecksImage X work r work''
        noted-checked {r} b c =
            subst (ChecksImage X work r) (sym c.stays) (record {
              gives = c.gives ∙ sym (chain-pass ∙ first-skips _ _ (scanned None few));
              passed = λ q. record { blank = front b; noted = noted; rest = w.after; same = w.same };
              rest = w.after;
              same = w.same;
            })

-- ---- the whole

module _ (X : Image) (work : List ℕ) where
  pub sizes-stop : enough (length work) X ≡ false → Admits X work (Err Sizes) work
  unfolding checked_to verdict_of verdict work_after
  sizes-stop e =
      let v : verdict (length work) X ≡ refused 1 nowhere = first-given _ _ (refuses-gate _ _ e) in
      record {
        gives = sym v;
        passed = λ q. absurd (refused-not 1 nowhere (sym v ∙ q));
        refused = λ q. rw e;
      }

  module _ (e : enough (length work) X ≡ true) where
    zero-front : (n : ℕ) (ys : List ℕ) → drop n (replicate n 0 ++ ys) ≡ ys
    zero-front n ys = drop_at (replicate n 0) ys n (length-replicate n 0)

    pub cleared-rest : drop (work_words X) (cleared_to X work) ≡ drop (work_words X) work
    cleared-rest = rw (uses-all X) (zero-front (work_words X) (drop (work_words X) work))

    pub blanked : (work' : List ℕ) → work' ≡ cleared_to X work → length work' ≡ length work → Blanked X work'
    blanked work' q l =
        let s = (enough-iff X (length work)).0 e in
        record {
          sizes = s.0;
          room = omega (arith, s.1, l);
          blank = λ j m. rw (q, uses-all X) (get_or-append (replicate (work_words X) 0) (drop (work_words X) work) 0 j (rw (length-replicate {A = ℕ} (work_words X) 0) m) ∙ get_or-replicate (work_words X) j 0 0 m);
        }

    same-verdict : first_of (image_checks X) ≡ verdict (length work) X
    unfolding verdict
    same-verdict = sym (first-skips _ _ (passes-gate _ _ e))

    module _ (work' : List ℕ) (q : work' ≡ cleared_to X work) (l : length work' ≡ length work) where
      behind : drop (work_words X) work' ≡ drop (work_words X) work
      behind = ap (drop (work_words X)) q ∙ cleared-rest

      pub admits-passed : {work'' : List ℕ} → ChecksImage X work' (Ok tt) work'' → Admits X work (Ok tt) work''
      unfolding checked_to
      admits-passed c =
          let v = c.gives ∙ same-verdict in
          let p = c.passed (sym c.gives) in
          record {
            gives = v;
            passed = λ z. record { blank = p.blank; noted = p.noted; rest = p.rest ∙ behind; same = p.same ∙ l };
            refused = λ z. absurd (z (sym v));
          }

      pub admits-refused : {r : Refusal} (work'' last : List ℕ) → ChecksImage X work' (Err r) work'' → last ≡ cleared_to X work'' → Admits X work (Err r) last
      unfolding checked_to
      admits-refused {r} work'' last c z =
          let v = c.gives ∙ same-verdict in
          record {
            gives = v;
            passed = λ y. absurd (refusal-refuses r (v ∙ y));
            refused = λ y. z ∙ lent-cleared X work work'' e (c.rest ∙ behind);
          }
