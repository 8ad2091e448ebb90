-- The walk as a whole: at first the control area's frame and choice point are due; where nothing is due any more, all that is real is
-- noted, so the notes of a whole image are those of its roles. Assumes nothing.
use Prim.Native.Nat.{ℕ, ◌+◌, ◌-◌, ◌<◌}
use Rattle.std.specs.Prelude.{Result, Ok, Err}
use Rattle.std.proofs.lemmas.Result.{IfOk-weaker, IfErr-weaker}
use mathlib.Core.Path.{◌≡◌, refl, sym, ◌∙◌, subst}
use mathlib.Core.Logic.{inr, ⊎_elim, ◌↔◌}
use mathlib.Core.Bool.{true}
use mathlib.Core.List.{List, [], ◌∷◌}
use native.Mathlib.Omega.{arith}
use lib.ListN.{length, get_or, take, drop}
use borrow.Rule.Slice.PartMut.{put_mid}
use Rattle.machine.specs.Layout.{Image}
use Rattle.machine.specs.Chains.{Thing, whole, walk, fault_of}
use Rattle.machine.specs.Roles.{Role, gives, some, has}
use Rattle.machine.proofs.Tests.{true-false}
use Rattle.machine.proofs.Lists.{In, here, there, in-nil, in-cons, some_in, in_some}
use Rattle.machine.proofs.Links.{Real, from_e, from_b, next}
use Rattle.machine.proofs.Walks.{whole-lists, walk-real}
use Rattle.chains.specs.Notes.{Shows, nothing, Blank, Walks}
use Rattle.chains.specs.Noting.{Leads, by_e, by_b, by, Kept, Noting, first_frame, first_point, Walked}
use Rattle.chains.proofs.Shows.{shows-iff}
use Rattle.chains.proofs.Stores.{kept-join, kept-wide, part-was, part-is, kept-part, kept-before, kept-after}
use Rattle.chains.proofs.Notings.{due-real, point-first}
use Rattle.chains.proofs.Faults.{frames-stop, points-end}

-- the work words from the notes on, as the walks get them, and the work words with others in their place
abbrev pub lent : List ℕ → ℕ → List ℕ
lent work notes = take (length work - notes) (drop notes work)

abbrev pub back : List ℕ → ℕ → List ℕ → List ℕ
back work notes part = put_mid notes (length work - notes) work part

-- before a walk nothing is noted, and the control area's frame and choice point are due
pub noting-start : {X : Image} {work : List ℕ} {notes : ℕ} → Blank X.control X.stack work notes → Noting X (first_frame X ∷ first_point X ∷ []) (lent work notes)
unfolding some
noting-start {X} {work} {notes} b = record {
  things = [];
  shown = λ i l. subst (Shows (λ (r : Role). some (gives X i r) [] ≡ true)) (sym (part-was notes (length work - notes) work i (omega (arith, b.room)) ∙ b.zero i l)) (nothing (λ r q. true-false q refl));
  real = λ x m. in-nil m;
  ok = λ x m. in-nil m;
  real_due = λ x m.
      ⊎_elim
      (due-real (λ n. from_e n))
      (λ w. ⊎_elim (due-real (λ n. from_b n)) (λ v. in-nil v) (in-cons w))
      (in-cons m);
  closed = λ y l. inr (first l);
  frame_first = point-first (λ e k limit m. in-nil m);
}
  where
    first : {y : Thing} → Leads X [] y → In y (first_frame X ∷ first_point X ∷ [])
    first (by_e n) = here refl
    first (by_b n) = there (here refl)
    first (by m o) = in-nil m

module _ {X : Image} {notes : List ℕ} (n : Noting X [] notes) where
  all_noted : {x : Thing} → Real X x → In x n.things
  all_noted (from_e z) = ⊎_elim (λ m. m) (λ m. in-nil m) (n.closed _ (by_e z))
  all_noted (from_b z) = ⊎_elim (λ m. m) (λ m. in-nil m) (n.closed _ (by_b z))
  all_noted (next r o) = ⊎_elim (λ m. m) (λ m. in-nil m) (n.closed _ (by (all_noted r) o))

  module _ (w : fault_of X (walk X) ≡ whole) where
    same_roles : (i : ℕ) (r : Role) → (some (gives X i r) n.things ≡ true) ↔ (has X i r ≡ true)
    unfolding has
    same_roles i r = (
      λ e. let m = some_in (gives X i r) n.things e in in_some (gives X i r) (walk X) (whole-lists X w (n.real m.0 m.1)) m.2,
      λ e. let m = some_in (gives X i r) (walk X) e in in_some (gives X i r) n.things (all_noted (walk-real X m.1)) m.2,
    )

    pub noting-shown : (i : ℕ) → i < length X.stack → Shows (λ (role : Role). has X i role ≡ true) (get_or notes i 0)
    noting-shown i l = shows-iff (same_roles i) (n.shown i l)

-- the walks of the control area's two chains
module _ (X : Image) {work : List ℕ} {notes : ℕ} (b : Blank X.control X.stack work notes) where
  -- the walks write nothing but notes
  placed : {part : List ℕ} → Kept 0 (length X.stack) (lent work notes) part → Kept notes (notes + length X.stack) work (back work notes part)
  placed {part} k = kept-part notes (length work - notes) work part (omega (arith, b.room)) (omega arith) (omega (arith, b.room)) (kept-wide (omega arith) (omega arith) k)

  pub walk-stopped : {i : ℕ} {part : List ℕ} → Walked X (first_frame X) (lent work notes) (Err i) part → Walks X work notes (Err i) (back work notes part)
  walk-stopped f = record {
    noted = tt;
    stopped = frames-stop X (f.stopped _ (noting-start b));
    before = kept-before (placed f.kept);
    after = kept-after (omega arith) (placed f.kept);
    same = (placed f.kept).same;
  }

  pub walk-finished : {u : Unit} {r : Result Unit ℕ} {part part' : List ℕ} → Walked X (first_frame X) (lent work notes) (Ok u) part → Walked X (first_point X) part r part' → Walks X work notes r (back work notes part')
  walk-finished {r = r} {part' = part'} f p =
      let k = kept-join f.kept p.kept in
      let n = f.noted _ (noting-start b) in
      record {
        noted = IfOk-weaker r _ _ (λ _ e. let w = points-end X n.1 e.1 in (w, λ i l. rw (part-is notes (length work - notes) work part' (omega (arith, b.room)) k.same i (omega (arith, b.room))) (noting-shown e.0 w i l))) (p.noted [] n.0);
        stopped = IfErr-weaker r _ _ (λ i e. points-end X n.1 e) (p.stopped [] n.0);
        before = kept-before (placed k);
        after = kept-after (omega arith) (placed k);
        same = (placed k).same;
      }
