-- Noting thing by thing: a thing that is due and sound is noted, and what it leads to becomes due, unless a frame that begins at the same
-- word was noted before: then that led there. What is noted is sound, so no frame above a noted one is at fault. Assumes nothing.
use Prim.Native.Nat.{ℕ, zero, suc, ◌<◌}
use mathlib.Core.Path.{◌≡◌, refl, sym, subst}
use mathlib.Core.Logic.{◌≢◌, ◌⊎◌, inl, inr, ⊎_elim}
use mathlib.Core.Bool.{Bool, true}
use mathlib.Core.List.{List, [], ◌∷◌}
use native.Mathlib.Omega.{arith}
use native.Mathlib.Decide.{ℕ_discrete}
use borrow.Author.Tests.{eqb-true}
use lib.ListN.{length, get_or}
use Rattle.machine.specs.Layout.{Image, L, E, B, T, H, none, at, size_of, size_at, link_at}
use Rattle.machine.specs.Chains.{Thing, frame, point, index_of, whole}
use Rattle.machine.specs.Roles.{CL, gives, some as some_of}
use Rattle.machine.proofs.Tests.{true-false}
use Rattle.machine.proofs.Lists.{In, here, there, in-cons, some_in}
use Rattle.machine.proofs.Links.{Next, up, inner, back, Real, next, Ok}
use Rattle.chains.specs.Noting.{ShowsSize, Leads, by_e, by_b, by, behind, Noting, FaultFrom, ended, above}
use Rattle.chains.proofs.Things.{Adds, shown-more}

module _ {X : Image} where
  leads-some : {things : List Thing} {y : Thing} → Leads X things y → index_of y ≢ none
  leads-some (by_e n) = n
  leads-some (by_b n) = n
  leads-some (by m (up n)) = n
  leads-some (by m (inner n)) = n
  leads-some (by m (back n)) = n

  leads-less : {x y : Thing} {things : List Thing} → Leads X (x ∷ things) y → Leads X things y ⊎ Next X x y
  leads-less (by_e n) = inl (by_e n)
  leads-less (by_b n) = inl (by_b n)
  leads-less {y = y} (by m o) = ⊎_elim (λ q. inr (subst (λ (z : Thing). Next X z y) q o)) (λ w. inl (by w o)) (in-cons m)

in-behind : {x : Thing} (due : List Thing) → In x (behind due) → In x due
in-behind [] m = m
in-behind (y ∷ due) m = there m

-- no frame is due behind a choice point
pub point-first : {b limit t h : ℕ} {rest : List Thing} → ((e k limit' : ℕ) → In (frame e k limit') rest → ⊥) → (e k limit' : ℕ) → In (frame e k limit') (point b limit t h ∷ rest) → ⊥
point-first f e k limit' m = ⊎_elim (λ q. let z : ◌≡◌ {A = ℕ} 0 1 = cc in omega arith) (f e k limit') (in-cons m)

module _ {X : Image} {x : Thing} {rest : List Thing} {notes : List ℕ} (n : Noting X (x ∷ rest) notes) where
  -- none is no thing: nothing leads there
  pub noting-none : index_of x ≡ none → Noting X rest notes
  noting-none e = record {
    things = n.things;
    shown = n.shown;
    real = n.real;
    ok = n.ok;
    real_due = λ y m z. n.real_due y (there m) z;
    closed = λ y l.
        ⊎_elim
        (λ m. inl m)
        (λ m. ⊎_elim (λ q. absurd (leads-some l (subst (λ (z : Thing). index_of z ≡ none) (sym q) e))) (λ w. inr w) (in-cons m))
        (n.closed y l);
    frame_first = λ d k limit m. n.frame_first d k limit (in-behind rest m);
  }

  -- x is no longer due once it is noted
  moved : {y : Thing} → In y n.things ⊎ In y (x ∷ rest) → In y (x ∷ n.things) ⊎ In y rest
  moved s = ⊎_elim (λ m. inl (there m)) (λ m. ⊎_elim (λ q. inl (here q)) (λ w. inr w) (in-cons m)) s

  module _ (some : index_of x ≢ none) where
    is_real : Real X x
    is_real = n.real_due x (here refl) some

    module _ (o : Ok X x) {notes' : List ℕ} (g : Adds X x notes notes') where
      -- x is noted; what it leads to is noted or due
      noting-more : {due : List Thing} → ((y : Thing) → In y rest → In y due) → ((y : Thing) → In y due → index_of y ≢ none → Real X y) → ((y : Thing) → Next X x y → In y (x ∷ n.things) ⊎ In y due) → ((e k limit : ℕ) → In (frame e k limit) (behind due) → ⊥) → (m : Noting X due notes') × In x m.things
      noting-more {due} f r c p = (
        record {
          things = x ∷ n.things;
          shown = λ i l. shown-more X i x n.things g (n.shown i l);
          real = λ y m. ⊎_elim (λ q. subst (Real X) (sym q) is_real) (n.real y) (in-cons m);
          ok = λ y m. ⊎_elim (λ q. subst (Ok X) (sym q) o) (n.ok y) (in-cons m);
          real_due = r;
          closed = λ y l. ⊎_elim (λ v. ⊎_elim (λ m. inl m) (λ m. inr (f y m)) (moved (n.closed y v))) (c y) (leads-less l);
          frame_first = p;
        },
        here refl,
      )

      -- what a thing noted before leads to is noted, or due
      noting-met : {a : Thing} → In a n.things → ((y : Thing) → Next X x y → Next X a y) → (m : Noting X rest notes') × In x m.things
      noting-met m f = noting-more (λ y w. w) (λ y w z. n.real_due y (there w) z) (λ y w. moved (n.closed y (by m (f y w)))) (λ e k limit w. n.frame_first e k limit (in-behind rest w))

-- what is due is real unless it is none
module _ {X : Image} where
  pub due-real : {y z : Thing} → (index_of z ≢ none → Real X z) → y ≡ z → index_of y ≢ none → Real X y
  due-real f q = subst (λ (z : Thing). index_of z ≢ none → Real X z) (sym q) f

-- where no frame is due, all frames above a noted one are noted, so none of them is at fault: each lies below the one before it
noted-whole : {X : Image} {due : List Thing} {notes : List ℕ} (n : Noting X due notes) → ((e k limit : ℕ) → In (frame e k limit) due → ⊥) → (bound e k limit : ℕ) → e < bound → In (frame e k limit) n.things → FaultFrom X (frame e k limit) whole
noted-whole n f zero e k limit l m = absurd (omega arith)
noted-whole {X} {due} n f (suc bound) e k limit l m =
    elim (ℕ_discrete e none) [
      | yes q ↦ ended q
      | no q ↦
          above {f = whole} q (n.ok _ m) (elim (ℕ_discrete (link_at X e) none) [
            | yes z ↦ ended z
            | no z ↦
                let w : In (frame (link_at X e) (size_of (size_at X e)) e) n.things = ⊎_elim (λ v. v) (λ v. absurd (f _ _ _ v)) (n.closed _ (by m (up z))) in
                noted-whole n f bound (link_at X e) (size_of (size_at X e)) e (omega (arith, n.ok _ w)) w
          ])
    ]

module _ {X : Image} {e k limit : ℕ} where
  same_next : {k' limit' : ℕ} {y : Thing} → Next X (frame e k limit) y → Next X (frame e k' limit') y
  same_next (up n) = up n

  -- a thing that makes e a CL is a frame at e
  met_next : (a : Thing) → gives X e CL a ≡ true → (y : Thing) → Next X (frame e k limit) y → Next X a y
  unfolding gives
  met_next (frame d k' limit') g y w = subst (λ (f : ℕ). Next X (frame f k' limit') y) (eqb-true e d g) (same_next w)
  met_next (point b limit' t h) g y w = true-false g refl

  frame-next : {y : Thing} → Next X (frame e k limit) y → y ≡ frame (link_at X e) (size_of (size_at X e)) e
  frame-next (up n) = refl

  module _ {rest : List Thing} {notes notes' : List ℕ} (n : Noting X (frame e k limit ∷ rest) notes) (some : e ≢ none) (o : Ok X (frame e k limit)) (g : Adds X (frame e k limit) notes notes') where
    -- a frame is noted, and its parent is due
    pub noting-frame : Noting X (frame (link_at X e) (size_of (size_at X e)) e ∷ rest) notes'
    noting-frame =
        (noting-more
        n
        some
        o
        g
        (λ y m. there m)
        (λ y m. ⊎_elim (due-real (λ z. next (is_real n some) (up z))) (λ w z. n.real_due y (there w) z) (in-cons m))
        (λ y w. inr (here (frame-next w)))
        n.frame_first
        ).0

    -- a frame is noted that was noted before, in this or another view; neither it nor a frame above it is at fault
    pub noting-again : {r : Bool} → e < length X.stack → ShowsSize (get_or notes e 0) r → r ≡ true → Noting X rest notes' × FaultFrom X (frame e k limit) whole
    noting-again l s q =
        let m = some_in (gives X e CL) n.things ((s.size (λ r. some_of (gives X e r) n.things) (n.shown e l)).0 q) in
        let a = noting-met n some o g m.1 (met_next m.0 m.2) in
        (a.0, noted-whole a.0 n.frame_first (suc e) e k limit (omega arith) a.1)

point-next : {X : Image} {b limit t h : ℕ} {y : Thing} {rest : List Thing} → Next X (point b limit t h) y → In y (frame (at X b E) (size_of (at X b L)) b ∷ point (at X b B) b (at X b T) (at X b H) ∷ rest)
point-next (inner n) = here refl
point-next (back n) = there (here refl)

-- a choice point is noted, and its frame and the older choice point are due
pub noting-point : {X : Image} {b limit t h : ℕ} {rest : List Thing} {notes notes' : List ℕ} (n : Noting X (point b limit t h ∷ rest) notes) (some : b ≢ none) (o : Ok X (point b limit t h)) (g : Adds X (point b limit t h) notes notes') → Noting X (frame (at X b E) (size_of (at X b L)) b ∷ point (at X b B) b (at X b T) (at X b H) ∷ rest) notes'
noting-point n some o g =
    (noting-more
    n
    some
    o
    g
    (λ y m. there (there m))
    (λ y m.
    ⊎_elim
    (due-real (λ z. next (is_real n some) (inner z)))
    (λ w. ⊎_elim (due-real (λ z. next (is_real n some) (back z))) (λ v z. n.real_due y (there v) z) (in-cons w))
    (in-cons m))
    (λ y w. inr (point-next w))
    (point-first n.frame_first)
    ).0
