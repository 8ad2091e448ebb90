-- The note of a set of roles: what it says of the set, and what it becomes when the set gains a role. By the four kinds of note, whose
-- numbers differ, since a role's number lies from 1 to 10. Assumes nothing.
use Prim.Native.Nat.{ℕ, ◌≤◌, ◌<◌}
use mathlib.Core.Path.{◌≡◌, refl, sym, ap, ◌∙◌, subst}
use mathlib.Core.Logic.{◌≢◌, ◌⊎◌, inl, inr, ⊎_elim, ◌↔◌}
use mathlib.Core.Bool.{true}
use native.Mathlib.Omega.{arith}
use native.Mathlib.Decide.{ℕ_discrete}
use Rattle.machine.specs.Roles.{Role, cell, CL, code_of}
use Rattle.machine.proofs.Roles.{code-inj, code-range}
use Rattle.chains.specs.Notes.{several, several_with_size, Shows, nothing, single, mixed, mixed_with_size}
use Rattle.chains.specs.Noting.{Joins}

-- the set is known by its members
pub shows-iff : {P Q : Role → Type 0} {note : ℕ} → ((r : Role) → P r ↔ Q r) → Shows P note → Shows Q note
shows-iff i (nothing n) = nothing (λ r q. n r ((i r).1 q))
shows-iff i (single r p u) = single r ((i r).0 p) (λ s q. u s ((i s).1 q))
shows-iff i (mixed r s p q d n) = mixed r s ((i r).0 p) ((i s).0 q) d (λ c. n ((i CL).1 c))
shows-iff i (mixed_with_size r c p d) = mixed_with_size r ((i CL).0 c) ((i r).0 p) d

-- the set with one role more
abbrev With : (Role → Type 0) → Role → Role → Type 0
With P r s = P s ⊎ (s ≡ r)

module _ {P : Role → Type 0} where
  -- a CL is in the set exactly where the note is one of the two that say so
  pub size-shown : {note : ℕ} → Shows P note → P CL → (note ≡ code_of CL) ⊎ (note ≡ several_with_size)
  size-shown (nothing n) c = absurd (n CL c)
  size-shown (single r p u) c = inl (ap code_of (sym (u CL c)))
  size-shown (mixed r s p q d n) c = absurd (n c)
  size-shown (mixed_with_size r c' p d) c = inr refl

  pub shown-size : {note : ℕ} → Shows P note → note ≡ code_of CL → P CL
  shown-size (nothing n) e = absurd (omega arith)
  shown-size (single r p u) e = subst P (code-inj r CL e) p
  shown-size (mixed r s p q d n) e = absurd (omega arith)
  shown-size (mixed_with_size r c p d) e = c

  pub shown-with-size : {note : ℕ} → Shows P note → note ≡ several_with_size → P CL
  shown-with-size (nothing n) e = absurd (omega arith)
  shown-with-size (single r p u) e = absurd (omega (arith, code-range r))
  shown-with-size (mixed r s p q d n) e = absurd (omega arith)
  shown-with-size (mixed_with_size r c p d) e = c

  -- the note of one role
  pub shown-code : (r : Role) {note : ℕ} → Shows P note → note ≡ code_of r → P r × ((s : Role) → P s → s ≡ r)
  shown-code r (nothing n) e = absurd (omega (arith, code-range r))
  shown-code r (single s p u) e = let q = code-inj s r e in (subst P q p, λ t o. u t o ∙ q)
  shown-code r (mixed s t p q d n) e = absurd (omega (arith, code-range r))
  shown-code r (mixed_with_size s c p d) e = absurd (omega (arith, code-range r))

  pub shown-none : {note : ℕ} → Shows P note → note ≡ 0 → (r : Role) → P r → ⊥
  shown-none (nothing n) e = n
  shown-none (single r p u) e = absurd (omega (arith, code-range r))
  shown-none (mixed r s p q d n) e = absurd (omega arith)
  shown-none (mixed_with_size r c p d) e = absurd (omega arith)

  -- a note below `several` is that of at most one role
  pub shown-few : {note : ℕ} → Shows P note → note < several → (r s : Role) → P r → P s → r ≡ s
  shown-few (nothing n) l r s p q = absurd (n r p)
  shown-few (single t o u) l r s p q = u r p ∙ sym (u s q)
  shown-few (mixed t v o w d n) l r s p q = absurd (omega arith)
  shown-few (mixed_with_size t c o d) l r s p q = absurd (omega arith)

  pub shown-one : {note : ℕ} {r : Role} → Shows P note → note < several → P r → note ≡ code_of r
  shown-one {r = r} (nothing n) l p = absurd (n r p)
  shown-one {r = r} (single s o u) l p = ap code_of (sym (u r p))
  shown-one (mixed s t o q d n) l p = absurd (omega arith)
  shown-one (mixed_with_size s c o d) l p = absurd (omega arith)

  pub shown-known : {note : ℕ} → Shows P note → note < several → (note ≡ 0) ⊎ ((r : Role) × (note ≡ code_of r))
  shown-known (nothing n) l = inl refl
  shown-known (single r p u) l = inr (r, refl)
  shown-known (mixed r s p q d n) l = absurd (omega arith)
  shown-known (mixed_with_size r c p d) l = absurd (omega arith)

  pub shown-several : {note : ℕ} → Shows P note → several ≤ note → (r s : Role) × P r × P s × (r ≢ s)
  shown-several (nothing n) l = absurd (omega arith)
  shown-several (single r p u) l = absurd (omega (arith, code-range r))
  shown-several (mixed r s p q d n) l = (r, s, p, q, d)
  shown-several (mixed_with_size r c p d) l = (r, CL, p, c, d)

  -- ---- the set gains the role r

  module _ (r : Role) where
    shows_first : {note : ℕ} → Shows P note → note ≡ 0 → Shows (With P r) (code_of r)
    shows_first h e = single r (inr refl) (λ s q. ⊎_elim (λ p. absurd (shown-none h e s p)) (λ o. o) q)

    shows-again : {note : ℕ} → Shows P note → note ≡ code_of r → Shows (With P r) note
    shows-again h e = let o = shown-code r h e in subst (Shows (With P r)) (sym e) (single r (inr refl) (λ s q. ⊎_elim (λ p. o.1 s p) (λ z. z) q))

    -- a second role, which is CL, or CL was there
    shows-size : {note : ℕ} → Shows P note → note ≢ 0 → note ≢ code_of r → P CL ⊎ (r ≡ CL) → Shows (With P r) several_with_size
    shows-size (nothing n) z d c = absurd (z refl)
    shows-size (single s p u) z d c =
        elim c [
          | inl o ↦ mixed_with_size r (inl o) (inr refl) (λ q. d (ap code_of (sym (u CL o) ∙ sym q)))
          | inr o ↦ mixed_with_size s (inr (sym o)) (inl p) (λ q. d (ap code_of (q ∙ sym o)))
        ]
    shows-size (mixed s t p q d n) z e c =
        elim c [
          | inl o ↦ absurd (n o)
          | inr o ↦ mixed_with_size s (inr (sym o)) (inl p) (λ w. n (subst P w p))
        ]
    shows-size (mixed_with_size s o p d) z e c = mixed_with_size s (inl o) (inl p) d

    shows-mixed : {note : ℕ} → Shows P note → note ≢ 0 → note ≢ code_of r → (P CL → ⊥) → r ≢ CL → Shows (With P r) several
    shows-mixed (nothing n) z d c o = absurd (z refl)
    shows-mixed (single s p u) z d c o = mixed s r (inl p) (inr refl) (λ q. d (ap code_of q)) (λ q. ⊎_elim c (λ w. o (sym w)) q)
    shows-mixed (mixed s t p q d n) z e c o = mixed s t (inl p) (inl q) d (λ w. ⊎_elim c (λ v. o (sym v)) w)
    shows-mixed (mixed_with_size s c' p d) z e c o = absurd (c c')

-- ---- the same of every set, by the note's number and the role's

module _ {note role : ℕ} where
  pub joins-first : note ≡ 0 → Joins note role role
  joins-first e = record { gains = λ set r c h. subst (Shows (With (λ s. set s ≡ true) r)) c (shows_first r h e) }

  pub joins-again : note ≡ role → Joins note role note
  joins-again e = record { gains = λ set r c h. shows-again r h (e ∙ sym c) }

  module _ (z : note ≢ 0) (d : note ≢ role) where
    pub joins-size : (note ≡ code_of CL) ⊎ ((note ≡ several_with_size) ⊎ (role ≡ code_of CL)) → Joins note role several_with_size
    joins-size o = record {
      gains = λ set r c h. shows-size r h z (λ q. d (q ∙ c)) (⊎_elim (λ q. inl (shown-size h q)) (λ w. ⊎_elim (λ q. inl (shown-with-size h q)) (λ q. inr (code-inj r CL (c ∙ q))) w) o);
    }

    pub joins-mixed : ((note ≡ code_of CL) ⊎ (note ≡ several_with_size) → ⊥) → role ≢ code_of CL → Joins note role several
    joins-mixed n o = record {
      gains = λ set r c h. shows-mixed r h z (λ q. d (q ∙ c)) (λ w. n (size-shown h w)) (λ q. o (sym c ∙ ap code_of q));
    }

-- nothing, or a cell, gains the role of a cell
pub joins-low : (note : ℕ) → note ≤ code_of cell → Joins note (code_of cell) (code_of cell)
joins-low note l =
    elim (ℕ_discrete note 0) [
      | yes e ↦ joins-first e
      | no n ↦ let q : note ≡ code_of cell = omega arith in subst (λ (r : ℕ). Joins note (code_of cell) r) q (joins-again q)
    ]

-- what `joined` and `joined_cell` need
pub ruleset joining = (joins-first, joins-again, joins-size, joins-mixed, joins-low)
