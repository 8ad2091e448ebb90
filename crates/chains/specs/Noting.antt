-- What the inner functions do to the notes, which are a list of their own here, with the note of the word i at i: words gain roles, and
-- the notes are always those of a list of things, each of them real and sound, such that what they lead to is among them or due. Assumes
-- nothing.
use Rattle.std.specs.Prelude.{ℕ, zero, suc, ◌+◌, ◌-◌, ◌<◌, ◌≤◌, ◌≡◌, ◌≢◌, ◌⊎◌, ◌↔◌, Bool, true, false, List, [], ◌∷◌, length, get_or, ltb, Result, IfOk, IfErr}
use Rattle.machine.specs.Layout.{Image, P, L, E, B, T, H, fixed, none, reg, at, size_of, frame_fixed, size_at, link_at}
use Rattle.machine.specs.Chains.{Thing, frame, point, index_of, Fault, whole, broken}
use Rattle.machine.specs.Roles.{Role, cell, CL, CE, own, gives, some, code_of}
use Rattle.machine.proofs.Lists.{In}
use Rattle.machine.proofs.Links.{Next, Real, Ok}
use Rattle.chains.specs.Notes.{Shows}

-- the note of a set of roles becomes that of the set with one more
pub record Joins (note role note' : ℕ) : Type 0 where
  pub gains : (set : Role → Bool) (r : Role) → code_of r ≡ role → Shows (λ (s : Role). set s ≡ true) note → Shows (λ (s : Role). (set s ≡ true) ⊎ (s ≡ r)) note'

-- whether a frame's CL is in the set
pub record ShowsSize (note : ℕ) (r : Bool) : Type 0 where
  pub size : (set : Role → Bool) → Shows (λ (s : Role). set s ≡ true) note → (r ≡ true) ↔ (set CL ≡ true)

-- only words from a up to, not including, z are written
pub record Kept (a z : ℕ) (work work' : List ℕ) : Type 0 where
  pub outside : (j : ℕ) → (a ≤ j → j < z → ⊥) → get_or work' j 0 ≡ get_or work j 0
  pub same : length work' ≡ length work

-- and each of them gains the role that has its number
pub record Gains (role : ℕ → ℕ) (a z : ℕ) (work work' : List ℕ) : Type 0 where
  pub hit : (j : ℕ) → a ≤ j → j < z → Joins (get_or work j 0) (role j) (get_or work' j 0)
  pub kept : Kept a z work work'

-- the number of a word's role by its distance from the start of a frame, of a choice point
abbrev pub frame_role : ℕ → ℕ
frame_role zero = code_of CL
frame_role (suc zero) = code_of CE
frame_role (suc (suc j)) = code_of cell

abbrev pub field_or_cell : Bool → ℕ → ℕ
field_or_cell true j = code_of (own P) + j
field_or_cell false j = code_of cell

abbrev pub point_role : ℕ → ℕ
point_role j = field_or_cell (ltb j fixed) j

-- the words of the frame at e with k cells, of the choice point at b with n saved arguments, gain their roles
abbrev pub FrameNoted : ℕ → ℕ → List ℕ → List ℕ → Type 0
FrameNoted e k = Gains (λ j. frame_role (j - e)) e (e + frame_fixed + k)

abbrev pub PointNoted : ℕ → ℕ → List ℕ → List ℕ → Type 0
PointNoted b n = Gains (λ j. point_role (j - b)) b (b + fixed + n)

-- what the registers and these things lead to
pub data Leads (X : Image) (things : List Thing) : Thing → Type 0 where
  by_e : reg X E ≢ none → Leads X things (frame (reg X E) (size_of (reg X L)) (length X.stack))
  by_b : reg X B ≢ none → Leads X things (point (reg X B) (length X.stack) (reg X T) (reg X H))
  by : {x y : Thing} → In x things → Next X x y → Leads X things y

-- the things due behind the first
abbrev pub behind : List Thing → List Thing
behind [] = []
behind (x ∷ xs) = xs

-- the notes are those of some real and sound things; what these lead to is among them, or due, a frame being due first
pub record Noting (X : Image) (due : List Thing) (notes : List ℕ) : Type 0 where
  pub things : List Thing
  pub shown : (i : ℕ) → i < length X.stack → Shows (λ (r : Role). some (gives X i r) things ≡ true) (get_or notes i 0)
  pub real : (x : Thing) → In x things → Real X x
  pub ok : (x : Thing) → In x things → Ok X x
  pub real_due : (x : Thing) → In x due → index_of x ≢ none → Real X x
  pub closed : (y : Thing) → Leads X things y → In y things ⊎ In y due
  pub frame_first : (e k limit : ℕ) → In (frame e k limit) (behind due) → ⊥

-- the first fault that the walk meets from a thing on: the thing itself, or one of what it leads to, a choice point's frames before the
-- older choice points
pub data FaultFrom (X : Image) : Thing → Fault → Type 0 where
  ended : {x : Thing} → index_of x ≡ none → FaultFrom X x whole
  found : {x : Thing} → index_of x ≢ none → (Ok X x → ⊥) → FaultFrom X x (broken (index_of x))
  above : {e k limit : ℕ} {f : Fault} → e ≢ none → Ok X (frame e k limit) → FaultFrom X (frame (link_at X e) (size_of (size_at X e)) e) f
      → FaultFrom X (frame e k limit) f
  inside : {b limit t h i : ℕ} → b ≢ none → Ok X (point b limit t h) → FaultFrom X (frame (at X b E) (size_of (at X b L)) b) (broken i)
      → FaultFrom X (point b limit t h) (broken i)
  older : {b limit t h : ℕ} {f : Fault} → b ≢ none → Ok X (point b limit t h) → FaultFrom X (frame (at X b E) (size_of (at X b L)) b) whole
      → FaultFrom X (point (at X b B) b (at X b T) (at X b H)) f → FaultFrom X (point b limit t h) f

-- the control area's frame and choice point
abbrev pub first_frame : Image → Thing
first_frame X = frame (reg X E) (size_of (reg X L)) (length X.stack)

abbrev pub first_point : Image → Thing
first_point X = point (reg X B) (length X.stack) (reg X T) (reg X H)

-- what the walk of a chain from x does: where x was due it is noted with all that it leads to, and none of that is at fault; or the first at
-- fault is answered
pub record Walked (X : Image) (x : Thing) (notes : List ℕ) (r : Result Unit ℕ) (notes' : List ℕ) : Type 0 where
  pub kept : Kept 0 (length X.stack) notes notes'
  pub noted : (rest : List Thing) → Noting X (x ∷ rest) notes → IfOk r (λ _. Noting X rest notes' × FaultFrom X x whole)
  pub stopped : (rest : List Thing) → Noting X (x ∷ rest) notes → IfErr r (λ i. FaultFrom X x (broken i))
