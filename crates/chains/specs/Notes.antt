-- One note a stack word, in the work words from `notes` on, says which roles the word has: 0 for none, the role's number for one, and for
-- two or more whether a frame's CL is among them. Assumes nothing.
use Rattle.std.specs.Prelude.{ℕ, ◌+◌, ◌<◌, ◌≤◌, ◌≡◌, ◌≢◌, ◌⊎◌, ◌↔◌, Bool, true, List, length, take, drop, leb, Result, IfOk, IfErr}
use Rattle.machine.specs.Layout.{Image, fixed}
use Rattle.machine.specs.Chains.{whole, broken, walk, fault_of}
use Rattle.machine.specs.Roles.{Role, CL, has, code_of, note_at}

abbrev pub several : ℕ
several = 11

abbrev pub several_with_size : ℕ
several_with_size = 12

-- the word i has two or more
unfoldable pub several_at : List ℕ → ℕ → ℕ → Bool
several_at work notes i = leb several (note_at work notes i)

-- the note of a set of roles
pub data Shows (set : Role → Type 0) : ℕ → Type 0 where
  nothing : ((r : Role) → set r → ⊥) → Shows set 0
  single : (r : Role) → set r → ((s : Role) → set s → s ≡ r) → Shows set (code_of r)
  mixed : (r s : Role) → set r → set s → r ≢ s → (set CL → ⊥) → Shows set several
  mixed_with_size : (r : Role) → set CL → set r → r ≢ CL → Shows set several_with_size

-- where the notes stand and what they are before a walk
pub record Blank (control stack work : List ℕ) (notes : ℕ) : Type 0 where
  pub registers : fixed ≤ length control
  pub room : notes + length stack ≤ length work
  pub zero : (i : ℕ) → i < length stack → note_at work notes i ≡ 0

-- a walk notes all roles of a whole image; of any other it answers where the first fault is. It writes nothing but notes.
pub record Walks (X : Image) (work : List ℕ) (notes : ℕ) (r : Result Unit ℕ) (work' : List ℕ) : Type 0 where
  pub noted : IfOk r (λ _. (fault_of X (walk X) ≡ whole) × ((i : ℕ) → i < length X.stack → Shows (λ (role : Role). has X i role ≡ true) (note_at work' notes i)))
  pub stopped : IfErr r (λ i. fault_of X (walk X) ≡ broken i)
  pub before : take notes work' ≡ take notes work
  pub after : drop (notes + length X.stack) work' ≡ drop (notes + length X.stack) work
  pub same : length work' ≡ length work

-- each word of the stack has at most one role, and its note is the number of that role
pub record Noted (X : Image) (work : List ℕ) (notes : ℕ) : Type 0 where
  pub role : (i : ℕ) → i < length X.stack → (r : Role) → (note_at work notes i ≡ code_of r) ↔ (has X i r ≡ true)
  pub known : (i : ℕ) → i < length X.stack → (note_at work notes i ≡ 0) ⊎ ((r : Role) × (note_at work notes i ≡ code_of r))
