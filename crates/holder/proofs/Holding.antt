-- The answer for a cell that the search has met: where it stands in the queue, and the chain to it with its root. Assumes nothing.
use Prim.Native.Nat.{ℕ, suc, ◌<◌, ◌≤◌}
use mathlib.Core.Path.{◌≡◌, refl, sym, ap, ◌∙◌, subst}
use mathlib.Core.List.{List, [], ◌∷◌, ◌++◌}
use native.Mathlib.Omega.{arith}
use borrow.Author.Tests.{eqb-true, eq-eqb}
use lib.ListN.{length, get_or, drop, length-append, get_or-append}
use Rattle.machine.specs.declared.Place.{Place}
use Rattle.std.specs.Prelude.{Option, Some, None, Ok, IsSome}
use Rattle.machine.specs.Lowest.{Lowest}
use Rattle.machine.proofs.Tests.{true-false}
use Rattle.order.specs.Levels.{levels}
use Rattle.queue.specs.Filled.{begins_at}
use Rattle.holder.specs.Tracing.{entry_at, stands_at, Trace, alone, after, Traced, FirstRoot, Searched, Answered, found}

-- x stands at a place of the queue
pub place_there : {control stack heap work : List ℕ} {tail x : ℕ} (r : Option ℕ) → Searched control stack heap work tail x → Lowest (stands_at work x) tail r → IsSome r
unfolding stands_at
place_there (Some j) s f = refl
place_there {work = work} {x = x} None s f = true-false (eq-eqb (entry_at work s.at) x s.there) (f s.at s.low)

pub place_found : (work : List ℕ) {tail : ℕ} (x : ℕ) {j : ℕ} → Lowest (stands_at work x) tail (Some j) → (j < tail) × (entry_at work j ≡ x)
unfolding stands_at
place_found work x {j = j} f = (f.0, eqb-true (entry_at work j) x f.1)

-- a chain has a first cell
pub trace-long : {heap work : List ℕ} {j : ℕ} {path : List ℕ} → Trace heap work j path → 0 < length path
trace-long (alone s) = omega arith
trace-long {work = work} (after {j = j} {path = path} s l t e p) = omega (arith, length-append path (entry_at work j ∷ []))

module _ {heap work : List ℕ} {j : ℕ} {room room' : List ℕ} (t : Traced heap work j room room') where
  pub traced-long : 0 < length room'
  traced-long = omega (arith, trace-long t.trace, ap length t.written, length-append t.path (drop (length t.path) room))

  -- which is what stands first in the room
  pub traced-first : get_or room' 0 0 ≡ get_or t.path 0 0
  traced-first = ap (λ (l : List ℕ). get_or l 0 0) t.written ∙ get_or-append t.path (drop (length t.path) room) 0 0 (trace-long t.trace)

  pub answered-found : {control stack : List ℕ} {n : ℕ} {root : Place} → n ≡ levels (begins_at work) (suc j) → n ≤ length room → FirstRoot control stack heap work (get_or room' 0 0) root
      → Answered control stack heap work j room (Ok (record { root = root; length = n })) room'
  answered-found {control} {stack} {n} {root} e l f =
      let at = subst (λ (x : ℕ). FirstRoot control stack heap work x root) traced-first f in
      let a = found (subst (λ (k : ℕ). k ≤ length room) e l) t.trace at in
      let b = subst (λ (k : ℕ). Answered control stack heap work j room (Ok (record { root = root; length = k })) (t.path ++ drop (length t.path) room)) (sym e) a in
      subst (Answered control stack heap work j room (Ok (record { root = root; length = n }))) (sym t.written) b
