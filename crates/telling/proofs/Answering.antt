-- An answer that names a root: the root and its chain stand in the image, and the chain's cells in the room. Assumes nothing.
use Prim.Native.Nat.{ℕ, ◌<◌}
use mathlib.Core.Path.{◌≡◌, refl, sym, ap, subst}
use mathlib.Core.List.{List, [], ◌∷◌, ◌++◌}
use native.Mathlib.Omega.{arith}
use native.Mathlib.Decide.{dec_lt}
use lib.ListN.{length, get_or, drop, length-append, get_or-append}
use lib.Seq.{get_or_at}
use Rattle.machine.specs.declared.Area.{Area}
use Rattle.machine.specs.Layout.{Image, H, reg}
use Rattle.machine.specs.Refusals.{Verdict, accepted, refused, verdict}
use Rattle.machine.proofs.Accepted.{Accepted}
use Rattle.machine.proofs.Verdicts.{verdict-accepted}
use Rattle.promise.proofs.Reaching.{reached-low}
use Rattle.order.specs.Chains.{Chain, direct, onward, Best}
use Rattle.order.proofs.Chains.{chain-root, chain-reached}
use Rattle.listing.specs.Lines.{verdict_text}
use Rattle.std.specs.Prelude.{Some, Ok}
use Rattle.holder.specs.declared.Held.{Held}
use Rattle.holder.specs.Answers.{held, refusal, said_of, Outcome, is_held}
use Rattle.telling.specs.Text.{said_text}
use Rattle.telling.specs.Parts.{Rooted, Indexes, Answered}

-- every cell of a chain is reached, so it lies below H
pub chain-low : {X : Image} {area : Area} {index x : ℕ} {cells : List ℕ} → Accepted X → Chain X area index cells x → (i : ℕ) → i < length cells → get_or cells i 0 < reg X H
chain-low {X} a (direct {x = x} r f) i l = let z : i ≡ 0 = omega arith in subst (λ (k : ℕ). get_or (x ∷ []) k 0 < reg X H) (sym z) (reached-low a (chain-reached (direct r f)))
chain-low {X} a (onward {cells = cells} {x = x} c f) i l =
    elim (dec_lt i (length cells)) [
      | yes m ↦ subst (λ (y : ℕ). y < reg X H) (sym (get_or-append cells (x ∷ []) 0 i m)) (chain-low a c i m)
      | no m ↦ subst (λ (y : ℕ). y < reg X H) (sym (get_or_at cells x [] 0 i (omega (arith, length-append cells (x ∷ []))))) (reached-low a (chain-reached (onward c f)))
    ]

-- the one case in which a root is named
pub record HeldBy (X : Image) (lent x : ℕ) (room : List ℕ) (area : Area) (index n : ℕ) (room' : List ℕ) : Type 0 where
  pub cells : List ℕ
  pub passes : verdict lent X ≡ accepted
  pub best : Best X x area index cells
  pub count : n ≡ length cells
  pub stands : room' ≡ cells ++ drop (length cells) room

held_by : {X : Image} {lent x : ℕ} {room : List ℕ} {area : Area} {index n : ℕ} {room' : List ℕ} → Outcome X lent x room (held area index n) room' → HeldBy X lent x room area index n room'
held_by (is_held {cells = cells} v l b m) = record { cells = cells; passes = v; best = b; count = refl; stands = refl }

module _ {X : Image} {work : List ℕ} {h : Held} {room : List ℕ} (a : Answered X work (Ok (Some h)) room) where
  pub holds : HeldBy X (length a.lent_work) a.asked a.lent_room h.root.area h.root.index h.length room
  unfolding said_of
  holds = held_by a.explains.outcome

  pub answer-rooted : Rooted X work h.root.area h.root.index
  answer-rooted =
      let r = chain-root holds.best.chain in
      record {
        lent = a.lent_work;
        passes = holds.passes;
        cleared = a.explains.cleared;
        word = r.0;
        root = r.1;
      }

  pub answer-indexes : Indexes X.heap room h.length
  answer-indexes =
      let v = verdict-accepted (length a.lent_work) X holds.passes in
      let rest = drop (length holds.cells) a.lent_room in
      record {
        fits = omega (arith, holds.count, ap length holds.stands, length-append holds.cells rest);
        inside = λ i l.
            let m : i < length holds.cells = omega (arith, holds.count) in
            omega (
              arith,
              ap (λ (l : List ℕ). get_or l i 0) holds.stands,
              get_or-append holds.cells rest 0 i m,
              chain-low v.0 holds.best.chain i m,
              v.0.fits.heap,
            );
      }

-- a refusal's text is its verdict's
pub refusal-text : (X : Image) (v : Verdict) (room : List ℕ) → said_text X (refusal v) room ≡ verdict_text v
unfolding said_text verdict_text
refusal-text X accepted room = refl
refusal-text X (refused number place) room = refl
