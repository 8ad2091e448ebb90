-- Choice points in their chain: what the first says of the rest, how many there can be, and a walk that counts them with their chains of
-- frames. Assumes nothing.
use Prim.Native.Nat.{ℕ, suc, ◌+◌, max, ◌≤◌, ◌<◌}
use mathlib.Core.Path.{◌≡◌, refl, sym, ap, ◌∙◌, subst₂}
use mathlib.Core.Logic.{◌≢◌}
use mathlib.Core.List.{List}
use native.Mathlib.Omega.{arith}
use lib.ListN.{length}
use Rattle.machine.specs.Layout.{E, B, fixed, none, field}
use Rattle.tally.specs.declared.Tally.{Tally}
use Rattle.tally.specs.Parts.{with_chains, with_chain, with_point, Chained, Points, nothing, point, Pointed, Memo, Notes, Chains, CountsPoints, CountsChains}
use Rattle.tally.proofs.Chains.{left, left_less, falls-short, short-word, one-chain, chain-inside}
use Rattle.tally.proofs.Memos.{notes-none, notes-join}

-- a tally with other choice points and another deepest chain
abbrev with-last : Tally → ℕ → ℕ → Tally
with-last tally points deepest = record {
  kept = tally.kept;
  dropped = tally.dropped;
  entries_kept = tally.entries_kept;
  entries_dropped = tally.entries_dropped;
  points = points;
  deepest = deepest;
}

-- a chain that has a choice point
pub record First (stack : List ℕ) (b m d : ℕ) : Type 0 where
  pub inside : b + fixed ≤ length stack
  pub falls : field stack b B ≢ none → field stack b B < b
  pub own : Chained stack (field stack b E)
  pub rest : Pointed stack (field stack b B)
  pub count : m ≡ suc rest.points
  pub deepest : d ≡ max own.frames rest.frames

module _ {stack : List ℕ} where
  pub points-first : {b m d : ℕ} → Points stack b m d → b ≢ none → First stack b m d
  points-first (nothing q) s = absurd (s q)
  points-first (point {n = n} {points = m} {frames = d} s inside falls c p) t = record {
    inside = inside;
    falls = falls;
    own = record { frames = n; chain = c };
    rest = record { points = m; frames = d; chains = p };
    count = refl;
    deepest = refl;
  }

  pub points_none : {b m d : ℕ} → Points stack b m d → b ≡ none → (m ≡ 0) × (d ≡ 0)
  points_none (nothing q) e = (refl, refl)
  points_none (point s inside falls c p) e = absurd (s e)

  pub one-points : {b m d m' d' : ℕ} → Points stack b m d → Points stack b m' d' → (m ≡ m') × (d ≡ d')
  one-points (nothing q) p = let z = points_none p q in (sym z.0, sym z.1)
  one-points (point s inside falls c p) q =
      let f = points-first q s in
      let o = one-points p f.rest.chains in
      (omega (arith, o.0, f.count), omega (arith, o.1, one-chain c f.own.chain, f.deepest))

  pub points-short : {b m d : ℕ} → Points stack b m d → m ≤ suc b
  points-short (nothing q) = omega arith
  points-short (point {b = b} {points = m} s inside falls c p) = falls-short b (field stack b B) m s falls (λ e. (points_none p e).0) (points-short p)

  pub points-inside : {b m d : ℕ} → Points stack b m d → (m ≤ length stack) × (d ≤ length stack)
  points-inside (nothing q) = (omega arith, omega arith)
  points-inside (point s inside falls c p) =
      (omega (arith, points-short (point s inside falls c p)), omega (arith, chain-inside c, (points-inside p).1))

  pub points-word : {b m d : ℕ} → b ≤ none → Points stack b m d → m ≤ none
  points-word {b} {m} l p = short-word b m l (λ e. (points_none p e).0) (points-short p)

-- chains counted one after the other
pub more-none : (tally : Tally) → tally ≡ with_chains tally 0 0
more-none tally =
    let x : tally.points ≡ tally.points + 0 = omega arith in
    let y : tally.deepest ≡ max tally.deepest 0 = omega arith in
    λ i. with-last tally (x i) (y i)

pub more-more : (tally : Tally) (m d n e : ℕ) → with_chains (with_chains tally m d) n e ≡ with_chains tally (m + n) (max d e)
more-more tally m d n e =
    let x : tally.points + m + n ≡ tally.points + (m + n) = omega arith in
    let y : max (max tally.deepest d) e ≡ max tally.deepest (max d e) = omega arith in
    λ i. with-last tally (x i) (y i)

-- so many choice points are counted between two
pub record Passed (stack : List ℕ) (b : ℕ) (tally : Tally) (notes : List ℕ) (next : ℕ) (counted : Tally) (notes' : List ℕ) : Type 0 where
  pub points : ℕ
  pub frames : ℕ
  pub ahead : Pointed stack next
  pub back : (m d : ℕ) → Points stack next m d → Points stack b (points + m) (max frames d)
  pub so_far : counted ≡ with_chains tally points frames
  pub noted : Notes stack notes notes'

module _ {stack : List ℕ} {b : ℕ} {tally : Tally} {notes : List ℕ} where
  pub passed_none : Pointed stack b → Memo stack notes → Passed stack b tally notes b tally notes
  passed_none a m = record {
    points = 0;
    frames = 0;
    ahead = a;
    back = λ m d p.
        let x : m ≡ 0 + m = omega arith in
        let y : d ≡ max 0 d = omega arith in
        subst₂ (λ (i j : ℕ). Points stack b i j) x y p;
    so_far = more-none tally;
    noted = notes-none m;
  }

  module _ {next : ℕ} {counted : Tally} {notes' : List ℕ} (p : Passed stack b tally notes next counted notes') where
    module _ (s : next ≢ none) where
      abbrev pub here : First stack next p.ahead.points p.ahead.frames
      here = points-first p.ahead.chains s

      pub passed-less : left (field stack next B) < left next
      passed-less = left_less next (field stack next B) s here.falls

      -- there is room for one more
      pub passed-room : b ≤ none → tally.points ≡ 0 → counted.points + 1 ≤ none
      passed-room l z =
          omega (
            arith,
            ap (λ (t : Tally). t.points) p.so_far,
            points-word l (p.back _ _ p.ahead.chains),
            here.count,
          )

      pub passed-more : {n : ℕ} {counted' : Tally} {notes'' : List ℕ} → Chains stack (field stack next E) notes' n notes'' → counted' ≡ with_point counted n
          → Passed stack b tally notes (field stack next B) counted' notes''
      passed-more {n} c e = record {
        points = p.points + 1;
        frames = max p.frames n;
        ahead = here.rest;
        back = λ m d q.
            let x : p.points + suc m ≡ p.points + 1 + m = omega arith in
            let y : max p.frames (max n d) ≡ max (max p.frames n) d = omega arith in
            subst₂ (λ (i j : ℕ). Points stack b i j) x y (p.back (suc m) (max n d) (point s here.inside here.falls c.chain q));
        so_far = e ∙ ap (λ (t : Tally). with_point t n) p.so_far ∙ more-more tally p.points p.frames 1 n;
        noted = notes-join p.noted c.noted;
      }

    pub passed-end : next ≡ none → CountsPoints stack b tally notes counted notes'
    passed-end q = record {
      points = p.points;
      frames = p.frames;
      chains =
          let x : p.points + 0 ≡ p.points = omega arith in
          let y : max p.frames 0 ≡ p.frames = omega arith in
          subst₂ (λ (i j : ℕ). Points stack b i j) x y (p.back 0 0 (nothing q));
      next = p.so_far;
      noted = p.noted;
    }

-- the control area's own chain first
pub chains-counted : {control stack : List ℕ} {tally counted r : Tally} {notes notes' notes'' : List ℕ} {n : ℕ}
    → Chains stack (field control 0 E) notes n notes' → counted ≡ with_chain tally n → CountsPoints stack (field control 0 B) counted notes' r notes''
    → CountsChains control stack tally notes r notes''
chains-counted {n = n} c e p = record {
  own = n;
  chain = c.chain;
  points = record {
    points = p.points;
    frames = p.frames;
    chains = p.chains;
    next = p.next ∙ ap (λ (t : Tally). with_chains t p.points p.frames) e;
    noted = notes-join c.noted p.noted;
  };
}
