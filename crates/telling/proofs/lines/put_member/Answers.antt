-- `telling::lines::put_member` meets its contract: the text of each kind of owner, by the cases. Assumes nothing.
use Prim.Native.Nat.{◌+◌, ◌-◌}
use mathlib.Core.Path.{◌≡◌}
use mathlib.Core.List.{append_assoc}
use native.Mathlib.Omega.{arith}
use Rattle.machine.specs.Layout.{fixed, frame_fixed}
use Rattle.text.proofs.Puttings.{short-within, short-join}
use Rattle.telling.specs.Text.{member_text}
use Rattle.telling.specs.Parts.{own_text}
use Rattle.telling.proofs.lines.put_member.Goals as goal

pub returns-in-Frame : goal.returns-in-Frame
unfolding own_text member_text
returns-in-Frame c =
    let low = rw c.in-Frame.is at c.requires in
    let n : 1 + c.args.i - (c.in-Frame.e + frame_fixed) ≡ c.args.i - (c.in-Frame.e + frame_fixed) + 1 = omega arith in
    rw (c.in-Frame.is, n) (short-within (omega arith) (simp append_assoc at (short-join c.put_numbered-e_at.ensures c.put_spaced.ensures)))

pub returns-in-Point : goal.returns-in-Point
unfolding own_text member_text
returns-in-Point c =
    let low = rw c.in-Point.is at c.requires in
    let n : 1 + c.args.i - (c.in-Point.b + fixed) ≡ c.args.i - (c.in-Point.b + fixed) + 1 = omega arith in
    rw (c.in-Point.is, n) (short-within (omega arith) (simp append_assoc at (short-join c.put_numbered-b_at.ensures c.put_spaced-in-Point.ensures)))
