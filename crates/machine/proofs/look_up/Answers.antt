-- `machine::look_up` meets its contract: each of the four ways out is one case of what an address names, and the part that is returned
-- begins at the address's place in the named area's memory. Assumes nothing.
use Rattle.std.proofs.Common.{◌-◌, ◌<◌, ◌≤◌, length, arith}
use borrow.Author.Tests.{lt-ltb, le-ltb}
use borrow.Author.Rules.{part_to_end}
use Rattle.cell.specs.Word.{stack_base}
use Rattle.machine.specs.LookUp.{names_heap, names_stack, part_at, start_at}
use Rattle.machine.proofs.look_up.Goals as goal

pub returns-then-at-heap : goal.returns-then-at-heap
unfolding names_heap part_at start_at
returns-then-at-heap c =
    let low : c.args.address < stack_base = omega arith in
    let inside : c.args.address < length c.args.heap.now = omega arith in
    record {
      words = simp (lt-ltb c.args.address stack_base low, lt-ltb c.args.address (length c.args.heap.now) inside) (part_to_end c.args.heap.now c.args.address);
      start = simp (lt-ltb c.args.address stack_base low, lt-ltb c.args.address (length c.args.heap.now) inside);
    }

pub returns-then-address-lt-STACK_BASE : goal.returns-then-address-lt-STACK_BASE
unfolding names_heap names_stack part_at start_at
returns-then-address-lt-STACK_BASE c =
    let low : c.args.address < stack_base = omega arith in
    let outside : length c.args.heap.now ≤ c.args.address = omega arith in
    record {
      words = simp (lt-ltb c.args.address stack_base low, le-ltb c.args.address (length c.args.heap.now) outside);
      start = simp (lt-ltb c.args.address stack_base low, le-ltb c.args.address (length c.args.heap.now) outside);
    }

pub returns-then-at-stack : goal.returns-then-at-stack
unfolding names_heap names_stack part_at start_at
returns-then-at-stack c =
    let at = c.args.address - stack_base in
    let high : stack_base ≤ c.args.address = omega arith in
    let inside : at < length c.args.stack.now = omega arith in
    record {
      words = simp (le-ltb c.args.address stack_base high, lt-ltb at (length c.args.stack.now) inside) (part_to_end c.args.stack.now at);
      start = simp (le-ltb c.args.address stack_base high, lt-ltb at (length c.args.stack.now) inside);
    }

pub returns : goal.returns
unfolding names_heap names_stack part_at start_at
returns c =
    let at = c.args.address - stack_base in
    let high : stack_base ≤ c.args.address = omega arith in
    let outside : length c.args.stack.now ≤ at = omega arith in
    record {
      words = simp (le-ltb c.args.address stack_base high, le-ltb at (length c.args.stack.now) outside);
      start = simp (le-ltb c.args.address stack_base high, le-ltb at (length c.args.stack.now) outside);
    }
