-- `clog::clear` meets its contract. The loop's invariant: clearing what is left, from the place that is reached, gives what was asked for. Of the bytes under w nothing
-- is left; in the byte in which w falls the slots under it are cleared, and that is all. Assumes nothing.
use mathlib.Core.Path.{◌≡◌, sym, ◌∙◌}
use Prim.Native.Nat.{◌+◌, ◌-◌, ◌*◌, ◌%◌}
use native.Mathlib.Omega.{arith}
use Rattle.clog.proofs.Ways.{clear-turn, clear-byte, clear-end, length-cleared, sets-whole}
use Rattle.clog.proofs.FourSlots.{high-whole}
use Rattle.clog.proofs.clear.Goals as goal

pub loop-i-init : goal.loop-i-init
loop-i-init c = let e : c.args.w - 4 * 0 ≡ c.args.w = omega arith in rw e (sets-whole _ _ (length-cleared _ _))

pub loop-i-preserved : goal.loop-i-preserved
loop-i-preserved c =
    let l = c.loop-i in
    let e : c.args.w - 4 * (l.i + 1) ≡ c.args.w - 4 * l.i - 4 = omega arith in
    rw e (clear-turn l.body l.i _ (omega arith) (c.args.w - 4 * l.i) (c.high_bits.ensures ∙ high-whole (c.args.w - 4 * l.i) _ (omega arith)) ∙ l.invariant)

pub returns-then-whole-body : goal.returns-then-whole-body
returns-then-whole-body c =
    let l = c.loop-i in
    let e : c.min-whole.result ≡ l.i = omega arith in
    let k : c.args.w - 4 * l.i ≡ c.args.w % 4 = omega arith in
    rw e (sym (clear-byte l.body l.i _ (omega arith) (c.args.w - 4 * l.i) (omega arith) (rw k (rw (← e) c.high_bits-then-whole-body.ensures))) ∙ l.invariant)

pub returns-else-whole-body : goal.returns-else-whole-body
returns-else-whole-body c = let l = c.loop-i in sym (clear-end l.body l.i (c.args.w - 4 * l.i) (omega arith)) ∙ l.invariant
