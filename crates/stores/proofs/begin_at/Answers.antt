-- `stores::begin_at` meets its contract: place by place. Assumes nothing.
use Rattle.stores.specs.Plans.{begin_steps}
use native.Mathlib.Omega.{arith}
use Prim.Native.Nat.{suc, ◌-◌}
use mathlib.Core.Path.{◌≡◌}
use Rattle.stores.proofs.begin_at.Goals as goal

pub returns-then-k-eq0 : goal.returns-then-k-eq0
unfolding begin_steps
returns-then-k-eq0 c = let e : c.args.k ≡ 0 = omega arith in rw e

pub returns-then-k-eq1 : goal.returns-then-k-eq1
unfolding begin_steps
returns-then-k-eq1 c = let e : c.args.k ≡ 1 = omega arith in rw e

pub returns : goal.returns
unfolding begin_steps
returns c = let e : c.args.k ≡ suc (suc (c.args.k - 2)) = omega arith in rw e
