-- `stores::flush_at` meets its contract: place by place. Assumes nothing.
use Rattle.stores.proofs.PlanLaws.{flush-image, flush-page, flush-past}
use native.Mathlib.Omega.{arith}
use Prim.Native.Nat.{◌-◌}
use mathlib.Core.Path.{sym}
use Rattle.stores.proofs.flush_at.Goals as goal

pub returns-then-k-n : goal.returns-then-k-n
returns-then-k-n c = let a = c.args in sym (flush-image a.plan a.n a.k (omega arith))

pub returns-then-k-n-2 : goal.returns-then-k-n-2
returns-then-k-n-2 c = let a = c.args in sym (flush-page a.plan a.n a.k (a.k - a.n) (omega arith) (omega arith))

pub returns : goal.returns
returns c = let a = c.args in sym (flush-past a.plan a.n a.k (omega arith))
