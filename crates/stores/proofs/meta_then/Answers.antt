-- `stores::meta_then` meets its contract: place by place. Assumes nothing.
use native.Mathlib.Omega.{arith}
use Prim.Native.Nat.{suc, ◌-◌}
use mathlib.Core.Path.{◌≡◌}
use Rattle.stores.proofs.meta_then.Goals as goal

pub returns-then-j-eq0 : goal.returns-then-j-eq0
returns-then-j-eq0 c = let e : c.args.j ≡ 0 = omega arith in rw e

pub returns : goal.returns
returns c = let e : c.args.j ≡ suc (c.args.j - 1) = omega arith in rw e
