-- `stores::rollback_at` meets its contract: place by place. Assumes nothing.
use Rattle.stores.proofs.PlanLaws.{roll-none, roll-image, roll-page, roll-end}
use Rattle.stores.specs.Plans.{rollback_steps}
use native.Mathlib.Omega.{arith}
use Prim.Native.Nat.{suc, ◌+◌, ◌-◌, ◌*◌}
use mathlib.Core.Path.{◌≡◌, sym, ◌∙◌}
use Rattle.stores.proofs.rollback_at.Goals as goal

pub returns-then-k-lt1 : goal.returns-then-k-lt1
unfolding rollback_steps
returns-then-k-lt1 c = let e : c.args.k ≡ 0 = omega arith in rw e

pub returns-then-k-lt2 : goal.returns-then-k-lt2
unfolding rollback_steps
returns-then-k-lt2 c = let e : c.args.k ≡ 1 = omega arith in rw e

pub returns-then-n-lt1 : goal.returns-then-n-lt1
returns-then-n-lt1 c = let a = c.args in c.meta_then.ensures ∙ sym (roll-none a.plan a.n a.k (a.k - 2) (omega arith) (omega arith))

pub returns-then-k-n : goal.returns-then-k-n
returns-then-k-n c = let a = c.args in sym (roll-image a.plan a.n a.k (a.k - 2) (omega arith) (omega arith) (omega arith))

pub returns-then-k-n-2 : goal.returns-then-k-n-2
returns-then-k-n-2 c = let a = c.args in sym (roll-page a.plan a.n a.k (a.k - (a.n + 2)) (omega arith) (omega arith) (omega arith))

pub returns-then-k-n-3 : goal.returns-then-k-n-3
returns-then-k-n-3 c = let a = c.args in sym (roll-end a.plan a.n a.k 0 (omega arith) (omega arith))

pub returns-then-k-n-4 : goal.returns-then-k-n-4
returns-then-k-n-4 c = let a = c.args in sym (roll-end a.plan a.n a.k 1 (omega arith) (omega arith))

pub returns : goal.returns
returns c = let a = c.args in c.meta_then-2.ensures ∙ sym (roll-end a.plan a.n a.k (suc (suc (a.k - (2 * a.n + 4)))) (omega arith) (omega arith))
