-- `stores::commit_at` meets its contract: place by place. Assumes nothing.
use Rattle.stores.proofs.PlanLaws.{at-image, at-commit, at-page, at-end, at-meta}
use native.Mathlib.Omega.{arith}
use Prim.Native.Nat.{◌+◌, ◌-◌, ◌*◌}
use mathlib.Core.Path.{sym, ◌∙◌}
use Rattle.stores.proofs.commit_at.Goals as goal

pub returns-then-k-n : goal.returns-then-k-n
returns-then-k-n c = let a = c.args in sym (at-image a.plan a.n a.k (omega arith))

pub returns-then-k-n-2 : goal.returns-then-k-n-2
returns-then-k-n-2 c = let a = c.args in sym (at-commit a.plan a.n a.k (omega arith))

pub returns-then-k-n-3 : goal.returns-then-k-n-3
returns-then-k-n-3 c = let a = c.args in sym (at-page a.plan a.n a.k (a.k - (a.n + 1)) (omega arith) (omega arith))

pub returns-then-k-n-4 : goal.returns-then-k-n-4
returns-then-k-n-4 c = let a = c.args in sym (at-end a.plan a.n a.k 0 (omega arith))

pub returns-then-k-n-5 : goal.returns-then-k-n-5
returns-then-k-n-5 c = let a = c.args in sym (at-end a.plan a.n a.k 1 (omega arith))

pub returns-then-k-n-6 : goal.returns-then-k-n-6
returns-then-k-n-6 c = let a = c.args in sym (at-end a.plan a.n a.k 2 (omega arith))

pub returns : goal.returns
returns c = let a = c.args in c.meta_then.ensures ∙ sym (at-meta a.plan a.n a.k (a.k - (2 * a.n + 4)) (omega arith))
