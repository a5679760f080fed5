-- `stores::advance_at` meets its contract: place by place. Assumes nothing.
use Rattle.stores.proofs.PlanLaws.{advance-meta}
use mathlib.Core.Path.{◌≡◌, sym, ◌∙◌}
use Rattle.stores.specs.Plans.{advance_steps}
use native.Mathlib.Omega.{arith}
use Prim.Native.Nat.{◌-◌}
use Rattle.stores.proofs.advance_at.Goals as goal

pub returns-then-k-eq0 : goal.returns-then-k-eq0
unfolding advance_steps
returns-then-k-eq0 c = let e : c.args.k ≡ 0 = omega arith in rw e

pub returns : goal.returns
returns c = let a = c.args in c.meta_then.ensures ∙ sym (advance-meta a.plan a.k (a.k - 1) (omega arith))
