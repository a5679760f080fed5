-- `stores::count` meets its contract: kind by kind. Assumes nothing.
use Rattle.stores.proofs.PlanLaws.{by_kind, length-flush, length-commit, length-rollback, length-rollback-none}
use Rattle.stores.specs.declared.Kind.TheVariants.{Nothing, Begin, Flush, Commit, Rollback, Advance}
use Rattle.stores.specs.Plans.{begin_steps, advance_steps}
use lib.ListN.{length}
use native.Mathlib.Omega.{arith}
use mathlib.Core.Path.{sym, ap, ◌∙◌}
use Rattle.stores.proofs.count.Goals as goal

pub returns-then-n-eq0 : goal.returns-then-n-eq0
returns-then-n-eq0 c =
    let p = c.args.plan in
    let n = c.min-n in
    sym (ap length (by_kind p Rollback n.result c.in-Rollback.is n.ensures) ∙ length-rollback-none p n.result c.if-n-eq0.true)

pub returns-in-Nothing : goal.returns-in-Nothing
returns-in-Nothing c =
    let p = c.args.plan in
    let n = c.min-n in
    sym (ap length (by_kind p Nothing n.result c.in-Nothing.is n.ensures))

pub returns-in-Begin : goal.returns-in-Begin
unfolding begin_steps
returns-in-Begin c =
    let p = c.args.plan in
    let n = c.min-n in
    sym (ap length (by_kind p Begin n.result c.in-Begin.is n.ensures))

pub returns-in-Flush : goal.returns-in-Flush
returns-in-Flush c =
    let p = c.args.plan in
    let n = c.min-n in
    sym (ap length (by_kind p Flush n.result c.in-Flush.is n.ensures) ∙ length-flush p n.result)

pub returns-in-Commit : goal.returns-in-Commit
returns-in-Commit c =
    let p = c.args.plan in
    let n = c.min-n in
    sym (ap length (by_kind p Commit n.result c.in-Commit.is n.ensures) ∙ length-commit p n.result)

pub returns-else-n-eq0 : goal.returns-else-n-eq0
returns-else-n-eq0 c =
    let p = c.args.plan in
    let n = c.min-n in
    sym (ap length (by_kind p Rollback n.result c.in-Rollback.is n.ensures) ∙ length-rollback p n.result (omega arith))

pub returns-in-Advance : goal.returns-in-Advance
unfolding advance_steps
returns-in-Advance c =
    let p = c.args.plan in
    let n = c.min-n in
    sym (ap length (by_kind p Advance n.result c.in-Advance.is n.ensures))
