-- `stores::step_at` meets its contract: kind by kind. Assumes nothing.
use Rattle.stores.proofs.PlanLaws.{by_kind}
use Rattle.stores.specs.declared.Kind.TheVariants.{Nothing, Begin, Flush, Commit, Rollback, Advance}
use Rattle.stores.specs.declared.Step.TheVariants.{Truncate}
use Rattle.stores.specs.declared.Step.{Step}
use lib.ListN.{get_or}
use mathlib.Core.List.{List}
use mathlib.Core.Path.{sym, ap, ◌∙◌}
use Rattle.stores.proofs.step_at.Goals as goal

pub returns-in-Nothing : goal.returns-in-Nothing
returns-in-Nothing c =
    let a = c.args in
    let n = c.min-n in
    sym (ap (λ (l : List Step). get_or l a.k Truncate) (by_kind a.plan Nothing n.result c.in-Nothing.is n.ensures))

pub returns-in-Begin : goal.returns-in-Begin
returns-in-Begin c =
    let a = c.args in
    let n = c.min-n in
    c.begin_at.ensures ∙ sym (ap (λ (l : List Step). get_or l a.k Truncate) (by_kind a.plan Begin n.result c.in-Begin.is n.ensures))

pub returns-in-Flush : goal.returns-in-Flush
returns-in-Flush c =
    let a = c.args in
    let n = c.min-n in
    c.flush_at.ensures ∙ sym (ap (λ (l : List Step). get_or l a.k Truncate) (by_kind a.plan Flush n.result c.in-Flush.is n.ensures))

pub returns-in-Commit : goal.returns-in-Commit
returns-in-Commit c =
    let a = c.args in
    let n = c.min-n in
    c.commit_at.ensures ∙ sym (ap (λ (l : List Step). get_or l a.k Truncate) (by_kind a.plan Commit n.result c.in-Commit.is n.ensures))

pub returns-in-Rollback : goal.returns-in-Rollback
returns-in-Rollback c =
    let a = c.args in
    let n = c.min-n in
    c.rollback_at.ensures ∙ sym (ap (λ (l : List Step). get_or l a.k Truncate) (by_kind a.plan Rollback n.result c.in-Rollback.is n.ensures))

pub returns-in-Advance : goal.returns-in-Advance
returns-in-Advance c =
    let a = c.args in
    let n = c.min-n in
    c.advance_at.ensures ∙ sym (ap (λ (l : List Step). get_or l a.k Truncate) (by_kind a.plan Advance n.result c.in-Advance.is n.ensures))
