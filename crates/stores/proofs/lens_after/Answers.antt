-- `stores::lens_after` meets its contract: store by store. Assumes nothing.
use Rattle.stores.specs.Inside.{lens, lens_after}
use Rattle.stores.specs.declared.Step.{Step}
use Prim.Native.Nat.{ℕ}
use mathlib.Core.Path.{sym, ap, ◌∙◌}
use Rattle.stores.proofs.lens_after.Goals as goal

pub returns-in-LogImage : goal.returns-in-LogImage
unfolding lens_after
returns-in-LogImage c = c.lengths.ensures ∙ sym (ap (λ (s : Step). lens_after 4096 s c.args.lens) c.in-LogImage.is)

pub returns-in-LogBegin : goal.returns-in-LogBegin
unfolding lens_after
returns-in-LogBegin c = c.lengths-in-LogBegin.ensures ∙ sym (ap (λ (s : Step). lens_after 4096 s c.args.lens) c.in-LogBegin.is)

pub returns-in-LogCommit : goal.returns-in-LogCommit
unfolding lens_after
returns-in-LogCommit c = c.lengths-in-LogCommit.ensures ∙ sym (ap (λ (s : Step). lens_after 4096 s c.args.lens) c.in-LogCommit.is)

pub returns-in-LogAbort : goal.returns-in-LogAbort
unfolding lens_after
returns-in-LogAbort c = c.lengths-in-LogAbort.ensures ∙ sym (ap (λ (s : Step). lens_after 4096 s c.args.lens) c.in-LogAbort.is)

pub returns-in-LogCheckpoint : goal.returns-in-LogCheckpoint
unfolding lens_after
returns-in-LogCheckpoint c = c.lengths-in-LogCheckpoint.ensures ∙ sym (ap (λ (s : Step). lens_after 4096 s c.args.lens) c.in-LogCheckpoint.is)

pub returns-in-WritePage : goal.returns-in-WritePage
unfolding lens_after
returns-in-WritePage c = sym (ap (λ (s : Step). lens_after 4096 s c.args.lens) c.in-WritePage.is)

pub returns-in-WriteMeta : goal.returns-in-WriteMeta
unfolding lens_after
returns-in-WriteMeta c = sym (ap (λ (s : Step). lens_after 4096 s c.args.lens) c.in-WriteMeta.is)

pub returns-in-SetSlot : goal.returns-in-SetSlot
unfolding lens_after
returns-in-SetSlot c =
    let a = c.args in
    c.lengths-in-SetSlot.ensures ∙ ap (λ (m : ℕ). lens a.lens.log a.lens.db m) c.max.ensures ∙ sym (ap (λ (s : Step). lens_after 4096 s a.lens) c.in-SetSlot.is)

pub returns-in-Compact : goal.returns-in-Compact
unfolding lens_after
returns-in-Compact c = sym (ap (λ (s : Step). lens_after 4096 s c.args.lens) c.in-Compact.is)

pub returns-in-Truncate : goal.returns-in-Truncate
unfolding lens_after
returns-in-Truncate c = c.lengths-in-Truncate.ensures ∙ sym (ap (λ (s : Step). lens_after 4096 s c.args.lens) c.in-Truncate.is)
