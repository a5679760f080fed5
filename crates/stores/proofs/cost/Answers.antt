-- `stores::cost` meets its contract: store by store. Assumes nothing.
use Rattle.stores.specs.Inside.{cost_of}
use mathlib.Core.Path.{sym, ap, ◌∙◌}
use Rattle.stores.proofs.cost.Goals as goal

pub returns-in-LogImage : goal.returns-in-LogImage
unfolding cost_of
returns-in-LogImage c = c.needing.ensures ∙ sym (ap (cost_of 4096) c.in-LogImage.is)

pub returns-in-LogBegin : goal.returns-in-LogBegin
unfolding cost_of
returns-in-LogBegin c = c.needing-in-LogBegin.ensures ∙ sym (ap (cost_of 4096) c.in-LogBegin.is)

pub returns-in-LogCommit : goal.returns-in-LogCommit
unfolding cost_of
returns-in-LogCommit c = c.needing-in-LogCommit.ensures ∙ sym (ap (cost_of 4096) c.in-LogCommit.is)

pub returns-in-LogAbort : goal.returns-in-LogAbort
unfolding cost_of
returns-in-LogAbort c = c.needing-in-LogAbort.ensures ∙ sym (ap (cost_of 4096) c.in-LogAbort.is)

pub returns-in-LogCheckpoint : goal.returns-in-LogCheckpoint
unfolding cost_of
returns-in-LogCheckpoint c = c.needing-in-LogCheckpoint.ensures ∙ sym (ap (cost_of 4096) c.in-LogCheckpoint.is)

pub returns-in-WritePage : goal.returns-in-WritePage
unfolding cost_of
returns-in-WritePage c = c.needing-in-WritePage.ensures ∙ sym (ap (cost_of 4096) c.in-WritePage.is)

pub returns-in-WriteMeta : goal.returns-in-WriteMeta
unfolding cost_of
returns-in-WriteMeta c = c.needing-in-WriteMeta.ensures ∙ sym (ap (cost_of 4096) c.in-WriteMeta.is)

pub returns-in-SetSlot : goal.returns-in-SetSlot
unfolding cost_of
returns-in-SetSlot c = c.needing-in-SetSlot.ensures ∙ sym (ap (cost_of 4096) c.in-SetSlot.is)

pub returns-in-Compact : goal.returns-in-Compact
unfolding cost_of
returns-in-Compact c = c.needing-in-Compact.ensures ∙ sym (ap (cost_of 4096) c.in-Compact.is)

pub returns-in-Truncate : goal.returns-in-Truncate
unfolding cost_of
returns-in-Truncate c = c.needing-in-Truncate.ensures ∙ sym (ap (cost_of 4096) c.in-Truncate.is)
