-- `stores::told_of` meets its contract: store by store. Assumes nothing.
use Rattle.stores.specs.Told.{first_told}
use Rattle.stores.specs.Inside.{told_by}
use Rattle.stores.specs.declared.Step.{Step}
use Prim.Native.Nat.{ℕ}
use mathlib.Core.List.{[], ◌∷◌}
use mathlib.Core.Path.{sym, ap, ◌∙◌}
use Rattle.stores.proofs.told_of.Goals as goal

pub returns-in-LogImage : goal.returns-in-LogImage
unfolding first_told told_by
returns-in-LogImage c = sym (ap (λ (s : Step). first_told (told_by 4096 s c.args.lens ∷ [])) c.in-LogImage.is)

pub returns-in-LogBegin : goal.returns-in-LogBegin
unfolding first_told told_by
returns-in-LogBegin c = sym (ap (λ (s : Step). first_told (told_by 4096 s c.args.lens ∷ [])) c.in-LogBegin.is)

pub returns-in-LogCommit : goal.returns-in-LogCommit
unfolding first_told told_by
returns-in-LogCommit c = sym (ap (λ (s : Step). first_told (told_by 4096 s c.args.lens ∷ [])) c.in-LogCommit.is)

pub returns-in-LogAbort : goal.returns-in-LogAbort
unfolding first_told told_by
returns-in-LogAbort c = sym (ap (λ (s : Step). first_told (told_by 4096 s c.args.lens ∷ [])) c.in-LogAbort.is)

pub returns-in-LogCheckpoint : goal.returns-in-LogCheckpoint
unfolding first_told told_by
returns-in-LogCheckpoint c = sym (ap (λ (s : Step). first_told (told_by 4096 s c.args.lens ∷ [])) c.in-LogCheckpoint.is)

pub returns-in-WritePage : goal.returns-in-WritePage
unfolding first_told told_by
returns-in-WritePage c = sym (ap (λ (s : Step). first_told (told_by 4096 s c.args.lens ∷ [])) c.in-WritePage.is)

pub returns-in-WriteMeta : goal.returns-in-WriteMeta
unfolding first_told told_by
returns-in-WriteMeta c = sym (ap (λ (s : Step). first_told (told_by 4096 s c.args.lens ∷ [])) c.in-WriteMeta.is)

pub returns-in-SetSlot : goal.returns-in-SetSlot
unfolding first_told told_by
returns-in-SetSlot c = sym (ap (λ (s : Step). first_told (told_by 4096 s c.args.lens ∷ [])) c.in-SetSlot.is)

pub returns-in-Compact : goal.returns-in-Compact
unfolding first_told told_by
returns-in-Compact c = ap (λ (m : ℕ). 3 ∷ 8 ∷ m ∷ []) c.span_below.ensures ∙ sym (ap (λ (s : Step). first_told (told_by 4096 s c.args.lens ∷ [])) c.in-Compact.is)

pub returns-in-Truncate : goal.returns-in-Truncate
unfolding first_told told_by
returns-in-Truncate c = sym (ap (λ (s : Step). first_told (told_by 4096 s c.args.lens ∷ [])) c.in-Truncate.is)
