-- A store's next commit time is a 64-bit number, from its opening on; and a store opened in the mode that takes a torn record as the end meets the invariant too.
-- P is the page size. Assumes nothing.
use mathlib.Core.Path.{◌≡◌, refl, sym, ap, ◌∙◌, subst}
use mathlib.Core.List.{List, [], ◌∷◌}
use Prim.Native.Nat.{ℕ, zero, suc, ◌^◌, ◌<◌}
use native.Mathlib.Omega.{arith}
use Rattle.fields.proofs.Tests.{Order, less, most, order}
use Rattle.table.specs.Entries.{next64}
use Rattle.world.specs.declared.Slot.{Slot}
use Rattle.world.specs.declared.Slot.TheVariants.{Installed, Empty}
use Rattle.world.specs.World.{Files, Mem, World}
use Rattle.world.specs.Calls.{Call, Install, Uninstall, AllocId, AllocPage, Begin, Read, Write, Flush, Commit, Rollback, Advance, next_time, keeps}
use Rattle.world.specs.Refusals.{refuses}
use Rattle.world.specs.Run.{done, decided, call, run}
use Rattle.world.proofs.FrameLaws.{seat-mem, write_mem}
use Rattle.world.proofs.CallLaws as laws
use Rattle.opening.specs.Opening.{log_time, with_meta}
use Rattle.opening.proofs.Formed.{Passed}
use Rattle.torn.specs.Torn.{torn_no, opening_torn}
use Rattle.torn.proofs.Laws.{torn-number, torn-means, torn-meta}
use Rattle.keyoff.specs.KeyOff.{OpenedWithMeta, BytesIn}
use Rattle.keyoff.proofs.Typed.{stored-field}
use Rattle.keyoff.proofs.Start.{meta-keeps}
use Rattle.keyoff.proofs.Invariant.{Kept}

-- ---- calls keep it

abbrev pub Timely : World → Type 0
Timely w = w.mem.time.0 < 2 ^ 64

next_small : (n : ℕ) → next64 n < 2 ^ 64
next_small n = omega arith

module _ (P : ℕ) (w : World) (small : Timely w) where
  by-mem : (c : Call) → (keeps P c w).mem.time ≡ w.mem.time → (keeps P c w).mem.time.0 < 2 ^ 64
  by-mem c e = rw e small

  keeps-timely : (c : Call) → (keeps P c w).mem.time.0 < 2 ^ 64
  keeps-timely (Install id ps) = unfold keeps in small
  keeps-timely Uninstall = unfold keeps in small
  keeps-timely AllocId = unfold keeps in small
  keeps-timely AllocPage = unfold keeps in small
  keeps-timely (Begin id) = unfold keeps in small
  keeps-timely (Read p) = by-mem (Read p) (unfold keeps in ap (λ (m : Mem). m.time) (seat-mem P w.files.db p w))
  keeps-timely (Write p bytes) = by-mem (Write p bytes) (unfold keeps in ap (λ (m : Mem). m.time) (write_mem P w.files.db p bytes w))
  keeps-timely (Flush p) = go w.mem.slot refl
    where
      go : (s : Slot) → w.mem.slot ≡ s → (keeps P (Flush p) w).mem.time.0 < 2 ^ 64
      go (Installed id) e = by-mem (Flush p) (ap (λ (m : Mem). m.time) (laws.flush-mem-in P p w id e))
      go Empty e = by-mem (Flush p) (ap (λ (u : World). u.mem.time) (laws.flush-keeps-out P p w e))
  keeps-timely Commit = go w.mem.slot refl
    where
      go : (s : Slot) → w.mem.slot ≡ s → (keeps P Commit w).mem.time.0 < 2 ^ 64
      go (Installed id) e =
          let t : (keeps P Commit w).mem.time ≡ next_time w.mem.time = ap (λ (m : Mem). m.time) (laws.commit-mem P w id e) in
          rw t (next_small w.mem.time.0)
      go Empty e = by-mem Commit (ap (λ (u : World). u.mem.time) (laws.commit-keeps-empty P w e))
  keeps-timely (Rollback list) = go w.mem.slot refl
    where
      go : (s : Slot) → w.mem.slot ≡ s → (keeps P (Rollback list) w).mem.time.0 < 2 ^ 64
      go (Installed id) e = by-mem (Rollback list) (ap (λ (m : Mem). m.time) (laws.rollback-mem P list w id e))
      go Empty e = by-mem (Rollback list) (ap (λ (u : World). u.mem.time) (laws.rollback-keeps-empty P list w e))
  keeps-timely (Advance u) = go (order w.mem.mark.0 u.0)
    where
      go : Order w.mem.mark.0 u.0 → (keeps P (Advance u) w).mem.time.0 < 2 ^ 64
      go (less h) = by-mem (Advance u) (ap (λ (m : Mem). m.time) (laws.advance-mem P u w h))
      go (most h) = by-mem (Advance u) (ap (λ (x : World). x.mem.time) (laws.advance-keeps-none P u w h))

  call-timely : (c : Call) → Timely (call P c w)
  unfolding call done
  call-timely c = go (refuses P c w)
    where
      go : (n : ℕ) → Timely (decided n (done P c w) w)
      go zero = keeps-timely c
      go (suc n) = small

pub run-timely : (P : ℕ) (cs : List Call) (w : World) → Timely w → Timely (run P cs w)
unfolding run
run-timely P [] w h = h
run-timely P (c ∷ cs) w h = run-timely P cs (call P c w) (call-timely P w h c)

-- ---- an opening

-- what the run starts from
pub record Started (P : ℕ) (w : World) : Type 0 where
  pub keeps : Kept P w
  pub timely : Timely w

meta-timely : (P : ℕ) (f : Files) (frames : List ℕ) → Passed P f frames → BytesIn f → Timely (with_meta P f frames)
unfolding with_meta log_time
meta-timely P f frames p b = omega (arith, stored-field P f p.images p.db-len b.0 b.1 16)

pub started : (P : ℕ) (f : Files) (frames : List ℕ) → BytesIn f → OpenedWithMeta P f (opening_torn P f frames) → Started P (opening_torn P f frames).world
started P f frames b o =
    let ok : torn_no P f frames ≡ 0 = sym (torn-number P f frames) ∙ o.accepted in
    let p : Passed P f frames = torn-means P f frames ok in
    subst (λ (w : World). Started P w) (sym (torn-meta P f frames ok o.meta))
    (record { keeps = meta-keeps P f frames p b o.meta o.version; timely = meta-timely P f frames p b })
