-- A plan means the stores of its call, over the page size P. Assumes nothing.
use mathlib.Core.Path.{◌≡◌, refl, ap}
use mathlib.Core.List.{List, [], ◌∷◌, ◌++◌, map}
use mathlib.Core.Bool.{true}
use Prim.Native.Nat.{ℕ, zero, suc, ◌-◌, ◌≤◌, ◌<◌}
use native.Mathlib.Nat.{le_of_suc-le-suc, not-suc-le-zero}
use native.Mathlib.Omega.{arith}
use lib.ListN.{length, get_or, replicate, length-map}
use Rattle.fields.specs.Answers.{no_id, no_time}
use Rattle.fields.specs.declared.TransactionId.{TransactionId}
use Rattle.fields.specs.declared.CommitTime.{CommitTime}
use Rattle.wal.specs.Records.{image}
use Rattle.meta.specs.declared.Counters.{Counters}
use Rattle.frames.specs.Pages.{is_in, slot_of}
use Rattle.world.specs.declared.Slot.TheVariants.{Installed}
use Rattle.world.specs.World.{World, Mem}
use Rattle.world.specs.Steps as world
use Rattle.world.specs.Calls as calls
use Rattle.world.specs.Calls.{held_page, keep, held, data_pages, images, writes, committed, rolled_back, advanced}
use Rattle.picks.specs.declared.Which.TheVariants.{All, Data}
use Rattle.picks.specs.Picks.{chosen, seat, seats_of, picked_of}
use Rattle.stores.specs.declared.Kind.{Kind}
use Rattle.stores.specs.declared.Kind.TheVariants.{Begin, Flush, Commit, Rollback, Advance}
use Rattle.stores.specs.Plans.{meant}
use Rattle.stores.proofs.MeantLaws.{Lists, begin-meant, flush-meant, commit-meant, rollback-meant, advance-meant}
use Rattle.plans.specs.Planned.{plan_of, no_counters, timed, marked}

-- ---- the pages of a plan are those that it was given, each with its slot

pub page-at : (os ps zs : List ℕ) (i : ℕ) → i < length ps → get_or (map (λ s. s.page) (seats_of os ps) ++ zs) i 0 ≡ get_or ps i 0
page-at os [] zs i h = absurd (not-suc-le-zero h)
page-at os (p ∷ ps) zs zero h = refl
page-at os (p ∷ ps) zs (suc i) h = page-at os ps zs i (le_of_suc-le-suc h)

pub slot_at : (os ps zs : List ℕ) (i : ℕ) → i < length ps → get_or (map (λ s. s.slot) (seats_of os ps) ++ zs) i 0 ≡ slot_of (get_or ps i 0) os
slot_at os [] zs i h = absurd (not-suc-le-zero h)
slot_at os (p ∷ ps) zs zero h = refl
slot_at os (p ∷ ps) zs (suc i) h = slot_at os ps zs i (le_of_suc-le-suc h)

pub lists : (w : World) (kind : Kind) (id : TransactionId) (time : CommitTime) (ps : List ℕ) (meta : Counters) → length ps ≤ 64
    → Lists w (plan_of kind id time (seats_of w.mem.resident ps) meta) ps
unfolding plan_of picked_of
lists w kind id time ps meta h =
    let os = w.mem.resident in
    let zs : List ℕ = replicate (64 - length (seats_of w.mem.resident ps)) 0 in
    record {
      count = length-map ps (λ p. seat p (slot_of p w.mem.resident));
      few = h;
      places = λ i l. (page-at os ps zs i l, slot_at os ps zs i l);
    }

-- ---- the pages that are chosen

keep_all : (ps : List ℕ) → keep (λ p. true) ps ≡ ps
unfolding keep
keep_all [] = refl
keep_all (p ∷ ps) = ap (λ (r : List ℕ). p ∷ r) (keep_all ps)

pub chosen-all : (m : Mem) → chosen All [] m.resident m.touched ≡ held m
unfolding chosen held
chosen-all m = keep_all (keep (λ p. is_in p m.resident) m.touched)

pub chosen-data : (list : List ℕ) (m : Mem) → chosen Data list m.resident m.touched ≡ data_pages list m
unfolding chosen data_pages held
chosen-data list m = refl

-- ---- each call

-- the counters that a store's memory holds
abbrev pub counters_of : Mem → Counters
counters_of m = record { next = m.next; time = m.time; mark = m.mark }

module _ (P : ℕ) (w : World) where
  pub begin-means : (id : TransactionId) → meant P w.frames (plan_of Begin id no_time [] no_counters) ≡ calls.steps P (calls.Begin id) w
  unfolding calls.steps plan_of
  begin-means id = begin-meant P w.frames (plan_of Begin id no_time [] no_counters) refl

  -- a flush of a resident page outside a transaction
  pub flush-means : (p : ℕ) → meant P w.frames (plan_of Flush no_id no_time (seat p (slot_of p w.mem.resident) ∷ []) no_counters)
      ≡ world.Log (image p (held_page P w p)) ∷ world.Page p (held_page P w p) ∷ []
  unfolding plan_of images writes
  flush-means p =
      flush-meant P w (plan_of Flush no_id no_time (seat p (slot_of p w.mem.resident) ∷ []) no_counters) (p ∷ []) (lists w Flush no_id no_time (p ∷ []) no_counters (omega arith)) refl

  pub commit-means : (id : TransactionId) → length (held w.mem) ≤ 64
      → meant P w.frames (plan_of Commit id w.mem.time (seats_of w.mem.resident (held w.mem)) (timed (counters_of w.mem))) ≡ calls.commit_steps P w (Installed id)
  unfolding plan_of calls.commit_steps committed
  commit-means id h =
      let m = timed (counters_of w.mem) in
      let ps = held w.mem in
      commit-meant P w (plan_of Commit id w.mem.time (seats_of w.mem.resident ps) m) ps (lists w Commit id w.mem.time ps m h) refl

  pub rollback-means : (id : TransactionId) (list : List ℕ) → length (data_pages list w.mem) ≤ 64
      → meant P w.frames (plan_of Rollback id no_time (seats_of w.mem.resident (data_pages list w.mem)) (counters_of w.mem)) ≡ calls.rollback_steps P list w (Installed id)
  unfolding plan_of calls.rollback_steps calls.back_steps rolled_back
  rollback-means id list h =
      let m = counters_of w.mem in
      let ps = data_pages list w.mem in
      rollback-meant P w (plan_of Rollback id no_time (seats_of w.mem.resident ps) m) ps (lists w Rollback id no_time ps m h) refl

  pub advance-means : (v : TransactionId)
      → meant P w.frames (plan_of Advance no_id no_time [] (marked v (counters_of w.mem))) ≡ world.Compact v.0 ∷ calls.meta_step P (advanced v w.mem) ∷ []
  unfolding plan_of advanced
  advance-means v = advance-meant P w.frames (plan_of Advance no_id no_time [] (marked v (counters_of w.mem))) refl
