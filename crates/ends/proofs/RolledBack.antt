-- Laws of rollback, on a store that stands where it is lent: a bad page in the list, no transaction, and with one. Assumes nothing.
use Prim.Native.Nat.{ℕ, ◌≤◌}
use native.Mathlib.Omega.{arith}
use mathlib.Core.Path.{◌≡◌, refl, ap, ◌∙◌}
use mathlib.Core.List.{List}
use mathlib.Core.Bool.{true, false}
use lib.ListN.{length}
use borrow.Author.Tests.{ne_eqb}
use Rattle.fields.specs.Answers.{no_time}
use Rattle.fields.specs.declared.TransactionId.{TransactionId}
use Rattle.meta.specs.declared.Counters.{Counters}
use Rattle.table.specs.declared.Status.TheVariants.{Active, Aborted}
use Rattle.table.specs.declared.Entry.{Entry}
use Rattle.table.specs.Entries.{Inserted, inserted}
use Rattle.rows.specs.Rows.{set_row, Counted}
use Rattle.rows.proofs.Laws.{kept_same, set-is-inserted}
use Rattle.frames.specs.Pages.{any_bad, seated}
use Rattle.seats.specs.Seats.{frames_in}
use Rattle.world.specs.declared.Slot.TheVariants.{Installed, Empty}
use Rattle.world.specs.Calls.{Rollback}
use Rattle.world.specs.Refusals.{front_no}
use Rattle.picks.specs.declared.Picked.{Picked}
use Rattle.picks.specs.declared.Which.TheVariants.{Data, Catalog}
use Rattle.picks.specs.Picks.{picked_of}
use Rattle.stores.specs.declared.Plan.{Plan}
use Rattle.stores.specs.declared.Kind.TheVariants as kind
use Rattle.plans.specs.Planned.{plan_of}
use Rattle.gathers.specs.Gathered.{gathered}
use Rattle.form.specs.declared.Store.{Store}
use Rattle.form.specs.Store.{world_of}
use Rattle.lent.specs.declared.Head.{Head}
use Rattle.lent.specs.Lent.{Lent, store_of, odd, laid_lent}
use Rattle.lent.proofs.Laws.{Fit, sized, laid_same}
use Rattle.ready.specs.Ready.{readied, idle}
use Rattle.ready.specs.Inside.{ready_for}
use Rattle.settle.specs.Inside.{ended_store, raised_by, slot_for, sealed_store, sealed_as}
use Rattle.acts.specs.declared.Change.{Change}
use Rattle.acts.specs.declared.Change.TheVariants.{Same, Set}
use Rattle.acts.specs.declared.Made.{Made}
use Rattle.acts.specs.Made.{rows_after, touched_after, resident_after, counted_head, after_in, bare_made, meta_made, made_in}
use Rattle.acts.specs.Inside.{ready_lent}
use Rattle.acts.proofs.Laws.{made-no, made_none, laid-after}
use Rattle.ends.specs.Inside.{Ending, counters_in, ended_head, rollback_ending, sealed_head, sealed_made}
use Rattle.ends.proofs.Sealed.{sealed-made}
use Rattle.settle.proofs.RolledBack.{rollback-10, rollback-none, rollback-out}

module _ (P : ℕ) (s : Lent) (z : Fit s) (list log db clog frames : List ℕ) (fine : odd s ≡ false) (e0 : front_no P (world_of (store_of s) log db clog frames) ≡ 0) (m : Made) where
  abbrev u : Store
  u = store_of s

  outside : (s.head.held ≡ 1 → ⊥) → u.held.slot ≡ Empty
  unfolding store_of
  outside lacks = rw (ne_eqb s.head.held 1 lacks)

  inside : s.head.held ≡ 1 → u.held.slot ≡ Installed s.head.id
  unfolding store_of
  inside holds = rw holds

  pub rollback-10-made : m ≡ bare_made 10 Same s.head → any_bad list ≡ true →
      made_in P m s.rows s.resident s.touched log db clog frames ≡ ready_lent P (Rollback list) s log db clog frames
  rollback-10-made i h =
      made-no P (Rollback list) s log db clog frames m fine 10 i (λ e. omega arith) (rollback-10 P list u log db clog frames e0 (idle 10 u) refl h)

  module _ (good : any_bad list ≡ false) where
    pub rollback-none-made : (s.head.held ≡ 1 → ⊥) → m ≡ bare_made 0 Same s.head →
        made_in P m s.rows s.resident s.touched log db clog frames ≡ ready_lent P (Rollback list) s log db clog frames
    rollback-none-made lacks i =
        made_none P (Rollback list) s log db clog frames m fine i (laid_same s fine z P log db clog frames e0)
        (rollback-none P list u log db clog frames e0 good (sized s z) (idle 0 u) (outside lacks) refl)

    module _ (holds : s.head.held ≡ 1) (big : 36 ≤ P) where
      abbrev plan : Plan
      plan = plan_of kind.Rollback s.head.id no_time (gathered Data list s.touched s.head.touched s.resident s.head.resident) (counters_in s.head)

      abbrev back : Picked
      back = picked_of 64 (gathered Catalog list s.touched s.head.touched s.resident s.head.resident)

      abbrev n : ℕ
      n = raised_by back s.head.pages

      abbrev id : TransactionId
      id = s.head.id

      abbrev entry : Entry
      entry = record { id = s.head.id; status = Aborted }

      abbrev change : Change
      change = Set s.head.id Aborted

      abbrev t : Inserted
      t = inserted 256 u.table entry

      abbrev v : Store
      v = ended_store u n s.head.time t.table

      abbrev w₀ : Head
      w₀ = ended_head s.head n s.head.time

      abbrev out : Made
      out = meta_made plan back (slot_for 0 (frames_in s.resident s.head.resident)) change (sealed_head w₀)

      abbrev after : Lent
      after = after_in P (length frames) out s.rows s.resident s.touched

      store_is : store_of after ≡ sealed_store v (seated 64 P (frames_in s.resident s.head.resident) (length frames) 0).frames
      unfolding store_of after_in counted_head meta_made sealed_head ended_head sealed_store ended_store rows_after touched_after resident_after
      store_is =
          ap (λ (i : Inserted). sealed_store (ended_store u n s.head.time i.table) (seated 64 P (frames_in s.resident s.head.resident) (length frames) 0).frames)
          (set-is-inserted 256 s.rows s.head.entries entry)

      laid : laid_lent s (store_of after) ≡ after
      unfolding meta_made sealed_head ended_head
      laid = laid-after P s z fine log db clog frames e0 out refl refl (omega arith) refl refl

      abbrev full : ℕ
      full = (set_row 256 s.rows s.head.entries (record { id = s.head.id; status = Active })).number

      number_is : full ≡ t.number
      unfolding store_of
      number_is =
          ap (λ (y : Counted). y.number) (kept_same 256 s.rows s.head.entries s.head.id Active Aborted)
          ∙ ap (λ (i : Inserted). i.number) (set-is-inserted 256 s.rows s.head.entries entry)

      is-ready : readied P (sealed_as P u v t.number plan back log db clog frames) log db clog frames ≡ ready_for P (Rollback list) u log db clog frames
      unfolding store_of
      is-ready =
          rollback-out P list u log db clog frames e0 good (sized s z) id (inside holds) big t refl plan (counters_in s.head) back n v _ refl refl refl refl refl refl

      abbrev end : ℕ → Ending
      end k = record { head = w₀; full = k; change = change; plan = plan; back = back }

      whole : (x : Ending) → x ≡ end full → m ≡ sealed_made P s.head s.resident x log db clog frames →
          made_in P m s.rows s.resident s.touched log db clog frames ≡ ready_lent P (Rollback list) s log db clog frames
      whole x e i =
          sealed-made P (Rollback list) s log db clog frames fine (end t.number) v is-ready store_is laid m
          (i ∙ ap (λ (y : Ending). sealed_made P s.head s.resident y log db clog frames) (e ∙ ap end number_is))

      pub rollback-made : (x : Ending) → x ≡ rollback_ending list s.head s.rows s.resident s.touched → m ≡ sealed_made P s.head s.resident x log db clog frames →
          made_in P m s.rows s.resident s.touched log db clog frames ≡ ready_lent P (Rollback list) s log db clog frames
      unfolding rollback_ending
      rollback-made x e i = whole x e i

-- the code's record
pub rollback-ending : (list : List ℕ) (h : Head) (rows : List (List ℕ)) (resident touched : List ℕ) (c : Counters) (plan : Plan) (back : Picked) (full n : ℕ) (w : Head) →
    c ≡ counters_in h → plan ≡ plan_of kind.Rollback h.id no_time (gathered Data list touched h.touched resident h.resident) c →
    back ≡ picked_of 64 (gathered Catalog list touched h.touched resident h.resident) →
    full ≡ (set_row 256 rows h.entries (record { id = h.id; status = Active })).number → n ≡ raised_by back h.pages → w ≡ ended_head h n h.time →
    ◌≡◌ {A = Ending} (record { head = w; full = full; change = Set h.id Aborted; plan = plan; back = back }) (rollback_ending list h rows resident touched)
unfolding rollback_ending
rollback-ending list h rows resident touched c plan back full n w a b d e f g = rw (g, f, b, a, d, e)
