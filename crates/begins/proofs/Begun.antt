-- Laws of begin on a store that stands where it is lent: one for each way out of making it ready. Assumes nothing.
use Prim.Native.Nat.{ℕ}
use native.Mathlib.Omega.{arith}
use mathlib.Core.Path.{◌≡◌, refl, sym, ap, ◌∙◌}
use mathlib.Core.List.{List, []}
use mathlib.Core.Bool.{false}
use lib.ListN.{length}
use Rattle.fields.specs.Answers.{no_time}
use Rattle.fields.specs.declared.TransactionId.{TransactionId}
use Rattle.table.specs.declared.Status.TheVariants.{Active}
use Rattle.table.specs.declared.Entry.{Entry}
use Rattle.table.specs.Entries.{Inserted, inserted}
use Rattle.rows.specs.Rows.{set_row}
use Rattle.rows.proofs.Laws.{set-is-inserted}
use Rattle.world.specs.World.{files_of}
use Rattle.world.specs.Calls.{Begin}
use Rattle.world.specs.Refusals.{front_no}
use Rattle.stores.specs.declared.Plan.{Plan}
use Rattle.stores.specs.declared.Kind.TheVariants as kind
use Rattle.stores.specs.Plans.{meant}
use Rattle.stores.specs.Room.{number_for}
use Rattle.plans.specs.Planned.{plan_of, no_counters}
use Rattle.form.specs.declared.Store.{Store}
use Rattle.form.specs.Store.{world_of}
use Rattle.lent.specs.declared.Head.{Head}
use Rattle.lent.specs.Lent.{Lent, store_of, odd}
use Rattle.lent.proofs.Laws.{Fit, sized}
use Rattle.ready.specs.Ready.{readied, idle, plain}
use Rattle.ready.specs.Inside.{ready_for}
use Rattle.calls.specs.Inside.{begun_store}
use Rattle.calls.proofs.Begun.{begin-short, begin-7, begin-out}
use Rattle.acts.specs.declared.Change.TheVariants.{Same, Set}
use Rattle.acts.specs.declared.Made.{Made}
use Rattle.acts.specs.Made.{rows_after, touched_after, resident_after, counted_head, after_in, ready_in, bare_made, plain_made, made_in}
use Rattle.acts.specs.Inside.{ready_lent}
use Rattle.acts.proofs.Laws.{made-no, made-out, laid-after}
use Rattle.begins.specs.Inside.{begun_head}

module _ (P : ℕ) (s : Lent) (z : Fit s) (id : TransactionId) (log db clog frames : List ℕ) (fine : odd s ≡ false)
    (e0 : front_no P (world_of (store_of s) log db clog frames) ≡ 0) (plan : Plan) (is : plan ≡ plan_of kind.Begin id no_time [] no_counters) (m : Made) where
  abbrev u : Store
  u = store_of s

  abbrev entry : Entry
  entry = record { id = id; status = Active }

  pub begin-short-made : (n : ℕ) → m ≡ bare_made n Same s.head → n ≡ number_for P (meant P frames plan) (files_of s.head.lens log db clog) → (n ≡ 0 → ⊥) →
      made_in P m s.rows s.resident s.touched log db clog frames ≡ ready_lent P (Begin id) s log db clog frames
  unfolding store_of
  begin-short-made n i e h =
      made-no P (Begin id) s log db clog frames m fine n i h (begin-short P id u log db clog frames e0 plan is (idle n u) n refl e h)

  abbrev t : Inserted
  t = inserted 256 u.table entry

  module _ (room : 0 ≡ number_for P (meant P frames plan) (files_of s.head.lens log db clog)) (k : ℕ) (set : k ≡ (set_row 256 s.rows s.head.entries entry).number) where
    room_store : 0 ≡ number_for P (meant P frames plan) (files_of u.lens log db clog)
    unfolding store_of
    room_store = room

    number_is : k ≡ t.number
    unfolding store_of
    number_is = set ∙ ap (λ (i : Inserted). i.number) (set-is-inserted 256 s.rows s.head.entries entry)

    pub begin-7-made : m ≡ bare_made k Same s.head → (k ≡ 0 → ⊥) →
        made_in P m s.rows s.resident s.touched log db clog frames ≡ ready_lent P (Begin id) s log db clog frames
    begin-7-made i h =
        made-no P (Begin id) s log db clog frames m fine k i h
        (begin-7 P id u log db clog frames e0 plan is (sized s z) room_store t refl (idle k u) (ap (λ (n : ℕ). idle n u) number_is) (λ e. h (number_is ∙ e)))

    -- what is made ready
    abbrev out : Made
    out = plain_made plan (Set id Active) (begun_head s.head id)

    abbrev after : Lent
    after = after_in P (length frames) out s.rows s.resident s.touched

    store_is : store_of after ≡ begun_store u id t.table
    unfolding store_of after_in counted_head plain_made begun_head begun_store rows_after touched_after resident_after
    store_is = ap (λ (i : Inserted). begun_store u id i.table) (set-is-inserted 256 s.rows s.head.entries entry)

    out-ready : k ≡ 0 →
        readied P (ready_in P (length frames) out s.rows s.resident s.touched) log db clog frames ≡ ready_for P (Begin id) u log db clog frames
    unfolding ready_in plain_made plain
    out-ready h =
        begin-out P id u log db clog frames e0 plan is (sized s z) room_store t refl (sym number_is ∙ h)
        (ready_in P (length frames) out s.rows s.resident s.touched) (store_of after) store_is refl

    out-laid : k ≡ 0 → made_in P out s.rows s.resident s.touched log db clog frames ≡ ready_lent P (Begin id) s log db clog frames
    unfolding plain_made begun_head
    out-laid h =
        made-out P (Begin id) s log db clog frames out fine refl (laid-after P s z fine log db clog frames e0 out refl refl (omega arith) refl refl) (out-ready h)

    pub begin-made : (h : Head) → h ≡ begun_head s.head id → m ≡ plain_made plan (Set id Active) h → k ≡ 0 →
        made_in P m s.rows s.resident s.touched log db clog frames ≡ ready_lent P (Begin id) s log db clog frames
    begin-made h a i e =
        ap (λ (y : Made). made_in P y s.rows s.resident s.touched log db clog frames) (i ∙ ap (λ (g : Head). plain_made plan (Set id Active) g) a) ∙ out-laid e
