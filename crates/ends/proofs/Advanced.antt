-- Laws of advancing the mark, on a store that stands where it is lent: not above the old one, or above it. Assumes nothing.
use Prim.Native.Nat.{ℕ, ◌≤◌, ◌<◌}
use mathlib.Core.Path.{◌≡◌, refl, ap, ◌∙◌}
use mathlib.Core.List.{List, []}
use mathlib.Core.Bool.{false}
use lib.ListN.{length}
use Rattle.fields.specs.Answers.{no_id, no_time}
use Rattle.fields.specs.declared.TransactionId.{TransactionId}
use Rattle.meta.specs.declared.Counters.{Counters}
use Rattle.frames.specs.Pages.{seated}
use Rattle.seats.specs.Seats.{frames_in}
use Rattle.world.specs.Calls.{Advance}
use Rattle.world.specs.Refusals.{front_no}
use Rattle.picks.specs.declared.Picked.{Picked}
use Rattle.picks.specs.Picks.{picked_of}
use Rattle.stores.specs.declared.Plan.{Plan}
use Rattle.stores.specs.declared.Kind.TheVariants as kind
use Rattle.plans.specs.Planned.{plan_of, marked}
use Rattle.form.specs.declared.Store.{Store}
use Rattle.form.specs.Store.{world_of}
use Rattle.lent.specs.declared.Head.{Head}
use Rattle.lent.specs.Lent.{Lent, store_of, odd, laid_lent}
use Rattle.lent.proofs.Laws.{Fit, sized, few-touched, laid_same}
use Rattle.ready.specs.Ready.{readied, idle}
use Rattle.ready.specs.Inside.{ready_for}
use Rattle.settle.specs.Inside.{marked_store, slot_for, sealed_store, sealed_as}
use Rattle.acts.specs.declared.Change.TheVariants.{Same}
use Rattle.acts.specs.declared.Made.{Made}
use Rattle.acts.specs.Made.{rows_after, touched_after, resident_after, counted_head, after_in, bare_made, meta_made, made_in}
use Rattle.acts.specs.Inside.{ready_lent}
use Rattle.acts.proofs.Laws.{made_none, slot_kept, laid-after}
use Rattle.ends.specs.Inside.{Ending, counters_in, marked_head, advance_ending, sealed_head, sealed_made}
use Rattle.ends.proofs.Sealed.{sealed-made}
use Rattle.settle.proofs.Advanced.{advance-low, advance-out}

module _ (P : ℕ) (s : Lent) (z : Fit s) (v : TransactionId) (log db clog frames : List ℕ) (fine : odd s ≡ false)
    (e0 : front_no P (world_of (store_of s) log db clog frames) ≡ 0) (m : Made) where
  abbrev u : Store
  u = store_of s

  pub advance-low-made : v.0 ≤ s.head.mark.0 → m ≡ bare_made 0 Same s.head →
      made_in P m s.rows s.resident s.touched log db clog frames ≡ ready_lent P (Advance v) s log db clog frames
  unfolding store_of
  advance-low-made low i =
      made_none P (Advance v) s log db clog frames m fine i (laid_same s fine z P log db clog frames e0)
      (advance-low P v u log db clog frames e0 (sized s z) (idle 0 u) low refl)

  module _ (high : s.head.mark.0 < v.0) (big : 36 ≤ P) where
    abbrev plan : Plan
    plan = plan_of kind.Advance no_id no_time [] (marked v (counters_in s.head))

    abbrev back : Picked
    back = picked_of 64 []

    abbrev out : Made
    out = meta_made plan back (slot_for 0 (frames_in s.resident s.head.resident)) Same (sealed_head (marked_head s.head v))

    abbrev after : Lent
    after = after_in P (length frames) out s.rows s.resident s.touched

    above : u.mark.0 < v.0
    unfolding store_of
    above = high

    store_is : store_of after ≡ sealed_store (marked_store u v) (seated 64 P (frames_in s.resident s.head.resident) (length frames) 0).frames
    unfolding store_of after_in counted_head meta_made sealed_head marked_head sealed_store marked_store rows_after touched_after resident_after
    store_is = refl

    laid : laid_lent s (store_of after) ≡ after
    unfolding meta_made sealed_head marked_head
    laid =
        let k = slot_kept s fine in
        laid-after P s z fine log db clog frames e0 out refl refl (few-touched s fine z P log db clog frames e0) k.0 k.1

    is-ready : readied P (sealed_as P u (marked_store u v) 0 plan back log db clog frames) log db clog frames ≡ ready_for P (Advance v) u log db clog frames
    unfolding store_of
    is-ready = advance-out P v u log db clog frames e0 (sized s z) above big plan (counters_in s.head) back (marked_store u v) _ refl refl refl refl refl

    whole : (x : Ending) → x ≡ record { head = marked_head s.head v; full = 0; change = Same; plan = plan; back = back } →
        m ≡ sealed_made P s.head s.resident x log db clog frames →
        made_in P m s.rows s.resident s.touched log db clog frames ≡ ready_lent P (Advance v) s log db clog frames
    whole x e i =
        sealed-made P (Advance v) s log db clog frames fine _ (marked_store u v) is-ready store_is laid m
        (i ∙ ap (λ (y : Ending). sealed_made P s.head s.resident y log db clog frames) e)

    pub advance-made : (x : Ending) → x ≡ advance_ending s.head v → m ≡ sealed_made P s.head s.resident x log db clog frames →
        made_in P m s.rows s.resident s.touched log db clog frames ≡ ready_lent P (Advance v) s log db clog frames
    unfolding advance_ending
    advance-made x e i = whole x e i

-- the code's record
pub advance-ending : (h : Head) (v : TransactionId) (c : Counters) (plan : Plan) (w : Head) (back : Picked) → c ≡ counters_in h →
    plan ≡ plan_of kind.Advance no_id no_time [] (marked v c) → w ≡ marked_head h v → back ≡ picked_of 64 [] →
    ◌≡◌ {A = Ending} (record { head = w; full = 0; change = Same; plan = plan; back = back }) (advance_ending h v)
unfolding advance_ending
advance-ending h v c plan w back a b d e = rw (b, a, d, e)
