-- Laws of flush on a store that stands where it is lent: one for each way out of making it ready. Assumes nothing.
use Prim.Native.Nat.{ℕ, zero, suc, ◌≤◌, ◌<◌}
use native.Mathlib.Omega.{arith}
use mathlib.Core.Path.{◌≡◌, refl, sym, ap, ◌∙◌}
use mathlib.Core.List.{List, [], ◌∷◌}
use mathlib.Core.Bool.{true, false}
use lib.ListN.{length, take}
use borrow.Author.Tests.{ne_eqb}
use Rattle.fields.specs.declared.refusal.Refusal.{Refusal}
use Rattle.fields.specs.Refusals.{number_of}
use Rattle.fields.proofs.AnswerLaws.{number-positive}
use Rattle.fields.specs.Answers.{no_id, no_time}
use Rattle.std.specs.Prelude.{Option, Some, None}
use Rattle.frames.specs.Pages as pages
use Rattle.frames.specs.Pages.{place_told, found_in, touch, touched_of, laid_touched, Marked, marked}
use Rattle.seats.specs.Seats.{touched_in, mark_kept, Kept}
use Rattle.world.specs.World.{files_of}
use Rattle.world.specs.Calls.{Flush}
use Rattle.world.specs.Refusals.{front_no, is_installed}
use Rattle.world.specs.Run.{decided}
use Rattle.stores.specs.declared.Plan.{Plan}
use Rattle.stores.specs.declared.Kind.TheVariants as kind
use Rattle.stores.specs.Plans.{meant}
use Rattle.stores.specs.Room.{number_for}
use Rattle.picks.specs.Picks.{seat}
use Rattle.plans.specs.Planned.{plan_of, no_counters}
use Rattle.form.specs.declared.Store.{Store}
use Rattle.form.specs.Store.{world_of, with_array}
use Rattle.lent.specs.declared.Head.{Head}
use Rattle.lent.specs.Lent.{Lent, store_of, odd}
use Rattle.lent.proofs.Laws.{Fit, sized, few-touched, laid_same}
use Rattle.ready.specs.Ready.{idle, plain}
use Rattle.calls.specs.Inside.{marked_as}
use Rattle.calls.proofs.Flushed.{flush-10, flush-in, flush-absent, flush-short, flush-out}
use Rattle.acts.specs.declared.Change.TheVariants.{Same, Touch}
use Rattle.acts.specs.declared.Made.{Made}
use Rattle.acts.specs.Made.{rows_after, touched_after, resident_after, counted_head, after_in, ready_in, bare_made, plain_made, made_in}
use Rattle.acts.specs.Inside.{ready_lent}
use Rattle.acts.proofs.Laws.{made-no, made_none, made-out, slot_kept, laid-after}
use Rattle.begins.specs.Inside.{marked_made}

-- ---- a page marked touched: 11, or with one page more

module _ (h : Head) (touched : List ℕ) (p : ℕ) (x : Kept) (is : x ≡ mark_kept (marked 64 (touched_in touched h.touched) p)) (m : Made) where
  number_is : x.number ≡ (marked 64 (touched_in touched h.touched) p).number
  number_is = ap (λ (k : Kept). k.number) is

  refused : (n : ℕ) → 0 < n → bare_made n Same h ≡ decided n (bare_made 0 (Touch p) h) (bare_made n Same h)
  refused zero b = absurd (omega arith)
  refused (suc n) b = refl

  pub marked-full : (r : Refusal) → m ≡ bare_made (number_of r) Same h → x.number ≡ number_of r → m ≡ marked_made h touched p
  unfolding marked_made
  marked-full r i e =
      i ∙ refused (number_of r) (number-positive r) ∙ ap (λ (n : ℕ). decided n (bare_made 0 (Touch p) h) (bare_made n Same h)) (sym e ∙ number_is)

  pub marked-fine : m ≡ bare_made 0 (Touch p) h → x.number ≡ 0 → m ≡ marked_made h touched p
  unfolding marked_made
  marked-fine i e =
      i ∙ ap (λ (n : ℕ). decided n (bare_made 0 (Touch p) h) (bare_made n Same h)) (sym e ∙ number_is)

-- ---- the ways out

module _ (P : ℕ) (s : Lent) (z : Fit s) (p : ℕ) (log db clog frames : List ℕ) (fine : odd s ≡ false) (e0 : front_no P (world_of (store_of s) log db clog frames) ≡ 0)
    (m : Made) where
  abbrev u : Store
  u = store_of s

  pub flush-10-made : m ≡ bare_made 10 Same s.head → 4294967295 ≤ p →
      made_in P m s.rows s.resident s.touched log db clog frames ≡ ready_lent P (Flush p) s log db clog frames
  flush-10-made i h =
      made-no P (Flush p) s log db clog frames m fine 10 i (λ e. omega arith) (flush-10 P p u log db clog frames e0 (idle 10 u) refl h)

  module _ (good : p < 4294967295) where
    -- ---- inside a transaction

    module _ (holds : s.head.held ≡ 1) where
      inside : is_installed u.held.slot ≡ true
      unfolding store_of
      inside = rw holds

      abbrev x : Marked
      x = marked 64 (touched_in s.touched s.head.touched) p

      abbrev out : Made
      out = bare_made 0 (Touch p) s.head

      abbrev after : Lent
      after = after_in P (length frames) out s.rows s.resident s.touched

      store_is : store_of after ≡ with_array u x.touched
      unfolding store_of after_in counted_head bare_made with_array rows_after touched_after resident_after
      store_is = refl

      marked-0 : x.number ≡ 0 → marked_as u p ≡ idle 0 (with_array u x.touched)
      unfolding marked_as store_of
      marked-0 e = rw e

      marked-no : (n : ℕ) → x.number ≡ suc n → marked_as u p ≡ idle (suc n) u
      unfolding marked_as store_of
      marked-no n e = rw e

      out-is : ready_in P (length frames) out s.rows s.resident s.touched ≡ idle 0 (store_of after)
      unfolding ready_in bare_made idle
      out-is = refl

      out-made : x.number ≡ 0 → made_in P out s.rows s.resident s.touched log db clog frames ≡ ready_lent P (Flush p) s log db clog frames
      unfolding bare_made
      out-made e =
          let k = slot_kept s fine in
          made-out P (Flush p) s log db clog frames out fine refl
          (laid-after P s z fine log db clog frames e0 out refl refl (few-touched s fine z P log db clog frames e0) k.0 k.1)
          (flush-in P p u log db clog frames e0 good (sized s z) inside _ (out-is ∙ ap (idle 0) store_is ∙ sym (marked-0 e)))

      pub flush-in-made : m ≡ marked_made s.head s.touched p →
          made_in P m s.rows s.resident s.touched log db clog frames ≡ ready_lent P (Flush p) s log db clog frames
      unfolding marked_made
      flush-in-made i = go x.number refl i
        where
          go : (n : ℕ) → x.number ≡ n → m ≡ decided n (bare_made 0 (Touch p) s.head) (bare_made n Same s.head) →
              made_in P m s.rows s.resident s.touched log db clog frames ≡ ready_lent P (Flush p) s log db clog frames
          go zero e i = ap (λ (y : Made). made_in P y s.rows s.resident s.touched log db clog frames) i ∙ out-made e
          go (suc n) e i =
              made-no P (Flush p) s log db clog frames m fine (suc n) i (λ q. omega arith)
              (flush-in P p u log db clog frames e0 good (sized s z) inside (idle (suc n) u) (sym (marked-no n e)))

    -- ---- outside

    module _ (lacks : s.head.held ≡ 1 → ⊥) (place : Option ℕ) (found : place_told place ≡ found_in p (take s.head.resident s.resident)) where
      outside : is_installed u.held.slot ≡ false
      unfolding store_of
      outside = rw (ne_eqb s.head.held 1 lacks)

      found-store : place_told place ≡ found_in p (pages.resident_of u.frames)
      unfolding store_of
      found-store = found

      pub flush-absent-made : m ≡ bare_made 0 Same s.head → place ≡ None →
          made_in P m s.rows s.resident s.touched log db clog frames ≡ ready_lent P (Flush p) s log db clog frames
      flush-absent-made i e =
          made_none P (Flush p) s log db clog frames m fine i (laid_same s fine z P log db clog frames e0)
          (flush-absent P p u log db clog frames e0 good (sized s z) outside place found-store (idle 0 u) refl e)

      module _ (slot : ℕ) (at : place ≡ Some slot) (plan : Plan) (planned : plan ≡ plan_of kind.Flush no_id no_time (seat p slot ∷ []) no_counters) (n : ℕ)
          (room : n ≡ number_for P (meant P frames plan) (files_of s.head.lens log db clog)) where
        room_store : n ≡ number_for P (meant P frames plan) (files_of u.lens log db clog)
        unfolding store_of
        room_store = room

        pub flush-short-made : m ≡ bare_made n Same s.head → (n ≡ 0 → ⊥) →
            made_in P m s.rows s.resident s.touched log db clog frames ≡ ready_lent P (Flush p) s log db clog frames
        flush-short-made i h =
            made-no P (Flush p) s log db clog frames m fine n i h
            (flush-short P p u log db clog frames e0 good (sized s z) outside place found-store slot at plan planned n room_store (idle n u) refl h)

        abbrev still : Made
        still = plain_made plan Same s.head

        abbrev same : Lent
        same = after_in P (length frames) still s.rows s.resident s.touched

        still-is : ready_in P (length frames) still s.rows s.resident s.touched ≡ plain plan u
        unfolding ready_in plain_made plain store_of after_in counted_head rows_after touched_after resident_after
        still-is = refl

        still-made : n ≡ 0 → made_in P still s.rows s.resident s.touched log db clog frames ≡ ready_lent P (Flush p) s log db clog frames
        unfolding plain_made
        still-made e =
            let k = slot_kept s fine in
            made-out P (Flush p) s log db clog frames still fine refl
            (laid-after P s z fine log db clog frames e0 still refl refl (few-touched s fine z P log db clog frames e0) k.0 k.1)
            (flush-out P p u log db clog frames e0 good (sized s z) outside place found-store slot at plan planned n room_store _ still-is e)

        pub flush-made : m ≡ plain_made plan Same s.head → n ≡ 0 →
            made_in P m s.rows s.resident s.touched log db clog frames ≡ ready_lent P (Flush p) s log db clog frames
        flush-made i e = ap (λ (y : Made). made_in P y s.rows s.resident s.touched log db clog frames) i ∙ still-made e
