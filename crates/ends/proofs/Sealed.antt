-- Laws of calls that end with page 0, on a store that stands where it is lent: the ways out of a seal, and that what was sealed is the call. Assumes nothing.
use Prim.Native.Nat.{ℕ, zero, suc, max}
use native.Mathlib.Omega.{arith}
use mathlib.Core.Path.{◌≡◌, refl, sym, ap, ◌∙◌}
use mathlib.Core.List.{List}
use mathlib.Core.Bool.{false}
use lib.ListN.{length}
use Rattle.fields.specs.declared.refusal.Refusal.{Refusal}
use Rattle.fields.specs.Refusals.{number_of}
use Rattle.ready.proofs.Prepared.{no-zero}
use Rattle.frames.specs.Pages.{Seated, seated}
use Rattle.seats.specs.Seats.{frames_in, seat_kept, Kept}
use Rattle.world.specs.World.{files_of}
use Rattle.world.specs.Calls.{Call}
use Rattle.stores.specs.Plans.{meant}
use Rattle.stores.specs.Room.{number_for}
use Rattle.form.specs.declared.Store.{Store}
use Rattle.lent.specs.declared.Head.{Head}
use Rattle.lent.specs.Lent.{Lent, store_of, odd, laid_lent}
use Rattle.ready.specs.declared.Ready.{Ready}
use Rattle.ready.specs.Ready.{readied, idle, with_meta}
use Rattle.ready.specs.Inside.{ready_for}
use Rattle.settle.specs.Inside.{slot_for, sealed_store, sealed_as}
use Rattle.acts.specs.declared.Change.TheVariants.{Same}
use Rattle.acts.specs.declared.Made.{Made}
use Rattle.acts.specs.Made.{after_in, ready_in, bare_made, meta_made, made_in}
use Rattle.acts.specs.Inside.{ready_lent}
use Rattle.acts.proofs.Laws.{made-no, made-out}
use Rattle.ends.specs.Inside.{Ending, sealed_head, unless, sealed_made}

-- ---- a refusal on the way

module _ (h : Head) (m x : Made) where
  unless-no : (n : ℕ) → (n ≡ 0 → ⊥) → x ≡ bare_made n Same h → x ≡ unless n h m
  unless-no zero some e = absurd (some refl)
  unless-no (suc n) some e = e

  unless-yes : (n : ℕ) → n ≡ 0 → x ≡ m → x ≡ unless n h m
  unless-yes n none e = e ∙ rw none

-- ---- the ways out of a seal

module _ (P : ℕ) (h : Head) (resident : List ℕ) (x : Ending) (log db clog frames : List ℕ) (m : Made) (n : ℕ)
    (room : n ≡ number_for P (meant P frames x.plan) (files_of h.lens log db clog)) where
  abbrev seat_of : Seated
  seat_of = seated 64 P (frames_in resident h.resident) (length frames) 0

  abbrev end : Made
  end = meta_made x.plan x.back (slot_for 0 (frames_in resident h.resident)) x.change (sealed_head x.head)

  pub seal-short : m ≡ bare_made n Same h → (n ≡ 0 → ⊥) → m ≡ sealed_made P h resident x log db clog frames
  unfolding sealed_made
  seal-short i some =
      let rest = unless x.full h (unless seat_of.number h end) in
      unless-no h rest m n some i ∙ ap (λ (k : ℕ). unless k h rest) room

  module _ (ok : n ≡ 0) where
    fits : (y : Made) → m ≡ y → m ≡ unless (number_for P (meant P frames x.plan) (files_of h.lens log db clog)) h y
    fits y e = unless-yes h y m n ok e ∙ ap (λ (k : ℕ). unless k h y) room

    pub seal-table : m ≡ bare_made x.full Same h → (x.full ≡ 0 → ⊥) → m ≡ sealed_made P h resident x log db clog frames
    unfolding sealed_made
    seal-table i some = let rest = unless seat_of.number h end in fits (unless x.full h rest) (unless-no h rest m x.full some i)

    module _ (fine : x.full ≡ 0) (g : Kept) (sat : g ≡ seat_kept seat_of) where
      number_is : g.number ≡ seat_of.number
      number_is = ap (λ (k : Kept). k.number) sat

      pub seal-seat : (r : Refusal) → m ≡ bare_made (number_of r) Same h → g.number ≡ number_of r → m ≡ sealed_made P h resident x log db clog frames
      unfolding sealed_made
      seal-seat r i e =
          let rest = unless seat_of.number h end in
          let step = unless-no h end m (number_of r) (no-zero r) i ∙ ap (λ (k : ℕ). unless k h end) (sym e ∙ number_is) in
          fits (unless x.full h rest) (unless-yes h rest m x.full fine step)

      pub seal-out : (slot pages : ℕ) → g.number ≡ 0 → slot ≡ slot_for 0 (frames_in resident h.resident) → pages ≡ max x.head.pages 1 →
          m ≡ meta_made x.plan x.back slot x.change (record {
            lens = x.head.lens;
            pages = pages;
            next = x.head.next;
            time = x.head.time;
            mark = x.head.mark;
            held = x.head.held;
            id = x.head.id;
            entries = x.head.entries;
            resident = x.head.resident;
            touched = x.head.touched;
          }) → m ≡ sealed_made P h resident x log db clog frames
      unfolding sealed_made sealed_head
      seal-out slot pages free a b i =
          let rest = unless seat_of.number h end in
          let e : m ≡ end = i ∙ rw (a, b) in
          let step = unless-yes h end m g.number free e ∙ ap (λ (k : ℕ). unless k h end) number_is in
          fits (unless x.full h rest) (unless-yes h rest m x.full fine step)

-- ---- what was sealed is the call: v is the store before page 0

module _ (P : ℕ) (c : Call) (s : Lent) (log db clog frames : List ℕ) (fine : odd s ≡ false) (x : Ending) (v : Store) where
  abbrev seat : Seated
  seat = seated 64 P (frames_in s.resident s.head.resident) (length frames) 0

  abbrev short : ℕ
  short = number_for P (meant P frames x.plan) (files_of s.head.lens log db clog)

  abbrev slot : ℕ
  slot = slot_for 0 (frames_in s.resident s.head.resident)

  abbrev out : Made
  out = meta_made x.plan x.back slot x.change (sealed_head x.head)

  abbrev after : Lent
  after = after_in P (length frames) out s.rows s.resident s.touched

  abbrev sealed : Ready
  sealed = sealed_as P (store_of s) v x.full x.plan x.back log db clog frames

  as_short : (n : ℕ) → short ≡ suc n → sealed ≡ idle (suc n) (store_of s)
  unfolding sealed_as store_of
  as_short n e = rw e

  as-table : (k : ℕ) → short ≡ 0 → x.full ≡ suc k → sealed ≡ idle (suc k) (store_of s)
  unfolding sealed_as store_of
  as-table k e f = rw (e, f)

  as-seat : (g : ℕ) → short ≡ 0 → x.full ≡ 0 → seat.number ≡ suc g → sealed ≡ idle (suc g) (store_of s)
  unfolding sealed_as store_of
  as-seat g e f q = rw (e, f, q)

  as-out : short ≡ 0 → x.full ≡ 0 → seat.number ≡ 0 → sealed ≡ with_meta x.plan x.back slot (sealed_store v seat.frames)
  unfolding sealed_as store_of
  as-out e f q = rw (e, f, q)

  module _ (is-ready : readied P sealed log db clog frames ≡ ready_for P c (store_of s) log db clog frames) (store : store_of after ≡ sealed_store v seat.frames)
      (laid : laid_lent s (store_of after) ≡ after) where
    by : (r : Ready) → sealed ≡ r → readied P r log db clog frames ≡ ready_for P c (store_of s) log db clog frames
    by r e = ap (λ (y : Ready). readied P y log db clog frames) (sym e) ∙ is-ready

    out-is : ready_in P (length frames) out s.rows s.resident s.touched ≡ with_meta x.plan x.back slot (store_of after)
    unfolding ready_in meta_made with_meta
    out-is = refl

    out-made : short ≡ 0 → x.full ≡ 0 → seat.number ≡ 0 → made_in P out s.rows s.resident s.touched log db clog frames ≡ ready_lent P c s log db clog frames
    unfolding meta_made
    out-made e f q =
        made-out P c s log db clog frames out fine refl laid
        (ap (λ (y : Ready). readied P y log db clog frames) (out-is ∙ ap (with_meta x.plan x.back slot) store) ∙ by _ (as-out e f q))

    pub sealed-made : (m : Made) → m ≡ sealed_made P s.head s.resident x log db clog frames →
        made_in P m s.rows s.resident s.touched log db clog frames ≡ ready_lent P c s log db clog frames
    unfolding sealed_made
    sealed-made m i = go short x.full seat.number refl refl refl i
      where
        go : (n k g : ℕ) → short ≡ n → x.full ≡ k → seat.number ≡ g → m ≡ unless n s.head (unless k s.head (unless g s.head out)) →
            made_in P m s.rows s.resident s.touched log db clog frames ≡ ready_lent P c s log db clog frames
        go (suc n) k g a b d i = made-no P c s log db clog frames m fine (suc n) i (λ e. omega arith) (by _ (as_short n a))
        go zero (suc k) g a b d i = made-no P c s log db clog frames m fine (suc k) i (λ e. omega arith) (by _ (as-table k a b))
        go zero zero (suc g) a b d i = made-no P c s log db clog frames m fine (suc g) i (λ e. omega arith) (by _ (as-seat g a b d))
        go zero zero zero a b d i = ap (λ (y : Made). made_in P y s.rows s.resident s.touched log db clog frames) i ∙ out-made a b d
