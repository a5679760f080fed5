-- Laws of calls made ready on a store that stands where it is lent: that what was made ready, carried out, cut, counted or told, is the call; the ways out of making
-- ready; and that the arrays after a call are its store, laid where it stands. Assumes nothing.
use Prim.Native.Nat.{ℕ, zero, suc, ◌≤◌}
use native.Mathlib.Omega.{arith}
use mathlib.Core.Path.{◌≡◌, refl, sym, ap, ◌∙◌}
use mathlib.Core.List.{List, [], ◌∷◌, ◌++◌, map}
use mathlib.Core.Bool.{Bool, true, false, cond}
use lib.ListN.{length, take}
use lib.Dec.{ltb, leb, eqb}
use Rattle.std.specs.Prelude.{Option, Result, Ok, Err}
use Rattle.std.specs.Result.{IsErr, IsErrAnd}
use Rattle.fields.specs.declared.refusal.Refusal.{Refusal}
use Rattle.fields.specs.Refusals.{number_of}
use Rattle.fields.proofs.AnswerLaws.{handed-on}
use Rattle.fields.proofs.Tests.{neither}
use Rattle.sorted.specs.Sorted.{laid_on, insert_by}
use Rattle.sorted.proofs.Laws.{laid-back, laid-own}
use Rattle.table.specs.declared.Status.{Status}
use Rattle.table.specs.declared.Status.TheVariants.{Active, Committed, Aborted}
use Rattle.table.specs.declared.Entry.{Entry}
use Rattle.table.specs.Entries.{list_of, id_of}
use Rattle.rows.specs.Rows.{Rowed, rowed_as, row_id, odd_row, any_odd, row_of, entry_of, table_of, set_row}
use Rattle.rows.proofs.Laws.{map_first, sound-all}
use Rattle.frames.specs.declared.Frames.{Frames}
use Rattle.frames.specs.declared.Touched.{Touched}
use Rattle.frames.specs.Pages.{is_in, frame_count, resident_of, touched_of, touch, laid_frames, laid_touched, Seated, seated_as, seated, Marked, marked_as, marked}
use Rattle.world.specs.declared.Lens.{Lens}
use Rattle.world.specs.World.{World, files_of}
use Rattle.world.specs.Steps as world
use Rattle.world.specs.Steps.{tell_all}
use Rattle.world.specs.Calls.{Call}
use Rattle.world.specs.Refusals.{front_no, bad_buffers, refuses}
use Rattle.world.specs.Run.{done, decided}
use Rattle.stores.specs.declared.Telling.{Telling}
use Rattle.stores.specs.declared.Plan.{Plan}
use Rattle.picks.specs.declared.Picked.{Picked}
use Rattle.stores.specs.Plans.{steps_of, meant}
use Rattle.stores.specs.Room.{Carried, cut, cut_of}
use Rattle.stores.specs.Told.{first_told, told_at, told_in}
use Rattle.stores.proofs.RoomLaws.{length-meant}
use Rattle.stores.proofs.TellLaws.{told-any}
use Rattle.plans.specs.Planned.{plan_of}
use Rattle.form.specs.declared.Store.{Store}
use Rattle.form.specs.Store.{world_of, laid_store, Outcome, outcome, called, called_on}
use Rattle.lent.specs.declared.Head.{Head}
use Rattle.lent.specs.Lent.{Lent, lent, slot_in, store_of, odd_head, odd, held_of, own_of, laid_lent, replied, Left, leaving, left_of, odd_no, unless_odd, called_lent}
use Rattle.lent.proofs.Laws.{Fit, head-back, rows_same, few-entries, few-resident}
use Rattle.ready.specs.declared.Ready.{Ready}
use Rattle.ready.specs.declared.Numbered.{Numbered}
use Rattle.ready.specs.Ready.{Prepared, prepared, readied, framed, idle, with_lens, carried_out, cut_as, cut_at, Counted, counted_as, counted, called_to, counted_for, ToldCall, told_as, told_by, told_for, told_of}
use Rattle.ready.specs.Inside.{remembered, ready_for}
use Rattle.ready.proofs.Prepared.{none-carried, idle-is, ready-front, ready-called, ready-cut, ready-count}
use Rattle.ready.proofs.ToldLaws.{told-done}
use Rattle.acts.specs.declared.Change.{Change}
use Rattle.acts.specs.declared.Change.TheVariants.{Same, Set, Touch}
use Rattle.acts.specs.declared.Made.{Made}
use Rattle.acts.specs.Made.{rows_after, touched_after, resident_after, counted_head, lens_head, after_in, ready_in, bare_made, plain_made, meta_made, accepted, made_of, Readied, readied_as, made_in, lent_with, left_by, cut_made, counted_made, told_made}
use Rattle.acts.specs.Partly.{cut_lent, counted_lent, told_lent}
use Rattle.acts.specs.Inside.{ready_lent}

-- ---- what was made ready is the call

-- a call with no stores, carried out
none_out : (P : ℕ) (u : Store) (n : ℕ) (log db clog frames : List ℕ) →
    carried_out P (prepared n [] u frames) log db clog ≡ outcome (record { number = n; store = u }) log db clog frames
unfolding carried_out with_lens
none_out P u n log db clog frames = rw (none-carried P 0 (files_of u.lens log db clog))

-- of no stores nothing is told
none_told : (k : ℕ) → told_at k [] ≡ []
unfolding told_at first_told
none_told zero = refl
none_told (suc zero) = refl
none_told (suc (suc k)) = refl

same-either : (b : Bool) → ◌≡◌ {A = List ℕ} (cond b [] []) []
same-either true = refl
same-either false = refl

-- where there is no store the number is not 0
some-no : {A : Type 0} (b : Bool) (x y : A) → decided (cond b 1 14) x y ≡ y
some-no true x y = refl
some-no false x y = refl

module _ (P : ℕ) (c : Call) (s : Lent) (log db clog frames : List ℕ) where
  abbrev u : Store
  u = store_of s

  abbrev here : World
  here = world_of (store_of s) log db clog frames

  abbrev odd_ready : Readied
  odd_ready = readied_as (prepared (odd_no P s log db clog frames) [] (store_of s) frames) s

  abbrev fine_ready : Readied
  fine_ready =
      let p = ready_for P c (store_of s) log db clog frames in
      readied_as p (decided p.number (laid_lent s p.store) s)

  is_odd : odd s ≡ true → ready_lent P c s log db clog frames ≡ odd_ready
  unfolding ready_lent odd_no
  is_odd e =
      let n = odd_no P s log db clog frames in
      rw e (ap (readied_as (prepared n [] (store_of s) frames)) (some-no (bad_buffers P (files_of s.head.lens log db clog) frames) (laid_lent s (store_of s)) s))

  is-fine : odd s ≡ false → ready_lent P c s log db clog frames ≡ fine_ready
  unfolding ready_lent
  is-fine e = rw e

  -- what is made ready with no stores and no change leaves everything
  left-none : (n : ℕ) → left_by P (readied_as (prepared n [] (store_of s) frames) s) log db clog ≡ leaving n s log db clog frames
  unfolding left_by lens_head store_of
  left-none n =
      ap (λ (o : Outcome). leaving o.number (lent_with o.store.lens s) o.log o.db o.clog o.frames)
      (none_out P (store_of s) n log db clog frames)

  same-laid : lent_with (laid_store u (done P c here)).lens (laid_lent s (remembered P c u here)) ≡ laid_lent s (laid_store u (done P c here))
  unfolding laid_lent laid_store done lens_head
  same-laid = refl

  same_old : lent_with u.lens s ≡ s
  unfolding lens_head store_of
  same_old = refl

  left-fine : left_by P fine_ready log db clog ≡ left_of s (called P c (store_of s) log db clog frames)
  unfolding left_by left_of ready_for called_on
  left-fine =
      let p = ready_for P c (store_of s) log db clog frames in
      let o = called P c (store_of s) log db clog frames in
      ap (λ (x : Outcome). leaving x.number (lent_with x.store.lens (decided p.number (laid_lent s p.store) s)) x.log x.db x.clog x.frames)
      (ready-called P c (store_of s) log db clog frames)
      ∙ ap (λ (x : Lent). leaving o.number x o.log o.db o.clog o.frames) (go (refuses P c here))
    where
      go : (n : ℕ) →
          lent_with (decided n (laid_store u (done P c here)) u).lens (decided n (laid_lent s (decided n (remembered P c u here) u)) s) ≡
          decided n (laid_lent s (decided n (laid_store u (done P c here)) u)) s
      go zero = same-laid
      go (suc n) = same_old

  pub left-called : left_by P (ready_lent P c s log db clog frames) log db clog ≡ called_lent P c s log db clog frames
  unfolding called_lent
  left-called = go (odd s) refl
    where
      go : (b : Bool) → odd s ≡ b →
          left_by P (ready_lent P c s log db clog frames) log db clog ≡
          cond b (leaving (odd_no P s log db clog frames) s log db clog frames) (left_of s (called P c (store_of s) log db clog frames))
      go true e = ap (λ (x : Readied). left_by P x log db clog) (is_odd e) ∙ left-none (odd_no P s log db clog frames)
      go false e = ap (λ (x : Readied). left_by P x log db clog) (is-fine e) ∙ left-fine

  -- ---- cut, counted, told

  module _ (m : Made) (is : made_in P m s.rows s.resident s.touched log db clog frames ≡ ready_lent P c s log db clog frames) where
    abbrev r : Ready
    r = ready_in P (length frames) m s.rows s.resident s.touched

    made-ready : readied P r log db clog frames ≡ (ready_lent P c s log db clog frames).ready
    unfolding made_in
    made-ready = ap (λ (x : Readied). x.ready) is

    ready-odd : odd s ≡ true → readied P r log db clog frames ≡ prepared (odd_no P s log db clog frames) [] (store_of s) frames
    ready-odd e = made-ready ∙ ap (λ (x : Readied). x.ready) (is_odd e)

    ready-fine : odd s ≡ false → readied P r log db clog frames ≡ ready_for P c (store_of s) log db clog frames
    ready-fine e = made-ready ∙ ap (λ (x : Readied). x.ready) (is-fine e)

    cut-ready : (k : ℕ) → cut_made P k m log db clog frames ≡ cut_at P k (readied P r log db clog frames) log db clog
    unfolding cut_made cut_at readied ready_in store_of after_in counted_head
    cut-ready k = refl

    none-cut : (k n : ℕ) → cut_at P k (prepared n [] (store_of s) frames) log db clog ≡ record { number = n; files = files_of s.head.lens log db clog }
    unfolding cut_at store_of
    none-cut k n = rw (none-carried P k (files_of s.head.lens log db clog))

    pub cut-called : (k : ℕ) → cut_made P k m log db clog frames ≡ cut_lent P k c s log db clog frames
    unfolding cut_lent
    cut-called k = cut-ready k ∙ go (odd s) refl
      where
        go : (b : Bool) → odd s ≡ b →
            cut_at P k (readied P r log db clog frames) log db clog ≡
            cond b (record { number = odd_no P s log db clog frames; files = files_of s.head.lens log db clog }) (called_to P k c (store_of s) log db clog frames)
        go true e = ap (λ (p : Prepared). cut_at P k p log db clog) (ready-odd e) ∙ none-cut k (odd_no P s log db clog frames)
        go false e = ap (λ (p : Prepared). cut_at P k p log db clog) (ready-fine e) ∙ ready-cut P c (store_of s) log db clog frames k

    abbrev count_of : Prepared → Counted
    count_of p = record { number = p.number; stores = length p.steps }

    count-as : counted_made m ≡ count_of (readied P r log db clog frames)
    unfolding counted_made readied ready_in
    count-as = let l = length-meant P frames m.plan in rw (← l)

    pub count-called : counted_made m ≡ counted_lent P c s log db clog frames
    unfolding counted_lent
    count-called = count-as ∙ go (odd s) refl
      where
        go : (b : Bool) → odd s ≡ b →
            count_of (readied P r log db clog frames) ≡ cond b (record { number = odd_no P s log db clog frames; stores = 0 }) (counted_for P c (store_of s) log db clog frames)
        go true e = ap count_of (ready-odd e)
        go false e = ap count_of (ready-fine e) ∙ ready-count P c (store_of s) log db clog frames (ready_for P c (store_of s) log db clog frames) refl

    told-ready : (k : ℕ) → told_made P k m ≡ told_of P k r
    unfolding told_made told_of ready_in store_of after_in counted_head
    told-ready k = refl

    abbrev values_in : ℕ → Prepared → List ℕ
    values_in k p = cond (ltb 16777216 p.store.lens.log) [] (told_at k (tell_all P p.steps (files_of p.store.lens log db clog)))

    plan-told : (k : ℕ) → 36 ≤ P → told_of P k r ≡ record { number = (readied P r log db clog frames).number; values = values_in k (readied P r log db clog frames) }
    unfolding told_of told_in readied
    plan-told k big =
        let n = r.store.lens in
        ap (λ (ts : List world.Telling). record { number = r.number; values = cond (ltb 16777216 n.log) [] (told_at k ts) })
        (sym (told-any P big frames r.plan (files_of n log db clog) n refl refl))

    none-values : (k n : ℕ) → values_in k (prepared n [] (store_of s) frames) ≡ []
    unfolding tell_all
    none-values k n = rw (none_told k, same-either (ltb 16777216 (store_of s).lens.log))

    abbrev call_of : ℕ → Prepared → ToldCall
    call_of k p = record { number = p.number; values = values_in k p }

    pub told-called : 36 ≤ P → (k : ℕ) (t : Result (Option Telling) Refusal) → told_by t ≡ told_made P k m → told_by t ≡ told_lent P k c s log db clog frames
    unfolding told_lent
    told-called big k t q = go (odd s) refl
      where
        go : (b : Bool) → odd s ≡ b → told_by t ≡ cond b (record { number = odd_no P s log db clog frames; values = [] }) (told_for P k c (store_of s) log db clog frames)
        go true e =
            q ∙ told-ready k ∙ plan-told k big ∙ ap (call_of k) (ready-odd e)
            ∙ ap (λ (vs : List ℕ). record { number = odd_no P s log db clog frames; values = vs }) (none-values k (odd_no P s log db clog frames))
        go false e = told-done P big k c (store_of s) log db clog frames r t (ready-fine e) (q ∙ told-ready k)

-- ---- read as not refused: the number is 0

-- what is left, cut or told
abbrev left_0 : Left → Left
left_0 x = leaving 0 x.store x.log x.db x.clog x.frames

abbrev cut_0 : Carried → Carried
cut_0 x = record { number = 0; files = x.files }

abbrev told_0 : ToldCall → ToldCall
told_0 x = record { number = 0; values = x.values }

-- the three kinds of calls made ready are then what they are

pub bare-accepted : (m : Made) (x : Change) (h : Head) → m ≡ bare_made 0 x h → accepted m ≡ bare_made 0 x h
unfolding bare_made
bare-accepted m x h e = ap accepted e

pub plain-accepted : (m : Made) (plan : Plan) (x : Change) (h : Head) → m ≡ plain_made plan x h → accepted m ≡ plain_made plan x h
unfolding plain_made
plain-accepted m plan x h e = ap accepted e

pub meta-accepted : (m : Made) (plan : Plan) (back : Picked) (slot : ℕ) (x : Change) (h : Head) → m ≡ meta_made plan back slot x h → accepted m ≡ meta_made plan back slot x h
unfolding meta_made
meta-accepted m plan back slot x h e = ap accepted e

-- ---- the ways out of making ready

-- what `?` hands on
pub handed-made : (h : Head) (a : Result Made Refusal) (r : Refusal) → IsErr a × IsErrAnd a (λ e. e ≡ r) → made_of h a ≡ bare_made (number_of r) Same h
handed-made h a r e = ap (made_of h) (handed-on a r e)

module _ (P : ℕ) (c : Call) (s : Lent) (log db clog frames : List ℕ) where
  -- no stores and no change
  bare-is : (n : ℕ) → made_in P (bare_made n Same s.head) s.rows s.resident s.touched log db clog frames ≡ readied_as (prepared n [] (store_of s) frames) s
  unfolding made_in ready_in after_in rows_after touched_after resident_after counted_head bare_made idle
  bare-is n = ap (λ (p : Prepared). readied_as p s) (idle-is P log db clog frames n (store_of s))

  -- ---- what comes of a call that was made ready, and of one that was refused, is the call

  -- what is left of one that is the call's as it was made ready, of whatever number
  pub accepted-left : (m : Made) → made_in P m s.rows s.resident s.touched log db clog frames ≡ ready_lent P c s log db clog frames → (x : Left) →
      x ≡ left_by P (made_in P m s.rows s.resident s.touched log db clog frames) log db clog → x ≡ called_lent P c s log db clog frames
  accepted-left m is x e = e ∙ ap (λ (y : Readied). left_by P y log db clog) is ∙ left-called P c s log db clog frames

  -- of one that is the call's when it is read as not refused, whatever number its value says
  module _ (m : Made) (is : made_in P (accepted m) s.rows s.resident s.touched log db clog frames ≡ ready_lent P c s log db clog frames) where
    left-accepted : left_0 (left_by P (made_in P m s.rows s.resident s.touched log db clog frames) log db clog) ≡
        left_by P (made_in P (accepted m) s.rows s.resident s.touched log db clog frames) log db clog
    unfolding left_by made_in carried_out readied framed ready_in after_in counted_head store_of
    left-accepted = refl

    pub accepted-out : (x : Left) → x ≡ left_by P (made_in P m s.rows s.resident s.touched log db clog frames) log db clog → left_0 x ≡ called_lent P c s log db clog frames
    accepted-out x e = ap left_0 e ∙ accepted-left (accepted m) is _ left-accepted

    pub accepted-cut : (k : ℕ) (x : Numbered Lens) (log' db' clog' : List ℕ) → cut_of (cut_as x) log' db' clog' ≡ cut_made P k m log db clog frames →
        cut_of (cut s.head.lens (Ok x.value)) log' db' clog' ≡ cut_lent P k c s log db clog frames
    unfolding cut_made
    accepted-cut k x log' db' clog' e = ap cut_0 e ∙ cut-called P c s log db clog frames (accepted m) is k

    pub accepted-count : (x : Numbered ℕ) → counted_as x ≡ counted_made m → counted (Ok x.value) ≡ counted_lent P c s log db clog frames
    unfolding counted_made
    accepted-count x e = ap (λ (y : Counted). counted (Ok y.stores)) e ∙ count-called P c s log db clog frames (accepted m) is

    pub accepted-told : 36 ≤ P → (k : ℕ) (x : Numbered (Option Telling)) → told_as x ≡ told_made P k m → told_by (Ok x.value) ≡ told_lent P k c s log db clog frames
    unfolding told_as told_by told_made
    accepted-told big k x e = told-called P c s log db clog frames (accepted m) is big k (Ok x.value) (ap told_0 e)

  module _ (r : Refusal) (is : made_in P (bare_made (number_of r) Same s.head) s.rows s.resident s.touched log db clog frames ≡ ready_lent P c s log db clog frames) where
    abbrev no : Made
    no = bare_made (number_of r) Same s.head

    pub refused-left : (a : Result Head Refusal) → IsErr a × IsErrAnd a (λ e. e ≡ r) →
        leaving (replied s.head a).number (lent (replied s.head a).head s.rows s.resident s.touched) log db clog frames ≡ called_lent P c s log db clog frames
    refused-left a e =
        ap (λ (x : Result Head Refusal). leaving (replied s.head x).number (lent (replied s.head x).head s.rows s.resident s.touched) log db clog frames) (handed-on a r e)
        ∙ sym (ap (λ (x : Readied). left_by P x log db clog) (bare-is (number_of r)) ∙ left-none P c s log db clog frames (number_of r))
        ∙ ap (λ (x : Readied). left_by P x log db clog) is ∙ left-called P c s log db clog frames

    pub refused-cut : (k : ℕ) (a : Result Lens Refusal) → IsErr a × IsErrAnd a (λ e. e ≡ r) → cut_of (cut s.head.lens a) log db clog ≡ cut_lent P k c s log db clog frames
    unfolding cut_made bare_made plan_of meant steps_of
    refused-cut k a e =
        let n : cut_made P k no log db clog frames ≡ cut_of (cut s.head.lens (Err r)) log db clog = rw (none-carried P k (files_of s.head.lens log db clog)) in
        ap (λ (x : Result Lens Refusal). cut_of (cut s.head.lens x) log db clog) (handed-on a r e) ∙ sym n ∙ cut-called P c s log db clog frames no is k

    pub refused-count : (a : Result ℕ Refusal) → IsErr a × IsErrAnd a (λ e. e ≡ r) → counted a ≡ counted_lent P c s log db clog frames
    unfolding counted_made bare_made plan_of steps_of
    refused-count a e = ap counted (handed-on a r e) ∙ count-called P c s log db clog frames no is

    pub refused-told : 36 ≤ P → (k : ℕ) (a : Result (Option Telling) Refusal) → IsErr a × IsErrAnd a (λ e. e ≡ r) → told_by a ≡ told_lent P k c s log db clog frames
    unfolding told_by told_made bare_made told_in plan_of meant steps_of tell_all
    refused-told big k a e =
        let n : told_by (Err r) ≡ told_made P k no = rw (none_told k, same-either (ltb 16777216 s.head.lens.log)) in
        told-called P c s log db clog frames no is big k a (ap told_by (handed-on a r e) ∙ n)

  module _ (m : Made) where
    abbrev made : Readied
    made = made_in P m s.rows s.resident s.touched log db clog frames

    abbrev after : Lent
    after = after_in P (length frames) m s.rows s.resident s.touched

    module _ (fine : odd s ≡ false) where
      -- refused, and with nothing to do
      pub made-no : (n : ℕ) → m ≡ bare_made n Same s.head → (n ≡ 0 → ⊥) →
          readied P (idle n (store_of s)) log db clog frames ≡ ready_for P c (store_of s) log db clog frames → made ≡ ready_lent P c s log db clog frames
      made-no zero i h e = absurd (h refl)
      made-no (suc n) i h e =
          let q : prepared (suc n) [] (store_of s) frames ≡ ready_for P c (store_of s) log db clog frames = sym (idle-is P log db clog frames (suc n) (store_of s)) ∙ e in
          ap (λ (x : Made). made_in P x s.rows s.resident s.touched log db clog frames) i ∙ bare-is (suc n)
          ∙ ap (λ (p : Prepared). readied_as p (decided p.number (laid_lent s p.store) s)) q
          ∙ sym (is-fine P c s log db clog frames fine)

      pub made_none : m ≡ bare_made 0 Same s.head → laid_lent s (store_of s) ≡ s →
          readied P (idle 0 (store_of s)) log db clog frames ≡ ready_for P c (store_of s) log db clog frames → made ≡ ready_lent P c s log db clog frames
      made_none i same e =
          let q : prepared 0 [] (store_of s) frames ≡ ready_for P c (store_of s) log db clog frames = sym (idle-is P log db clog frames 0 (store_of s)) ∙ e in
          ap (λ (x : Made). made_in P x s.rows s.resident s.touched log db clog frames) i ∙ bare-is 0
          ∙ ap (readied_as (prepared 0 [] (store_of s) frames)) (sym same)
          ∙ ap (λ (p : Prepared). readied_as p (decided p.number (laid_lent s p.store) s)) q
          ∙ sym (is-fine P c s log db clog frames fine)

      -- accepted
      left_at : m.number ≡ 0 → laid_lent s (store_of after) ≡ after →
          (let p = readied P (ready_in P (length frames) m s.rows s.resident s.touched) log db clog frames in
          after ≡ decided p.number (laid_lent s p.store) s)
      unfolding readied ready_in after_in
      left_at n same = rw n (sym same)

      pub made-out : m.number ≡ 0 → laid_lent s (store_of after) ≡ after →
          readied P (ready_in P (length frames) m s.rows s.resident s.touched) log db clog frames ≡ ready_for P c (store_of s) log db clog frames →
          made ≡ ready_lent P c s log db clog frames
      unfolding made_in
      made-out n same e =
          let p = readied P (ready_in P (length frames) m s.rows s.resident s.touched) log db clog frames in
          ap (readied_as p) (left_at n same)
          ∙ ap (λ (q : Prepared). readied_as q (decided q.number (laid_lent s q.store) s)) e
          ∙ sym (is-fine P c s log db clog frames fine)

    -- refused by the first test
    pub made-front : (n : ℕ) → m ≡ bare_made n Same s.head →
        n ≡ unless_odd P s log db clog frames (λ k. k) (front_no P (world_of (store_of s) log db clog frames)) → (n ≡ 0 → ⊥) → made ≡ ready_lent P c s log db clog frames
    made-front n i e h = go (odd s) refl
      where
        go : (b : Bool) → odd s ≡ b → made ≡ ready_lent P c s log db clog frames
        go true f =
            let g : n ≡ odd_no P s log db clog frames = rw f at e in
            ap (λ (x : Made). made_in P x s.rows s.resident s.touched log db clog frames) (i ∙ ap (λ (k : ℕ). bare_made k Same s.head) g)
            ∙ bare-is (odd_no P s log db clog frames) ∙ sym (is_odd P c s log db clog frames f)
        go false f =
            let g : n ≡ front_no P (world_of (store_of s) log db clog frames) = rw f at e in
            made-no f n i h (ready-front P c (store_of s) log db clog frames (idle n (store_of s)) n refl g h)

-- ---- the arrays after a call, laid where they stand

sound-row : (i : ℕ) (s : Status) → odd_row (row_of (record { id = record { 0 = i }; status = s })) ≡ false
unfolding odd_row
sound-row i Active = refl
sound-row i (Committed t) = refl
sound-row i Aborted = refl

odd_set : (e : Entry) (l : List (List ℕ)) → any_odd l ≡ false → any_odd (insert_by row_id (row_of e) l) ≡ false
unfolding any_odd insert_by
odd_set e [] h = rw (sound-row (id_of e) e.status)
odd_set e (x ∷ l) h =
    let k = neither (odd_row x) (any_odd l) h in
    go (ltb (row_id x) (id_of e)) (eqb (row_id x) (id_of e)) k.0 k.1 (odd_set e l k.1)
  where
    go : (b c : Bool) → odd_row x ≡ false → any_odd l ≡ false → any_odd (insert_by row_id (row_of e) l) ≡ false →
        any_odd (cond b (x ∷ insert_by row_id (row_of e) l) (cond c (row_of e ∷ l) (row_of e ∷ x ∷ l))) ≡ false
    go true c p q r = rw (p, r)
    go false true p q r = rw (sound-row (id_of e) e.status, q)
    go false false p q r = rw (sound-row (id_of e) e.status, p, q)

rows_of : (rows l : List (List ℕ)) → any_odd l ≡ false → laid_on rows (map row_of (list_of (table_of (length l) (laid_on rows l)))) ≡ laid_on rows l
rows_of rows l h =
    ap (λ (x : List Entry). laid_on rows (map row_of x)) (sym (map_first (length l) (laid_on rows l)))
    ∙ ap (λ (x : List (List ℕ)). laid_on rows (map row_of (map entry_of x))) (laid-back rows l)
    ∙ ap (laid_on rows) (sound-all l h)

pages-of : (a l : List ℕ) → laid_on a (take (length l) (laid_on a l)) ≡ laid_on a l
pages-of a l = ap (laid_on a) (laid-back a l)

seat-of : (P size : ℕ) (f : Frames) → f.count ≤ length f.pages → (b : Bool) →
    (let g = resident_after P size f.pages f.count b in laid_on f.pages (resident_of g.frames) ≡ g.frames.pages)
unfolding resident_after seated
seat-of P size f few false = laid-own f.pages f.count few
seat-of P size f few true =
    let l = resident_of f in
    go (is_in 0 l) (ltb (length l) (frame_count 64 P size))
  where
    go : (b d : Bool) →
        (let l = resident_of f in
        let g : Seated = cond b (seated_as 0 f) (cond d (seated_as 0 (laid_frames f (l ++ (0 ∷ [])))) (seated_as 8 f)) in
        laid_on f.pages (resident_of g.frames) ≡ g.frames.pages)
    go true d = laid-own f.pages f.count few
    go false true = pages-of f.pages (resident_of f ++ (0 ∷ []))
    go false false = laid-own f.pages f.count few

mark_of : (t : Touched) → t.count ≤ length t.pages → (x : Change) →
    (let g = touched_after t.pages t.count x in laid_on t.pages (touched_of g.touched) ≡ g.touched.pages)
unfolding touched_after marked
mark_of t few Same = laid-own t.pages t.count few
mark_of t few (Set id status) = laid-own t.pages t.count few
mark_of t few (Touch p) = go (leb (length (touch p (touched_of t))) 64)
  where
    go : (b : Bool) →
        (let l = touch p (touched_of t) in
        let g : Marked = cond b (marked_as 0 (laid_touched t l)) (marked_as 11 t) in
        laid_on t.pages (touched_of g.touched) ≡ g.touched.pages)
    go true = pages-of t.pages (touch p (touched_of t))
    go false = laid-own t.pages t.count few

set-of : (rows : List (List ℕ)) (n : ℕ) → any_odd (take n rows) ≡ false → laid_on rows (map row_of (list_of (table_of n rows))) ≡ rows → (x : Change) →
    (let t = rows_after rows n x in laid_on rows (map row_of (list_of (table_of t.count t.rows))) ≡ t.rows)
unfolding rows_after set_row
set-of rows n fine same Same = same
set-of rows n fine same (Touch p) = same
set-of rows n fine same (Set id status) = go (leb (length l) 256)
  where
    l : List (List ℕ)
    l = insert_by row_id (row_of (record { id = id; status = status })) (take n rows)

    go : (b : Bool) →
        (let t : Rowed = cond b (rowed_as 0 (length l) (laid_on rows l)) (rowed_as 7 n rows) in laid_on rows (map row_of (list_of (table_of t.count t.rows))) ≡ t.rows)
    go true = rows_of rows l (odd_set (record { id = id; status = status }) (take n rows) fine)
    go false = same

-- the place of the transaction is read and written back
pub slot_kept : (s : Lent) → odd s ≡ false →
    (held_of (slot_in s.head.held s.head.id) ≡ s.head.held) × (own_of (slot_in s.head.held s.head.id) ≡ s.head.id)
unfolding store_of
slot_kept s fine =
    let e = head-back s fine in
    (ap (λ (h : Head). h.held) e, ap (λ (h : Head). h.id) e)

module _ (P : ℕ) (s : Lent) (z : Fit s) (fine : odd s ≡ false) (log db clog frames : List ℕ) (e0 : front_no P (world_of (store_of s) log db clog frames) ≡ 0) (m : Made)
    (entries : m.head.entries ≡ s.head.entries) (resident : m.head.resident ≡ s.head.resident) (touched : m.head.touched ≤ 64)
    (held : held_of (slot_in m.head.held m.head.id) ≡ m.head.held) (own : own_of (slot_in m.head.held m.head.id) ≡ m.head.id) where
  rows-fine : any_odd (take m.head.entries s.rows) ≡ false
  unfolding odd
  rows-fine = rw entries (neither (odd_head s.head) (any_odd (take s.head.entries s.rows)) fine).1

  rows-kept : laid_on s.rows (map row_of (list_of (table_of m.head.entries s.rows))) ≡ s.rows
  unfolding store_of
  rows-kept = rw entries (rows_same s fine (omega (arith, few-entries s fine z P log db clog frames e0, z.rows)))

  pub laid-after : (let a = after_in P (length frames) m s.rows s.resident s.touched in laid_lent s (store_of a) ≡ a)
  unfolding laid_lent store_of after_in counted_head
  laid-after =
      let r = few-resident s fine z P log db clog frames e0 in
      let a = set-of s.rows m.head.entries rows-fine rows-kept m.change in
      let b = seat-of P (length frames) (record { pages = s.resident; count = m.head.resident }) (omega (arith, r, z.resident, resident)) m.meta in
      let d = mark_of (record { pages = s.touched; count = m.head.touched }) (omega (arith, z.touched)) m.change in
      rw (held, own, a, b, d)
