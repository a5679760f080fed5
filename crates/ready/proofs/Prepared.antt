-- Laws of calls made ready: the ways in which a call is refused, and that what was made ready, carried out, cut or counted, is the call. Assumes nothing.
use Prim.Native.Nat.{ℕ, zero, suc, ◌+◌, ◌-◌, ◌≤◌}
use native.Mathlib.Numerals.{add-one}
use native.Mathlib.Omega.{arith}
use mathlib.Core.Path.{◌≡◌, refl, sym, ap, ◌∙◌}
use mathlib.Core.List.{List, []}
use mathlib.Core.Bool.{cond}
use Rattle.std.specs.Prelude.{Result, Ok, Err}
use Rattle.std.specs.Result.{result_unwrap_or}
use lib.ListN.{length, take, drop, get_or}
use lib.Dec.{ltb}
use lib.Seq.{take_all}
use borrow.Author.Tests.{le-ltb}
use Rattle.fields.specs.Files.{File, file_of}
use Rattle.fields.specs.declared.refusal.Refusal.{Refusal}
use Rattle.fields.specs.Refusals.{number_of}
use Rattle.fields.proofs.AnswerLaws.{number-positive}
use Rattle.fields.proofs.Tests.{passed}
use Rattle.fields.proofs.FileLaws.{fit-ok}
use Rattle.frames.specs.Copies.{page_of, with_frame}
use Rattle.world.proofs.CallLaws.{both_zero}
use Rattle.world.specs.declared.Lens.{Lens}
use Rattle.world.specs.World.{Files, World, files_of, lens_of}
use Rattle.world.specs.Steps.{Step, apply_all}
use Rattle.world.specs.Calls.{Call, steps, keeps}
use Rattle.world.specs.Refusals.{or_else, argument_no, room_no, hold_no, call_no, front_no, refuses}
use Rattle.world.specs.Run.{done, decided, call, call_to, count}
use Rattle.stores.specs.declared.Plan.{Plan}
use Rattle.stores.specs.Plans.{steps_of, meant}
use Rattle.stores.specs.Room.{form_no, number_for, Carried, Cut, cut, cut_of, carried}
use Rattle.stores.proofs.PlanLaws.{most-steps}
use Rattle.stores.proofs.RoomLaws.{length-meant}
use Rattle.picks.specs.declared.Picked.{Picked}
use Rattle.picks.specs.Picks.{picked_of}
use Rattle.plans.specs.Planned.{plan_of}
use Rattle.form.specs.declared.Store.{Store}
use Rattle.form.specs.Store.{mem_of, world_of, laid_store, changed, Outcome, outcome, called, called_on}
use Rattle.form.proofs.Arrays.{Sized}
use Rattle.form.proofs.Front.{front-means, entries-length, touched-length, resident-length, table_same, frames-same, touched-same}
use Rattle.form.proofs.Called.{quiet_is}
use Rattle.ready.specs.declared.Ready.{Ready}
use Rattle.ready.specs.declared.Numbered.{Numbered}
use Rattle.ready.specs.Ready.{Prepared, prepared, accepted, readied, meta_of, refill_to, refill, framed, idle, plain, with_meta, with_lens, files_to, files_at, changed_as, carried_out, cut_as, cut_at, Counted, counted_as, counted, called_to, counted_for, counted_of}
use Rattle.ready.specs.Inside.{remembered, ready_for}

-- ---- numbers

first-zero : (a b : ℕ) → a ≡ 0 → or_else a b ≡ b
first-zero a b e = rw e

first_more : (a b n : ℕ) → a ≡ suc n → or_else a b ≡ suc n
first_more a b n e = rw e

pub no-zero : (r : Refusal) → number_of r ≡ 0 → ⊥
no-zero r e = omega (arith, number-positive r)

-- ---- stores carried out: none of them, and all

pub none-carried : (P k : ℕ) (f : Files) → (carried P [] k f).files ≡ f
unfolding carried apply_all
none-carried P k f = go k (number_for P [] f)
  where
    go : (k n : ℕ) → decided n (apply_all P (take k []) f) f ≡ f
    go zero zero = refl
    go (suc k) zero = refl
    go k (suc n) = refl

pub some-carried : (P k : ℕ) (ss : List Step) (f : Files) → number_for P ss f ≡ 0 → (carried P ss k f).files ≡ apply_all P (take k ss) f
unfolding carried
some-carried P k ss f e = rw e

-- ---- what the code does with a plan

module _ (P : ℕ) (r : Ready) (frames : List ℕ) (k : ℕ) (log db clog : List ℕ) where
  pub cut-is : (c : Carried) →
      c ≡ carried P (drop 0 (meant P frames r.plan)) (k - 0) (files_of r.store.lens log db clog) →
      c.files ≡ files_at P k (readied P r log db clog frames) log db clog
  unfolding readied
  cut-is c e =
      let z : k - 0 ≡ k = omega arith in
      ap (λ (x : Carried). x.files) e ∙ rw z

  pub all-is : 133 ≤ k → files_at P k (readied P r log db clog frames) log db clog ≡ files_at P (length (readied P r log db clog frames).steps) (readied P r log db clog frames) log db clog
  unfolding readied carried
  all-is h =
      let ss = meant P frames r.plan in
      let few : length ss ≤ 133 = rw (length-meant P frames r.plan) (most-steps r.plan) in
      rw (take_all k ss (omega arith), take_all (length ss) ss (omega arith))

-- the code's records

abbrev cut_in : ℕ → Files → Carried
cut_in n f = record { number = n; files = f }

-- what comes out, with number 0
abbrev outcome_0 : Outcome → Outcome
outcome_0 o = record { number = 0; store = o.store; log = o.log; db = o.db; clog = o.clog; frames = o.frames }

module _ (P : ℕ) (r : Ready) (frames log db clog : List ℕ) (cut : Cut) (log' db' clog' : List ℕ) where
  pub cut-files : (k : ℕ) → cut_of cut log' db' clog' ≡ carried P (drop 0 (meant P frames r.plan)) (k - 0) (files_of r.store.lens log db clog) →
      files_of cut.lens log' db' clog' ≡ files_at P k (readied P r log db clog frames) log db clog
  cut-files k e = cut-is P r frames k log db clog (cut_of cut log' db' clog') e

  pub carried-done : (frames' : List ℕ) →
      cut_of cut log' db' clog' ≡ cut_at P 133 (readied P r log db clog frames) log db clog →
      frames' ≡ framed P (file_of db' cut.lens.db) r frames →
      outcome (record { number = r.number; store = with_lens cut.lens r.store }) log' db' clog' frames' ≡
      carried_out P (readied P r log db clog frames) log db clog
  unfolding carried_out cut_at readied
  carried-done frames' e f =
      let g = ap (λ (x : Carried). x.files) e ∙ all-is P r frames 133 log db clog (omega arith) in
      rw f (ap (λ (x : Files). outcome (record { number = r.number; store = with_lens (lens_of x) r.store }) x.log.bytes x.db.bytes x.clog.bytes (framed P x.db r frames)) g)

pub cut-done : (P : ℕ) (r : Ready) (frames : List ℕ) (k : ℕ) (log db clog : List ℕ) (cut : Cut) (log' db' clog' : List ℕ) →
    cut_of cut log' db' clog' ≡ carried P (drop 0 (meant P frames r.plan)) (k - 0) (files_of r.store.lens log db clog) →
    cut_of (record { number = r.number; lens = cut.lens }) log' db' clog' ≡ cut_at P k (readied P r log db clog frames) log db clog
unfolding cut_at readied
cut-done P r frames k log db clog cut log' db' clog' e =
    ap (λ (x : Files). cut_in r.number x) (cut-files P r frames log db clog cut log' db' clog' k e)

-- the lengths where they stop
pub cut-lens : (n : Lens) (a : Result Lens Refusal) → (cut n a).lens ≡ result_unwrap_or a n
cut-lens n (Ok at) = refl
cut-lens n (Err r) = refl

-- a call with no stores, and the two kinds of accepted calls with stores: read as not refused, each is what it is

pub nothing-accepted : (r : Ready) (s : Store) → r ≡ idle 0 s → accepted r ≡ idle 0 s
unfolding idle
nothing-accepted r s e = ap accepted e

pub plain-accepted : (r : Ready) (plan : Plan) (u : Store) → r ≡ plain plan u → accepted r ≡ plain plan u
unfolding plain
plain-accepted r plan u e = ap accepted e

pub meta-accepted : (r : Ready) (plan : Plan) (back : Picked) (slot : ℕ) (u : Store) → r ≡ with_meta plan back slot u → accepted r ≡ with_meta plan back slot u
unfolding with_meta
meta-accepted r plan back slot u e = ap accepted e

module _ (P : ℕ) (log db clog frames : List ℕ) where
  pub idle-is : (n : ℕ) (s : Store) → readied P (idle n s) log db clog frames ≡ prepared n [] s frames
  unfolding readied framed refill_to idle plan_of picked_of meant steps_of
  idle-is n s = refl

  plain-is : (plan : Plan) (u : Store) → readied P (plain plan u) log db clog frames ≡ prepared 0 (meant P frames plan) u frames
  unfolding readied framed refill_to plain picked_of
  plain-is plan u = refl

  pub meta-is : (plan : Plan) (back : Picked) (slot : ℕ) (u : Store) →
      (let ss = meant P frames plan in
      readied P (with_meta plan back slot u) log db clog frames ≡
      prepared 0 ss u (with_frame P (refill P (files_to P (length ss) ss u.lens log db clog).db back frames) slot (meta_of P plan.meta)))
  unfolding readied framed with_meta
  meta-is plan back slot u = refl

-- ---- pages that get the file's bytes back, one after another

pub refill-start : (P : ℕ) (db : File) (x : Picked) (frames : List ℕ) → frames ≡ refill_to P db x 0 frames
unfolding refill_to
refill-start P db x frames = refl

pub refill-turn : (P : ℕ) (db : File) (x : Picked) (i : ℕ) (frames a b : List ℕ) → a ≡ refill_to P db x i frames →
    b ≡ with_frame P a (get_or x.slots i 0) (page_of P db (get_or x.pages i 0)) → b ≡ refill_to P db x (i + 1) frames
unfolding refill_to
refill-turn P db x i frames a b e f = f ∙ rw (e, add-one i)

pub framed-out : (P : ℕ) (db : File) (r : Ready) (frames a b : List ℕ) → a ≡ refill P db r.back frames →
    b ≡ cond r.meta (with_frame P a r.slot (meta_of P r.plan.meta)) a → b ≡ framed P db r frames
unfolding framed
framed-out P db r frames a b e f = f ∙ rw e

-- ---- the ways out of making ready

module _ (P : ℕ) (c : Call) (s : Store) (log db clog frames : List ℕ) where
  abbrev here : World
  here = world_of s log db clog frames

  refused-ready : (n : ℕ) → refuses P c here ≡ suc n → prepared (suc n) [] s frames ≡ ready_for P c s log db clog frames
  unfolding ready_for
  refused-ready n e = rw e

  pub accepted-ready : refuses P c here ≡ 0 →
      prepared 0 (steps P c here) (remembered P c s here) (keeps P c here).frames ≡ ready_for P c s log db clog frames
  unfolding ready_for
  accepted-ready e = rw e

  -- accepted: the stores, the store and the frames of the code are those of the call
  pub ready-as : (ss : List Step) (u : Store) (fs : List ℕ) → ss ≡ steps P c here → u ≡ remembered P c s here → fs ≡ (keeps P c here).frames →
      refuses P c here ≡ 0 → prepared 0 ss u fs ≡ ready_for P c s log db clog frames
  ready-as ss u fs a b d e =
      ap (λ (x : List Step). prepared 0 x u fs) a
      ∙ ap (λ (x : Store). prepared 0 (steps P c here) x fs) b
      ∙ ap (λ (x : List ℕ). prepared 0 (steps P c here) (remembered P c s here) x) d
      ∙ accepted-ready e

  -- refused by the tests that every call makes first
  pub ready-front : (r : Ready) (n : ℕ) → r ≡ idle n s → n ≡ front_no P here → (n ≡ 0 → ⊥) → readied P r log db clog frames ≡ ready_for P c s log db clog frames
  unfolding refuses
  ready-front r zero i e h = absurd (h refl)
  ready-front r (suc n) i e h = ap (λ (x : Ready). readied P x log db clog frames) i ∙ idle-is P log db clog frames (suc n) s ∙ refused-ready n (rw (← e))

  module _ (e0 : front_no P here ≡ 0) where
    pub front-call : refuses P c here ≡ call_no P c here
    unfolding refuses
    front-call = rw e0

    -- refused by those of its own
    pub ready-no : (r : Ready) (n : ℕ) → r ≡ idle (suc n) s → call_no P c here ≡ suc n → readied P r log db clog frames ≡ ready_for P c s log db clog frames
    ready-no r n i e = ap (λ (x : Ready). readied P x log db clog frames) i ∙ idle-is P log db clog frames (suc n) s ∙ refused-ready n (front-call ∙ e)

    pub ready-own : (r : Ready) (n : ℕ) → r ≡ idle n s → n ≡ call_no P c here → (n ≡ 0 → ⊥) → readied P r log db clog frames ≡ ready_for P c s log db clog frames
    ready-own r zero i e h = absurd (h refl)
    ready-own r (suc n) i e h = ready-no r n i (sym e)

    -- accepted with no stores, and with stores; the frames stay
    pub ready-none : (r : Ready) (u : Store) → r ≡ idle 0 u → steps P c here ≡ [] → u ≡ remembered P c s here → frames ≡ (keeps P c here).frames →
        call_no P c here ≡ 0 → readied P r log db clog frames ≡ ready_for P c s log db clog frames
    ready-none r u i a b d e =
        ap (λ (x : Ready). readied P x log db clog frames) i ∙ idle-is P log db clog frames 0 u ∙ ready-as [] u frames (sym a) b d (front-call ∙ e)

    pub ready-plain : (r : Ready) (plan : Plan) (u : Store) → r ≡ plain plan u → meant P frames plan ≡ steps P c here → u ≡ remembered P c s here →
        frames ≡ (keeps P c here).frames → call_no P c here ≡ 0 → readied P r log db clog frames ≡ ready_for P c s log db clog frames
    ready-plain r plan u i a b d e =
        ap (λ (x : Ready). readied P x log db clog frames) i ∙ plain-is P log db clog frames plan u ∙ ready-as (meant P frames plan) u frames a b d (front-call ∙ e)

    -- the files of a store that passes them are in form for its stores
    form-0 : form_no s.lens (length log) (length db) (length clog) ≡ 0
    unfolding form_no
    form-0 =
        let i = front-means P s log db clog frames e0 in
        rw (
          fit-ok 16777216 (length log) s.lens.log i.log-limit i.log-fits,
          fit-ok 16777216 (length db) s.lens.db i.db-limit i.db-fits,
          fit-ok 1048576 (length clog) s.lens.clog i.clog-limit i.clog-fits,
          le-ltb s.lens.log 8 i.log-header,
          le-ltb s.lens.clog 8 i.clog-header,
        )

    pub room-is : (ss : List Step) → number_for P ss (files_of s.lens log db clog) ≡ room_no P ss (files_of s.lens log db clog)
    unfolding number_for
    room-is ss = first-zero (form_no s.lens (length log) (length db) (length clog)) (room_no P ss (files_of s.lens log db clog)) form-0

    module _ (own : argument_no c here ≡ 0) (few : length (keeps P c here).mem.touched ≤ 64) where
      call-is : call_no P c here ≡ or_else (room_no P (steps P c here) here.files) (hold_no P (keeps P c here))
      unfolding call_no
      call-is = rw (own, le-ltb 64 _ few)

      module _ (ss : List Step) (is : ss ≡ steps P c here) where
        room-here : number_for P ss (files_of s.lens log db clog) ≡ room_no P (steps P c here) here.files
        unfolding world_of
        room-here = room-is ss ∙ ap (λ (x : List Step). room_no P x (files_of s.lens log db clog)) is

        -- refused for lack of room
        pub ready-short : (r : Ready) (n : ℕ) → r ≡ idle n s → n ≡ number_for P ss (files_of s.lens log db clog) → (n ≡ 0 → ⊥) →
            readied P r log db clog frames ≡ ready_for P c s log db clog frames
        ready-short r zero i e h = absurd (h refl)
        ready-short r (suc n) i e h =
            ready-no r n i
            (call-is ∙ first_more (room_no P (steps P c here) here.files) (hold_no P (keeps P c here)) n (sym room-here ∙ sym e))

        -- there is room: what memory would hold decides
        pub call-hold : number_for P ss (files_of s.lens log db clog) ≡ 0 → call_no P c here ≡ hold_no P (keeps P c here)
        call-hold e = call-is ∙ first-zero (room_no P (steps P c here) here.files) (hold_no P (keeps P c here)) (sym room-here ∙ e)

-- ---- a call that leaves memory and frames as they are

module _ (P : ℕ) (c : Call) (s : Store) (log db clog frames : List ℕ) (e0 : front_no P (world_of s log db clog frames) ≡ 0) (z : Sized s)
    (own : argument_no c (world_of s log db clog frames) ≡ 0) (still : keeps P c (world_of s log db clog frames) ≡ world_of s log db clog frames) where
  abbrev old : World
  old = world_of s log db clog frames

  laid_same : laid_store s old ≡ s
  unfolding laid_store world_of mem_of
  laid_same =
      let i = front-means P s log db clog frames e0 in
      rw (table_same P s log db clog frames i z, frames-same P s log db clog frames i z, touched-same s.held.touched z.touched i.touched)

  still-store : s ≡ remembered P c s old
  still-store = sym (ap (λ (v : World). laid_store s (record { files = old.files; frames = v.frames; mem = v.mem })) still ∙ laid_same)

  still-frames : frames ≡ (keeps P c old).frames
  unfolding world_of
  still-frames = sym (ap (λ (v : World). v.frames) still)

  still-few : length (keeps P c old).mem.touched ≤ 64
  unfolding world_of mem_of
  still-few = omega (arith, ap (λ (v : World). length v.mem.touched) still, touched-length P s log db clog frames (front-means P s log db clog frames e0))

  still-hold : hold_no P (keeps P c old) ≡ 0
  unfolding hold_no world_of mem_of
  still-hold =
      let i = front-means P s log db clog frames e0 in
      let e : hold_no P old ≡ 0 = rw (le-ltb 256 _ (entries-length P s log db clog frames i), le-ltb _ _ (resident-length P s log db clog frames i)) in
      ap (hold_no P) still ∙ e

  pub ready-still : (r : Ready) → r ≡ idle 0 s → steps P c old ≡ [] → readied P r log db clog frames ≡ ready_for P c s log db clog frames
  ready-still r i e =
      ready-none P c s log db clog frames e0 r s i e still-store still-frames
      (quiet_is P c s log db clog frames (front-means P s log db clog frames e0) own e still-few ∙ still-hold)

  module _ (plan : Plan) (is : meant P frames plan ≡ steps P c old) (n : ℕ) (room : n ≡ number_for P (meant P frames plan) (files_of s.lens log db clog)) where
    pub still-short : (r : Ready) → r ≡ idle n s → (n ≡ 0 → ⊥) → readied P r log db clog frames ≡ ready_for P c s log db clog frames
    still-short r i h = ready-short P c s log db clog frames e0 own still-few (meant P frames plan) is r n i room h

    pub still-out : (r : Ready) → r ≡ plain plan s → n ≡ 0 → readied P r log db clog frames ≡ ready_for P c s log db clog frames
    still-out r i e =
        ready-plain P c s log db clog frames e0 r plan s i is still-store still-frames
        (call-hold P c s log db clog frames e0 own still-few (meant P frames plan) is (sym room ∙ e) ∙ still-hold)

-- ---- what was made ready is the call

module _ (P : ℕ) (c : Call) (s : Store) (log db clog frames : List ℕ) where
  abbrev now : World
  now = world_of s log db clog frames

  -- an accepted call has room for its stores
  accepted-room : refuses P c now ≡ 0 → number_for P (steps P c now) (files_of s.lens log db clog) ≡ 0
  unfolding refuses call_no world_of
  accepted-room e =
      let a = both_zero (front_no P now) (call_no P c now) e in
      let b = both_zero (argument_no c now) _ a.1 in
      let d = passed (ltb 64 (length (keeps P c now).mem.touched)) 11 _ (omega arith) b.1 in
      let r = both_zero (room_no P (steps P c now) now.files) (hold_no P (keeps P c now)) d.1 in
      room-is P c s log db clog frames a.0 (steps P c now) ∙ r.0

  files-cut : (k : ℕ) → files_at P k (ready_for P c s log db clog frames) log db clog ≡ call_to P k c now
  unfolding ready_for call_to laid_store world_of
  files-cut k = go (refuses P c now) refl
    where
      go : (n : ℕ) → refuses P c now ≡ n →
          files_at P k (prepared n (decided n (steps P c now) []) (decided n (remembered P c s now) s) (decided n (keeps P c now).frames frames)) log db clog ≡
          decided n (apply_all P (take k (steps P c now)) now.files) now.files
      go zero e = some-carried P k (steps P c now) (files_of s.lens log db clog) (accepted-room e)
      go (suc n) e = none-carried P k (files_of s.lens log db clog)

  pub ready-cut : (k : ℕ) → cut_at P k (ready_for P c s log db clog frames) log db clog ≡ called_to P k c s log db clog frames
  unfolding cut_at called_to ready_for
  ready-cut k = ap (λ (f : Files). cut_in (refuses P c now) f) (files-cut k)

  pub ready-count : (p : Prepared) → p ≡ ready_for P c s log db clog frames →
      ◌≡◌ {A = Counted} (record { number = p.number; stores = length p.steps }) (counted_for P c s log db clog frames)
  unfolding counted_for ready_for count
  ready-count p e = ap (λ (x : Prepared). record { number = x.number; stores = length x.steps }) e ∙ go (refuses P c now)
    where
      go : (n : ℕ) →
          ◌≡◌ {A = Counted} (record { number = n; stores = length (decided n (steps P c now) []) }) (record { number = n; stores = decided n (length (steps P c now)) 0 })
      go zero = refl
      go (suc n) = refl

  pub counted-done : (r : Ready) (x : Counted) → readied P r log db clog frames ≡ ready_for P c s log db clog frames → x ≡ counted_of r →
      x ≡ counted_for P c s log db clog frames
  unfolding readied counted_of
  counted-done r x e q =
      let l = length-meant P frames r.plan in
      q ∙ rw (← l) (ready-count (readied P r log db clog frames) e)

  pub ready-called : carried_out P (ready_for P c s log db clog frames) log db clog ≡ called P c s log db clog frames
  unfolding carried_out with_lens ready_for called_on call laid_store world_of done
  ready-called = go (refuses P c now) refl
    where
      go : (n : ℕ) → refuses P c now ≡ n →
          carried_out P (prepared n (decided n (steps P c now) []) (decided n (remembered P c s now) s) (decided n (keeps P c now).frames frames)) log db clog ≡
          (let v = decided n (done P c now) now in
          outcome (record { number = n; store = decided n (laid_store s (done P c now)) s }) v.files.log.bytes v.files.db.bytes v.files.clog.bytes v.frames)
      go zero e =
          let ss = steps P c now in
          let f = files_of s.lens log db clog in
          let g : (carried P ss (length ss) f).files ≡ apply_all P ss f =
          some-carried P (length ss) ss f (accepted-room e) ∙ ap (λ (x : List Step). apply_all P x f) (take_all (length ss) ss (omega arith)) in
          rw g
      go (suc n) e = rw (none-carried P 0 (files_of s.lens log db clog))

  -- ---- the answers: what `?` hands on where it is refused, and what comes of the rest

  module _ (e : Refusal) (is : readied P (idle (number_of e) s) log db clog frames ≡ ready_for P c s log db clog frames) where
    no-stores : prepared (number_of e) [] s frames ≡ ready_for P c s log db clog frames
    no-stores = sym (idle-is P log db clog frames (number_of e) s) ∙ is

    pub refused-called : (a : Result Store Refusal) → a ≡ Err e → outcome (changed s a) log db clog frames ≡ called P c s log db clog frames
    unfolding carried_out with_lens
    refused-called a h =
        let p = prepared (number_of e) [] s frames in
        let n : carried_out P p log db clog ≡ outcome (changed s (Err e)) log db clog frames = rw (none-carried P 0 (files_of s.lens log db clog)) in
        ap (λ (x : Result Store Refusal). outcome (changed s x) log db clog frames) h ∙ sym n ∙ ap (λ (x : Prepared). carried_out P x log db clog) no-stores ∙ ready-called

    pub refused-cut : (k : ℕ) (a : Result Lens Refusal) → a ≡ Err e → cut_of (cut s.lens a) log db clog ≡ called_to P k c s log db clog frames
    unfolding cut_at
    refused-cut k a h =
        let p = prepared (number_of e) [] s frames in
        let n : cut_at P k p log db clog ≡ cut_of (cut s.lens (Err e)) log db clog = rw (none-carried P k (files_of s.lens log db clog)) in
        ap (λ (x : Result Lens Refusal). cut_of (cut s.lens x) log db clog) h ∙ sym n ∙ ap (λ (x : Prepared). cut_at P k x log db clog) no-stores ∙ ready-cut k

    pub refused-count : (a : Result ℕ Refusal) → a ≡ Err e → counted a ≡ counted_for P c s log db clog frames
    unfolding idle plan_of steps_of counted_of
    refused-count a h = ap counted h ∙ counted-done (idle (number_of e) s) (counted (Err e)) is refl

  -- what is made of a call that was not refused has number 0, whatever its value says
  module _ (r : Ready) (is : readied P (accepted r) log db clog frames ≡ ready_for P c s log db clog frames) where
    out-accepted : outcome_0 (carried_out P (readied P r log db clog frames) log db clog) ≡ carried_out P (readied P (accepted r) log db clog frames) log db clog
    unfolding carried_out readied framed
    out-accepted = refl

    pub accepted-called : (x : Numbered Store) (log' db' clog' frames' : List ℕ) →
        outcome (changed_as x) log' db' clog' frames' ≡ carried_out P (readied P r log db clog frames) log db clog →
        outcome (changed s (Ok x.value)) log' db' clog' frames' ≡ called P c s log db clog frames
    accepted-called x log' db' clog' frames' e = ap outcome_0 e ∙ out-accepted ∙ ap (λ (p : Prepared). carried_out P p log db clog) is ∙ ready-called

    cut-accepted : (k : ℕ) → cut_in 0 (cut_at P k (readied P r log db clog frames) log db clog).files ≡ cut_at P k (readied P (accepted r) log db clog frames) log db clog
    unfolding cut_at readied
    cut-accepted k = refl

    pub accepted-cut : (k : ℕ) (x : Numbered Lens) (log' db' clog' : List ℕ) →
        cut_of (cut_as x) log' db' clog' ≡ cut_at P k (readied P r log db clog frames) log db clog →
        cut_of (cut s.lens (Ok x.value)) log' db' clog' ≡ called_to P k c s log db clog frames
    accepted-cut k x log' db' clog' e =
        ap (λ (y : Carried). cut_in 0 y.files) e ∙ cut-accepted k ∙ ap (λ (p : Prepared). cut_at P k p log db clog) is ∙ ready-cut k

    pub accepted-count : (x : Numbered ℕ) → counted_as x ≡ counted_of r → counted (Ok x.value) ≡ counted_for P c s log db clog frames
    unfolding counted_of
    accepted-count x e = counted-done (accepted r) (counted (Ok x.value)) is (ap (λ (y : Counted). counted (Ok y.stores)) e)
