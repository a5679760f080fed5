-- A plan's stores in the terms of the store as lists, kind by kind, and stores carried out in two parts. P is the page size. Assumes nothing.
use mathlib.Core.Path.{◌≡◌, refl, ap, ap₂, ◌∙◌}
use mathlib.Core.List.{List, [], ◌∷◌, ◌++◌, map}
use mathlib.Core.Bool.{cond}
use Prim.Native.Nat.{ℕ, zero, suc, ◌+◌, ◌≤◌, ◌<◌, min}
use native.Mathlib.Omega.{arith}
use lib.ListN.{length, take, drop, get_or}
use Rattle.wal.specs.Records.{begin, commit, abort, checkpoint}
use Rattle.table.specs.declared.Status.TheVariants.{Active, Committed, Aborted}
use Rattle.meta.specs.declared.Counters.{Counters}
use Rattle.meta.specs.Page.{meta_page}
use Rattle.frames.specs.Pages.{slot_of}
use Rattle.world.specs.World.{Files, World}
use Rattle.world.specs.Steps as world
use Rattle.world.specs.Steps.{apply, apply_all}
use Rattle.world.specs.Calls as calls
use Rattle.world.specs.Calls.{held_page, images, writes}
use Rattle.world.specs.Refusals.{any_of, bad_buffers, bad_store, front_no, room_no}
use Rattle.fields.specs.Files.{room, unfit}
use Rattle.fields.proofs.Tests.{passed, neither}
use Rattle.stores.specs.Room.{form_no, number_for}
use lib.Dec.{ltb, lit<}
use Rattle.stores.specs.declared.Plan.{Plan}
use Rattle.stores.specs.declared.Kind.TheVariants.{Nothing, Begin, Flush, Commit, Rollback, Advance}
use Rattle.stores.specs.declared.Step.{Step}
use Rattle.stores.specs.Plans.{tabulate, image_step, page_step, meta_step, closing, begin_steps, flush_steps, commit_steps, data_steps, rollback_steps, advance_steps, meaning, meant}
use Rattle.stores.proofs.PlanLaws.{by_kind}

map-append : {A B : Type 0} (g : A → B) (xs ys : List A) → map g (xs ++ ys) ≡ map g xs ++ map g ys
map-append g [] ys = refl
map-append {B = B} g (x ∷ xs) ys = ap (λ (l : List B). g x ∷ l) (map-append g xs ys)

-- ---- carried out in two parts is carried out in one

pub carried-parts : (P i k : ℕ) (ss : List world.Step) (f : Files) → apply_all P (take k (drop i ss)) (apply_all P (take i ss) f) ≡ apply_all P (take (i + k) ss) f
unfolding apply_all
carried-parts P zero k ss f = let e : 0 + k ≡ k = omega arith in rw e
carried-parts P (suc i) k [] f = none k
  where
    none : (k : ℕ) → apply_all P (take k []) f ≡ apply_all P (take (suc i + k) []) f
    none zero = let e : suc i + 0 ≡ suc i = omega arith in rw e
    none (suc k) = let e : suc i + suc k ≡ suc (i + suc k) = omega arith in rw e
carried-parts P (suc i) k (s ∷ ss) f = let e : suc i + k ≡ suc (i + k) = omega arith in rw e (carried-parts P i k ss (apply P s f))

-- ---- runs of pages: the pages ps of a world, whose slots the plan gives

module _ (P : ℕ) (w : World) where
  run-images : (g h : ℕ → ℕ) (ps : List ℕ) → ((i : ℕ) → i < length ps → (g i ≡ get_or ps i 0) × (h i ≡ slot_of (get_or ps i 0) w.mem.resident))
      → map (meaning P w.frames) (tabulate (length ps) (λ i. Step.LogImage (g i) (h i))) ≡ images P w ps
  unfolding tabulate meaning images held_page
  run-images g h [] e = refl
  run-images g h (p ∷ ps) e =
      let a = e 0 (omega arith) in
      ap₂ ◌∷◌ (rw (a.0, a.1)) (run-images (λ i. g (suc i)) (λ i. h (suc i)) ps (λ i l. e (suc i) (omega arith)))

  run-writes : (g h : ℕ → ℕ) (ps : List ℕ) → ((i : ℕ) → i < length ps → (g i ≡ get_or ps i 0) × (h i ≡ slot_of (get_or ps i 0) w.mem.resident))
      → map (meaning P w.frames) (tabulate (length ps) (λ i. Step.WritePage (g i) (h i))) ≡ writes P w ps
  unfolding tabulate meaning writes held_page
  run-writes g h [] e = refl
  run-writes g h (p ∷ ps) e =
      let a = e 0 (omega arith) in
      ap₂ ◌∷◌ (rw (a.0, a.1)) (run-writes (λ i. g (suc i)) (λ i. h (suc i)) ps (λ i l. e (suc i) (omega arith)))

-- the plan p lists the pages ps of the world w, each with its slot
pub record Lists (w : World) (p : Plan) (ps : List ℕ) : Type 0 where
  pub count : p.n ≡ length ps
  pub few : length ps ≤ 64
  pub places : (i : ℕ) → i < length ps → (get_or p.pages i 0 ≡ get_or ps i 0) × (get_or p.slots i 0 ≡ slot_of (get_or ps i 0) w.mem.resident)

abbrev meta_of : ℕ → Counters → world.Step
meta_of P m = world.Page 0 (meta_page P m.next.0 m.time.0 m.mark.0)

-- ---- kind by kind

module _ (P : ℕ) (fr : List ℕ) (p : Plan) where
  pub nothing-meant : p.kind ≡ Nothing → meant P fr p ≡ []
  unfolding meant
  nothing-meant e = ap (map (meaning P fr)) (by_kind p Nothing (min p.n 64) e refl)

  pub begin-meant : p.kind ≡ Begin → meant P fr p ≡ world.Log (begin p.id.0) ∷ world.SetSlot p.id.0 Active ∷ []
  unfolding meant begin_steps meaning
  begin-meant e = ap (map (meaning P fr)) (by_kind p Begin (min p.n 64) e refl)

  pub advance-meant : p.kind ≡ Advance → meant P fr p ≡ world.Compact p.meta.mark.0 ∷ meta_of P p.meta ∷ []
  unfolding meant advance_steps meaning
  advance-meant e = ap (map (meaning P fr)) (by_kind p Advance (min p.n 64) e refl)

-- the data pages of a rollback, if there are any
module _ (P : ℕ) (w : World) (p : Plan) where
  none-data : map (meaning P w.frames) (data_steps 0 p) ≡ calls.data_steps P w []
  unfolding data_steps calls.data_steps
  none-data = refl

  some-data : (q : ℕ) (qs : List ℕ) → map (meaning P w.frames) (tabulate (suc (length qs)) (image_step p)) ≡ images P w (q ∷ qs) → map (meaning P w.frames) (tabulate (suc (length qs)) (page_step p)) ≡ writes P w (q ∷ qs)
      → map (meaning P w.frames) (data_steps (suc (length qs)) p) ≡ calls.data_steps P w (q ∷ qs)
  unfolding data_steps calls.data_steps meaning
  some-data q qs a b =
      map-append (meaning P w.frames) (tabulate (suc (length qs)) (image_step p)) (tabulate (suc (length qs)) (page_step p) ++ (Step.LogCheckpoint ∷ Step.Truncate ∷ []))
      ∙ ap₂ ◌++◌ a (map-append (meaning P w.frames) (tabulate (suc (length qs)) (page_step p)) (Step.LogCheckpoint ∷ Step.Truncate ∷ [])
      ∙ ap (λ (l : List world.Step). l ++ (world.Log checkpoint ∷ world.Truncate ∷ [])) b)

module _ (P : ℕ) (w : World) (p : Plan) (ps : List ℕ) (lists : Lists w p ps) where
  all : length ps ≡ min p.n 64
  all = omega (arith, lists.count, lists.few)

  logged : map (meaning P w.frames) (tabulate (length ps) (image_step p)) ≡ images P w ps
  logged = run-images P w (λ i. get_or p.pages i 0) (λ i. get_or p.slots i 0) ps lists.places

  written : map (meaning P w.frames) (tabulate (length ps) (page_step p)) ≡ writes P w ps
  written = run-writes P w (λ i. get_or p.pages i 0) (λ i. get_or p.slots i 0) ps lists.places

  pub flush-meant : p.kind ≡ Flush → meant P w.frames p ≡ images P w ps ++ writes P w ps
  unfolding meant flush_steps
  flush-meant e =
      ap (map (meaning P w.frames)) (by_kind p Flush (length ps) e all)
      ∙ map-append (meaning P w.frames) (tabulate (length ps) (image_step p)) (tabulate (length ps) (page_step p)) ∙ ap₂ ◌++◌ logged written

  pub commit-meant : p.kind ≡ Commit → meant P w.frames p ≡ images P w ps ++ (world.Log (commit p.id.0 p.time.0) ∷ (writes P w ps ++ (world.SetSlot p.id.0 (Committed p.time) ∷ world.Log checkpoint ∷ world.Truncate ∷ meta_of P p.meta ∷ [])))
  unfolding meant commit_steps meaning
  commit-meant e =
      ap (map (meaning P w.frames)) (by_kind p Commit (length ps) e all)
      ∙ map-append (meaning P w.frames) (tabulate (length ps) (image_step p)) (Step.LogCommit p.id p.time ∷ (tabulate (length ps) (page_step p) ++ closing p))
      ∙ ap₂ ◌++◌ logged (ap (λ (l : List world.Step). world.Log (commit p.id.0 p.time.0) ∷ l)
      (map-append (meaning P w.frames) (tabulate (length ps) (page_step p)) (closing p) ∙ ap (λ (l : List world.Step). l ++ map (meaning P w.frames) (closing p)) written))

  data-meant : map (meaning P w.frames) (data_steps (length ps) p) ≡ calls.data_steps P w ps
  data-meant = go ps logged written
    where
      go : (qs : List ℕ) → map (meaning P w.frames) (tabulate (length qs) (image_step p)) ≡ images P w qs → map (meaning P w.frames) (tabulate (length qs) (page_step p)) ≡ writes P w qs
          → map (meaning P w.frames) (data_steps (length qs) p) ≡ calls.data_steps P w qs
      go [] a b = none-data P w p
      go (q ∷ qs) a b = some-data P w p q qs a b

  pub rollback-meant : p.kind ≡ Rollback → meant P w.frames p ≡ (world.Log (abort p.id.0) ∷ world.SetSlot p.id.0 Aborted ∷ calls.data_steps P w ps) ++ (meta_of P p.meta ∷ [])
  unfolding meant rollback_steps meaning
  rollback-meant e =
      ap (map (meaning P w.frames)) (by_kind p Rollback (length ps) e all)
      ∙ ap (λ (l : List world.Step). world.Log (abort p.id.0) ∷ world.SetSlot p.id.0 Aborted ∷ l)
      (map-append (meaning P w.frames) (data_steps (length ps) p) (meta_step p ∷ []) ∙ ap (λ (l : List world.Step). l ++ (meta_of P p.meta ∷ [])) data-meant)

-- ---- a store that passes the tests of every call is refused for lack of room alone

pub front-number : (P : ℕ) (ss : List world.Step) (w : World) → front_no P w ≡ 0 → number_for P ss w.files ≡ room_no P ss w.files
unfolding number_for form_no front_no bad_buffers bad_store any_of
front-number P ss w e =
    let a = passed (bad_buffers P w.files w.frames) 1 (cond (bad_store P w) 14 0) (lit< tt) e in
    let b = passed (bad_store P w) 14 0 (lit< tt) a.1 in
    let f = w.files in
    let u = neither (unfit 16777216 (room f.log) f.log.len) _ a.0 in
    let v = neither (unfit 16777216 (room f.db) f.db.len) _ u.1 in
    let x = neither (unfit 1048576 (room f.clog) f.clog.len) _ v.1 in
    let y = neither (ltb f.log.len 8) _ b.0 in
    let z = neither (ltb f.clog.len 8) _ y.1 in
    rw (u.0, v.0, x.0, y.0, z.0)
