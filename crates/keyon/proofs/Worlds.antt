-- From what an accepted opening leaves in lent arrays to worlds: read again, it is the world of crate opening, and no part of it is odd. So a theorem over that world
-- speaks of what is left here, and of the calls that follow. P is the page size. Assumes nothing.
use Prim.Native.Nat.{ℕ, ◌≤◌}
use native.Mathlib.Omega.{arith}
use mathlib.Core.Path.{◌≡◌, refl, sym, ap, ◌∙◌}
use mathlib.Core.List.{List, [], ◌∷◌, map}
use mathlib.Core.Bool.{Bool, true, false, cond}
use lib.ListN.{length, take, length-map}
use borrow.Author.Tests.{le-ltb}
use Rattle.fields.specs.Files.{content}
use Rattle.sorted.specs.Sorted.{laid_on}
use Rattle.sorted.proofs.Laws.{laid-back}
use Rattle.table.specs.declared.Status.{Status}
use Rattle.table.specs.declared.Status.TheVariants.{Active, Committed, Aborted}
use Rattle.table.specs.declared.Entry.{Entry}
use Rattle.table.specs.Entries.{list_of}
use Rattle.rows.specs.Rows.{row_of, odd_row, any_odd}
use Rattle.meta.specs.Page.{has_meta}
use Rattle.world.specs.declared.Lens.{Lens}
use Rattle.world.specs.declared.Slot.{Slot}
use Rattle.world.specs.declared.Slot.TheVariants.{Installed, Empty}
use Rattle.world.specs.World.{World, files_of}
use Rattle.form.specs.declared.Store.{Store}
use Rattle.form.specs.Store.{no_store, laid_store}
use Rattle.lent.specs.declared.Head.{Head}
use Rattle.lent.specs.Lent.{Lent, odd, odd_head, head_of, laid_lent, left_of}
use Rattle.lent.proofs.Worlds.{world_left, world-lent}
use Rattle.std.specs.Prelude.{Result, Ok, Err}
use Rattle.opening.specs.declared.Unopened.{Unopened}
use Rattle.opening.specs.Opening.{records, replayed, open_no, with_meta, without_meta, opened_world, opening, opened}
use Rattle.opening.proofs.Laws.{accepted, verdict-same}
use Rattle.opening.proofs.Formed.{no-means}
use Rattle.opening.proofs.Replays.{replay-fits}
use Rattle.keyon.specs.Keyon.{Wake, waking_of, wakes, opened_lent}

-- ---- rows of entries are not odd

row-even : (e : Entry) → odd_row (row_of e) ≡ false
unfolding odd_row
row-even e = go e.status
  where
    go : (s : Status) → odd_row (row_of (record { id = e.id; status = s })) ≡ false
    go Active = refl
    go (Committed t) = refl
    go Aborted = refl

rows-even : (l : List Entry) → any_odd (map row_of l) ≡ false
unfolding any_odd
rows-even [] = refl
rows-even (e ∷ l) = rw (row-even e, rows-even l)

head-even : (u : Store) → u.pages ≤ 4294967295 → odd_head (head_of u) ≡ false
unfolding odd_head
head-even u h = rw (le-ltb 4294967295 u.pages h) (go u.held.slot)
  where
    go : (s : Slot) → odd_head (head_of (record { lens = u.lens; pages = 0; next = u.next; time = u.time; mark = u.mark; table = u.table; frames = u.frames; held = record { slot = s; touched = u.held.touched } })) ≡ false
    go (Installed id) = refl
    go Empty = refl

-- a world's lists laid over the arrays
pub laid-even : (s : Lent) (b : Store) (w : World) → w.mem.pages ≤ 4294967295 → odd (laid_lent s (laid_store b w)) ≡ false
unfolding odd laid_lent laid_store
laid-even s b w h =
    let u = laid_store b w in
    let l = w.mem.table in
    let t : list_of u.table ≡ l = laid-back b.table.entries l in
    let k : take (length l) (laid_on s.rows (map row_of l)) ≡ map row_of l = rw (← length-map l row_of) (laid-back s.rows (map row_of l)) in
    rw (t, head-even u h, k, rows-even l)

module _ (P : ℕ) (lens : Lens) (s : Lent) (log db clog frames : List ℕ) (ok : open_no P (files_of lens log db clog) frames ≡ 0) where
  pub lent-is-opening : world_left (opened_lent P lens s log db clog frames).left ≡ (opening P (files_of lens log db clog) frames).world
  unfolding opened_lent opened left_of
  lent-is-opening =
      rw (accepted P (files_of lens log db clog) frames ok) (world-lent s no_store (opened_world P (files_of lens log db clog) frames))

-- the page count has 32 bits
module _ (lens : Lens) (s : Lent) (log db clog frames : List ℕ) (ok : open_no 4096 (files_of lens log db clog) frames ≡ 0) where
  small : (replayed 4096 (files_of lens log db clog)).len ≤ 16777216
  unfolding replayed
  small =
      let f = files_of lens log db clog in
      let p = no-means 4096 f frames ok in
      omega (arith, replay-fits 4096 (records 4096 f.log) f.db p.images p.db-len, p.db-size)

  few-pages : (opened_world 4096 (files_of lens log db clog) frames).mem.pages ≤ 4294967295
  unfolding opened_world with_meta without_meta
  few-pages = go (has_meta 4096 (content (replayed 4096 (files_of lens log db clog))))
    where
      go : (x : Bool) → (cond x (with_meta 4096 (files_of lens log db clog) frames) (without_meta 4096 (files_of lens log db clog) frames)).mem.pages ≤ 4294967295
      go true = omega (arith, small)
      go false = omega (arith, small)

  pub opened-even : odd (opened_lent 4096 lens s log db clog frames).left.store ≡ false
  unfolding opened_lent opened left_of
  opened-even =
      rw (accepted 4096 (files_of lens log db clog) frames ok) (laid-even s no_store (opened_world 4096 (files_of lens log db clog) frames) few-pages)

-- ---- what is told of an answer, the arrays and the buffers says what they are

result-same : (k : Head) (r s : Result Head Unopened) → (waking_of k r).verdict ≡ (waking_of k s).verdict → (waking_of k r).head ≡ (waking_of k s).head → r ≡ s
result-same k (Ok g) (Ok h) v d = ap (λ x. Ok x) d
result-same k (Ok g) (Err u) v d = cc
result-same k (Err u) (Ok h) v d = cc
result-same k (Err u) (Err w) v d = let e : u ≡ w = cc in ap (λ x. Err x) e

pub wakes-same : (k : Head) (r s : Result Head Unopened) (rows rows' : List (List ℕ)) (resident resident' touched touched' log log' db db' clog clog' frames frames' : List ℕ) (o : Wake) →
    wakes (waking_of k r) rows resident touched log db clog frames ≡ o → wakes (waking_of k s) rows' resident' touched' log' db' clog' frames' ≡ o →
    (r ≡ s) × (rows ≡ rows') × (resident ≡ resident') × (touched ≡ touched') × (log ≡ log') × (db ≡ db') × (clog ≡ clog') × (frames ≡ frames')
wakes-same k r s rows rows' resident resident' touched touched' log log' db db' clog clog' frames frames' o e h =
    let g = e ∙ sym h in
    let v = verdict-same (waking_of k r).verdict (waking_of k s).verdict (ap (λ (w : Wake). w.left.number) g) (ap (λ (w : Wake). w.value) g) in (
      result-same k r s v (ap (λ (w : Wake). w.left.store.head) g),
      ap (λ (w : Wake). w.left.store.rows) g,
      ap (λ (w : Wake). w.left.store.resident) g,
      ap (λ (w : Wake). w.left.store.touched) g,
      ap (λ (w : Wake). w.left.log) g,
      ap (λ (w : Wake). w.left.db) g,
      ap (λ (w : Wake). w.left.clog) g,
      ap (λ (w : Wake). w.left.frames) g,
    )
