-- From what a call leaves in lent arrays to worlds: read again, it is `call` of the world that came in. So a theorem over worlds speaks of these calls too. Assumes
-- nothing.
use Prim.Native.Nat.{ℕ, zero, suc}
use mathlib.Core.Path.{◌≡◌, refl, ap, ◌∙◌}
use mathlib.Core.List.{List, [], ◌∷◌, ◌++◌, map}
use mathlib.Core.Bool.{false}
use native.Mathlib.Omega.{arith}
use lib.ListN.{length, length-append, take, drop}
use lib.Seq.{take_at}
use Rattle.sorted.specs.Sorted.{laid_on}
use Rattle.sorted.proofs.Laws.{laid-back}
use Rattle.table.specs.declared.Entry.{Entry}
use Rattle.table.specs.Entries.{blank}
use Rattle.rows.specs.Rows.{row_of, entry_of}
use Rattle.rows.proofs.Laws.{row_back, map-join}
use Rattle.world.specs.declared.Slot.{Slot}
use Rattle.world.specs.declared.Slot.TheVariants.{Installed, Empty}
use Rattle.world.specs.World.{World}
use Rattle.world.specs.Calls.{Call}
use Rattle.world.specs.Refusals.{refuses}
use Rattle.world.specs.Run.{done, decided, call}
use Rattle.form.specs.declared.Store.{Store}
use Rattle.form.specs.Store.{first_of, mem_of, world_of, laid_store, called_on}
use Rattle.form.proofs.Arrays.{first_fits, first-laid}
use Rattle.lent.specs.Lent.{Lent, slot_in, store_of, odd, held_of, own_of, laid_lent, Left, left_of, called_lent}

entries-back : (l : List Entry) → map entry_of (map row_of l) ≡ l
entries-back [] = refl
entries-back (e ∷ l) = rw (row_back e, entries-back l)

-- entries laid over the rows, read back
table-back : (a : List (List ℕ)) (l : List Entry) → first_of blank (length l) (map entry_of (laid_on a (map row_of l))) ≡ l
table-back a l =
    let x = drop (length (map row_of l)) a in
    let e : map entry_of (laid_on a (map row_of l)) ≡ l ++ map entry_of x =
    map-join (map row_of l) x ∙ ap (λ (m : List Entry). m ++ map entry_of x) (entries-back l) in
    rw e (first_fits blank (length l) (l ++ map entry_of x) (simp length-append (omega arith)) ∙ take_at l (map entry_of x) (length l) refl)

pages-back : (a b l : List ℕ) → first_of 0 (length l) (laid_on a (take (length l) (laid_on b l))) ≡ l
pages-back a b l = rw (laid-back b l) (first-laid 0 a l)

slot-back : (s : Slot) → slot_in (held_of s) (own_of s) ≡ s
slot-back (Installed id) = refl
slot-back Empty = refl

-- a world laid over a store's lists and then over the arrays, read back: no premise
pub world-lent : (s : Lent) (b : Store) (w : World) →
    world_of (store_of (laid_lent s (laid_store b w))) w.files.log.bytes w.files.db.bytes w.files.clog.bytes w.frames ≡ w
unfolding world_of mem_of laid_store laid_lent store_of
world-lent s b w =
    rw (
      laid-back b.table.entries w.mem.table,
      table-back s.rows w.mem.table,
      pages-back s.resident b.frames.pages w.mem.resident,
      pages-back s.touched b.held.touched.pages w.mem.touched,
      slot-back w.mem.slot,
    )

-- the world that a call leaves
abbrev pub world_left : Left → World
world_left o = world_of (store_of o.store) o.log o.db o.clog o.frames

same-world : (s : Lent) (log db clog frames : List ℕ) →
    (let w = world_of (store_of s) log db clog frames in
    world_of (store_of s) w.files.log.bytes w.files.db.bytes w.files.clog.bytes w.frames ≡ w)
unfolding world_of
same-world s log db clog frames = refl

pub lent-is-call : (P : ℕ) (c : Call) (s : Lent) (log db clog frames : List ℕ) → odd s ≡ false →
    world_left (called_lent P c s log db clog frames) ≡ call P c (world_of (store_of s) log db clog frames)
unfolding called_lent left_of called_on call
lent-is-call P c s log db clog frames e =
    rw e (go (refuses P c (world_of (store_of s) log db clog frames)) (done P c (world_of (store_of s) log db clog frames)))
  where
    go : (n : ℕ) (v : World) →
        (let w = world_of (store_of s) log db clog frames in
        world_of (store_of (decided n (laid_lent s (decided n (laid_store (store_of s) v) (store_of s))) s)) (decided n v w).files.log.bytes (decided n v w).files.db.bytes
        (decided n v w).files.clog.bytes (decided n v w).frames ≡ decided n v w)
    go zero v = world-lent s (store_of s) v
    go (suc n) v = same-world s log db clog frames
