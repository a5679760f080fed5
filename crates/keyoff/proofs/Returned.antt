-- The same of what the functions return: `opened` is what opening a store must give, `Ran` a chain of calls, each given the store and the buffers that the one
-- before left. P is the page size. Assumes nothing.
use mathlib.Core.Path.{◌≡◌, sym, ap, ◌∙◌, subst}
use mathlib.Core.List.{List}
use Prim.Native.Nat.{ℕ, ◌≤◌}
use Rattle.fields.specs.Files.{File}
use Rattle.table.specs.Entries.{status_of}
use Rattle.world.specs.declared.Lens.{Lens}
use Rattle.world.specs.World.{World, files_of}
use Rattle.world.specs.Calls.{Call}
use Rattle.world.specs.Run.{run}
use Rattle.form.specs.Store.{mem_of, world_of, Outcome}
use Rattle.form.proofs.Worlds.{Ran, ran-is-run, world_in}
use Rattle.opening.specs.Opening.{Opening, opening, open_no, opened}
use Rattle.opening.proofs.Laws.{accepted, opened-world}
use Rattle.keyoff.specs.KeyOff.{OpenedWithMeta, NoZeroFlush, BytesIn, AllTyped, SameStatuses, NextAbove, reopened, Reopens}
use Rattle.keyoff.proofs.Theorem.{key-off}

-- what opening the files of an outcome again must give, with the same buffers
abbrev pub again : ℕ → Outcome → Outcome
again P u = (opened P u.store.lens u.log u.db u.clog u.frames).outcome

-- the store is opened, with the statuses held and the same mark; the database's buffer and length are the same; the next id is above the table
pub record StoreReopens (P : ℕ) (u : Outcome) : Type 0 where
  pub accepted : (again P u).number ≡ 0
  pub statuses : SameStatuses (mem_of u.store) (mem_of (again P u).store)
  pub mark : (again P u).store.mark ≡ u.store.mark
  pub bytes : (again P u).db ≡ u.db
  pub length : (again P u).store.lens.db ≡ u.store.lens.db
  pub next : NextAbove (mem_of (again P u).store)

-- read as a world, the store that an opening hands out is the opened one
opened-is : (P : ℕ) (lens : Lens) (log db clog frames : List ℕ) → (opening P (files_of lens log db clog) frames).number ≡ 0 →
    world_in (opened P lens log db clog frames).outcome ≡ (opening P (files_of lens log db clog) frames).world
opened-is P lens log db clog frames h =
    let n : open_no P (files_of lens log db clog) frames ≡ 0 = unfold opening in h in
    opened-world P lens log db clog frames n ∙ sym (ap (λ (o : Opening). o.world) (accepted P (files_of lens log db clog) frames n))

-- an outcome whose world is opened again is opened again
from-world : (P : ℕ) (u : Outcome) → Reopens P (world_in u) → StoreReopens P u
unfolding world_of mem_of opened
from-world P u r =
    let e : world_in (again P u) ≡ reopened P (world_in u) = opened-is P u.store.lens u.log u.db u.clog u.frames r.accepted in
    record {
      accepted = r.accepted;
      statuses = λ t h. ap (λ (w : World). status_of t w.mem.table) e ∙ r.statuses t h;
      mark = ap (λ (w : World). w.mem.mark) e ∙ r.mark;
      bytes = ap (λ (w : World). w.files.db.bytes) e ∙ ap (λ (g : File). g.bytes) r.database;
      length = ap (λ (w : World). w.files.db.len) e ∙ ap (λ (g : File). g.len) r.database;
      next = subst (λ (w : World). NextAbove w.mem) (sym e) r.next;
    }

pub key-off-code : (P : ℕ) → 36 ≤ P → (lens : Lens) (log db clog frames : List ℕ) (cs : List Call) (u : Outcome) →
    BytesIn (files_of lens log db clog) → AllTyped cs → OpenedWithMeta P (files_of lens log db clog) (opening P (files_of lens log db clog) frames) →
    Ran P (opened P lens log db clog frames).outcome cs u → NoZeroFlush P cs (world_in (opened P lens log db clog frames).outcome) → StoreReopens P u
key-off-code P big lens log db clog frames cs u bytes typed meta ran quiet =
    let e = opened-is P lens log db clog frames meta.accepted in
    let r = key-off P big (files_of lens log db clog) frames cs bytes typed meta (subst (λ (w : World). NoZeroFlush P cs w) e quiet) in
    from-world P u (subst (λ (w : World). Reopens P w) (sym (ran-is-run ran ∙ ap (run P cs) e)) r)
