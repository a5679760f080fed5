-- From the code's outcomes to worlds: what a call leaves, read as a world, is `call` of the world that came in; so is a chain of calls. Assumes nothing.
use Prim.Native.Nat.{ℕ, zero, suc}
use mathlib.Core.Path.{◌≡◌, refl, ap, ◌∙◌}
use mathlib.Core.List.{List, [], ◌∷◌}
use Rattle.table.specs.Entries.{blank}
use Rattle.world.specs.World.{World}
use Rattle.world.specs.Calls.{Call}
use Rattle.world.specs.Refusals.{refuses}
use Rattle.world.specs.Run.{done, decided, call, run}
use Rattle.form.specs.declared.Store.{Store}
use Rattle.form.specs.Store.{mem_of, world_of, laid_store, Outcome, ending, called_on}
use Rattle.form.proofs.Arrays.{first-laid}

-- the world that an outcome is
abbrev pub world_in : Outcome → World
world_in o = world_of o.store o.log o.db o.clog o.frames

-- a world laid over a store, read back: no premise
pub world-laid : (s : Store) (w : World) → world_of (laid_store s w) w.files.log.bytes w.files.db.bytes w.files.clog.bytes w.frames ≡ w
unfolding world_of mem_of laid_store
world-laid s w =
    rw (
      first-laid blank s.table.entries w.mem.table,
      first-laid 0 s.frames.pages w.mem.resident,
      first-laid 0 s.held.touched.pages w.mem.touched,
    )

same-world : (s : Store) (log db clog frames : List ℕ) → world_in (ending 0 s (world_of s log db clog frames)) ≡ world_of s log db clog frames
unfolding world_of
same-world s log db clog frames = refl

-- a call of the code is a call of a world
pub called-is-call : (P : ℕ) (c : Call) (b s : Store) (log db clog frames : List ℕ) →
    world_in (called_on P c b s log db clog frames) ≡ call P c (world_of s log db clog frames)
unfolding called_on call
called-is-call P c b s log db clog frames = go (refuses P c (world_of s log db clog frames)) (done P c (world_of s log db clog frames))
  where
    go : (n : ℕ) (v : World) →
        world_in (ending n (decided n (laid_store b v) s) (decided n v (world_of s log db clog frames))) ≡ decided n v (world_of s log db clog frames)
    go zero v = world-laid b v
    go (suc n) v = same-world s log db clog frames

-- calls of the code, one after the other, each given the store and the buffers that the one before left
pub data Ran (P : ℕ) : Outcome → List Call → Outcome → Type 0 where
  none : {o : Outcome} → Ran P o [] o
  more : {o u : Outcome} {cs : List Call} (c : Call) (b : Store) →
      Ran P (called_on P c b o.store o.log o.db o.clog o.frames) cs u → Ran P o (c ∷ cs) u

pub ran-is-run : {P : ℕ} {o u : Outcome} {cs : List Call} → Ran P o cs u → world_in u ≡ run P cs (world_in o)
unfolding run
ran-is-run none = refl
ran-is-run {P} {o} (more {cs = cs} c b r) =
    ran-is-run r ∙ ap (run P cs) (called-is-call P c b o.store o.log o.db o.clog o.frames)
