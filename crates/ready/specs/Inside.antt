-- What the contracts of private functions cite in the crates above: what making a call ready has to give; a reader of the public ones need not know it. P is the page size. Assumes nothing.
use Rattle.std.specs.Prelude.{ℕ, List, []}
use Rattle.world.specs.World.{World}
use Rattle.world.specs.Calls.{Call, steps, keeps}
use Rattle.world.specs.Refusals.{refuses}
use Rattle.world.specs.Run.{decided}
use Rattle.form.specs.declared.Store.{Store}
use Rattle.form.specs.Store.{world_of, laid_store}
use Rattle.ready.specs.Ready.{Prepared, prepared}

-- the store s with what a call remembers of the world w
abbrev pub remembered : ℕ → Call → Store → World → Store
remembered P c s w = laid_store s (record { files = w.files; frames = (keeps P c w).frames; mem = (keeps P c w).mem })

-- a call on a store and its buffers
unfoldable pub ready_for : ℕ → Call → Store → List ℕ → List ℕ → List ℕ → List ℕ → Prepared
ready_for P c s log db clog frames =
    let w = world_of s log db clog frames in
    let n = refuses P c w in
    prepared n (decided n (steps P c w) []) (decided n (remembered P c s w) s) (decided n (keeps P c w).frames frames)
