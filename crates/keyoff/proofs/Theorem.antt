-- Key-off, key-on: the next opening finds what the store held. The invariant holds after the opening (Start), every call keeps it (Calls), and files that meet
-- it are opened so (Reopen). P is the page size. Assumes nothing.
use Prim.Native.Nat.{ℕ, ◌≤◌}
use mathlib.Core.List.{List, []}
use lib.Dec.{lit≤}
use Rattle.world.specs.World.{Files}
use Rattle.world.specs.Run.{run}
use Rattle.opening.specs.Opening.{opening}
use Rattle.keyoff.specs.KeyOff.{OpenedWithMeta, BytesIn, Reopens, KeyOff}
use Rattle.keyoff.proofs.Start.{opened-keeps}
use Rattle.keyoff.proofs.Calls.{run-keeps}
use Rattle.keyoff.proofs.Reopen.{reopens}

pub key-off : (P : ℕ) → 36 ≤ P → KeyOff P
key-off P big f frames cs bytes typed opened quiet =
    let w = (opening P f frames).world in
    reopens P big (run P cs w) (run-keeps P big cs w (opened-keeps P f frames bytes opened) quiet typed)

-- with no call between: opening twice
pub opened-twice : (P : ℕ) → 36 ≤ P → (f : Files) (frames : List ℕ) → BytesIn f → OpenedWithMeta P f (opening P f frames) → Reopens P (opening P f frames).world
unfolding run
opened-twice P big f frames bytes opened = key-off P big f frames [] bytes tt opened tt

-- at document 01's page size
pub key-off-4096 : KeyOff 4096
key-off-4096 = key-off 4096 (lit≤ tt)
