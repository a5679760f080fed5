-- What the contracts of private functions cite in the crates above: what making a call ready has to give; a reader of the public ones need not know it. P is the page size. Assumes nothing.
use Rattle.std.specs.Prelude.{ℕ, List, [], cond, length}
use Rattle.frames.specs.Copies.{with_frame}
use Rattle.world.specs.declared.Lens.{Lens}
use Rattle.world.specs.World.{Files, files_of}
use Rattle.stores.specs.Plans.{meant}
use Rattle.world.specs.Calls.{Call}
use Rattle.world.specs.Run.{decided}
use Rattle.lent.specs.Lent.{Lent, store_of, unless_odd, laid_lent}
use Rattle.ready.specs.Ready.{prepared, meta_of, refill, files_to}
use Rattle.ready.specs.Inside.{ready_for}
use Rattle.acts.specs.declared.Made.{Made}
use Rattle.acts.specs.Made.{Readied, readied_as}

-- ---- the files and the frame buffer after a call's stores

pub record FilesLeft : Type 0 where
  pub files : Files
  pub frames : List ℕ

abbrev pub files_left : Lens → List ℕ → List ℕ → List ℕ → List ℕ → FilesLeft
files_left n log db clog frames = record { files = files_of n log db clog; frames = frames }

unfoldable pub files_made : ℕ → Made → List ℕ → List ℕ → List ℕ → List ℕ → FilesLeft
files_made P m log db clog frames =
    let ss = meant P frames m.plan in
    let f = files_to P (length ss) ss m.head.lens log db clog in
    let b = refill P f.db m.back frames in
    record { files = f; frames = cond m.meta (with_frame P b m.slot (meta_of P m.plan.meta)) b }

-- ---- a call made ready

-- a call on a store that stands where it is lent
unfoldable pub ready_lent : ℕ → Call → Lent → List ℕ → List ℕ → List ℕ → List ℕ → Readied
ready_lent P c s log db clog frames =
    let p = unless_odd P s log db clog frames (λ n. prepared n [] (store_of s) frames) (ready_for P c (store_of s) log db clog frames) in
    readied_as p (decided p.number (laid_lent s p.store) s)
