-- What is told of a plan's stores, by the lengths of the files alone: buffers and frames have no part in it. P is the page size. Assumes nothing.
use Rattle.std.specs.Prelude.{ℕ, zero, suc, List, [], ◌∷◌, cond, drop, ltb, Option, Some, None}
use Rattle.world.specs.declared.Lens.{Lens}
use Rattle.world.specs.World.{files_of}
use Rattle.world.specs.Steps as world
use Rattle.world.specs.Steps.{tell_all}
use Rattle.stores.specs.declared.Plan.{Plan}
use Rattle.stores.specs.declared.Telling.{Telling}
use Rattle.stores.specs.declared.StoreKind.{StoreKind}
use Rattle.stores.specs.declared.StoreKind.TheVariants.{Append, Page, Clog, Truncation}
use Rattle.stores.specs.Plans.{meant}

-- the number of a kind
abbrev pub kind_number : StoreKind → ℕ
kind_number Append = 1
kind_number Page = 2
kind_number Clog = 3
kind_number Truncation = 4

-- kind, offset and length, or nothing
abbrev pub telling_told : Option Telling → List ℕ
telling_told (Some t) = kind_number t.kind ∷ t.offset ∷ t.size ∷ []
telling_told None = []

unfoldable pub first_told : List world.Telling → List ℕ
first_told [] = []
first_told (t ∷ ts) = t.kind ∷ t.offset ∷ t.size ∷ []

-- store k of some, from 1 on; nothing for 0 and past the last
unfoldable pub told_at : ℕ → List world.Telling → List ℕ
told_at zero ts = []
told_at (suc k) ts = first_told (drop k ts)

-- store k of a plan on files of these lengths; nothing where the log is longer than any buffer may be
unfoldable pub told_in : ℕ → Plan → ℕ → Lens → List ℕ
told_in P p k n = cond (ltb 16777216 n.log) [] (told_at k (tell_all P (meant P [] p) (files_of n [] [] [])))
