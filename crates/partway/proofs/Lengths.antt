-- A file that is lengthened with zeros: its sizes, and that what it holds, past the old end as zeros, stays. Assumes nothing.
use mathlib.Core.Path.{◌≡◌, ◌∙◌}
use mathlib.Core.List.{[]}
use Prim.Native.Nat.{ℕ, ◌+◌, ◌/◌, ◌≤◌, max}
use native.Mathlib.Omega.{arith}
use lib.ListN.{get_or}
use Rattle.fields.specs.Files.{File, content, room}
use Rattle.fields.proofs.Tests.{Order, less, most, order}
use Rattle.fields.proofs.FileLaws.{same-front, lay-room, lay-len, lay-past, lay-before, lay-after}
use Rattle.clog.specs.Slots.{slot_of, valid_clog}
use Rattle.clog.proofs.TableLaws.{valid_same}
use Rattle.partway.specs.Partway.{grown}

module _ (f : File) (end : ℕ) where
  pub grown-room : room (grown f end) ≡ room f
  grown-room = lay-room f end []

  pub grown-len : (grown f end).len ≡ max f.len end
  grown-len = let z : end + 0 ≡ end = omega arith in lay-len f end [] ∙ rw z

  pub grown-past : (i : ℕ) → max f.len end ≤ i → get_or (grown f end).bytes i 0 ≡ get_or f.bytes i 0
  grown-past i h = lay-past f end [] i (omega arith)

  module _ (fits : f.len ≤ room f) (has : end ≤ room f) where
    pub grown-fits : (grown f end).len ≤ room (grown f end)
    grown-fits = omega (arith, grown-room, grown-len)

    pub grown-byte : (i : ℕ) → get_or (content (grown f end)) i 0 ≡ get_or (content f) i 0
    grown-byte i = go (order i end)
      where
        go : Order i end → get_or (content (grown f end)) i 0 ≡ get_or (content f) i 0
        go (less p) = lay-before f end [] fits (omega arith) i p
        go (most p) = lay-after f end [] fits (omega arith) i (omega arith)

    -- of a clog: its header, and each slot
    pub grown-valid : 8 ≤ f.len → valid_clog (grown f end) ≡ valid_clog f
    grown-valid h = valid_same f (grown f end) (same-front 8 f (grown f end) fits grown-fits h (omega (arith, grown-len)) (λ i l. grown-byte i))

    pub grown-slot : (k : ℕ) → slot_of 8 (content (grown f end)) k ≡ slot_of 8 (content f) k
    unfolding slot_of
    grown-slot k = rw (grown-byte (8 + k / 4))
