-- Status pages, as PostgreSQL keeps them in its folder pg_xact (document 02, Q-9): pages of Q = 8,192 bytes, two bits for each id.
--   four ids to a byte, lowest id in the lowest bits; ids keep their number       as in the clog's body: id t at byte t div 4, bits 2 × (t mod 4)
--   0 in progress, 1 committed, 2 aborted, 3 sub-committed                        the clog's: 0 absent, 1 Active, 2 Committed, 3 Aborted
--   ids below the mark are written as committed, absent ones at or above it as 0  written_as
--   the last page is filled with 0; an empty body writes no page                  whole_pages, status_pages
--   reading gives a body of the input's length, 1 as Committed, 2 as Aborted, 0 absent          read_as, body_from
-- A body is the bytes of a clog after its magic. Assumes nothing.
use Rattle.std.specs.Prelude.{ℕ, ◌+◌, ◌-◌, ◌*◌, ◌/◌, List, [], ◌∷◌, ◌++◌, cond, length, replicate, ltb, eqb}
use Rattle.clog.specs.Slots.{bits_of}

-- ---- one slot

-- what is written of the id t whose slot is c
unfoldable pub written_as : ℕ → ℕ → ℕ → ℕ
written_as mark t c = cond (ltb t mark) 1 (cond (eqb c 2) 1 (cond (eqb c 3) 2 0))

-- the slot of an id that is read as c
unfoldable pub read_as : ℕ → ℕ
read_as c = cond (eqb c 1) 2 (cond (eqb c 2) 3 0)

-- ---- bytes

-- the byte of four slots, the lowest first
abbrev pub byte_of : ℕ → ℕ → ℕ → ℕ → ℕ
byte_of c0 c1 c2 c3 = c0 + 4 * c1 + 16 * c2 + 64 * c3

-- a byte with each slot made anew by f, of its id and of what it was; the first slot is that of the id t
abbrev pub byte_made : (ℕ → ℕ → ℕ) → ℕ → ℕ → ℕ
byte_made f t b = byte_of (f t (bits_of 0 b)) (f (t + 1) (bits_of 1 b)) (f (t + 2) (bits_of 2 b)) (f (t + 3) (bits_of 3 b))

-- the same of bytes, one after the other
unfoldable pub remade : (ℕ → ℕ → ℕ) → ℕ → List ℕ → List ℕ
remade f t [] = []
remade f t (b ∷ bs) = byte_made f t b ∷ remade f (t + 4) bs

-- ---- pages

-- n bytes, filled to whole pages, are so many
unfoldable pub whole_pages : ℕ → ℕ → ℕ
whole_pages Q n = (n + (Q - 1)) / Q * Q

-- a body written out
unfoldable pub status_pages : ℕ → ℕ → List ℕ → List ℕ
status_pages Q mark body = remade (written_as mark) 0 body ++ replicate (whole_pages Q (length body) - length body) 0

-- a body read back
unfoldable pub body_from : List ℕ → List ℕ
body_from pages = remade (λ t c. read_as c) 0 pages
