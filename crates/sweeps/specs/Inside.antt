-- What the contracts of private functions cite: zero bytes, and the entries of one byte. Assumes nothing.
use Rattle.std.specs.Prelude.{ℕ, suc, ◌+◌, List, [], ◌∷◌, ◌++◌, Bool, cond, ◌&&◌, length, drop, leb, eqb}
use Rattle.fields.specs.Bytes.{field}
use Rattle.table.specs.declared.Entry.{Entry}
use Rattle.clog.specs.Slots.{bits_of, entry_of}

-- eight bytes stand from i on, and all are 0
unfoldable pub free : List ℕ → ℕ → Bool
free s i = leb (i + 8) (length s) && eqb (field 8 i s) 0

-- how many zeros a list begins with
unfoldable pub zeros : List ℕ → ℕ
zeros [] = 0
zeros (b ∷ bs) = cond (eqb b 0) (suc (zeros bs)) 0

-- the first place from `at` on whose byte is not 0, or the length
unfoldable pub busy_from : List ℕ → ℕ → ℕ
busy_from s at = at + zeros (drop at s)

-- the entries of a byte, the first slot of which is that of the id t
unfoldable pub in_byte : ℕ → ℕ → List Entry
in_byte t b = entry_of t (bits_of 0 b) ++ (entry_of (t + 1) (bits_of 1 b) ++ (entry_of (t + 2) (bits_of 2 b) ++ entry_of (t + 3) (bits_of 3 b)))

-- where to go on after the byte i: nowhere once an entry was refused
unfoldable pub next_from : List ℕ → ℕ → ℕ → ℕ
next_from s i number = cond (eqb number 0) (busy_from s (i + 1)) (length s)
