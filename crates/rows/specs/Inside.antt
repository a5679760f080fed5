-- What the contracts of private functions cite, and the test of 14 as the code makes it; a reader of the public ones need not know it. Assumes nothing.
use Rattle.std.specs.Prelude.{ℕ, List, [], ◌∷◌, Bool, false, not, ◌||◌}
use Rattle.sorted.specs.Inside.{place_by}
use Rattle.sorted.specs.Sorted.{below_by}
use Rattle.rows.specs.Rows.{row_id, odd_row}

abbrev pub place_of : ℕ → List (List ℕ) → ℕ
place_of k l = place_by row_id k l

-- a row is no entry's, or its id is not below the next one's
unfoldable pub bad_rows : List (List ℕ) → Bool
bad_rows [] = false
bad_rows (r ∷ l) = (odd_row r || not (below_by row_id (row_id r) l)) || bad_rows l
