-- What a host gets of a call that hands something out says which answer it is. Assumes nothing.
use mathlib.Core.Path.{◌≡◌, ap}
use mathlib.Core.List.{List}
use Prim.Native.Nat.{ℕ}
use Rattle.quiet.specs.Entries.{EntryCount}
use Rattle.words.specs.Words.{Standing}
use Rattle.hostpages.specs.Hosted.{Hosted, hosted, TableTold, table_told}

-- the value, and what the call leaves
pub hosted-same : {A : Type 0} (a b : A) (s t : Standing) → hosted a s ≡ hosted b t → (a ≡ b) × (s ≡ t)
hosted-same {A} a b s t e = (ap (λ (x : Hosted A). x.value) e, ap (λ (x : Hosted A). x.left) e)

-- the number, and how many entries
pub count_same : (n m k l : ℕ) → ◌≡◌ {A = EntryCount} (record { number = n; entries = k }) (record { number = m; entries = l }) → (n ≡ m) × (k ≡ l)
count_same n m k l e = (ap (λ (x : EntryCount). x.number) e, ap (λ (x : EntryCount). x.entries) e)

-- the number, how many entries, and every place of the rows that get them
pub table_same : (n m k l : ℕ) (xs ys : List (List ℕ)) → table_told n k xs ≡ table_told m l ys → (n ≡ m) × (k ≡ l) × (xs ≡ ys)
table_same n m k l xs ys e = (ap (λ (t : TableTold). t.number) e, ap (λ (t : TableTold). t.entries) e, ap (λ (t : TableTold). t.out) e)
