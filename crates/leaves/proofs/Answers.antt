-- What a host gets says which answer it is: the number, the four values, and every byte of the buffers that were lent. Assumes nothing.
use mathlib.Core.Path.{◌≡◌, ap}
use mathlib.Core.List.{List}
use Prim.Native.Nat.{ℕ}
use Rattle.fields.specs.Answers.{Outcome}
use Rattle.leaves.specs.Leaves.{left, Handed, handed}

-- a call on one file
pub left-same : (n m : ℕ) (v w xs ys : List ℕ) → left n v xs ≡ left m w ys → (n ≡ m) × (v ≡ w) × (xs ≡ ys)
left-same n m v w xs ys e =
    (ap (λ (o : Outcome). o.told.number) e, ap (λ (o : Outcome). o.told.values) e, ap (λ (o : Outcome). o.bytes) e)

-- a load, with the rows that get the entries
pub handed-same : (n m : ℕ) (v w clog clog' : List ℕ) (rows rows' : List (List ℕ)) → handed n v clog rows ≡ handed m w clog' rows'
    → (n ≡ m) × (v ≡ w) × (clog ≡ clog') × (rows ≡ rows')
handed-same n m v w clog clog' rows rows' e =
    (ap (λ (h : Handed). h.told.number) e, ap (λ (h : Handed). h.told.values) e, ap (λ (h : Handed). h.clog) e, ap (λ (h : Handed). h.rows) e)
