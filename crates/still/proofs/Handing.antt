-- Laws of touched pages that are handed out: the end of the loop, and that every one of them is a page's number. Assumes nothing.
use Prim.Native.Nat.{ℕ, zero, suc, ◌≤◌, ◌<◌}
use native.Mathlib.Omega.{arith}
use native.Mathlib.Nat.{zero-add, not-suc-le-zero, le_of_suc-le-suc}
use mathlib.Core.Path.{◌≡◌, ap, ◌∙◌}
use mathlib.Core.List.{List, [], ◌∷◌, ◌++◌}
use mathlib.Core.Bool.{false}
use lib.ListN.{length, drop, get_or, drop_of_length-le}
use lib.Seq.{sets, sets-eq}
use borrow.Author.Tests.{leb-false}
use Rattle.fields.proofs.Tests.{neither}
use Rattle.sorted.specs.Sorted.{laid_on}
use Rattle.frames.specs.Pages.{bad_page, any_bad}

pub good-at : (l : List ℕ) (i : ℕ) → any_bad l ≡ false → i < length l → get_or l i 0 < 4294967295
unfolding any_bad
good-at [] i h p = absurd (not-suc-le-zero p)
good-at (x ∷ l) zero h p = leb-false 4294967295 x (neither (bad_page x) (any_bad l) h).0
good-at (x ∷ l) (suc i) h p = good-at l i (neither (bad_page x) (any_bad l) h).1 (le_of_suc-le-suc p)

module _ (pages : List ℕ) (out : List ℕ) where
  pub hand_end : (i : ℕ) → length pages ≤ i → sets out i (drop i pages) ≡ out
  hand_end i p = rw (drop_of_length-le pages {i = i} p)

  pub hand-laid : length pages ≤ length out → sets out 0 pages ≡ laid_on out pages
  hand-laid p = sets-eq pages out 0 (omega arith) ∙ ap (λ (k : ℕ). pages ++ drop k out) (zero-add (length pages))
