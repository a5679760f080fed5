-- Laws of pages picked from lent arrays: a number that no resident page has, and a turn of the pick. Assumes nothing.
use Prim.Native.Nat.{ℕ, zero, suc, ◌<◌}
use native.Mathlib.Omega.{arith}
use mathlib.Core.Path.{◌≡◌, refl}
use mathlib.Core.List.{List, [], ◌∷◌}
use mathlib.Core.Bool.{Bool, true, false}
use lib.ListN.{length, take, get_or}
use lib.Dec.{eqb}
use borrow.Author.Tests.{ne_eqb}
use Rattle.frames.specs.Pages.{is_in, found_in}
use Rattle.picks.specs.declared.Picked.{Picked}
use Rattle.picks.specs.Inside.{seat_if, grown}

pub far-in : (x : ℕ) (l : List ℕ) (n : ℕ) → ((i : ℕ) → i < length l → get_or l i 0 < x) → is_in x (take n l) ≡ false
unfolding is_in
far-in x l zero h = refl
far-in x [] (suc n) h = refl
far-in x (y ∷ l) (suc n) h =
    let e : eqb y x ≡ false = ne_eqb y x (λ q. omega (arith, h 0 (omega arith))) in
    rw e (far-in x l n (λ i p. h (suc i) (omega arith)))

-- no page more
pub far-out : (b : Bool) (x : ℕ) (l : List ℕ) (p : Picked) → is_in x l ≡ false → p ≡ grown p (seat_if b x (found_in x l).values)
unfolding found_in
far-out true x l p h = rw h
far-out false x l p h = refl
