-- Laws of picked pages: a turn of each loop, and what a pick is. Assumes nothing.
use mathlib.Core.Path.{◌≡◌, refl, sym, ap, ◌∙◌}
use mathlib.Core.List.{List, [], ◌∷◌, ◌++◌, append-nil, append_assoc, map}
use mathlib.Core.Bool.{Bool, true, false, cond, ◌||◌}
use lib.Dec.{eqb}
use Prim.Native.Nat.{ℕ, suc, ◌+◌, ◌-◌, ◌≤◌, ◌<◌}
use native.Mathlib.Numerals.{add-one}
use native.Mathlib.Omega.{arith}
use lib.ListN.{length, take, get_or, set, replicate, length-append, length-map, length-take}
use lib.Seq.{take-suc, set_at}
use Rattle.fields.specs.Answers.{Told}
use Rattle.std.specs.List.{list_any}
use Rattle.frames.specs.Pages.{is_in, bad_page, any_bad, slot_of, found_in, place_told}
use Rattle.std.specs.Prelude.{Option, Some, None}
use Rattle.world.specs.Calls.{keep}
use Rattle.picks.specs.declared.Which.{Which}
use Rattle.picks.specs.declared.Picked.{Picked}
use Rattle.picks.specs.Picks.{wants, chosen, Seat, seat, seats_of, picked_of}
use Rattle.picks.specs.Inside.{seat_if, grown}

-- ---- tests of a list, as std words them

pub in_any : (p : ℕ) (ps : List ℕ) → is_in p ps ≡ list_any (λ q. eqb q p) ps
unfolding is_in
in_any p [] = refl
in_any p (q ∷ qs) = ap (λ (b : Bool). eqb q p || b) (in_any p qs)

pub bad-any : (ps : List ℕ) → any_bad ps ≡ list_any bad_page ps
unfolding any_bad
bad-any [] = refl
bad-any (p ∷ ps) = ap (λ (b : Bool). bad_page p || b) (bad-any ps)

-- ---- one more, stored at the count

map-append : {A B : Type 0} (f : A → B) (xs ys : List A) → map f (xs ++ ys) ≡ map f xs ++ map f ys
map-append f [] ys = refl
map-append {A} {B} f (x ∷ xs) ys = ap (λ (l : List B). f x ∷ l) (map-append f xs ys)

push : (f : Seat → ℕ) (N : ℕ) (l : List Seat) (x : Seat) → length l < N
    → set (map f l ++ replicate (N - length l) 0) (length l) (f x) ≡ map f (l ++ (x ∷ [])) ++ replicate (N - length (l ++ (x ∷ []))) 0
push f N l x h =
    let k : N - length l ≡ suc (N - (length l + 1)) = omega arith in
    let e : length (l ++ (x ∷ [])) ≡ length l + 1 = rw length-append in
    rw (e, k, map-append f l (x ∷ []), append_assoc) (set_at (map f l) 0 (replicate (N - (length l + 1)) 0) (f x) (length l) (length-map l f))

pub picked_more : (N : ℕ) (l : List Seat) (x : Seat) → length l < N → grown (picked_of N l) (x ∷ []) ≡ picked_of N (l ++ (x ∷ []))
unfolding picked_of
picked_more N l x h =
    let e : length (l ++ (x ∷ [])) ≡ length l + 1 = rw length-append in
    λ i. record { pages = push (λ s. s.page) N l x h i; slots = push (λ s. s.slot) N l x h i; n = sym e i }

-- one seat more or none
pub grown-one : (N : ℕ) (l : List Seat) (ok : Bool) (p : ℕ) (vs : List ℕ) → length l < N → grown (picked_of N l) (seat_if ok p vs) ≡ picked_of N (l ++ seat_if ok p vs)
grown-one N l false p vs h = rw append-nil
grown-one N l true p [] h = rw append-nil
grown-one N l true p (k ∷ vs) h = picked_more N l (seat p k) h

-- as many at most as touched pages are dealt with
keep-size : (t : ℕ → Bool) (xs : List ℕ) → length (keep t xs) ≤ length xs
unfolding keep
keep-size t [] = omega arith
keep-size t (x ∷ xs) = go (t x) (keep-size t xs)
  where
    go : (b : Bool) → length (keep t xs) ≤ length xs → length (cond b (x ∷ []) [] ++ keep t xs) ≤ suc (length xs)
    go true h = omega arith
    go false h = omega arith

pub chosen-size : (which : Which) (list os xs : List ℕ) → length (seats_of os (chosen which list os xs)) ≤ length xs
unfolding chosen
chosen-size which list os xs =
    let a : length (keep (wants which list) (keep (λ p. is_in p os) xs)) ≤ length (keep (λ p. is_in p os) xs) = keep-size (wants which list) (keep (λ p. is_in p os) xs) in
    let b : length (keep (λ p. is_in p os) xs) ≤ length xs = keep-size (λ p. is_in p os) xs in
    rw length-map (omega arith)

-- ---- a turn of the pick

keep_append : (t : ℕ → Bool) (xs ys : List ℕ) → keep t (xs ++ ys) ≡ keep t xs ++ keep t ys
unfolding keep
keep_append t [] ys = refl
keep_append t (x ∷ xs) ys = rw (keep_append t xs ys, append_assoc)

seats-append : (os xs ys : List ℕ) → seats_of os (xs ++ ys) ≡ seats_of os xs ++ seats_of os ys
seats-append os [] ys = refl
seats-append os (x ∷ xs) ys = ap (λ (l : List Seat). seat x (slot_of x os) ∷ l) (seats-append os xs ys)

-- one touched page
pub one-seat : (which : Which) (list os : List ℕ) (p : ℕ) → seats_of os (chosen which list os (p ∷ [])) ≡ seat_if (wants which list p) p (found_in p os).values
unfolding chosen keep found_in
one-seat which list os p = go (is_in p os) (wants which list p) refl
  where
    go : (x y : Bool) → wants which list p ≡ y → seats_of os (keep (wants which list) (cond x (p ∷ []) [] ++ [])) ≡ seat_if (wants which list p) p (cond x (slot_of p os ∷ []) [])
    go true true e = unfold keep in rw e
    go true false e = unfold keep in rw e
    go false true e = unfold keep in rw e
    go false false e = unfold keep in rw e

chosen-append : (which : Which) (list os xs ys : List ℕ) → chosen which list os (xs ++ ys) ≡ chosen which list os xs ++ chosen which list os ys
unfolding chosen
chosen-append which list os xs ys =
    ap (keep (wants which list)) (keep_append (λ p. is_in p os) xs ys) ∙ keep_append (wants which list) (keep (λ p. is_in p os) xs) (keep (λ p. is_in p os) ys)

pub picked_next : (which : Which) (list os ts : List ℕ) (i : ℕ) → i < length ts
    → seats_of os (chosen which list os (take i ts)) ++ seat_if (wants which list (get_or ts i 0)) (get_or ts i 0) (found_in (get_or ts i 0) os).values ≡ seats_of os (chosen which list os (take (i + 1) ts))
picked_next which list os ts i h =
    let p = get_or ts i 0 in
    let a = take i ts in
    let e : take (i + 1) ts ≡ take i ts ++ (get_or ts i 0 ∷ []) = rw add-one (take-suc ts i 0 h) in
    sym (ap (λ (l : List ℕ). seats_of os (chosen which list os l)) e
    ∙ ap (seats_of os) (chosen-append which list os a (p ∷ []))
    ∙ seats-append os (chosen which list os a) (chosen which list os (p ∷ []))
    ∙ ap (λ (l : List Seat). seats_of os (chosen which list os a) ++ l) (one-seat which list os p))

pub picked_none : (N : ℕ) (which : Which) (list os ts : List ℕ) → picked_of N [] ≡ picked_of N (seats_of os (chosen which list os (take 0 ts)))
unfolding chosen keep
picked_none N which list os ts = refl

-- ---- the ways out of a turn

pub seat-no : (ok : Bool) (p : ℕ) (vs : List ℕ) (q : Picked) → ok ≡ false → q ≡ grown q (seat_if ok p vs)
seat-no ok p vs q e = rw e

pub seat-none : (ok : Bool) (p : ℕ) (place : Option ℕ) (q : Picked) → place ≡ None → q ≡ grown q (seat_if ok p (place_told place).values)
seat-none true p place q e = rw e
seat-none false p place q e = refl

pub seat-some : (ok : Bool) (p k : ℕ) (place : Option ℕ) → ok ≡ true → place ≡ Some k → seat_if ok p (place_told place).values ≡ seat p k ∷ []
seat-some ok p k place e f = rw (e, f)

-- ---- a turn of the pick, said of what the callees gave

module _ (N : ℕ) (which : Which) (list os ts : List ℕ) (i : ℕ) (p : Picked) (e : p ≡ picked_of N (seats_of os (chosen which list os (take i ts)))) where
  size : length (seats_of os (chosen which list os (take i ts))) ≤ i
  size =
      let a : length (seats_of os (chosen which list os (take i ts))) ≤ length (take i ts) = chosen-size which list os (take i ts) in
      let b : length (take i ts) ≤ i = rw length-take (omega arith) in
      omega arith

  pub picked-small : p.n ≤ i
  unfolding picked_of
  picked-small = let n : p.n ≡ length (seats_of os (chosen which list os (take i ts))) = ap (λ (q : Picked). q.n) e in omega (arith, size)

  pub picked-turn : (r : Picked) (ok : Bool) (t : Told) → i < length ts → i < N → ok ≡ wants which list (get_or ts i 0) → t ≡ found_in (get_or ts i 0) os → r ≡ grown p (seat_if ok (get_or ts i 0) t.values)
      → r ≡ picked_of N (seats_of os (chosen which list os (take (i + 1) ts)))
  picked-turn r ok t h l w f g =
      let s = seats_of os (chosen which list os (take i ts)) in
      let k : length (seats_of os (chosen which list os (take i ts))) < N = omega (arith, size) in
      g ∙ rw (w, f, e) (grown-one N s (wants which list (get_or ts i 0)) (get_or ts i 0) (found_in (get_or ts i 0) os).values k)
      ∙ ap (picked_of N) (picked_next which list os ts i h)
