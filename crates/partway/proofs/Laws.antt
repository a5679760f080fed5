-- Laws of cuts, over the page size P: position 0 is before the store, a position past its last point is the whole store; a call cut at a position lies between
-- two cuts of document 01; and what holds of files at every cut of a list of stores, from what holds at every cut of each. Assumes nothing.
use mathlib.Core.Path.{◌≡◌, refl, ap, ◌∙◌, subst}
use mathlib.Core.List.{List, [], ◌∷◌, ◌++◌}
use Prim.Native.Nat.{ℕ, zero, suc, ◌+◌, ◌-◌, ◌≤◌, ◌<◌}
use native.Mathlib.Omega.{arith}
use lib.ListN.{length, take}
use borrow.Author.Tests.{lt-ltb, le-ltb}
use Rattle.fields.proofs.Tests.{Order, less, most, order}
use Rattle.world.specs.World.{Files, World}
use Rattle.world.specs.Steps.{Step, apply, apply_all}
use Rattle.world.specs.Calls.{Call, steps}
use Rattle.world.specs.Refusals.{refuses}
use Rattle.world.specs.Run.{done, decided, call, call_to}
use Rattle.partway.specs.Partway.{points, stopped, apply_to, cut_all, cut_at}

-- ---- one store

module _ (P : ℕ) (s : Step) (f : Files) where
  pub to_none : apply_to P 0 s f ≡ f
  unfolding apply_to
  to_none = refl

  pub to-point : (n : ℕ) → n < points P s f → apply_to P (suc n) s f ≡ stopped P (suc n) s f
  unfolding apply_to
  to-point n h = rw (lt-ltb n (points P s f) h)

  pub to_whole : (pos : ℕ) → points P s f < pos → apply_to P pos s f ≡ apply P s f
  unfolding apply_to
  to_whole zero h = absurd (omega arith)
  to_whole (suc n) h = rw (le-ltb n (points P s f) (omega arith))

-- before it, at one of its points, or whole
pub data Position (P pos : ℕ) (s : Step) (f : Files) : Type 0 where
  before : pos ≡ 0 → apply_to P pos s f ≡ f → Position P pos s f
  inside : (n : ℕ) → n < points P s f → apply_to P pos s f ≡ stopped P (suc n) s f → Position P pos s f
  past : apply_to P pos s f ≡ apply P s f → Position P pos s f

pub position : (P pos : ℕ) (s : Step) (f : Files) → Position P pos s f
position P zero s f = before refl (to_none P s f)
position P (suc n) s f = go (order n (points P s f))
  where
    go : Order n (points P s f) → Position P (suc n) s f
    go (less h) = inside n h (to-point P s f n h)
    go (most h) = past (to_whole P s f (suc n) (omega arith))

-- ---- stores one after another

module _ (P pos : ℕ) where
  pub all-empty : (k : ℕ) (f : Files) → cut_all P k pos [] f ≡ f
  unfolding cut_all
  all-empty zero f = refl
  all-empty (suc k) f = refl

  -- a number past the count is all of them
  pub all_whole : (k : ℕ) (ss : List Step) (f : Files) → length ss < k → cut_all P k pos ss f ≡ apply_all P ss f
  unfolding cut_all apply_all
  all_whole zero ss f h = absurd (omega arith)
  all_whole (suc k) [] f h = refl
  all_whole (suc zero) (s ∷ ss) f h = absurd (omega arith)
  all_whole (suc (suc k)) (s ∷ ss) f h = all_whole (suc k) ss (apply P s f) (omega arith)

  -- a list in two parts is cut in the first or in the second
  pub all-front : (ss ts : List Step) (k : ℕ) (f : Files) → k ≤ length ss → cut_all P k pos (ss ++ ts) f ≡ cut_all P k pos ss f
  unfolding cut_all
  all-front ss ts zero f h = refl
  all-front [] ts (suc k) f h = absurd (omega arith)
  all-front (s ∷ ss) ts (suc zero) f h = refl
  all-front (s ∷ ss) ts (suc (suc k)) f h = all-front ss ts (suc k) (apply P s f) (omega arith)

  pub all_back : (ss ts : List Step) (k : ℕ) (f : Files) → cut_all P (length ss + suc k) pos (ss ++ ts) f ≡ cut_all P (suc k) pos ts (apply_all P ss f)
  unfolding cut_all apply_all
  all_back [] ts k f = let e : 0 + suc k ≡ suc k = omega arith in rw e
  all_back (s ∷ ss) ts k f =
      let e : suc (length ss) + suc k ≡ suc (suc (length ss + k)) = omega arith in
      let g : suc (length ss + k) ≡ length ss + suc k = omega arith in
      ap (λ (n : ℕ). cut_all P n pos (s ∷ (ss ++ ts)) f) e ∙ ap (λ (n : ℕ). cut_all P n pos (ss ++ ts) (apply P s f)) g ∙ all_back ss ts k (apply P s f)

-- position 0 of a store is before it
pub all-before : (P k : ℕ) (ss : List Step) (f : Files) → cut_all P (suc k) 0 ss f ≡ apply_all P (take k ss) f
unfolding cut_all apply_all apply_to
all-before P zero [] f = refl
all-before P (suc k) [] f = refl
all-before P zero (s ∷ ss) f = refl
all-before P (suc k) (s ∷ ss) f = all-before P k ss (apply P s f)

-- what holds of the files at every cut
module _ (P : ℕ) (G : Files → Type 0) where
  pub cut-nil : (f : Files) → G f → (k pos : ℕ) → G (cut_all P k pos [] f)
  cut-nil f h k pos = rw (all-empty P pos k f) h

  pub cut-cons : (s : Step) (ss : List Step) (f : Files) → ((pos : ℕ) → G (apply_to P pos s f)) → ((k pos : ℕ) → G (cut_all P k pos ss (apply P s f))) →
      (k pos : ℕ) → G (cut_all P k pos (s ∷ ss) f)
  unfolding cut_all
  cut-cons s ss f a b zero pos = subst G (to_none P s f) (a 0)
  cut-cons s ss f a b (suc zero) pos = a pos
  cut-cons s ss f a b (suc (suc k)) pos = b (suc k) pos

  -- the whole store is one of its positions
  pub cut-whole : (s : Step) (f : Files) → ((pos : ℕ) → G (apply_to P pos s f)) → G (apply P s f)
  cut-whole s f a = subst G (to_whole P s f (suc (points P s f)) (omega arith)) (a (suc (points P s f)))

  pub cut-last : (s : Step) (f : Files) → ((pos : ℕ) → G (apply_to P pos s f)) → (k pos : ℕ) → G (cut_all P k pos (s ∷ []) f)
  cut-last s f a = cut-cons s [] f a (cut-nil (apply P s f) (cut-whole s f a))

  pub cut-join : (ss ts : List Step) (f : Files) → ((k pos : ℕ) → G (cut_all P k pos ss f)) → ((k pos : ℕ) → G (cut_all P k pos ts (apply_all P ss f))) →
      (k pos : ℕ) → G (cut_all P k pos (ss ++ ts) f)
  cut-join ss ts f a b k pos = go (order (length ss) k)
    where
      go : Order (length ss) k → G (cut_all P k pos (ss ++ ts) f)
      go (less h) =
          let e : k ≡ length ss + suc (k - length ss - 1) = omega arith in
          rw (e, all_back P pos ss ts (k - length ss - 1) f) (b (suc (k - length ss - 1)) pos)
      go (most h) = rw (all-front P pos ss ts k f h) (a k pos)

-- ---- calls

module _ (P : ℕ) (c : Call) (w : World) where
  pub at-refused : (n k pos : ℕ) → refuses P c w ≡ suc n → cut_at P k pos c w ≡ w.files
  unfolding cut_at
  at-refused n k pos e = rw e

  pub at-accepted : (k pos : ℕ) → refuses P c w ≡ 0 → cut_at P k pos c w ≡ cut_all P k pos (steps P c w) w.files
  unfolding cut_at
  at-accepted k pos e = rw e

  pub at_zero : (pos : ℕ) → cut_at P 0 pos c w ≡ w.files
  unfolding cut_at cut_all
  at_zero pos = go (refuses P c w)
    where
      go : (n : ℕ) → decided n w.files w.files ≡ w.files
      go zero = refl
      go (suc n) = refl

  -- position 0 of store k + 1 is document 01's cut at k
  pub at_before : (k : ℕ) → cut_at P (suc k) 0 c w ≡ call_to P k c w
  unfolding cut_at call_to
  at_before k = rw (all-before P k (steps P c w) w.files)

  -- with no store, or a number past the count, nothing is cut
  pub at_all : (k pos : ℕ) → length (steps P c w) < k → cut_at P k pos c w ≡ (call P c w).files
  unfolding cut_at call done
  at_all k pos h = go (refuses P c w)
    where
      go : (n : ℕ) → decided n (cut_all P k pos (steps P c w) w.files) w.files ≡ (decided n (done P c w) w).files
      go zero = all_whole P pos k (steps P c w) w.files h
      go (suc n) = refl
