-- Laws of what is handed out beside what a call leaves. Assumes nothing.
use Prim.Native.Nat.{ℕ, zero, suc}
use mathlib.Core.Path.{◌≡◌, refl, sym, ap, ◌∙◌}
use Rattle.world.specs.Run.{decided}
use Rattle.lent.specs.Lent.{Left}
use Rattle.still.specs.Still.{beside, handed_out}

module _ {A : Type 0} (a b : A) (l m : Left) (is : l ≡ m) where
  pub handed-none : (l.number ≡ 0 → ⊥) → beside b l ≡ handed_out a b m
  handed-none h = ap (λ (v : A). beside v l) (sym (go l.number h)) ∙ ap (handed_out a b) is
    where
      go : (n : ℕ) → (n ≡ 0 → ⊥) → decided n a b ≡ b
      go zero h = absurd (h refl)
      go (suc n) h = refl

  pub handed-some : (v : A) → v ≡ a → l.number ≡ 0 → beside v l ≡ handed_out a b m
  handed-some v e h = ap (λ (w : A). beside w l) (e ∙ sym (go l.number h)) ∙ ap (handed_out a b) is
    where
      go : (n : ℕ) → n ≡ 0 → decided n a b ≡ a
      go n h = rw h
