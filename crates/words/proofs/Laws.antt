-- Laws of a head in words: written and read it is the same, and any twelve words are the words of the head that they are read as. Assumes nothing.
use Prim.Native.Nat.{ℕ}
use native.Mathlib.Omega.{arith}
use mathlib.Core.Path.{◌≡◌, refl, ap, ◌∙◌}
use mathlib.Core.List.{List, [], ◌∷◌}
use lib.ListN.{length}
use Rattle.lent.specs.declared.Head.{Head}
use Rattle.std.specs.Prelude.{Result}
use Rattle.fields.specs.declared.refusal.Refusal.{Refusal}
use Rattle.lent.specs.Lent.{Left, leaving, lent, replied}
use Rattle.words.specs.Words.{head_in, words_of, standing, standing_of}

pub head-back : (h : Head) → head_in (words_of h) ≡ h
unfolding head_in words_of
head-back h = refl

pub words_back : (ws : List ℕ) → length ws ≡ 12 → words_of (head_in ws) ≡ ws
unfolding head_in words_of
words_back [] e = absurd (omega arith)
words_back (a ∷ []) e = absurd (omega arith)
words_back (a ∷ b ∷ []) e = absurd (omega arith)
words_back (a ∷ b ∷ c ∷ []) e = absurd (omega arith)
words_back (a ∷ b ∷ c ∷ d ∷ []) e = absurd (omega arith)
words_back (a ∷ b ∷ c ∷ d ∷ f ∷ []) e = absurd (omega arith)
words_back (a ∷ b ∷ c ∷ d ∷ f ∷ g ∷ []) e = absurd (omega arith)
words_back (a ∷ b ∷ c ∷ d ∷ f ∷ g ∷ h ∷ []) e = absurd (omega arith)
words_back (a ∷ b ∷ c ∷ d ∷ f ∷ g ∷ h ∷ i ∷ []) e = absurd (omega arith)
words_back (a ∷ b ∷ c ∷ d ∷ f ∷ g ∷ h ∷ i ∷ j ∷ []) e = absurd (omega arith)
words_back (a ∷ b ∷ c ∷ d ∷ f ∷ g ∷ h ∷ i ∷ j ∷ k ∷ []) e = absurd (omega arith)
words_back (a ∷ b ∷ c ∷ d ∷ f ∷ g ∷ h ∷ i ∷ j ∷ k ∷ l ∷ []) e = absurd (omega arith)
words_back (a ∷ b ∷ c ∷ d ∷ f ∷ g ∷ h ∷ i ∷ j ∷ k ∷ l ∷ m ∷ []) e = refl
words_back (a ∷ b ∷ c ∷ d ∷ f ∷ g ∷ h ∷ i ∷ j ∷ k ∷ l ∷ m ∷ n ∷ ws) e = absurd (omega arith)

-- what a call leaves, its head read from words and written as words: f is what the call leaves for a head
pub stood : (f : Head → Left) (h₀ h : Head) (ws₀ ws : List ℕ) (n : ℕ) (rows : List (List ℕ)) (resident touched log db clog frames : List ℕ) →
    h₀ ≡ head_in ws₀ → ws ≡ words_of h → leaving n (lent h rows resident touched) log db clog frames ≡ f h₀ →
    standing n ws rows resident touched log db clog frames ≡ standing_of (f (head_in ws₀))
unfolding standing_of
stood f h₀ h ws₀ ws n rows resident touched log db clog frames e w q =
    rw w (ap standing_of (q ∙ ap f e))

-- the same where a result is answered
pub answered : (f : Head → Left) (h₀ : Head) (r : Result Head Refusal) (ws₀ ws : List ℕ) (n : ℕ) (rows : List (List ℕ)) (resident touched log db clog frames : List ℕ) →
    h₀ ≡ head_in ws₀ → n ≡ (replied (head_in ws₀) r).number → ws ≡ words_of (replied (head_in ws₀) r).head →
    leaving (replied h₀ r).number (lent (replied h₀ r).head rows resident touched) log db clog frames ≡ f h₀ →
    standing n ws rows resident touched log db clog frames ≡ standing_of (f (head_in ws₀))
unfolding standing_of
answered f h₀ r ws₀ ws n rows resident touched log db clog frames e m w q = rw (m, w, ← e) (ap standing_of q)
