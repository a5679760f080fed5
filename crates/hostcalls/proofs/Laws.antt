-- An opening and a call, with the head that is read from words and written as words. Assumes nothing.
use Prim.Native.Nat.{ℕ}
use mathlib.Core.Path.{◌≡◌, ap}
use mathlib.Core.List.{List}
use lib.ListN.{get_or}
use Rattle.std.specs.Prelude.{Result}
use Rattle.opening.specs.declared.Unopened.{Unopened}
use Rattle.opening.specs.Opening.{verdict_told}
use Rattle.lent.specs.declared.Head.{Head}
use Rattle.keyon.specs.Keyon.{waking_of, Wake, wakes}
use Rattle.words.specs.Words.{head_in, words_of, standing, standing_of}
use Rattle.hostcalls.specs.Hosted.{opened, opened_by}

module _ (h₀ : Head) (ws₀ ws : List ℕ) (n : ℕ) (rows : List (List ℕ)) (resident touched log db clog frames : List ℕ) (e : h₀ ≡ head_in ws₀) where
  -- f is what the opening gives for a head
  pub stood-open : (f : Head → Wake) (a : Result Head Unopened) (told : ℕ) → n ≡ (verdict_told (waking_of (head_in ws₀) a).verdict).number →
      told ≡ get_or (verdict_told (waking_of (head_in ws₀) a).verdict).values 0 0 → ws ≡ words_of (waking_of (head_in ws₀) a).head →
      wakes (waking_of h₀ a) rows resident touched log db clog frames ≡ f h₀ →
      opened told (standing n ws rows resident touched log db clog frames) ≡ opened_by (f (head_in ws₀))
  unfolding opened_by standing_of
  stood-open f a told k t w q = rw (t, k, w) (ap opened_by (rw e at q))
