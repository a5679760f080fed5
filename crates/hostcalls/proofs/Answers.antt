-- What a host gets of an opening says which answer it is: what is told, and what it leaves. Assumes nothing.
use mathlib.Core.Path.{◌≡◌, ap}
use Prim.Native.Nat.{ℕ}
use Rattle.words.specs.Words.{Standing}
use Rattle.hostcalls.specs.Hosted.{Opened, opened}

pub opened-same : (n m : ℕ) (s t : Standing) → opened n s ≡ opened m t → (n ≡ m) × (s ≡ t)
opened-same n m s t e = (ap (λ (x : Opened). x.told) e, ap (λ (x : Opened). x.left) e)
