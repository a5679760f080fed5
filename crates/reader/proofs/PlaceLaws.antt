-- The answer of a reading says where to read next. Assumes nothing.
use mathlib.Core.Path.{◌≡◌, refl, sym, ap, ◌∙◌}
use Prim.Native.Nat.{ℕ, ◌-◌}
use mathlib.Core.Bool.{Bool, true, false, cond}
use mathlib.Core.List.{[]}
use lib.ListN.{length, get_or, drop}
use lib.Dec.{eqb}
use Rattle.fields.specs.Files.{File, content}
use Rattle.fields.specs.Answers.{Told}
use Rattle.wal.specs.Records.{image, begin, commit, abort, checkpoint, Front, ended, torn, unknown, one, decode}
use Rattle.wal.specs.Reading.{read_told, read_in, said_at, outside}
use Rattle.wal.specs.declared.WalRecord.TheVariants.{Image, Begin, Commit, Abort, Checkpoint}
use Rattle.wal.specs.declared.Read.{Read}
use Rattle.wal.specs.declared.Read.TheVariants.{Found, End, Torn, Unknown, Outside}
use Rattle.reader.specs.Places.{after_of, after_in}

-- the place that an answer shows as the next one
abbrev pub next_of : ℕ → Read → ℕ
next_of at (Found r next) = next
next_of at End = at
next_of at (Torn missing) = at
next_of at Unknown = at
next_of at Outside = at

-- the same from what the answer tells: the last value, where the number is 0
next_told : ℕ → Told → ℕ
next_told at t = cond (eqb t.number 0) (get_or t.values (length t.values - 1) at) at

of-answer : (at : ℕ) (r : Read) → next_of at r ≡ next_told at (read_told r)
unfolding next_told
of-answer at (Found (Image page place) next) = refl
of-answer at (Found (Begin id) next) = refl
of-answer at (Found (Commit id time) next) = refl
of-answer at (Found (Abort id) next) = refl
of-answer at (Found Checkpoint next) = refl
of-answer at End = refl
of-answer at (Torn missing) = refl
of-answer at Unknown = refl
of-answer at Outside = refl

of-front : (at : ℕ) (b : Bool) (x : Front) → next_told at (cond b (record { number = 1; values = [] }) (said_at at x)) ≡ cond b at (after_of at x)
unfolding next_told
of-front at true x = refl
of-front at false ended = refl
of-front at false (torn missing) = refl
of-front at false unknown = refl
of-front at false (one (image page bytes) n) = refl
of-front at false (one (begin id) n) = refl
of-front at false (one (commit id time) n) = refl
of-front at false (one (abort id) n) = refl
of-front at false (one checkpoint n) = refl

-- of an answer that is known to be s
pub next-after : (P : ℕ) (f : File) (at : ℕ) (r s : Read) → r ≡ s → read_told r ≡ read_in P f at → next_of at s ≡ after_in P f at
unfolding read_in after_in
next-after P f at r s g e = ap (next_of at) (sym g) ∙ of-answer at r ∙ ap (next_told at) e ∙ of-front at (outside f at) (decode P (drop at (content f)))
