-- Status pages that were written and read back (document 02, Q-9), said of the two calls' outcomes.
--   writing and reading back gives every id at or above the mark its status again       same
--   an id at or past the body's end is absent again                                     absent
--   the body's ids below the mark read back Committed                                   below
--   what was written is accepted where the output is as long                            accepted
-- The clog f is written under the mark into `out`, and `pages` is what comes to stand there, n bytes of it written; these n are read into `back₀`, and `back` is
-- what comes to stand there. A status is a slot: 0 absent, 1 Active, 2 Committed, 3 Aborted. Not said, because it is not so: that writing again what was read gives
-- the same pages. Ids between the old body's end and the mark are within the new body, and are written as committed then. Assumes nothing.
use Rattle.std.specs.Prelude.{◌≡◌, List, ℕ, ◌-◌, ◌*◌, ◌≤◌, ◌<◌, length, take, Ok}
use Rattle.fields.specs.Files.{File, content}
use Rattle.fields.specs.Answers.{outcome}
use Rattle.clog.specs.Slots.{slot_of}
use Rattle.xacts.specs.Calls.{written, read_back}

pub record RoundTrip (Q mark : ℕ) (f : File) (n : ℕ) (pages back₀ back : List ℕ) : Type 0 where
  pub accepted : read_back Q (take n pages) back₀ ≡ outcome (Ok n) back
  pub same : (t : ℕ) → mark ≤ t → slot_of 0 (take n back) t ≡ slot_of 8 (content f) t
  pub absent : (t : ℕ) → 4 * (f.len - 8) ≤ t → slot_of 0 (take n back) t ≡ 0
  pub below : (t : ℕ) → t < mark → t < 4 * (f.len - 8) → slot_of 0 (take n back) t ≡ 2

-- what is to be shown, for every clog, mark and output
unfoldable pub AllRoundTrip : ℕ → Type 0
AllRoundTrip Q =
    (mark : ℕ) (f : File) (out : List ℕ) (n : ℕ) (pages back₀ : List ℕ) → 1 ≤ Q → written Q mark f out ≡ outcome (Ok n) pages → n ≤ length back₀
    → RoundTrip Q mark f n pages back₀ (read_back Q (take n pages) back₀).bytes
