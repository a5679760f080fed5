-- A log that ends torn opens, in the mode for which that is its end, as the log cut off before the torn record does in the other mode: every byte of the world that
-- is opened is the same. P is the page size. Assumes nothing.
use mathlib.Core.Path.{◌≡◌, refl, sym, ap, ◌∙◌}
use mathlib.Core.List.{List}
use Prim.Native.Nat.{ℕ, ◌≤◌}
use native.Mathlib.Omega.{arith}
use lib.ListN.{length-take}
use lib.Seq.{take-take}
use Rattle.fields.specs.Files.{file_of, content, room, header}
use Rattle.fields.proofs.FileLaws.{unfit-same}
use Rattle.wal.specs.Records.{Ending, clean, cut, ending_no, Parsed, records_in, log_of}
use Rattle.wal.proofs.Partial.{Stops, log-before}
use Rattle.world.specs.World.{Files}
use Rattle.world.specs.Steps.{with_log}
use Rattle.world.specs.Refusals.{any_of, bad_buffers}
use Rattle.opening.specs.Opening.{records, end_of, end_no, open_no, opened_world, opening}
use Rattle.opening.proofs.Alike.{alike-room, alike-world}
use Rattle.torn.specs.Torn.{tail_no, torn_no, opening_torn, met, torn_met}

module _ (P : ℕ) (f : Files) (frames : List ℕ) (p m : ℕ) (ends : end_of P f.log ≡ cut p m) (fits : f.log.len ≤ room f.log) where
  abbrev pub before : Files
  before = with_log (file_of f.log.bytes p) f

  stops : Stops (end_of P f.log) p
  stops = rw ends refl

  pub within : p ≤ f.log.len
  within = omega (arith, (log-before P p (content f.log) stops).high, length-take f.log.len f.log.bytes)

  before-log : log_of P (content before.log) ≡ record { found = (log_of P (content f.log)).found; ending = clean }
  before-log = rw (← (take-take p f.log.len f.log.bytes within)) (log-before P p (content f.log) stops).same

  pub before-records : records P f.log ≡ records P before.log
  before-records = sym (ap (λ (x : Parsed). records_in x.found) before-log)

  before-buffers : bad_buffers P f frames ≡ bad_buffers P before frames
  unfolding bad_buffers any_of
  before-buffers = rw (unfit-same 16777216 (room f.log) f.log.len p fits (omega (arith, within)))

  pub before-no : torn_no P f frames ≡ open_no P before frames
  unfolding torn_no open_no
  before-no =
      let a : tail_no (end_of P f.log) ≡ 0 = ap (λ (x : Ending). tail_no x) ends in
      let b : end_no P before.log ≡ 0 = ap (λ (x : Parsed). ending_no x.ending) before-log in
      rw (before-buffers, alike-room P before f before-records refl refl refl, a, b)

  pub before-world : opened_world P f frames ≡ opened_world P before frames
  unfolding header
  before-world = alike-world P before f before-records refl refl frames ∙ sym (alike-world P before before refl refl refl frames)

  -- so an accepted opening in the one mode is that of the log cut off in the other, and the torn record is told
  pub before-opening : open_no P before frames ≡ 0 → opening_torn P f frames ≡ opening P before frames
  unfolding opening_torn opening
  before-opening e = rw (before-no, e, before-world)

  pub before-met : open_no P before frames ≡ 0 → torn_met P f frames ≡ met p m
  unfolding torn_met
  before-met e = rw (before-no, e, ends)
