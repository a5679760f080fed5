-- Laws of the opening that takes a torn record as the end, over the page size P: on a log without a torn record it is the old one; it never gives 2; what an
-- accepted one has passed, and that this is enough. Assumes nothing.
use mathlib.Core.Path.{◌≡◌, refl, ap, ◌∙◌}
use mathlib.Core.List.{List, map}
use mathlib.Core.Bool.{Bool, true, false, cond, ◌||◌}
use mathlib.Core.Logic.{⊎_elim}
use Prim.Native.Nat.{ℕ, zero, suc, ◌+◌, ◌≤◌, ◌<◌}
use native.Mathlib.Omega.{arith}
use lib.Dec.{ltb}
use lib.ListN.{length, take}
use Rattle.fields.specs.Files.{File, content, room, append}
use Rattle.fields.proofs.Tests.{Equal, equal, other, equality}
use Rattle.wal.specs.Records.{Record, encode, Ending, clean, cut, strange, ending_no, Parsed}
use Rattle.wal.proofs.RecordLaws.{Sound}
use Rattle.meta.specs.Page.{has_meta, format_no}
use Rattle.meta.proofs.Laws.{format-cases}
use Rattle.world.specs.World.{Files}
use Rattle.world.specs.Refusals.{any_of, or_else, bad_buffers}
use Rattle.world.specs.Run.{decided}
use Rattle.opening.specs.Opening.{records, end_of, replayed, statuses, full_table, past_db, past_clog, open_room_no, open_no, with_meta, opened_world, opening}
use Rattle.opening.proofs.Laws.{Bare, world-meta}
use Rattle.opening.proofs.LogFiles.{Reads, part-torn, part_none}
use Rattle.opening.proofs.Formed.{Passed, by-means, by-passed}
use Rattle.torn.specs.Torn.{tail_no, torn_no, opening_torn, unmet, met_in, torn_met}

-- ---- the two modes

-- a log that has no torn record
abbrev pub Untorn : Ending → Type 0
Untorn e = (at missing : ℕ) → e ≡ cut at missing → ⊥

untorn-no : (e : Ending) → Untorn e → tail_no e ≡ ending_no e
untorn-no clean h = refl
untorn-no (cut at missing) h = absurd (h at missing refl)
untorn-no (strange at) h = refl

untorn-met : (e : Ending) → Untorn e → met_in e ≡ unmet
untorn-met clean h = refl
untorn-met (cut at missing) h = absurd (h at missing refl)
untorn-met (strange at) h = refl

module _ (P : ℕ) (f : Files) (frames : List ℕ) where
  same_number : Untorn (end_of P f.log) → torn_no P f frames ≡ open_no P f frames
  unfolding torn_no open_no
  same_number h = rw (untorn-no (end_of P f.log) h)

  -- the two agree on every log without a torn record, and none is told of there
  pub modes-agree : Untorn (end_of P f.log) → opening_torn P f frames ≡ opening P f frames
  unfolding opening_torn opening
  modes-agree h = rw (same_number h)

  pub none-met : Untorn (end_of P f.log) → torn_met P f frames ≡ unmet
  unfolding torn_met
  none-met h = rw (untorn-met (end_of P f.log) h) (go (torn_no P f frames))
    where
      go : (n : ℕ) → decided n unmet unmet ≡ unmet
      go zero = refl
      go (suc n) = refl

  -- ---- an accepted opening

  pub torn-number : (opening_torn P f frames).number ≡ torn_no P f frames
  unfolding opening_torn
  torn-number = refl

  pub torn-means : torn_no P f frames ≡ 0 → Passed P f frames
  unfolding torn_no
  torn-means e = (by-means P (tail_no (end_of P f.log)) f frames e).0

  pub torn-passed : Passed P f frames → tail_no (end_of P f.log) ≡ 0 → torn_no P f frames ≡ 0
  unfolding torn_no
  torn-passed p e = by-passed P (tail_no (end_of P f.log)) f frames p ∙ e

  pub torn-world : torn_no P f frames ≡ 0 → (opening_torn P f frames).world ≡ opened_world P f frames
  unfolding opening_torn
  torn-world e = rw e

  pub torn-meta : torn_no P f frames ≡ 0 → has_meta P (content (replayed P f)) ≡ true → (opening_torn P f frames).world ≡ with_meta P f frames
  torn-meta e h = torn-world e ∙ world-meta P f frames h

-- ---- 2 never comes

tail-two : (e : Ending) → tail_no e ≡ 2 → ⊥
tail-two clean h = omega (arith, h)
tail-two (cut at missing) h = omega (arith, h)
tail-two (strange at) h = omega (arith, h)

or-two : (a b : ℕ) → (a ≡ 2 → ⊥) → (b ≡ 2 → ⊥) → or_else a b ≡ 2 → ⊥
or-two zero b p q h = q h
or-two (suc a) b p q h = p h

format-two : (P : ℕ) (db : File) → format_no P db ≡ 2 → ⊥
format-two P db h = ⊎_elim (λ e. omega (arith, e, h)) (⊎_elim (λ e. omega (arith, e, h)) (λ e. omega (arith, e, h))) (format-cases P db)

room-two : (P : ℕ) (f : Files) → open_room_no P f ≡ 2 → ⊥
unfolding open_room_no
room-two P f =
    go (ltb (room f.log) 8) (any_of (map (past_db P (room f.db)) (records P f.log)))
    (ltb (room f.clog) 8 || any_of (map (past_clog (room f.clog)) (statuses (records P f.log)))) (ltb 256 (length (full_table P f)))
  where
    go : (a b c d : Bool) → ◌≡◌ {A = ℕ} (cond a 4 (cond b 5 (cond c 6 (cond d 7 0)))) 2 → ⊥
    go true b c d h = omega (arith, h)
    go false true c d h = omega (arith, h)
    go false false true d h = omega (arith, h)
    go false false false true h = omega (arith, h)
    go false false false false h = omega (arith, h)

pub never-two : (P : ℕ) (f : Files) (frames : List ℕ) → torn_no P f frames ≡ 2 → ⊥
unfolding torn_no
never-two P f frames = go (bad_buffers P f frames)
  where
    rest : or_else (format_no P f.db) (or_else (open_room_no P f) (tail_no (end_of P f.log))) ≡ 2 → ⊥
    rest = or-two _ _ (format-two P f.db) (or-two _ _ (room-two P f) (tail-two (end_of P f.log)))

    go : (x : Bool) → cond x 1 (or_else (format_no P f.db) (or_else (open_room_no P f) (tail_no (end_of P f.log)))) ≡ 2 → ⊥
    go true h = omega (arith, h)
    go false h = rest h

-- ---- logs that end so that it is accepted

-- one without records
pub bare-tail : (P : ℕ) (log : File) → Bare P log → tail_no (end_of P log) ≡ 0
bare-tail P log b = go (end_of P log) b.whole
  where
    go : (x : Ending) → ending_no x ≡ 0 → tail_no x ≡ 0
    go clean e = refl
    go (cut at missing) e = refl
    go (strange at) e = e

-- one that reads to its end, with the first bytes of a record after it
pub part-tail : (P : ℕ) (log : File) (reads : Reads P log) (r : Record) → Sound P r → log.len ≤ room log → (j : ℕ) → log.len + j ≤ room log → j < length (encode r) →
    tail_no (end_of P (append log (take j (encode r)))) ≡ 0
part-tail P log reads r sound fits j has part = go (equality j 0)
  where
    go : Equal j 0 → tail_no (end_of P (append log (take j (encode r)))) ≡ 0
    go (equal z) =
        ap (λ (p : Parsed). tail_no p.ending) (part_none P log reads r sound fits j has part z) ∙ ap (λ (x : Ending). tail_no x) reads.whole
    go (other n) = ap (λ (p : Parsed). tail_no p.ending) (part-torn P log reads r sound fits j has part (omega (arith, n)))
