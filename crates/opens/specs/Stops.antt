-- Why a refused opening gives no store, and the database's bytes after it: where the log stops at a bad record the images before it are laid, and any other refusal
-- changes no byte. P is the page size. Assumes nothing.
use Rattle.std.specs.Prelude.{ℕ, List, cond, eqb}
use Rattle.fields.specs.declared.refusal.Refusal.{Refusal}
use Rattle.fields.specs.Refusals.{number_of}
use Rattle.fields.specs.Files.{File}
use Rattle.opening.specs.declared.Unopened.{Unopened}
use Rattle.opening.specs.declared.Unopened.TheVariants.{Refused, Torn, Unknown}
use Rattle.replay.specs.Replay.{laid_from}

pub record Stopped : Type 0 where
  pub why : Unopened
  pub db : List ℕ

abbrev pub stopped : Unopened → List ℕ → Stopped
stopped u bytes = record { why = u; db = bytes }

unfoldable pub stopped_by : ℕ → Refusal → File → File → Stopped
stopped_by P r log db =
    let d = laid_from P log db in
    cond (eqb (number_of r) 2) (stopped (Torn d.len) d.bytes)
    (cond (eqb (number_of r) 3) (stopped (Unknown d.len) d.bytes) (stopped (Refused r) db.bytes))
