-- An opening for a host: what is told, and what it leaves in the host's words and buffers. P is the page size. Assumes nothing.
use Rattle.std.specs.Prelude.{ℕ, List, get_or}
use Rattle.world.specs.declared.Lens.{Lens}
use Rattle.lent.specs.Lent.{Lent}
use Rattle.keyon.specs.Keyon.{Wake, opened_lent}
use Rattle.words.specs.Words.{Standing, standing_of}

pub record Opened : Type 0 where
  pub told : ℕ
  pub left : Standing

abbrev pub opened : ℕ → Standing → Opened
opened n s = record { told = n; left = s }

-- the database's length where images are laid, else 0
unfoldable pub opened_by : Wake → Opened
opened_by w = opened (get_or w.value 0 0) (standing_of w.left)

abbrev pub hosted_open : ℕ → Lens → Lent → List ℕ → List ℕ → List ℕ → List ℕ → Opened
hosted_open P lens s log db clog frames = opened_by (opened_lent P lens s log db clog frames)
