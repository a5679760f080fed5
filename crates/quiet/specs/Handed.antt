-- What the calls with no store hand out beside their outcome, and what they hand out where they are refused. P is the page size. Assumes nothing.
use Rattle.std.specs.Prelude.{ℕ, List, replicate}
use Rattle.fields.specs.declared.TransactionId.{TransactionId}
use Rattle.fields.specs.Answers.{no_id}
use Rattle.world.specs.Calls.{Uninstall, AllocId, AllocPage, Read, held_page}
use Rattle.world.specs.Run.{done}
use Rattle.form.specs.declared.Held.{Held}
use Rattle.form.specs.declared.Store.{Store}
use Rattle.form.specs.Store.{no_held, world_of, called, Given, handed}

-- the transaction that was in, or none
unfoldable pub uninstalled : ℕ → Store → List ℕ → List ℕ → List ℕ → List ℕ → Given Held
uninstalled P s log db clog frames = handed s.held no_held (called P Uninstall s log db clog frames)

-- the next id
unfoldable pub id_allocated : ℕ → Store → List ℕ → List ℕ → List ℕ → List ℕ → Given TransactionId
id_allocated P s log db clog frames = handed s.next no_id (called P AllocId s log db clog frames)

-- the page count
unfoldable pub page_allocated : ℕ → Store → List ℕ → List ℕ → List ℕ → List ℕ → Given ℕ
page_allocated P s log db clog frames = handed s.pages 0 (called P AllocPage s log db clog frames)

-- the page's frame after the call; zeros where it is refused
unfoldable pub page_read : ℕ → ℕ → Store → List ℕ → List ℕ → List ℕ → List ℕ → Given (List ℕ)
page_read P p s log db clog frames =
    handed (held_page P (done P (Read p) (world_of s log db clog frames)) p) (replicate P 0) (called P (Read p) s log db clog frames)
