-- A store as a host keeps it: a head of twelve words, 256 rows of three words, 64 resident pages, 64 touched pages. The head's words are the lengths of log, database
-- and clog, page count, next id, next commit time, frozen mark, 1 where a transaction is in and else 0, its id, how many entries, how many resident pages, how many
-- touched pages. Nothing is packed: a call reads the words and leaves the words of the head after it. Assumes nothing.
use Rattle.std.specs.Prelude.{ℕ, List, [], ◌∷◌, get_or}
use Rattle.lent.specs.declared.Head.{Head}
use Rattle.lent.specs.Lent.{Lent, lent, Left}

unfoldable pub head_in : List ℕ → Head
head_in ws =
    record {
      lens = record { log = get_or ws 0 0; db = get_or ws 1 0; clog = get_or ws 2 0 };
      pages = get_or ws 3 0;
      next = record { 0 = get_or ws 4 0 };
      time = record { 0 = get_or ws 5 0 };
      mark = record { 0 = get_or ws 6 0 };
      held = get_or ws 7 0;
      id = record { 0 = get_or ws 8 0 };
      entries = get_or ws 9 0;
      resident = get_or ws 10 0;
      touched = get_or ws 11 0;
    }

unfoldable pub words_of : Head → List ℕ
words_of h =
    h.lens.log ∷ h.lens.db ∷ h.lens.clog ∷ h.pages ∷ h.next.0 ∷ h.time.0 ∷ h.mark.0 ∷ h.held ∷ h.id.0 ∷ h.entries ∷ h.resident ∷ h.touched ∷ []

-- the store that stands there
abbrev pub lent_in : List ℕ → List (List ℕ) → List ℕ → List ℕ → Lent
lent_in ws rows resident touched = lent (head_in ws) rows resident touched

-- ---- what a call leaves: its number, every word of the store, and every byte of the four buffers

pub record Standing : Type 0 where
  pub number : ℕ
  pub head : List ℕ
  pub rows : List (List ℕ)
  pub resident : List ℕ
  pub touched : List ℕ
  pub log : List ℕ
  pub db : List ℕ
  pub clog : List ℕ
  pub frames : List ℕ

abbrev pub standing : ℕ → List ℕ → List (List ℕ) → List ℕ → List ℕ → List ℕ → List ℕ → List ℕ → List ℕ → Standing
standing n ws rows resident touched log db clog frames =
    record { number = n; head = ws; rows = rows; resident = resident; touched = touched; log = log; db = db; clog = clog; frames = frames }

unfoldable pub standing_of : Left → Standing
standing_of o =
    standing o.number (words_of o.store.head) o.store.rows o.store.resident o.store.touched o.log o.db o.clog o.frames
