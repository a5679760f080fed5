-- Opening a store that stands where it is lent: the opening of crate opening, and what it leaves in head and arrays. A refused one, with any number but 0, leaves them
-- as they were; an accepted one lays its lists over the arrays. What stood there before is no part of it: the store comes from the files alone.
-- P is the page size. Assumes nothing.
use Rattle.std.specs.Prelude.{ℕ, List, Result, Ok, Err}
use Rattle.world.specs.declared.Lens.{Lens}
use Rattle.lent.specs.declared.Head.{Head}
use Rattle.lent.specs.Lent.{Lent, lent, Left, leaving, left_of}
use Rattle.opening.specs.Opening.{verdict_told, opened}
use Rattle.opening.specs.declared.Unopened.{Unopened}

-- the verdict, and the head after it
pub record Waking : Type 0 where
  pub verdict : Result ℕ Unopened
  pub head : Head

-- what a result tells: the length of an opened store's database; a refused opening leaves the head h
abbrev pub waking_of : Head → Result Head Unopened → Waking
waking_of h (Ok g) = record { verdict = Ok g.lens.db; head = g }
waking_of h (Err u) = record { verdict = Err u; head = h }

-- the values that are told, and everything that is left
pub record Wake : Type 0 where
  pub value : List ℕ
  pub left : Left

-- what comes out
abbrev pub wakes : Waking → List (List ℕ) → List ℕ → List ℕ → List ℕ → List ℕ → List ℕ → List ℕ → Wake
wakes r rows resident touched log db clog frames =
    record {
      value = (verdict_told r.verdict).values;
      left = leaving (verdict_told r.verdict).number (lent r.head rows resident touched) log db clog frames;
    }

-- what must come out
unfoldable pub opened_lent : ℕ → Lens → Lent → List ℕ → List ℕ → List ℕ → List ℕ → Wake
opened_lent P lens s log db clog frames =
    let g = opened P lens log db clog frames in
    record { value = g.value; left = left_of s g.outcome }
