-- Document 01's values that are to be proved, all of them in one list: those of the crate world (what logs hold, the clog's bytes, its table, the versions),
-- and the openings. Of an opening the value is its number, the entries of its table, and its next commit time. Assumes nothing.
use mathlib.Core.Path.{◌≡◌, refl, sym, ap, ◌∙◌}
use mathlib.Core.List.{List, [], ◌∷◌, ◌++◌, map, map-map, map-append}
use Prim.Native.Nat.{ℕ}
use lib.ListN.{length, take, replicate}
use lib.Seq.{sets}
use Rattle.fields.specs.Bytes.{le_of, bytes_of, starts}
use Rattle.fields.specs.Files.{lay, header, unfit}
use Rattle.sorted.specs.Sorted.{insert_by, insert_all_by}
use Rattle.wal.specs.Records.{log_magic, begin, commit, encode, body_of, record_of, decode, parse, records_in, start_of, log_of}
use Rattle.table.specs.declared.Status.TheVariants.{Aborted}
use Rattle.table.specs.declared.Entry.{Entry}
use Rattle.table.specs.Entries.{empty_table, largest_by}
use Rattle.clog.specs.Slots.{clog_magic, bits_of, with_bits, valid_clog, open_clog, set_slot, record_all, codes, loaded_status, entry_of, entries_from, entries_in, settled_code, settled_byte, settled}
use Rattle.meta.specs.Page.{meta_magic, meta_page, has_meta, good_version, format_no}
use Rattle.frames.specs.Pages.{empty_frames, empty_touched}
use Rattle.world.specs.Refusals.{any_of, bad_buffers}
use Rattle.world.proofs.Values as world
use Rattle.form.specs.Store.{first_of, entries_of, laid_store, Outcome, no_store}
use Rattle.opening.specs.Opening.{replay, replayed, statuses, log_table, clog_table, full_table, open_room_no, open_no, log_time, with_meta, without_meta, opened_world, left_by, opening, opened}

-- a value of the crate world; an opening
pub data Result : Type 0 where
  part : world.Result → Result
  opens : ℕ → List Entry → ℕ → Result

pub record Value : Type 0 where
  pub gives : Result
  pub says : Result

abbrev given : Value → Result
given v = v.gives

abbrev said : Value → Result
said v = v.says

-- ---- openings: the log's bytes in a buffer of eight more, the database's in its own, an empty clog in one of sixteen, one frame

abbrev seen : Outcome → Result
seen o = opens o.number (entries_of o.store.table) o.store.time.0

abbrev result : List ℕ → List ℕ → Result
result log db =
    seen
    (opened 4096 (record { log = length log; db = length db; clog = 0 }) (log ++ replicate 8 0xEE) db (replicate 16 0xEE) (replicate 4096 0)).outcome

abbrev accepted : List ℕ → List ℕ → List Entry → ℕ → Value
accepted log db entries time = record { gives = result log db; says = opens 0 entries time }

abbrev refused : List ℕ → List ℕ → ℕ → Value
refused log db number = record { gives = result log db; says = opens number [] 0 }

abbrev aborted : ℕ → Entry
aborted id = record { id = record { 0 = id }; status = Aborted }

-- a database of one page 0 with a version
abbrev database : ℕ → List ℕ
database version = sets (meta_page 4096 1 1 0) 32 (bytes_of 4 version)

abbrev pub openings : List Value
openings =
    accepted [] [] [] 1
    ∷ accepted (take 7 log_magic) [] [] 1
    ∷ accepted (log_magic ++ (2 ∷ 5 ∷ 0 ∷ 0 ∷ 0 ∷ 0 ∷ 0 ∷ 0 ∷ 0 ∷ [])) [] (aborted 5 ∷ []) 1
    ∷ refused (log_magic ++ (0 ∷ [])) [] 3
    ∷ refused (log_magic ++ (6 ∷ [])) [] 3
    ∷ refused (log_magic ++ (1 ∷ [])) [] 2
    ∷ accepted (log_magic ++ (encode (commit 5 9) ++ encode (begin 5))) [] (aborted 5 ∷ []) 1
    ∷ accepted [] (database 0) [] 1
    ∷ refused [] (database 3) 12
    ∷ []

all-openings : map given openings ≡ map said openings
unfolding log_of start_of starts log_magic parse decode body_of record_of le_of encode bytes_of records_in insert_by insert_all_by empty_table largest_by lay header unfit clog_magic bits_of with_bits valid_clog open_clog set_slot record_all codes loaded_status entry_of entries_from entries_in settled_code settled_byte settled meta_magic meta_page has_meta good_version format_no empty_frames empty_touched any_of bad_buffers first_of laid_store replay replayed statuses log_table clog_table full_table open_room_no open_no log_time with_meta without_meta opened_world left_by opening no_store opened
all-openings = refl

-- ---- the one list

abbrev lifted : world.Value → Value
lifted v = record { gives = part v.gives; says = part v.says }

join : (vs : List world.Value) (ws : List Value) → map (λ (v : world.Value). v.gives) vs ≡ map (λ (v : world.Value). v.says) vs →
    map given ws ≡ map said ws → map given (map lifted vs ++ ws) ≡ map said (map lifted vs ++ ws)
join vs ws e h = map-append given (map lifted vs) ws ∙ rw (old, h) (sym (map-append said (map lifted vs) ws))
  where
    old : map given (map lifted vs) ≡ map said (map lifted vs)
    old =
        map-map given lifted vs
        ∙ sym (map-map part (λ (v : world.Value). v.gives) vs)
        ∙ ap (map part) e
        ∙ map-map part (λ (v : world.Value). v.says) vs
        ∙ sym (map-map said lifted vs)

abbrev pub values : List Value
values = map lifted world.values ++ openings

pub all-values : map given values ≡ map said values
all-values = join world.values openings world.all-values all-openings
