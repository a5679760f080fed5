-- A run that meets every premise of Q-7, at pages of 64 bytes, and what the theorem says of its commit cut in the middle of a page and before its record is whole.
-- Assumes nothing.
use mathlib.Core.Path.{◌≡◌, refl, sym, ap, ◌∙◌, subst}
use Prim.Native.Nat.{ℕ, zero, suc, ◌<◌}
use native.Mathlib.Omega.{arith}
use mathlib.Core.Bool.{Bool, true, false, ◌&&◌}
use lib.Dec.{ltb, lit≤}
use borrow.Author.Tests.{ltb-true}
use mathlib.Core.List.{List, [], ◌∷◌, ◌++◌}
use Rattle.fields.specs.declared.CommitTime.{CommitTime}
use Rattle.fields.specs.Bytes.{le_of, bytes_of, Bytes, starts, part}
use Rattle.fields.specs.Files.{content, lay, header, unfit}
use Rattle.fields.proofs.Tests.{both}
use Rattle.sorted.specs.Sorted.{insert_by, insert_all_by, look_by, ascending_by}
use Rattle.wal.specs.Records.{log_magic, encode, body_of, record_of, decode, parse, records_in, start_of, log_of}
use Rattle.table.specs.declared.Status.TheVariants.{Active, Committed, Aborted}
use Rattle.std.specs.Prelude.{Some}
use Rattle.table.specs.Entries.{status_of, largest_by}
use Rattle.clog.specs.Slots.{clog_magic, bits_of, with_bits, high_bits, valid_clog, open_clog, set_slot, record_all, cleared, clear_slots, span_below, codes, loaded_status, entry_of, entries_from, entries_in, settled_code, settled_byte, settled}
use Rattle.meta.specs.Page.{meta_magic, meta_page, has_meta, good_version, format_no}
use Rattle.frames.specs.Pages.{is_in, slot_of, distinct, any_bad, with_page, frame_count}
use Rattle.frames.specs.Copies.{page_of}
use Rattle.world.specs.declared.Slot.{Slot}
use Rattle.world.specs.declared.Slot.TheVariants.{Installed, Empty}
use Rattle.world.specs.World.{World}
use Rattle.world.specs.Steps.{apply, apply_all, sum_of, most_of}
use Rattle.world.specs.Calls.{Call, Install, Uninstall, AllocId, AllocPage, Begin, Read, Write, Flush, Commit, Rollback, Advance, held_page, seat, write, revert, keep, held, catalog_pages, data_pages, committed, rolled_back, advanced, images, writes, flush_steps, commit_steps, data_steps, back_steps, rollback_steps, advance_steps, steps, flush_keeps, commit_keeps, rollback_keeps, advance_keeps, keeps}
use Rattle.world.specs.Refusals.{any_of, bad_buffers, bad_table, bad_touched, bad_frames, bad_store, front_no, argument_no, room_no, hold_no, call_no, refuses}
use Rattle.world.specs.Run.{done, call, run}
use Rattle.opening.specs.Opening.{replay, replayed, statuses, log_table, clog_table, full_table, open_room_no, open_no, log_time, with_meta, without_meta, opened_world, left_by, Opening, opening}
use Rattle.partway.specs.Partway.{laid_to, cleared_to, points, stopped, apply_to, cut_all, cut_at}
use Rattle.torn.specs.Torn.{torn_no, opening_torn, torn_met}
use Rattle.keyoff.specs.KeyOff.{OpenedWithMeta, ZeroFlush, NoZeroFlush, BytesIn, Typed, AllTyped}
use Rattle.keyturn.specs.KeyTurn.{record_whole, counted, Cuttable, status_in, page_in, Turned}
use Rattle.keyturn.proofs.Theorem.{key-turn}
use Rattle.keyturn.proofs.Runs.{tid, small, frames}

-- 5 is begun, writes page 2 and touches it
abbrev calls : List Call
calls = Begin (tid 5) ∷ Write 2 (7 ∷ []) ∷ Flush 2 ∷ []

-- ---- bytes

is_small : List ℕ → Bool
is_small [] = true
is_small (x ∷ xs) = ltb x 256 && is_small xs

small_bytes : (xs : List ℕ) → is_small xs ≡ true → Bytes xs
unfolding is_small
small_bytes [] h i = omega arith
small_bytes (x ∷ xs) h zero = ltb-true x 256 (both (ltb x 256) (is_small xs) h).0
small_bytes (x ∷ xs) h (suc i) = small_bytes xs (both (ltb x 256) (is_small xs) h).1 i

bytes : BytesIn (small [])
bytes = (small_bytes _ log-small, small_bytes _ db-small)
  where
    log-small : is_small (content (small []).log) ≡ true
    log-small = unfold is_small log_magic in refl

    db-small : is_small (content (small []).db) ≡ true
    db-small = unfold is_small meta_page meta_magic bytes_of in refl

-- ---- the opening, and the calls

-- no call of these advances the mark or flushes page 0
page-asked : Call → ℕ
page-asked (Install id ps) = 1
page-asked Uninstall = 1
page-asked AllocId = 1
page-asked AllocPage = 1
page-asked (Begin id) = 1
page-asked (Read p) = 1
page-asked (Write p bs) = 1
page-asked (Flush p) = p
page-asked Commit = 1
page-asked (Rollback list) = 1
page-asked (Advance v) = 0

not-zero : (P : ℕ) (c : Call) (w : World) → 0 < page-asked c → ZeroFlush P c w → ⊥
unfolding page-asked
not-zero P c w h z = let e : page-asked c ≡ 0 = ap page-asked z.asked in omega arith

no-mark : (c : Call) → 0 < page-asked c → Typed c
unfolding page-asked
no-mark c h v e = let z : page-asked c ≡ 0 = ap page-asked e in absurd (omega arith)

typed : AllTyped (calls ++ (Commit ∷ []))
unfolding page-asked
typed = (no-mark (Begin (tid 5)) (lit≤ tt), (no-mark (Write 2 (7 ∷ [])) (lit≤ tt), (no-mark (Flush 2) (lit≤ tt), (no-mark Commit (lit≤ tt), tt))))

quiet : NoZeroFlush 64 (calls ++ (Commit ∷ [])) (opening_torn 64 (small []) frames).world
unfolding page-asked
quiet = (
  not-zero 64 (Begin (tid 5)) _ (lit≤ tt),
  (not-zero 64 (Write 2 (7 ∷ [])) _ (lit≤ tt), (not-zero 64 (Flush 2) _ (lit≤ tt), (not-zero 64 Commit _ (lit≤ tt), tt))),
)

abbrev found : World
found = run 64 calls (opening_torn 64 (small []) frames).world

-- what is computed of it: the opening, and the world that the commit finds; it counts when page 2 is lengthened and not yet written, since its record is whole, and
-- not at the record's last byte but one
record Computed : Type 0 where
  opened : OpenedWithMeta 64 (small []) (opening_torn 64 (small []) frames)
  slot_is : found.mem.slot ≡ Installed (tid 5)
  held-active : status_of 5 found.mem.table ≡ Some Active
  untouched : is_in 0 found.mem.touched ≡ false
  held_two : is_in 2 (held found.mem) ≡ true
  mark-zero : found.mem.mark.0 ≡ 0
  counts : counted 64 3 1 (tid 5) found ≡ true
  counts-not : counted 64 2 16 (tid 5) found ≡ false

computed : Computed
unfolding le_of bytes_of starts part lay header unfit insert_by insert_all_by ascending_by log_magic encode body_of record_of decode parse records_in start_of log_of largest_by clog_magic bits_of with_bits high_bits valid_clog open_clog set_slot record_all cleared clear_slots codes loaded_status entry_of entries_from entries_in settled_code settled_byte settled meta_magic meta_page has_meta good_version format_no is_in slot_of distinct any_bad with_page frame_count page_of apply apply_all sum_of most_of held_page seat write revert keep held catalog_pages data_pages committed rolled_back advanced images writes flush_steps commit_steps data_steps back_steps rollback_steps advance_steps steps flush_keeps commit_keeps rollback_keeps advance_keeps keeps any_of bad_buffers bad_table bad_touched bad_frames bad_store front_no argument_no room_no hold_no call_no refuses done call run replay replayed statuses log_table clog_table full_table open_room_no open_no log_time with_meta without_meta opened_world left_by opening status_of look_by span_below laid_to cleared_to points stopped apply_to cut_all torn_no opening_torn torn_met record_whole counted
computed = record {
  opened = record { accepted = refl; meta = refl; version = refl };
  slot_is = refl;
  held-active = refl;
  untouched = refl;
  held_two = refl;
  mark-zero = refl;
  counts = refl;
  counts-not = refl;
}

unslot : Slot → ℕ
unslot (Installed i) = i.0
unslot Empty = 0

cuttable : Cuttable Commit found
unfolding unslot
cuttable = record {
  zero = λ id e. computed.untouched;
  above = λ id e. omega (arith, computed.mark-zero);
  active = λ id c e. subst (λ (n : ℕ). status_of n found.mem.table ≡ Some Active) (ap unslot (sym computed.slot_is ∙ e)) computed.held-active;
}

-- ---- the theorem says of it

abbrev opens : ℕ → ℕ → Opening
opens k pos = opening_torn 64 (cut_at 64 k pos Commit found) found.frames

turned : (k pos : ℕ) → Turned 64 k pos Commit found (opens k pos)
turned k pos = key-turn 64 (lit≤ tt) (small []) frames calls Commit k pos bytes computed.opened typed quiet cuttable

-- cut in page 2, 5 is Committed and page 2 has its image
pub committed-now : (t : CommitTime) × (status_in (opens 3 1).world 5 ≡ Some (Committed t))
committed-now = (turned 3 1).committed (tid 5) refl computed.slot_is computed.counts

pub imaged_now : page_in 64 (opens 3 1).world 2 ≡ held_page 64 found 2
imaged_now = (turned 3 1).imaged (tid 5) refl computed.slot_is computed.counts 2 computed.held_two

-- cut a byte before its record is whole, it is Aborted
pub abandoned-now : status_in (opens 2 16).world 5 ≡ Some Aborted
abandoned-now = (turned 2 16).abandoned (tid 5) refl computed.slot_is computed.counts-not
