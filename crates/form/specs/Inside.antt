-- What the contracts of private functions cite: 14 of a store; a reader of the public ones need not know it. P is the page size. Assumes nothing.
use Rattle.std.specs.Prelude.{ℕ, [], ◌∷◌, Bool, ltb}
use Rattle.frames.specs.Pages.{frame_count}
use Rattle.world.specs.Refusals.{any_of, bad_table, bad_touched, bad_frames}
use Rattle.form.specs.declared.Store.{Store}
use Rattle.form.specs.Store.{entries_of, resident_of, touched_of}

-- 14 of a store, for a frame buffer of this size
unfoldable pub out_of_form : ℕ → Store → ℕ → Bool
out_of_form P s size =
    any_of
    (ltb s.lens.log 8 ∷ ltb s.lens.clog 8 ∷ bad_table (entries_of s.table) ∷ bad_touched (touched_of s.held.touched) ∷
    bad_frames (frame_count 64 P size) (resident_of s.frames) ∷ [])
