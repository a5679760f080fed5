-- A compaction under w that stops after n bytes: no slot at or above w is altered, each other is as it was or 0; after the told range it is whole.
-- Assumes nothing.
use mathlib.Core.Path.{◌≡◌, refl, sym, ap, ◌∙◌}
use mathlib.Core.List.{List}
use mathlib.Core.Logic.{◌⊎◌, inl, inr}
use Prim.Native.Nat.{ℕ, ◌+◌, ◌-◌, ◌/◌, ◌%◌, ◌≤◌, ◌<◌}
use native.Mathlib.Omega.{arith}
use lib.ListN.{length, take, drop, get_or, length-take}
use lib.Seq.{sets, length-sets, get_or-take, ext_get_or, take-take, length-slice}
use Rattle.fields.proofs.Tests.{Order, less, most, order}
use Rattle.fields.specs.Files.{File, file_of, content, room}
use Rattle.fields.proofs.Stored.{sets-before, sets-in, sets-after, take-sets}
use Rattle.fields.proofs.FileLaws.{byte-in, byte_past}
use Rattle.clog.specs.Slots.{bits_of, slot_of, cleared, clear_slots, span_below}
use Rattle.clog.proofs.SlotLaws.{compact-room, compact-body, compact-low, compact-high, compact-span}
use Rattle.partway.specs.Partway.{cleared_to}

module _ (n h w : ℕ) (f : File) where
  pub cleared-to-room : room (cleared_to n h w f) ≡ room f
  unfolding cleared_to
  cleared-to-room = length-sets f.bytes h (take n (cleared w (drop h (content f))))

  pub cleared-to-len : (cleared_to n h w f).len ≡ f.len
  unfolding cleared_to
  cleared-to-len = refl

  module _ (fits : f.len ≤ room f) (head : h ≤ f.len) where
    pub cleared-to-header : take h (content (cleared_to n h w f)) ≡ take h (content f)
    unfolding cleared_to
    cleared-to-header =
        take-take h f.len (sets f.bytes h (take n (cleared w (drop h (content f))))) head
        ∙ take-sets (take n (cleared w (drop h (content f)))) f.bytes h h (omega arith) ∙ sym (take-take h f.len f.bytes head)

    long : length (cleared w (drop h (content f))) ≡ f.len - h
    long = ap length (sym (compact-body h w f fits head)) ∙ rw compact-same (length-slice h f.len (clear_slots h w f).bytes (rw (compact-room h w f) fits))
      where
        compact-same : (clear_slots h w f).len ≡ f.len
        compact-same = unfold clear_slots in refl

    -- up to the n-th byte they are those of the whole compaction, from there on those of before
    cleared-to-done : (i : ℕ) → i < h + n → get_or (cleared_to n h w f).bytes i 0 ≡ get_or (clear_slots h w f).bytes i 0
    unfolding cleared_to clear_slots
    cleared-to-done i l = go (order i h) (order i f.len)
      where
        go : Order i h → Order i f.len → get_or (sets f.bytes h (take n (cleared w (drop h (content f))))) i 0 ≡ get_or (sets f.bytes h (cleared w (drop h (content f)))) i 0
        go (less p) q =
            sets-before (take n (cleared w (drop h (content f)))) f.bytes h i p ∙ sym (sets-before (cleared w (drop h (content f))) f.bytes h i p)
        go (most p) (less q) =
            sets-in (take n (cleared w (drop h (content f)))) f.bytes h i p (omega (arith, long, length-take n (cleared w (drop h (content f))))) (omega arith)
            ∙ get_or-take n (cleared w (drop h (content f))) (i - h) 0 (omega arith)
            ∙ sym (sets-in (cleared w (drop h (content f))) f.bytes h i p (omega (arith, long)) (omega arith))
        go (most p) (most q) =
            sets-after (take n (cleared w (drop h (content f)))) f.bytes h i (omega (arith, long, length-take n (cleared w (drop h (content f)))))
            ∙ sym (sets-after (cleared w (drop h (content f))) f.bytes h i (omega (arith, long)))

    cleared-to-left : (i : ℕ) → h + n ≤ i → get_or (cleared_to n h w f).bytes i 0 ≡ get_or f.bytes i 0
    unfolding cleared_to
    cleared-to-left i l =
        sets-after (take n (cleared w (drop h (content f)))) f.bytes h i (omega (arith, length-take n (cleared w (drop h (content f)))))

    -- ---- slots

    -- the same byte of two files of the same length
    same_byte : (a b : List ℕ) (i : ℕ) → get_or a i 0 ≡ get_or b i 0 → get_or (take f.len a) i 0 ≡ get_or (take f.len b) i 0
    same_byte a b i e = go (order i f.len)
      where
        go : Order i f.len → get_or (take f.len a) i 0 ≡ get_or (take f.len b) i 0
        go (less p) = byte-in f.len a i p ∙ e ∙ sym (byte-in f.len b i p)
        go (most p) = byte_past f.len a i p ∙ sym (byte_past f.len b i p)

    slot-done : (k : ℕ) → k / 4 < n → slot_of h (content (cleared_to n h w f)) k ≡ slot_of h (content (clear_slots h w f)) k
    unfolding slot_of cleared_to clear_slots
    slot-done k l =
        ap (bits_of (k % 4))
        (same_byte (sets f.bytes h (take n (cleared w (drop h (content f))))) (sets f.bytes h (cleared w (drop h (content f)))) (h + k / 4)
        (cleared-to-done (h + k / 4) (omega arith)))

    slot-left : (k : ℕ) → n ≤ k / 4 → slot_of h (content (cleared_to n h w f)) k ≡ slot_of h (content f) k
    unfolding slot_of cleared_to
    slot-left k l =
        ap (bits_of (k % 4))
        (same_byte (sets f.bytes h (take n (cleared w (drop h (content f))))) f.bytes (h + k / 4) (cleared-to-left (h + k / 4) (omega arith)))

    -- at or above w none is altered, in the byte that straddles w neither
    pub cleared-to-high : (k : ℕ) → w ≤ k → slot_of h (content (cleared_to n h w f)) k ≡ slot_of h (content f) k
    cleared-to-high k l = go (order (k / 4) n)
      where
        go : Order (k / 4) n → slot_of h (content (cleared_to n h w f)) k ≡ slot_of h (content f) k
        go (less p) = slot-done k p ∙ compact-high h w f fits head k l
        go (most p) = slot-left k p

    -- any other is as it was, or 0
    pub cleared-to-low : (k : ℕ) → (slot_of h (content (cleared_to n h w f)) k ≡ slot_of h (content f) k) ⊎ (slot_of h (content (cleared_to n h w f)) k ≡ 0)
    cleared-to-low k = go (order k w) (order (k / 4) n)
      where
        go : Order k w → Order (k / 4) n →
            (slot_of h (content (cleared_to n h w f)) k ≡ slot_of h (content f) k) ⊎ (slot_of h (content (cleared_to n h w f)) k ≡ 0)
        go (most p) o = inl (cleared-to-high k p)
        go (less p) (less q) = inr (slot-done k q ∙ compact-low h w f fits head k p)
        go (less p) (most q) = inl (slot-left k q)

    -- after the told range it is the whole compaction
    pub cleared-to-whole : span_below (f.len - h) w ≤ n → cleared_to n h w f ≡ clear_slots h w f
    cleared-to-whole l =
        let s : room (cleared_to n h w f) ≡ room (clear_slots h w f) = cleared-to-room ∙ sym (compact-room h w f) in
        let e : (cleared_to n h w f).bytes ≡ (clear_slots h w f).bytes =
        ext_get_or 0 (cleared_to n h w f).bytes (clear_slots h w f).bytes s (λ i q. go i (order i (h + n))) in
        same e
      where
        go : (i : ℕ) → Order i (h + n) → get_or (cleared_to n h w f).bytes i 0 ≡ get_or (clear_slots h w f).bytes i 0
        go i (less p) = cleared-to-done i p
        go i (most p) = cleared-to-left i p ∙ sym (compact-span h w f fits head i (λ q. omega arith))

        same : (cleared_to n h w f).bytes ≡ (clear_slots h w f).bytes → cleared_to n h w f ≡ clear_slots h w f
        same e = unfold cleared_to clear_slots in (λ i. file_of (e i) f.len)
