-- `frames::seat` meets its contract: each of its three ways out is a law of proofs/Values.antt. Assumes nothing.
use mathlib.Core.Path.{◌≡◌, sym}
use native.Mathlib.Omega.{arith}
use borrow.Author.Rules.{rules}
use lib.ListN.{length}
use Rattle.frames.specs.Pages.{frame_count}
use Rattle.frames.proofs.Values.{seat-old, seat-full, seat-new, seat-laid}
use Rattle.frames.proofs.seat.Goals as goal

pub returns-then-is_in : goal.returns-then-is_in
returns-then-is_in c =
    let a = c.args in
    sym (seat-old 64 4096 a.f a.size a.page (rw (← c.held-list.ensures.list) (sym c.if-is_in.ensures)))

pub returns-then-frame_count-n : goal.returns-then-frame_count-n
returns-then-frame_count-n c =
    let a = c.args in
    let l = c.held-list.ensures.list in
    sym (seat-full 64 4096 a.f a.size a.page (rw (← l) (sym c.if-is_in.ensures)) (rw (← l) (omega (arith, c.frame_count.ensures))))

pub bounds-pages-n : goal.bounds-pages-n
unfolding frame_count
bounds-pages-n c = omega (arith, c.frame_count.ensures)

pub returns : goal.returns
unfolding frame_count
returns c =
    let a = c.args in
    let h = c.held-list.ensures in
    let len : length a.f.pages ≡ 64 = search rules in
    rw (seat-laid a.f 64 (length c.held-list.result.now) a.page len h.len (omega (arith, c.frame_count.ensures)))
    (sym (seat-new 64 4096 a.f a.size a.page (rw (← h.list) (sym c.if-is_in.ensures)) (rw (← h.list) (omega (arith, c.frame_count.ensures)))))
