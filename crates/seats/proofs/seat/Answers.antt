-- `seats::seat` meets its contract: each of its three ways out is a law of proofs/Laws.antt. Assumes nothing.
use borrow.Author.Rules.{rules}
use Rattle.seats.proofs.Laws.{seat-there, seat-none, seat-room, seat-next}
use mathlib.Core.Path.{◌≡◌}
use lib.ListN.{length}
use Rattle.seats.proofs.seat.Goals as goal

pub returns-then-is_in : goal.returns-then-is_in
returns-then-is_in c =
    let i = c.is_in in
    let h = c.held-m in
    let a = c.args in
    let len : length a.resident.now ≡ 64 = search rules in
    seat-there a.resident.now a.n h.result a.size a.page len h.ensures i.result i.ensures c.if-is_in.true

pub returns-then-frame_count-m : goal.returns-then-frame_count-m
returns-then-frame_count-m c =
    let i = c.is_in in
    let h = c.held-m in
    let a = c.args in
    let len : length a.resident.now ≡ 64 = search rules in
    (seat-none a.resident.now a.n h.result a.size a.page len h.ensures i.result i.ensures c.frame_count.result c.frame_count.ensures c.if-is_in.false c.if-frame_count-m.true)

pub bounds-resident-m : goal.bounds-resident-m
bounds-resident-m c =
    let i = c.is_in in
    let h = c.held-m in
    let a = c.args in
    let len : length a.resident.now ≡ 64 = search rules in
    seat-room a.resident.now a.n h.result a.size a.page len h.ensures i.result i.ensures c.frame_count.result c.frame_count.ensures c.if-is_in.false c.if-frame_count-m.false

pub returns : goal.returns
returns c =
    let i = c.is_in in
    let h = c.held-m in
    let a = c.args in
    let len : length a.resident.now ≡ 64 = search rules in
    seat-next a.resident.now a.n h.result a.size a.page len h.ensures i.result i.ensures c.frame_count.result c.frame_count.ensures c.if-is_in.false c.if-frame_count-m.false
