-- `wal::image` meets its contract: the answer of the reader shows the place of the image's bytes, which lie inside the log. Assumes nothing.
use mathlib.Core.Path.{◌≡◌, sym, refl}
use Prim.Native.Nat.{◌+◌, ◌-◌}
use native.Mathlib.Omega.{arith}
use Rattle.wal.proofs.ReadLaws.{no-image, some-image}
use Rattle.wal.proofs.image.Goals as goal

pub returns-then-place-eq0 : goal.returns-then-place-eq0
returns-then-place-eq0 c =
    let a = c.args in
    let k = no-image 4096 a.log.now a.len a.at c.read_place-place.result c.read_record.result c.read_record.ensures c.read_place-place.ensures c.if-place-eq0.true in
    record { bytes = sym k.0; block = refl; place = rw k.1 }

pub overflow_add-end : goal.overflow_add-end
overflow_add-end c =
    let a = c.args in
    let k = some-image 4096 a.log.now a.len a.at c.read_place-place.result c.read_record.result c.read_record.ensures c.read_place-place.ensures c.if-place-eq0.false in
    omega (arith, k.fits)

pub slice_bounds-result-end-2 : goal.slice_bounds-result-end-2
slice_bounds-result-end-2 c =
    let a = c.args in
    let k = some-image 4096 a.log.now a.len a.at c.read_place-place.result c.read_record.result c.read_record.ensures c.read_place-place.ensures c.if-place-eq0.false in
    omega (arith, k.fits)

pub returns : goal.returns
returns c =
    let a = c.args in
    let k = some-image 4096 a.log.now a.len a.at c.read_place-place.result c.read_record.result c.read_record.ensures c.read_place-place.ensures c.if-place-eq0.false in
    let n : c.read_place-place.result + 4096 - c.read_place-place.result ≡ 4096 = omega arith in
    record { bytes = rw n (sym k.bytes); block = refl; place = rw k.place }
