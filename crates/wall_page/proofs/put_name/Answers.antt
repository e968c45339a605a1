-- All 32 columns are written.
use mathlib.Core.Path.{◌≡◌, refl}
use native.Mathlib.Omega.{arith}
use lib.ListN.{length-set}
use Rattle.bits.specs.Bits.{tabulate}
use Rattle.wall_page.proofs.Columns.{name_byte, name_more, name_made}
use Rattle.wall_page.proofs.put_name.Goals as goal

pub loop-i-init : goal.loop-i-init
unfolding tabulate
loop-i-init c = (refl, refl)

pub loop-i-preserved : goal.loop-i-preserved
loop-i-preserved c =
    let l = c.loop-i in
    let a = c.args in
    (simp length-set l.invariant.0, name_more (name_byte a.name a.size) a.page.now l.page l.i c.name_byte.result (omega (arith, c.requires.room)) l.invariant.1 c.name_byte.ensures)

pub returns : goal.returns
returns c =
    let l = c.loop-i in
    let a = c.args in
    let e : l.i ≡ 32 = omega arith in
    rw (e, name_made a.name a.size (omega (arith, c.requires.short)) c.requires.short) at l.invariant.1
