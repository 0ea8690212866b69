use mathlib.Core.Path.{◌≡◌}
use Prim.Native.Nat.{◌*◌}
use native.Mathlib.Omega.{arith}
use lib.ListN.{length, take}
use lib.Seq.{length-take-le}
use Rattle.model.specs.Listing.{job_lines}
use Rattle.decimals.proofs.Laws.{put_then}
use Rattle.listing.proofs.Laws.{put_same}
use Rattle.listing.proofs.Groups.{graded-lines, fault-bytes}
use Rattle.listing.proofs.put_graded.Goals as goal

pub put_faults-lines-requires : goal.put_faults-lines-requires
put_faults-lines-requires c =
    let s = c.args in
    -- the records are as many bytes as they should be
    let long : length (take (16 * s.count) s.res.now) ≡ 16 * s.count = length-take-le _ _ (omega (arith, c.requires.1)) in
    record {
      faults = fault-bytes _ _ c.requires.0;
      recorded = omega (arith, long);
      grouped = omega (arith, c.write_groups.auto.res, c.requires.1);
      room = omega (arith, c.requires.2);
    }

pub returns : goal.returns
unfolding job_lines
returns c =
    let s = c.args in
    let long : length (take (16 * s.count) s.res.now) ≡ 16 * s.count = length-take-le _ _ (omega (arith, c.requires.1)) in
    put_then
    (put_same (graded-lines _ _ _ _ _ c.requires.0 long c.requires.1 c.write_groups.ensures) c.put_faults-lines.ensures.0)
    c.put_total.ensures
