use native.Mathlib.Omega.{arith}
use Rattle.circuit.proofs.Laws.{flops-bytes, outputs-bytes, flops-listed, outputs-listed}
use Rattle.circuit.proofs.list_tables.Goals as goal

pub list_lines-requires : goal.list_lines-requires
list_lines-requires c =
    let pre = c.requires in
    rw (pre.1, (flops-bytes c.args.c.now).1) (pre.0.size, pre.0.lines, omega arith, omega (arith, pre.0.flip_flops, pre.3))

pub list_lines-requires-2 : goal.list_lines-requires-2
list_lines-requires-2 c =
    let pre = c.requires in
    rw (pre.1, (outputs-bytes c.args.c.now).1) (pre.0.size, pre.0.lines, omega arith, omega (arith, pre.0.outputs, pre.4))

pub returns : goal.returns
returns c =
    let pre = c.requires in
    record {
      pin_table = c.list_places.ensures;
      flop_table = flops-listed _ _ _ pre.1 c.list_lines.ensures;
      output_table = outputs-listed _ _ _ pre.1 c.list_lines-2.ensures;
    }
