use mathlib.Core.Path.{◌≡◌, refl}
use Prim.Native.Nat.{ℕ, ◌+◌, ◌*◌}
use native.Mathlib.Omega.{arith}
use Rattle.model.specs.Inputs.{kind, pin_count, output_mark, spare_byte}
use Rattle.circuit.proofs.field.Goals as goal

pub returns : goal.returns
unfolding kind pin_count output_mark spare_byte
returns c = record {
  at = refl;
  kind = λ e. (let first : (n : ℕ) → 12 * n + 0 ≡ 12 * n = λ n. omega arith in rw (e, first));
  pins = λ e. rw e;
  mark = λ e. rw e;
  spare = λ e. rw e;
}
