-- Which arrays have room for a job.
use Rattle.std.specs.Prelude.{ℕ, ◌*◌, ◌<◌, ◌≤◌}
use Rattle.job.specs.declared.Job.{Job}

-- Arrays of these lengths have room for a job: masks of l lines; p pins, w words of lines, b words of inputs and of states; tables of t bytes, a row a
-- unit; u numbers, one a unit and one more; and e bytes of extras. And they are no longer than the longest.
pub record RoomFor (job : Job) (l p w b t u e : ℕ) : Type 0 where
  pub lines : job.lines ≤ l
  pub pins : 4 * job.lines ≤ p
  pub words : 2 * job.lines ≤ w
  pub inputs : 2 * job.inputs ≤ b
  pub flops : 2 * job.flops ≤ b
  pub states : job.units * job.flops ≤ t
  pub responses : job.units * job.outputs ≤ t
  pub units : job.units < u
  pub extras : 24 * job.flops ≤ e
  pub few_lines : l ≤ 4096
  pub few_pins : p ≤ 16384
  pub few_words : w ≤ 8192
  pub few_bits : b ≤ 512
  pub short_table : t ≤ 262144
  pub few_units : u ≤ 1025
  pub few_extras : e ≤ 6144

-- a job that the shortest arrays have room for
pub record Short (job : Job) : Type 0 where
  pub lines : job.lines ≤ 128
  pub inputs : job.inputs ≤ 32
  pub flops : job.flops ≤ 32
  pub outputs : job.outputs ≤ 32
  pub units : job.units ≤ 16

-- a job whose tables, of responses and of states, short arrays have room for
pub record ShortTables (job : Job) : Type 0 where
  pub states : job.units * job.flops ≤ 4096
  pub responses : job.units * job.outputs ≤ 4096
