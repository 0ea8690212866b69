use mathlib.Core.Path.{◌≡◌, refl, sym, ap, ◌∙◌}
use mathlib.Core.Bool.{true≢false}
use mathlib.Core.List.{List}
use Prim.Native.Nat.{ℕ, suc, ◌*◌}
use native.Mathlib.Omega.{arith}
use native.Mathlib.Decide.{dec_le}
use lib.ListN.{length}
use Rattle.lists.specs.Scan.{gather}
use Rattle.lists.specs.Field.{overwritten}
use Rattle.lists.proofs.Scan.{gather-turn}
use Rattle.lists.proofs.Field.{written_behind}
use Rattle.model.specs.Inputs.{O, L, Fault}
use Rattle.model.specs.Simulation.{no_fault, power_up, state_at, outputs_at}
use Rattle.model.proofs.Runs.{length-line_values}
use Rattle.model.proofs.ThreeValued.{power_up-three, state_at-three}
use Rattle.run.proofs.Laws.{stuck-binary, state-turn, length-state, length-power_up, length-responses, length-states, states-turn}
use Rattle.fault.proofs.Tables.{response_rows, free-rows, state-rows}
use Rattle.fault.proofs.First.{first-none, first-met, both-shown}
use Rattle.fault.proofs.trace_beside.Goals.{In-loop-u}
use Rattle.fault.proofs.trace_beside.Goals as goal

-- how many bytes the responses of the units below u are
rows_long : (c t : List ℕ) (f : Fault) (o u : ℕ) → o ≡ O c → length (gather (λ u. outputs_at c t f (power_up c) u) u) ≡ o * u
rows_long c t f o u e = length-responses c t f (power_up c) u ∙ ap (λ n. n * u) (sym e)

pub loop-u-init : goal.loop-u-init
unfolding state_at gather overwritten
loop-u-init c = λ f s g. record {
  faulty_state = c.requires.1 0;
  free_state = c.requires.1 1;
  frees = refl;
  shown = refl;
  plain = refl;
  unopposed = λ v h. absurd (let z : ⊥ = omega (arith, h) in z);
}

pub returns-then-show_both : goal.returns-then-show_both
returns-then-show_both c = λ f s g.
    let pre = c.requires.0 in
    let before = c.loop-u.invariant f s g in
    let shows = both-shown f _ pre.circuit pre.test pre.hit_room s g _ before.faulty_state before.free_state c.values_at.ensures c.show_both.ensures in record {
      met = λ _. first-met _ _ f _ (omega (arith, pre.sizes.units)) (sym shows.2 ∙ c.if-show_both.true);
      unmet = λ e. absurd (true≢false e);
      tables = λ e. absurd (true≢false e);
    }

pub loop-u-preserved : goal.loop-u-preserved
loop-u-preserved c = λ f s g.
    let cs = c.args.setup.now.circuit.now in
    let ts = c.args.setup.now.test.now in
    let count = c.args.setup.now.job.flops in
    let pre = c.requires.0 in
    let u = c.loop-u.u in
    let power = power_up cs in
    let before = c.loop-u.invariant f s g in
    let values = c.values_at.ensures in
    let next = c.next_state.ensures in
    let shows = both-shown f u pre.circuit pre.test pre.hit_room s g _ before.faulty_state before.free_state values c.show_both.ensures in
    let long = length-state cs ts f power u (length-power_up cs) in
    let free_long = length-state cs ts no_fault power u (length-power_up cs) in record {
      faulty_state = rw (state-turn cs ts f power u) (next 0 f _ s (values 0 f _ s before.faulty_state long) (length-line_values cs f _ _));
      free_state = rw (state-turn cs ts no_fault power u) (next 1 no_fault _ g (values 1 no_fault _ g before.free_state free_long) (length-line_values cs no_fault _ _));
      frees = rw (gather-turn (λ u. outputs_at cs ts no_fault power u) u) (written_behind _ _ _ _ _ _ before.frees (rows_long cs ts no_fault _ _ pre.sizes.outputs) shows.0);
      shown = rw (gather-turn (λ u. outputs_at cs ts f power u) u) (written_behind _ _ _ _ _ _ before.shown (rows_long cs ts f _ _ pre.sizes.outputs) shows.1);
      plain =
          rw (states-turn cs ts f power count u)
          (written_behind _ _ _ _ _ _ before.plain (length-states cs ts f power count u (length-power_up cs) (omega (arith, pre.sizes.flops)))
          (c.write_state.ensures (state_at cs ts f power u) before.faulty_state (omega (arith, long, pre.sizes.flops))
          (state_at-three cs f (stuck-binary cs _ _ _ f pre.circuit pre.hit_room s) ts power u pre.test.bytes (power_up-three cs))));
      unopposed = λ v h. elim (dec_le (suc v) u) [
        | yes early ↦ before.unopposed v early
        | no late ↦ (let same : v ≡ u = omega arith in rw same (sym shows.2 ∙ c.if-show_both.false))
      ];
    }

pub returns : goal.returns
returns c = λ f s g.
    let cs = c.args.setup.now.circuit.now in
    let ts = c.args.setup.now.test.now in
    let end : c.loop-u.u ≡ L cs ts = omega (arith, c.requires.0.sizes.units) in
    let told = c.loop-u.invariant f s g in record {
      met = λ e. absurd (true≢false (sym e));
      unmet = λ _. first-none cs ts f (rw end at told.unopposed);
      tables = λ _. record {
        frees = free-rows cs ts _ _ (rw end at told.frees);
        shown = response_rows cs ts f _ _ (rw end at told.shown);
        plain = state-rows cs ts f _ _ _ c.requires.0.sizes.flops (rw end at told.plain);
      };
    }
