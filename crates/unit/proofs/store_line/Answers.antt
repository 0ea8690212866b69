use Rattle.unit.proofs.store_line.Goals as goal

pub returns : goal.returns
returns c =
    record {
      value = c.seen_at.result;
      put = c.store.ensures;
      holds = λ t f ins st vs s li ei ls es h eh.
          c.seen_at.ensures t f _ _ s (c.behind_lanes-x.ensures t f ins st vs s li ei ls es h eh);
    }
