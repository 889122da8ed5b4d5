use Rattle.csp_world.specs.Record.{record_of}
use Rattle.csp_world.proofs.laws.is_consistent.Goals as goal

pub returns : goal.returns
returns c = λ scene w is after reached.
    let runs = c.holds_parts.ensures.runs scene w reached in
    let lanes = c.holds_parts.ensures.lanes scene w is after reached in
    record {
      runs = runs;
      lanes = lanes;
      inboxes = c.holds_parts.ensures.inboxes scene w is reached;
      numbers = c.holds_parts.ensures.numbers scene w reached;
      links = c.applies_plans.ensures scene (record_of w) runs;
      hubs = c.spreads_by_plans.ensures scene (record_of w) runs;
      origins = c.names_origins.ensures scene (record_of w) after runs lanes;
    }
