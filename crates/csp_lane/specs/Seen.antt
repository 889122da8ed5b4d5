-- how the ends show what their passes know
use Rattle.std.specs.Prelude.{◌≡◌, ℕ, ◌+◌, Option, None, Some, [], length}
use Rattle.crossbeam_queue.specs.Passes.{view}
use Rattle.csp_lane.specs.Ends.{PlainEnd}
use Rattle.csp_lane.specs.Relays.{writer, reader, terms_of}
use Rattle.csp_lane.specs.declared.ends.Producer.TheInside as producer
use Rattle.csp_lane.specs.declared.ends.Consumer.TheInside as consumer
use Rattle.csp_tally.specs.declared.tally.Witness.{Witness}

-- the end that puts, as contracts see it
abbrev pub plain_producer : producer.Inside → PlainEnd
plain_producer p = let v = view p.pass in record {
  lane = p.pass.table_id;
  room = v.room;
  region = v.token.name;
  carries = v.carries;
  tally = v.tally;
  about = v.about;
  items = v.put.items;
  marks = v.put.marks;
  known = v.known_gets;
}

-- the end that gets, as contracts see it
abbrev pub plain_consumer : consumer.Inside → PlainEnd
plain_consumer c = let v = view c.pass in record {
  lane = c.pass.table_id;
  room = v.room;
  region = v.token.name;
  carries = v.carries;
  tally = v.tally;
  about = v.about;
  items = v.got.items;
  marks = v.bounds;
  known = v.known_puts;
}

-- a producer's pass may put, and no slot is out with it; its tally has handed out a number for each item that was put
pub record IsProducer (p : producer.Inside) : Type 0 where
  pub idle : p.pass.me.1 ≡ []
  pub writes : view p.pass ≡ writer (terms_of (view p.pass)) (view p.pass).put (view p.pass).known_gets
  pub named : p.tally.name ≡ (view p.pass).tally
  pub counted : p.tally.count ≡ length (view p.pass).put.items

-- of so many items of a tally this is the last that was got, if any was
abbrev pub IsHeard : (tally n : ℕ) → Option Witness → Type 0
IsHeard tally n None = n ≡ 0
IsHeard tally n (Some w) = (w.name ≡ tally) × (w.number + 1 ≡ n)

-- a consumer's may get; it knows of the last item that it got, and has a bound for each mark
pub record IsConsumer (c : consumer.Inside) : Type 0 where
  pub idle : c.pass.me.1 ≡ []
  pub reads : view c.pass ≡ reader (terms_of (view c.pass)) (view c.pass).got (view c.pass).bounds (view c.pass).known_puts
  pub named : c.tally.name ≡ (view c.pass).tally
  pub heard : IsHeard (view c.pass).tally (length (view c.pass).got.items) c.heard
  pub level : length (view c.pass).got.marks ≡ length (view c.pass).bounds
