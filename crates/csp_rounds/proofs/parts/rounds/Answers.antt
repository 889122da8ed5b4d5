use Rattle.std.proofs.Common.{get_or}
use Rattle.csp_rounds.proofs.Places.{all_zip, at_place}
use Rattle.csp_rounds.proofs.parts.rounds.Goals as goal

pub returns : goal.returns
returns g c =
    let does = λ (p q : g.row.W.Denot). g.W.Worker.does p c.args.shared.now c.args.now q in
    let before = c.args.posts.now in
    let after = c.for_each_chunk_mut.new.s in
    let by_chunks = c.for_each_chunk_mut.ensures.by_index in
    record {
      done = all_zip does before after c.for_each_chunk_mut.auto.s (λ k d less.
          let chunk = (by_chunks k d less).1 in
          at_place does chunk.argument.now chunk.after_call.now chunk.offset d (get_or before k d) (get_or after k d) chunk.call chunk.offset_in_chunk chunk.old_element chunk.new_element);
    }
