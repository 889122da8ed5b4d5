use Rattle.csp_posts.proofs.Books.{all_met, books_stay}
use Rattle.csp_posts.proofs.Sweeping.{all_both, all_of}
use Rattle.csp_posts.proofs.meeting.meet_all.Goals as goal

pub sweep-requires-2 : goal.sweep-requires-2
sweep-requires-2 c = record { of_it = all_of c.args.queues.now (c.meetings_keep_ends.ensures.of_it c.args.queues.now) c.args.posts.now c.sweep.new.posts c.sweep.ensures.heard c.requires.of_it }

pub returns-clause-heard : goal.returns-clause-heard
returns-clause-heard c = all_both c.meetings_add_up.ensures.both c.args.posts.now c.sweep.new.posts c.sweep-2.new.posts c.sweep.ensures.heard c.sweep-2.ensures.heard

pub returns-clause-books : goal.returns-clause-books
returns-clause-books c = λ books.
    books_stay c.sweep.new.posts c.sweep-2.new.posts c.sweep-2.ensures.heard c.sweep-2.ensures.counts
    (books_stay c.args.posts.now c.sweep.new.posts c.sweep.ensures.heard c.sweep.ensures.counts books)

pub returns-clause-met : goal.returns-clause-met
returns-clause-met c = λ books.
    let mid = books_stay c.args.posts.now c.sweep.new.posts c.sweep.ensures.heard c.sweep.ensures.counts books in
    let after = books_stay c.sweep.new.posts c.sweep-2.new.posts c.sweep-2.ensures.heard c.sweep-2.ensures.counts mid in
    all_met c.sweep.new.posts c.sweep-2.new.posts c.sweep-2.ensures.heard c.sweep.ensures.met mid c.sweep-2.ensures.met after c.sweep-2.ensures.informs
