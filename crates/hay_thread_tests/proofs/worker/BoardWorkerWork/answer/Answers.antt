use Rattle.std.proofs.Common.{◌≡◌, length, slice_get, rules, refl, ◌++◌, ◌∷◌, [], Some, List, sym, ap, subst, ◌∙◌}
use Rattle.hay_front.proofs.Prefixes.{prefix_trans}
use Rattle.hay_thread_tests.specs.Workers.{act_of}
use Rattle.hay_thread_tests.specs.LockedBoards.{IsOf, IsPosted, post_of}
use Rattle.hay_thread_tests.specs.declared.locked.Act.{Act}
use Rattle.hay_thread_tests.proofs.Boards.{at_end, row_shown, still_posted, behind_trans}
use Rattle.hay_thread_tests.proofs.Freeing.{may_free, goes_on}
use Rattle.hay_turn.specs.Slots.{acts_in}
use Rattle.hay_turn.specs.Seats.{after_free}
use Rattle.std.specs.Option.{IfSome}
use Rattle.hay_thread_tests.proofs.worker.BoardWorkerWork.answer.Goals as goal

pub free-requires-clause-may : goal.free-requires-clause-may
free-requires-clause-may g c = let hold = c.hold-locked.ensures in let post = c.post-place.ensures in let act : Act = act_of c.args.lane c.args.job.now in
    may_free (λ start acts d. IsOf start d.front d.posts acts) c.hold-locked.new.seat c.post-place.new.self act c.post-place.result _
    (λ start is. post.stands start c.hold-locked.new.seat.seen (hold.stands_for start (sym (ap (λ s. s.start) hold.same) ∙ is)))
    (ap (λ s. s.number) hold.same ∙ c.requires.number)
    (search rules)

pub returns-clause-answered : goal.returns-clause-answered
returns-clause-answered g c = let hold = c.hold-locked.ensures in let post = c.post-place.ensures in let look = c.look-front.ensures in
    let act : Act = act_of c.args.lane c.args.job.now in let place = c.in_ok-place.place in let start = c.requires.front in let history : List Act = c.hold-locked.new.seat.seen in
    let was : c.post-place.result ≡ Some place = c.in_ok-place.was in
    let told : acts_in c.if-is_some.made ≡ act ∷ [] = search rules in
    let of = hold.stands_for start.0 start.1 in
    let freed = c.free.ensures ∙ ap (after_free c.hold-locked.new.seat) told in
    let seen = ap (λ s. s.seen) freed in
    let at : place ≡ length history = subst (λ o. IfSome o (λ p. p ≡ c.hold-locked.result.posts)) was post.place ∙ of.many in
    let posted = subst (λ o. IfSome o (λ p. IsPosted c.post-place.new.view p (post_of act))) was (post.posted start.0 history of) in record {
      turn = refl;
      seat = goes_on c.args.self.now.seat c.hold-locked.new.seat c.free.new.seat (act ∷ []) hold.same c.requires.free freed;
      seen = prefix_trans c.args.self.now.seat.seen history c.free.new.seat.seen hold.seen (act ∷ [], sym seen);
      view = behind_trans c.args.self.now.view c.post-place.new.view c.look-front.new.self post.seen look.seen;
      placed = ap (λ l. slice_get l place) seen ∙ (ap (slice_get (history ++ act ∷ [])) at ∙ at_end history act);
      shown = row_shown c.look-front.new.self place (post_of act) c.look-front.result.1 (still_posted c.post-place.new.view c.look-front.new.self place (post_of act) look.seen posted) look.row;
    }
