use Rattle.std.proofs.Common.{refl, ap, subst, ◌∙◌, arith, rules}
use base.Growing.{prefix_refl, prefix_trans}
use Rattle.std.proofs.lemmas.List.Elements.{All-same}
use Rattle.seize.specs.Running.{IsFrom}
use Rattle.seize.proofs.Running.{all_pushed, made_none_yet, made_next}
use Rattle.seize.proofs.alone.Alone.run.Goals as goal

pub loop-call-preserved : goal.loop-call-preserved
loop-call-preserved g c = record {
  made = made_next g.R.Puts.puts g.R.Puts.weight g.W.Watch.told g.R.Puts.owners c.args.self.now.book.store c.args.self.now.links
      c.args.calls.now.items c.loop-call.calls.items c.args.replies.now.items c.loop-call.replies.items c.push_reserved.new.self.items
      c.args.self.now.state c.loop-call.self.state c.reply-reply.new.self.state
      (g.W.Watch.seen c.args.watch.now) (g.W.Watch.seen c.loop-call.watch) (g.W.Watch.seen c.reply-reply.new.watch)
      c.in-Some.call c.pop_front.new.self.items c.reply-reply.result
      c.loop-call.invariant.made c.in-Some.ensures.items c.reply-reply.ensures.done c.push_reserved.ensures.items;
  same = (let s = c.reply-reply.ensures.same in let i = c.loop-call.invariant.same in (s.0 ∙ i.0, s.1 ∙ i.1, s.2 ∙ i.2, s.3 ∙ i.3, s.4 ∙ i.4));
  grows = prefix_trans c.args.self.now.seen c.loop-call.self.seen c.reply-reply.new.self.seen c.loop-call.invariant.grows c.reply-reply.ensures.grows;
  own = λ before. all_pushed (IsFrom g.R.Puts.owners c.args.self.now.book.store) c.loop-call.replies.items c.push_reserved.new.self.items c.reply-reply.result
      (c.loop-call.invariant.own before)
      (subst (λ a. IsFrom g.R.Puts.owners a c.reply-reply.result) (ap (λ n. n.store) c.loop-call.invariant.same.0) c.reply-reply.ensures.own) c.push_reserved.ensures.items;
  room = omega (arith, c.loop-call.invariant.room, c.in-Some.ensures.cases, c.push_reserved.ensures.len, c.push_reserved.ensures.capacity);
}

pub loop-call-init : goal.loop-call-init
loop-call-init g c = record {
  made = made_none_yet g.R.Puts.puts g.R.Puts.weight g.W.Watch.told g.R.Puts.owners c.args.self.now.book.store c.args.self.now.links
      c.args.calls.now.items c.args.replies.now.items c.reserve.new.self.items c.args.self.now.state (g.W.Watch.seen c.args.watch.now)
      c.requires c.in_ok-reserve.ensures.items;
  same = (refl, refl, refl, refl, refl);
  grows = prefix_refl c.args.self.now.seen;
  own = λ before. All-same (IsFrom g.R.Puts.owners c.args.self.now.book.store) c.reserve.new.self.items c.args.replies.now.items c.in_ok-reserve.ensures.items before;
  room = search rules;
}

pub returns-clause-grows : goal.returns-clause-grows
returns-clause-grows g c = c.loop-call.invariant.grows
