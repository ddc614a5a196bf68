use Rattle.std.proofs.Common.{ap, [], ◌∷◌, true, refl, sym, ◌∙◌, subst}
use Rattle.seize_machine.specs.Machine.Event.{ExchangeLink}
use Rattle.seize_machine.specs.declared.machine.event.Exchange.TheVariants.{Swap}
use Rattle.seize_book.specs.Entry.{Made}
use Rattle.seize_words.specs.Atomic.{TakesStep as Took, entries}
use Rattle.seize_words.specs.LinkSites.{site_in}
use Rattle.seize_words.specs.LinkWords.{link_number, value_held}
use Rattle.seize_words.specs.Links.{IsNewIn}
use Rattle.seize_words.specs.Stepping.{MayStepFor}
use Rattle.seize_book.specs.Tokens.{Name}
use Rattle.seize_words.specs.Words.{Site}
use Rattle.seize_book.proofs.Bounds.{size_itself}
use Rattle.seize_words.proofs.Exchanged.{came_out, is_at, is_out, knows_all, still_one, taken}
use Rattle.seize_words.proofs.Exchanges.{may_swap_link}
use Rattle.seize_words.proofs.link.Link.swap.Goals as goal

pub swap_in-requires : goal.swap_in-requires
swap_in-requires c =
    let link = c.args.self.now in let a = c.args.activation.now in let pass = c.args.pass.now in let in_ = c.requires.within in let l = link_number link in let value = c.args.value.now in let held = value.keys.held in
    let fresh = subst (λ (n : Name). IsNewIn n (value_held value) held) in_.book.0 c.requires.new.1 in
    let may = may_swap_link pass.name a.slot a.life l a.since pass.seen in_.within pass.id pass.size c.args.new held value.value fresh c.requires.new.2 c.args.permit.now.codes c.requires.rule.1 in (
      ap (λ (t : Site). t.name) c.shared.ensures ∙ in_.book.0,
      c.requires.new.0 ∙ in_.book.0,
      c.requires.rule.0,
      subst (λ (t : Site). MayStepFor c.args.permit.now.codes [] t pass.id pass.seen held (a.life ∷ []) [] (λ v. c.args.new) (λ v log. Made (record { pass = pass.id; size = pass.size; event = ExchangeLink a.slot t.number (Swap (value_held value)); life = 0; kepts = [] })) (λ v. true))
          (sym (c.shared.ensures ∙ is_at (site_in link.word) pass.name in_.book.0 link.link)) may,
      λ v log. size_itself pass.size,
    )

pub returns : goal.returns
returns c =
    let link = c.args.self.now in let a = c.args.activation.now in let pass = c.args.pass.now in let in_ = c.requires.within in let l = link_number link in let value = c.args.value.now in
    let ev = ExchangeLink a.slot l (Swap (value_held value)) in
    let told = subst (λ (t : Site). Took t value.keys pass c.swap_in.new.keys c.swap_in.new.pass (a.life ∷ []) (λ v. c.args.new) c.swap_in.result (entries pass 0 (λ v log. ExchangeLink a.slot t.number (Swap (value_held value)))) (λ v. true))
    (c.shared.ensures ∙ is_at (site_in link.word) pass.name in_.book.0 link.link) c.swap_in.ensures in
    record {
      swaps = (
        taken link a pass c.swap_in.new.pass in_ value.keys c.swap_in.new.keys (λ v. c.args.new) c.swap_in.result ev (λ v. true) told,
        told.1,
        came_out link a pass c.swap_in.new.pass in_ value.keys c.swap_in.new.keys (λ v. c.args.new) c.swap_in.result ev (λ v. true) told refl,
        is_out link a pass c.swap_in.new.pass in_ value.keys c.swap_in.new.keys (λ v. c.args.new) c.swap_in.result ev (λ v. true) told (Swap (value_held value)) (c.requires.new.0 ∙ in_.book.0) refl refl refl,
        knows_all link a pass c.swap_in.new.pass in_ value.keys c.swap_in.new.keys (λ v. c.args.new) c.swap_in.result ev (λ v. true) told,
      );
    }

pub invariant_of-value : goal.invariant_of-value
invariant_of-value c =
    let link = c.args.self.now in let a = c.args.activation.now in let pass = c.args.pass.now in let in_ = c.requires.within in let l = link_number link in let value = c.args.value.now in
    let ev = ExchangeLink a.slot l (Swap (value_held value)) in
    let told = subst (λ (t : Site). Took t value.keys pass c.swap_in.new.keys c.swap_in.new.pass (a.life ∷ []) (λ v. c.args.new) c.swap_in.result (entries pass 0 (λ v log. ExchangeLink a.slot t.number (Swap (value_held value)))) (λ v. true))
    (c.shared.ensures ∙ is_at (site_in link.word) pass.name in_.book.0 link.link) c.swap_in.ensures in
    record { value = still_one link a pass c.swap_in.new.pass in_ value.keys c.swap_in.new.keys (λ v. c.args.new) c.swap_in.result ev (λ v. true) told value.value }
