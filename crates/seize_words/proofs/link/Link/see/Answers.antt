use Rattle.std.proofs.Common.{List, [], ◌∷◌, false, sym, ◌∙◌, ap, subst}
use Rattle.seize_machine.specs.Machine.Event.{ReadLink}
use Rattle.seize_machine.specs.Machine.State.{link_at}
use Rattle.seize_words.specs.Atomic.{FindsFor, MayTakeStep, TakesStep as Took, entries}
use Rattle.seize_book.specs.Book.{after}
use Rattle.seize_words.specs.LinkSites.{site_in}
use Rattle.seize_words.specs.LinkWords.{link_number}
use Rattle.seize_words.specs.Words.{Site}
use Rattle.seize_book.specs.Ledger.{HeldKey}
use Rattle.seize_book.specs.Entry.{Entry, Made}
use Rattle.seize_words.specs.Stepping.{MayStep}
use Rattle.seize_book.specs.Tokens.{Name, start}
use Rattle.seize_book.specs.declared.book.keys.Keys.{Keys}
use Rattle.seize_book.specs.declared.book.pass.Pass.{Pass}
use Rattle.seize_book.proofs.Bounds.{size_itself}
use Rattle.seize_words.proofs.Exchanged.{is_at, read_later, taken}
use Rattle.seize_words.proofs.Exchanges.{may_read_link, read_finds}
use Rattle.seize_words.proofs.link.Link.see.Goals as goal

pub see_in-requires : goal.see_in-requires
see_in-requires c =
    let link = c.args.self.now in let a = c.args.activation.now in let pass = c.args.pass.now in let in_ = c.requires.within in let l = link_number link in
    let may = may_read_link pass.name a.slot a.life l a.since pass.seen in_.within pass.id pass.size in
    let finds = read_finds pass.name a.slot a.life l a.since pass.seen in_.within pass.id pass.size in (
      ap (λ (t : Site). t.kind) c.shared.ensures ∙ link.link,
      subst (λ (t : Pass × Keys). MayTakeStep c.shared.result.now t.1 t.0 (a.life ∷ []) [] (λ v. v) (entries t.0 0 (λ v log. ReadLink a.slot c.shared.result.now.number)) (λ v. false)) (λ j. (sym c.empty-keys.ensures.2 j, c.empty-keys.result)) (
        ap (λ (t : Site). t.name) c.shared.ensures ∙ in_.book.0,
        c.empty-keys.ensures.0,
        subst (λ (t : Site × List (HeldKey Entry)). MayStep t.0 pass.id pass.seen t.1 (a.life ∷ []) [] (λ v. v) (λ v log. Made (record { pass = pass.id; size = pass.size; event = ReadLink a.slot t.0.number; life = 0; kepts = [] })) (λ v. false))
            (λ j. (sym (c.shared.ensures ∙ is_at (site_in link.word) pass.name in_.book.0 link.link) j, sym c.empty-keys.ensures.1 j)) may,
        λ v log. size_itself pass.size,
      ),
      subst (λ (t : Site × (Pass × List (HeldKey Entry))). FindsFor t.0 t.1.0 t.1.1 a.life (entries t.1.0 0 (λ v log. ReadLink a.slot t.0.number)) (λ v. false))
          (λ j. (sym (c.shared.ensures ∙ is_at (site_in link.word) pass.name in_.book.0 link.link) j, (sym c.empty-keys.ensures.2 j, sym c.empty-keys.ensures.1 j))) (λ v t log found e w is. finds v t log found w is),
    )

pub returns : goal.returns
returns c =
    let link = c.args.self.now in let a = c.args.activation.now in let pass = c.args.pass.now in let in_ = c.requires.within in let l = link_number link in let pass' = c.see_in.new.pass in
    let took = subst (λ (t : Site × Pass). Took t.0 c.empty-keys.result t.1 c.see_in.new.keys pass' (a.life ∷ []) (λ v. v) c.see_in.result.0 (entries t.1 0 (λ v log. ReadLink a.slot t.0.number)) (λ v. false))
    (λ j. ((c.shared.ensures ∙ is_at (site_in link.word) pass.name in_.book.0 link.link) j, c.empty-keys.ensures.2 j)) c.see_in.ensures.0 in
    record {
      sees = (
        taken link a pass pass' in_ c.empty-keys.result c.see_in.new.keys (λ v. v) c.see_in.result.0 (ReadLink a.slot l) (λ v. false) took,
        c.see_in.ensures.1 ∙ (ap (λ (t : Site). link_at (after (start t.name) pass'.seen) t.number) c.shared.ensures ∙ ap (λ (n : Name). link_at (after (start n) pass'.seen) l) in_.book.0 ∙ read_later link a pass pass' in_ c.empty-keys.result c.see_in.new.keys c.see_in.result.0 took),
      );
    }
