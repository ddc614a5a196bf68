use Rattle.std.proofs.Common.{◌≡◌, ◌≢◌, ℕ, Bool, ap, ◌==◌, List, [], ◌∷◌, Option, refl, sym, ◌∙◌, subst}
use Rattle.seize_machine.specs.Machine.State.{link_at}
use Rattle.seize_machine.specs.Machine.Event.{Event, ExchangeLink}
use Rattle.seize_machine.specs.declared.machine.event.Exchange.TheVariants.{Compare}
use Rattle.seize_book.specs.Entry.{Entry, Made}
use Rattle.seize_words.specs.Atomic.{FindsFor, TakesStep as Took, after_exchange, entries}
use Rattle.seize_book.specs.Blocks.{link_word}
use Rattle.seize_book.specs.Book.{after}
use Rattle.seize_words.specs.Glimpses.{value_shown}
use Rattle.seize_words.specs.LinkSites.{site_in}
use Rattle.seize_words.specs.LinkWords.{held_before, link_book, link_number, value_held}
use Rattle.seize_words.specs.Links.{IsNewIn, at_link}
use Rattle.seize_words.specs.Stepping.{MayStepFor}
use Rattle.seize_book.specs.Tokens.{Name, start}
use Rattle.seize_words.specs.Words.{Site}
use Rattle.seize_book.proofs.Bounds.{size_itself}
use Rattle.seize_book.proofs.Facts.{equal, unequal}
use Rattle.seize_words.proofs.Exchanged.{came_out, held_is, is_at, is_out, knows_all, link_kept, stayed, still_may, still_one, taken}
use Rattle.seize_words.proofs.Exchanges.{compare_finds, hit, is_current, may_compare_link, missed}
use Rattle.seize_words.proofs.Links.{stepped_first}
use Rattle.seize_words.proofs.link.Link.compare_exchange.Goals as goal

abbrev compares : ℕ → ℕ → Option ℕ → Option ℕ → Event
compares s l current o = ExchangeLink s l (Compare current o)

pub exchange_in-requires : goal.exchange_in-requires
exchange_in-requires g c =
    let link = c.args.self.now in let a = c.args.activation.now in let pass = c.args.pass.now in let in_ = c.requires.within in let l = link_number link in let value = c.args.value.now in let held = value.keys.held in
    let current = g.E.Expects.current in let n = link_word current in let seen = c.args.expected.now.word in let b = c.args.expected.now.lasting.life in let permit = c.args.permit.now in
    let fresh = subst (λ (z : Name). IsNewIn z (value_held value) held) in_.book.0 c.requires.new.1 in
    let may = may_compare_link pass.name a.slot a.life l a.since pass.seen in_.within b current c.requires.found pass.id held pass.size c.args.new value.value fresh c.requires.new.2 permit.codes c.requires.rule.1 in
    let finds = compare_finds pass.name a.slot a.life l a.since pass.seen in_.within pass.id pass.size current held fresh in
    let ev : ℕ → ℕ → List Entry → Entry = λ k v log. Made (record { pass = pass.id; size = pass.size; event = compares a.slot k current (value_held value); life = 0; kepts = [] }) in
    let steps : ℕ → Site → Type 0 = λ k t. MayStepFor permit.codes [] t pass.id pass.seen held (a.life ∷ b ∷ []) [] (after_exchange k c.args.new) (ev t.number) (λ v. v == k) in
    let founds : ℕ → Site → Type 0 = λ k t. FindsFor t pass held a.life (entries pass 0 (λ v log. compares a.slot t.number current (value_held value))) (λ v. v == k) in
    let site = sym (c.shared-word.ensures ∙ is_at (site_in link.word) pass.name in_.book.0 link.link) in let is : n ≡ seen = sym c.requires.seen in (
      ap (λ (t : Site). t.kind) c.shared-word.ensures ∙ link.link,
      (
        ap (λ (t : Site). t.name) c.shared-word.ensures ∙ in_.book.0,
        c.requires.new.0 ∙ in_.book.0,
        c.requires.rule.0,
        subst (steps seen) site (subst (λ (k : ℕ). steps k (at_link pass.name l)) is may),
        λ v log. size_itself pass.size,
      ),
      subst (founds seen) site (subst (λ (k : ℕ). founds k (at_link pass.name l)) is (λ v t log found e w at. finds v t log found e w at)),
    )

pub returns : goal.returns
returns g c =
    let link = c.args.self.now in let a = c.args.activation.now in let pass = c.args.pass.now in let in_ = c.requires.within in let l = link_number link in let value = c.args.value.now in
    let current = g.E.Expects.current in let o = value_held value in let seen = c.args.expected.now.word in let b = c.args.expected.now.lasting.life in let is_seen = c.requires.seen in
    let pass' = c.exchange_in.new.pass in let keys' = c.exchange_in.new.keys in let v = c.exchange_in.result.0 in let f = after_exchange seen c.args.new in let ev = compares a.slot l current o in let trades = λ (w : ℕ). w == seen in
    let both = subst (λ (t : Site). Took t value.keys pass keys' pass' (a.life ∷ b ∷ []) f v (entries pass 0 (λ v log. compares a.slot t.number current o)) trades) (c.shared-word.ensures ∙ is_at (site_in link.word) pass.name in_.book.0 link.link) c.exchange_in.ensures.0 in
    let told : Took (at_link pass.name l) value.keys pass keys' pass' (a.life ∷ []) f v (entries pass 0 (λ v log. ev)) trades = (both.0, both.1, stepped_first a.life (b ∷ []) both.2) in
    let t = taken link a pass pass' in_ value.keys keys' f v ev trades told in let step = both.2 in
    let held = held_before t in
    let there : Option ℕ = link_at (after (start (link_book link)) pass'.seen) l in
    let shows = c.exchange_in.ensures.1 ∙ ap (λ (t : Site). value_shown (v == seen) (link_at (after (start t.name) pass'.seen) t.number)) c.shared-word.ensures in
    let misses = λ (differs : v ≢ link_word current). missed current held o (λ x. differs (t.found ∙ x)) in
    record {
      exchanges = (
        t,
        told.1,
        (λ e. let won : held ≡ current = held_is link a pass pass' in_ value.keys keys' f v ev trades told current (is_current pass.name a.slot a.life l a.since pass.seen in_.within b current c.requires.found pass.id value.keys.held v step.since step.log step.found e) in (
          won,
          came_out link a pass pass' in_ value.keys keys' f v ev trades told (equal v seen (e ∙ sym is_seen)),
          is_out link a pass pass' in_ value.keys keys' f v ev trades told (Compare current o) (c.requires.new.0 ∙ in_.book.0) refl (hit current held o won) (equal v seen (e ∙ sym is_seen)),
          shows ∙ ap (λ (b : Bool). value_shown b there) (equal v seen (e ∙ sym is_seen)),
        )),
        (λ differs. (
          stayed link a pass pass' in_ value.keys keys' f v ev trades told (unequal v seen (λ x. differs (x ∙ is_seen))),
          still_may link a pass pass' in_ value.keys keys' f v ev trades told (Compare current o) (c.requires.new.0 ∙ in_.book.0)
              (subst (λ (n : Name). IsNewIn n o value.keys.held) in_.book.0 c.requires.new.1) refl (misses differs) (unequal v seen (λ x. differs (x ∙ is_seen))),
          shows ∙ (ap (λ (b : Bool). value_shown b there) (unequal v seen (λ x. differs (x ∙ is_seen))) ∙ (ap (λ (n : Name). link_at (after (start n) pass'.seen) l) in_.book.0
              ∙ link_kept link a pass pass' in_ value.keys keys' f v ev trades told (Compare current o) refl (misses differs))),
        )),
        knows_all link a pass pass' in_ value.keys keys' f v ev trades told,
      );
    }

pub invariant_of-value : goal.invariant_of-value
invariant_of-value g c =
    let link = c.args.self.now in let a = c.args.activation.now in let pass = c.args.pass.now in let in_ = c.requires.within in let l = link_number link in let value = c.args.value.now in
    let current = g.E.Expects.current in let seen = c.args.expected.now.word in let b = c.args.expected.now.lasting.life in
    let pass' = c.exchange_in.new.pass in let keys' = c.exchange_in.new.keys in let v = c.exchange_in.result.0 in let f = after_exchange seen c.args.new in let trades = λ (w : ℕ). w == seen in
    let both = subst (λ (t : Site). Took t value.keys pass keys' pass' (a.life ∷ b ∷ []) f v (entries pass 0 (λ v log. compares a.slot t.number current (value_held value))) trades) (c.shared-word.ensures ∙ is_at (site_in link.word) pass.name in_.book.0 link.link) c.exchange_in.ensures.0 in
    record { value = still_one link a pass pass' in_ value.keys keys' f v (compares a.slot l current (value_held value)) trades (both.0, both.1, stepped_first a.life (b ∷ []) both.2) value.value }
