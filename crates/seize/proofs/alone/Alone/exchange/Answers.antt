use Rattle.std.proofs.Common.{◌≡◌, ℕ, ◌<◌, List, Option, None, get_or, length, option_map, refl, set, sym, ap, subst, ◌∙◌, IfSome, arith}
use Rattle.std.proofs.lemmas.List.{get_or-set_same, length-set}
use mathlib.Core.List.{IsPrefix}
use Rattle.seize_machine.specs.Machine.State.{link_at as held_at}
use Rattle.seize_model.specs.Waiting.Calls.{model_link, no_guard}
use Rattle.seize_model.specs.Waiting.State.{ModelState, has_guard, model_slot}
use Rattle.seize_book.specs.Entry.{Entry}
use Rattle.seize_book.specs.Homesteads.{state_seen}
use Rattle.seize_book.specs.Tokens.{Name}
use Rattle.seize_book.specs.declared.book.sizes.Sizes.{Sizes}
use Rattle.seize_words.specs.Joined.{words_book}
use Rattle.seize_words.specs.declared.blocks.Blocks.{Blocks}
use Rattle.seize_alone.specs.Holding.{Holds}
use Rattle.seize_alone.proofs.Singles.{link_held, swaps_held}
use Rattle.seize.specs.Alones.{View}
use Rattle.seize_parts.specs.Blocks.{Belongs, content}
use Rattle.seize_parts.specs.Enders.{IsEnderOf}
use Rattle.seize_parts.specs.Placing.{ArePlaces, Lies}
use Rattle.seize.specs.Looks.{with_link}
use Rattle.seize.specs.Stillness.{LinksHold}
use Rattle.seize_parts.proofs.Lying.{place_is}
use Rattle.seize_parts.proofs.Parting.{unit_some}
use Rattle.seize.proofs.Linked.{named_value, one_link, out_has, out_value}
use Rattle.seize.proofs.Lone.{held_place, made_grows}
use Rattle.seize.proofs.Reclaimed.{may_act}
use Rattle.seize.proofs.Still.{alone_swapped, stand_swapped}
use Rattle.seize.proofs.alone.Alone.exchange.Goals as goal

pub exchange_at-old-requires : goal.exchange_at-old-requires
exchange_at-old-requires g c =
    let a = c.self.invariant in let inside = c.self.inside in let s = c.args.s in let words = inside.words in let n = words_book words in let st = inside.hands.state in let link = c.args.link in let unit = c.unit_at.result.now in
    let there = subst (λ (n : Name). link < length n.links) (sym words.linked) (subst (λ (m : ℕ). link < m) (ap (λ (v : View g.row.T.Denot). v.links) (sym c.self.view_is)) c.requires.range) in
    let used = (may_act st s (ap (λ (v : View g.row.T.Denot). no_guard v.state s) c.self.view_is ∙ c.requires.guard)).0 in let place = held_place (get_or inside.places.items s None) unit c.unit_at.ensures in
    let is = place_is n st inside.places.items a.placed s used place.0 place.1 in let its = unit_some n s place.0.unit unit (has_guard (model_slot st s)) (ap (λ (t : Lies). t.1.1.1.0) is.0) place.2 in (
      omega arith,
      (
        (a.knows.for, a.knows.sole, its.2),
        (
          (there, (get_or inside.hands.held link None, (a.stand link there).0)),
          (subst (IsEnderOf words) (sym c.deref.ensures) a.ends, subst (λ (v : View g.row.T.Denot). IfSome c.args.new (Belongs g.R.Puts.owners v.book.store)) (sym c.self.view_is) c.requires.own),
        ),
      ),
    )

pub out-old-requires-clause-content : goal.out-old-requires-clause-content
out-old-requires-clause-content g c =
    let hands = c.self.inside.hands in let gives = c.exchange_at-old.ensures.makes in let code = g.row.T.coded.code in let link = c.args.link in let pass' = c.exchange_at-old.new.pass in let new : Option g.row.T.Denot = option_map content c.args.new in
    let swapped = swaps_held g.row.T.coded hands.state hands.names hands.kinds c.unit_at.result.now.number link gives.0 gives.1 new c.self.inside.pass pass' gives.2 c.self.invariant.knows.holds (named_value code c.args.new gives.0 gives.3) in
    out_has g.row.T.coded gives.1 (model_link hands.state link) swapped.1 c.exchange_at-old.result gives.4

pub of-requires : goal.of-requires
of-requires g c =
    let hands = c.self.inside.hands in let gives = c.exchange_at-old.ensures.makes in let code = g.row.T.coded.code in let link = c.args.link in let pass' = c.exchange_at-old.new.pass in let new : Option g.row.T.Denot = option_map content c.args.new in
    let swapped = swaps_held g.row.T.coded hands.state hands.names hands.kinds c.unit_at.result.now.number link gives.0 gives.1 new c.self.inside.pass pass' gives.2 c.self.invariant.knows.holds (named_value code c.args.new gives.0 gives.3) in
    (with_link hands.state link new, swapped.0.0, hands.kinds, set hands.held link (held_at (state_seen pass') link), ((new, refl), swapped.0.1, refl))

pub invariant_of-self : goal.invariant_of-self
invariant_of-self g c =
    let a = c.self.invariant in let inside = c.self.inside in let st = inside.hands.state in let new : Option g.row.T.Denot = c.of.ensures.0.0 in
    let now : c.of.result.state ≡ with_link st c.args.link new = c.of.ensures.0.1 in
    let code = g.row.T.coded.code in let link = c.args.link in let did = c.exchange_at-old.ensures in let pass' = c.exchange_at-old.new.pass in let words' = c.exchange_at-old.new.words in let exchanged = with_link st link new in
    let holds : Holds code exchanged c.of.result.names c.of.result.kinds pass'.name pass'.seen = subst (λ (x : ModelState g.row.T.Denot ℕ). Holds code x c.of.result.names c.of.result.kinds pass'.name pass'.seen) now c.of.ensures.1 in
    let named : c.of.result.held ≡ set inside.hands.held link (held_at (state_seen pass') link) = c.of.ensures.2 in
    let below : link < length inside.hands.held = subst (λ (m : ℕ). link < m) (ap (λ (v : View g.row.T.Denot). v.links) (sym c.self.view_is) ∙ sym a.named) c.requires.range in
    let stand = stand_swapped code inside.words.links words'.links st inside.hands.held link new (held_at (state_seen pass') link) did.words.2 did.stands (link_held g.row.T.coded exchanged c.of.result.names c.of.result.kinds pass'.name pass'.seen link holds) below a.stand in
    let placed : ArePlaces (words_book inside.words) exchanged inside.places.items = record { lie = a.placed.lie; sound = a.placed.sound } in
    alone_swapped a did.makes.2.same words' did.words.0 did.words.1 c.of.result
    (ap (λ (x : ModelState g.row.T.Denot ℕ). length x.slots) now)
    (ap (λ (x : ModelState g.row.T.Denot ℕ). x.size) now)
    (ap (λ (x : ModelState g.row.T.Denot ℕ). length x.links) now ∙ length-set st.links link new)
    (ap (λ (os : List (Option ℕ)). length os) named ∙ length-set inside.hands.held link (held_at (state_seen pass') link))
    (subst (λ (t : List (Option ℕ) × ModelState g.row.T.Denot ℕ). LinksHold code words'.links t.0 t.1.links) (λ j. (sym named j, sym now j)) stand)
    (subst (λ (x : ModelState g.row.T.Denot ℕ). ArePlaces (words_book inside.words) x inside.places.items) (sym now) placed)
    c.of.ensures.1

pub returns-clause-held : goal.returns-clause-held
returns-clause-held g c =
    let hands = c.self.inside.hands in let gives = c.exchange_at-old.ensures.makes in let code = g.row.T.coded.code in let link = c.args.link in let pass' = c.exchange_at-old.new.pass in let new : Option g.row.T.Denot = option_map content c.args.new in
    let swapped = swaps_held g.row.T.coded hands.state hands.names hands.kinds c.unit_at.result.now.number link gives.0 gives.1 new c.self.inside.pass pass' gives.2 c.self.invariant.knows.holds (named_value code c.args.new gives.0 gives.3) in
    out_value g.row.T.coded gives.1 (model_link hands.state link) swapped.1 c.exchange_at-old.result c.out-old.result gives.4 c.out-old.ensures ∙ ap (λ (v : View g.row.T.Denot). model_link v.state c.args.link) c.self.view_is

pub returns-clause-state : goal.returns-clause-state
returns-clause-state g c =
    let hands = c.self.inside.hands in let gives = c.exchange_at-old.ensures.makes in let code = g.row.T.coded.code in let link = c.args.link in let pass' = c.exchange_at-old.new.pass in let new : Option g.row.T.Denot = option_map content c.args.new in
    let swapped = swaps_held g.row.T.coded hands.state hands.names hands.kinds c.unit_at.result.now.number link gives.0 gives.1 new c.self.inside.pass pass' gives.2 c.self.invariant.knows.holds (named_value code c.args.new gives.0 gives.3) in
    let picked : Option g.row.T.Denot = c.of.ensures.0.0 in let now : c.of.result.state ≡ with_link hands.state link picked = c.of.ensures.0.1 in
    let same : picked ≡ new = one_link g.row.T.coded hands.state link (subst (λ (m : ℕ). link < m) (ap (λ (v : View g.row.T.Denot). v.links) (sym c.self.view_is) ∙ sym c.self.invariant.linked) c.requires.range) picked new
    (subst (λ (x : ModelState g.row.T.Denot ℕ). Holds code x c.of.result.names c.of.result.kinds pass'.name pass'.seen) now c.of.ensures.1) swapped.0.1 in
    now ∙ ap (λ (x : Option g.row.T.Denot). with_link hands.state link x) same ∙ ap (λ (v : View g.row.T.Denot). with_link v.state link new) c.self.view_is

pub returns-clause-holds : goal.returns-clause-holds
returns-clause-holds g c =
    let st = c.args.self.now.state in let link = c.args.link in let new : Option g.row.T.Denot = option_map content c.args.new in
    let less : link < length st.links = subst (λ (v : View g.row.T.Denot). link < length v.state.links) c.self.view_is
    (subst (λ (m : ℕ). link < m) (ap (λ (v : View g.row.T.Denot). v.links) (sym c.self.view_is) ∙ sym c.self.invariant.linked) c.requires.range) in
    ap (λ (x : ModelState g.row.T.Denot ℕ). model_link x link) (returns-clause-state g c) ∙ get_or-set_same st.links link new None less

pub returns-clause-same : goal.returns-clause-same
returns-clause-same g c =
    let words = c.exchange_at-old.ensures.words in let is = c.self.view_is in let book = ap (λ (b : Blocks g.row.T.Denot). b.book.name) words.0 in (
      book ∙ ap (λ (v : View g.row.T.Denot). v.book) is,
      words.1 ∙ ap (λ (v : View g.row.T.Denot). v.size) is,
      words.4 ∙ ap (λ (v : View g.row.T.Denot). v.id) is,
      ap (λ (n : Name). length n.links) book ∙ ap (λ (v : View g.row.T.Denot). v.links) is,
      ap (λ (s : Sizes). s.most) words.3 ∙ ap (λ (v : View g.row.T.Denot). v.most) is,
    )

pub returns-clause-grows : goal.returns-clause-grows
returns-clause-grows g c = subst (λ (x : List Entry). IsPrefix x c.exchange_at-old.new.pass.seen) (ap (λ (v : View g.row.T.Denot). v.seen) c.self.view_is) (made_grows c.exchange_at-old.ensures.makes.2)
