use Rattle.std.proofs.Common.{◌≡◌, ℕ, ◌<◌, false, Option, Some, None, IfSome, get_or, length, is_some, refl, sym, ap, subst, ◌∙◌, arith}
use Rattle.seize_model.specs.Waiting.Calls.{model_link}
use Rattle.seize_book.specs.Blocks.{link_word}
use Rattle.seize_book.specs.Tokens.{Name}
use Rattle.seize_words.specs.Chunks.{IsFoundAs}
use Rattle.seize_words.specs.Glimpses.{IsLentWith}
use Rattle.seize_words.specs.declared.glimpse.Glimpse.{Glimpse}
use Rattle.seize_words.proofs.Facts.{is_lent}
use Rattle.seize.specs.Alones.{View, name_at}
use Rattle.seize.proofs.Linked.{no_value, one_value}
use Rattle.seize.proofs.alone.Alone.protect.Goals as goal

none_of : {A : Type 0} (o : Option A) → is_some o ≡ false → o ≡ None
none_of None is = refl
none_of (Some x) is = absurd (cc)

pub peek_link-requires : goal.peek_link-requires
peek_link-requires g c =
    let link = c.args.link in let inside = c.self.inside in let words = inside.words in let less = subst (λ (m : ℕ). link < m) (ap (λ (v : View g.row.T.Denot). v.links) (sym c.self.view_is)) c.requires.range in
    let held = get_or inside.hands.held link None in let s = c.self.invariant.stand link (subst (λ (n : Name). link < length n.links) (sym words.linked) less) in
    (omega arith, (less, (held, s.0)))

pub returns-in_default-clause-done : goal.returns-in_default-clause-done
returns-in_default-clause-done g c =
    let link = c.args.link in let inside = c.self.inside in let words = inside.words in let less = subst (λ (m : ℕ). link < m) (ap (λ (v : View g.row.T.Denot). v.links) (sym c.self.view_is)) c.requires.range in
    let held = get_or inside.hands.held link None in let s = c.self.invariant.stand link (subst (λ (n : Name). link < length n.links) (sym words.linked) less) in
    let told = c.peek_link.ensures.held held s.0 in let st = inside.hands.state in let view = ap (λ (v : View g.row.T.Denot). model_link v.state link) c.self.view_is in
    (c.in_ok-guarded.ensures.it.0, sym (no_value g.row.T.coded held (model_link st link) s.1 (none_of held (sym told.0 ∙ ap is_some c.in_default.is))) ∙ view)

pub sight-requires : goal.sight-requires
sight-requires g c =
    let link = c.args.link in let inside = c.self.inside in let words = inside.words in let less = subst (λ (m : ℕ). link < m) (ap (λ (v : View g.row.T.Denot). v.links) (sym c.self.view_is)) c.requires.range in
    let held = get_or inside.hands.held link None in let s = c.self.invariant.stand link (subst (λ (n : Name). link < length n.links) (sym words.linked) less) in
    let told = c.peek_link.ensures.held held s.0 in
    let to = subst (λ o. IfSome o (λ found. (found.0 ≡ link_word held) × (found.1.glimpse.value ≡ held) × IsFoundAs held (g.row.T.coded.code found.1.value.now))) c.in-Some.is told.1 in
    subst IsLentWith (sym (c.again.ensures.1 ∙ to.1 ∙ to.2.1)) (is_lent to.2.0 (g.row.T.coded.code c.in-Some.found.value.now) to.2.2)

pub show-requires : goal.show-requires
show-requires g c =
    let link = c.args.link in let inside = c.self.inside in let words = inside.words in let less = subst (λ (m : ℕ). link < m) (ap (λ (v : View g.row.T.Denot). v.links) (sym c.self.view_is)) c.requires.range in
    let held = get_or inside.hands.held link None in let s = c.self.invariant.stand link (subst (λ (n : Name). link < length n.links) (sym words.linked) less) in
    let told = c.peek_link.ensures.held held s.0 in let st = inside.hands.state in let view = ap (λ (v : View g.row.T.Denot). model_link v.state link) c.self.view_is in
    let to = subst (λ o. IfSome o (λ found. (found.0 ≡ link_word held) × (found.1.glimpse.value ≡ held) × IsFoundAs held (g.row.T.coded.code found.1.value.now))) c.in-Some.is told.1 in
    to.0 ∙ ap link_word (sym (ap (λ (x : Glimpse). x.value) c.again.ensures.0 ∙ to.1))

pub returns-clause-done : goal.returns-clause-done
returns-clause-done g c =
    let link = c.args.link in let inside = c.self.inside in let words = inside.words in let less = subst (λ (m : ℕ). link < m) (ap (λ (v : View g.row.T.Denot). v.links) (sym c.self.view_is)) c.requires.range in
    let held = get_or inside.hands.held link None in let s = c.self.invariant.stand link (subst (λ (n : Name). link < length n.links) (sym words.linked) less) in
    let told = c.peek_link.ensures.held held s.0 in let st = inside.hands.state in let view = ap (λ (v : View g.row.T.Denot). model_link v.state link) c.self.view_is in
    let to = subst (λ o. IfSome o (λ found. (found.0 ≡ link_word held) × (found.1.glimpse.value ≡ held) × IsFoundAs held (g.row.T.coded.code found.1.value.now))) c.in-Some.is told.1 in
    (c.in_ok-guarded.ensures.it.0, ap Some c.show.ensures.1 ∙ sym (one_value g.row.T.coded held (model_link st link) s.1 to.2.0 c.in-Some.found.value.now to.2.1 to.2.2) ∙ view)

pub returns-in_default-clause-which : goal.returns-in_default-clause-which
returns-in_default-clause-which g c =
    let link = c.args.link in let inside = c.self.inside in let words = inside.words in let less = subst (λ (m : ℕ). link < m) (ap (λ (v : View g.row.T.Denot). v.links) (sym c.self.view_is)) c.requires.range in
    let held = get_or inside.hands.held link None in let s = c.self.invariant.stand link (subst (λ (n : Name). link < length n.links) (sym words.linked) less) in
    let told = c.peek_link.ensures.held held s.0 in let view = ap (λ (v : View g.row.T.Denot). name_at v link) c.self.view_is in
    sym (none_of held (sym told.0 ∙ ap is_some c.in_default.is)) ∙ view

pub returns-clause-which : goal.returns-clause-which
returns-clause-which g c =
    let link = c.args.link in let inside = c.self.inside in let words = inside.words in let less = subst (λ (m : ℕ). link < m) (ap (λ (v : View g.row.T.Denot). v.links) (sym c.self.view_is)) c.requires.range in
    let held = get_or inside.hands.held link None in let s = c.self.invariant.stand link (subst (λ (n : Name). link < length n.links) (sym words.linked) less) in
    let told = c.peek_link.ensures.held held s.0 in let view = ap (λ (v : View g.row.T.Denot). name_at v link) c.self.view_is in
    let to = subst (λ o. IfSome o (λ found. (found.0 ≡ link_word held) × (found.1.glimpse.value ≡ held) × IsFoundAs held (g.row.T.coded.code found.1.value.now))) c.in-Some.is told.1 in
    c.show.ensures.0 ∙ ap (λ (x : Glimpse). x.value) c.again.ensures.0 ∙ to.1 ∙ view
