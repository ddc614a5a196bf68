-- What the calls of a guard make, as users see it, with its unit of the slot's activation.
use Rattle.std.proofs.Common.{◌≡◌, ◌-◌, ◌^◌, ◌<◌, ap, length, true, ℕ, List, false, Option, None, Some, IfSome, is_some, refl, sym, subst, ◌∙◌}
use Rattle.std.proofs.lemmas.Bool.{false≢true}
use base.Growing.{prefix_trans}
use base.Stored.{Gv}
use Rattle.seize_machine.specs.Machine.State.{head_at, is_active}
use Rattle.seize_book.specs.Book.{after}
use Rattle.seize_words.specs.Joined.{IsInAt}
use Rattle.seize_calls.proofs.Slots.{longer_right}
use Rattle.seize_machine.specs.Machine.Event.{ExchangeLink, ReadLink}
use Rattle.seize_machine.specs.declared.machine.event.Answer.TheVariants.{Link as Held}
use Rattle.seize_machine.specs.declared.machine.event.Exchange.TheVariants.{Compare, Swap}
use Rattle.seize_book.specs.Books.{Learns}
use Rattle.seize_book.specs.declared.book.pass.Pass.{Pass}
use Rattle.seize_book.specs.declared.book.seen.Seen.{Seen}
use Rattle.seize_words.specs.Chunks.{IsFoundAs}
use Rattle.seize_words.specs.LinkWords.{CompareExchanges, Finds, Swaps, held_before, link_number, value_held}
use Rattle.seize_words.specs.declared.activation.Activation.{Activation}
use Rattle.seize_words.specs.declared.glimpse.Found.{Found}
use Rattle.seize_words.specs.declared.glimpse.Glimpse.{Glimpse}
use Rattle.seize_words.specs.declared.link.Link.{Link}
use Rattle.seize_words.specs.declared.link.MaybeKey.{MaybeKey}
use Rattle.seize_guards.specs.Links.{ShowsIn, shared_book, shared_name, shared_value}
use Rattle.seize_parts.specs.Makes.{MakesNone, MakesOne}
use Rattle.seize_parts.specs.Reservations.{IsUnit}
use Rattle.seize_guards.specs.declared.block.shared.Shared.{Shared}
use Rattle.seize_book.specs.Entry.{Entry}
use Rattle.seize_book.specs.Laws.{Reader}
use Rattle.seize_book.specs.Tokens.{Name, start}
use Rattle.seize_words.specs.Lasted.{IsOfActivation}
use Rattle.seize_words.specs.declared.lasting.Lasting.{Lasting}
use Rattle.seize_guards.specs.Exchanges.{FoundIn}
use Rattle.seize_parts.specs.Reservations.{IsHeadFor, place_label}
use Rattle.seize_words.specs.Joined.{words_book}
use Rattle.seize_guards.specs.Guards.{guard_collector, guard_slot}
use Rattle.seize_words.specs.declared.words.Words.{Words}
use Rattle.seize_guards.specs.declared.guard.local.LocalGuard.{LocalGuard}
use Rattle.seize_guards.specs.declared.parts.Home.{Ghosts}
use Rattle.seize_guards.proofs.LinkSteps.{link_compares, link_finds, link_swaps}
use Rattle.seize_parts.proofs.Made.{none_learned, none_then}

-- The place of a local guard lies with its registration
pub guard_place : {T R C : Type 0} {H : Ghosts C T} (guard : LocalGuard T R C H) → guard.registration.now.reservation ≡ place_label (words_book (guard_collector guard)) (guard_slot guard) (2 ^ 64 - 1)
guard_place {T} guard = guard.registration.now.at ∙ ap (λ (t : Words T × ℕ). place_label (words_book t.0) t.1 (2 ^ 64 - 1)) (λ j. (sym guard.its.0 j, sym guard.its.1 j))

-- as does the head;
pub guard_head : {T R C : Type 0} {H : Ghosts C T} (guard : LocalGuard T R C H) → IsHeadFor (words_book (guard_collector guard)) (guard_slot guard) guard.registration.now.head.now
guard_head {T} guard =
    subst (λ (t : Words T × ℕ). IsHeadFor (words_book t.0) t.1 guard.registration.now.head.now) (λ j. (sym guard.its.0 j, sym guard.its.1 j)) guard.registration.now.headed

-- Once a pass has learned that its activation began, a guard may step on each link.
pub unit_at : (n : Name) (s : ℕ) (unit : Activation) (seen : Seen) → IsUnit n s unit seen → (pass learned ready : Pass) → pass.name ≡ n → Learns pass seen learned → ready ≡ learned → (l : ℕ) → l < length n.links → IsInAt unit ready l
unit_at n s unit seen its pass learned ready book learns same l less =
    let name : unit.name ≡ learned.name = its.0.same ∙ its.0.book ∙ sym book ∙ sym learns.0.0 in
    subst (λ (p : Pass). IsInAt unit p l) (sym same) (
      name,
      record {
        active = subst (λ (m : Name). is_active (head_at (after (start m) unit.since) unit.slot) ≡ true) name its.0.active;
        its = its.0.its;
        known = prefix_trans unit.since seen.seen learned.seen its.1 (longer_right pass.seen seen.seen learned.seen learns.2);
        is_link = subst (λ (m : Name). l < length m.links) (sym book ∙ sym learns.0.0) less;
      },
    )

module _ (n : Name) (s : ℕ) (unit : Activation) (seen : Seen) (its : IsUnit n s unit seen) (number : ℕ) (link : Link) (at : link_number link ≡ number) (pass learned : Pass) (learns : Learns pass seen learned) where
  -- a read of a link, once the pass has learned that the activation began
  pub guard_finds : (pass' : Pass) (v : ℕ) (t : Finds link unit learned pass' v) → MakesOne pass pass' (ReadLink (s) number) (Held (held_before t.reads))
  guard_finds pass' v t =
      subst (λ (k : ℕ × ℕ). MakesOne pass pass' (ReadLink k.0 k.1) (Held (held_before t.reads))) (λ j. (its.0.slot j, at j))
      (none_then (none_learned pass seen learned learns) (link_finds link unit learned pass' v t))

  -- an exchange
  pub guard_swaps : (key : MaybeKey) (ready : Pass) (key' : MaybeKey) (pass' : Pass) (v : ℕ) → ready ≡ learned → (t : Swaps link unit key ready key' pass' v)
      → MakesOne pass pass' (ExchangeLink (s) number (Swap (value_held key))) (Held (held_before t.0))
  guard_swaps key ready key' pass' v same t =
      subst (λ (k : ℕ × ℕ). MakesOne pass pass' (ExchangeLink k.0 k.1 (Swap (value_held key))) (Held (held_before t.0))) (λ j. (its.0.slot j, at j))
      (none_then (subst (MakesNone pass) (sym same) (none_learned pass seen learned learns)) (link_swaps link unit key ready key' pass' v t))

  -- and one that compares
  pub guard_compares : (key : MaybeKey) (ready : Pass) (current : Option ℕ) (key' : MaybeKey) (pass' : Pass) (v : ℕ) (glimpse : Glimpse) → ready ≡ learned → (t : CompareExchanges link unit key ready current key' pass' v glimpse)
      → MakesOne pass pass' (ExchangeLink (s) number (Compare current (value_held key))) (Held (held_before t.0))
  guard_compares key ready current key' pass' v glimpse same t =
      subst (λ (k : ℕ × ℕ). MakesOne pass pass' (ExchangeLink k.0 k.1 (Compare current (value_held key))) (Held (held_before t.0))) (λ j. (its.0.slot j, at j))
      (none_then (subst (MakesNone pass) (sym same) (none_learned pass seen learned learns)) (link_compares link unit key ready current key' pass' v glimpse t))

-- What a read shows: nothing, where the link held nothing;
pub shows_none : {T X : Type 0} (n : Name) (code : T → Gv) (held : Option ℕ) (found : Option X) (shared : Option (Shared T)) → is_some found ≡ is_some held → found ≡ None → shared ≡ None → ShowsIn n code held shared
shows_none {T} {X} n code held found shared same none is =
    subst (ShowsIn n code held) (sym is) (none_held held (subst (λ (o : Option X). is_some o ≡ is_some held) none same))
  where
    none_held : (o : Option ℕ) → false ≡ is_some o → o ≡ None
    none_held None same = refl
    none_held (Some v) same = absurd (false≢true same)

-- and else the value that was found
pub shows_found : {T : Type 0} (n : Name) (code : T → Gv) (held : Option ℕ) (result : Option (Found T)) (found : Found T) (shared : Shared T)
    → IfSome result (λ f. (f.glimpse.value ≡ held) × IsFoundAs f.glimpse.value (code f.value.now)) → result ≡ Some found
    → (shared_name shared ≡ found.glimpse.value) × (shared_value shared ≡ found.value.now) × (shared_book shared ≡ n)
    → ((v : ℕ) → held ≡ Some v → Reader (start n) shared.lasting.seen v shared.lasting.life) → ShowsIn n code held (Some shared)
shows_found {T} n code held result found shared finds is so read =
    let f = subst (λ (r : Option (Found T)). IfSome r (λ f. (f.glimpse.value ≡ held) × IsFoundAs f.glimpse.value (code f.value.now))) is finds in
    (so.0 ∙ f.0, (so.2, subst (λ (t : Option ℕ × T). IsFoundAs t.0 (code t.1)) (λ j. (sym so.0 j, sym so.1 j)) f.1, λ v named. read v (sym (so.0 ∙ f.0) ∙ named)))

-- What a guard has found is read in the activation that lasts.
pub is_read : (a : Activation) (pass : Pass) (l : Lasting) (n : Name) (held : Option ℕ) → pass.name ≡ n → IsOfActivation a pass l → FoundIn a held pass → (v : ℕ) → held ≡ Some v → Reader (start n) l.seen v l.life
is_read a pass l n held book of found v is =
    subst (λ (t : (Name × List Entry) × ℕ). Reader (start t.0.0) t.0.1 v t.1) (λ j. ((book j, sym of.2 j), sym of.1 j)) (found v is)
