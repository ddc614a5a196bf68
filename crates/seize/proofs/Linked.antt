-- What exchanges of links make where the pass is alone, with a unit of the slot's activation.
use Rattle.std.proofs.Common.{◌≡◌, ℕ, ◌<◌, List, length, Option, None, Some, IfNone, IfSome, option_map, ap, refl, subst, sym, ◌∙◌}
use Rattle.std.proofs.lemmas.List.{get_or-set_same}
use base.Stored.{Coded, Gv}
use Rattle.seize_machine.specs.Machine.Event.{ExchangeLink}
use Rattle.seize_machine.specs.declared.machine.event.Answer.TheVariants.{Link as Held}
use Rattle.seize_machine.specs.declared.machine.event.Exchange.TheVariants.{Swap}
use Rattle.seize_machine.specs.Machine.State.{link_at as held_at}
use Rattle.seize_model.specs.Waiting.Calls.{model_link}
use Rattle.seize_model.specs.Waiting.State.{ModelState}
use Rattle.seize_alone.specs.Events.{IsHeldAs, MakesAlone}
use Rattle.seize_alone.specs.Holding.{Holds}
use Rattle.seize_alone.proofs.Ready.{swapped_alone}
use Rattle.seize_alone.proofs.Singles.{held_once, link_held}
use Rattle.seize_book.specs.Book.{after}
use Rattle.seize_book.specs.Entry.{Entry}
use Rattle.seize_book.specs.Books.{Learns}
use Rattle.seize_book.specs.Tokens.{IsSole, Name, start}
use Rattle.seize_book.specs.declared.book.pass.Pass.{Pass}
use Rattle.seize_book.specs.declared.book.seen.Seen.{Seen}
use Rattle.seize_words.specs.Joined.{words_book}
use Rattle.seize_words.specs.LinkWords.{Swaps, held_before, link_number, value_held}
use Rattle.seize_words.specs.declared.activation.Activation.{Activation}
use Rattle.seize_words.specs.declared.link.Link.{Link}
use Rattle.seize_words.specs.declared.link.MaybeKey.{MaybeKey}
use Rattle.seize_words.specs.declared.words.Words.{Words}
use Rattle.seize_calls.specs.Slots.{IsLooseIn, IsLooseOf, IsReadable, its_value}
use Rattle.seize_calls.specs.declared.slot.Loose.{Loose}
use Rattle.seize_parts.specs.Blocks.{HasContent, IsNamed, LooseComesOut, content}
use Rattle.seize.specs.Takens.{TakesOut, taken_content}
use Rattle.seize.specs.Looks.{with_link}
use Rattle.seize_parts.specs.Places.{IsUnmoved}
use Rattle.seize_parts.specs.Reservations.{IsUnitIn}
use Rattle.seize_parts.specs.declared.block.owned.Owned.{Owned}
use Rattle.seize.specs.declared.block.taken.Taken.{Taken}
use Rattle.seize.proofs.Facts.{content_once}
use Rattle.seize_guards.proofs.Found.{none_held}
use Rattle.seize_guards.proofs.Readable.{swapped_readable}
use Rattle.seize_parts.proofs.Stilled.{alone_from, still_learned}

module _ (n : Name) (s : ℕ) (unit : Activation) (seen : Seen) (its : IsUnitIn n s unit seen) (number : ℕ) (link : Link) (at : link_number link ≡ number) (pass learned : Pass) (sole : IsSole pass.id) (learns : Learns pass seen learned) where
  sole_learned : IsSole learned.id
  sole_learned = subst IsSole (sym learns.0.1) sole

  -- an exchange
  pub alone_swaps : (key : MaybeKey) (ready : Pass) (key' : MaybeKey) (pass' : Pass) (v : ℕ) → ready ≡ learned → (t : Swaps link unit key ready key' pass' v)
      → MakesAlone pass pass' (ExchangeLink s number (Swap (value_held key))) (Held (held_before t.0))
  alone_swaps key ready key' pass' v same t =
      subst (λ (k : ℕ × ℕ). MakesAlone pass pass' (ExchangeLink k.0 k.1 (Swap (value_held key))) (Held (held_before t.0))) (λ j. (its.slot j, at j))
      (alone_from sole (subst (IsUnmoved pass) (sym same) (still_learned seen learns)) (swapped_alone (subst (λ (p : Pass). IsSole p.id) (sym same) sole_learned) t.0))

-- What came out is what the link held, of these words, and can be read; or there is neither.
pub came_out : {T : Type 0} (words : Words T) (link : Link) (a : Activation) (key : MaybeKey) (pass : Pass) (key' : MaybeKey) (pass' : Pass) (v : ℕ) (t : Swaps link a key pass key' pass' v) (result : Option Loose)
    → key.keys.name ≡ words_book words → IfSome result (λ loose. IsLooseIn key' loose) → IfNone result (v ≡ 0)
    → LooseComesOut (held_before t.0) result × IfSome result (λ loose. IsLooseOf words loose × IsReadable loose)
came_out words link a key pass key' pass' v t (Some loose) its some none =
    (sym t.2 ∙ some.1, ((some.0 ∙ t.1 ∙ its, some.2), swapped_readable link a key pass key' pass' v loose t some))
came_out words link a key pass key' pass' v t None its some none = (none_held (held_before t.0) (sym t.0.found ∙ none), tt)

-- What the hands hold, by values: `value` is what the model says that the link held.
module _ {T : Type 0} (c : Coded T) (held : Option ℕ) (value : Option T) (is : IsHeldAs c.code held value) where
  pub one_value : (v : ℕ) (x : T) → held ≡ Some v → HasContent c.code v x → value ≡ Some x
  one_value v x same has = go value (subst (λ (o : Option ℕ). IsHeldAs c.code o value) same is)
    where
      go : (o : Option T) → IsHeldAs c.code (Some v) o → o ≡ Some x
      go (Some y) lent = ap Some (content_once c v y x lent has)
      go None lent = absurd lent

  pub no_value : held ≡ None → value ≡ None
  no_value same = go value (subst (λ (o : Option ℕ). IsHeldAs c.code o value) same is)
    where
      go : (o : Option T) → IsHeldAs c.code None o → o ≡ None
      go (Some y) lent = absurd lent
      go None lent = refl

  -- what an exchange took out has a content
  pub out_has : (loose : Option Loose) → LooseComesOut held loose → IfSome loose (λ l. (x : T) × HasContent c.code (its_value l) x)
  out_has (Some loose) out = go value (subst (λ (o : Option ℕ). IsHeldAs c.code o value) out is)
    where
      go : (o : Option T) → IsHeldAs c.code (Some (its_value loose)) o → (x : T) × HasContent c.code (its_value loose) x
      go (Some y) lent = (y, lent)
      go None lent = absurd lent
  out_has None out = tt

  -- and that is it
  pub out_value : (loose : Option Loose) (taken : Option (Taken T)) → LooseComesOut held loose → TakesOut c.code loose taken → option_map taken_content taken ≡ value
  out_value (Some loose) (Some taken) out takes =
      sym (one_value (its_value loose) (taken_content taken) out (subst (λ (v : ℕ). HasContent c.code v (taken_content taken)) takes.1 takes.0.1))
  out_value None None out takes = sym (no_value out)
  out_value (Some loose) None out takes = absurd takes
  out_value None (Some taken) out takes = absurd takes

-- What goes in, by its content.
pub named_value : {T : Type 0} (code : T → Gv) (new : Option (Owned T)) (number : Option ℕ) → IsNamed code new number → IsHeldAs code number (option_map content new)
named_value code (Some owned) (Some v) named = named
named_value code None None named = tt
named_value code (Some owned) None named = absurd named
named_value code None (Some v) named = absurd named

-- Where one list shows two states that differ in what a link holds alone, they are one.
pub one_link : {T : Type 0} (c : Coded T) (st : ModelState T ℕ) (l : ℕ) → l < length st.links → (x y : Option T) {names names' : List (ℕ × T)} {kinds kinds' : List (ℕ × ℕ)} {n : Name} {seen : List Entry}
    → Holds c.code (with_link st l x) names kinds n seen → Holds c.code (with_link st l y) names' kinds' n seen → x ≡ y
one_link {T} c st l less x y {names} {names'} {kinds} {kinds'} {n} {seen} one other =
    sym (get_or-set_same st.links l x None less)
    ∙ held_once c (held_at (after (start n) seen) l) (model_link (with_link st l x) l) (model_link (with_link st l y) l)
    (link_held c (with_link st l x) names kinds n seen l one) (link_held c (with_link st l y) names' kinds' n seen l other)
    ∙ get_or-set_same st.links l y None less
